-- An arrival, seen by its campaign alone: what it leaves of the whole shelf is what it leaves of what waits for the campaign, told whether the
-- shelf takes the block. Assumes nothing.
use mathlib.Core.Path.{◌≡◌, refl, sym, ap, ◌∙◌}
use mathlib.Core.Bool.{Bool, false}
use mathlib.Core.List.{List, [], ◌∷◌}
use Prim.Native.Nat.{ℕ}
use lib.Dec.{eqb}
use borrow.Author.Tests.{eqb-true, eq-eqb}
use Rattle.base.specs.Bytes.{Bytes}
use Rattle.base.specs.List.{passing_in}
use Rattle.base.proofs.Tests.{by_test}
use Rattle.base.proofs.Selection.{those_append}
use Rattle.answer.specs.declared.Answer.{Answer}
use Rattle.shelf.specs.Layout.{Waiting}
use Rattle.shelf.specs.Rules.{is_for, waits}
use Rattle.admission.specs.Admission.{admission, admitted}
use Rattle.campaigns.specs.Arriving.{Arrived, waiting_last, shelved, with_passes, arrived}
use Rattle.campaigns.specs.Promises.{only}
use Rattle.campaigns.proofs.OwnPasses.{waits_only, settled_only}

-- what a campaign sees of what an arrival leaves
abbrev pub seen_by : ℕ → Arrived → Arrived
seen_by c r = record { answer = r.answer; table = r.table; waiting = only c r.waiting; tries = r.tries }

only_behind : (c : ℕ) (b : Bytes) (ws : List Waiting) → only c (waiting_last ws c b) ≡ waiting_last (only c ws) c b
unfolding passing_in
only_behind c b ws = those_append (is_for c) ws (record { campaign = c; block = b } ∷ []) ∙ rw (eq-eqb c c refl)

module _ (digest : Bytes → Bytes) (place : Bool) (t : Bytes) (ws : List Waiting) (c : ℕ) (b : Bytes) (verdict : ℕ) where
  abbrev a : Answer
  a = admission digest t b verdict

  abbrev whole : Arrived
  whole = arrived digest place t ws c b verdict

  -- the shelf took the block
  abbrev pub took : Bool
  took = eqb whole.answer.refusal 9

  module _ (nine : a.refusal ≡ 9) where
    shelved_took : waits c b ws ≡ false → eqb (shelved place a t ws c b).answer.refusal 9 ≡ place
    unfolding shelved
    shelved_took n = by_test place (λ y. rw (n, y) (eq-eqb a.refusal 9 nine)) (λ m. rw (n, m))

    shelved_only : (told : Bool) → (waits c b ws ≡ false → told ≡ place) → shelved told a t (only c ws) c b ≡ seen_by c (shelved place a t ws c b)
    unfolding shelved
    shelved_only told k =
        rw (waits_only c b ws)
        (by_test (waits c b ws)
        (λ y. rw y)
        (λ n.
        let q = k n in
        by_test place
        (λ y. rw (n, q, y) (ap (λ (l : List Waiting). record { answer = a; table = t; waiting = l; tries = [] }) (sym (only_behind c b ws))))
        (λ m. rw (n, q, m))))

  pub arrived_only : arrived digest took t (only c ws) c b verdict ≡ seen_by c whole
  unfolding arrived
  arrived_only =
      by_test (eqb a.refusal 9)
      (λ y. let nine = eqb-true a.refusal 9 y in rw y (shelved_only nine (eqb (shelved place a t ws c b).answer.refusal 9) (shelved_took nine)))
      (λ n.
      by_test (eqb a.refusal 0)
      (λ y. rw (n, y) (ap (with_passes a) (settled_only digest c (admitted digest t b verdict) ws)))
      (λ m. rw (n, m)))
