-- A campaign's passes over the whole shelf are its passes over what waits for it. Assumes nothing.
use mathlib.Core.Path.{◌≡◌, refl, ap, ◌∙◌}
use mathlib.Core.Bool.{Bool, true, cond, ◌&&◌, ◌||◌}
use mathlib.Core.List.{List, [], ◌∷◌}
use Prim.Native.Nat.{ℕ, zero, suc}
use native.Mathlib.Omega.{arith}
use lib.ListN.{length}
use Rattle.base.specs.Bytes.{Bytes, same_bytes}
use Rattle.base.specs.List.{some_in, passing_in}
use Rattle.base.proofs.Tests.{by_test}
use Rattle.base.proofs.Selection.{length_those, count_in_le}
use Rattle.shelf.specs.Layout.{Waiting}
use Rattle.shelf.specs.Rules.{is_for, waits}
use Rattle.admission.specs.Admission.{admission}
use Rattle.campaigns.specs.Passes.{PassResult, waits_on, and_then, admits, pass, passes, settled}
use Rattle.campaigns.specs.Promises.{only}
use Rattle.campaigns.proofs.Inductions.{pass_by, passes_enough}

-- what a campaign sees of what passes leave
abbrev pub seen : ℕ → PassResult → PassResult
seen c p = record { table = p.table; waiting = only c p.waiting; tries = p.tries }

pub waits_only : (c : ℕ) (b : Bytes) (ws : List Waiting) → waits c b (only c ws) ≡ waits c b ws
unfolding waits some_in passing_in
waits_only c b [] = refl
waits_only c b (w ∷ ws) =
    by_test (is_for c w)
    (λ y. rw (y, y) (ap (λ (x : Bool). (true && same_bytes w.block b) || x) (waits_only c b ws)))
    (λ n. rw n (waits_only c b ws))

module _ (digest : Bytes → Bytes) (c : ℕ) where
  pass_only : (ws : List Waiting) (t : Bytes) → pass digest t c (only c ws) ≡ seen c (pass digest t c ws)
  unfolding pass passing_in
  pass_only =
      pass_by digest c (λ t ws p. pass digest t c (only c ws) ≡ seen c p)
      (λ t. refl)
      (λ t w ws p n e. rw n e)
      (λ t w ws p y e. by_test (waits_on (admission digest t w.block 1)) (λ z. rw (y, y, z, y, e)) (λ z. rw (y, y, z, e)))

  passes_only : (n : ℕ) (ws : List Waiting) (t : Bytes) → passes digest n t c (only c ws) ≡ seen c (passes digest n t c ws)
  unfolding passes
  passes_only zero ws t = refl
  passes_only (suc n) ws t =
      let p = pass digest t c ws in
      let further : PassResult → PassResult = λ q. cond (admits q.tries) (and_then q (passes digest n q.table c q.waiting)) q in
      ap further (pass_only ws t)
      ∙ by_test (admits p.tries) (λ y. rw y (ap (and_then p) (passes_only n p.waiting p.table))) (λ y. rw y)

  pub settled_only : (t : Bytes) (ws : List Waiting) → settled digest t c (only c ws) ≡ seen c (settled digest t c ws)
  unfolding settled
  settled_only t ws =
      passes_enough digest c (suc (length (only c ws))) (suc (length ws)) t (only c ws) (omega arith)
      (omega (arith, length_those (is_for c) ws, count_in_le (is_for c) ws)) ∙ passes_only (suc (length ws)) ws t
