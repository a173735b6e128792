-- The last pass admits no block: it leaves the table, and each of the campaign's blocks that waits on gets 9 from that table. Assumes nothing.
use mathlib.Core.Path.{◌≡◌, refl, sym, subst}
use mathlib.Core.Bool.{false}
use mathlib.Core.List.Memᴰ
use mathlib.Core.List.{List, ◌∷◌, Memᴰ}
use mathlib.Core.Logic.{inl, inr}
use Prim.Native.Nat.{ℕ}
use lib.Dec.{eqb}
use borrow.Author.Tests.{eqb-true, eqb-false, eq-eqb}
use Rattle.base.specs.Bytes.{Bytes}
use Rattle.base.specs.List.{some_in}
use Rattle.base.proofs.Tests.{by_test, true_not_false, or_left, or_right}
use Rattle.shelf.specs.Layout.{Waiting}
use Rattle.admission.specs.Admission.{admission}
use Rattle.admission.proofs.Effect.{refused_table}
use Rattle.campaigns.specs.Passes.{PassResult, waits_on, admits, pass, settled}
use Rattle.campaigns.proofs.Inductions.{pass_by, settled_by}

module _ (digest : Bytes → Bytes) (c : ℕ) where
  -- the campaign's blocks among these get 9 from the table
  abbrev pub Still : Bytes → List Waiting → Type 0
  Still t ws = (w : Waiting) → Memᴰ w ws → w.campaign ≡ c → (admission digest t w.block 1).refusal ≡ 9

  record Idle (t : Bytes) (p : PassResult) : Type 0 where
    same : p.table ≡ t
    still : Still t p.waiting

  -- one more in front that gets 9 too, if it is the campaign's
  still_more : (t : Bytes) (w : Waiting) (ws : List Waiting) → (w.campaign ≡ c → (admission digest t w.block 1).refusal ≡ 9) → Still t ws → Still t (w ∷ ws)
  still_more t w ws h s v m e = elim (Memᴰ.cases_cons m) [ inl k ↦ rw k (h (rw k at e)) | inr k ↦ s v k e ]

  pass_idle : (ws : List Waiting) (t : Bytes) → admits (pass digest t c ws).tries ≡ false → Idle t (pass digest t c ws)
  unfolding admits some_in
  pass_idle =
      pass_by digest c (λ t ws p. admits p.tries ≡ false → Idle t p)
      (λ t n. record { same = refl; still = λ w m e. absurd (Memᴰ.not-nil m) })
      (λ t w ws p o ih n. let i = ih n in record { same = i.same; still = still_more t w p.waiting (λ e. true_not_false (eq-eqb w.campaign c e) o) i.still })
      (λ t w ws p y ih n.
      let a = admission digest t w.block 1 in
      let same = refused_table digest t w.block 1 (eqb-false a.refusal 0 (or_left (eqb a.refusal 0) (admits p.tries) n)) in
      let i = subst (λ (x : Bytes). Idle x p) same (ih (or_right (eqb a.refusal 0) (admits p.tries) n)) in
      by_test (waits_on a)
      (λ z. rw z (record { same = i.same; still = still_more t w p.waiting (λ e. eqb-true a.refusal 9 z) i.still }))
      (λ z. rw z (record { same = i.same; still = i.still })))

  pub settled_still : (t : Bytes) (ws : List Waiting) → Still (settled digest t c ws).table (settled digest t c ws).waiting
  settled_still =
      settled_by digest c (λ t ws q. Still q.table q.waiting)
      (λ t ws n. let i = pass_idle ws t n in subst (λ (x : Bytes). Still x (pass digest t c ws).waiting) (sym i.same) i.still)
      (λ t ws q e. e)
