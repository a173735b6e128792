-- What passes keep: the rules of the shelf, the blocks' lengths, the places of the campaign, every block as often as it waited, and what waits
-- for other campaigns; and their tries are admissions one after the other. Assumes nothing.
use mathlib.Core.Path.{◌≡◌, refl, sym, ap, ◌∙◌}
use mathlib.Core.Bool.{false, cond}
use mathlib.Core.Logic.{◌≢◌}
use mathlib.Core.List.{List, [], ◌∷◌, ◌++◌, append_assoc}
use Prim.Native.Nat.{ℕ, ◌+◌}
use native.Mathlib.Omega.{arith}
use lib.ListN.{length, length-append}
use borrow.Author.Tests.{eqb-true, ne_eqb}
use Rattle.base.specs.Bytes.{Bytes}
use Rattle.base.specs.List.{count_in, passing_in}
use Rattle.base.proofs.Tests.{by_test}
use Rattle.base.proofs.Selection.{count_in_append}
use Rattle.shelf.specs.Layout.{Waiting}
use Rattle.shelf.specs.Rules.{is_for, holds}
use Rattle.shelf.proofs.InForm.{RulesHold}
use Rattle.shelf.proofs.ShelfLayout.{AllFit}
use Rattle.shelf.proofs.Rules.{ruled_without}
use Rattle.admission.specs.Admission.{admission}
use Rattle.campaigns.specs.Passes.{PassResult, waits_on, outcomes_of, pass, settled}
use Rattle.campaigns.specs.Promises.{only, times_waiting, is_end, times_ended, TriedFrom}
use Rattle.campaigns.proofs.Inductions.{pass_by, settled_by}
use Rattle.campaigns.proofs.Tries.{outcomes_append, tried_append}

module _ (digest : Bytes → Bytes) (c : ℕ) where
  -- ---- the rules are kept

  pass_ruled : (ws : List Waiting) (t : Bytes) (us : List Waiting) → RulesHold (us ++ ws) → RulesHold (us ++ (pass digest t c ws).waiting)
  pass_ruled =
      pass_by digest c (λ t ws p. (us : List Waiting) → RulesHold (us ++ ws) → RulesHold (us ++ p.waiting))
      (λ t us r. r)
      (λ t w ws p n ih us r. on us w ws p ih r)
      (λ t w ws p y ih us r.
      by_test (waits_on (admission digest t w.block 1)) (λ z. rw z (on us w ws p ih r)) (λ z. rw z (ih us (ruled_without us w ws r))))
    where
      on : (us : List Waiting) (w : Waiting) (ws : List Waiting) (p : PassResult) → ((vs : List Waiting) → RulesHold (vs ++ ws) → RulesHold (vs ++ p.waiting))
          → RulesHold (us ++ (w ∷ ws)) → RulesHold (us ++ (w ∷ p.waiting))
      on us w ws p ih r = rw (append_assoc us (w ∷ []) p.waiting) at (ih (us ++ (w ∷ [])) (rw (append_assoc us (w ∷ []) ws) r))

  pub settled_ruled : (t : Bytes) (ws : List Waiting) → RulesHold ws → RulesHold (settled digest t c ws).waiting
  settled_ruled = settled_by digest c (λ t ws q. RulesHold ws → RulesHold q.waiting) (λ t ws n r. pass_ruled ws t [] r) (λ t ws q ih r. ih (pass_ruled ws t [] r))

  -- ---- the blocks that wait on fit

  pub pass_fit : (ws : List Waiting) (t : Bytes) → AllFit ws → AllFit (pass digest t c ws).waiting
  pass_fit =
      pass_by digest c (λ t ws p. AllFit ws → AllFit p.waiting)
      (λ t f. f)
      (λ t w ws p n ih f. (f.0, ih f.1))
      (λ t w ws p y ih f. by_test (waits_on (admission digest t w.block 1)) (λ z. rw z (f.0, ih f.1)) (λ z. rw z (ih f.1)))

  pub settled_fit : (t : Bytes) (ws : List Waiting) → AllFit ws → AllFit (settled digest t c ws).waiting
  settled_fit = settled_by digest c (λ t ws q. AllFit ws → AllFit q.waiting) (λ t ws n f. pass_fit ws t f) (λ t ws q ih f. ih (pass_fit ws t f))

  -- ---- each block that ends held a place of the campaign

  abbrev Places : List Waiting → PassResult → Type 0
  Places ws q = holds c q.waiting + length (outcomes_of q.tries) ≡ holds c ws

  pass_places : (ws : List Waiting) (t : Bytes) → Places ws (pass digest t c ws)
  unfolding holds count_in outcomes_of
  pass_places =
      pass_by digest c (λ t ws p. Places ws p)
      (λ t. refl)
      (λ t w ws p n e. rw n (omega arith))
      (λ t w ws p y e. by_test (waits_on (admission digest t w.block 1)) (λ z. rw (z, y) (omega arith)) (λ z. rw (z, y) (omega arith)))

  pub settled_places : (t : Bytes) (ws : List Waiting) → Places ws (settled digest t c ws)
  settled_places =
      settled_by digest c (λ t ws q. Places ws q)
      (λ t ws n. pass_places ws t)
      (λ t ws q e.
      let p = pass digest t c ws in
      omega (arith, pass_places ws t, e, ap length (outcomes_append p.tries q.tries), length-append (outcomes_of p.tries) (outcomes_of q.tries)))

  -- ---- each block waits on or ends, as often as it waited

  module _ (x : Bytes) where
    abbrev Accounted : List Waiting → PassResult → Type 0
    Accounted ws q = times_waiting c x q.waiting + times_ended x q.tries ≡ times_waiting c x ws

    pass_accounted : (ws : List Waiting) (t : Bytes) → Accounted ws (pass digest t c ws)
    unfolding count_in
    pass_accounted =
        pass_by digest c (λ t ws p. Accounted ws p)
        (λ t. refl)
        (λ t w ws p n e. rw n (omega arith))
        (λ t w ws p y e. by_test (waits_on (admission digest t w.block 1)) (λ z. rw (z, y) (omega arith)) (λ z. rw (z, y) (omega arith)))

    pub settled_accounted : (t : Bytes) (ws : List Waiting) → Accounted ws (settled digest t c ws)
    settled_accounted =
        settled_by digest c (λ t ws q. Accounted ws q)
        (λ t ws n. pass_accounted ws t)
        (λ t ws q e. omega (arith, pass_accounted ws t, e, count_in_append (is_end x) (pass digest t c ws).tries q.tries))

  -- ---- what waits for another campaign stays

  module _ (d : ℕ) (other : c ≢ d) where
    pass_others : (ws : List Waiting) (t : Bytes) → only d (pass digest t c ws).waiting ≡ only d ws
    unfolding passing_in
    pass_others =
        pass_by digest c (λ t ws p. only d p.waiting ≡ only d ws)
        (λ t. refl)
        (λ t w ws p n e. ap (λ (l : List Waiting). cond (is_for d w) (w ∷ l) l) e)
        (λ t w ws p y e.
        let n : is_for d w ≡ false = ne_eqb w.campaign d (λ q. other (sym (eqb-true w.campaign c y) ∙ q)) in
        by_test (waits_on (admission digest t w.block 1)) (λ z. rw (z, n) e) (λ z. rw (z, n) e))

    pub settled_others : (t : Bytes) (ws : List Waiting) → only d (settled digest t c ws).waiting ≡ only d ws
    settled_others = settled_by digest c (λ t ws q. only d q.waiting ≡ only d ws) (λ t ws n. pass_others ws t) (λ t ws q e. e ∙ pass_others ws t)

  -- ---- the tries are admissions one after the other

  pass_tried : (ws : List Waiting) (t : Bytes) → TriedFrom digest t (pass digest t c ws).tries (pass digest t c ws).table
  unfolding TriedFrom
  pass_tried = pass_by digest c (λ t ws p. TriedFrom digest t p.tries p.table) (λ t. refl) (λ t w ws p n e. e) (λ t w ws p y e. (refl, e))

  pub settled_tried : (t : Bytes) (ws : List Waiting) → TriedFrom digest t (settled digest t c ws).tries (settled digest t c ws).table
  settled_tried =
      settled_by digest c (λ t ws q. TriedFrom digest t q.tries q.table)
      (λ t ws n. pass_tried ws t)
      (λ t ws q e. let p = pass digest t c ws in tried_append digest p.tries t p.table q.table q.tries (pass_tried ws t) e)
