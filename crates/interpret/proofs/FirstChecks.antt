-- The checks that a call on a place and its records makes first: 2, 12 and 13. Each number comes under its cause and under no other. Assumes
-- nothing.
use mathlib.Core.Path.{◌≡◌}
use mathlib.Core.Bool.{true, false}
use mathlib.Core.Logic.Iff
use mathlib.Core.Logic.{◌↔◌, ◌≢◌}
use mathlib.Core.List.{List, ◌∷◌}
use Prim.Native.Nat.{ℕ, ◌≤◌}
use native.Mathlib.Omega.{arith}
use lib.Dec.{eqb, ltb}
use lib.ListN.{length}
use borrow.Author.Tests.{eq-eqb, ne_eqb, eqb-true, eqb-false, lt-ltb, le-ltb, ltb-true, ltb-false}
use Rattle.base.specs.Bytes.{Bytes}
use Rattle.answer.specs.declared.Answer.{Answer}
use Rattle.answer.specs.Checks.{Check, check}
use Rattle.answer.specs.Promises.{FirstHold, Decided}
use Rattle.answer.proofs.Promises.{first_refused, second_refused}
use Rattle.table.specs.Layout.{count_of}
use Rattle.table.specs.Form.{in_form}
use Rattle.records.specs.Layout.{buffer_size}
use Rattle.interpret.specs.Promises.{RecordsSized, PlaceHeld}

module _ (t : Bytes) (buffer : List ℕ) (i : ℕ) (rest : List Check) where
  abbrev pub checks : List Check
  checks = check 2 (in_form t) 0 ∷ (check 12 (eqb (length buffer) buffer_size) 0 ∷ (check 13 (ltb i (count_of t)) 0 ∷ rest))

  pub whole : FirstHold checks 2 ↔ RecordsSized t buffer
  whole = (λ p. record { formed = p.0.1; size = eqb-true _ _ p.1 }, λ w. ((tt, w.formed), eq-eqb _ _ w.size))

  pub held : FirstHold checks 3 ↔ PlaceHeld t buffer i
  held = (λ p. record { records_sized = whole.0 p.0; below = ltb-true _ _ p.1 }, λ h. (whole.1 h.records_sized, lt-ltb _ _ h.below))

  module _ {a : Answer} (told : Decided a checks 0) where
    pub two : (a.refusal ≡ 2) ↔ (in_form t ≡ false)
    two = first_refused told

    pub twelve : (a.refusal ≡ 12) ↔ ((in_form t ≡ true) × (length buffer ≢ buffer_size))
    twelve = Iff.trans (second_refused told) (Iff.and Iff.rfl (eqb-false _ _, ne_eqb _ _))

    pub thirteen : (a.refusal ≡ 13) ↔ (RecordsSized t buffer × (count_of t ≤ i))
    thirteen = Iff.trans (told.refused 2 (omega arith)) (Iff.and whole (ltb-false _ _, le-ltb _ _))
