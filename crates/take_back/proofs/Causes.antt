-- Each refusal of a taking back comes under its cause and under no other, and there is none where the last place is not interpreted. Assumes
-- nothing.
use mathlib.Core.Path.{◌≡◌, refl}
use mathlib.Core.Bool.{true}
use mathlib.Core.Logic.Iff
use mathlib.Core.Logic.{◌↔◌}
use mathlib.Core.List.{List, []}
use Prim.Native.Nat.{◌-◌}
use native.Mathlib.Omega.{arith}
use lib.Dec.{eqb}
use borrow.Author.Tests.{eqb-true, eq-eqb, lt-ltb, le-ltb, ltb-true, ltb-false}
use Rattle.base.specs.List.{some_in}
use Rattle.base.specs.Bytes.{Bytes}
use Rattle.answer.specs.Checks.{Check}
use Rattle.answer.specs.Promises.{FirstHold, elsewhere, different, Decided}
use Rattle.answer.proofs.Checks.{valued_only, no_value, absent, present}
use Rattle.answer.proofs.Promises.{first_refused, second_refused, decided}
use Rattle.table.specs.Layout.{count_of, mark_at, view_of}
use Rattle.table.specs.Form.{in_form}
use Rattle.take_back.specs.TakingBack.{taking_back_checks, taking_back}
use Rattle.take_back.specs.Promises.{SomeHeld, Causes}

module _ (t : Bytes) where
  abbrev checks : List Check
  checks = taking_back_checks (in_form t) (view_of t)

  told : Decided (taking_back t) checks 0
  unfolding taking_back different elsewhere
  told = decided checks 0 refl

  held : FirstHold checks 2 ↔ SomeHeld t
  held = (λ p. record { formed = p.0.1; some = ltb-true _ _ p.1 }, λ h. ((tt, h.formed), lt-ltb _ _ h.some))

  interpreted_is : (eqb (mark_at t (count_of t - 1)) 1 ≡ true) ↔ (mark_at t (count_of t - 1) ≡ 1)
  interpreted_is = (eqb-true _ 1, eq-eqb _ 1)

  pub causes : Causes t
  unfolding taking_back valued_only some_in
  causes =
      record {
        two = first_refused told;
        thirty_two = Iff.trans (second_refused told)
            (Iff.and Iff.rfl (λ e. (let h = ltb-false 0 (count_of t) e in omega arith), λ z. le-ltb 0 (count_of t) (omega arith)));
        thirty_three = Iff.trans (told.refused 2 (omega arith)) (Iff.and held (present _ _ interpreted_is));
        none = Iff.trans told.none (Iff.and held (absent _ _ interpreted_is));
        no_value = no_value [] checks 0 refl refl;
      }
