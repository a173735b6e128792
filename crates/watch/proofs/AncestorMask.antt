-- The mask that `ancestors` answers: its bits are the ancestors, its count is theirs, and the place itself is left out. Assumes nothing.
use mathlib.Core.Path.{◌≡◌}
use mathlib.Core.Bool.{true, false}
use mathlib.Core.Logic.{◌↔◌}
use Prim.Native.Nat.{ℕ, ◌^◌, ◌<◌}
use native.Mathlib.Nat.{zero-div}
use native.Mathlib.Omega.{arith}
use lib.Count.{ones, ones_in}
use lib.Dec.{eqb}
use lib.Pow.{pow_pos}
use borrow.Author.Tests.{eq-eqb, eqb-true}
use Rattle.base.specs.Count.{count_below}
use Rattle.base.specs.Mask.{in_mask}
use Rattle.base.specs.Bytes.{Bytes}
use Rattle.base.proofs.Tests.{by_test, not_true_false}
use Rattle.base.proofs.Mask.{mask_below_lem}
use Rattle.base.proofs.Sets.{ones_members}
use Rattle.table.specs.Layout.{count_of, view_of}
use Rattle.table.specs.Form.{in_form}
use Rattle.watch.specs.Ancestors.{is_ancestor, PlaceAncestor, ancestor_mask, ancestor_answer, ancestors}
use Rattle.watch.proofs.InForm.{places_fit, refers_lower}
use Rattle.watch.proofs.AncestorTest.{ancestor_lower, ancestor_bit}
use Rattle.watch.proofs.Causes.{ancestors_found, ancestors_refused, answer_none}

module _ (t : Bytes) (i : ℕ) where
  mask_bit : in_form t ≡ true → i < count_of t → (a : ℕ) → (in_mask (ancestor_mask (view_of t) i) a ≡ true) ↔ PlaceAncestor (view_of t) a i
  mask_bit y h a = ancestor_bit (view_of t) (places_fit t y) (refers_lower t y) i a h

  pub found_bit : in_form t ≡ true → i < count_of t → (a : ℕ) → (in_mask (ancestors t i).places a ≡ true) ↔ PlaceAncestor (view_of t) a i
  found_bit y h a = rw (ancestors_found t i (eq-eqb _ 0 ((answer_none t i).1 (y, h)))) (mask_bit y h a)

  pub found_count : (ancestors t i).count ≡ count_below (in_mask (ancestors t i).places) (count_of t)
  unfolding ones ones_in
  found_count = by_test (eqb (ancestor_answer t i).refusal 0)
      (λ y. rw (ancestors_found t i y) (ones_members (count_of t) (ancestor_mask (view_of t) i) (mask_below_lem (is_ancestor (view_of t) i) (count_of t))))
      (λ n. rw (ancestors_refused t i n) (ones_members (count_of t) 0 (pow_pos (count_of t))))

  pub itself_not : in_mask (ancestors t i).places i ≡ false
  itself_not = by_test (eqb (ancestor_answer t i).refusal 0)
      (λ y. rw (ancestors_found t i y) (not_true_false _ (above ((answer_none t i).0 (eqb-true _ 0 y)))))
      (λ n. rw (ancestors_refused t i n, zero-div (2 ^ i)))
    where
      above : (in_form t ≡ true) × (i < count_of t) → in_mask (ancestor_mask (view_of t) i) i ≡ true → ⊥
      above p e =
          let l : i < i = ancestor_lower (view_of t) (places_fit t p.0) (refers_lower t p.0) i i p.1 ((mask_bit p.0 p.1 i).0 e) in
          omega arith
