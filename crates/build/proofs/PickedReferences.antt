-- What is put for the site's greatest block, and then for the others, are the references of the next block. Assumes nothing.
use mathlib.Core.Path.{◌≡◌, refl, sym, ◌∙◌}
use mathlib.Core.Bool.{Bool, true, false}
use mathlib.Core.Logic.{inl, inr}
use mathlib.Core.List.Memᴰ
use mathlib.Core.List.{List, [], ◌∷◌, ◌++◌}
use Prim.Native.Nat.{ℕ, ◌≤◌, ◌<◌}
use native.Mathlib.Omega.{arith}
use Rattle.std.specs.declared.option.Option.TheVariants.{None, Some}
use Rattle.base.specs.Search.{first_below, any_below, found_below}
use Rattle.base.specs.Mask.{in_mask}
use Rattle.base.specs.Bytes.{Bytes}
use Rattle.base.proofs.Members.{at_member}
use Rattle.base.proofs.Tests.{true_not_false}
use Rattle.base.proofs.Search.{first_passes, any_first, any_false_at, some_found, none_found}
use Rattle.base.proofs.PassingBelow.{passing_none, passing_one, passing_from}
use Rattle.table.specs.View.{max_places}
use Rattle.table.specs.Layout.{count_of, view_of}
use Rattle.table.specs.Form.{in_form}
use Rattle.table.proofs.InForm.{table_form}
use Rattle.watch.specs.Forks.{forked_in}
use Rattle.watch.specs.Promises.{Shares}
use Rattle.watch.proofs.ForkTest.{forked_shares}
use Rattle.build.specs.Building.{is_greatest, is_other, picked}
use Rattle.build.specs.Steps.{greatest_in, others_in, digests_of, with_digests}
use Rattle.build.proofs.Sequence.{greatest_only}
use Rattle.build.proofs.Digests.{AllPlaces, put_append, put_is}

module _ (t : Bytes) (seen p : ℕ) where
  abbrev greatest : List ℕ
  greatest = greatest_in t seen p

  abbrev others : List ℕ
  others = others_in t seen p

  abbrev own : ℕ → Bool
  own = is_greatest (in_mask seen) (view_of t) p

  -- the site has no block, or one is its greatest
  pub nobody : None ≡ found_below own (count_of t) → greatest ≡ []
  nobody e = passing_none own (count_of t) (any_false_at own (count_of t) (none_found own (count_of t) e))

  pub alone : forked_in (view_of t) (in_mask seen) p ≡ false → (place : ℕ) → Some place ≡ found_below own (count_of t) → greatest ≡ place ∷ []
  alone unforked place e = passing_one own (count_of t) place below here (λ i l y. greatest_only (in_mask seen) (view_of t) p apart i place l below y here)
    where
      some : any_below own (count_of t) ≡ true
      some = (some_found own (count_of t) place e).0

      is : place ≡ first_below own (count_of t)
      is = (some_found own (count_of t) place e).1

      below : place < count_of t
      below = omega (arith, is, any_first own (count_of t) some)

      here : own place ≡ true
      here = rw is (first_passes own (count_of t) (any_first own (count_of t) some))

      apart : Shares (view_of t) (in_mask seen) p → ⊥
      apart s = true_not_false ((forked_shares (view_of t) (in_mask seen) p).1 s) unforked

  -- all of them are held
  placed : count_of t ≤ max_places → AllPlaces (greatest ++ others)
  placed few i h = elim (Memᴰ.append_cases greatest (at_member (greatest ++ others) i 0 h)) [
    | inl m ↦ omega (arith, (passing_from own (count_of t) _ m).0)
    | inr m ↦ omega (arith, (passing_from (is_other (in_mask seen) (view_of t) p) (count_of t) _ m).0)
  ]

  -- both put
  pub picked_is : in_form t ≡ true → count_of t ≤ max_places → with_digests t others (with_digests t greatest []) ≡ digests_of t (picked (in_mask seen) (view_of t) p)
  unfolding picked
  picked_is formed few = sym (put_append t greatest others []) ∙ put_is t (table_form t formed).size (greatest ++ others) 0 [] (placed few) (omega arith) refl
