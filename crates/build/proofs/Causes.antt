-- Each refusal of building comes under its cause and under no other, with its value, and a block is built where every check holds. Assumes nothing.
use mathlib.Core.Path.{◌≡◌, refl, sym, subst}
use mathlib.Core.Bool.{Bool, true, false}
use mathlib.Core.Logic.Iff
use mathlib.Core.Logic.{◌↔◌, ◌≢◌, ◌⊎◌, inl, inr}
use mathlib.Core.List.{List, [], ◌∷◌}
use Prim.Native.Nat.{ℕ, ◌/◌, ◌%◌, ◌≤◌, ◌<◌}
use native.Mathlib.Omega.{arith}
use lib.Dec.{eqb, leb}
use lib.ListN.{length}
use borrow.Author.Tests.{eq-eqb, ne_eqb, eqb-true, eqb-false, lt-ltb, le-ltb, ltb-true, ltb-false, le-leb, lt-leb, leb-true, leb-false}
use Rattle.base.specs.Search.{any_below, First}
use Rattle.base.specs.List.{some_in}
use Rattle.base.specs.Bytes.{Bytes}
use Rattle.base.proofs.Tests.{and_left, and_right}
use Rattle.base.proofs.Search.{any_such, first_such}
use Rattle.answer.specs.Checks.{Check}
use Rattle.answer.specs.Promises.{FirstHold, elsewhere, different, Decided}
use Rattle.answer.proofs.Checks.{valued_only, no_value as checks_no_value, absent, present, either_fails}
use Rattle.answer.proofs.Promises.{first_refused, second_refused, decided}
use Rattle.block.specs.Limits.{request_size, max_request_list_size}
use Rattle.block.specs.Reading.{bad_request_at, slot_repeated_at}
use Rattle.block.proofs.Causes.{bad_means, slot_repeated_means}
use Rattle.table.specs.Layout.{setup_of, view_of}
use Rattle.table.specs.Form.{in_form}
use Rattle.watch.specs.Promises.{Shares}
use Rattle.watch.proofs.ForkTest.{forked_shares}
use Rattle.build.specs.Building.{max_sequence, next_sequence, well_listed, building_checks, building_from}
use Rattle.build.specs.Promises.{BySite, WholeList, BadRequest, RepeatedSlot, GoodList, Asked, answer, needed, Able, Ended, Lasting}
use Rattle.build.proofs.Sequence.{greatest_own, greatest_before, next_above, some_greatest}

-- ---- what checks 3, 6 and 18 say of the requests

module _ (requests : Bytes) where
  pub well_listed_lem : (well_listed requests ≡ true) ↔ ((length requests ≤ max_request_list_size) × (length requests % request_size ≡ 0))
  unfolding well_listed
  well_listed_lem = (
    λ e. (
      leb-true _ _ (and_left (leb (length requests) max_request_list_size) (eqb (length requests % request_size) 0) e),
      eqb-true _ _ (and_right (leb (length requests) max_request_list_size) (eqb (length requests % request_size) 0) e),
    ),
    λ p. rw (le-leb (length requests) max_request_list_size p.0, eq-eqb (length requests % request_size) 0 p.1),
  )

  ill_listed : (well_listed requests ≡ false) ↔ ((max_request_list_size < length requests) ⊎ (length requests % request_size ≢ 0))
  unfolding well_listed
  ill_listed = either_fails _ _ (leb-false _ _, lt-leb _ _) (eqb-false _ _, ne_eqb _ _)

  abbrev count : ℕ
  count = length requests / request_size

  some_bad : (any_below (bad_request_at requests) count ≡ true) ↔ ((i : ℕ) × BadRequest requests i)
  some_bad = any_such (bad_request_at requests) count (BadRequest requests) (bad_means requests count)

  some_repeated : (any_below (slot_repeated_at requests) count ≡ true) ↔ ((i : ℕ) × RepeatedSlot requests i)
  some_repeated = any_such (slot_repeated_at requests) count (RepeatedSlot requests) (slot_repeated_means requests count)

-- ---- the checks in their order

module _ (seen : ℕ → Bool) (t : Bytes) (p : ℕ) (requests output : Bytes) where
  abbrev number : ℕ
  number = (answer seen t p requests output).refusal

  abbrev size : ℕ
  size = needed seen t p requests output

  abbrev checks : List Check
  checks = building_checks seen (in_form t) (setup_of t) (view_of t) p requests (length output)

  told : Decided (answer seen t p requests output) checks size
  unfolding building_from different elsewhere
  told = decided checks size refl

  -- ---- what the first of them say

  by_site_lem : FirstHold checks 2 ↔ BySite t p
  by_site_lem = (λ q. record { formed = q.0.1; site = ltb-true _ _ q.1 }, λ b. ((tt, b.formed), lt-ltb _ _ b.site))

  listed : FirstHold checks 3 ↔ WholeList t p requests
  listed = (
    λ q. let w = (well_listed_lem requests).0 q.1 in record { by_site = by_site_lem.0 q.0; fits = w.0; whole = w.1 },
    λ l. (by_site_lem.1 l.by_site, (well_listed_lem requests).1 (l.fits, l.whole)),
  )

  good : FirstHold checks 4 ↔ GoodList t p requests
  good =
      let here = absent _ _ (some_bad requests) in
      (λ q. record { whole_list = listed.0 q.0; none_bad = here.0 q.1 }, λ g. (listed.1 g.whole_list, here.1 g.none_bad))

  asked : FirstHold checks 5 ↔ Asked t p requests
  asked =
      let here = absent _ _ (some_repeated requests) in (
        λ q.
            let g = good.0 q.0 in
            let l = g.whole_list in
            record { formed = l.by_site.formed; site = l.by_site.site; fits = l.fits; whole = l.whole; none_bad = g.none_bad; none_repeated = here.0 q.1 },
        λ a.
            let l : WholeList t p requests = record { by_site = record { formed = a.formed; site = a.site }; fits = a.fits; whole = a.whole } in
            (good.1 (record { whole_list = l; none_bad = a.none_bad }), here.1 a.none_repeated),
      )

  able : FirstHold checks 6 ↔ Able seen t p requests output
  able =
      let here = absent _ _ (forked_shares (view_of t) seen p) in
      (λ q. record { asked = asked.0 q.0; unforked = here.0 q.1 }, λ a. (asked.1 a.asked, here.1 a.unforked))

  lasting : FirstHold checks 7 ↔ Lasting seen t p requests output
  lasting = (λ q. record { able = able.0 q.0; within = leb-true _ _ q.1 }, λ l. (able.1 l.able, le-leb _ _ l.within))

  abbrev sequence : ℕ
  sequence = next_sequence seen (view_of t) p

  ended : (leb sequence max_sequence ≡ false) ↔ Ended seen t p
  ended = (
    λ e. let w = some_greatest seen (view_of t) p (λ z. omega (arith, leb-false sequence max_sequence e)) in
        record {
          place = w.0;
          below = w.1;
          own = greatest_own seen (view_of t) p w.0 w.2;
          sequence = omega (arith, greatest_before seen (view_of t) p w.0 w.2, leb-false sequence max_sequence e);
        },
    λ w. lt-leb sequence max_sequence (omega (arith, w.sequence, next_above seen (view_of t) p w.place w.below w.own)),
  )

  -- ---- each number

  pub two : (number ≡ 2) ↔ (in_form t ≡ false)
  two = first_refused told

  pub four : (number ≡ 4) ↔ ((in_form t ≡ true) × ((setup_of t).sites ≤ p))
  four = Iff.trans (second_refused told) (Iff.and Iff.rfl (ltb-false _ _, le-ltb _ _))

  pub three : (number ≡ 3) ↔ (BySite t p × ((max_request_list_size < length requests) ⊎ (length requests % request_size ≢ 0)))
  three = Iff.trans (told.refused 2 (omega arith)) (Iff.and by_site_lem (ill_listed requests))

  pub six : (number ≡ 6) ↔ (WholeList t p requests × ((i : ℕ) × BadRequest requests i))
  six = Iff.trans (told.refused 3 (omega arith)) (Iff.and listed (present _ _ (some_bad requests)))

  pub eighteen : (number ≡ 18) ↔ (GoodList t p requests × ((i : ℕ) × RepeatedSlot requests i))
  eighteen = Iff.trans (told.refused 4 (omega arith)) (Iff.and good (present _ _ (some_repeated requests)))

  pub sixteen : (number ≡ 16) ↔ (Asked t p requests × Shares (view_of t) seen p)
  sixteen = Iff.trans (told.refused 5 (omega arith)) (Iff.and asked (present _ _ (forked_shares (view_of t) seen p)))

  pub thirty : (number ≡ 30) ↔ (Able seen t p requests output × Ended seen t p)
  thirty = Iff.trans (told.refused 6 (omega arith)) (Iff.and able ended)

  pub seventeen : (number ≡ 17) ↔ (Lasting seen t p requests output × (length output < size))
  seventeen = Iff.trans (told.refused 7 (omega arith)) (Iff.and lasting (leb-false _ _, lt-leb _ _))

  pub none : (number ≡ 0) ↔ (Lasting seen t p requests output × (size ≤ length output))
  none = Iff.trans told.none (Iff.and lasting (leb-true _ _, le-leb _ _))

  -- ---- the value beside each

  pub first_bad_lem : number ≡ 6 → First (BadRequest requests) (answer seen t p requests output).value
  first_bad_lem e =
      subst (First (BadRequest requests)) (sym (told.valued 3 (omega arith) e))
      (first_such (bad_request_at requests) (count requests) (BadRequest requests) (bad_means requests (count requests)) ((some_bad requests).1 (six.0 e).1))

  pub first_slot : number ≡ 18 → First (RepeatedSlot requests) (answer seen t p requests output).value
  first_slot e =
      subst (First (RepeatedSlot requests)) (sym (told.valued 4 (omega arith) e))
      (first_such (slot_repeated_at requests) (count requests) (RepeatedSlot requests) (slot_repeated_means requests (count requests)) ((some_repeated requests).1 (eighteen.0 e).1))

  pub value : (number ≡ 0) ⊎ (number ≡ 17) → (answer seen t p requests output).value ≡ size
  value (inl e) = told.returned e
  value (inr e) = told.valued 7 (omega arith) e

  pub no_value : number ≢ 0 → number ≢ 6 → number ≢ 18 → number ≢ 17 → (answer seen t p requests output).value ≡ 0
  unfolding building_from valued_only some_in
  no_value z b r s = checks_no_value (0 ∷ 6 ∷ 18 ∷ 17 ∷ []) checks size refl (rw (ne_eqb number 0 z, ne_eqb number 6 b, ne_eqb number 18 r, ne_eqb number 17 s))
