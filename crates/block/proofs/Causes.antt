-- Each refusal of the reader comes under its cause and under no other, with the index of the first such entry. Assumes nothing.
use mathlib.Core.Path.{◌≡◌, refl, sym, ◌∙◌, subst}
use mathlib.Core.Bool.{Bool, true, false}
use mathlib.Core.Logic.Iff
use mathlib.Core.Logic.{◌↔◌, inl, inr}
use mathlib.Core.List.{List, [], ◌∷◌}
use Prim.Native.Nat.{ℕ, ◌<◌}
use native.Mathlib.Omega.{arith}
use lib.Dec.{eqb, ltb}
use lib.ListN.{drop}
use borrow.Author.Tests.{ltb-true, lt-ltb, eqb-true, eq-eqb, ne_eqb}
use Rattle.base.specs.Search.{any_below, First}
use Rattle.base.specs.List.{some_in}
use Rattle.base.specs.Bytes.{Bytes, same_bytes}
use Rattle.base.proofs.Tests.{by_test, or_cases, or_true}
use Rattle.base.proofs.Search.{any_true, any_true_at, any_such, first_such}
use Rattle.base.proofs.Bytes.{same_equal, equal_same}
use Rattle.answer.specs.Checks.{Check, check, check_none, refused, answer_to}
use Rattle.answer.specs.Promises.{FirstHold, elsewhere, different, Decided}
use Rattle.answer.proofs.Checks.{value_of, first_holds, first_fails, valued_only, no_value, absent, present, missed}
use Rattle.answer.proofs.Promises.{succeeds, first_refused, decided}
use Rattle.setup.specs.Setup.{max_slot}
use Rattle.block.specs.Layout.{reference_count, request_count, reference_list, request_list, reference_at, request_at}
use Rattle.block.specs.Reading.{well_shaped, bad_request_at, slot_repeated_at, reference_repeated_at, fields_of, each_entry, reading, read_answer}
use Rattle.block.specs.Promises.{Shaped, BadIn, BadAt, SlotRepeatedIn, SlotRepeatedAt, RepeatedAt, GoodRequests, DifferentSlots, answer, Causes}
use Rattle.block.specs.Steps.{from_references, from_slots}
use Rattle.block.specs.Reading.{Reading}
use Rattle.std.specs.Prelude.{Ok}
use Rattle.std.specs.Prelude.{Err}
use Rattle.answer.specs.declared.Refusal.{Refusal}
use Rattle.answer.specs.declared.Refusal.TheVariants.{BadRequest, RepeatedSlot, RepeatedReference}
use Rattle.block.proofs.Shape.{shaped, well_shaped_lem}

-- ---- a check of entries, in reading and in a list of checks

entries : (n : ℕ) (refusal : ℕ → Refusal) (rest : Reading) (fails : ℕ → Bool) (count : ℕ) (cs : List Check) → ((i : ℕ) → read_answer (Err (refusal i)) ≡ refused n i)
    → read_answer rest ≡ answer_to cs 0 → read_answer (each_entry fails count refusal rest) ≡ answer_to (check_none n fails count ∷ cs) 0
entries n refusal rest fails count cs named e =
    by_test (any_below fails count)
    (λ y. rw y (named _) ∙ sym (first_fails _ cs 0 (rw y)))
    (λ f. rw f e ∙ sym (first_holds _ cs 0 (rw f)))

-- ---- what the tests of checks 6, 18 and 7 say

module _ (list : Bytes) (count i : ℕ) where
  abbrev slot : ℕ
  slot = (request_at list i).slot

  abbrev number : ℕ
  number = (request_at list i).number

  pub bad_means : ((i < count) × (bad_request_at list i ≡ true)) ↔ BadIn list count i
  bad_means = (
    λ p.
        record {
          below = p.0;
          bad = elim (or_cases (ltb max_slot slot) (eqb number 0) p.1) [ inl y ↦ inl (ltb-true max_slot slot y) | inr y ↦ inr (eqb-true number 0 y) ];
        },
    λ r. (r.below, elim r.bad [ inl h ↦ rw (lt-ltb max_slot slot h) | inr e ↦ rw (eq-eqb number 0 e) (or_true (ltb max_slot slot)) ]),
  )

  -- request j has this slot
  abbrev has_slot : ℕ → Bool
  has_slot j = eqb (request_at list j).slot slot

  pub slot_repeated_means : ((i < count) × (slot_repeated_at list i ≡ true)) ↔ SlotRepeatedIn list count i
  slot_repeated_means = (
    λ p. let w = any_true_at has_slot i p.1 in record { below = p.0; earlier = w.0; is_earlier = w.1; same = eqb-true _ _ w.2 },
    λ r. (r.below, any_true has_slot i r.earlier r.is_earlier (eq-eqb _ _ r.same)),
  )

module _ (b : Bytes) where
  -- reference j is reference i
  abbrev is_same : ℕ → ℕ → Bool
  is_same i j = same_bytes (reference_at (reference_list b) j) (reference_at (reference_list b) i)

  repeated_means : (i : ℕ) → ((i < reference_count b) × (reference_repeated_at (reference_list b) i ≡ true)) ↔ RepeatedAt b i
  repeated_means i = (
    λ p. let w = any_true_at (is_same i) i p.1 in record { below = p.0; earlier = w.0; is_earlier = w.1; same = same_equal _ _ w.2 },
    λ r. (r.below, any_true (is_same i) i r.earlier r.is_earlier (equal_same _ _ r.same)),
  )

  -- ---- the checks of reading as a list

  abbrev bad : ℕ → Bool
  bad = bad_request_at (request_list b)

  abbrev slot_repeated : ℕ → Bool
  slot_repeated = slot_repeated_at (request_list b)

  abbrev repeated : ℕ → Bool
  repeated = reference_repeated_at (reference_list b)

  some_bad : (any_below bad (request_count b) ≡ true) ↔ ((i : ℕ) × BadAt b i)
  some_bad = any_such bad (request_count b) (BadAt b) (bad_means (request_list b) (request_count b))

  some_slot_repeated : (any_below slot_repeated (request_count b) ≡ true) ↔ ((i : ℕ) × SlotRepeatedAt b i)
  some_slot_repeated = any_such slot_repeated (request_count b) (SlotRepeatedAt b) (slot_repeated_means (request_list b) (request_count b))

  some_repeated : (any_below repeated (reference_count b) ≡ true) ↔ ((i : ℕ) × RepeatedAt b i)
  some_repeated = any_such repeated (reference_count b) (RepeatedAt b) repeated_means

  abbrev pub checks : List Check
  checks =
      check 3 (well_shaped b) 0
      ∷ check_none 6 bad (request_count b)
      ∷ check_none 18 slot_repeated (request_count b)
      ∷ check_none 7 repeated (reference_count b)
      ∷ []

  misshapen : well_shaped b ≡ false → answer b ≡ refused 3 0
  unfolding reading
  misshapen f = rw f

  well_shaped_answer : well_shaped b ≡ true → answer b ≡ answer_to (drop 1 checks) 0
  unfolding reading
  well_shaped_answer y =
      rw y
      (entries 6 BadRequest (from_slots b) _ _ _ (λ i. refl)
      (entries 18 RepeatedSlot (from_references b) _ _ _ (λ i. refl)
      (entries 7 RepeatedReference (Ok (fields_of b)) _ _ _ (λ i. refl) (sym (succeeds [] 0 tt)))))

  pub by_checks : answer b ≡ answer_to checks 0
  by_checks = by_test (well_shaped b) (λ y. well_shaped_answer y ∙ sym (first_holds _ _ 0 y)) (λ f. misshapen f ∙ sym (first_fails _ _ 0 f))

  pub told : Decided (answer b) checks 0
  unfolding different elsewhere
  told = rw by_checks (decided checks 0 refl)

  shape : FirstHold checks 1 ↔ Shaped b
  shape = (λ p. shaped b p.1, λ s. (tt, well_shaped_lem b s))

  good : FirstHold checks 2 ↔ GoodRequests b
  good =
      let here = absent _ _ some_bad in
      (λ p. record { shape = shape.0 p.0; none_bad = here.0 p.1 }, λ g. (shape.1 g.shape, here.1 g.none_bad))

  slots : FirstHold checks 3 ↔ DifferentSlots b
  slots =
      let here = absent _ _ some_slot_repeated in
      (λ p. record { good = good.0 p.0; none_repeated = here.0 p.1 }, λ d. (good.1 d.good, here.1 d.none_repeated))

  six : ((answer b).refusal ≡ 6) ↔ (Shaped b × ((i : ℕ) × BadAt b i))
  six = Iff.trans (told.refused 1 (omega arith)) (Iff.and shape (present _ _ some_bad))

  eighteen : ((answer b).refusal ≡ 18) ↔ (GoodRequests b × ((i : ℕ) × SlotRepeatedAt b i))
  eighteen = Iff.trans (told.refused 2 (omega arith)) (Iff.and good (present _ _ some_slot_repeated))

  seven : ((answer b).refusal ≡ 7) ↔ (DifferentSlots b × ((i : ℕ) × RepeatedAt b i))
  seven = Iff.trans (told.refused 3 (omega arith)) (Iff.and slots (present _ _ some_repeated))

  pub causes : Causes b
  unfolding valued_only some_in
  causes =
      record {
        three = Iff.trans (first_refused told) (missed _ _ (shaped b, well_shaped_lem b));
        six = six;
        eighteen = eighteen;
        seven = seven;
        none = Iff.trans told.none (Iff.and slots (absent _ _ some_repeated));
        first_bad = λ e.
            subst (First (BadAt b)) (sym (told.valued 1 (omega arith) e))
            (first_such bad (request_count b) (BadAt b) (bad_means (request_list b) (request_count b)) (some_bad.1 (six.0 e).1));
        first_slot = λ e.
            subst (First (SlotRepeatedAt b)) (sym (told.valued 2 (omega arith) e))
            (first_such slot_repeated (request_count b) (SlotRepeatedAt b) (slot_repeated_means (request_list b) (request_count b)) (some_slot_repeated.1 (eighteen.0 e).1));
        first_repeated = λ e.
            subst (First (RepeatedAt b)) (sym (told.valued 3 (omega arith) e))
            (first_such repeated (reference_count b) (RepeatedAt b) repeated_means (some_repeated.1 (seven.0 e).1));
        no_value = λ k m l. value_of by_checks ∙ no_value (6 ∷ 18 ∷ 7 ∷ []) checks 0 refl (rw (← by_checks, ne_eqb _ 6 k, ne_eqb _ 18 m, ne_eqb _ 7 l));
      }
