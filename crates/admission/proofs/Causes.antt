-- Each refusal of admission comes under its cause and under no other, with the value that document 01 names, and a block is admitted where every
-- check holds. Assumes nothing.
use mathlib.Core.Path.{◌≡◌, refl, sym, ap, ◌∙◌, subst}
use mathlib.Core.Bool.{Bool, true, false}
use mathlib.Core.Logic.Iff
use mathlib.Core.Logic.{◌↔◌, ◌≢◌, ◌⊎◌, inl, inr}
use mathlib.Core.List.{List, [], ◌∷◌, ◌++◌}
use Prim.Native.Nat.{ℕ, ◌+◌, ◌<◌}
use native.Mathlib.Omega.{arith}
use lib.Dec.{eqb, ltb}
use lib.ListN.{length, take, drop}
use borrow.Author.Tests.{eq-eqb, ne_eqb, eqb-true, eqb-false, lt-ltb, le-ltb, ltb-true, ltb-false}
use Rattle.base.specs.Search.{first_below, any_below, First}
use Rattle.base.specs.List.{some_in}
use Rattle.base.specs.Bytes.{Bytes}
use Rattle.base.proofs.Tests.{by_test}
use Rattle.base.proofs.Search.{any_such, first_such}
use Rattle.base.proofs.Bytes.{same_equal, equal_same}
use Rattle.answer.specs.declared.Answer.{Answer}
use Rattle.answer.specs.Checks.{Check, check, answer_to}
use Rattle.answer.specs.Promises.{FirstHold, elsewhere, different, Decided}
use Rattle.answer.proofs.Checks.{number_of, value_of, first_holds, first_fails, same_rest, valued_only, no_value, absent, present, missed}
use Rattle.answer.proofs.Promises.{both_hold, decides, first_refused, second_refused, as_one, in_line, handed_on, decided}
use Rattle.setup.specs.Setup.{Setup}
use Rattle.block.specs.Layout.{site_of, reference_count, reference_list, reference_at}
use Rattle.block.specs.Reading.{well_shaped, fields_of, reading, read_answer}
use Rattle.std.specs.Prelude.{Ok}
use Rattle.block.proofs.Shape.{shaped, well_shaped_lem}
use Rattle.block.proofs.Acceptance.{number_accepted}
use Rattle.block.proofs.Causes as reader
use Rattle.table.specs.View.{max_places, View}
use Rattle.table.specs.Layout.{setup_of, count_of, view_of}
use Rattle.table.specs.Rules.{has_digest, place_of}
use Rattle.table.specs.Form.{in_form}
use Rattle.table.proofs.InForm.{table_form}
use Rattle.admission.specs.Admission.{missing, held_checks, admission_checks, admission}
use Rattle.admission.specs.Promises.{BlockShaped, OfSite, Vouched, Readable, HeldAt, DigestHeld, MissingAt, ReferenceMissing, New, Linked, Parented, answer, Causes}

-- ---- what each check says

module _ (t d : Bytes) where
  abbrev holds : ℕ → Bool
  holds = has_digest (view_of t) d

  holds_means : (place : ℕ) → ((place < count_of t) × (holds place ≡ true)) ↔ HeldAt t d place
  holds_means place = (λ p. (p.0, same_equal _ _ p.1), λ r. (r.0, equal_same _ _ r.1))

  digest_held : (any_below holds (count_of t) ≡ true) ↔ DigestHeld t d
  digest_held = any_such holds (count_of t) (HeldAt t d) holds_means

  held_first : DigestHeld t d → First (HeldAt t d) (place_of (view_of t) (count_of t) d)
  held_first h = first_such holds (count_of t) (HeldAt t d) holds_means (digest_held.1 h)

module _ (t b : Bytes) where
  missing_means : (i : ℕ) → ((i < reference_count b) × (missing (view_of t) b i ≡ true)) ↔ MissingAt t b i
  missing_means i =
      let here = absent _ _ (digest_held t (reference_at (reference_list b) i)) in
      (λ p. (p.0, here.0 p.1), λ r. (r.0, here.1 r.1))

  reference_missing : (any_below (missing (view_of t) b) (reference_count b) ≡ true) ↔ ReferenceMissing t b
  reference_missing = any_such (missing (view_of t) b) (reference_count b) (MissingAt t b) missing_means

  missing_first : ReferenceMissing t b → First (MissingAt t b) (first_below (missing (view_of t) b) (reference_count b))
  missing_first m = first_such (missing (view_of t) b) (reference_count b) (MissingAt t b) missing_means (reference_missing.1 m)

-- a table in form that has no room holds 64
full : (t : Bytes) → in_form t ≡ true → (ltb (count_of t) max_places ≡ false) ↔ (count_of t ≡ max_places)
full t f = (λ e. omega (arith, ltb-false (count_of t) max_places e, (table_form t f).held.fits), λ e. le-ltb (count_of t) max_places (omega arith))

-- ---- the checks in their order, each by itself

-- the reader's checks after 3
abbrev own_checks : Bytes → List Check
own_checks b = drop 1 (reader.checks b)

module _ (digest : Bytes → Bytes) (formed : Bool) (s : Setup) (v : View) (b : Bytes) (verdict value : ℕ) where
  abbrev held : List Check
  held = held_checks digest v b

  abbrev pub checks : List Check
  checks = check 2 formed 0 ∷ check 3 (well_shaped b) 0 ∷ check 4 (ltb (site_of b) s.sites) 0 ∷ check 5 (eqb verdict 1) 0 ∷ (own_checks b ++ held)

  pub by_checks : answer_to (admission_checks digest formed s v b verdict) value ≡ answer_to checks value
  unfolding different elsewhere
  by_checks =
      same_rest _ _ _ _ (by_test (well_shaped b)
      (λ y.
      let own : read_answer (reading b) ≡ answer_to (own_checks b) 0 = reader.by_checks b ∙ first_holds _ _ 0 y in
      same_rest _ _ _ _ (same_rest _ _ _ _ (same_rest _ _ _ _ (ap (λ (a : Answer). answer_to (as_one a ∷ held) value) own ∙ in_line (own_checks b) held value refl))))
      (λ f. first_fails _ _ _ f ∙ sym (first_fails _ _ _ f)))

  pub decided_by : Decided (answer_to (admission_checks digest formed s v b verdict) value) checks value
  unfolding different elsewhere
  decided_by = rw by_checks (decided checks value refl)

module _ (digest : Bytes → Bytes) (t b : Bytes) (verdict : ℕ) where
  -- the reader's answer
  abbrev read : Answer
  read = read_answer (reading b)

  abbrev all : List Check
  all = checks digest (in_form t) (setup_of t) (view_of t) b verdict (count_of t)

  told : Decided (answer digest t b verdict) all (count_of t)
  unfolding admission
  told = decided_by digest (in_form t) (setup_of t) (view_of t) b verdict (count_of t)

  -- ---- what the first of them say

  whole : FirstHold all 2 ↔ BlockShaped t b
  whole = (λ p. record { formed = p.0.1; shape = shaped b p.1 }, λ w. ((tt, w.formed), well_shaped_lem b w.shape))

  of_site_lem : FirstHold all 3 ↔ OfSite t b
  of_site_lem = (λ p. record { block_shaped = whole.0 p.0; site = ltb-true _ _ p.1 }, λ o. (whole.1 o.block_shaped, lt-ltb _ _ o.site))

  vouched : FirstHold all 4 ↔ Vouched t b verdict
  vouched = (λ p. record { of_site = of_site_lem.0 p.0; link = eqb-true _ _ p.1 }, λ v. (of_site_lem.1 v.of_site, eq-eqb _ _ v.link))

  -- the checks before the reader's, the reader's, those on what is held, and the place of the first of these
  abbrev front : List Check
  front = take 4 all

  abbrev own : List Check
  own = own_checks b

  abbrev on_held : List Check
  on_held = held_checks digest (view_of t) b

  abbrev behind : ℕ
  behind = 4 + length own

  -- the reader accepts where its checks hold, of which 3 is admission's too
  accepted : ((well_shaped b ≡ true) × FirstHold own (length own)) ↔ (reading b ≡ Ok (fields_of b))
  accepted =
      let shape_first = both_hold (take 1 (reader.checks b)) own (length own) (1 + length own) refl in
      Iff.trans
      (λ p. (reader.told b).none.1 (shape_first.1 ((tt, p.0), p.1)), λ e. let p = shape_first.0 ((reader.told b).none.0 e) in (p.0.1, p.1))
      (number_accepted b)

  readable : FirstHold all behind ↔ Readable t b verdict
  readable =
      let halves = both_hold front (own ++ on_held) (length own) behind refl in
      let rest = both_hold own on_held 0 (length own) refl in (
        λ p.
            let q = halves.0 p in
            let v = vouched.0 q.0 in
            let o = v.of_site in
            record { formed = o.block_shaped.formed; site = o.site; link = v.link; accepted = accepted.0 (well_shaped_lem b o.block_shaped.shape, (rest.0 q.1).0) },
        λ r.
            let q = accepted.1 r.accepted in
            let w : BlockShaped t b = record { formed = r.formed; shape = shaped b q.0 } in
            halves.1 (vouched.1 (record { of_site = record { block_shaped = w; site = r.site }; link = r.link }), rest.1 (q.1, tt)),
      )

  new : FirstHold all (behind + 1) ↔ New digest t b verdict
  new =
      let here = absent _ _ (digest_held t (digest b)) in
      (λ p. record { readable = readable.0 p.0; new = here.0 p.1 }, λ n. (readable.1 n.readable, here.1 n.new))

  linked : FirstHold all (behind + 2) ↔ Linked digest t b verdict
  linked =
      let here = absent _ _ (reference_missing t b) in
      (λ p. record { is_new = new.0 p.0; found = here.0 p.1 }, λ l. (new.1 l.is_new, here.1 l.found))

  parented : FirstHold all (behind + 3) ↔ Parented digest t b verdict
  parented = (λ p. record { linked = linked.0 p.0; parent = p.1 }, λ q. (linked.1 q.linked, q.parent))

  -- ---- each number

  abbrev number : ℕ
  number = (answer digest t b verdict).refusal

  abbrev value : ℕ
  value = (answer digest t b verdict).value

  -- a number that only the reader has is handed on from it, with its value
  module _ (n : ℕ) (f : elsewhere n front ≡ true) (h : elsewhere n on_held ≡ true) where
    of_reader : number ≡ n → FirstHold all 4 × (answer digest t b verdict ≡ read)
    unfolding admission
    of_reader = handed_on front on_held read (count_of t) n f h

    by_reader : n ≢ 0 → (number ≡ n) ↔ (Vouched t b verdict × (read.refusal ≡ n))
    unfolding admission
    by_reader z = (
      λ e. let p = of_reader e in (vouched.0 p.0, sym (number_of p.1) ∙ e),
      λ p. number_of (decides (admission_checks digest (in_form t) (setup_of t) (view_of t) b verdict) (count_of t) 4 (omega arith) (vouched.1 p.0) (ne_eqb _ 0 (λ e. z (sym p.1 ∙ e)))) ∙ p.1,
    )

  eight : (number ≡ 8) ↔ (Readable t b verdict × DigestHeld t (digest b))
  eight = Iff.trans (told.refused behind (omega arith)) (Iff.and readable (present _ _ (digest_held t (digest b))))

  nine : (number ≡ 9) ↔ (New digest t b verdict × ReferenceMissing t b)
  nine = Iff.trans (told.refused (behind + 1) (omega arith)) (Iff.and new (present _ _ (reference_missing t b)))

  pub causes : Causes digest t b verdict
  unfolding admission elsewhere valued_only some_in
  causes =
      record {
        two = first_refused told;
        three = Iff.trans (second_refused told) (Iff.and Iff.rfl (missed _ _ (shaped b, well_shaped_lem b)));
        four = Iff.trans (told.refused 2 (omega arith)) (Iff.and whole (ltb-false _ _, le-ltb _ _));
        five = Iff.trans (told.refused 3 (omega arith)) (Iff.and of_site_lem (eqb-false _ _, ne_eqb _ _));
        six = by_reader 6 refl refl (λ z. omega arith);
        eighteen = by_reader 18 refl refl (λ z. omega arith);
        seven = by_reader 7 refl refl (λ z. omega arith);
        index = index;
        eight = eight;
        held_place = λ e. subst (First (HeldAt t (digest b))) (sym (told.valued behind (omega arith) e)) (held_first t (digest b) (eight.0 e).1);
        nine = nine;
        first_missing = λ e. subst (First (MissingAt t b)) (sym (told.valued (behind + 1) (omega arith) e)) (missing_first t b (nine.0 e).1);
        ten = Iff.trans (told.refused (behind + 2) (omega arith)) (Iff.and linked (missed _ _ Iff.rfl));
        eleven = Iff.trans (told.refused (behind + 3) (omega arith))
            (λ p. let q = parented.0 p.0 in (q, (full t (formed q)).0 p.1), λ p. (parented.1 p.0, (full t (formed p.0)).1 p.1));
        none = Iff.trans told.none (Iff.and parented (ltb-true _ _, lt-ltb _ _));
        place = told.returned;
        no_value = λ z r s q p i. value_of is_decided ∙ no_value (0 ∷ 6 ∷ 18 ∷ 7 ∷ 8 ∷ 9 ∷ []) all (count_of t) refl
            (rw (← is_decided, ne_eqb number 0 z, ne_eqb number 6 r, ne_eqb number 18 s, ne_eqb number 7 q, ne_eqb number 8 p, ne_eqb number 9 i));
      }
    where
      index : (number ≡ 6) ⊎ ((number ≡ 18) ⊎ (number ≡ 7)) → value ≡ read.value
      index (inl e) = value_of (of_reader 6 refl refl e).1
      index (inr (inl e)) = value_of (of_reader 18 refl refl e).1
      index (inr (inr e)) = value_of (of_reader 7 refl refl e).1

      is_decided : answer digest t b verdict ≡ answer_to all (count_of t)
      is_decided = by_checks digest (in_form t) (setup_of t) (view_of t) b verdict (count_of t)

      formed : Parented digest t b verdict → in_form t ≡ true
      formed p = p.linked.is_new.readable.formed
