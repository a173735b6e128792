-- The table admits its site's next block, unless it is full or holds the block's digest: every reference of the block is held, and where its
-- sequence number is not 0, the greatest block of the site is its one parent. Assumes nothing.
use mathlib.Core.Path.{◌≡◌, refl, sym, ap, ◌∙◌}
use mathlib.Core.Bool.{Bool, true, ◌&&◌}
use mathlib.Core.Logic.{◌≢◌, inl, inr}
use Prim.Native.Nat.{ℕ, ◌+◌, ◌≤◌, ◌<◌}
use native.Mathlib.Decide.{dec_lt}
use native.Mathlib.Omega.{arith}
use lib.Dec.{eqb, ltb}
use lib.ListN.{length}
use borrow.Author.Tests.{eqb-true, eqb-false, eq-eqb, lt-ltb}
use Rattle.base.specs.Bytes.{Bytes, AllBytes}
use Rattle.base.proofs.Tests.{by_test, and_left, and_right}
use Rattle.base.proofs.Count.{count_single}
use Rattle.block.specs.Layout.{Content, site_of, sequence_of, reference_count}
use Rattle.block.specs.Codec.{Reads}
use Rattle.table.specs.View.{max_places, Row, View}
use Rattle.table.specs.Layout.{count_of, digest_at, view_of}
use Rattle.table.specs.Rules.{parent_row, parents, parent_rule}
use Rattle.table.proofs.InForm.{TableForm, table_form, one_place}
use Rattle.admission.specs.Admission.{lists, row_for, admission}
use Rattle.admission.specs.Promises.{Readable, ReferenceMissing, ParentRule, New, Parented, Causes}
use Rattle.admission.proofs.Causes.{causes}
use Rattle.watch.specs.Promises.{Shares}
use Rattle.build.specs.Building.{max_sequence, next_sequence, is_greatest, picked, next_content, next_block}
use Rattle.build.specs.Promises.{Asked, Admissible}
use Rattle.build.proofs.Sequence.{greatest_site, greatest_before, greatest_only}
use Rattle.build.proofs.PickedPlaces.{picked_at, picked_held, picked_own, greatest_first}
use Rattle.build.proofs.NextContent.{as_many_references, reference_at_lem, next_reads}
use Rattle.build.proofs.Fields.{next_site, next_numbered}
use Rattle.build.proofs.ReadBack.{shown_count, shown_reference, listed_reference, reference_listed}

module _ (seen : ℕ → Bool) (t : Bytes) (p : ℕ) (requests : Bytes) (all : AllBytes t) (all_requests : AllBytes requests) (asked : Asked t p requests)
    (last : next_sequence seen (view_of t) p ≤ max_sequence) where
  abbrev v : View
  v = view_of t

  abbrev next : Content
  next = next_content seen v p requests

  abbrev block : Bytes
  block = next_block seen v p requests

  abbrev place : ℕ → ℕ
  place = picked_at seen v p

  form : TableForm t
  form = table_form t asked.formed

  reads : Reads block next
  reads = next_reads seen t p requests all all_requests asked last

  -- ---- what its bytes show

  of_site_lem : site_of block ≡ p
  of_site_lem = next_site seen v p requests

  of_sequence_lem : sequence_of block ≡ next_sequence seen v p
  of_sequence_lem = next_numbered seen v p requests

  count_picked : reference_count block ≡ length (picked seen v p)
  count_picked = shown_count block next reads ∙ as_many_references seen t p requests

  -- a held place that it lists is picked
  listed_picked : (j : ℕ) → j < count_of t → lists block (digest_at t j) ≡ true → (i : ℕ) × (i < length (picked seen v p)) × (place i ≡ j)
  listed_picked j h y =
      let w = listed_reference block next reads (digest_at t j) y in
      let l : w.0 < length (picked seen v p) = omega (arith, w.1, as_many_references seen t p requests) in
      (w.0, l, one_place t asked.formed (place w.0) j (picked_held seen v p w.0 l) h (sym (reference_at_lem seen t p requests w.0 l) ∙ w.2))

  -- ---- what admission checks

  readable : Readable t block 1
  readable = record { formed = asked.formed; site = omega (arith, of_site_lem, asked.site); link = refl; accepted = reads.accepted }

  found : ReferenceMissing t block → ⊥
  found m =
      let l : m.0 < length (picked seen v p) = omega (arith, m.1.0, count_picked) in
      m.1.1 (place m.0, (picked_held seen v p m.0 l, sym (shown_reference block next reads m.0 m.1.0 ∙ reference_at_lem seen t p requests m.0 l)))

  module _ (unforked : Shares v seen p → ⊥) (digest : Bytes → Bytes) where
    abbrev row : Row
    row = row_for digest v block

    -- place j is among the block's references and a parent for it
    abbrev parent_at : ℕ → Bool
    parent_at j = row.refers_to j && parent_row row (v.row j)

    module _ (some : next_sequence seen v p ≢ 0) where
      first : 0 < length (picked seen v p)
      first = (greatest_first seen v p some).0

      first_held : place 0 < count_of t
      first_held = picked_held seen v p 0 first

      first_greatest : is_greatest seen v p (place 0) ≡ true
      first_greatest = (greatest_first seen v p some).1

      -- the greatest block of the site is one
      greatest_parent : parent_at (place 0) ≡ true
      greatest_parent =
          rw (
            lt-ltb (place 0) (count_of t) first_held,
            ← reference_at_lem seen t p requests 0 first,
            reference_listed block next reads 0 (omega (arith, first, as_many_references seen t p requests)),
            eq-eqb (v.row (place 0)).site (site_of block) (greatest_site seen v p (place 0) first_greatest ∙ sym of_site_lem),
            eq-eqb ((v.row (place 0)).sequence + 1) (sequence_of block) (greatest_before seen v p (place 0) first_greatest ∙ sym of_sequence_lem),
          )

      -- and there is no other, for of the site's own blocks only the greatest is picked
      no_other_parent : (j : ℕ) → j < count_of t → parent_at j ≡ true → j ≡ place 0
      no_other_parent j h y =
          let refers = and_left (row.refers_to j) (parent_row row (v.row j)) y in
          let parent = and_right (row.refers_to j) (parent_row row (v.row j)) y in
          let own : (v.row j).site ≡ p = eqb-true _ _ (and_left (eqb (v.row j).site (site_of block)) (eqb ((v.row j).sequence + 1) (sequence_of block)) parent) ∙ of_site_lem in
          let w = listed_picked j h (and_right (ltb j (count_of t)) (lists block (digest_at t j)) refers) in
          let there = picked_own seen v p w.0 w.1 (ap (λ (i : ℕ). (v.row i).site) w.2 ∙ own) in
          sym w.2 ∙ greatest_only seen v p unforked (place w.0) (place 0) (picked_held seen v p w.0 w.1) first_held there first_greatest

      one_parent : parents v (count_of t) row ≡ 1
      unfolding parents
      one_parent = count_single parent_at (count_of t) (place 0) first_held greatest_parent no_other_parent

    parented : ParentRule digest t block
    unfolding parent_rule
    parented = by_test (eqb (sequence_of block) 0)
        (λ z. rw z)
        (λ z. rw (z, one_parent (λ e. eqb-false (sequence_of block) 0 z (of_sequence_lem ∙ e))))

    pub next_admissible : Admissible digest t block
    next_admissible = by_test (eqb number 8) (λ y. let e = eqb-true number 8 y in inr (inr (e, (cause.eight.0 e).1))) (λ n. new (eqb-false number 8 n))
      where
        number : ℕ
        number = (admission digest t block 1).refusal

        cause : Causes digest t block 1
        cause = causes digest t block 1

        new : number ≢ 8 → Admissible digest t block
        new n =
            let is_new : New digest t block 1 = record { readable = readable; new = λ d. n (cause.eight.1 (readable, d)) } in
            let passes : Parented digest t block 1 = record { linked = record { is_new = is_new; found = found }; parent = parented } in
            elim (dec_lt (count_of t) max_places) [
              | yes h ↦ inl (cause.none.1 (passes, h))
              | no h ↦ let full : count_of t ≡ max_places = omega (arith, form.held.fits) in inr (inl (cause.eleven.1 (passes, full), full))
            ]
