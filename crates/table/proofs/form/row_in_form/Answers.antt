-- `row_in_form` meets its contract: one test after the other, each as the definition has it; the parent rule, of those references alone that are
-- of the row's own site. Assumes nothing.
use mathlib.Core.Path.{◌≡◌, refl, sym, ap, ◌∙◌}
use mathlib.Core.Bool.{Bool, true, false, not, ◌&&◌, ◌||◌}
use Prim.Native.Nat.{ℕ, ◌+◌, ◌<◌, ◌/◌, ◌^◌}
use lib.Dec.{eqb, leb, ltb}
use lib.ListN.{get_or}
use lib.Bits.{bit_and}
use lib.Count.{ones}
use borrow.Author.Rules.{rules}
use borrow.Author.Tests.{eq-eqb, ne_eqb, le-leb, lt-leb, lt-ltb}
use Rattle.base.specs.Search.{any_below}
use Rattle.base.specs.Count.{count_below}
use Rattle.base.specs.Mask.{in_mask}
use Rattle.base.specs.Bytes.{Bytes}
use Rattle.base.proofs.Count.{count_same}
use Rattle.base.proofs.Sets.{mask_has, none_from, ones_members, mask_and}
use Rattle.block.specs.Limits.{max_references}
use Rattle.table.specs.View.{max_places}
use Rattle.table.specs.Layout.{retired_offset, site_at, sequence_at, mark_at, references_at, digest_at, row_at, view_of}
use Rattle.table.specs.Rules.{has_digest, parents, parent_rule, parent_in_form, row_in_form}
use Rattle.table.specs.Steps.{row_with, parent_at, site_below, marks_closed}
use Rattle.table.proofs.Views.{same_refl, form_rule_reads}
use Rattle.table.proofs.form.row_in_form.Goals as goal
use Rattle.table.proofs.form.row_in_form.Goals.{After-is_repeated, After-mark_at, After-marks_closed, After-references_at-references, Else-is_repeated, Else-mark_at-gt1, Else-references, Else-references-i-ne0}

abbrev t : Else-mark_at-gt1 → Bytes
t c = c.args.table.now

abbrev i : Else-mark_at-gt1 → ℕ
i c = c.args.i

-- the caller's test, and those that the row passes, as the definition has them
site : (c : After-mark_at) → ltb (site_at c.args.table.now c.args.i) (get_or c.args.table.now 0 0) ≡ true
site c = lt-ltb _ _ c.requires.row_context.site

mark : (c : Else-mark_at-gt1) → leb (mark_at (t c) (i c)) 1 ≡ true
mark c = rw (← c.mark_at.ensures) (le-leb _ 1 c.if-mark_at-gt1.false)

-- the mask of the places referred to has 64 bits
module _ (c : After-references_at-references) where
  abbrev refs : ℕ
  refs = references_at (t (goal.at.After-references_at-references c).Else-mark_at-gt1) (i (goal.at.After-references_at-references c).Else-mark_at-gt1)

  wide : refs < 2 ^ max_places
  wide = let f : c.references_at-references.result < 2 ^ max_places = c.references_at-references.type_inv in rw c.references_at-references.ensures at f

  lower : eqb (refs / 2 ^ i (goal.at.After-references_at-references c).Else-mark_at-gt1) 0 ≡ not (any_below (λ j. leb (i (goal.at.After-references_at-references c).Else-mark_at-gt1) j && in_mask refs j) max_places)
  lower = none_from max_places refs (i (goal.at.After-references_at-references c).Else-mark_at-gt1) wide (search rules)

  few : ones refs ≡ count_below (in_mask refs) max_places
  few = ones_members max_places refs wide

below : (c : Else-references-i-ne0) → not (any_below (λ j. leb (i (goal.at.Else-references-i-ne0 c).Else-mark_at-gt1) j && in_mask (refs (goal.at.Else-references-i-ne0 c).After-references_at-references) j) max_places) ≡ true
below c = sym (lower (goal.at.Else-references-i-ne0 c).After-references_at-references) ∙ rw (← c.references_at-references.ensures) (eq-eqb _ 0 c.if-references-i-ne0.false)

sixteen : (c : Else-references) → leb (count_below (in_mask (refs (goal.at.Else-references c).After-references_at-references)) max_places) max_references ≡ true
sixteen c = rw (← few (goal.at.Else-references c).After-references_at-references, ← c.references_at-references.ensures) (le-leb _ max_references c.if-references.false)

same_place : (c : After-is_repeated) → any_below (has_digest (view_of (t (goal.at.After-is_repeated c).Else-mark_at-gt1)) (digest_at (t (goal.at.After-is_repeated c).Else-mark_at-gt1) (i (goal.at.After-is_repeated c).Else-mark_at-gt1))) (i (goal.at.After-is_repeated c).Else-mark_at-gt1) ≡ c.is_repeated.result
same_place c = sym c.is_repeated.ensures

new : (c : Else-is_repeated) → any_below (has_digest (view_of (t (goal.at.Else-is_repeated c).Else-mark_at-gt1)) (digest_at (t (goal.at.Else-is_repeated c).Else-mark_at-gt1) (i (goal.at.Else-is_repeated c).Else-mark_at-gt1))) (i (goal.at.Else-is_repeated c).Else-mark_at-gt1) ≡ false
new c = same_place (goal.at.Else-is_repeated c).After-is_repeated ∙ c.if-is_repeated.false

closed : (c : After-marks_closed) → marks_closed (t (goal.at.After-marks_closed c).Else-mark_at-gt1) (i (goal.at.After-marks_closed c).Else-mark_at-gt1) (references_at (t (goal.at.After-marks_closed c).Else-mark_at-gt1) (i (goal.at.After-marks_closed c).Else-mark_at-gt1)) ≡ c.marks_closed.result
closed c = rw (← c.references_at-references.ensures) (sym c.marks_closed.ensures)

rule_row : (t : Bytes) (i : ℕ) → parent_in_form (view_of t) i (row_with t i (references_at t i)) ≡ parent_in_form (view_of t) i (row_at t i)
rule_row t i =
    form_rule_reads (view_of t) (view_of t) i (row_with t i (references_at t i)) (row_at t i) refl (same_refl (view_of t) i) refl refl refl (λ j h. refl)

-- a parent is of the row's own site, so of the references those alone count
rule_own : (t : Bytes) (i references : ℕ)
    → parent_in_form (view_of t) i (row_with t i (bit_and references (site_below t (site_at t i) i))) ≡ parent_in_form (view_of t) i (row_with t i references)
unfolding parent_in_form parent_rule parents
rule_own t i references =
    let site = site_at t i in
    let sequence = sequence_at t i in
    let k = i in
    ap (λ (n : ℕ). (eqb sequence 0 || eqb n 1) || ((eqb (get_or t retired_offset 0) 1 && eqb (mark_at t i) 1) && eqb n 0))
    (count_same (λ j. in_mask (bit_and references (site_below t site k)) j && parent_at t site sequence j) (λ j. in_mask references j && parent_at t site sequence j) k
    (λ j h. rw (mask_and references (site_below t site k) j, mask_has (λ j. eqb (site_at t j) site) k j h)
    (asked_twice (in_mask references j) (eqb (site_at t j) site) (eqb (sequence_at t j + 1) sequence))))
  where
    asked_twice : (a b c : Bool) → ((a && b) && (b && c)) ≡ (a && (b && c))
    asked_twice true true c = refl
    asked_twice true false c = refl
    asked_twice false b c = refl

pub returns-then-mark_at-gt1 : goal.returns-then-mark_at-gt1
unfolding row_in_form
returns-then-mark_at-gt1 c = rw (site (goal.at.returns-then-mark_at-gt1 c).After-mark_at, ← c.mark_at.ensures, lt-leb _ 1 c.if-mark_at-gt1.true)

pub returns-then-references-i-ne0 : goal.returns-then-references-i-ne0
unfolding row_in_form
returns-then-references-i-ne0 c =
    rw (site (goal.at.returns-then-references-i-ne0 c).After-mark_at, mark (goal.at.returns-then-references-i-ne0 c).Else-mark_at-gt1, ← lower (goal.at.returns-then-references-i-ne0 c).After-references_at-references, ← c.references_at-references.ensures, ne_eqb _ 0 c.if-references-i-ne0.true)

pub returns-then-references : goal.returns-then-references
unfolding row_in_form
returns-then-references c =
    rw (site (goal.at.returns-then-references c).After-mark_at, mark (goal.at.returns-then-references c).Else-mark_at-gt1, below (goal.at.returns-then-references c).Else-references-i-ne0, ← few (goal.at.returns-then-references c).After-references_at-references, ← c.references_at-references.ensures, lt-leb _ max_references c.if-references.true)

pub returns-then-is_repeated : goal.returns-then-is_repeated
unfolding row_in_form
returns-then-is_repeated c =
    rw (site (goal.at.returns-then-is_repeated c).After-mark_at, mark (goal.at.returns-then-is_repeated c).Else-mark_at-gt1, below (goal.at.returns-then-is_repeated c).Else-references-i-ne0, sixteen (goal.at.returns-then-is_repeated c).Else-references, same_place (goal.at.returns-then-is_repeated c).After-is_repeated, c.if-is_repeated.true)

pub returns-then-not-marks_closed : goal.returns-then-not-marks_closed
unfolding row_in_form
returns-then-not-marks_closed c =
    rw (site (goal.at.returns-then-not-marks_closed c).After-mark_at, mark (goal.at.returns-then-not-marks_closed c).Else-mark_at-gt1, below (goal.at.returns-then-not-marks_closed c).Else-references-i-ne0, sixteen (goal.at.returns-then-not-marks_closed c).Else-references, new (goal.at.returns-then-not-marks_closed c).Else-is_repeated, closed (goal.at.returns-then-not-marks_closed c).After-marks_closed ∙ c.if-not-marks_closed.true)

pub returns : goal.returns
unfolding row_in_form
returns c =
    rw (
      site (goal.at.returns c).After-mark_at,
      mark (goal.at.returns c).Else-mark_at-gt1,
      below (goal.at.returns c).Else-references-i-ne0,
      sixteen (goal.at.returns c).Else-references,
      new (goal.at.returns c).Else-is_repeated,
      closed (goal.at.returns c).After-marks_closed ∙ c.if-not-marks_closed.false,
      ← rule_row (t (goal.at.returns c).Else-mark_at-gt1) (i (goal.at.returns c).Else-mark_at-gt1),
      ← rule_own (t (goal.at.returns c).Else-mark_at-gt1) (i (goal.at.returns c).Else-mark_at-gt1) (references_at (t (goal.at.returns c).Else-mark_at-gt1) (i (goal.at.returns c).Else-mark_at-gt1)),
      ← c.requires.row_context.same,
      ← c.references_at-references.ensures,
    )
    c.parent_in_form.ensures
