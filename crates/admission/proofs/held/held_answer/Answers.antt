-- `held_answer` meets its contract: one law for each way out. Assumes nothing.
use mathlib.Core.Path.{◌≡◌, sym, ap, ap₂, ◌∙◌}
use mathlib.Core.Bool.{Bool, true, false, not}
use Prim.Native.Nat.{ℕ, ◌≤◌, ◌<◌}
use native.Mathlib.Omega.{arith}
use lib.ListN.{drop}
use borrow.Author.Tests.{lt-ltb, le-ltb}
use Rattle.std.specs.Prelude.{Option, Some, None}
use Rattle.base.specs.Search.{below, found_below}
use Rattle.base.proofs.Search.{some_found, none_found}
use Rattle.base.specs.Mask.{in_mask}
use Rattle.base.specs.Bytes.{Bytes}
use Rattle.sha256.specs.Sha256.{sha256}
use Rattle.answer.specs.Checks.{success, refused, answer_to}
use Rattle.answer.proofs.Checks.{first_holds, first_fails}
use Rattle.block.specs.Layout.{site_of, sequence_of, reference_count}
use Rattle.table.specs.View.{max_places}
use Rattle.table.specs.Layout.{count_of, view_of}
use Rattle.block.proofs.Shape.{references_counted}
use Rattle.table.specs.Rules.{has_digest, place_of, parent_rule}
use Rattle.table.specs.Steps.{row_of}
use Rattle.table.proofs.Views.{same_refl, rule_reads}
use Rattle.table.proofs.InForm.{formed_places}
use Rattle.admission.specs.Admission.{missing, row_for, held_checks}
use Rattle.admission.specs.Steps.{LookedUp, held_answer}
use Rattle.admission.specs.declared.held.Found.{Found}
use Rattle.admission.proofs.HeldReferences.{first_missing_lem, listed}
use Rattle.admission.proofs.held.held_answer.Goals as goal
use Rattle.admission.proofs.held.held_answer.Goals.{After-parent_rule}

-- the ways out behind the parent rule
record Behind (t b : Bytes) (k : ℕ) (rule : Bool) : Type 0 where
  way10 : rule ≡ false → refused 10 0 ≡ held_answer t b
  way11 : rule ≡ true → max_places ≤ k → refused 11 0 ≡ held_answer t b
  way0 : rule ≡ true → k < max_places → success k ≡ held_answer t b

module _ (t b d : Bytes) (found : Found) (ready : LookedUp t b found) (ed : d ≡ sha256 b) where
  -- the search for the digest, and the first missing reference
  at_place : (o : Option ℕ) → o ≡ below (count_of t) (place_of (view_of t) (count_of t) d) → o ≡ found_below (has_digest (view_of t) (sha256 b)) (count_of t)
  at_place o e = e ∙ ap (λ (x : Bytes). found_below (has_digest (view_of t) x) (count_of t)) ed

  at_missing : (o : Option ℕ) → found.missing ≡ o → o ≡ found_below (missing (view_of t) b) (reference_count b)
  at_missing o e = sym e ∙ ready.missing ∙ ap₂ below (references_counted b ready.shaped) (first_missing_lem b ready.shaped (view_of t))

  way8 : (place : ℕ) → Some place ≡ below (count_of t) (place_of (view_of t) (count_of t) d) → refused 8 place ≡ held_answer t b
  unfolding held_answer answer_to
  way8 place e = let h = some_found _ _ place (at_place (Some place) e) in rw (h.0, h.1)

  -- each check that holds leaves the answer to those behind it
  module _ (e8 : None ≡ below (count_of t) (place_of (view_of t) (count_of t) d)) where
    past8 : held_answer t b ≡ answer_to (drop 1 (held_checks sha256 (view_of t) b)) (count_of t)
    unfolding held_answer
    past8 = first_holds _ _ _ (ap not (none_found _ _ (at_place None e8)))

    way9 : (i : ℕ) → found.missing ≡ Some i → refused 9 i ≡ held_answer t b
    unfolding answer_to
    way9 i e = let h = some_found _ _ i (at_missing (Some i) e) in rw (past8, h.0, h.1)

    module _ (e9 : found.missing ≡ None) (k site n : ℕ) (rule : Bool) (ek : k ≡ count_of t) (es : site ≡ site_of b) (en : n ≡ sequence_of b)
        (eu : rule ≡ parent_rule (view_of t) k (row_of site n found.places)) where
      past9 : held_answer t b ≡ answer_to (drop 2 (held_checks sha256 (view_of t) b)) (count_of t)
      past9 = past8 ∙ first_holds _ _ _ (ap not (none_found _ _ (at_missing None e9)))

      at_rule : rule ≡ parent_rule (view_of t) (count_of t) (row_for sha256 (view_of t) b)
      at_rule =
          eu ∙ ap (λ (x : ℕ). parent_rule (view_of t) x (row_of site n found.places)) ek
          ∙ rule_reads (view_of t) (view_of t) (count_of t) (row_of site n found.places) (row_for sha256 (view_of t) b) (same_refl (view_of t) (count_of t)) es en
          (λ j h. ap (λ (m : ℕ). in_mask m j) ready.places ∙ listed b ready.shaped t j)

      past10 : rule ≡ true → held_answer t b ≡ answer_to (drop 3 (held_checks sha256 (view_of t) b)) (count_of t)
      past10 e = past9 ∙ first_holds _ _ _ (sym at_rule ∙ e)

      placed : rule ≡ true → k < max_places → success k ≡ held_answer t b
      unfolding answer_to
      placed e m = rw (past10 e, lt-ltb (count_of t) max_places (omega arith), ek)

      ways : Behind t b k rule
      ways =
          record {
            way10 = λ e. sym (past9 ∙ first_fails _ _ _ (sym at_rule ∙ e));
            way11 = λ e m. sym (past10 e ∙ first_fails _ _ _ (le-ltb (count_of t) max_places (omega arith)));
            way0 = placed;
          }

-- the ways out behind the parent rule, from where it was asked
behind : (c : After-parent_rule) → Behind c.args.index.now.table.now c.args.block.now c.count_of-k.result c.parent_rule.result
behind c =
    ways _ _ _ _ c.requires.0 c.requires.1 c.in_default.ensures c.in_default-missing.is _ _ _ _ c.count_of-k.ensures c.site.ensures c.sequence.ensures c.parent_rule.ensures

pub returns-in-Some : goal.returns-in-Some
returns-in-Some c = way8 _ _ _ _ c.requires.0 c.requires.1 _ c.in-Some.ensures

pub returns-in-Some-missing : goal.returns-in-Some-missing
returns-in-Some-missing c = way9 _ _ _ _ c.requires.0 c.requires.1 c.in_default.ensures _ c.in-Some-missing.is

pub parent_rule-requires : goal.parent_rule-requires
parent_rule-requires c = rw c.count_of-k.ensures (formed_places _ c.args.index.now.formed)

pub returns-then-not-parent_rule : goal.returns-then-not-parent_rule
returns-then-not-parent_rule c = (behind (goal.at.returns-then-not-parent_rule c).After-parent_rule).way10 c.if-not-parent_rule.true

pub returns-then-k-ge-MAX_PLACES : goal.returns-then-k-ge-MAX_PLACES
returns-then-k-ge-MAX_PLACES c = (behind (goal.at.returns-then-k-ge-MAX_PLACES c).After-parent_rule).way11 c.if-not-parent_rule.false c.if-k-ge-MAX_PLACES.true

pub returns : goal.returns
returns c = (behind (goal.at.returns c).After-parent_rule).way0 c.if-not-parent_rule.false c.if-k-ge-MAX_PLACES.false
