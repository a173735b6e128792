-- What `join` asks of its steps, and what they leave together. Assumes nothing.
use mathlib.Core.Path.{◌≡◌, refl, sym, ap, ◌∙◌}
use mathlib.Core.Bool.{Bool, cond, ◌&&◌}
use mathlib.Core.Logic.{◌≢◌}
use mathlib.Core.List.{List}
use Prim.Native.Nat.{ℕ}
use lib.Dec.{eqb}
use lib.ListN.{length}
use borrow.Author.Tests.{eq-eqb, ne_eqb, leb-true, not-true}
use Rattle.base.specs.Bytes.{Bytes}
use Rattle.base.proofs.Tests.{by_test}
use Rattle.answer.proofs.Checks.{number_of, first_holds}
use Rattle.answer.specs.declared.Answer.{Answer}
use Rattle.answer.specs.Checks.{answer_to}
use Rattle.answer.specs.Promises.{elsewhere, different}
use Rattle.answer.proofs.Promises.{all_passed}
use Rattle.table.specs.View.{max_places}
use Rattle.table.specs.Layout.{setup_of, view_of}
use Rattle.table.specs.Form.{in_form}
use Rattle.records.specs.Layout.{buffer_size}
use Rattle.join.specs.Join.{neither_retired, same_setup, joined_count, join_answer, joined_table, joined_records, joined, copied}
use Rattle.join.specs.Promises.{BothFormed, BuffersSized, OneSetup}
use Rattle.join.specs.Steps.{sides_checks, later_checks, tables_checks, blocks_checks, blocks_answer, blocks_table, blocks_records, SameSetup, Joinable}
use Rattle.join.proofs.CheckedJoin.{setup_same, formed_both, whole_of, unretired_of}

module _ (left right : Bytes) (left_records right_records third : List ℕ) where
  abbrev sides : Answer
  sides = answer_to (sides_checks left right (length left_records) (length right_records) (length third)) 0

  abbrev answer : Answer
  answer = join_answer left right left_records right_records third

  abbrev formed : Bool
  formed = in_form left && in_form right

  abbrev sizes : Bool
  sizes = eqb (length left_records) buffer_size && (eqb (length right_records) buffer_size && eqb (length third) buffer_size)

  abbrev unretired : Bool
  unretired = neither_retired left right

  abbrev setups : Bool
  setups = same_setup (setup_of left) (setup_of right)

  -- what a call leaves
  abbrev Leaves : Answer → Bytes → List ℕ → Type 0
  Leaves a t b = (a ≡ answer) × ((t ≡ joined left right left_records right_records third) × (b ≡ copied left right left_records right_records third))

  -- ---- the first checks refuse

  first_refuse : sides.refusal ≢ 0 → sides ≡ answer
  unfolding join_answer answer_to
  first_refuse n = by_test formed
      (λ f. by_test sizes
      (λ z. by_test unretired
      (λ u. by_test setups
      (λ s. absurd (n (rw (f, z, u, s))))
      (λ s. rw (f, z, u, s)))
      (λ u. rw (f, z, u)))
      (λ z. rw (f, z)))
      (λ f. rw f)

  pub refused : (a : Answer) → a ≡ sides → a.refusal ≢ 0 → Leaves a left third
  unfolding joined copied
  refused a e n =
      let q : a ≡ answer = e ∙ first_refuse (λ o. n (number_of e ∙ o)) in
      let z = ne_eqb answer.refusal 0 (λ o. n (number_of q ∙ o)) in
      (q, (rw z, rw z))

  -- the check of form, and those behind it
  abbrev later : Answer
  later = answer_to (later_checks left right (length left_records) (length right_records) (length third)) 0

  sides_later : BothFormed left right → later ≡ sides
  sides_later f = sym (first_holds _ _ _ (rw (f.left_formed, f.right_formed)))

  pub later_refused : BothFormed left right → (a : Answer) → a ≡ later → a.refusal ≢ 0 → Leaves a left third
  later_refused f a e n = refused a (e ∙ sides_later f) n

  -- ---- they pass

  one_setup : sides.refusal ≡ 0 → OneSetup left right left_records right_records third
  unfolding different elsewhere
  one_setup e =
      let h = all_passed (sides_checks left right (length left_records) (length right_records) (length third)) 0 refl e in
      record {
        unretired = unretired_of left right left_records right_records third (whole_of left right left_records right_records third (formed_both left right h.0.0.0.1) h.0.0.1) h.0.1;
        setup = (setup_same (setup_of left) (setup_of right)).0 h.1;
      }

  -- where the lengths are right, those of the two tables
  module _ (w : BuffersSized left right left_records right_records third) where
    both : BothFormed left right
    both = record { left_formed = w.left_formed; right_formed = w.right_formed }

    tables_later : answer_to (tables_checks left right) 0 ≡ later
    tables_later = sym (first_holds _ _ _ (rw (eq-eqb (length left_records) buffer_size w.left_size, eq-eqb (length right_records) buffer_size w.right_size, eq-eqb (length third) buffer_size w.size)))

    pub tables_refused : (a : Answer) → a ≡ answer_to (tables_checks left right) 0 → a.refusal ≢ 0 → Leaves a left third
    tables_refused a e n = later_refused both a (e ∙ tables_later) n

    pub one_setup_of : (a : Answer) → a ≡ answer_to (tables_checks left right) 0 → a.refusal ≡ 0 → OneSetup left right left_records right_records third
    one_setup_of a e y = one_setup (number_of (sym (e ∙ tables_later ∙ sides_later both)) ∙ y)

  -- then those of the blocks decide
  blocks_decide : OneSetup left right left_records right_records third → blocks_answer left right ≡ answer
  unfolding join_answer answer_to
  blocks_decide o =
      let u = o.unretired in
      let w = u.buffers_sized in
      rw (w.left_formed, w.right_formed, eq-eqb _ _ w.left_size, eq-eqb _ _ w.right_size, eq-eqb _ _ w.size, eq-eqb _ _ u.left_retired, eq-eqb _ _ u.right_retired, (setup_same (setup_of left) (setup_of right)).1 o.setup)

  pub decided : OneSetup left right left_records right_records third → (a : Answer) (t : Bytes) (b : List ℕ) → a ≡ blocks_answer left right
      → t ≡ blocks_table left right → b ≡ blocks_records left right left_records right_records third → Leaves a t b
  unfolding joined copied
  decided o a t b e f g =
      let q = blocks_decide o in (
        e ∙ q,
        (
          f ∙ ap (λ (x : Answer). cond (eqb x.refusal 0) (joined_table left right) left) q,
          g ∙ ap (λ (x : Answer). cond (eqb x.refusal 0) (joined_records left right left_records right_records third) third) q,
        ),
      )

  -- what joining the blocks asks
  pub same_setup_of : OneSetup left right left_records right_records third → SameSetup left right
  same_setup_of o =
      let u = o.unretired in
      record {
        formed = record { left_formed = u.buffers_sized.left_formed; right_formed = u.buffers_sized.right_formed };
        left_retired = u.left_retired;
        right_retired = u.right_retired;
        setup = o.setup;
      }

-- ---- the blocks

pub passed : (left right : Bytes) → SameSetup left right → (a : Answer) → a ≡ blocks_answer left right → a.refusal ≡ 0 → Joinable left right
unfolding different elsewhere
passed left right o a e z =
    let h = all_passed (blocks_checks left right) (joined_count (view_of left) (view_of right)) refl (number_of (sym e) ∙ z) in
    record {
      formed = o.formed;
      left_retired = o.left_retired;
      right_retired = o.right_retired;
      setup = o.setup;
      apart = not-true _ h.0.1;
      fits = leb-true (joined_count (view_of left) (view_of right)) max_places h.1;
    }

module _ (left right : Bytes) (left_records right_records third : List ℕ) (a : Answer) (e : a ≡ blocks_answer left right) where
  pub blocks_refused : a.refusal ≢ 0 → (left ≡ blocks_table left right) × (third ≡ blocks_records left right left_records right_records third)
  blocks_refused n = let z = ne_eqb (blocks_answer left right).refusal 0 (λ o. n (number_of e ∙ o)) in (rw z, rw z)

  pub blocks_joined : a.refusal ≡ 0
      → (joined_table left right ≡ blocks_table left right) × (joined_records left right left_records right_records third ≡ blocks_records left right left_records right_records third)
  blocks_joined y = let z = eq-eqb (blocks_answer left right).refusal 0 (number_of (sym e) ∙ y) in (rw z, rw z)
