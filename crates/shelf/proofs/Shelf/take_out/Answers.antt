-- `take_out` meets its contract: the entries behind move to the front, then the count is one less. Assumes nothing.
use mathlib.Core.Path.{◌≡◌, refl, ap, ◌∙◌}
use mathlib.Core.List.{List, ◌++◌}
use Prim.Native.Nat.{◌+◌, ◌-◌}
use native.Mathlib.Omega.{arith}
use lib.ListN.{length, set, take, drop, replicate}
use borrow.Author.Rules.{rules}
use Rattle.base.specs.Bytes.{Bytes}
use Rattle.shelf.specs.Layout.{entry_size, entry_start, shelf_size, Waiting, waiting_count, waiting_in, shelf_bytes}
use Rattle.shelf.specs.Steps.{without}
use Rattle.shelf.specs.declared.Shelf.{Shelf}
use Rattle.shelf.proofs.ShelfLayout.{Laid, fit_without, length_without, moved_count, without_laid, laid_size, laid_waiting, laid_own, laid_few}
use Rattle.shelf.proofs.Turns.{shown_fit}
use Rattle.shelf.proofs.MovedBytes.{moved_cleared}
use Rattle.shelf.proofs.Shelf.take_out.Goals as goal
use Rattle.shelf.proofs.Shelf.take_out.Goals.{After-fill}

module _ (c : After-fill) where
  abbrev shelf : Shelf
  shelf = c.args.self.now

  abbrev before : List Waiting
  before = waiting_in shelf.bytes.now

  abbrev after : List Waiting
  after = without c.args.i before

  -- the bytes after the entries behind were moved, and then with the count
  abbrev moved : Bytes
  moved =
      let ys = c.copy_within.new.self in
      let top = shelf_size - entry_size in
      take top ys ++ (c.fill.new.self ++ drop entry_size (drop top ys))

  abbrev written : Bytes
  written = set moved 0 (waiting_count moved - 1)

  moved_is : moved ≡ take (entry_start c.args.i) (shelf_bytes before) ++ (drop (entry_start c.args.i + entry_size) (shelf_bytes before) ++ replicate entry_size 0)
  moved_is =
      let i = c.args.i in
      let size : length shelf.bytes.now ≡ shelf_size = laid_size shelf.bytes.now before (record { bytes = shelf.laid; few = shelf.few; fit = shown_fit shelf.bytes.now }) in
      moved_cleared shelf.bytes.now c.copy_within.new.self c.fill.new.self (entry_start i) entry_size (shelf_size - entry_size)
      (omega (arith, shelf.few, c.requires)) (omega arith) c.copy_within.ensures.after (search rules)
      ∙ ap (λ (s : Bytes). take (entry_start i) s ++ (drop (entry_start i + entry_size) s ++ replicate entry_size 0)) shelf.laid

  counted : waiting_count moved ≡ length before
  counted = moved_count before shelf.few (shown_fit shelf.bytes.now) c.args.i c.requires _ moved_is

  laid_after : Laid written after
  laid_after =
      record {
        bytes = without_laid before shelf.few (shown_fit shelf.bytes.now) c.args.i c.requires _ moved_is;
        few = omega (arith, length_without before shelf.few (shown_fit shelf.bytes.now) c.args.i c.requires, shelf.few);
        fit = fit_without c.args.i before (shown_fit shelf.bytes.now);
      }

pub overflow_sub-bytes : goal.overflow_sub-bytes
overflow_sub-bytes c = let k = (goal.at.overflow_sub-bytes c).After-fill in omega (arith, counted k, k.requires)

pub invariant_of-self : goal.invariant_of-self
invariant_of-self c =
    let k = (goal.at.invariant_of-self c).After-fill in
    record { laid = laid_own (written k) (after k) (laid_after k); few = laid_few (written k) (after k) (laid_after k) }

pub returns : goal.returns
returns c =
    let k = (goal.at.returns c).After-fill in
    record { waiting = laid_waiting (written k) (after k) (laid_after k); same_reference = refl }
