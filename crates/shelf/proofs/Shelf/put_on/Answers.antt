-- `put_on` meets its contract: the entry is put behind the others, then the count. Assumes nothing.
use mathlib.Core.Path.{◌≡◌, refl, sym, ap, ap₂, ◌∙◌}
use mathlib.Core.List.{List, [], ◌∷◌, ◌++◌}
use Prim.Native.Nat.{ℕ, ◌+◌, ◌/◌, ◌%◌, ◌≤◌}
use native.Mathlib.Omega.{arith}
use lib.ListN.{length, get_or, set, length-append}
use borrow.Author.Rules.{rules}
use Rattle.base.specs.Bytes.{Bytes, splice}
use Rattle.base.specs.Number.{pair}
use Rattle.block.specs.Limits.{max_block_size}
use Rattle.shelf.specs.Layout.{entry_header, entry_start, Waiting, waiting_count, waiting_in, shelf_bytes}
use Rattle.shelf.specs.declared.Shelf.{Shelf}
use Rattle.shelf.proofs.ShelfLayout.{Laid, fit_append, put_count, put_laid, laid_waiting, laid_own, laid_few}
use Rattle.shelf.proofs.Turns.{length_waiting, shown_fit}
use Rattle.shelf.proofs.Shelf.put_on.Goals as goal
use Rattle.shelf.proofs.Shelf.put_on.Goals.{After-put-2}

-- the length as two bytes
length_pair : (n : ℕ) (bytes : Bytes) → n ≤ max_block_size → bytes ≡ n / 256 % 256 ∷ n % 256 ∷ [] → get_or bytes 0 0 ∷ get_or bytes 1 0 ∷ [] ≡ pair n
length_pair n bytes h e = let high : n / 256 % 256 ≡ n / 256 = omega arith in rw (e, high)

-- what is before the block, and then the block
head_put : (c : After-put-2) → let a = c.args in let ws = waiting_in a.self.now.bytes.now in
    c.put.new.items ≡ splice (shelf_bytes ws) (entry_start (length ws)) (a.campaign ∷ pair (length a.block.now))
head_put c =
    let a = c.args in
    let p = c.requires in
    c.put.ensures
    ∙ ap (λ (h : Bytes). splice a.self.now.bytes.now (entry_start c.from-k.result) (a.campaign ∷ h)) (length_pair (length a.block.now) c.to_be_bytes.result p.1 c.to_be_bytes.ensures)
    ∙ ap₂ (λ (s : Bytes) (k : ℕ). splice s (entry_start k) (a.campaign ∷ pair (length a.block.now))) a.self.now.laid (c.from-k.ensures ∙ sym (length_waiting a.self.now.bytes.now))

block_put : (c : After-put-2) → let a = c.args in
    c.put-2.new.items ≡ splice c.put.new.items (entry_start (length (waiting_in a.self.now.bytes.now)) + entry_header) a.block.now
block_put c =
    c.put-2.ensures ∙ ap (λ (k : ℕ). splice c.put.new.items (entry_start k + entry_header) c.args.block.now) (c.from-k.ensures ∙ sym (length_waiting c.args.self.now.bytes.now))

-- the new entry
abbrev added : After-put-2 → Waiting
added c = record { campaign = c.args.campaign; block = c.args.block.now }

module _ (c : After-put-2) where
  abbrev shelf : Shelf
  shelf = c.args.self.now

  abbrev before : List Waiting
  before = waiting_in shelf.bytes.now

  abbrev after : List Waiting
  after = before ++ (added c ∷ [])

  abbrev written : Bytes
  written = set c.put-2.new.items 0 (waiting_count c.put-2.new.items + 1)

  counted : waiting_count c.put-2.new.items ≡ length before
  counted = put_count before shelf.few (shown_fit shelf.bytes.now) (added c) c.requires.1 c.requires.0 _ _ (head_put c) (block_put c)

  laid_after : Laid written after
  laid_after =
      record {
        bytes = put_laid before shelf.few (shown_fit shelf.bytes.now) (added c) c.requires.1 c.requires.0 _ _ (head_put c) (block_put c);
        few = omega (arith, length-append before (added c ∷ []), c.requires.0);
        fit = fit_append before (added c ∷ []) (shown_fit shelf.bytes.now) (c.requires.1, tt);
      }

pub overflow_add-bytes : goal.overflow_add-bytes
overflow_add-bytes c = let e = counted (goal.at.overflow_add-bytes c).After-put-2 in search rules

pub invariant_of-self : goal.invariant_of-self
invariant_of-self c =
    let k = (goal.at.invariant_of-self c).After-put-2 in
    record { laid = laid_own (written k) (after k) (laid_after k); few = laid_few (written k) (after k) (laid_after k) }

pub returns : goal.returns
returns c =
    let k = (goal.at.returns c).After-put-2 in
    record { waiting = laid_waiting (written k) (after k) (laid_after k); same_reference = refl }
