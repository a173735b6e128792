-- `is_laid` meets its contract. Assumes nothing.
use mathlib.Core.Path.{◌≡◌, refl, sym, ap, ◌∙◌}
use mathlib.Core.Bool.{Bool, ◌&&◌}
use Prim.Native.Nat.{ℕ}
use native.Mathlib.Omega.{arith}
use lib.ListN.{drop}
use borrow.Author.Rules.{rules}
use Rattle.std.specs.List.{list_all, range_with_len}
use Rattle.std.proofs.lemmas.Iterator.{YieldsList-from_range}
use Rattle.std.proofs.lemmas.Iterator.Search.{all_from_yields_List}
use Rattle.base.specs.Bytes.{same_bytes, all_zero}
use Rattle.base.proofs.Parts.{rest_part}
use Rattle.shelf.specs.Layout.{entry_start, waiting_in, shelf_bytes}
use Rattle.shelf.specs.Steps.{laid_at}
use Rattle.shelf.proofs.Zeros.{laid_entries}
use Rattle.shelf.proofs.form.is_laid.Goals as goal
use Rattle.shelf.proofs.form.is_laid.Goals.{After-all}

-- whether it is the layout, by the answer of the search and the bytes behind the last entry
decided : (c : After-all) → let s = c.args.shelf.now in
    same_bytes s (shelf_bytes (waiting_in s)) ≡ (c.all.result && all_zero (drop (entry_start c.count-k.result) s))
decided c =
    let s = c.args.shelf.now in
    let k = c.count-k.result in
    let each : c.all.result ≡ list_all (laid_at s) (range_with_len 0 k) =
    all_from_yields_List (laid_at s) _ _ _ c.all.ensures.ran (YieldsList-from_range 0 k k refl (omega arith)) (λ x b q e. search rules) in
    laid_entries s c.fits-shelf c.told-shelf c.requires
    ∙ ap (λ (n : ℕ). list_all (laid_at s) (range_with_len 0 n) && all_zero (drop (entry_start n) s)) (sym c.count-k.ensures)
    ∙ ap (λ (t : Bool). t && all_zero (drop (entry_start k) s)) (sym each)

pub returns-then-all : goal.returns-then-all
returns-then-all c =
    c.all_zero.ensures ∙ ap all_zero (rw c.told-shelf at (rest_part c.args.shelf.now (entry_start c.count-k.result)))
    ∙ sym (decided (goal.at.returns-then-all c).After-all ∙ rw c.if-all.true)

pub returns-else-all : goal.returns-else-all
returns-else-all c = c.if-all.false ∙ sym (decided (goal.at.returns-else-all c).After-all ∙ rw c.if-all.false)
