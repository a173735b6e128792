-- `first_clash` meets its contract. Assumes nothing.
use mathlib.Core.Path.{◌∙◌, ap}
use borrow.Author.Rules.{rules}
use Rattle.base.specs.Search.{found_below}
use Rattle.base.proofs.Ranges.{find_over}
use Rattle.table.specs.Layout.{view_of}
use Rattle.join.specs.Join.{clash_at}
use Rattle.join.proofs.clash.Matched.first_clash.Goals as goal

pub returns : goal.returns
returns c =
    let test = clash_at (view_of c.args.self.now.left.now) (view_of c.args.self.now.right.now) in
    find_over test c.count_of.result _ c.find.ensures.ran (λ x b q e. search rules) ∙ ap (found_below test) c.count_of.ensures
