-- `first_uninterpreted` meets its contract. Assumes nothing.
use borrow.Author.Rules.{rules}
use Rattle.base.proofs.Ranges.{find_over}
use Rattle.table.proofs.rules.first_uninterpreted.Goals as goal

pub returns : goal.returns
returns c = find_over _ _ _ c.find.ensures.ran (λ x b q e. search rules)
