-- `first_same` meets its contract: the search is the definition's. Assumes nothing.
use borrow.Author.Rules.{rules}
use Rattle.base.proofs.Ranges.{find_over}
use Rattle.block.proofs.references.first_same.Goals as goal

pub returns : goal.returns
returns c = find_over _ _ _ c.find.ensures.ran (λ x b q e. search rules)
