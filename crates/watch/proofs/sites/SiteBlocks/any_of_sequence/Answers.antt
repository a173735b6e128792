-- `any_of_sequence` meets its contract. Assumes nothing.
use borrow.Author.Rules.{rules}
use Rattle.base.proofs.Ranges.{any_over}
use Rattle.watch.proofs.sites.SiteBlocks.any_of_sequence.Goals as goal

pub returns : goal.returns
returns c = any_over _ _ c.any.ensures.ran (λ x b q e. search rules)
