-- `forked` meets its contract. Assumes nothing.
use borrow.Author.Rules.{rules}
use Rattle.base.proofs.Ranges.{any_over}
use Rattle.watch.specs.Forks.{forked_in}
use Rattle.watch.proofs.sites.SiteBlocks.forked.Goals as goal

pub returns : goal.returns
unfolding forked_in
returns c = rw (← c.count_of.ensures) (any_over _ _ c.any.ensures.ran (λ x b q e. search rules))
