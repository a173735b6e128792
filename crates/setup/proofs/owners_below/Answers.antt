-- `owners_below` meets its contract: the test of each owner is the definition's. Assumes nothing.
use borrow.Author.Rules.{rules}
use lib.Dec.{ltb}
use Rattle.base.proofs.Ranges.{all_items}
use Rattle.setup.specs.Setup.{owners_below}
use Rattle.setup.proofs.owners_below.Goals as goal

pub returns : goal.returns
unfolding owners_below
returns c = all_items (λ owner. ltb owner c.args.sites) _ c.iter.ensures.rest c.all.ensures.ran (λ x b q e. search rules)
