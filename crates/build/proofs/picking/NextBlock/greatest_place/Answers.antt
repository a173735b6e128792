-- `greatest_place` meets its contract. Assumes nothing.
use borrow.Author.Rules.{rules}
use Rattle.base.proofs.Ranges.{find_over}
use Rattle.build.proofs.picking.NextBlock.greatest_place.Goals as goal

pub returns : goal.returns
returns c = rw (← c.count_of.ensures) (find_over _ _ _ c.find.ensures.ran (λ x b q e. search rules))
