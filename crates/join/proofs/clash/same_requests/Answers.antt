-- `same_requests` meets its contract. Assumes nothing.
use borrow.Author.Rules.{rules}
use Rattle.base.proofs.Ranges.{all_over}
use Rattle.join.proofs.clash.same_requests.Goals as goal

pub returns : goal.returns
returns c = all_over _ _ c.all.ensures.ran (λ x b q e. search rules)
