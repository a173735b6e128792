-- `least` meets its contract: each way out is a case of the tests. Assumes nothing.
use mathlib.Core.Path.{◌∙◌}
use native.Mathlib.Omega.{arith}
use lib.Dec.{ltb}
use borrow.Author.Tests.{eq-eqb, ne_eqb, ltb-true, ltb-false}
use Rattle.base.proofs.Tests.{by_test}
use Rattle.interpret.specs.Steps.{least_of}
use Rattle.interpret.proofs.hearing.least.Goals as goal

pub returns-then-v-eq0 : goal.returns-then-v-eq0
unfolding least_of
returns-then-v-eq0 c = rw (eq-eqb _ _ c.if-v-eq0.true)

pub returns-then-w-eq0 : goal.returns-then-w-eq0
unfolding least_of
returns-then-w-eq0 c = rw (ne_eqb _ _ c.if-v-eq0.false, eq-eqb _ _ c.if-w-eq0.true)

pub returns-else-w-eq0 : goal.returns-else-w-eq0
unfolding least_of
returns-else-w-eq0 c = rw (ne_eqb _ _ c.if-v-eq0.false, ne_eqb _ _ c.if-w-eq0.false) (c.min.ensures ∙ by_test (ltb c.args.v c.args.w) (λ y. rw y (omega (arith, ltb-true _ _ y))) (λ n. rw n (omega (arith, ltb-false _ _ n))))
