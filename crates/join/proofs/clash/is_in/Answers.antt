-- `is_in` meets its contract: a mask of 64 bits has no place from 64 on. Assumes nothing.
use mathlib.Core.Path.{sym, ◌∙◌}
use native.Mathlib.Omega.{arith}
use borrow.Author.Tests.{le-ltb}
use lib.Pow.{pow_mono}
use Rattle.base.proofs.TopPlace.{not_in}
use Rattle.join.proofs.clash.is_in.Goals as goal

pub returns-else-place-lt-MAX_PLACES : goal.returns-else-place-lt-MAX_PLACES
returns-else-place-lt-MAX_PLACES c =
    le-ltb c.args.place 64 c.if-place-lt-MAX_PLACES.false
    ∙ sym (not_in c.args.mask c.args.place (omega (arith, c.ranges.mask.fits, pow_mono {i = 64} {j = c.args.place} c.if-place-lt-MAX_PLACES.false)))
