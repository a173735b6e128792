-- `digits` meets its contract: what is left before the digits that stand already is what the rest has. Assumes nothing.
use mathlib.Core.Path.{◌≡◌}
use mathlib.Core.List.{◌++◌}
use Prim.Native.Nat.{◌≤◌, ◌<◌}
use lib.ListN.{length, drop}
use Rattle.report.specs.Text.{decimal}
use Rattle.report.proofs.Decimal.{leading}
use Rattle.report.proofs.lines.digits.Given as goal

abbrev pub invariant-loop-rest : goal.invariant-loop-rest
invariant-loop-rest l =
    (leading l.rest ++ drop l.start l.bytes ≡ decimal l.n) × (length (leading l.rest) ≤ l.start) × (l.start < 20) × (length l.bytes ≡ 20)

abbrev pub decreases-loop-rest : goal.decreases-loop-rest
decreases-loop-rest l = l.rest
