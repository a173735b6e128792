-- `index_of` meets its contract. The loop's invariant: `index` is that of the places passed. Assumes nothing.
use mathlib.Core.Path.{◌≡◌}
use Rattle.table.specs.Steps.{index_below}
use Rattle.table.proofs.index.index_of.Given as goal

abbrev pub invariant-loop-j : goal.invariant-loop-j
invariant-loop-j l = l.ends ≡ index_below l.table l.j
