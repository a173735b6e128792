-- `parents_among` meets its contract. The loop's invariant: `count` and what is still to be counted, among the references left, make what is
-- to be counted. Assumes nothing.
use mathlib.Core.Path.{◌≡◌}
use Prim.Native.Nat.{◌+◌}
use Rattle.table.specs.Layout.{view_of}
use Rattle.table.specs.Rules.{parents}
use Rattle.table.specs.Steps.{row_of}
use Rattle.table.proofs.rules.parents_among.Given as goal

abbrev pub invariant-loop-j : goal.invariant-loop-j
invariant-loop-j l = l.count + parents (view_of l.table) l.k (row_of l.site l.sequence l.j-iterator.0) ≡ parents (view_of l.table) l.k (row_of l.site l.sequence l.references)
