-- `find` meets its contract. The loop's invariant: no place from j on holds the digest. Assumes nothing.
use mathlib.Core.Path.{◌≡◌}
use mathlib.Core.Bool.{false}
use Prim.Native.Nat.{ℕ, ◌≤◌, ◌<◌}
use Rattle.base.specs.Bytes.{Bytes}
use Rattle.table.specs.Layout.{count_of, view_of}
use Rattle.table.specs.Rules.{has_digest}
use Rattle.table.proofs.index.Index.find.Given as goal

abbrev pub NotFrom : Bytes → Bytes → ℕ → Type 0
NotFrom t d j = (i : ℕ) → j ≤ i → i < count_of t → has_digest (view_of t) d i ≡ false

abbrev pub invariant-loop-j : goal.invariant-loop-j
invariant-loop-j l = (l.j ≤ count_of l.self.table.now) × NotFrom l.self.table.now l.digest l.j
