-- `shared` meets its contract. The loop's invariant: the campaigns passed hold few enough places, and the sum is what they lack. Assumes nothing.
use mathlib.Core.Path.{◌≡◌}
use mathlib.Core.Bool.{true}
use Prim.Native.Nat.{ℕ, ◌*◌, ◌≤◌, ◌<◌}
use lib.Dec.{leb}
use Rattle.base.specs.Count.{sum_below}
use Rattle.shelf.specs.Layout.{waiting_in}
use Rattle.shelf.specs.Rules.{reserved, max_share, holds, lack}
use Rattle.shelf.proofs.entries.Entries.shared.Given as goal

abbrev pub invariant-loop-c : goal.invariant-loop-c
invariant-loop-c l =
    (l.sum ≤ reserved * l.c) × (l.sum ≡ sum_below (λ d. lack d (waiting_in l.self.shelf.now)) l.c) × ((j : ℕ) → j < l.c → leb (holds j (waiting_in l.self.shelf.now)) max_share ≡ true)
