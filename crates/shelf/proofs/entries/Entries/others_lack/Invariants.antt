-- `others_lack` meets its contract. The loop's invariant: the sum is what the others passed lack. Assumes nothing.
use mathlib.Core.Path.{◌≡◌}
use mathlib.Core.Bool.{cond}
use Prim.Native.Nat.{◌*◌, ◌≤◌}
use lib.Dec.{eqb}
use Rattle.base.specs.Count.{sum_below}
use Rattle.shelf.specs.Layout.{waiting_in}
use Rattle.shelf.specs.Rules.{reserved, lack}
use Rattle.shelf.proofs.entries.Entries.others_lack.Given as goal

abbrev pub invariant-loop-c : goal.invariant-loop-c
invariant-loop-c l = (l.sum ≤ reserved * l.c) × (l.sum ≡ sum_below (λ d. cond (eqb d l.campaign) 0 (lack d (waiting_in l.self.shelf.now))) l.c)
