-- `clash_at` meets its contract: the right's block of that digest, if there is one, is compared. Assumes nothing.
use mathlib.Core.Path.{◌≡◌, ap, ◌∙◌}
use mathlib.Core.Bool.{not}
use Prim.Native.Nat.{◌<◌}
use native.Mathlib.Omega.{arith}
use borrow.Author.Tests.{le-ltb}
use Rattle.table.specs.Layout.{count_of, digest_at, view_of}
use Rattle.join.specs.Join.{same_block, place_in}
use Rattle.join.proofs.ClashByPlaces.{none_there, one_there}
use Rattle.join.proofs.clash.Matched.clash_at.Goals as goal
use Rattle.join.proofs.clash.Matched.clash_at.Goals.{After-from-j, Then-j-count_of}

-- the right's place of the block, if it has one
found : (c : After-from-j) → let s = c.args.self.now in c.from-j.result ≡ place_in (view_of s.right.now) (digest_at s.left.now c.args.i)
found c = c.from-j.ensures ∙ c.args.self.now.left_found.at c.args.i c.requires

pub returns-else-j-count_of : goal.returns-else-j-count_of
returns-else-j-count_of c =
    let s = c.args.self.now in
    let i = c.args.i in
    le-ltb c.from-j.result c.count_of.result c.if-j-count_of.false
    ∙ none_there s.left.now s.right.now s.formed i (omega (arith, found (goal.at.returns-else-j-count_of c).After-from-j, c.count_of.ensures, c.if-j-count_of.false))

below : (c : Then-j-count_of) → c.from-j.result < count_of c.args.self.now.right.now
below c = omega (arith, c.count_of.ensures, c.if-j-count_of.true)

pub returns-then-j-count_of : goal.returns-then-j-count_of
returns-then-j-count_of c =
    let s = c.args.self.now in
    let i = c.args.i in
    ap not (c.same_block.ensures ∙ ap (same_block (view_of s.left.now) i (view_of s.right.now)) (found (goal.at.returns-then-j-count_of c).After-from-j))
    ∙ one_there s.left.now s.right.now s.formed i (omega (arith, found (goal.at.returns-then-j-count_of c).After-from-j, below (goal.at.returns-then-j-count_of c).Then-j-count_of))
