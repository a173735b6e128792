use mathlib.Core.Path.{◌≡◌, refl, ap, ◌∙◌}
use Prim.Native.Nat.{ℕ, ◌+◌}
use native.Mathlib.Numerals.{add-one}
use Rattle.base.specs.Bytes.{Bytes}
use Rattle.table.specs.Layout.{view_of}
use Rattle.join.specs.Join.{join_place, join_below}
use Rattle.join.proofs.rows.join_rows.Goals as goal

pub loop-j-init : goal.loop-j-init
unfolding join_below
loop-j-init c = refl

more : (left right t t' : Bytes) (k : ℕ) → t ≡ join_below left (view_of right) k → t' ≡ join_place t (view_of right) k → t' ≡ join_below left (view_of right) (k + 1)
unfolding join_below
more left right t t' k e f = rw (add-one k) (f ∙ ap (λ (b : Bytes). join_place b (view_of right) k) e)

pub loop-j-preserved : goal.loop-j-preserved
loop-j-preserved c = more c.args.left.now c.args.right.now _ _ c.loop-j.j c.loop-j.invariant c.join_place.ensures
