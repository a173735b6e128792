-- `check_sides` meets its contract: one law for each way out. Assumes nothing.
use mathlib.Core.Path.{◌≡◌, sym, ◌∙◌}
use mathlib.Core.Bool.{true}
use Rattle.join.specs.Join.{neither_retired}
use Rattle.join.proofs.Ways.{way31, way23, way_on}
use Rattle.join.proofs.check_sides.Goals as goal
use Rattle.join.proofs.check_sides.Goals.{Else-not-neither_retired}

-- ---- what has been retired, and setups

pub returns-then-not-neither_retired : goal.returns-then-not-neither_retired
returns-then-not-neither_retired c =
    let a = c.args in
    way31 a.left.now a.right.now
    (sym c.neither_retired.ensures ∙ c.if-not-neither_retired.true)

unretired : (c : Else-not-neither_retired) → let a = c.args in neither_retired a.left.now a.right.now ≡ true
unretired c = sym c.neither_retired.ensures ∙ c.if-not-neither_retired.false

pub returns-then-not-same_setup : goal.returns-then-not-same_setup
returns-then-not-same_setup c =
    let a = c.args in
    way23 a.left.now a.right.now
    (unretired (goal.at.returns-then-not-same_setup c).Else-not-neither_retired) (sym c.same_setup.ensures ∙ c.if-not-same_setup.true)

pub returns : goal.returns
returns c =
    let a = c.args in
    way_on a.left.now a.right.now
    (unretired (goal.at.returns c).Else-not-neither_retired) (sym c.same_setup.ensures ∙ c.if-not-same_setup.false)
