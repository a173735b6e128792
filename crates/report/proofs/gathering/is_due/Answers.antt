-- `is_due` meets its contract, one way out after the other. Assumes nothing.
use mathlib.Core.Path.{sym}
use Prim.Native.Nat.{◌-◌, ◌<◌}
use native.Mathlib.Omega.{arith}
use Rattle.report.specs.Framing.{wanted}
use Rattle.report.proofs.DueStep.{nothing_wanted, bytes_there, bytes_missing, none_to_come}
use Rattle.report.proofs.gathering.is_due.Goals as goal
use Rattle.report.proofs.gathering.is_due.Goals.{else-not-is_ended-via-then-not-is_ended+else-count-done, else-not-is_ended-via-else-not-is_ended}

pub returns-then-wanted-eq0 : goal.returns-then-wanted-eq0
returns-then-wanted-eq0 c = let a = c.args in
    sym (nothing_wanted a.is_ended a.done.state (a.count - a.done.used) (a.size - a.done.length) (omega (arith, c.wanted-wanted.ensures.0)))

pub returns-then-count-done : goal.returns-then-count-done
returns-then-count-done c =
    let a = c.args in
    sym (bytes_missing a.is_ended a.done.state (a.count - a.done.used) (a.size - a.done.length) c.if-not-is_ended.true (omega (arith, c.wanted-wanted.ensures.0)))

pub returns : goal.returns
returns c =
    let w = c.wanted-wanted in
    let a = c.args in
    let some : 0 < wanted a.done.state = omega (arith, w.ensures.0) in
    elim c.else-not-is_ended.branch [
      | else-not-is_ended-via-then-not-is_ended+else-count-done p ↦ sym (bytes_there a.is_ended a.done.state (a.count - a.done.used) (a.size - a.done.length) some (omega (arith, w.ensures.0, p.if-count-done.false)))
      | else-not-is_ended-via-else-not-is_ended e ↦ sym (none_to_come a.is_ended a.done.state (a.count - a.done.used) (a.size - a.done.length) e.if-not-is_ended.false some)
    ]
