-- `push` meets its contract: the part stands right behind the lines. Assumes nothing.
use mathlib.Core.Path.{ap, ◌∙◌}
use mathlib.Core.List.{◌++◌}
use Prim.Native.Nat.{◌+◌}
use native.Mathlib.Omega.{arith}
use lib.ListN.{length, take}
use Rattle.base.specs.Bytes.{Bytes}
use Rattle.base.proofs.Splice.{take_splice}
use Rattle.report.proofs.lines.Lines.push.Goals as goal

pub returns : goal.returns
returns c =
    let inside = c.self.inside in
    let part : Bytes = c.args.part.now in
    ap (take (inside.length + length part)) c.put.ensures
    ∙ take_splice inside.bytes inside.length part (omega (arith, c.self.invariant, c.self.told))
    ∙ ap (λ (x : Bytes). x ++ part) c.self.view_is
