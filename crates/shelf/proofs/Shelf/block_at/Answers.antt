-- `block_at` of a shelf meets its contract. Assumes nothing.
use mathlib.Core.Path.{ap, ◌∙◌}
use native.Mathlib.Omega.{arith}
use Rattle.shelf.specs.Layout.{Waiting}
use Rattle.shelf.proofs.Turns.{length_waiting, entry_shown}
use Rattle.shelf.proofs.Shelf.block_at.Goals as goal

pub returns : goal.returns
returns c =
    let s = c.args.self.now.bytes.now in
    (rw c.entries.ensures at c.block_at.ensures) ∙ ap (λ (w : Waiting). w.block) (entry_shown s c.args.i (omega (arith, length_waiting s, c.requires)))
