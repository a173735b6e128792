-- `each_sound` meets its contract. Assumes nothing.
use mathlib.Core.Path.{refl, ◌∙◌}
use native.Mathlib.Omega.{arith}
use borrow.Author.Rules.{rules}
use Rattle.std.proofs.lemmas.Iterator.{YieldsList-from_range}
use Rattle.std.proofs.lemmas.Iterator.Search.{all_from_yields_List}
use Rattle.shelf.specs.Steps.{sound_at}
use Rattle.shelf.proofs.Turns.{sound_over}
use Rattle.shelf.proofs.entries.Entries.each_sound.Goals as goal

pub returns : goal.returns
returns c =
    let s = c.args.self.now.shelf.now in
    let k = c.count.result in
    all_from_yields_List (sound_at s) _ _ _ c.all.ensures.ran (YieldsList-from_range 0 k k refl (omega arith)) (λ x b q e. search rules)
    ∙ sound_over s 0 k (omega (arith, c.count.ensures))
