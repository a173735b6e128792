-- `waits_from` meets its contract. Assumes nothing.
use mathlib.Core.Path.{refl, ◌∙◌}
use Prim.Native.Nat.{◌-◌}
use native.Mathlib.Omega.{arith}
use borrow.Author.Rules.{rules}
use Rattle.std.proofs.lemmas.Iterator.{YieldsList-from_range}
use Rattle.std.proofs.lemmas.Iterator.Search.{any_from_yields_List}
use Rattle.shelf.specs.Layout.{waiting_at}
use Rattle.shelf.specs.Rules.{is_same}
use Rattle.shelf.proofs.Turns.{waits_over}
use Rattle.shelf.proofs.entries.Entries.waits_from.Goals as goal

pub returns : goal.returns
returns c =
    let a = c.args in
    any_from_yields_List (λ j. is_same a.campaign a.block.now (waiting_at a.self.now.shelf.now j)) _ _ _ c.any.ensures.ran
    (YieldsList-from_range a.start c.count.result (c.count.result - a.start) refl refl) (λ x b q e. search rules)
    ∙ waits_over a.self.now.shelf.now a.campaign a.block.now a.start _ (omega (arith, c.count.ensures))
