-- `build` meets its contract: `build_from` looks at every place. Assumes nothing.
use mathlib.Core.Path.{ap, ◌∙◌}
use mathlib.Core.Bool.{Bool}
use Prim.Native.Nat.{ℕ}
use Rattle.watch.proofs.FullMask.{everywhere_mask}
use Rattle.build.specs.Building.{building_from, built_from}
use Rattle.build.proofs.build.Goals as goal

pub returns : goal.returns
returns c = let a = c.args in record {
  value = c.build_from.ensures.value ∙ ap (λ (seen : ℕ → Bool). building_from seen a.table.now a.site a.requests.now a.output.now) everywhere_mask;
  output_after = c.build_from.ensures.output_after ∙ ap (λ (seen : ℕ → Bool). built_from seen a.table.now a.site a.requests.now a.output.now) everywhere_mask;
}
