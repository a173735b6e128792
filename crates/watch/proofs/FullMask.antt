-- The mask with all 64 bits set is the test that looks at every place. Assumes nothing.
use mathlib.Core.Path.{◌≡◌}
use mathlib.Core.Bool.{Bool}
use Prim.Native.Nat.{ℕ, ◌-◌, ◌^◌}
use Rattle.base.specs.Mask.{in_mask}
use Rattle.base.proofs.Sets.{full_mask}
use Rattle.table.specs.View.{max_places}
use Rattle.watch.specs.Forks.{everywhere}

-- as functions, so that one step replaces the one by the other wherever it stands
pub everywhere_mask : ◌≡◌ {A = ℕ → Bool} (in_mask (2 ^ max_places - 1)) everywhere
everywhere_mask = λ k p. full_mask max_places p k
