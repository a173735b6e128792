-- `forked_mask` meets its contract. The loop's invariant: `mask` is that of the sites which the places passed show to be forked, and `of_site` has
-- the masks of their prints. Assumes nothing.
use mathlib.Core.Path.{◌≡◌}
use Rattle.base.specs.Steps.{groups_below}
use Rattle.setup.specs.Setup.{max_sites}
use Rattle.table.specs.Layout.{setup_of, count_of, site_at}
use Rattle.watch.specs.Steps.{Watchable, sequence_print}
use Rattle.watch.proofs.ForkPass.{forked_below}
use Rattle.watch.proofs.sites.forked_mask.Given as goal

abbrev pub invariant-loop-i : goal.invariant-loop-i
invariant-loop-i l =
    (l.k ≡ count_of l.table) × Watchable l.table × (l.mask ≡ forked_below l.table (setup_of l.table).sites l.i)
    × (l.of_site ≡ groups_below (site_at l.table) (sequence_print l.table) max_sites l.i)
