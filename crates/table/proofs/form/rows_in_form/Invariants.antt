-- `rows_in_form` meets its contract. The loop's invariant: the rows passed are in form, `marked` is the mask of those that are
-- interpreted, `of_site` has the mask of those of each site, and `of_group` that of the prints of each group. Assumes nothing.
use mathlib.Core.Path.{◌≡◌}
use mathlib.Core.Bool.{true}
use Prim.Native.Nat.{ℕ, ◌<◌}
use Rattle.base.specs.Steps.{groups_below}
use Rattle.table.specs.Layout.{setup_of, view_of}
use Rattle.table.specs.Rules.{row_in_form}
use Rattle.table.specs.Steps.{marks_below, sites_below, group_count, group_at, print_at}
use Rattle.table.proofs.form.rows_in_form.Given as goal

abbrev pub invariant-loop-i : goal.invariant-loop-i
invariant-loop-i l =
    (l.marked ≡ marks_below l.table l.i) × (l.of_site ≡ sites_below l.table l.i) × (l.of_group ≡ groups_below (group_at l.table) (print_at l.table) group_count l.i)
    × ((j : ℕ) → j < l.i → row_in_form (setup_of l.table) (view_of l.table) j ≡ true)
