-- What the test for form shows of a table, as the watch needs it. Assumes nothing.
use mathlib.Core.Path.{◌≡◌}
use mathlib.Core.Bool.{true}
use Prim.Native.Nat.{ℕ, ◌≤◌, ◌<◌}
use native.Mathlib.Omega.{arith}
use Rattle.base.specs.Bytes.{Bytes}
use Rattle.setup.proofs.Thresholds.{sites_lawful, sites_few}
use Rattle.table.specs.View.{max_places}
use Rattle.table.specs.Layout.{setup_of, count_of, view_of}
use Rattle.table.specs.Form.{in_form}
use Rattle.table.proofs.InForm.{table_form, formed_row}
use Rattle.watch.specs.Steps.{Watchable}
use Rattle.watch.proofs.AncestorTest.{RefersLower}

module _ (t : Bytes) (e : in_form t ≡ true) where
  pub places_fit : count_of t ≤ max_places
  places_fit = (table_form t e).held.fits

  pub refers_lower : RefersLower (view_of t)
  refers_lower i h = (formed_row t e i h).lower

  pub ready : Watchable t
  ready =
      let f = table_form t e in
      record {
        held = places_fit;
        few = sites_few (setup_of t).sites (sites_lawful (setup_of t) f.held.lawful);
        sites = λ i h. (formed_row t e i h).site;
      }

  pub held_place : (i : ℕ) → i < count_of t → i < max_places
  held_place i h = omega (arith, places_fit)
