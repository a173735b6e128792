-- `lawful` meets its contract: one test after the other. Assumes nothing.
use mathlib.Core.Path.{◌≡◌, sym, ◌∙◌}
use mathlib.Core.Bool.{true}
use borrow.Author.Tests.{eq-eqb, ne_eqb}
use Rattle.setup.specs.Setup.{lawful_sites, lawful}
use Rattle.setup.proofs.lawful.Goals as goal
use Rattle.setup.proofs.lawful.Goals.{Else-not-lawful_sites}

sites : (c : Else-not-lawful_sites) → lawful_sites c.args.sites ≡ true
sites c = sym c.lawful_sites.ensures ∙ c.if-not-lawful_sites.false

pub returns-then-not-lawful_sites : goal.returns-then-not-lawful_sites
unfolding lawful
returns-then-not-lawful_sites c = rw (sym c.lawful_sites.ensures ∙ c.if-not-lawful_sites.true)

pub returns-then-owners-ne-SLOTS : goal.returns-then-owners-ne-SLOTS
unfolding lawful
returns-then-owners-ne-SLOTS c = rw (sites (goal.at.returns-then-owners-ne-SLOTS c).Else-not-lawful_sites, ne_eqb _ _ c.if-owners-ne-SLOTS.true)

pub returns : goal.returns
unfolding lawful
returns c = rw (sites (goal.at.returns c).Else-not-lawful_sites, eq-eqb _ _ c.if-owners-ne-SLOTS.false) c.owners_below.ensures
