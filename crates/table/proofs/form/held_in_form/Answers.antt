-- `held_in_form` meets its contract: one test after the other. Assumes nothing.
use mathlib.Core.Path.{◌≡◌, sym, ◌∙◌}
use mathlib.Core.Bool.{true}
use lib.Dec.{leb}
use borrow.Author.Rules.{rules}
use borrow.Author.Tests.{le-leb, lt-leb}
use Rattle.setup.specs.Setup.{lawful}
use Rattle.setup.proofs.Thresholds.{sites_few, sites_lawful}
use Rattle.table.specs.View.{max_places}
use Rattle.table.specs.Layout.{setup_of, retired_of, count_of}
use Rattle.table.specs.Rules.{held_in_form}
use Rattle.table.proofs.form.held_in_form.Goals as goal
use Rattle.table.proofs.form.held_in_form.Goals.{After-lawful, Else-not-lawful, Else-retired_of-gt1}

-- what the call of `lawful` says of the table's setup
judged : (c : After-lawful) → c.lawful.result ≡ lawful (setup_of c.args.table.now)
judged c = rw (c.sites_of.ensures, c.owners_of.ensures) at c.lawful.ensures

setup : (c : Else-not-lawful) → lawful (setup_of c.args.table.now) ≡ true
setup c = sym (judged (goal.at.Else-not-lawful c).After-lawful) ∙ c.if-not-lawful.false

pub returns-then-not-lawful : goal.returns-then-not-lawful
unfolding held_in_form
returns-then-not-lawful c = rw (sym (judged (goal.at.returns-then-not-lawful c).After-lawful) ∙ c.if-not-lawful.true)

pub returns-then-retired_of-gt1 : goal.returns-then-retired_of-gt1
unfolding held_in_form
returns-then-retired_of-gt1 c = rw (setup (goal.at.returns-then-retired_of-gt1 c).Else-not-lawful, ← c.retired_of.ensures, lt-leb _ 1 c.if-retired_of-gt1.true)

once : (c : Else-retired_of-gt1) → leb (retired_of c.args.table.now) 1 ≡ true
once c = rw c.retired_of.ensures at (le-leb c.retired_of.result 1 c.if-retired_of-gt1.false)

pub returns-then-k-gt-MAX_PLACES : goal.returns-then-k-gt-MAX_PLACES
unfolding held_in_form
returns-then-k-gt-MAX_PLACES c =
    rw (setup (goal.at.returns-then-k-gt-MAX_PLACES c).Else-not-lawful, once (goal.at.returns-then-k-gt-MAX_PLACES c).Else-retired_of-gt1, ← c.count_of-k.ensures, lt-leb _ max_places c.if-k-gt-MAX_PLACES.true)

pub returns : goal.returns
unfolding held_in_form
returns c =
    let few : leb (count_of c.args.table.now) max_places ≡ true =
    rw c.count_of-k.ensures at (le-leb c.count_of-k.result max_places c.if-k-gt-MAX_PLACES.false) in
    rw (setup (goal.at.returns c).Else-not-lawful, once (goal.at.returns c).Else-retired_of-gt1, few) (rw c.count_of-k.ensures at c.rows_in_form.ensures)

pub rows_in_form-requires : goal.rows_in_form-requires
rows_in_form-requires c = let n = sites_few _ (sites_lawful _ (setup (goal.at.rows_in_form-requires c).Else-not-lawful)) in search rules
