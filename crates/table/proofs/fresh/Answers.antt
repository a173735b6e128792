-- `fresh` meets its contract. Assumes nothing.
use mathlib.Core.Path.{◌≡◌, sym, ◌∙◌}
use mathlib.Core.Bool.{true, false}
use lib.ListN.{replicate}
use Rattle.base.specs.Bytes.{Bytes}
use Rattle.setup.specs.Setup.{Setup, lawful}
use Rattle.table.specs.Layout.{table_size}
use Rattle.table.specs.Fresh.{empty_table, fresh_table}
use Rattle.table.specs.declared.FreshTable.{FreshTable}
use Rattle.table.proofs.fresh.Goals as goal

way_refused : (s : Setup) → lawful s ≡ false → ◌≡◌ {A = FreshTable} (record { refusal = 1; table = replicate table_size 0 }) (fresh_table s)
unfolding fresh_table
way_refused s e = rw e

way_made : (s : Setup) (t : Bytes) → lawful s ≡ true → t ≡ empty_table s → ◌≡◌ {A = FreshTable} (record { refusal = 0; table = t }) (fresh_table s)
unfolding fresh_table
way_made s t e m = rw (e, m)

pub returns-then-not-lawful : goal.returns-then-not-lawful
returns-then-not-lawful c =
    let a = c.args in
    way_refused (record { sites = a.sites; owners = a.owners }) (sym c.lawful.ensures ∙ c.if-not-lawful.true)

pub returns : goal.returns
returns c =
    let a = c.args in
    way_made (record { sites = a.sites; owners = a.owners }) _ (sym c.lawful.ensures ∙ c.if-not-lawful.false) c.put_setup.ensures
