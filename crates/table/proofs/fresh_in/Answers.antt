-- `fresh_in` meets its contract: one law for each way out. Assumes nothing.
use mathlib.Core.Path.{◌≡◌, sym, ap, ◌∙◌}
use mathlib.Core.Bool.{true, false}
use mathlib.Core.Logic.{◌≢◌}
use Prim.Native.Nat.{ℕ}
use lib.ListN.{length, replicate}
use borrow.Author.Tests.{eq-eqb, ne_eqb}
use Rattle.base.specs.Bytes.{Bytes}
use Rattle.answer.specs.Checks.{success, refused, answer_to}
use Rattle.setup.specs.Setup.{Setup, lawful}
use Rattle.setup.proofs.Thresholds.{eight_owners}
use Rattle.table.specs.Layout.{table_size}
use Rattle.table.specs.Fresh.{empty_table, fresh_answer, fresh_in}
use Rattle.table.proofs.fresh_in.Goals as goal
use Rattle.table.proofs.fresh_in.Goals.{After-lawful, Else-not-lawful}

module _ (s : Setup) (t : Bytes) where
  way1 : lawful s ≡ false → (refused 1 0 ≡ fresh_answer s t) × (t ≡ fresh_in s t)
  unfolding fresh_in fresh_answer answer_to
  way1 e = (rw e, rw e)

  way2 : lawful s ≡ true → length t ≢ table_size → (refused 2 0 ≡ fresh_answer s t) × (t ≡ fresh_in s t)
  unfolding fresh_in fresh_answer answer_to
  way2 e n = (rw (e, ne_eqb (length t) table_size n), rw (e, ne_eqb (length t) table_size n))

  way0 : (t' : Bytes) → lawful s ≡ true → length t ≡ table_size → t' ≡ empty_table s → (success 0 ≡ fresh_answer s t) × (t' ≡ fresh_in s t)
  unfolding fresh_in fresh_answer answer_to
  way0 t' e n m = (rw (e, eq-eqb (length t) table_size n), rw (e, eq-eqb (length t) table_size n) m)

abbrev setup : After-lawful → Setup
setup c = let a = c.args in record { sites = a.sites; owners = a.owners.now }

is_lawful : (c : Else-not-lawful) → lawful (setup (goal.at.Else-not-lawful c).After-lawful) ≡ true
is_lawful c = sym c.lawful.ensures ∙ c.if-not-lawful.false

pub returns-then-not-lawful : goal.returns-then-not-lawful
returns-then-not-lawful c = let w = way1 (setup (goal.at.returns-then-not-lawful c).After-lawful) _ (sym c.lawful.ensures ∙ c.if-not-lawful.true) in record {
  value = w.0;
  table_after = w.1;
}

pub returns-in_default : goal.returns-in_default
returns-in_default c = let w = way2 (setup (goal.at.returns-in_default c).After-lawful) _ (is_lawful (goal.at.returns-in_default c).Else-not-lawful) c.in_default.ensures.cases in record {
  value = w.0;
  table_after = w.1;
}

pub put_setup-requires : goal.put_setup-requires
put_setup-requires c =
    (eight_owners (setup (goal.at.put_setup-requires c).After-lawful) (is_lawful (goal.at.put_setup-requires c).Else-not-lawful), c.fill.ensures.after (λ y e. e) ∙ ap (λ (n : ℕ). replicate n 0) (ap length c.in-Some.ensures.cases.same ∙ c.in-Some.ensures.cases.long))

pub returns : goal.returns
returns c = let w = way0 (setup (goal.at.returns c).After-lawful) _ _ (is_lawful (goal.at.returns c).Else-not-lawful) c.in-Some.ensures.cases.long c.put_setup.ensures in record {
  value = w.0;
  table_after = w.1;
}
