-- A site's run: "A call gets the table and buffer that the last one left; nobody else writes them". Each step is what the contracts of `admit`,
-- `interpret`, `retire` and `take_back` say; `digest` is SHA-256 in these contracts.
use Rattle.std.specs.Prelude.{List, [], ◌∷◌, ℕ}
use Rattle.base.specs.Bytes.{Bytes}
use Rattle.answer.specs.declared.Answer.{Answer}
use Rattle.setup.specs.Setup.{Setup}
use Rattle.table.specs.Fresh.{fresh_table}
use Rattle.admission.specs.Admission.{admission, admitted}
use Rattle.take_back.specs.TakingBack.{taking_back, taken_back}
use Rattle.interpret.specs.Interpretation.{interpretation, marked, recorded}
use Rattle.retire.specs.Retiring.{retiring, retired_table, retired_records}
use Rattle.run.specs.Ledger.{Call, admit, interpret, retire, take_back}

-- what a call gets: the table and the record buffer of a site
pub record Site : Type 0 where
  pub table : Bytes
  pub records : List ℕ

-- "Both start from the empty table of one lawful setup, each with its record buffer of any length and content"
abbrev pub started : Setup → List ℕ → Site
started s buffer = record { table = (fresh_table s).table; records = buffer }

module _ (digest : Bytes → Bytes) where
  -- the answer of one call at a site
  unfoldable pub site_answer : Site → Call → Answer
  site_answer x (admit b verdict) = admission digest x.table b verdict
  site_answer x (interpret place) = interpretation x.table x.records place
  site_answer x retire = retiring x.table x.records
  site_answer x take_back = taking_back x.table

  -- the table and the buffer that one call leaves
  unfoldable pub site_step : Site → Call → Site
  site_step x (admit b verdict) = record { table = admitted digest x.table b verdict; records = x.records }
  site_step x (interpret place) =
      record { table = marked x.table x.records place; records = recorded x.table x.records place }
  site_step x retire = record { table = retired_table x.table x.records; records = retired_records x.table x.records }
  site_step x take_back = record { table = taken_back x.table; records = x.records }

  -- the table and the buffer that a list of calls leaves, and the answer of each call
  unfoldable pub site_after : Site → List Call → Site
  site_after x [] = x
  site_after x (c ∷ cs) = site_after (site_step x c) cs

  unfoldable pub site_answers : Site → List Call → List Answer
  site_answers x [] = []
  site_answers x (c ∷ cs) = site_answer x c ∷ site_answers (site_step x c) cs
