-- A run of calls from a table and a record buffer: each step is the right-hand sides of the contracts of `admit`, `interpret`, `retire` and
-- `take_back`, over the table's bytes and the buffer's numbers; `digest` is SHA-256 in these contracts, and the toy digest here.
use Rattle.std.specs.Prelude.{◌≡◌, List, [], ◌∷◌, map, ℕ, suc, length, replicate}
use Rattle.base.specs.Bytes.{Bytes}
use Rattle.base.specs.List.{list_below}
use Rattle.answer.specs.declared.Answer.{Answer}
use Rattle.answer.specs.Checks.{success}
use Rattle.setup.specs.Setup.{Setup}
use Rattle.broadcast.specs.declared.Sent.{Sent}
use Rattle.broadcast.specs.Record.{none, with_send, with_echo, with_ready, with_delivered}
use Rattle.table.specs.Fresh.{empty_table}
use Rattle.records.specs.Layout.{buffer_size, record_in}
use Rattle.run.specs.Ledger.{Call, Ledger}
use Rattle.run.specs.Ledger.Call.{admit, interpret}
use Rattle.run.specs.Run.{Site, site_after, site_answers}
use Rattle.run.specs.Promises.{ledger_of, site_with}
use Rattle.cases.specs.Toy.{toy}

-- ---- calls and answers

-- an admission with verdict 1, and an admission with another verdict
abbrev pub good : Bytes → Call
good b = admit b 1

abbrev pub judged : ℕ → Bytes → Call
judged verdict b = admit b verdict

-- "A success has refusal 0, with the place from admission"
abbrev pub placed : ℕ → Answer
placed place = success place

-- the answer of an interpretation, a retiring or a taking back that succeeds
abbrev pub done : Answer
done = success 0

-- ---- runs

-- a record buffer of zeros
abbrev pub zero_records : List ℕ
zero_records = replicate buffer_size 0

-- a site with this table, and a record buffer of zeros
abbrev pub at : Bytes → Site
at t = record { table = t; records = zero_records }

module _ (digest : Bytes → Bytes) where
  -- the table that a list of calls leaves
  unfoldable pub table_after : Bytes → List Call → Bytes
  table_after t calls = (site_after digest (at t) calls).table

  -- the answer of each call
  unfoldable pub answers : Bytes → List Call → List Answer
  answers t calls = site_answers digest (at t) calls

-- ---- calls with their answers

-- a call, and the answer that it gets
pub record Turn : Type 0 where
  pub call : Call
  pub answer : Answer

infix 70 ◌giving◌
abbrev pub ◌giving◌ : Call → Answer → Turn
c giving a = record { call = c; answer = a }

abbrev pub calls_of : List Turn → List Call
calls_of turns = map (λ t. t.call) turns

abbrev pub answers_of : List Turn → List Answer
answers_of turns = map (λ t. t.answer) turns

-- the ledger that the calls leave, and the site, where both start with this setup and a record buffer of zeros
abbrev pub ledger_left : Setup → List Turn → Ledger
ledger_left s turns = ledger_of toy s zero_records (calls_of turns)

abbrev pub site_left : Setup → List Turn → Site
site_left s turns = site_with toy s zero_records (calls_of turns)

-- at a site that starts with the empty table of this setup, each call gets its answer
pub record Session (s : Setup) (turns : List Turn) : Type 0 where
  pub answered : answers toy (empty_table s) (calls_of turns) ≡ answers_of turns

-- ---- blocks that arrive one after the other, and what they make

-- a block that arrives, and what it makes in a slot
pub record Step : Type 0 where
  pub arrives : Bytes
  pub makes : Sent

infix 70 ◌making◌
abbrev pub ◌making◌ : Bytes → Sent → Step
b making m = record { arrives = b; makes = m }

-- what a block makes: a SEND, an ECHO, a READY or the delivery of v, or both a READY and the delivery; `none` is nothing
abbrev pub sends : ℕ → Sent
sends v = with_send v none

abbrev pub echoes : ℕ → Sent
echoes v = with_echo v none

abbrev pub readies : ℕ → Sent
readies v = with_ready v none

abbrev pub delivers : ℕ → Sent
delivers v = with_delivered v none

abbrev pub readies_and_delivers : ℕ → Sent
readies_and_delivers v = with_delivered v (readies v)

-- the calls by which each block is admitted, the first at this place, and interpreted at its place
unfoldable pub arriving : ℕ → List Step → List Turn
arriving place [] = []
arriving place (x ∷ xs) = good x.arrives giving placed place ∷ interpret place giving done ∷ arriving (suc place) xs

-- what the records of the first k places show as made in a slot
abbrev pub made_in : Site → ℕ → ℕ → List Sent
made_in x slot k = list_below (λ i. (record_in x.records i slot).made) k

-- at a site of this setup every block is admitted and interpreted, in this order, and the record of its place in the slot shows what it makes
pub record Campaign (s : Setup) (slot : ℕ) (steps : List Step) : Type 0 where
  pub taken : Session s (arriving 0 steps)
  pub recorded : made_in (site_after toy (at (empty_table s)) (calls_of (arriving 0 steps))) slot (length steps) ≡ map (λ x. x.makes) steps
