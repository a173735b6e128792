-- Request Three: what an arrival answers, and what it leaves of its campaign's table and of the shelf.
use Rattle.std.specs.Prelude.{Result, Ok, Err, Bool, cond, List, [], ◌∷◌, ◌++◌, ℕ, ◌*◌, eqb, leb}
use Rattle.base.specs.Bytes.{Bytes}
use Rattle.answer.specs.declared.Answer.{Answer}
use Rattle.answer.specs.Checks.{Check, check, answer_to, success, refused}
use Rattle.answer.specs.Refusals.{refusal_number, refusal_value}
use Rattle.answer.specs.declared.Refusal.{Refusal}
use Rattle.shelf.specs.Layout.{Waiting, waiting_in, shelf_bytes}
use Rattle.shelf.specs.Rules.{max_campaign, max_share, has_place, waits}
use Rattle.shelf.specs.Form.{shelf_in_form}
use Rattle.admission.specs.Admission.{admission, admitted}
use Rattle.campaigns.specs.declared.Admitted.{Admitted}
use Rattle.campaigns.specs.declared.ArrivalAnswer.{ArrivalAnswer}
use Rattle.campaigns.specs.Passes.{Try, PassResult, outcomes_of, settled}

-- ---- an arrival over the list of what waits

-- what an arrival answers, and what it leaves
pub record Arrived : Type 0 where
  pub answer : Answer
  pub table : Bytes
  pub waiting : List Waiting
  -- the waiting blocks that were tried, in the order tried
  pub tries : List Try

-- this answer, the table and what waits as they were, and no block tried
abbrev pub unchanged : Answer → Bytes → List Waiting → Arrived
unchanged a t ws = record { answer = a; table = t; waiting = ws; tries = [] }

-- the list of what waits, with a block of campaign c behind it
abbrev pub waiting_last : List Waiting → ℕ → Bytes → List Waiting
waiting_last ws c b = ws ++ (record { campaign = c; block = b } ∷ [])

-- an arrival for which admission answers a, which is a 9: "instead of it 20, its bytes already wait for that campaign, else 19, no place by the shelf
-- rule"; else the block is "still answered 9 and waits, with its bytes". `place` says whether the shelf has a place for it
unfoldable pub shelved : Bool → Answer → Bytes → List Waiting → ℕ → Bytes → Arrived
shelved place a t ws c b =
    cond (waits c b ws) (unchanged (refused 20 0) t ws)
    (cond place (unchanged a t (waiting_last ws c b))
    (unchanged (refused 19 0) t ws))

-- an admission's answer a, with what the passes after it leave
abbrev pub with_passes : Answer → PassResult → Arrived
with_passes a p = record { answer = a; table = p.table; waiting = p.waiting; tries = p.tries }

module _ (digest : Bytes → Bytes) where
  -- an arrival by what admission answers: 9 brings it to the shelf, a success is followed by passes, and any other refusal changes nothing
  unfoldable pub arrived : Bool → Bytes → List Waiting → ℕ → Bytes → ℕ → Arrived
  arrived place t ws c b verdict =
      let a = admission digest t b verdict in
      cond (eqb a.refusal 9) (shelved place a t ws c b)
      (cond (eqb a.refusal 0) (with_passes a (settled digest (admitted digest t b verdict) c ws))
      (unchanged a t ws))

-- ---- an arrival over the bytes that are lent

-- how many numbers the buffer for outcomes must have: two for each outcome, and an arrival has no more outcomes than a campaign may hold places
abbrev pub outcomes_size : ℕ
outcomes_size = 2 * max_share

-- what a call answers, and what it leaves of the table and the shelf; the tries tell the outcomes that it lists
pub record Called : Type 0 where
  pub answer : Answer
  pub table : Bytes
  pub shelf : Bytes
  pub tries : List Try

-- the outcomes that the answer lists
abbrev pub listed : Called → List Answer
listed r = outcomes_of r.tries

-- 21: campaign above 3, "checked first"; 17: the buffer for outcomes, which has `room` numbers, is too short; 2: shelf not in form. The checks of
-- admission follow, of which the first is the form of the table
abbrev pub arrival_checks : ℕ → ℕ → Bytes → List Check
arrival_checks c room s =
    check 21 (leb c max_campaign) 0
    ∷ check 17 (leb outcomes_size room) outcomes_size
    ∷ check 2 (shelf_in_form s) 0
    ∷ []

module _ (digest : Bytes → Bytes) where
  -- the call: its own checks on the lent bytes, and then the arrival
  unfoldable pub arrival : Bytes → Bytes → ℕ → Bytes → ℕ → ℕ → Called
  arrival t s c b verdict room =
      let first = answer_to (arrival_checks c room s) 0 in
      let r = arrived digest (has_place c (waiting_in s)) t (waiting_in s) c b verdict in
      cond (eqb first.refusal 0)
      (record { answer = r.answer; table = r.table; shelf = shelf_bytes r.waiting; tries = r.tries })
      (record { answer = first; table = t; shelf = s; tries = [] })

-- ---- what the code hands back

-- the answer of an arrival, and how many outcomes go with it: none where the arrival is refused
abbrev pub arrival_answer : Result Admitted Refusal → ArrivalAnswer
arrival_answer (Ok a) = record { answer = success a.place; ended = a.ended }
arrival_answer (Err refusal) = record { answer = refused (refusal_number refusal) (refusal_value refusal); ended = 0 }
