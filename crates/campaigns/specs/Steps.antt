-- What the contracts of inner functions cite. Nothing here need be believed.
use Rattle.std.specs.Prelude.{cond, ◌||◌, List, ℕ, ◌+◌, eqb, get_or}
use Rattle.base.specs.Bytes.{Bytes}
use Rattle.answer.specs.Buffer.{put_answer}
use Rattle.answer.specs.declared.Answer.{Answer}
use Rattle.answer.specs.Checks.{refused}
use Rattle.shelf.specs.Layout.{Waiting}
use Rattle.shelf.specs.Rules.{is_for, has_place, waits}
use Rattle.shelf.specs.Steps.{no_waiting, without}
use Rattle.admission.specs.Admission.{admission, admitted}
use Rattle.campaigns.specs.Passes.{waits_on, outcome}
use Rattle.campaigns.specs.Arriving.{waiting_last}
use Rattle.campaigns.specs.declared.Pass.{Pass}

-- what an arrival is answered that admission answered a, ws being what waits: one that got 9 may get 20 or 19 by the shelf
abbrev pub shelving : Answer → List Waiting → ℕ → Bytes → Answer
shelving a ws c b = cond (waits_on a) (cond (waits c b ws) (refused 20 0) (cond (has_place c ws) a (refused 19 0))) a

-- and what waits then
abbrev pub waiting_then : Answer → List Waiting → ℕ → Bytes → List Waiting
waiting_then a ws c b = cond (waits_on a) (cond (waits c b ws) ws (cond (has_place c ws) (waiting_last ws c b) ws)) ws

-- what one turn of a pass leaves
pub record Turned : Type 0 where
  pub table : Bytes
  pub waiting : List Waiting
  pub outcomes : List ℕ
  pub next : Pass

-- the pass goes by an entry that stays on the shelf
abbrev pub passed_by : Bytes → List Waiting → List ℕ → Pass → Turned
passed_by t ws o p = record { table = t; waiting = ws; outcomes = o; next = record { at = p.at + 1; admitted = p.admitted; ended = p.ended } }

-- the pass takes its entry out, as the answer a lets its block in or drops it, and stands where the next entry comes to stand
abbrev pub taken_out : Answer → Bytes → List Waiting → List ℕ → Pass → Turned
taken_out a t ws o p =
    record {
      table = t;
      waiting = without p.at ws;
      outcomes = put_answer o p.ended (outcome a);
      next = record { at = p.at; admitted = p.admitted || eqb a.refusal 0; ended = p.ended + 1 };
    }

module _ (digest : Bytes → Bytes) where
  -- one turn of a pass: the entry at which it stands is tried if it is of campaign c
  unfoldable pub turned : Bytes → List Waiting → List ℕ → ℕ → Pass → Turned
  turned t ws o c p =
      let b = (get_or ws p.at no_waiting).block in
      cond (is_for c (get_or ws p.at no_waiting))
      (cond (waits_on (admission digest t b 1)) (passed_by t ws o p) (taken_out (admission digest t b 1) (admitted digest t b 1) ws o p))
      (passed_by t ws o p)
