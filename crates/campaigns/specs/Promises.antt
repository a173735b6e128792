-- What request Three promises of one arrival beyond the equations of `arrive`; proofs/Promises.antt shows it for every digest of 32 bytes, and
-- so for SHA-256.
use Rattle.std.specs.Prelude.{◌≡◌, Bool, true, false, cond, not, ◌&&◌, ◌↔◌, ◌≢◌, ◌⊎◌, ℕ, ◌+◌, ◌≤◌, ◌<◌, eqb, length}
use mathlib.Core.List.{List, [], ◌∷◌, Memᴰ}
use Rattle.base.specs.Bytes.{Bytes, same_bytes}
use Rattle.base.specs.List.{count_in, passing_in}
use Rattle.shelf.specs.Layout.{Waiting, waiting_in, shelf_bytes}
use Rattle.shelf.specs.Rules.{max_campaign, reserved, max_share, is_for, holds, has_place, is_same, waits}
use Rattle.shelf.specs.Form.{shelf_in_form}
use Rattle.table.specs.Form.{in_form}
use Rattle.admission.specs.Admission.{admission, admitted}
use Rattle.campaigns.specs.Passes.{Try, waits_on}
use Rattle.campaigns.specs.Arriving.{Called, outcomes_size, waiting_last, listed, arrival}

-- what waits for campaign c, in its order
abbrev pub only : ℕ → List Waiting → List Waiting
only c ws = passing_in (is_for c) ws

-- how often the bytes x wait for campaign c
abbrev pub times_waiting : ℕ → Bytes → List Waiting → ℕ
times_waiting c x ws = count_in (is_same c x) ws

-- a try by which a block of the bytes x was let in or dropped; and how many such tries there are
abbrev pub is_end : Bytes → Try → Bool
is_end x y = not (waits_on y.answer) && same_bytes y.block x

abbrev pub times_ended : Bytes → List Try → ℕ
times_ended x ys = count_in (is_end x) ys

module _ (digest : Bytes → Bytes) where
  -- the tries are admissions with verdict 1, one after the other, that lead from the table t to the table t'
  unfoldable pub TriedFrom : Bytes → List Try → Bytes → Type 0
  TriedFrom t [] t' = t ≡ t'
  TriedFrom t (y ∷ ys) t' = (y.answer ≡ admission digest t y.block 1) × TriedFrom (admitted digest t y.block 1) ys t'

  module _ (t s : Bytes) (c : ℕ) (b : Bytes) (verdict room : ℕ) where
    -- what the call answers and leaves, and the refusal's number in its answer
    abbrev pub called : Called
    called = arrival digest t s c b verdict room

    abbrev pub answered : ℕ
    answered = called.answer.refusal

    -- checks 21 and 17 hold
    pub record Lent : Type 0 where
      pub campaign : c ≤ max_campaign
      pub outcomes : outcomes_size ≤ room

    -- checks 21 and 17 hold, and the shelf is in form: all checks before those of admission hold
    pub record Tested : Type 0 where
      pub campaign : c ≤ max_campaign
      pub outcomes : outcomes_size ≤ room
      pub formed : shelf_in_form s ≡ true

    -- "where an arrival would get 9"
    pub record WouldGet9 : Type 0 where
      pub tested : Tested
      pub missing : (admission digest t b verdict).refusal ≡ 9

    -- each refusal comes under its cause and under no other
    pub record Causes : Type 0 where
      pub twenty_one : (answered ≡ 21) ↔ (max_campaign < c)
      pub seventeen : (answered ≡ 17) ↔ ((c ≤ max_campaign) × (room < outcomes_size))
      pub twenty : (answered ≡ 20) ↔ (WouldGet9 × (waits c b (waiting_in s) ≡ true))
      pub nineteen : (answered ≡ 19) ↔ (WouldGet9 × ((waits c b (waiting_in s) ≡ false) × (has_place c (waiting_in s) ≡ false)))
      pub nine : (answered ≡ 9) ↔ (WouldGet9 × ((waits c b (waiting_in s) ≡ false) × (has_place c (waiting_in s) ≡ true)))
      -- 2: shelf or table not in form
      pub two : (answered ≡ 2) ↔ (Lent × ((shelf_in_form s ≡ false) ⊎ (in_form t ≡ false)))
      -- a number that is none of 2, 9, 17, 19, 20 and 21 is answered exactly where the checks before admission's hold and admission answers it
      pub other_numbers : (n : ℕ) → n ≢ 2 → n ≢ 9 → n ≢ 17 → n ≢ 19 → n ≢ 20 → n ≢ 21
          → (answered ≡ n) ↔ (Tested × ((admission digest t b verdict).refusal ≡ n))
      -- where the checks before admission's hold and admission does not answer 9, the whole answer is admission's; and so it is where the call
      -- answers 9
      pub others : Tested → (admission digest t b verdict).refusal ≢ 9 → called.answer ≡ admission digest t b verdict
      pub index : answered ≡ 9 → called.answer ≡ admission digest t b verdict
      -- the value of 17 is how many numbers the outcomes need; beside any refusal but 17, 6, 18, 7, 8 and 9 the value is 0
      pub needed : answered ≡ 17 → called.answer.value ≡ outcomes_size
      pub no_value : answered ≢ 17 → answered ≢ 0 → answered ≢ 6 → answered ≢ 18 → answered ≢ 7 → answered ≢ 8 → answered ≢ 9 → called.answer.value ≡ 0

    -- what one call of `arrive` promises
    pub record CallKeeps : Type 0 where
      pub causes : Causes
      -- "a campaign holding fewer than 2 never gets 19"
      pub never19 : shelf_in_form s ≡ true → holds c (waiting_in s) < reserved → answered ≢ 19
      -- a shelf in form is in form after the call, and a table in form is too
      pub shelf_formed : shelf_in_form s ≡ true → shelf_in_form called.shelf ≡ true
      pub table_formed : in_form t ≡ true → in_form called.table ≡ true
      -- "By that 9 and by a drop the shelf changes and nothing else": a refusal leaves the table, any refusal but 9 leaves the shelf, no refusal
      -- tries a waiting block, and 9 puts the block behind what waits
      pub table_left : answered ≢ 0 → called.table ≡ t
      pub shelf_left : answered ≢ 0 → answered ≢ 9 → called.shelf ≡ s
      pub none_tried : answered ≢ 0 → called.tries ≡ []
      pub nine_waits : answered ≡ 9 → called.shelf ≡ shelf_bytes (waiting_last (waiting_in s) c b)
      -- after an admission each try is an admission of its own, from the table that the admission before it left
      pub tried_from : answered ≡ 0 → TriedFrom (admitted digest t b verdict) called.tries called.table
      -- "until a pass admits none": what still waits for the campaign after the call would get 9 from the table that the call leaves
      pub settled : answered ≡ 0 → (w : Waiting) → Memᴰ w (waiting_in called.shelf) → w.campaign ≡ c
          → (admission digest called.table w.block 1).refusal ≡ 9
      -- the outcomes fit into a buffer of outcomes_size numbers
      pub few : length (listed called) ≤ max_share
      -- what waits for another campaign stays, in its order
      pub other_campaigns : (d : ℕ) → c ≢ d → only d (waiting_in called.shelf) ≡ only d (waiting_in s)
      -- nothing is lost and nothing is invented: the bytes x wait or have ended, after the call, as often as they waited before it, and once more if
      -- the arrival is x and got 9
      pub accounted : (x : Bytes)
          → times_waiting c x (waiting_in called.shelf) + times_ended x called.tries
          ≡ times_waiting c x (waiting_in s) + cond (eqb answered 9 && same_bytes b x) 1 0

  pub record Promises : Type 0 where
    pub kept : (t s : Bytes) (c : ℕ) (b : Bytes) (verdict room : ℕ) → CallKeeps t s c b verdict room
