-- Document 01, "One slot's process": one message by itself, also on records that no calls reach. n 4, and site 0 owns the slot, where nothing
-- else is said.
use Rattle.std.specs.Prelude.{◌≡◌, List, [], ◌∷◌, ℕ}
use Rattle.broadcast.specs.declared.Kind.{Kind}
use Rattle.broadcast.specs.declared.Kind.TheVariants.{Send, Echo, Ready}
use Rattle.broadcast.specs.declared.Sent.{Sent}
use Rattle.broadcast.specs.declared.SlotRecord.{SlotRecord}
use Rattle.broadcast.specs.Record.{none, with_ready, with_delivered, in_both, note_echo, note_ready}
use Rattle.broadcast.specs.Process.{received}

-- what was heard from sites 0 and 1, and 42 heard from site 9, which n 4 does not have
abbrev pub heard : ℕ → ℕ → List ℕ
heard first second = first ∷ second ∷ 0 ∷ 0 ∷ 0 ∷ 0 ∷ 0 ∷ 0 ∷ 0 ∷ 42 ∷ 0 ∷ 0 ∷ 0 ∷ 0 ∷ 0 ∷ 0 ∷ []

-- a record in which this was sent, these ECHOs and READYs were heard, and nothing was made
abbrev pub having : Sent → List ℕ → List ℕ → SlotRecord
having sent echoes readies = record { sent = sent; echoes = echoes; readies = readies; made = none }

pub record MessageCases : Type 0 where
  -- "SEND v from the owner": "From others: nothing", on a record of any content
  pub send_of_other : (r : SlotRecord) → received r 4 0 Send 1 42 ≡ r
  -- "A message of number 0 .. changes nothing"
  pub no_number : (r : SlotRecord) (kind : Kind) → received r 4 0 kind 0 0 ≡ r
  -- "or from a sender not below n": sender 4, though the slot's owner is given as 4; and sender 255, the greatest
  pub sender_four : (r : SlotRecord) (kind : Kind) → received r 4 4 kind 4 42 ≡ r
  pub sender_last : (r : SlotRecord) (kind : Kind) → received r 4 0 kind 255 42 ≡ r
  -- no setup has more than 16 sites, and a record has no entry for a seventeenth
  pub seventeen_sites : (r : SlotRecord) (kind : Kind) → received r 17 16 kind 16 42 ≡ r
  -- "the sites below n whose heard entry is v": site 9 is no supporter, so in each row one supporter is missing
  pub echo_one_short : received (having none (heard 42 0) (heard 0 0)) 4 0 Echo 1 42 ≡ having none (heard 42 42) (heard 0 0)
  pub ready_one_short : received (having none (heard 0 0) (heard 0 0)) 4 0 Ready 0 42 ≡ having none (heard 0 0) (heard 42 0)
  pub delivery_one_short :
      received (having (with_ready 42 none) (heard 0 0) (heard 42 0)) 4 0 Ready 1 42 ≡ having (with_ready 42 none) (heard 0 0) (heard 42 42)
  -- beside supporters a READY asks only that "READY isn't sent": here another number is delivered. A delivery asks only that "nothing is delivered":
  -- here another number is
  pub ready_though_delivered :
      received (having (with_delivered 9 none) (heard 42 42) (heard 0 0)) 4 0 Echo 2 42
      ≡ in_both (with_ready 42) (note_echo 2 42 (having (with_delivered 9 none) (heard 42 42) (heard 0 0)))
  pub noted_though_delivered :
      received (having (with_delivered 9 (with_ready 8 none)) (heard 42 42) (heard 42 42)) 4 0 Ready 2 42
      ≡ note_ready 2 42 (having (with_delivered 9 (with_ready 8 none)) (heard 42 42) (heard 42 42))
