-- Document 01, "One slot's process", sentence by sentence, and the request rule of "Interpreting a place": what one message changes and what it
-- leaves, for every record and all numbers; proofs/Promises.antt shows it.
use Rattle.std.specs.Prelude.{◌≡◌, ◌↔◌, ◌⊎◌, ◌≢◌, Bool, true, List, ℕ, ◌≤◌, ◌<◌, eqb, get_or, set}
use Rattle.base.specs.Count.{count_below}
use Rattle.setup.specs.Setup.{max_sites, echo_quorum, ready_amplification, ready_quorum}
use Rattle.broadcast.specs.declared.Kind.{Kind}
use Rattle.broadcast.specs.declared.Kind.TheVariants.{Send, Echo, Ready}
use Rattle.broadcast.specs.declared.SlotRecord.{SlotRecord}
use Rattle.broadcast.specs.Record.{with_send, with_echo, with_ready, with_delivered, in_both, note_echo, note_ready}
use Rattle.broadcast.specs.Process.{only_if, received, take_request}

-- v has at least so many supporters: "the sites below n whose heard entry is v"
abbrev pub Supported : ℕ → List ℕ → ℕ → ℕ → Type 0
Supported n heard v least = least ≤ count_below (λ p. eqb (get_or heard p 0) v) n

-- a message of number v from p is not one "of number 0 or from a sender not below n", and n is at most 16, as a record has entries for 16 sites
pub record Regular (n p v : ℕ) : Type 0 where
  pub sites : n ≤ max_sites
  pub sender : p < n
  pub number : v ≢ 0

-- a message of number v from p, in a slot of n sites with this owner, where the record before it is r
module _ (n owner : ℕ) (r : SlotRecord) (p v : ℕ) where
  -- "If v now has at least 2f + 1 supporters and READY isn't sent", the ECHO from p among them
  pub record ReadyByEchoes : Type 0 where
    pub unsent : r.sent.ready ≡ 0
    pub enough : Supported n (set r.echoes p v) v (echo_quorum n)

  -- "If v has at least f + 1 supporters and READY isn't sent", the READY from p among them
  pub record ReadyByReadies : Type 0 where
    pub unsent : r.sent.ready ≡ 0
    pub enough : Supported n (set r.readies p v) v (ready_amplification n)

  -- "If v has at least 2f + 1 and nothing is delivered", the READY from p among them
  pub record DeliveryByReadies : Type 0 where
    pub undelivered : r.sent.delivered ≡ 0
    pub enough : Supported n (set r.readies p v) v (ready_quorum n)

  -- what one message changes, by its kind
  pub record OneMessage : Type 0 where
    -- "A message of number 0 or from a sender not below n changes nothing"
    pub irregular : (kind : Kind) → (Regular n p v → ⊥) → received r n owner kind p v ≡ r
    -- "SEND v from the owner, ECHO not sent: send ECHO v"
    pub send_taken : Regular n p v → p ≡ owner → r.sent.echo ≡ 0 → received r n owner Send p v ≡ in_both (with_echo v) r
    pub echo_sent : r.sent.echo ≢ 0 → received r n owner Send p v ≡ r
    -- "From others: nothing"
    pub from_others : p ≢ owner → received r n owner Send p v ≡ r
    -- "ECHO v from p, none heard from p: note v"; `ready` says whether READY v is sent
    pub echo_taken : Regular n p v → get_or r.echoes p 0 ≡ 0 → (ready : Bool) → ((ready ≡ true) ↔ ReadyByEchoes)
        → received r n owner Echo p v ≡ only_if ready (in_both (with_ready v)) (note_echo p v r)
    pub echo_heard : get_or r.echoes p 0 ≢ 0 → received r n owner Echo p v ≡ r
    -- "READY v from p, none heard from p: note v"; `ready` says whether READY v is sent, `delivery` whether v is delivered
    pub ready_taken : Regular n p v → get_or r.readies p 0 ≡ 0 → (ready delivery : Bool) → ((ready ≡ true) ↔ ReadyByReadies)
        → ((delivery ≡ true) ↔ DeliveryByReadies)
        → received r n owner Ready p v ≡ only_if delivery (in_both (with_delivered v)) (only_if ready (in_both (with_ready v)) (note_ready p v r))
    pub ready_heard : get_or r.readies p 0 ≢ 0 → received r n owner Ready p v ≡ r

  -- a block of site p with the counted request v, 0 if it has none: "its site is the owner and entry 0 is 0, it sends SEND v"
  pub record OneRequest : Type 0 where
    pub sends : v ≢ 0 → p ≡ owner → r.sent.send ≡ 0 → take_request owner p v r ≡ in_both (with_send v) r
    pub nothing : (v ≡ 0) ⊎ ((p ≢ owner) ⊎ (r.sent.send ≢ 0)) → take_request owner p v r ≡ r

pub record Promises : Type 0 where
  pub message : (n owner : ℕ) (r : SlotRecord) (p v : ℕ) → OneMessage n owner r p v
  pub requested : (n owner : ℕ) (r : SlotRecord) (p v : ℕ) → OneRequest n owner r p v
