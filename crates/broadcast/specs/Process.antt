-- Document 01, "One slot's process": what one message changes. n is the number of sites, p the sender and v the number of a message; the thresholds
-- are those of crates/setup.
use Rattle.std.specs.Prelude.{Bool, true, false, not, ◌&&◌, List, [], ◌∷◌, ℕ, eqb, leb, ltb, get_or}
use Rattle.std.specs.Int.Count.{ones}
use Rattle.base.specs.Mask.{mask_below}
use Rattle.setup.specs.Setup.{max_sites, echo_quorum, ready_amplification, ready_quorum}
use Rattle.broadcast.specs.declared.Kind.{Kind}
use Rattle.broadcast.specs.declared.Kind.TheVariants.{Send, Echo, Ready}
use Rattle.broadcast.specs.declared.SlotRecord.{SlotRecord}
use Rattle.broadcast.specs.Record.{with_send, with_echo, with_ready, with_delivered, in_both, note_echo, note_ready}

pub record Message : Type 0 where
  pub kind : Kind
  pub sender : ℕ
  pub number : ℕ

abbrev pub message : Kind → ℕ → ℕ → Message
message kind sender number = record { kind = kind; sender = sender; number = number }

-- the number of the message of this kind that was made in the record's block, 0 if there is none: entries 36, 37 and 38
unfoldable pub made_of : Kind → SlotRecord → ℕ
made_of Send r = r.made.send
made_of Echo r = r.made.echo
made_of Ready r = r.made.ready

-- "a mask of the sites below n whose heard entry is v"
abbrev pub supporters : ℕ → List ℕ → ℕ → ℕ
supporters n heard v = mask_below (λ p. eqb (get_or heard p 0) v) n

-- how many supporters v has: "their number is the count of its ones"
unfoldable pub support : ℕ → List ℕ → ℕ → ℕ
support n heard v = ones (supporters n heard v)

-- a step that is taken only if the test passes
unfoldable pub only_if : Bool → (SlotRecord → SlotRecord) → SlotRecord → SlotRecord
only_if true step r = step r
only_if false step r = r

-- "If v now has at least 2f + 1 supporters and READY isn't sent, send READY v"
unfoldable pub ready_on_echoes : ℕ → ℕ → SlotRecord → SlotRecord
ready_on_echoes n v r = only_if (eqb r.sent.ready 0 && leb (echo_quorum n) (support n r.echoes v)) (in_both (with_ready v)) r

-- "If v has at least f + 1 supporters and READY isn't sent, send READY v"
unfoldable pub ready_on_readies : ℕ → ℕ → SlotRecord → SlotRecord
ready_on_readies n v r = only_if (eqb r.sent.ready 0 && leb (ready_amplification n) (support n r.readies v)) (in_both (with_ready v)) r

-- "If v has at least 2f + 1 and nothing is delivered, deliver v"
unfoldable pub deliver_on_readies : ℕ → ℕ → SlotRecord → SlotRecord
deliver_on_readies n v r = only_if (eqb r.sent.delivered 0 && leb (ready_quorum n) (support n r.readies v)) (in_both (with_delivered v)) r

-- "SEND v from the owner, ECHO not sent: send ECHO v. From others: nothing"
unfoldable pub take_send : ℕ → ℕ → ℕ → SlotRecord → SlotRecord
take_send owner p v r = only_if (eqb p owner && eqb r.sent.echo 0) (in_both (with_echo v)) r

-- "ECHO v from p, none heard from p: note v", and then READY as far as it is due
unfoldable pub take_echo : ℕ → ℕ → ℕ → SlotRecord → SlotRecord
take_echo n p v r = only_if (eqb (get_or r.echoes p 0) 0) (λ q. ready_on_echoes n v (note_echo p v q)) r

-- "READY v from p, none heard from p: note v", and then READY and delivery as far as they are due
unfoldable pub take_ready : ℕ → ℕ → ℕ → SlotRecord → SlotRecord
take_ready n p v r = only_if (eqb (get_or r.readies p 0) 0) (λ q. deliver_on_readies n v (ready_on_readies n v (note_ready p v q))) r

-- a message by its kind, where it is of a number that is not 0 and from a site
unfoldable pub take : ℕ → ℕ → Kind → ℕ → ℕ → SlotRecord → SlotRecord
take n owner Send p v r = take_send owner p v r
take n owner Echo p v r = take_echo n p v r
take n owner Ready p v r = take_ready n p v r

-- the record after one message. "A message of number 0 or from a sender not below n changes nothing"; nor does any message where n is above 16, which
-- no setup has
unfoldable pub receive : ℕ → ℕ → Message → SlotRecord → SlotRecord
receive n owner m r =
    only_if (not (eqb m.number 0) && (ltb m.sender n && leb n max_sites)) (take n owner m.kind m.sender m.number) r

-- the record after one message, with the arguments in the order of the code's parameters
abbrev pub received : SlotRecord → ℕ → ℕ → Kind → ℕ → ℕ → SlotRecord
received r n owner kind sender number = receive n owner (message kind sender number) r

-- the record after a list of messages, one after the other
unfoldable pub receive_all : ℕ → ℕ → List Message → SlotRecord → SlotRecord
receive_all n owner [] r = r
receive_all n owner (m ∷ ms) r = receive_all n owner ms (receive n owner m r)

-- "Interpreting a place": the record after the counted request v, 0 if there is none, of a block of this site. SEND v is sent if the site is the
-- owner and no SEND was sent before
unfoldable pub take_request : ℕ → ℕ → ℕ → SlotRecord → SlotRecord
take_request owner site v r = only_if (not (eqb v 0) && (eqb site owner && eqb r.sent.send 0)) (in_both (with_send v)) r
