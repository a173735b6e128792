-- Document 01, "One slot's process": a record, and what sending, delivering and hearing change in it.
use Rattle.std.specs.Prelude.{ℕ, set, replicate}
use Rattle.setup.specs.Setup.{max_sites}
use Rattle.broadcast.specs.declared.Sent.{Sent}
use Rattle.broadcast.specs.declared.SlotRecord.{SlotRecord}

-- no SEND, ECHO or READY sent and no number delivered: 0 stands for none
abbrev pub none : Sent
none = record { send = 0; echo = 0; ready = 0; delivered = 0 }

abbrev pub with_send : ℕ → Sent → Sent
with_send v s = record { send = v; echo = s.echo; ready = s.ready; delivered = s.delivered }

abbrev pub with_echo : ℕ → Sent → Sent
with_echo v s = record { send = s.send; echo = v; ready = s.ready; delivered = s.delivered }

abbrev pub with_ready : ℕ → Sent → Sent
with_ready v s = record { send = s.send; echo = s.echo; ready = v; delivered = s.delivered }

abbrev pub with_delivered : ℕ → Sent → Sent
with_delivered v s = record { send = s.send; echo = s.echo; ready = s.ready; delivered = v }

-- ---- the record: what was sent so far, the ECHO and the READY heard from each site, and what was made in this block

-- the record of a block without a parent, before anything is sent or heard
abbrev pub blank : SlotRecord
blank = record { sent = none; echoes = replicate max_sites 0; readies = replicate max_sites 0; made = none }

-- how a block starts from its parent's record r: entries 0 to 35 as they are, entries 36 to 39 as 0
abbrev pub nothing_made : SlotRecord → SlotRecord
nothing_made r = record { sent = r.sent; echoes = r.echoes; readies = r.readies; made = none }

-- "Sending or delivering v puts v in its entry of 0 to 3 and in its entry of 36 to 39"
abbrev pub in_both : (Sent → Sent) → SlotRecord → SlotRecord
in_both put r = record { sent = put r.sent; echoes = r.echoes; readies = r.readies; made = put r.made }

-- the record with number v noted as the ECHO heard from site p
abbrev pub note_echo : ℕ → ℕ → SlotRecord → SlotRecord
note_echo p v r = record { sent = r.sent; echoes = set r.echoes p v; readies = r.readies; made = r.made }

-- the record with number v noted as the READY heard from site p
abbrev pub note_ready : ℕ → ℕ → SlotRecord → SlotRecord
note_ready p v r = record { sent = r.sent; echoes = r.echoes; readies = set r.readies p v; made = r.made }
