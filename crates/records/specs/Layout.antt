-- Document 01, "One slot's process", a record's 40 numbers; and "Interpreting a place": "The records lie in one lent buffer of 20,480 numbers,
-- place after place, slot after slot".
use Rattle.std.specs.Prelude.{List, [], ◌∷◌, ◌++◌, ℕ, ◌+◌, ◌*◌, get_or, take, drop}
use Rattle.base.specs.List.{list_below}
use Rattle.base.specs.Bytes.{part_at, concat}
use Rattle.setup.specs.Setup.{max_sites, slot_count}
use Rattle.broadcast.specs.declared.Sent.{Sent}
use Rattle.broadcast.specs.declared.SlotRecord.{SlotRecord}
use Rattle.table.specs.View.{max_places}

-- ---- a record's numbers

-- the numbers of what is sent: SEND, ECHO, READY and delivery
abbrev pub sent_count : ℕ
sent_count = 4

abbrev pub echoes_offset : ℕ
echoes_offset = sent_count

abbrev pub readies_offset : ℕ
readies_offset = echoes_offset + max_sites

abbrev pub made_offset : ℕ
made_offset = readies_offset + max_sites

-- 40 numbers
abbrev pub record_size : ℕ
record_size = made_offset + sent_count

abbrev pub sent_numbers : Sent → List ℕ
sent_numbers s = s.send ∷ s.echo ∷ s.ready ∷ s.delivered ∷ []

-- a record's numbers: 0 to 3 sent so far, 4 to 19 ECHO heard, 20 to 35 READY heard, 36 to 39 made in this block
unfoldable pub flatten : SlotRecord → List ℕ
flatten r = sent_numbers r.sent ++ (r.echoes ++ (r.readies ++ sent_numbers r.made))

abbrev pub sent_at : List ℕ → ℕ → Sent
sent_at b at = record { send = get_or b at 0; echo = get_or b (at + 1) 0; ready = get_or b (at + 2) 0; delivered = get_or b (at + 3) 0 }

-- the record whose numbers stand from an index on
unfoldable pub record_at : List ℕ → ℕ → SlotRecord
record_at b at =
    record {
      sent = sent_at b at;
      echoes = take max_sites (drop (at + echoes_offset) b);
      readies = take max_sites (drop (at + readies_offset) b);
      made = sent_at b (at + made_offset);
    }

-- ---- the buffer

-- a place's part: 320 numbers
abbrev pub part_size : ℕ
part_size = record_size * slot_count

-- 20,480 numbers
abbrev pub buffer_size : ℕ
buffer_size = part_size * max_places

-- where the part of a place begins
abbrev pub part_start : ℕ → ℕ
part_start i = part_size * i

-- the part of a place
abbrev pub part_of : List ℕ → ℕ → List ℕ
part_of buffer i = part_at part_size buffer i

-- a slot's record in the part of a place
abbrev pub record_in : List ℕ → ℕ → ℕ → SlotRecord
record_in buffer i slot = record_at buffer (part_start i + record_size * slot)

-- the number that the block of a place delivers in a slot, 0 if there is none: entry 39 of the slot's record
abbrev pub delivered_in : List ℕ → ℕ → ℕ → ℕ
delivered_in buffer i slot = (record_in buffer i slot).made.delivered

-- the numbers of eight records in a row, one record for each slot
unfoldable pub numbers_of : (ℕ → SlotRecord) → List ℕ
numbers_of records = concat (list_below (λ slot. flatten (records slot)) slot_count)
