-- Document 01, "Listing program and C host": the listing of a whole input, as text.
use Rattle.std.specs.Prelude.{cond, List, [], ◌∷◌, ◌++◌, ℕ, suc, eqb, drop}
use Rattle.base.specs.Bytes.{Bytes, concat}
use Rattle.base.specs.List.{list_below}
use Rattle.answer.specs.declared.Answer.{Answer}
use Rattle.setup.specs.Setup.{lawful, slot_count}
use Rattle.block.specs.Layout.{site_of, sequence_of}
use Rattle.records.specs.Layout.{delivered_in}
use Rattle.run.specs.Ledger.{Call, admit, interpret}
use Rattle.run.specs.Run.{Site, started, site_answer, site_step}
use Rattle.report.specs.declared.Delivery.{Delivery}
use Rattle.report.specs.Text.{names, setup_line, refused_line, unread_line, delivery_text}
use Rattle.report.specs.Arrivals.{Arrival, arrived, unread, setup_size, setup_in, arrivals_in}

-- the delivery of a block at a place in a slot; its number is 0 where nothing is delivered
abbrev pub delivery : List ℕ → ℕ → ℕ → ℕ → ℕ → ℕ → Delivery
delivery records arrival place site sequence slot =
    record {
      arrival = arrival;
      place = place;
      site = site;
      sequence = sequence;
      slot = slot;
      number = delivered_in records place slot;
    }

-- the lines of a block's deliveries: "A line stands for each delivery (lower slot first)"
unfoldable pub delivery_lines : List ℕ → ℕ → ℕ → ℕ → ℕ → Bytes
delivery_lines records arrival place site sequence =
    concat (list_below (λ slot. delivery_text (delivery records arrival place site sequence slot)) slot_count)

module _ (digest : Bytes → Bytes) where
  module _ (x : Site) (b : Bytes) (verdict : ℕ) where
    -- "Each admitted block is interpreted directly": what the admission answers and leaves, and the call to interpret the place that it answered
    abbrev pub admission_answer : Answer
    admission_answer = site_answer digest x (admit b verdict)

    abbrev pub site_admitted : Site
    site_admitted = site_step digest x (admit b verdict)

    abbrev pub interpretation_call : Call
    interpretation_call = interpret admission_answer.value

    -- the site after the arrival of a block: after both calls, or as it was where the admission is refused and no interpretation follows
    unfoldable pub site_arrived : Site
    site_arrived = cond (eqb admission_answer.refusal 0) (site_step digest site_admitted interpretation_call) x

    -- the refusal of the arrival of a block: that of the first of the two calls that is refused, 0 if neither is
    unfoldable pub arrival_refusal : ℕ
    arrival_refusal =
        cond (eqb admission_answer.refusal 0) (site_answer digest site_admitted interpretation_call).refusal admission_answer.refusal

    -- the lines of the arrival of a block: "A line stands for each delivery .. and each refused arrival"
    unfoldable pub arrival_lines : ℕ → Bytes
    arrival_lines arrival =
        cond (eqb arrival_refusal 0)
        (delivery_lines site_arrived.records arrival admission_answer.value (site_of b) (sequence_of b))
        (refused_line arrival arrival_refusal)

  -- the lines of a list of arrivals, the first of which has this number, at the site x
  unfoldable pub listing_from : ℕ → Site → List Arrival → Bytes
  listing_from arrival x [] = []
  listing_from arrival x (unread ∷ rest) = unread_line arrival ++ listing_from (suc arrival) x rest
  listing_from arrival x (arrived b verdict ∷ rest) =
      arrival_lines x b verdict arrival ++ listing_from (suc arrival) (site_arrived x b verdict) rest

  -- the text of the listing of an input, at a site with this record buffer; "arrivals count from 0"
  unfoldable pub listing : List ℕ → Bytes → Bytes
  listing buffer input =
      names
      ++ cond (lawful (setup_in input)) (listing_from 0 (started (setup_in input) buffer) (arrivals_in (drop setup_size input))) (setup_line 1)
