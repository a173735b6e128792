-- A record and its forty numbers: a record is read from forty numbers alone, and a record that was made into numbers is read back from them. Assumes
-- nothing.
use mathlib.Core.Path.{◌≡◌, refl, sym, ap, ◌∙◌}
use mathlib.Core.List.{List, ◌++◌}
use Prim.Native.Nat.{ℕ, ◌+◌, ◌≤◌, ◌<◌}
use native.Mathlib.Nat.{add_assoc}
use native.Mathlib.Omega.{arith}
use lib.ListN.{length, get_or, take, drop, length-append, length-drop}
use lib.Seq.{length-take-le, take_at, drop_at, drop-drop, get_or-take, get_or-drop}
use Rattle.base.proofs.Parts.{part_of_front}
use Rattle.setup.specs.Setup.{max_sites}
use Rattle.broadcast.specs.declared.SlotRecord.{SlotRecord}
use Rattle.broadcast.proofs.Steps.{Sized}
use Rattle.records.specs.Layout.{echoes_offset, readies_offset, made_offset, record_size, sent_numbers, flatten, sent_at, record_at}

-- ---- a record is read from its own numbers

sent_from : (b : List ℕ) (at n k : ℕ) → n + 4 ≤ k → sent_at b (at + n) ≡ sent_at (take k (drop at b)) n
sent_from b at n k h = λ i. record { send = here n (omega arith) i; echo = number 1 (omega arith) i; ready = number 2 (omega arith) i; delivered = number 3 (omega arith) i }
  where
    here : (m : ℕ) → m < k → get_or b (at + m) 0 ≡ get_or (take k (drop at b)) m 0
    here m l = sym (get_or-take k (drop at b) m 0 l ∙ get_or-drop at b m 0)

    number : (m : ℕ) → m < 4 → get_or b (at + n + m) 0 ≡ get_or (take k (drop at b)) (n + m) 0
    number m l = ap (λ (j : ℕ). get_or b j 0) (add_assoc at n m) ∙ here (n + m) (omega arith)

heard_from_lem : (b : List ℕ) (at n k : ℕ) → n + max_sites ≤ k → take max_sites (drop (at + n) b) ≡ take max_sites (drop n (take k (drop at b)))
heard_from_lem b at n k h = ap (take max_sites) (sym (drop-drop n at b)) ∙ sym (part_of_front n max_sites k (drop at b) h)

pub record_from : (b : List ℕ) (at : ℕ) → record_at b at ≡ record_at (take record_size (drop at b)) 0
unfolding record_at
record_from b at = λ i.
    record {
      sent = first i;
      echoes = heard_from_lem b at echoes_offset record_size (omega arith) i;
      readies = heard_from_lem b at readies_offset record_size (omega arith) i;
      made = sent_from b at made_offset record_size (omega arith) i;
    }
  where
    first : sent_at b at ≡ sent_at (take record_size (drop at b)) 0
    first = let z : at ≡ at + 0 = omega arith in ap (sent_at b) z ∙ sent_from b at 0 record_size (omega arith)

-- ---- the numbers of a record read to that record

module _ (r : SlotRecord) (s : Sized r) where
  pub flatten_length : length (flatten r) ≡ record_size
  unfolding flatten
  flatten_length =
      let e = length-append r.echoes (r.readies ++ sent_numbers r.made) in
      let f = length-append r.readies (sent_numbers r.made) in
      omega (arith, s.echoes_size, s.readies_size)

  from_echoes : drop echoes_offset (flatten r) ≡ r.echoes ++ (r.readies ++ sent_numbers r.made)
  unfolding flatten
  from_echoes = refl

  from_readies : drop readies_offset (flatten r) ≡ r.readies ++ sent_numbers r.made
  from_readies =
      sym (drop-drop max_sites echoes_offset (flatten r)) ∙ ap (drop max_sites) from_echoes
      ∙ drop_at r.echoes (r.readies ++ sent_numbers r.made) max_sites s.echoes_size

  from_made : drop made_offset (flatten r) ≡ sent_numbers r.made
  from_made =
      sym (drop-drop max_sites readies_offset (flatten r)) ∙ ap (drop max_sites) from_readies
      ∙ drop_at r.readies (sent_numbers r.made) max_sites s.readies_size

  made_at : (m : ℕ) → get_or (flatten r) (made_offset + m) 0 ≡ get_or (sent_numbers r.made) m 0
  made_at m = sym (get_or-drop made_offset (flatten r) m 0) ∙ ap (λ (l : List ℕ). get_or l m 0) from_made

  pub record_flatten : record_at (flatten r) 0 ≡ r
  unfolding record_at flatten
  record_flatten = λ i.
      record {
        sent = r.sent;
        echoes = (ap (take max_sites) from_echoes ∙ take_at r.echoes (r.readies ++ sent_numbers r.made) max_sites s.echoes_size) i;
        readies = (ap (take max_sites) from_readies ∙ take_at r.readies (sent_numbers r.made) max_sites s.readies_size) i;
        made = record { send = made_at 0 i; echo = made_at 1 i; ready = made_at 2 i; delivered = made_at 3 i };
      }

-- a record read where the numbers reach has an entry for each site
pub record_sized : (b : List ℕ) (at : ℕ) → at + record_size ≤ length b → Sized (record_at b at)
unfolding record_at
record_sized b at h =
    record {
      echoes_size = length-take-le max_sites (drop (at + echoes_offset) b) (omega (arith, length-drop (at + echoes_offset) b));
      readies_size = length-take-le max_sites (drop (at + readies_offset) b) (omega (arith, length-drop (at + readies_offset) b));
    }
