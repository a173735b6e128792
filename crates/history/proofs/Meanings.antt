-- What holds of every slot's record in every block's meaning: sixteen entries for each kind heard; what is made is what is sent, and only
-- where the parent has sent none; what the parent has sent stays; the rules by which the heard are counted have been followed; what is sent
-- was made in a block of the lineage; and what a block referred to made is heard. Assumes nothing.
use mathlib.Core.Path.{◌≡◌, sym, ap, ◌∙◌}
use mathlib.Core.Logic.{◌≢◌, inl, inr}
use mathlib.Core.List.{Memᴰ}
use Prim.Native.Nat.{ℕ, ◌≤◌, ◌<◌}
use Rattle.base.specs.Bytes.{Bytes}
use Rattle.setup.specs.Setup.{max_sites, Setup, owner_of}
use Rattle.block.specs.Layout.{site_of, sequence_of, request_for}
use Rattle.broadcast.specs.declared.Kind.{Kind}
use Rattle.broadcast.specs.declared.SlotRecord.{SlotRecord}
use Rattle.broadcast.specs.Record.{nothing_made}
use Rattle.broadcast.specs.Process.{made_of}
use Rattle.broadcast.proofs.Steps.{Entry, entry_of, Sized}
use Rattle.broadcast.proofs.Monotonicity.{Kept, MadeOnce}
use Rattle.broadcast.proofs.Hearing.{Heard}
use Rattle.broadcast.proofs.ThresholdInvariant.{Settled}
use Rattle.interpret.specs.Slot.{Direct, parent_state}
use Rattle.interpret.proofs.Order.{interpret_slot_sized}
use Rattle.interpret.proofs.Records.{none_made, interpret_slot_kept, interpret_slot_once, interpret_slot_made, interpret_slot_sends, interpret_slot_heard, interpret_slot_settled}
use Rattle.history.specs.History.{History, Histories, node, block_of, list_of, children, slot_record, directs}
use Rattle.history.proofs.Histories.{child_ind, Lineage, here, older, direct_of, directs_from, directs_has, parent_cases}

module _ (s : Setup) (slot : ℕ) where
  -- what holds of the record of each block referred to holds of each direct
  of_directs : (P : SlotRecord → Type 0) (hs : Histories) → ((c : History) → Memᴰ c (list_of hs) → P (slot_record s slot c))
      → (d : Direct) → Memᴰ d (directs s slot hs) → P d.state
  unfolding direct_of
  of_directs P hs ih d m = let w = directs_from s slot hs d m in rw w.2 (ih w.0 w.1)

  pub record_sized : (h : History) → Sized (slot_record s slot h)
  unfolding slot_record
  record_sized = child_ind (λ h. Sized (slot_record s slot h)) go
    where
      go : (h : History) → ((c : History) → Memᴰ c (children h) → Sized (slot_record s slot c)) → Sized (slot_record s slot h)
      go (node b hs) ih = interpret_slot_sized s slot (site_of b) (sequence_of b) (request_for b slot) (directs s slot hs) (of_directs Sized hs ih)

  pub record_settled : (h : History) → Settled s.sites (slot_record s slot h)
  unfolding slot_record
  record_settled = child_ind (λ h. Settled s.sites (slot_record s slot h)) go
    where
      go : (h : History) → ((c : History) → Memᴰ c (children h) → Settled s.sites (slot_record s slot c)) → Settled s.sites (slot_record s slot h)
      go (node b hs) ih =
          interpret_slot_settled s slot (site_of b) (sequence_of b) (request_for b slot) (directs s slot hs) (of_directs (Settled s.sites) hs ih)

  pub record_kept : (b : Bytes) (hs : Histories) → Kept (parent_state (site_of b) (sequence_of b) (directs s slot hs)) (slot_record s slot (node b hs))
  unfolding slot_record
  record_kept b hs = interpret_slot_kept s slot (site_of b) (sequence_of b) (request_for b slot) (directs s slot hs)

  pub record_made : (b : Bytes) (hs : Histories) (e : Entry) → entry_of e (slot_record s slot (node b hs)).made ≢ 0
      → (entry_of e (slot_record s slot (node b hs)).made ≡ entry_of e (slot_record s slot (node b hs)).sent)
      × (entry_of e (parent_state (site_of b) (sequence_of b) (directs s slot hs)).sent ≡ 0)
  unfolding slot_record
  record_made b hs = interpret_slot_made s slot (site_of b) (sequence_of b) (request_for b slot) (directs s slot hs)

  record_once : (b : Bytes) (hs : Histories) → MadeOnce (nothing_made (parent_state (site_of b) (sequence_of b) (directs s slot hs))) (slot_record s slot (node b hs))
  unfolding slot_record
  record_once b hs = interpret_slot_once s slot (site_of b) (sequence_of b) (request_for b slot) (directs s slot hs)

  -- what has been sent was made in a block of the lineage
  pub record MadeInLineage (e : Entry) (h : History) : Type 0 where
    pub maker : History
    pub lineage : Lineage maker h
    pub makes : entry_of e (slot_record s slot maker).made ≡ entry_of e (slot_record s slot h).sent

  pub made_in_lineage : (e : Entry) (h : History) → entry_of e (slot_record s slot h).sent ≢ 0 → MadeInLineage e h
  made_in_lineage e = child_ind (λ h. entry_of e (slot_record s slot h).sent ≢ 0 → MadeInLineage e h) go
    where
      go : (h : History) → ((c : History) → Memᴰ c (children h) → entry_of e (slot_record s slot c).sent ≢ 0 → MadeInLineage e c)
          → entry_of e (slot_record s slot h).sent ≢ 0 → MadeInLineage e h
      go (node b hs) ih n = elim (record_once b hs e) [
        | inr a ↦ record { maker = node b hs; lineage = here; makes = a.made_sent }
        | inl a ↦ elim (parent_cases s slot b hs) [
          | inl w ↦
              let same : entry_of e (slot_record s slot (node b hs)).sent ≡ entry_of e (slot_record s slot w.parent).sent =
              a.sent_same ∙ ap (λ (r : SlotRecord). entry_of e r.sent) w.its in
              let m = ih w.parent w.among (λ z. n (same ∙ z)) in
              record { maker = m.maker; lineage = older m.lineage w.among w.is_parent; makes = m.makes ∙ sym same }
          | inr w ↦ absurd (n (a.sent_same ∙ ap (λ (r : SlotRecord). entry_of e r.sent) w.blank_is ∙ none_made e))
        ]
      ]

  -- what a block referred to made is heard
  pub record_heard : s.sites ≤ max_sites → (k : Kind) (h c : History) → Memᴰ c (children h) → site_of (block_of c) < s.sites
      → made_of k (slot_record s slot c) ≢ 0 → Heard (owner_of s slot) k (site_of (block_of c)) (slot_record s slot h)
  unfolding slot_record direct_of
  record_heard few k (node b hs) c m low n =
      interpret_slot_heard s slot (site_of b) (sequence_of b) (request_for b slot) (directs s slot hs) few (of_directs Sized hs (λ x _. record_sized x))
      k (direct_of s slot c) (directs_has s slot hs c m) low n

  -- a counted request of the owner is sent where none was before
  pub record_sends : (b : Bytes) (hs : Histories) → site_of b ≡ owner_of s slot → request_for b slot ≢ 0
      → (parent_state (site_of b) (sequence_of b) (directs s slot hs)).sent.send ≡ 0 → (slot_record s slot (node b hs)).made.send ≡ request_for b slot
  unfolding slot_record
  record_sends b hs = interpret_slot_sends s slot (site_of b) (sequence_of b) (request_for b slot) (directs s slot hs)
