-- What a block's record takes over from its parent's, that each entry is made at most once in the blocks of a chain, that the owner's first
-- counted request is sent, that every message is heard, and that the rules by which the heard are counted have been followed.
-- Assumes nothing.
use mathlib.Core.Path.{◌≡◌, refl, sym, ap, ◌∙◌}
use mathlib.Core.Logic.{◌≢◌, inl, inr}
use mathlib.Core.List.{List, Memᴰ}
use Prim.Native.Nat.{ℕ, ◌≤◌, ◌<◌}
use borrow.Author.Tests.{eq-eqb, ne_eqb}
use Rattle.setup.specs.Setup.{max_sites, Setup, owner_of}
use Rattle.broadcast.specs.declared.Kind.{Kind}
use Rattle.broadcast.specs.declared.SlotRecord.{SlotRecord}
use Rattle.broadcast.specs.Record.{none, nothing_made, with_send, in_both}
use Rattle.broadcast.specs.Process.{message, made_of, only_if, take_request}
use Rattle.broadcast.proofs.Steps.{Entry, entry_of, Sized, blank_sized, nothing_made_sized, request_sized}
use Rattle.broadcast.proofs.Steps.Entry.{send_entry, echo_entry, ready_entry, delivery_entry}
use Rattle.broadcast.proofs.Monotonicity.{Kept, kept_both, nothing_made_kept, request_kept, receive_all_kept, MadeOnce, once_both, request_once, receive_all_once}
use Rattle.broadcast.proofs.Hearing.{Heard, receive_all_heard}
use Rattle.broadcast.proofs.ThresholdInvariant.{Settled, blank_settled, nothing_made_settled, request_settled, receive_all_settled}
use Rattle.interpret.specs.Slot.{Direct, parent_state, messages, interpret_slot}
use Rattle.interpret.proofs.Messages.{messages_has}
use Rattle.interpret.proofs.Order.{parent_state_keeps}

pub none_made : (e : Entry) → entry_of e none ≡ 0
none_made send_entry = refl
none_made echo_entry = refl
none_made ready_entry = refl
none_made delivery_entry = refl

module _ (s : Setup) (slot site sequence v : ℕ) (ds : List Direct) where
  -- how the block starts: with its parent's record and its own request
  abbrev start : SlotRecord
  start = take_request (owner_of s slot) site v (nothing_made (parent_state site sequence ds))

  pub interpret_slot_kept : Kept (parent_state site sequence ds) (interpret_slot s slot site sequence v ds)
  unfolding interpret_slot
  interpret_slot_kept =
      kept_both (parent_state site sequence ds) start _
      (kept_both (parent_state site sequence ds) (nothing_made (parent_state site sequence ds)) start (nothing_made_kept _) (request_kept (owner_of s slot) site v _))
      (receive_all_kept s.sites (owner_of s slot) (messages s.sites ds) start)

  pub interpret_slot_once : MadeOnce (nothing_made (parent_state site sequence ds)) (interpret_slot s slot site sequence v ds)
  unfolding interpret_slot
  interpret_slot_once =
      once_both (nothing_made (parent_state site sequence ds)) start _ (request_once (owner_of s slot) site v _)
      (receive_all_once s.sites (owner_of s slot) (messages s.sites ds) start)

  -- what is made in the block is what it sent, and before it none was sent
  pub interpret_slot_made : (e : Entry) → entry_of e (interpret_slot s slot site sequence v ds).made ≢ 0
      → (entry_of e (interpret_slot s slot site sequence v ds).made ≡ entry_of e (interpret_slot s slot site sequence v ds).sent)
      × (entry_of e (parent_state site sequence ds).sent ≡ 0)
  interpret_slot_made e n = elim (interpret_slot_once e) [
    | inl a ↦ absurd (n (a.made_same ∙ none_made e))
    | inr a ↦ (a.made_sent, a.none_before)
  ]

  -- a counted request of the owner is sent where none was before
  pub interpret_slot_sends : site ≡ owner_of s slot → v ≢ 0 → (parent_state site sequence ds).sent.send ≡ 0
      → (interpret_slot s slot site sequence v ds).made.send ≡ v
  unfolding interpret_slot take_request only_if
  interpret_slot_sends own some z =
      let started : start ≡ in_both (with_send v) (nothing_made (parent_state site sequence ds)) = rw (ne_eqb v 0 some, eq-eqb site (owner_of s slot) own, eq-eqb _ 0 z) in
      elim (receive_all_once s.sites (owner_of s slot) (messages s.sites ds) start send_entry) [
        | inl a ↦ a.made_same ∙ ap (λ (r : SlotRecord). r.made.send) started
        | inr a ↦ absurd (some (sym (ap (λ (r : SlotRecord). r.sent.send) started) ∙ a.none_before))
      ]

  -- what a block referred to made is heard
  pub interpret_slot_heard : s.sites ≤ max_sites → ((d : Direct) → Memᴰ d ds → Sized d.state) → (k : Kind) (d : Direct) → Memᴰ d ds
      → d.site < s.sites → made_of k d.state ≢ 0 → Heard (owner_of s slot) k d.site (interpret_slot s slot site sequence v ds)
  unfolding interpret_slot
  interpret_slot_heard few sized k d j below nz =
      receive_all_heard s.sites (owner_of s slot) (messages s.sites ds) start
      (request_sized (owner_of s slot) site v _ (nothing_made_sized _ (parent_state_keeps Sized blank_sized site sequence ds sized)))
      few (message k d.site (made_of k d.state)) (messages_has s.sites ds k d j below nz) below nz

  pub interpret_slot_settled : ((d : Direct) → Memᴰ d ds → Settled s.sites d.state) → Settled s.sites (interpret_slot s slot site sequence v ds)
  unfolding interpret_slot
  interpret_slot_settled h =
      receive_all_settled s.sites (owner_of s slot) (messages s.sites ds) start (request_settled s.sites (owner_of s slot) site v _
      (nothing_made_settled s.sites _ (parent_state_keeps (Settled s.sites) (blank_settled s.sites) site sequence ds h)))
