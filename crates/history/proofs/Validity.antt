-- Where a number in a block's record comes from: what is heard was sent in an ancestor, what is delivered has an ECHO quorum in the block or
-- an ancestor, and the slot's owner requested it in an ancestor. Assumes nothing.
use mathlib.Core.Path.{◌≡◌, refl, sym, ◌∙◌}
use mathlib.Core.Logic.{◌≢◌, inl, inr}
use mathlib.Core.Bool.{true}
use mathlib.Core.List.{Memᴰ}
use Prim.Native.Nat.{ℕ, ◌≤◌}
use native.Mathlib.Nat.{le_trans}
use lib.ListN.{get_or}
use Rattle.base.specs.Bytes.{Bytes}
use Rattle.setup.specs.Setup.{Setup, owner_of, echo_quorum}
use Rattle.setup.proofs.Thresholds.{echo_quorum_some}
use Rattle.block.specs.Layout.{site_of, sequence_of, request_for}
use Rattle.broadcast.specs.declared.Kind.{Kind}
use Rattle.broadcast.specs.declared.Kind.TheVariants.{Send, Echo, Ready}
use Rattle.broadcast.specs.declared.SlotRecord.{SlotRecord}
use Rattle.broadcast.specs.Process.{made_of, support}
use Rattle.broadcast.proofs.Steps.{entry_of, entry_of_kind, made_entry}
use Rattle.broadcast.proofs.Steps.Entry.{send_entry, echo_entry, ready_entry, delivery_entry}
use Rattle.broadcast.proofs.Support.{supporter}
use Rattle.broadcast.proofs.OriginInvariant.{Sound, blank_sound, nothing_made_sound, request_sound, receive_all_sound, sound_more}
use Rattle.interpret.specs.Slot.{parent_state, messages, interpret_slot}
use Rattle.history.specs.History.{History, Histories, node, block_of, list_of, children, is_parent_of, Ancestor, direct, further, slot_record, directs}
use Rattle.history.proofs.Histories.{child_ind, ancestor_ind, ancestor_trans, AncestorOrSelf, or_self_trans, Lineage, here, older, lineage_or_self, message_from, parent_cases}
use Rattle.history.proofs.Meanings.{record_made}

module _ (s : Setup) (slot : ℕ) where
  -- a message of h's ancestors
  record Made (h : History) (k : Kind) (p v : ℕ) : Type 0 where
    maker : History
    above : Ancestor maker h
    by_site : site_of (block_of maker) ≡ p
    makes : made_of k (slot_record s slot maker) ≡ v

  -- a request of the owner, in h's lineage
  pub record Requested (h : History) (v : ℕ) : Type 0 where
    pub requester : History
    pub lineage : Lineage requester h
    pub by_owner : site_of (block_of requester) ≡ owner_of s slot
    pub requests : request_for (block_of requester) slot ≡ v

  abbrev SoundFor : History → SlotRecord → Type 0
  SoundFor h r = Sound s.sites (owner_of s slot) (Made h) (Requested h) r

  made_below : (c h : History) → Memᴰ c (children h) → (k : Kind) (p v : ℕ) → Made c k p v → Made h k p v
  made_below c h m k p v f = record { maker = f.maker; above = further f.above m; by_site = f.by_site; makes = f.makes }

  requested_below : (c h : History) → Memᴰ c (children h) → is_parent_of (block_of h) (block_of c) ≡ true → (v : ℕ) → Requested c v → Requested h v
  requested_below c h m p v f =
      record { requester = f.requester; lineage = older f.lineage m p; by_owner = f.by_owner; requests = f.requests }

  -- ---- every record is sound

  parent_sound : (b : Bytes) (hs : Histories) → ((c : History) → Memᴰ c (list_of hs) → SoundFor c (slot_record s slot c))
      → SoundFor (node b hs) (parent_state (site_of b) (sequence_of b) (directs s slot hs))
  parent_sound b hs ih = elim (parent_cases s slot b hs) [
    | inl w ↦ rw w.its (sound_more s.sites (owner_of s slot) _ _ _ _ (made_below w.parent (node b hs) w.among)
        (requested_below w.parent (node b hs) w.among w.is_parent) _ (ih w.parent w.among))
    | inr w ↦ rw w.blank_is (blank_sound s.sites (owner_of s slot) _ _)
  ]

  node_sound : (b : Bytes) (hs : Histories) → ((c : History) → Memᴰ c (list_of hs) → SoundFor c (slot_record s slot c))
      → SoundFor (node b hs) (slot_record s slot (node b hs))
  unfolding slot_record interpret_slot
  node_sound b hs ih =
      receive_all_sound s.sites (owner_of s slot) _ _ (messages s.sites (directs s slot hs)) _
      (λ m j. let f = message_from s slot hs m j in record { maker = f.child; above = direct f.among; by_site = f.by_site; makes = f.makes })
      (request_sound s.sites (owner_of s slot) _ _ (site_of b) (request_for b slot) _
      (λ own. record { requester = node b hs; lineage = here; by_owner = own; requests = refl })
      (nothing_made_sound s.sites (owner_of s slot) _ _ _ (parent_sound b hs ih)))

  sound : (h : History) → SoundFor h (slot_record s slot h)
  sound = child_ind (λ h. SoundFor h (slot_record s slot h)) go
    where
      go : (h : History) → ((c : History) → Memᴰ c (children h) → SoundFor c (slot_record s slot c)) → SoundFor h (slot_record s slot h)
      go (node b hs) ih = node_sound b hs ih

  -- ---- what is heard was sent

  -- a block of site p among h's ancestors that has sent v
  pub record SentAbove (h : History) (k : Kind) (p v : ℕ) : Type 0 where
    pub sender : History
    pub above : Ancestor sender h
    pub by_site : site_of (block_of sender) ≡ p
    pub sends : entry_of (entry_of_kind k) (slot_record s slot sender).sent ≡ v

  made_sent : (h : History) (k : Kind) → made_of k (slot_record s slot h) ≢ 0 → made_of k (slot_record s slot h) ≡ entry_of (entry_of_kind k) (slot_record s slot h).sent
  made_sent (node b hs) k n =
      made_entry k (slot_record s slot (node b hs)) ∙ (record_made s slot b hs (entry_of_kind k) (λ z. n (made_entry k (slot_record s slot (node b hs)) ∙ z))).0

  sent_above : (h : History) (k : Kind) (p v : ℕ) → v ≢ 0 → Made h k p v → SentAbove h k p v
  sent_above h k p v n f = record {
    sender = f.maker;
    above = f.above;
    by_site = f.by_site;
    sends = sym (made_sent f.maker k (λ z. n (sym f.makes ∙ z))) ∙ f.makes;
  }

  pub heard_echo : (h : History) (p v : ℕ) → v ≢ 0 → get_or (slot_record s slot h).echoes p 0 ≡ v → SentAbove h Echo p v
  heard_echo h p v n e = sent_above h Echo p v n (rw e at ((sound h).echo_heard p (λ z. n (sym e ∙ z))))

  pub heard_ready : (h : History) (p v : ℕ) → v ≢ 0 → get_or (slot_record s slot h).readies p 0 ≡ v → SentAbove h Ready p v
  heard_ready h p v n e = sent_above h Ready p v n (rw e at ((sound h).ready_heard p (λ z. n (sym e ∙ z))))

  -- ---- what is delivered has an ECHO quorum

  -- in h or in an ancestor v has one
  pub record EchoQuorum (h : History) (v : ℕ) : Type 0 where
    pub at : History
    pub above : AncestorOrSelf at h
    pub enough : echo_quorum s.sites ≤ support s.sites (slot_record s slot at).echoes v

  quorum_above : (a h : History) (v : ℕ) → Ancestor a h → EchoQuorum a v → EchoQuorum h v
  quorum_above a h v k q = record { at = q.at; above = inr (or_self_trans q.above k); enough = q.enough }

  pub ready_quorum_lem : (h : History) (v : ℕ) → v ≢ 0 → (slot_record s slot h).sent.ready ≡ v → EchoQuorum h v
  ready_quorum_lem = ancestor_ind (λ h. (v : ℕ) → v ≢ 0 → (slot_record s slot h).sent.ready ≡ v → EchoQuorum h v) (λ h ih v n e.
      elim ((sound h).sent_backed ready_entry (λ z. n (sym e ∙ z))) [
        | inl q ↦ record { at = h; above = inl refl; enough = rw e at q }
        | inr w ↦ let f = heard_ready h w.0 v n (w.1 ∙ e) in quorum_above f.sender h v f.above (ih f.sender f.above v n f.sends)
      ])

  pub delivered_quorum : (h : History) (v : ℕ) → v ≢ 0 → (slot_record s slot h).sent.delivered ≡ v → EchoQuorum h v
  delivered_quorum h v n e =
      let w = (sound h).sent_backed delivery_entry (λ z. n (sym e ∙ z)) in
      let f = heard_ready h w.0 v n (w.1 ∙ e) in
      quorum_above f.sender h v f.above (ready_quorum_lem f.sender v n f.sends)

  -- ---- what is delivered was requested

  -- a request of the owner in an ancestor of h
  pub record RequestedAbove (h : History) (v : ℕ) : Type 0 where
    pub requester : History
    pub above : Ancestor requester h
    pub by_owner : site_of (block_of requester) ≡ owner_of s slot
    pub requests : request_for (block_of requester) slot ≡ v

  requested_above : (a h : History) (v : ℕ) → AncestorOrSelf a h → RequestedAbove a v → RequestedAbove h v
  requested_above a h v (inl e) f = rw (← e) f
  requested_above a h v (inr k) f =
      record { requester = f.requester; above = ancestor_trans f.above k; by_owner = f.by_owner; requests = f.requests }

  -- a SEND was requested in the lineage, and an ECHO has a SEND of the owner
  pub send_requested : (h : History) (v : ℕ) → v ≢ 0 → (slot_record s slot h).sent.send ≡ v → Requested h v
  send_requested h v n e = rw e at ((sound h).sent_backed send_entry (λ z. n (sym e ∙ z)))

  pub echo_send : (h : History) (v : ℕ) → v ≢ 0 → (slot_record s slot h).sent.echo ≡ v → SentAbove h Send (owner_of s slot) v
  echo_send h v n e = sent_above h Send (owner_of s slot) v n (rw e at ((sound h).sent_backed echo_entry (λ z. n (sym e ∙ z))))

  pub echo_requested : (h : History) (v : ℕ) → v ≢ 0 → (slot_record s slot h).sent.echo ≡ v → RequestedAbove h v
  echo_requested h v n e =
      let f = echo_send h v n e in
      let g = send_requested f.sender v n f.sends in
      record { requester = g.requester; above = or_self_trans (lineage_or_self g.lineage) f.above; by_owner = g.by_owner; requests = g.requests }

  -- one of the quorum's ECHOs
  pub quorum_echo : (h : History) (v : ℕ) → v ≢ 0 → (q : EchoQuorum h v) → (p : ℕ) × SentAbove q.at Echo p v
  quorum_echo h v n q =
      let p = supporter s.sites (slot_record s slot q.at).echoes v (le_trans (echo_quorum_some s.sites) q.enough) in
      (p.0, heard_echo q.at p.0 v n p.2)

  quorum_requested : (h : History) (v : ℕ) → v ≢ 0 → EchoQuorum h v → RequestedAbove h v
  quorum_requested h v n q =
      let f = (quorum_echo h v n q).1 in
      requested_above q.at h v q.above (requested_above f.sender q.at v (inr f.above) (echo_requested f.sender v n f.sends))

  -- what a block delivers the slot's owner requested in an ancestor of that block
  pub owner_requested : (h : History) (v : ℕ) → v ≢ 0 → (slot_record s slot h).sent.delivered ≡ v → RequestedAbove h v
  owner_requested h v n e = quorum_requested h v n (delivered_quorum h v n e)
