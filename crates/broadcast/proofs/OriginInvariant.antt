-- Where what a record holds comes from: a delivery from a READY heard, READY from an ECHO quorum or a READY heard, ECHO from a SEND of the
-- owner, SEND from a request, and each ECHO or READY heard from a message. Assumes nothing.
use mathlib.Core.Path.{◌≡◌, refl, sym, ◌∙◌}
use mathlib.Core.Logic.{◌⊎◌, ◌≢◌, inl, inr}
use mathlib.Core.Bool.{true, not, ◌&&◌}
use mathlib.Core.List.{List, [], ◌∷◌, Memᴰ}
use Prim.Native.Nat.{ℕ, ◌≤◌}
use native.Mathlib.Nat.{le_trans}
use lib.Dec.{eqb, leb}
use lib.ListN.{get_or, set, replicate}
use borrow.Author.Tests.{eqb-true, leb-true}
use Rattle.base.proofs.Tests.{and_left, and_right}
use Rattle.base.proofs.List.{set_cases, set_keeps}
use Rattle.base.proofs.Bytes.{zero_at, replicate_zeros}
use Rattle.setup.specs.Setup.{max_sites, echo_quorum}
use Rattle.setup.proofs.Thresholds.{amplification_some, quorum_some}
use Rattle.broadcast.specs.declared.Kind.{Kind}
use Rattle.broadcast.specs.declared.Kind.TheVariants.{Send, Echo, Ready}
use Rattle.broadcast.specs.declared.SlotRecord.{SlotRecord}
use Rattle.broadcast.specs.Record.{blank, nothing_made, in_both, note_echo, note_ready}
use Rattle.broadcast.specs.Process.{Message, support, ready_on_echoes, ready_on_readies, deliver_on_readies, take_send, take_echo, take_ready, take, receive, receive_all, take_request}
use Rattle.broadcast.proofs.Steps.{only_if_keeps, Entry, entry_of, put_at, put_cases}
use Rattle.broadcast.proofs.Steps.Entry.{send_entry, echo_entry, ready_entry, delivery_entry}
use Rattle.broadcast.proofs.Support.{supporter, support_kept}

abbrev HeardFrom : List ℕ → ℕ → Type 0
HeardFrom heard v = (p : ℕ) × (get_or heard p 0 ≡ v)

-- a threshold that is reached has a supporter
reached : (n : ℕ) (heard : List ℕ) (v q : ℕ) → 1 ≤ q → leb q (support n heard v) ≡ true → HeardFrom heard v
reached n heard v q o e = let w = supporter n heard v (le_trans o (leb-true q (support n heard v) e)) in (w.0, w.2)

heard_kept : (heard : List ℕ) (p u v : ℕ) → get_or heard p 0 ≡ 0 → v ≢ 0 → HeardFrom heard v → HeardFrom (set heard p u) v
heard_kept heard p u v z n w = (w.0, set_keeps heard p u z w.0 (λ y. n (sym w.1 ∙ y)) ∙ w.1)

-- ---- the invariant, over the messages made so far and what was requested so far

module _ (n owner : ℕ) (Made : Kind → ℕ → ℕ → Type 0) (Requested : ℕ → Type 0) where
  -- what a number in an entry has behind it
  abbrev pub Backed : Entry → List ℕ → List ℕ → ℕ → Type 0
  Backed send_entry echoes readies v = Requested v
  Backed echo_entry echoes readies v = Made Send owner v
  Backed ready_entry echoes readies v = (echo_quorum n ≤ support n echoes v) ⊎ HeardFrom readies v
  Backed delivery_entry echoes readies v = HeardFrom readies v

  pub record Sound (r : SlotRecord) : Type 0 where
    pub sent_backed : (e : Entry) → entry_of e r.sent ≢ 0 → Backed e r.echoes r.readies (entry_of e r.sent)
    pub echo_heard : (p : ℕ) → get_or r.echoes p 0 ≢ 0 → Made Echo p (get_or r.echoes p 0)
    pub ready_heard : (p : ℕ) → get_or r.readies p 0 ≢ 0 → Made Ready p (get_or r.readies p 0)

  pub blank_sound : Sound blank
  blank_sound = record {
    sent_backed = elim [ send_entry ↦ λ z. absurd (z refl) | echo_entry ↦ λ z. absurd (z refl) | ready_entry ↦ λ z. absurd (z refl) | delivery_entry ↦ λ z. absurd (z refl) ];
    echo_heard = λ p z. absurd (z (zero_at (replicate max_sites 0) (replicate_zeros max_sites) p));
    ready_heard = λ p z. absurd (z (zero_at (replicate max_sites 0) (replicate_zeros max_sites) p));
  }

  pub nothing_made_sound : (r : SlotRecord) → Sound r → Sound (nothing_made r)
  nothing_made_sound r s = record { sent_backed = s.sent_backed; echo_heard = s.echo_heard; ready_heard = s.ready_heard }

  put_sound : (e : Entry) (v : ℕ) (r : SlotRecord) → Backed e r.echoes r.readies v → Sound r → Sound (in_both (put_at e v) r)
  put_sound e v r b s = record {
    sent_backed = λ f z. elim (put_cases e f v) [
      | inl a ↦ rw (a r.sent) (s.sent_backed f (λ y. z (a r.sent ∙ y)))
      | inr a ↦ rw (a.1 r.sent, a.0) b
    ];
    echo_heard = s.echo_heard;
    ready_heard = s.ready_heard;
  }

  -- a heard entry after one more was noted
  heard_more : (k : Kind) (heard : List ℕ) (p v : ℕ) → Made k p v → ((q : ℕ) → get_or heard q 0 ≢ 0 → Made k q (get_or heard q 0))
      → (q : ℕ) → get_or (set heard p v) q 0 ≢ 0 → Made k q (get_or (set heard p v) q 0)
  heard_more k heard p v h old q z = elim (set_cases heard p q v) [ inl e ↦ rw e (old q (λ y. z (e ∙ y))) | inr e ↦ rw (e.1, e.0) h ]

  backed_echo : (e : Entry) (echoes readies : List ℕ) (p u v : ℕ) → get_or echoes p 0 ≡ 0 → v ≢ 0 → Backed e echoes readies v → Backed e (set echoes p u) readies v
  backed_echo send_entry echoes readies p u v z nz b = b
  backed_echo echo_entry echoes readies p u v z nz b = b
  backed_echo ready_entry echoes readies p u v z nz (inl b) = inl (le_trans b (support_kept n echoes p u v z nz))
  backed_echo ready_entry echoes readies p u v z nz (inr b) = inr b
  backed_echo delivery_entry echoes readies p u v z nz b = b

  backed_ready : (e : Entry) (echoes readies : List ℕ) (p u v : ℕ) → get_or readies p 0 ≡ 0 → v ≢ 0 → Backed e echoes readies v → Backed e echoes (set readies p u) v
  backed_ready send_entry echoes readies p u v z nz b = b
  backed_ready echo_entry echoes readies p u v z nz b = b
  backed_ready ready_entry echoes readies p u v z nz (inl b) = inl b
  backed_ready ready_entry echoes readies p u v z nz (inr b) = inr (heard_kept readies p u v z nz b)
  backed_ready delivery_entry echoes readies p u v z nz b = heard_kept readies p u v z nz b

  note_echo_sound : (p v : ℕ) (r : SlotRecord) → get_or r.echoes p 0 ≡ 0 → Made Echo p v → Sound r → Sound (note_echo p v r)
  note_echo_sound p v r z h s = record {
    sent_backed = λ e y. backed_echo e r.echoes r.readies p v (entry_of e r.sent) z y (s.sent_backed e y);
    echo_heard = heard_more Echo r.echoes p v h s.echo_heard;
    ready_heard = s.ready_heard;
  }

  note_ready_sound : (p v : ℕ) (r : SlotRecord) → get_or r.readies p 0 ≡ 0 → Made Ready p v → Sound r → Sound (note_ready p v r)
  note_ready_sound p v r z h s = record {
    sent_backed = λ e y. backed_ready e r.echoes r.readies p v (entry_of e r.sent) z y (s.sent_backed e y);
    echo_heard = s.echo_heard;
    ready_heard = heard_more Ready r.readies p v h s.ready_heard;
  }

  -- ---- every step

  ready_on_echoes_sound : (v : ℕ) (r : SlotRecord) → Sound r → Sound (ready_on_echoes n v r)
  unfolding ready_on_echoes
  ready_on_echoes_sound v r s = only_if_keeps Sound _ _ r s (λ t. put_sound ready_entry v r (inl (leb-true _ _ (search and_right))))

  ready_on_readies_sound : (v : ℕ) (r : SlotRecord) → Sound r → Sound (ready_on_readies n v r)
  unfolding ready_on_readies
  ready_on_readies_sound v r s =
      only_if_keeps Sound _ _ r s (λ t. put_sound ready_entry v r (inr (reached n r.readies v _ (amplification_some n) (search and_right))))

  deliver_on_readies_sound : (v : ℕ) (r : SlotRecord) → Sound r → Sound (deliver_on_readies n v r)
  unfolding deliver_on_readies
  deliver_on_readies_sound v r s =
      only_if_keeps Sound _ _ r s (λ t. put_sound delivery_entry v r (reached n r.readies v _ (quorum_some n) (search and_right)))

  take_sound : (k : Kind) (p v : ℕ) (r : SlotRecord) → Made k p v → Sound r → Sound (take n owner k p v r)
  unfolding take take_send take_echo take_ready
  take_sound Send p v r h s = only_if_keeps Sound _ _ r s (λ t. put_sound echo_entry v r (rw (← eqb-true p owner (search and_left)) h))
  take_sound Echo p v r h s = only_if_keeps Sound _ _ r s (λ t _. ready_on_echoes_sound v _ (note_echo_sound p v r (eqb-true _ _ t) h s))
  take_sound Ready p v r h s =
      only_if_keeps Sound _ _ r s (λ t _. deliver_on_readies_sound v _ (ready_on_readies_sound v _ (note_ready_sound p v r (eqb-true _ _ t) h s)))

  pub receive_sound : (m : Message) (r : SlotRecord) → Made m.kind m.sender m.number → Sound r → Sound (receive n owner m r)
  unfolding receive
  receive_sound m r h s = only_if_keeps Sound _ _ r s (λ t. take_sound m.kind m.sender m.number r h)

  pub receive_all_sound : (ms : List Message) (r : SlotRecord) → ((m : Message) → Memᴰ m ms → Made m.kind m.sender m.number) → Sound r
      → Sound (receive_all n owner ms r)
  unfolding receive_all
  receive_all_sound [] r h s = s
  receive_all_sound (m ∷ ms) r h s =
      receive_all_sound ms (receive n owner m r) (λ x k. h x (Memᴰ.tail k)) (receive_sound m r (h m (Memᴰ.head refl)) s)

  pub request_sound : (site v : ℕ) (r : SlotRecord) → (site ≡ owner → Requested v) → Sound r → Sound (take_request owner site v r)
  unfolding take_request
  request_sound site v r h s = only_if_keeps Sound _ _ r s (λ t.
      let own : (eqb site owner && eqb r.sent.send 0) ≡ true = and_right (not (eqb v 0)) _ t in
      put_sound send_entry v r (h (eqb-true _ _ (and_left (eqb site owner) _ own))))

-- more made and more requested
pub sound_more : (n owner : ℕ) (Made More : Kind → ℕ → ℕ → Type 0) (Requested Also : ℕ → Type 0)
    → ((k : Kind) (p v : ℕ) → Made k p v → More k p v) → ((v : ℕ) → Requested v → Also v)
    → (r : SlotRecord) → Sound n owner Made Requested r → Sound n owner More Also r
sound_more n owner Made More Requested Also f g r s = record {
  sent_backed = elim [
    | send_entry ↦ λ z. g _ (s.sent_backed send_entry z)
    | echo_entry ↦ λ z. f _ _ _ (s.sent_backed echo_entry z)
    | ready_entry ↦ s.sent_backed ready_entry
    | delivery_entry ↦ s.sent_backed delivery_entry
  ];
  echo_heard = λ p z. f _ _ _ (s.echo_heard p z);
  ready_heard = λ p z. f _ _ _ (s.ready_heard p z);
}
