-- What a record owes to those who were heard: with an ECHO quorum, or with READY from enough sites, READY was sent, and with a READY quorum
-- a number was delivered. Assumes nothing.
use mathlib.Core.Path.{◌≡◌, refl, sym, ◌∙◌}
use mathlib.Core.Logic.{◌≢◌, inl, inr}
use mathlib.Core.Bool.{Bool, true, false, ◌&&◌}
use mathlib.Core.List.{List, [], ◌∷◌}
use Prim.Native.Nat.{ℕ, ◌≤◌}
use native.Mathlib.Nat.{le_trans}
use lib.Dec.{eqb, leb}
use lib.ListN.{get_or, replicate}
use borrow.Author.Tests.{eq-eqb, eqb-true, eqb-false, le-leb}
use Rattle.base.proofs.Tests.{by_test, true_not_false}
use Rattle.base.proofs.Bytes.{zero_at, replicate_zeros}
use Rattle.setup.specs.Setup.{max_sites, echo_quorum, ready_amplification, ready_quorum}
use Rattle.setup.proofs.Thresholds.{echo_quorum_some, amplification_some, quorum_some}
use Rattle.broadcast.specs.declared.Kind.{Kind}
use Rattle.broadcast.specs.declared.Kind.TheVariants.{Send, Echo, Ready}
use Rattle.broadcast.specs.declared.SlotRecord.{SlotRecord}
use Rattle.broadcast.specs.Record.{blank, nothing_made, in_both, note_echo, note_ready}
use Rattle.broadcast.specs.Process.{Message, support, only_if, ready_on_echoes, ready_on_readies, deliver_on_readies, take_send, take_echo, take_ready, take, receive, receive_all, take_request}
use Rattle.broadcast.proofs.Steps.{only_if_keeps, number_some, Entry, entry_of, put_at, put_new, put_cases}
use Rattle.broadcast.proofs.Steps.Entry.{send_entry, echo_entry, ready_entry, delivery_entry}
use Rattle.broadcast.proofs.Support.{supporter, other_support}

-- ---- the three rules by which the heard are counted

pub data Rule : Type 0 where
  ready_by_echoes : Rule
  ready_by_readies : Rule
  delivery_by_readies : Rule

-- where its number is put, which heard it counts, and how many it asks
abbrev pub entry_by : Rule → Entry
entry_by ready_by_echoes = ready_entry
entry_by ready_by_readies = ready_entry
entry_by delivery_by_readies = delivery_entry

abbrev pub heard_by : Rule → SlotRecord → List ℕ
heard_by ready_by_echoes r = r.echoes
heard_by ready_by_readies r = r.readies
heard_by delivery_by_readies r = r.readies

abbrev pub asked_by : Rule → ℕ → ℕ
asked_by ready_by_echoes n = echo_quorum n
asked_by ready_by_readies n = ready_amplification n
asked_by delivery_by_readies n = ready_quorum n

-- a rule has been followed for the number u
abbrev pub Followed : ℕ → Rule → SlotRecord → ℕ → Type 0
Followed n c r u = u ≢ 0 → asked_by c n ≤ support n (heard_by c r) u → entry_of (entry_by c) r.sent ≢ 0

abbrev pub Settled : ℕ → SlotRecord → Type 0
Settled n r = (c : Rule) (u : ℕ) → Followed n c r u

-- ---- following a rule

unfoldable follow : ℕ → Rule → ℕ → SlotRecord → SlotRecord
follow n c v r = only_if (eqb (entry_of (entry_by c) r.sent) 0 && leb (asked_by c n) (support n (heard_by c r) v)) (in_both (put_at (entry_by c) v)) r

module _ (n v : ℕ) (some : v ≢ 0) where
  put_some : (e f : Entry) (r : SlotRecord) → entry_of f r.sent ≢ 0 → entry_of f (put_at e v r.sent) ≢ 0
  put_some e f r h = elim (put_cases e f v) [ inl a ↦ rw (a r.sent) h | inr a ↦ rw (a.1 r.sent) some ]

  put_followed : (e : Entry) (c : Rule) (r : SlotRecord) (u : ℕ) → Followed n c r u → Followed n c (in_both (put_at e v) r) u
  put_followed e ready_by_echoes r u f nz h = put_some e ready_entry r (f nz h)
  put_followed e ready_by_readies r u f nz h = put_some e ready_entry r (f nz h)
  put_followed e delivery_by_readies r u f nz h = put_some e delivery_entry r (f nz h)

  -- one rule undoes no other
  follow_keeps : (c d : Rule) (r : SlotRecord) (u : ℕ) → Followed n d r u → Followed n d (follow n c v r) u
  unfolding follow
  follow_keeps c d r u f = only_if_keeps (λ q. Followed n d q u) _ _ r f (λ _ k. put_followed (entry_by c) d r u k)

  both_keep : (c : Rule) (r : SlotRecord) (u : ℕ) → Followed n c r u → Followed n c (follow n delivery_by_readies v (follow n ready_by_readies v r)) u
  both_keep c r u f = follow_keeps delivery_by_readies c _ u (follow_keeps ready_by_readies c r u f)

  follow_follows : (c : Rule) (r : SlotRecord) → Followed n c (follow n c v r) v
  unfolding follow only_if
  follow_follows c r = go (eqb (entry_of (entry_by c) r.sent) 0 && leb (asked_by c n) (support n (heard_by c r) v)) refl
    where
      go : (t : Bool) → (eqb (entry_of (entry_by c) r.sent) 0 && leb (asked_by c n) (support n (heard_by c r) v)) ≡ t
          → Followed n c (only_if t (in_both (put_at (entry_by c) v)) r) v
      go true e = λ _ _. rw (put_new (entry_by c) v r.sent) some
      go false e = λ _ h z. true_not_false (rw (eq-eqb _ _ z, le-leb _ _ h)) e

  after_echo : (p : ℕ) (r : SlotRecord) → get_or r.echoes p 0 ≡ 0 → Settled n r → Settled n (follow n ready_by_echoes v (note_echo p v r))
  after_echo p r z s ready_by_echoes u = by_test (eqb u v)
      (λ e. rw (eqb-true u v e) (follow_follows ready_by_echoes (note_echo p v r)))
      (λ e. follow_keeps ready_by_echoes ready_by_echoes (note_echo p v r) u
      (λ nz h. s ready_by_echoes u nz (rw (other_support n r.echoes p v u z nz (eqb-false u v e)) at h)))
  after_echo p r z s ready_by_readies u = follow_keeps ready_by_echoes ready_by_readies (note_echo p v r) u (s ready_by_readies u)
  after_echo p r z s delivery_by_readies u = follow_keeps ready_by_echoes delivery_by_readies (note_echo p v r) u (s delivery_by_readies u)

  after_ready : (p : ℕ) (r : SlotRecord) → get_or r.readies p 0 ≡ 0 → Settled n r
      → Settled n (follow n delivery_by_readies v (follow n ready_by_readies v (note_ready p v r)))
  after_ready p r z s ready_by_echoes u = both_keep ready_by_echoes (note_ready p v r) u (s ready_by_echoes u)
  after_ready p r z s ready_by_readies u = by_test (eqb u v)
      (λ e. rw (eqb-true u v e) (follow_keeps delivery_by_readies ready_by_readies _ v (follow_follows ready_by_readies (note_ready p v r))))
      (λ e. both_keep ready_by_readies (note_ready p v r) u (λ nz h. s ready_by_readies u nz (rw (other_support n r.readies p v u z nz (eqb-false u v e)) at h)))
  after_ready p r z s delivery_by_readies u = by_test (eqb u v)
      (λ e. rw (eqb-true u v e) (follow_follows delivery_by_readies (follow n ready_by_readies v (note_ready p v r))))
      (λ e. both_keep delivery_by_readies (note_ready p v r) u (λ nz h. s delivery_by_readies u nz (rw (other_support n r.readies p v u z nz (eqb-false u v e)) at h)))

  take_settled : (owner : ℕ) (k : Kind) (p : ℕ) (r : SlotRecord) → Settled n r → Settled n (take n owner k p v r)
  unfolding take take_send take_echo take_ready ready_on_echoes ready_on_readies deliver_on_readies follow
  take_settled owner Send p r s = only_if_keeps (Settled n) _ _ r s (λ _ k c u. put_followed echo_entry c r u (k c u))
  take_settled owner Echo p r s = only_if_keeps (Settled n) _ _ r s (λ t k. after_echo p r (eqb-true _ _ t) k)
  take_settled owner Ready p r s = only_if_keeps (Settled n) _ _ r s (λ t k. after_ready p r (eqb-true _ _ t) k)

-- ---- every step

pub receive_settled : (n owner : ℕ) (m : Message) (r : SlotRecord) → Settled n r → Settled n (receive n owner m r)
unfolding receive
receive_settled n owner m r s =
    only_if_keeps (Settled n) _ _ r s (λ t k. take_settled n m.number (number_some m.number _ t) owner m.kind m.sender r k)

pub receive_all_settled : (n owner : ℕ) (ms : List Message) (r : SlotRecord) → Settled n r → Settled n (receive_all n owner ms r)
unfolding receive_all
receive_all_settled n owner [] r s = s
receive_all_settled n owner (m ∷ ms) r s = receive_all_settled n owner ms (receive n owner m r) (receive_settled n owner m r s)

pub request_settled : (n owner site v : ℕ) (r : SlotRecord) → Settled n r → Settled n (take_request owner site v r)
unfolding take_request
request_settled n owner site v r s = only_if_keeps (Settled n) _ _ r s (λ t k c u. put_followed n v (number_some v _ t) send_entry c r u (k c u))

pub nothing_made_settled : (n : ℕ) (r : SlotRecord) → Settled n r → Settled n (nothing_made r)
nothing_made_settled n r s ready_by_echoes u = s ready_by_echoes u
nothing_made_settled n r s ready_by_readies u = s ready_by_readies u
nothing_made_settled n r s delivery_by_readies u = s delivery_by_readies u

-- nobody was heard
pub blank_settled : (n : ℕ) → Settled n blank
blank_settled n c u = λ nz h. absurd (nz (go c h))
  where
    none : (q : ℕ) → 1 ≤ q → q ≤ support n (replicate max_sites 0) u → u ≡ 0
    none q o h = let w = supporter n (replicate max_sites 0) u (le_trans o h) in sym w.2 ∙ zero_at (replicate max_sites 0) (replicate_zeros max_sites) w.0

    go : (c : Rule) → asked_by c n ≤ support n (heard_by c blank) u → u ≡ 0
    go ready_by_echoes h = none (echo_quorum n) (echo_quorum_some n) h
    go ready_by_readies h = none (ready_amplification n) (amplification_some n) h
    go delivery_by_readies h = none (ready_quorum n) (quorum_some n) h
