-- What was sent, heard or delivered stays; and SEND, ECHO, READY and the delivery are each made at most once: only where none was sent
-- before, and then what is made is what is sent. Assumes nothing.
use mathlib.Core.Path.{◌≡◌, refl, sym, ◌∙◌}
use mathlib.Core.Logic.{◌⊎◌, ◌≢◌, inl, inr}
use mathlib.Core.List.{List}
use Prim.Native.Nat.{ℕ}
use lib.ListN.{get_or}
use Rattle.base.proofs.List.{set_keeps}
use Rattle.broadcast.specs.declared.SlotRecord.{SlotRecord}
use Rattle.broadcast.specs.Record.{nothing_made, in_both, note_echo, note_ready}
use Rattle.broadcast.specs.Process.{Message, receive_all, take_request}
use Rattle.broadcast.proofs.Steps.{Entry, entry_of, put_at, put_cases, receive_all_step, request_step}

-- ---- made at most once

-- from r to the later record s an entry did not change, neither in what was sent nor in what was made
pub record Unchanged (e : Entry) (r s : SlotRecord) : Type 0 where
  pub sent_same : entry_of e s.sent ≡ entry_of e r.sent
  pub made_same : entry_of e s.made ≡ entry_of e r.made

-- or it was made, where none was sent
pub record MadeNow (e : Entry) (r s : SlotRecord) : Type 0 where
  pub none_before : entry_of e r.sent ≡ 0
  pub some_after : entry_of e s.sent ≢ 0
  pub made_sent : entry_of e s.made ≡ entry_of e s.sent

abbrev pub MadeOnce : SlotRecord → SlotRecord → Type 0
MadeOnce r s = (e : Entry) → Unchanged e r s ⊎ MadeNow e r s

once_same : (r : SlotRecord) → MadeOnce r r
once_same r e = inl (record { sent_same = refl; made_same = refl })

pub once_both : (r s t : SlotRecord) → MadeOnce r s → MadeOnce s t → MadeOnce r t
once_both r s t f g e = go (f e) (g e)
  where
    go : Unchanged e r s ⊎ MadeNow e r s → Unchanged e s t ⊎ MadeNow e s t → Unchanged e r t ⊎ MadeNow e r t
    go (inl a) (inl b) = inl (record { sent_same = b.sent_same ∙ a.sent_same; made_same = b.made_same ∙ a.made_same })
    go (inl a) (inr b) = inr (record { none_before = sym a.sent_same ∙ b.none_before; some_after = b.some_after; made_sent = b.made_sent })
    go (inr a) (inl b) = inr (record {
      none_before = a.none_before;
      some_after = λ z. a.some_after (sym b.sent_same ∙ z);
      made_sent = b.made_same ∙ a.made_sent ∙ sym b.sent_same;
    })
    go (inr a) (inr b) = absurd (a.some_after b.none_before)

put_once : (e : Entry) (v : ℕ) (r : SlotRecord) → v ≢ 0 → entry_of e r.sent ≡ 0 → MadeOnce r (in_both (put_at e v) r)
put_once e v r n z f = elim (put_cases e f v) [
  | inl a ↦ inl (record { sent_same = a r.sent; made_same = a r.made })
  | inr a ↦ inr (record { none_before = rw a.0 z; some_after = λ y. n (sym (a.1 r.sent) ∙ y); made_sent = a.1 r.made ∙ sym (a.1 r.sent) })
]

note_echo_once : (p v : ℕ) (r : SlotRecord) → v ≢ 0 → get_or r.echoes p 0 ≡ 0 → MadeOnce r (note_echo p v r)
note_echo_once p v r n z e = inl (record { sent_same = refl; made_same = refl })

note_ready_once : (p v : ℕ) (r : SlotRecord) → v ≢ 0 → get_or r.readies p 0 ≡ 0 → MadeOnce r (note_ready p v r)
note_ready_once p v r n z e = inl (record { sent_same = refl; made_same = refl })

pub receive_all_once : (n owner : ℕ) (ms : List Message) (r : SlotRecord) → MadeOnce r (receive_all n owner ms r)
receive_all_once = receive_all_step MadeOnce once_same once_both put_once note_echo_once note_ready_once

pub request_once : (owner site v : ℕ) (r : SlotRecord) → MadeOnce r (take_request owner site v r)
request_once = request_step MadeOnce once_same once_both put_once note_echo_once note_ready_once

-- ---- what is not 0 stays

abbrev pub Stays : ℕ → ℕ → Type 0
Stays a b = a ≢ 0 → b ≡ a

stays_both : (a b c : ℕ) → Stays a b → Stays b c → Stays a c
stays_both a b c f g n = g (λ z. n (sym (f n) ∙ z)) ∙ f n

-- every entry of r that is not 0 is the same in s
pub record Kept (r s : SlotRecord) : Type 0 where
  pub sent_kept : (e : Entry) → Stays (entry_of e r.sent) (entry_of e s.sent)
  pub echoes_kept : (p : ℕ) → Stays (get_or r.echoes p 0) (get_or s.echoes p 0)
  pub readies_kept : (p : ℕ) → Stays (get_or r.readies p 0) (get_or s.readies p 0)

pub kept_same : (r : SlotRecord) → Kept r r
kept_same r = record { sent_kept = λ _ _. refl; echoes_kept = λ _ _. refl; readies_kept = λ _ _. refl }

pub kept_both : (r s t : SlotRecord) → Kept r s → Kept s t → Kept r t
kept_both r s t a b = record {
  sent_kept = λ e. stays_both _ _ _ (a.sent_kept e) (b.sent_kept e);
  echoes_kept = λ p. stays_both _ _ _ (a.echoes_kept p) (b.echoes_kept p);
  readies_kept = λ p. stays_both _ _ _ (a.readies_kept p) (b.readies_kept p);
}

put_kept : (e : Entry) (v : ℕ) (r : SlotRecord) → v ≢ 0 → entry_of e r.sent ≡ 0 → Kept r (in_both (put_at e v) r)
put_kept e v r n z = record {
  sent_kept = λ f m. elim (put_once e v r n z f) [ inl a ↦ a.sent_same | inr a ↦ absurd (m a.none_before) ];
  echoes_kept = λ _ _. refl;
  readies_kept = λ _ _. refl;
}

note_echo_kept : (p v : ℕ) (r : SlotRecord) → v ≢ 0 → get_or r.echoes p 0 ≡ 0 → Kept r (note_echo p v r)
note_echo_kept p v r n z = record { sent_kept = λ _ _. refl; echoes_kept = set_keeps r.echoes p v z; readies_kept = λ _ _. refl }

note_ready_kept : (p v : ℕ) (r : SlotRecord) → v ≢ 0 → get_or r.readies p 0 ≡ 0 → Kept r (note_ready p v r)
note_ready_kept p v r n z = record { sent_kept = λ _ _. refl; echoes_kept = λ _ _. refl; readies_kept = set_keeps r.readies p v z }

pub receive_all_kept : (n owner : ℕ) (ms : List Message) (r : SlotRecord) → Kept r (receive_all n owner ms r)
receive_all_kept = receive_all_step Kept kept_same kept_both put_kept note_echo_kept note_ready_kept

pub request_kept : (owner site v : ℕ) (r : SlotRecord) → Kept r (take_request owner site v r)
request_kept = request_step Kept kept_same kept_both put_kept note_echo_kept note_ready_kept

pub nothing_made_kept : (r : SlotRecord) → Kept r (nothing_made r)
nothing_made_kept r = record { sent_kept = λ _ _. refl; echoes_kept = λ _ _. refl; readies_kept = λ _ _. refl }
