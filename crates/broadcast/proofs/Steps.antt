-- Every step of a slot's process puts a number into an empty entry, or notes a number from a site from which none was heard: what these two changes
-- keep, all steps keep. So each list of what is heard keeps its sixteen entries. Assumes nothing.
use mathlib.Core.Path.{◌≡◌, refl, ◌∙◌}
use mathlib.Core.Logic.{◌⊎◌, ◌≢◌, inl, inr}
use mathlib.Core.Bool.{Bool, true, false, not, ◌&&◌}
use mathlib.Core.List.{List, [], ◌∷◌, ◌++◌}
use Prim.Native.Nat.{ℕ}
use lib.Dec.{eqb}
use lib.ListN.{length, get_or, length-set}
use borrow.Author.Tests.{eqb-true, eqb-false, not-true}
use Rattle.base.proofs.Tests.{and_left, and_right}
use Rattle.setup.specs.Setup.{max_sites}
use Rattle.broadcast.specs.declared.Kind.{Kind}
use Rattle.broadcast.specs.declared.Kind.TheVariants.{Send, Echo, Ready}
use Rattle.broadcast.specs.declared.Sent.{Sent}
use Rattle.broadcast.specs.declared.SlotRecord.{SlotRecord}
use Rattle.broadcast.specs.Record.{blank, nothing_made, with_send, with_echo, with_ready, with_delivered, in_both, note_echo, note_ready}
use Rattle.broadcast.specs.Process.{Message, made_of, only_if, ready_on_echoes, ready_on_readies, deliver_on_readies, take_send, take_echo, take_ready, take, receive, received, receive_all, take_request}

-- what holds before a step and after it holds where it is taken only if a test passes
pub only_if_keeps : (P : SlotRecord → Type 0) (t : Bool) (f : SlotRecord → SlotRecord) (r : SlotRecord) → P r → (t ≡ true → P r → P (f r))
    → P (only_if t f r)
unfolding only_if
only_if_keeps P true f r h k = k refl h
only_if_keeps P false f r h k = h

-- number 0 is no message
pub nothing_heard : (n owner : ℕ) (k : Kind) (p : ℕ) (r : SlotRecord) → received r n owner k p 0 ≡ r
unfolding receive only_if
nothing_heard n owner k p r = refl

pub receive_all_append : (n owner : ℕ) (a b : List Message) (r : SlotRecord) → receive_all n owner (a ++ b) r ≡ receive_all n owner b (receive_all n owner a r)
unfolding receive_all
receive_all_append n owner [] b r = refl
receive_all_append n owner (m ∷ a) b r = receive_all_append n owner a b (receive n owner m r)

-- ---- the entries of what is sent

pub data Entry : Type 0 where
  send_entry : Entry
  echo_entry : Entry
  ready_entry : Entry
  delivery_entry : Entry

abbrev pub entry_of : Entry → Sent → ℕ
entry_of send_entry s = s.send
entry_of echo_entry s = s.echo
entry_of ready_entry s = s.ready
entry_of delivery_entry s = s.delivered

abbrev pub put_at : Entry → ℕ → Sent → Sent
put_at send_entry = with_send
put_at echo_entry = with_echo
put_at ready_entry = with_ready
put_at delivery_entry = with_delivered

abbrev pub entry_of_kind : Kind → Entry
entry_of_kind Send = send_entry
entry_of_kind Echo = echo_entry
entry_of_kind Ready = ready_entry

pub made_entry : (k : Kind) (r : SlotRecord) → made_of k r ≡ entry_of (entry_of_kind k) r.made
unfolding made_of
made_entry Send r = refl
made_entry Echo r = refl
made_entry Ready r = refl

pub put_new : (e : Entry) (v : ℕ) (s : Sent) → entry_of e (put_at e v s) ≡ v
put_new send_entry v s = refl
put_new echo_entry v s = refl
put_new ready_entry v s = refl
put_new delivery_entry v s = refl

-- what an entry is after one was put: the old number, or the new one in its own entry
pub put_cases : (e f : Entry) (v : ℕ) → ((s : Sent) → entry_of f (put_at e v s) ≡ entry_of f s) ⊎ ((f ≡ e) × ((s : Sent) → entry_of f (put_at e v s) ≡ v))
put_cases send_entry send_entry v = inr (refl, λ _. refl)
put_cases send_entry echo_entry v = inl (λ _. refl)
put_cases send_entry ready_entry v = inl (λ _. refl)
put_cases send_entry delivery_entry v = inl (λ _. refl)
put_cases echo_entry send_entry v = inl (λ _. refl)
put_cases echo_entry echo_entry v = inr (refl, λ _. refl)
put_cases echo_entry ready_entry v = inl (λ _. refl)
put_cases echo_entry delivery_entry v = inl (λ _. refl)
put_cases ready_entry send_entry v = inl (λ _. refl)
put_cases ready_entry echo_entry v = inl (λ _. refl)
put_cases ready_entry ready_entry v = inr (refl, λ _. refl)
put_cases ready_entry delivery_entry v = inl (λ _. refl)
put_cases delivery_entry send_entry v = inl (λ _. refl)
put_cases delivery_entry echo_entry v = inl (λ _. refl)
put_cases delivery_entry ready_entry v = inl (λ _. refl)
put_cases delivery_entry delivery_entry v = inr (refl, λ _. refl)

-- ---- every step

-- a message that is taken has a number
pub number_some : (v : ℕ) (t : Bool) → (not (eqb v 0) && t) ≡ true → v ≢ 0
number_some v t e = eqb-false v 0 (not-true _ (and_left (not (eqb v 0)) t e))

module _
    (R : SlotRecord → SlotRecord → Type 0)
    (same : (r : SlotRecord) → R r r)
    (both : (r s t : SlotRecord) → R r s → R s t → R r t)
    (puts : (e : Entry) (v : ℕ) (r : SlotRecord) → v ≢ 0 → entry_of e r.sent ≡ 0 → R r (in_both (put_at e v) r))
    (notes_echo : (p v : ℕ) (r : SlotRecord) → v ≢ 0 → get_or r.echoes p 0 ≡ 0 → R r (note_echo p v r))
    (notes_ready : (p v : ℕ) (r : SlotRecord) → v ≢ 0 → get_or r.readies p 0 ≡ 0 → R r (note_ready p v r))
  where
    ready_step : (v : ℕ) (r : SlotRecord) (t : Bool) → v ≢ 0 → R r (only_if (eqb r.sent.ready 0 && t) (in_both (with_ready v)) r)
    ready_step v r t n = only_if_keeps (R r) _ _ r (same r) (λ e _. puts ready_entry v r n (eqb-true _ _ (and_left (eqb r.sent.ready 0) t e)))

    delivery_step : (v : ℕ) (r : SlotRecord) (t : Bool) → v ≢ 0 → R r (only_if (eqb r.sent.delivered 0 && t) (in_both (with_delivered v)) r)
    delivery_step v r t n = only_if_keeps (R r) _ _ r (same r) (λ e _. puts delivery_entry v r n (eqb-true _ _ (and_left (eqb r.sent.delivered 0) t e)))

    take_step : (n owner : ℕ) (k : Kind) (p v : ℕ) (r : SlotRecord) → v ≢ 0 → R r (take n owner k p v r)
    unfolding take take_send take_echo take_ready ready_on_echoes ready_on_readies deliver_on_readies
    take_step n owner Send p v r nz =
        only_if_keeps (R r) _ _ r (same r) (λ e _. puts echo_entry v r nz (eqb-true _ _ (and_right (eqb p owner) (eqb r.sent.echo 0) e)))
    take_step n owner Echo p v r nz =
        only_if_keeps (R r) _ _ r (same r) (λ e _. both r (note_echo p v r) _ (notes_echo p v r nz (eqb-true _ _ e)) (ready_step v (note_echo p v r) _ nz))
    take_step n owner Ready p v r nz = only_if_keeps (R r) _ _ r (same r) (λ e _.
        both r (ready_on_readies n v (note_ready p v r)) _
        (both r (note_ready p v r) _ (notes_ready p v r nz (eqb-true _ _ e)) (ready_step v (note_ready p v r) _ nz))
        (delivery_step v (ready_on_readies n v (note_ready p v r)) _ nz))

    pub receive_step : (n owner : ℕ) (m : Message) (r : SlotRecord) → R r (receive n owner m r)
    unfolding receive
    receive_step n owner m r =
        only_if_keeps (R r) _ _ r (same r) (λ e _. take_step n owner m.kind m.sender m.number r (number_some m.number _ e))

    pub receive_all_step : (n owner : ℕ) (ms : List Message) (r : SlotRecord) → R r (receive_all n owner ms r)
    unfolding receive_all
    receive_all_step n owner [] r = same r
    receive_all_step n owner (m ∷ ms) r = both r (receive n owner m r) _ (receive_step n owner m r) (receive_all_step n owner ms (receive n owner m r))

    pub request_step : (owner site v : ℕ) (r : SlotRecord) → R r (take_request owner site v r)
    unfolding take_request
    request_step owner site v r = only_if_keeps (R r) _ _ r (same r) (λ e _.
        puts send_entry v r (number_some v _ e) (eqb-true _ _ (and_right (eqb site owner) (eqb r.sent.send 0) (and_right (not (eqb v 0)) _ e))))

-- ---- sixteen sites are heard

pub record Sized (r : SlotRecord) : Type 0 where
  pub echoes_size : length r.echoes ≡ max_sites
  pub readies_size : length r.readies ≡ max_sites

pub blank_sized : Sized blank
blank_sized = record { echoes_size = refl; readies_size = refl }

pub nothing_made_sized : (r : SlotRecord) → Sized r → Sized (nothing_made r)
nothing_made_sized r s = record { echoes_size = s.echoes_size; readies_size = s.readies_size }

put_sized : (e : Entry) (v : ℕ) (r : SlotRecord) → v ≢ 0 → entry_of e r.sent ≡ 0 → Sized r → Sized (in_both (put_at e v) r)
put_sized e v r n z s = record { echoes_size = s.echoes_size; readies_size = s.readies_size }

note_echo_sized : (p v : ℕ) (r : SlotRecord) → v ≢ 0 → get_or r.echoes p 0 ≡ 0 → Sized r → Sized (note_echo p v r)
note_echo_sized p v r n z s = record { echoes_size = length-set r.echoes p v ∙ s.echoes_size; readies_size = s.readies_size }

note_ready_sized : (p v : ℕ) (r : SlotRecord) → v ≢ 0 → get_or r.readies p 0 ≡ 0 → Sized r → Sized (note_ready p v r)
note_ready_sized p v r n z s = record { echoes_size = s.echoes_size; readies_size = length-set r.readies p v ∙ s.readies_size }

pub receive_sized : (n owner : ℕ) (m : Message) (r : SlotRecord) → Sized r → Sized (receive n owner m r)
receive_sized = receive_step (λ r s. Sized r → Sized s) (λ _ h. h) (λ _ _ _ f g h. g (f h)) put_sized note_echo_sized note_ready_sized

pub receive_all_sized : (n owner : ℕ) (ms : List Message) (r : SlotRecord) → Sized r → Sized (receive_all n owner ms r)
receive_all_sized = receive_all_step (λ r s. Sized r → Sized s) (λ _ h. h) (λ _ _ _ f g h. g (f h)) put_sized note_echo_sized note_ready_sized

pub request_sized : (owner site v : ℕ) (r : SlotRecord) → Sized r → Sized (take_request owner site v r)
request_sized = request_step (λ r s. Sized r → Sized s) (λ _ h. h) (λ _ _ _ f g h. g (f h)) put_sized note_echo_sized note_ready_sized
