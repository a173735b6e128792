-- A message that is received is heard: after it something of its kind from its sender is noted, or, of SEND, an ECHO is sent.
-- Assumes nothing.
use mathlib.Core.Path.{◌≡◌, refl, sym, ◌∙◌}
use mathlib.Core.Logic.{◌≢◌, inl, inr}
use mathlib.Core.Bool.{Bool, true, false, ◌&&◌}
use mathlib.Core.List.Memᴰ
use mathlib.Core.List.{List, [], ◌∷◌, Memᴰ}
use Prim.Native.Nat.{ℕ, ◌≤◌, ◌<◌}
use native.Mathlib.Omega.{arith}
use lib.Dec.{eqb}
use lib.ListN.{length, get_or}
use lib.Seq.{get_or-set_same}
use borrow.Author.Tests.{eq-eqb, ne_eqb, eqb-false, lt-ltb, le-leb}
use Rattle.setup.specs.Setup.{max_sites}
use Rattle.broadcast.specs.declared.Kind.{Kind}
use Rattle.broadcast.specs.declared.Kind.TheVariants.{Send, Echo, Ready}
use Rattle.broadcast.specs.declared.SlotRecord.{SlotRecord}
use Rattle.broadcast.specs.Record.{with_echo, in_both, note_echo, note_ready}
use Rattle.broadcast.specs.Process.{Message, only_if, ready_on_echoes, ready_on_readies, deliver_on_readies, take_send, take_echo, take_ready, take, receive, receive_all}
use Rattle.broadcast.proofs.Steps.{Sized, receive_sized}
use Rattle.broadcast.proofs.Steps.Entry.{echo_entry}
use Rattle.broadcast.proofs.FirstMessage.{same_echoes, same_readies}
use Rattle.broadcast.proofs.Monotonicity.{Kept, receive_all_kept}

abbrev pub Heard : ℕ → Kind → ℕ → SlotRecord → Type 0
Heard owner Send p r = p ≡ owner → r.sent.echo ≢ 0
Heard owner Echo p r = get_or r.echoes p 0 ≢ 0
Heard owner Ready p r = get_or r.readies p 0 ≢ 0

pub heard_kept : (owner : ℕ) (k : Kind) (p : ℕ) (r s : SlotRecord) → Kept r s → Heard owner k p r → Heard owner k p s
heard_kept owner Send p r s k h = λ o z. h o (sym (k.sent_kept echo_entry (h o)) ∙ z)
heard_kept owner Echo p r s k h = λ z. h (sym (k.echoes_kept p h) ∙ z)
heard_kept owner Ready p r s k h = λ z. h (sym (k.readies_kept p h) ∙ z)

take_heard : (n owner : ℕ) (k : Kind) (p v : ℕ) (r : SlotRecord) → Sized r → v ≢ 0 → p < max_sites → Heard owner k p (take n owner k p v r)
unfolding take take_send take_echo take_ready only_if
take_heard n owner Send p v r s nz l = λ o. go o (eqb r.sent.echo 0) refl
  where
    go : p ≡ owner → (t : Bool) → eqb r.sent.echo 0 ≡ t → (only_if (eqb p owner && t) (in_both (with_echo v)) r).sent.echo ≢ 0
    go o true e = rw (eq-eqb p owner o) nz
    go o false e = rw (eq-eqb p owner o) (eqb-false _ _ e)
take_heard n owner Echo p v r s nz l = go (eqb (get_or r.echoes p 0) 0) refl
  where
    go : (t : Bool) → eqb (get_or r.echoes p 0) 0 ≡ t → get_or (only_if t (λ q. ready_on_echoes n v (note_echo p v q)) r).echoes p 0 ≢ 0
    go true e = let i : p < length r.echoes = omega arith in rw (same_echoes n v (note_echo p v r), get_or-set_same r.echoes p v 0 i) nz
    go false e = eqb-false _ _ e
take_heard n owner Ready p v r s nz l = go (eqb (get_or r.readies p 0) 0) refl
  where
    go : (t : Bool) → eqb (get_or r.readies p 0) 0 ≡ t
        → get_or (only_if t (λ q. deliver_on_readies n v (ready_on_readies n v (note_ready p v q))) r).readies p 0 ≢ 0
    go true e = let i : p < length r.readies = omega arith in rw (same_readies n v (note_ready p v r), get_or-set_same r.readies p v 0 i) nz
    go false e = eqb-false _ _ e

pub receive_heard : (n owner : ℕ) (m : Message) (r : SlotRecord) → Sized r → n ≤ max_sites → m.sender < n → m.number ≢ 0
    → Heard owner m.kind m.sender (receive n owner m r)
unfolding receive only_if
receive_heard n owner m r s h l nz =
    rw (ne_eqb m.number 0 nz, lt-ltb m.sender n l, le-leb n max_sites h) (take_heard n owner m.kind m.sender m.number r s nz (omega arith))

-- every message of a list is heard
pub receive_all_heard : (n owner : ℕ) (ms : List Message) (r : SlotRecord) → Sized r → n ≤ max_sites → (m : Message) → Memᴰ m ms → m.sender < n
    → m.number ≢ 0 → Heard owner m.kind m.sender (receive_all n owner ms r)
unfolding receive_all
receive_all_heard n owner [] r s h m i l nz = absurd (Memᴰ.not-nil i)
receive_all_heard n owner (x ∷ ms) r s h m i l nz = elim (Memᴰ.cases_cons i) [
  | inl e ↦ heard_kept owner m.kind m.sender (receive n owner x r) _ (receive_all_kept n owner ms (receive n owner x r))
      (rw e (receive_heard n owner x r s h (rw (← e) l) (rw (← e) nz)))
  | inr j ↦ receive_all_heard n owner ms (receive n owner x r) (receive_sized n owner x r s) h m j l nz
]
