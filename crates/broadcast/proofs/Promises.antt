-- One message and one request change what the sentences say, and nothing else. Assumes nothing.
use mathlib.Core.Path.{◌≡◌, refl, ap, ◌∙◌}
use mathlib.Core.Logic.{◌↔◌, ◌⊎◌, ◌≢◌, inl, inr}
use mathlib.Core.Bool.{Bool, true, false, not, ◌&&◌}
use mathlib.Core.List.{List}
use Prim.Native.Nat.{ℕ}
use lib.Dec.{eqb, leb, ltb}
use lib.ListN.{get_or, set}
use borrow.Author.Tests.{eq-eqb, ne_eqb, eqb-true, eqb-false, lt-ltb, ltb-true, le-leb, leb-true, not-true}
use Rattle.base.proofs.Tests.{and_left, and_right, and_false, same_tests}
use Rattle.setup.specs.Setup.{max_sites, echo_quorum, ready_amplification, ready_quorum}
use Rattle.broadcast.specs.declared.Kind.{Kind}
use Rattle.broadcast.specs.declared.Kind.TheVariants.{Send, Echo, Ready}
use Rattle.broadcast.specs.declared.SlotRecord.{SlotRecord}
use Rattle.broadcast.specs.Record.{with_ready, with_delivered, in_both, note_ready}
use Rattle.broadcast.specs.Process.{support, only_if, ready_on_echoes, ready_on_readies, deliver_on_readies, take_send, take_echo, take_ready, take, receive, received, take_request}
use Rattle.broadcast.specs.Promises.{Supported, Regular, ReadyByEchoes, ReadyByReadies, DeliveryByReadies, OneMessage, OneRequest, Promises}
use Rattle.broadcast.proofs.Steps.{only_if_keeps}
use Rattle.broadcast.proofs.Support.{support_count}

-- the test that a rule makes of an entry and of the supporters says what the sentence says
due : (entry n : ℕ) (heard : List ℕ) (v least : ℕ) (told : Bool) (P : Type 0) → ((told ≡ true) ↔ P)
    → (P → (entry ≡ 0) × Supported n heard v least) → ((entry ≡ 0) × Supported n heard v least → P)
    → (eqb entry 0 && leb least (support n heard v)) ≡ told
due entry n heard v least told P says out into = same_tests _ _
    (λ e. says.1 (into (eqb-true _ _ (and_left (eqb entry 0) _ e), rw (← support_count n heard v) (leb-true least (support n heard v) (and_right (eqb entry 0) _ e)))))
    (λ e. let w = out (says.0 e) in rw (eq-eqb entry 0 w.0, le-leb least (support n heard v) (rw (support_count n heard v) w.1)))

module _ (n owner : ℕ) (r : SlotRecord) (p v : ℕ) where
  regular : (kind : Kind) → Regular n p v → received r n owner kind p v ≡ take n owner kind p v r
  unfolding receive only_if
  regular kind t = rw (ne_eqb v 0 t.number, lt-ltb p n t.sender, le-leb n max_sites t.sites)

  -- what a message leaves where it is regular it leaves always
  left : (kind : Kind) → take n owner kind p v r ≡ r → received r n owner kind p v ≡ r
  unfolding receive
  left kind e = only_if_keeps (λ s. s ≡ r) _ _ r refl (λ _ _. e)

  irregular : (kind : Kind) → (Regular n p v → ⊥) → received r n owner kind p v ≡ r
  unfolding receive
  irregular kind none = only_if_keeps (λ s. s ≡ r) (not (eqb v 0) && (ltb p n && leb n max_sites)) _ r refl (λ e _. absurd (none (record {
    sites = leb-true n max_sites (search (and_left, and_right) depth 12);
    sender = ltb-true p n (search (and_left, and_right) depth 12);
    number = eqb-false v 0 (not-true _ (and_left (not (eqb v 0)) _ e));
  })))

  -- the rules that follow a READY that is noted
  module _ (ready delivery : Bool) (says : (ready ≡ true) ↔ ReadyByReadies n owner r p v) (delivers : (delivery ≡ true) ↔ DeliveryByReadies n owner r p v) where
    ready_due : ready_on_readies n v (note_ready p v r) ≡ only_if ready (in_both (with_ready v)) (note_ready p v r)
    unfolding ready_on_readies
    ready_due = rw (due r.sent.ready n (set r.readies p v) v (ready_amplification n) ready (ReadyByReadies n owner r p v) says
        (λ d. (d.unsent, d.enough)) (λ d. record { unsent = d.0; enough = d.1 }))

    delivery_is : (eqb r.sent.delivered 0 && leb (ready_quorum n) (support n (set r.readies p v) v)) ≡ delivery
    delivery_is = due r.sent.delivered n (set r.readies p v) v (ready_quorum n) delivery (DeliveryByReadies n owner r p v) delivers
        (λ d. (d.undelivered, d.enough)) (λ d. record { undelivered = d.0; enough = d.1 })

    -- whether READY is sent does not matter to delivery
    delivery_due : (t : Bool) → deliver_on_readies n v (only_if t (in_both (with_ready v)) (note_ready p v r))
        ≡ only_if delivery (in_both (with_delivered v)) (only_if t (in_both (with_ready v)) (note_ready p v r))
    unfolding deliver_on_readies only_if
    delivery_due true = rw delivery_is
    delivery_due false = rw delivery_is

    both_due : deliver_on_readies n v (ready_on_readies n v (note_ready p v r))
        ≡ only_if delivery (in_both (with_delivered v)) (only_if ready (in_both (with_ready v)) (note_ready p v r))
    both_due = ap (deliver_on_readies n v) ready_due ∙ delivery_due ready

  message : OneMessage n owner r p v
  unfolding take take_send take_echo take_ready ready_on_echoes only_if
  message =
      record {
        irregular = irregular;
        send_taken = λ t o e. regular Send t ∙ rw (eq-eqb p owner o, eq-eqb r.sent.echo 0 e);
        echo_sent = λ e. left Send (rw (ne_eqb r.sent.echo 0 e, and_false (eqb p owner)));
        from_others = λ o. left Send (rw (ne_eqb p owner o));
        echo_taken = λ t e ready says. regular Echo t ∙ rw (
          eq-eqb (get_or r.echoes p 0) 0 e,
          due r.sent.ready n (set r.echoes p v) v (echo_quorum n) ready (ReadyByEchoes n owner r p v) says
              (λ d. (d.unsent, d.enough)) (λ d. record { unsent = d.0; enough = d.1 }),
        );
        echo_heard = λ e. left Echo (rw (ne_eqb (get_or r.echoes p 0) 0 e));
        ready_taken = λ t e ready delivery says delivers. regular Ready t ∙ rw (eq-eqb (get_or r.readies p 0) 0 e) (both_due ready delivery says delivers);
        ready_heard = λ e. left Ready (rw (ne_eqb (get_or r.readies p 0) 0 e));
      }

  requested : OneRequest n owner r p v
  unfolding take_request only_if
  requested =
      record {
        sends = λ some own none. rw (ne_eqb v 0 some, eq-eqb p owner own, eq-eqb r.sent.send 0 none);
        nothing = nothing;
      }
    where
      nothing : (v ≡ 0) ⊎ ((p ≢ owner) ⊎ (r.sent.send ≢ 0)) → take_request owner p v r ≡ r
      nothing (inl e) = rw (eq-eqb v 0 e)
      nothing (inr (inl o)) = rw (ne_eqb p owner o, and_false (not (eqb v 0)))
      nothing (inr (inr s)) = rw (ne_eqb r.sent.send 0 s, and_false (eqb p owner), and_false (not (eqb v 0)))

pub promises : Promises
promises = record { message = message; requested = requested }
