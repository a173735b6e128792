-- Every site of the set has sent its ECHO by its first block and its READY by its second, and by the last block a number is delivered; all of these
-- are the owner's number. Assumes nothing.
use mathlib.Core.Path.{◌≡◌, sym, ap, ◌∙◌, subst}
use mathlib.Core.Logic.{◌≢◌}
use mathlib.Core.Bool.{true}
use mathlib.Core.List.{List, Memᴰ}
use Prim.Native.Nat.{ℕ, ◌+◌, ◌-◌, ◌*◌, ◌≤◌, ◌<◌}
use native.Mathlib.Omega.{arith}
use lib.ListN.{get_or}
use borrow.Author.Tests.{eq-eqb}
use Rattle.base.specs.Bytes.{Bytes}
use Rattle.base.specs.Count.{count_below}
use Rattle.base.proofs.Count.{count_mono}
use Rattle.setup.specs.Setup.{max_sites, Setup, owner_of, lawful, faults, slot_count}
use Rattle.setup.proofs.Thresholds.{sites_lawful, sites_few, owner_below, echo_quorum_reached, ready_quorum_reached}
use Rattle.block.specs.Layout.{site_of, sequence_of, request_for}
use Rattle.broadcast.specs.declared.Kind.{Kind}
use Rattle.broadcast.specs.declared.Kind.TheVariants.{Send, Echo, Ready}
use Rattle.broadcast.specs.declared.SlotRecord.{SlotRecord}
use Rattle.broadcast.specs.Process.{made_of, support}
use Rattle.broadcast.proofs.Steps.{Entry, entry_of, entry_of_kind, made_entry}
use Rattle.broadcast.proofs.Steps.Entry.{echo_entry, ready_entry, delivery_entry}
use Rattle.broadcast.proofs.Support.{support_count}
use Rattle.broadcast.proofs.Hearing.{Heard}
use Rattle.broadcast.proofs.ThresholdInvariant.Rule.{ready_by_echoes, delivery_by_readies}
use Rattle.records.specs.Layout.{made_offset, record_size, record_at}
use Rattle.records.proofs.RecordNumbers.{record_flatten}
use Rattle.records.proofs.Parts.{entry_in_lem}
use Rattle.history.specs.History.{History, block_of, slot_record, meaning}
use Rattle.history.specs.Ancestry.{history_of}
use Rattle.history.specs.Forks.{forked}
use Rattle.history.proofs.Meanings.{record_sized, record_settled}
use Rattle.history.proofs.Ancestry.{OneHistory}
use Rattle.history.proofs.Agreement.{Collection}
use Rattle.history.proofs.Collections.{HistoryIn, history_in, one_world}
use Rattle.run.specs.Promises.{delivered_entry}
use Rattle.run.proofs.Promises.{delivered_is as delivered_entry_lem}
use Rattle.arrival.specs.Full.{BlockBy, Above, Full}
use Rattle.arrival.specs.Arrival.{InSet, Premises, DeliveredInChain}
use Rattle.arrival.proofs.Chains.{chain_site, chain_above}
use Rattle.arrival.proofs.Numbers.{first_made, first_sent, OneNumber, one_number}
use Rattle.arrival.proofs.Hearing.{record_of, Maker, maker_of, hears}

-- entry 39 of a slot in a block's meaning
made_is : (s : Setup) (h : History) (slot : ℕ) → slot < slot_count
    → get_or (meaning s h) (record_size * slot + (made_offset + delivered_entry)) 0 ≡ (slot_record s slot h).made.delivered
unfolding meaning record_at
made_is s h slot l =
    entry_in_lem (λ slot. slot_record s slot h) (λ slot _. record_sized s slot h) slot (made_offset + delivered_entry) l (omega arith)
    ∙ ap (λ (r : SlotRecord). r.made.delivered) (record_flatten (slot_record s slot h) (record_sized s slot h))

module _ (digest : Bytes → Bytes) (bs : List Bytes) (g : OneHistory digest bs) (s : Setup) (law : lawful s ≡ true) (slot v : ℕ) (last : Bytes) (below : slot < slot_count)
    (w : Premises digest s bs slot v last) where
  few : s.sites ≤ max_sites
  few = sites_few s.sites (sites_lawful s law)

  abbrev W : History → Type 0
  W = HistoryIn digest bs

  world : Collection W (forked bs)
  world = one_world digest bs g

  abbrev record_at_lem : Bytes → SlotRecord
  record_at_lem b = record_of digest bs g s slot b

  abbrev first : ℕ → Bytes
  first = w.rounds.first

  abbrev second : ℕ → Bytes
  second = w.rounds.second

  last_held : Memᴰ last bs
  last_held = w.rounds.last_by.held

  some : v ≢ 0
  some = w.is_first.not_zero

  -- ---- the owner sends v, and there is no other number

  A-in : W (history_of digest bs w.A)
  A-in = history_in digest bs w.A w.is_first.by_owner.held

  requested : request_for w.A slot ≢ 0
  requested z = some (sym w.is_first.requests ∙ z)

  none_before : (h : History) → W h → site_of (block_of h) ≡ owner_of s slot → sequence_of (block_of h) < sequence_of w.A → request_for (block_of h) slot ≡ 0
  none_before h x e l = w.is_first.none_before (block_of h) (record { held = x.among; by_site = e }) l

  A-made : (record_at_lem w.A).made.send ≡ v
  unfolding history_of
  A-made = first_made s slot W (forked bs) world w.A _ A-in w.is_first.by_owner.by_site requested none_before ∙ w.is_first.requests

  A-sent : (record_at_lem w.A).sent.send ≡ v
  unfolding history_of
  A-sent = first_sent s slot W (forked bs) world w.A _ A-in w.is_first.by_owner.by_site requested none_before ∙ w.is_first.requests

  number : OneNumber s slot W (forked bs) world v
  unfolding history_of
  number = one_number s slot W (forked bs) world v some (history_of digest bs w.A) A-in w.is_first.by_owner.by_site w.owner_full.unforked A-sent

  -- ---- the sites of the set

  -- a number that all of them are heard with is supported by a quorum
  supported : (quorum : ℕ) → quorum ≤ s.sites - faults s.sites → (heard : List ℕ) → ((p : ℕ) → InSet s w.set p → get_or heard p 0 ≡ v)
      → quorum ≤ support s.sites heard v
  supported quorum reached heard h =
      let all : count_below w.set s.sites ≤ support s.sites heard v =
      rw (support_count s.sites heard v) (count_mono w.set _ s.sites (λ p l e. eq-eqb _ _ (h p (record { below = l; is_in = e })))) in
      omega (arith, w.enough)

  by_full : (p : ℕ) → InSet s w.set p → (b : Bytes) → BlockBy bs p b → Full digest bs (site_of b)
  by_full p i b x = rw x.by_site (w.set_full p i)

  -- the block of site p's chain, up to block b, that made what b has sent; site p is in the set
  record MadeBy (p : ℕ) (e : Entry) (b : Bytes) : Type 0 where
    maker : Maker digest bs g s slot e b
    by_site : site_of maker.by ≡ p
    some_made : entry_of e (record_at_lem maker.by).made ≢ 0

  made_by_lem : (p : ℕ) (e : Entry) (b : Bytes) → BlockBy bs p b → entry_of e (record_at_lem b).sent ≢ 0 → MadeBy p e b
  made_by_lem p e b x n =
      let m = maker_of digest bs g s slot e b x.held n in
      record { maker = m; by_site = chain_site digest bs m.in_chain ∙ x.by_site; some_made = λ z. n (sym m.makes ∙ z) }

  -- what site p of the set made in the chain of block b is heard in a block of a full site above b
  heard_from_lem : (k : Kind) (p : ℕ) → InSet s w.set p → (b c : Bytes) → MadeBy p (entry_of_kind k) b → Memᴰ c bs → Full digest bs (site_of c)
      → Above digest bs c b → Heard (owner_of s slot) k p (record_at_lem c)
  heard_from_lem k p i b c m held full above =
      let e = m.by_site in
      subst (λ (x : ℕ). Heard (owner_of s slot) k x (record_at_lem c)) e
      (hears digest bs g s slot few k c m.maker.by held full (chain_above digest bs m.maker.in_chain above)
      (rw e (w.set_full p i).unforked) (rw e i.below) (λ z. m.some_made (sym (made_entry k (record_at_lem m.maker.by)) ∙ z)))

  -- ---- ECHO, READY, delivery

  echoed : (p : ℕ) → InSet s w.set p → (record_at_lem (first p)).sent.echo ≢ 0
  unfolding made_of
  echoed p i =
      let owner = w.is_first.by_owner.by_site in
      hears digest bs g s slot few Send (first p) w.A (w.rounds.first_by p i).held (by_full p i (first p) (w.rounds.first_by p i)) (w.rounds.first_above p i)
      (rw owner w.owner_full.unforked) (rw owner (owner_below s law slot below)) (λ z. some (sym A-made ∙ z)) owner

  echo_heard : (q p : ℕ) → InSet s w.set q → InSet s w.set p → get_or (record_at_lem (second q)).echoes p 0 ≡ v
  echo_heard q p j i =
      number.echoes (history_of digest bs (second q)) (history_in digest bs (second q) (w.rounds.second_by q j).held) p
      (heard_from_lem Echo p i (first p) (second q) (made_by_lem p echo_entry (first p) (w.rounds.first_by p i) (echoed p i))
      (w.rounds.second_by q j).held (by_full q j (second q) (w.rounds.second_by q j)) (w.rounds.second_above q p j i))

  readied : (q : ℕ) → InSet s w.set q → (record_at_lem (second q)).sent.ready ≢ 0
  readied q j = record_settled s slot (history_of digest bs (second q)) ready_by_echoes v some
      (supported _ (echo_quorum_reached s.sites (sites_lawful s law)) _ (λ p i. echo_heard q p j i))

  ready_heard : (q : ℕ) → InSet s w.set q → get_or (record_at_lem last).readies q 0 ≡ v
  ready_heard q j =
      number.readies (history_of digest bs last) (history_in digest bs last (last_held)) q
      (heard_from_lem Ready q j (second q) last (made_by_lem q ready_entry (second q) (w.rounds.second_by q j) (readied q j)) (last_held) w.last_full (w.rounds.last_above q j))

  some_delivered : (record_at_lem last).sent.delivered ≢ 0
  some_delivered = record_settled s slot (history_of digest bs last) delivery_by_readies v some
      (supported _ (ready_quorum_reached s.sites (sites_lawful s law)) _ ready_heard)

  delivered : (record_at_lem last).sent.delivered ≡ v
  delivered = number.delivery (history_of digest bs last) (history_in digest bs last (last_held)) some_delivered

  -- ---- the last block

  pub arrived : DeliveredInChain digest s bs slot v last
  arrived =
      let m = maker_of digest bs g s slot delivery_entry last (last_held) some_delivered in
      record {
        by = m.by;
        in_chain = m.in_chain;
        made = made_is s (history_of digest bs m.by) slot below ∙ m.makes ∙ delivered;
        stays = delivered_entry_lem s (history_of digest bs last) slot below ∙ delivered;
      }
