-- Agreement: in any collection of histories in which at most f sites forked, a slot has at most one number delivered. Assumes nothing.
use mathlib.Core.Path.{◌≡◌, refl, sym, ◌∙◌, subst}
use mathlib.Core.Logic.{◌⊎◌, ◌≢◌, inl, inr}
use mathlib.Core.Bool.{Bool, true, false}
use mathlib.Core.List.{Memᴰ}
use Prim.Native.Nat.{ℕ, zero, suc, ◌+◌, ◌-◌, ◌≤◌}
use native.Mathlib.Omega.{arith}
use lib.Dec.{leb}
use borrow.Author.Tests.{leb-true, leb-false}
use Rattle.base.specs.Count.{count_below}
use Rattle.base.proofs.Tests.{by_test, true_not_false}
use Rattle.setup.specs.Setup.{Setup, lawful_sites, faults, echo_quorum}
use Rattle.block.specs.Layout.{site_of, sequence_of}
use Rattle.broadcast.specs.declared.SlotRecord.{SlotRecord}
use Rattle.broadcast.specs.Process.{support}
use Rattle.broadcast.proofs.Steps.{Entry, entry_of}
use Rattle.broadcast.proofs.Steps.Entry.{echo_entry}
use Rattle.broadcast.proofs.Monotonicity.{Kept, kept_same, kept_both}
use Rattle.broadcast.proofs.Quorum.{supporters_meet}
use Rattle.history.specs.History.{History, node, block_of, children, is_parent_of, Ancestor, direct, further, slot_record}
use Rattle.history.proofs.Histories.{AncestorOrSelf, parent_site, parent_sequence, parent_cases}
use Rattle.history.proofs.Meanings.{record_kept}
use Rattle.history.proofs.Validity.{heard_echo, delivered_quorum}

-- a collection of histories with all their ancestors, each with a parent unless its sequence number is 0; a site that has not forked has one
-- history of each sequence number
pub record Collection (W : History → Type 0) (forks : ℕ → Bool) : Type 0 where
  pub closed : (h c : History) → W h → Memᴰ c (children h) → W c
  pub parented : (h : History) → W h
      → (sequence_of (block_of h) ≡ 0) ⊎ ((c : History) × Memᴰ c (children h) × (is_parent_of (block_of h) (block_of c) ≡ true))
  pub single : (h g : History) → W h → W g → site_of (block_of h) ≡ site_of (block_of g) → forks (site_of (block_of h)) ≡ false
      → sequence_of (block_of h) ≡ sequence_of (block_of g) → h ≡ g

pub above_in : {W : History → Type 0} {forks : ℕ → Bool} → Collection W forks → {a h : History} → Ancestor a h → W h → W a
above_in world (direct m) w = world.closed _ _ w m
above_in world (further k m) w = above_in world k (world.closed _ _ w m)

module _ (s : Setup) (slot : ℕ) (W : History → Type 0) (forks : ℕ → Bool) (world : Collection W forks) where
  -- what a block of a site that has not forked has sent, heard or delivered stays in its later blocks
  chain : (p : ℕ) → forks p ≡ false → (k : History) → W k → site_of (block_of k) ≡ p
      → (d : ℕ) (c : History) → W c → site_of (block_of c) ≡ p → sequence_of (block_of c) ≡ d + sequence_of (block_of k)
      → Kept (slot_record s slot k) (slot_record s slot c)
  chain p u k wk sk zero c wc sc q =
      let same : c ≡ k = world.single c k wc wk (sc ∙ sym sk) (rw sc u) (omega arith) in rw same (kept_same (slot_record s slot k))
  chain p u k wk sk (suc d) (node b hs) wc sc q = elim (parent_cases s slot b hs) [
    | inl w ↦ kept_both (slot_record s slot k) (slot_record s slot w.parent) (slot_record s slot (node b hs))
        (chain p u k wk sk d w.parent (world.closed _ _ wc w.among) (parent_site b (block_of w.parent) w.is_parent ∙ sc)
        (omega (arith, parent_sequence b (block_of w.parent) w.is_parent)))
        (subst (λ (r : SlotRecord). Kept r (slot_record s slot (node b hs))) w.its (record_kept s slot b hs))
    | inr w ↦ elim (world.parented (node b hs) wc) [ inl z ↦ absurd (omega arith) | inr z ↦ true_not_false z.2 (w.none_is z.0 z.1) ]
  ]

  pub later_kept : (k c : History) → W k → W c → site_of (block_of k) ≡ site_of (block_of c) → forks (site_of (block_of c)) ≡ false
      → sequence_of (block_of k) ≤ sequence_of (block_of c) → Kept (slot_record s slot k) (slot_record s slot c)
  later_kept k c wk wc e u h =
      chain (site_of (block_of c)) u k wk e (sequence_of (block_of c) - sequence_of (block_of k)) c wc refl (omega arith)

  -- so all its blocks that have sent a SEND, an ECHO or a READY, or have delivered, have one number there
  pub one_sent : (e : Entry) (v w p : ℕ) → v ≢ 0 → w ≢ 0 → forks p ≡ false → (k c : History) → W k → W c → site_of (block_of k) ≡ p → site_of (block_of c) ≡ p
      → entry_of e (slot_record s slot k).sent ≡ v → entry_of e (slot_record s slot c).sent ≡ w → v ≡ w
  one_sent e v w p n m u k c wk wc sk sc x y = by_test (leb (sequence_of (block_of k)) (sequence_of (block_of c)))
      (λ t. sym x ∙ sym ((later_kept k c wk wc (sk ∙ sym sc) (rw sc u) (leb-true _ _ t)).sent_kept e (λ z. n (sym x ∙ z))) ∙ y)
      (λ t. let low : sequence_of (block_of c) ≤ sequence_of (block_of k) = omega (arith, leb-false) in
      sym x ∙ (later_kept c k wc wk (sc ∙ sym sk) (rw sk u) low).sent_kept e (λ z. m (sym y ∙ z)) ∙ y)

  pub or_self_in : {a h : History} → AncestorOrSelf a h → W h → W a
  or_self_in (inl e) w = rw e w
  or_self_in (inr k) w = above_in world k w

  module _ (law : lawful_sites s.sites ≡ true) (few : count_below forks s.sites ≤ faults s.sites) where
    -- two numbers with an ECHO quorum each
    one_quorum : (v w : ℕ) → v ≢ 0 → w ≢ 0 → (g h : History) → W g → W h → echo_quorum s.sites ≤ support s.sites (slot_record s slot g).echoes v
        → echo_quorum s.sites ≤ support s.sites (slot_record s slot h).echoes w → v ≡ w
    one_quorum v w n m g h wg wh qg qh =
        let p = supporters_meet s.sites law (slot_record s slot g).echoes (slot_record s slot h).echoes v w forks qg qh few in
        let k = heard_echo s slot g p.0 v n p.2 in
        let c = heard_echo s slot h p.0 w m p.3 in
        one_sent echo_entry v w p.0 n m p.4 k.sender c.sender (above_in world k.above wg) (above_in world c.above wh) k.by_site c.by_site k.sends c.sends

    pub agreement : (g h : History) → W g → W h → (v w : ℕ) → v ≢ 0 → w ≢ 0
        → (slot_record s slot g).sent.delivered ≡ v → (slot_record s slot h).sent.delivered ≡ w → v ≡ w
    agreement g h wg wh v w n m e f =
        let q = delivered_quorum s slot g v n e in
        let r = delivered_quorum s slot h w m f in
        one_quorum v w n m q.at r.at (or_self_in q.above wg) (or_self_in r.above wh) q.enough r.enough
