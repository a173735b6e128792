-- The chain of a block: its blocks are held, of one site, and of rising sequence numbers; the chain refers directly to each of its blocks but the
-- block itself; and a block that is above another is above that one's chain. Assumes nothing.
use mathlib.Core.Path.{◌≡◌, refl, sym, ◌∙◌, subst}
use mathlib.Core.Logic.{◌⊎◌, inl, inr}
use mathlib.Core.List.{List, Memᴰ}
use Prim.Native.Nat.{◌+◌, ◌≤◌}
use native.Mathlib.Nat.{le_refl}
use native.Mathlib.Omega.{arith}
use Rattle.base.specs.Bytes.{Bytes}
use Rattle.block.specs.Layout.{site_of, sequence_of}
use Rattle.history.specs.History.{History, block_of}
use Rattle.history.specs.Ancestry.{AncestorIn, refers, through}
use Rattle.history.proofs.Histories.{parent_site, parent_sequence, Lineage, here, older}
use Rattle.history.proofs.Ancestry.{OneHistory, child_of}
use Rattle.history.proofs.Collections.{HistoryIn}
use Rattle.arrival.specs.Full.{RefersTo, InChain, itself, earlier, ReferredInChain}

module _ (digest : Bytes → Bytes) (bs : List Bytes) where
  pub above_trans : {a b c : Bytes} → AncestorIn digest bs a b → AncestorIn digest bs b c → AncestorIn digest bs a c
  above_trans k (refers m r) = through k m r
  above_trans k (through l m r) = through (above_trans k l) m r

  pub above_held : {a b : Bytes} → AncestorIn digest bs a b → Memᴰ a bs
  above_held (refers m r) = m
  above_held (through k m r) = above_held k

  pub chain_held : {a b : Bytes} → InChain digest bs a b → Memᴰ b bs → Memᴰ a bs
  chain_held itself m = m
  chain_held (earlier k p) m = chain_held k p.held

  pub chain_site : {a b : Bytes} → InChain digest bs a b → site_of a ≡ site_of b
  chain_site itself = refl
  chain_site (earlier {c = c} {b = b} k p) = chain_site k ∙ parent_site b c p.is_parent

  pub chain_sequence : {a b : Bytes} → InChain digest bs a b → sequence_of a ≤ sequence_of b
  chain_sequence (itself {b = b}) = le_refl (sequence_of b)
  chain_sequence (earlier {a = a} {c = c} {b = b} k p) =
      let low : sequence_of a ≤ sequence_of c = chain_sequence k in
      let next : sequence_of c + 1 ≡ sequence_of b = parent_sequence b c p.is_parent in
      omega arith

  -- a block of the chain is the block itself, or the chain refers to it
  pub chain_refers_lem : {a b : Bytes} → InChain digest bs a b → (a ≡ b) ⊎ ReferredInChain digest bs b a
  chain_refers_lem itself = inl refl
  chain_refers_lem (earlier {a = a} {c = c} {b = b} k p) = elim (chain_refers_lem k) [
    | inl e ↦ inr (record { by = b; in_chain = itself; refers = subst (λ (x : Bytes). RefersTo digest b x) (sym e) p.referred })
    | inr r ↦ inr (record { by = r.by; in_chain = earlier r.in_chain p; refers = r.refers })
  ]

  -- a block above a block is above its chain
  pub chain_above : {a b c : Bytes} → InChain digest bs a b → AncestorIn digest bs b c → AncestorIn digest bs a c
  chain_above itself k = k
  chain_above (earlier l p) k = chain_above l (above_trans (refers p.held p.referred) k)

  -- the blocks of a history's lineage are a chain
  pub record BlockInChain (h a : History) : Type 0 where
    pub is_in : HistoryIn digest bs a
    pub in_chain : InChain digest bs (block_of a) (block_of h)

  pub chain_of : OneHistory digest bs → {a h : History} → Lineage a h → HistoryIn digest bs h → BlockInChain h a
  chain_of g here w = record { is_in = w; in_chain = itself }
  chain_of g (older {c = c} {h = h} k m p) w =
      let x = child_of digest bs g (block_of h) w.among c (rw w.is at m) in
      let y = chain_of g k (record { among = x.among; is = x.is_history }) in
      record { is_in = y.is_in; in_chain = earlier y.in_chain (record { held = x.among; referred = x.by_digest; is_parent = p }) }
