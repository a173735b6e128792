-- The histories of two lists of blocks as one collection: where blocks of one digest are the same, a site that has not forked has one
-- history of each sequence number, and so a slot has one number. Assumes nothing.
use mathlib.Core.Path.{◌≡◌, refl, sym, ap, ◌∙◌}
use mathlib.Core.Logic.{◌⊎◌, ◌≢◌, inl, inr}
use mathlib.Core.Bool.{true}
use mathlib.Core.List.Memᴰ
use mathlib.Core.List.{List, ◌++◌, Memᴰ}
use Prim.Native.Nat.{ℕ, ◌≤◌}
use Rattle.base.specs.Bytes.{Bytes}
use Rattle.base.specs.Count.{count_below}
use Rattle.setup.specs.Setup.{Setup, lawful_sites, faults}
use Rattle.block.specs.Layout.{site_of, sequence_of}
use Rattle.history.specs.History.{History, block_of, children, is_parent_of, slot_record}
use Rattle.history.specs.Ancestry.{history_of}
use Rattle.history.specs.Forks.{forked, NoCollision}
use Rattle.history.proofs.Ancestry.{OneHistory, history_agree, child_of, child_parent}
use Rattle.history.proofs.Forks.{unforked_single}
use Rattle.history.proofs.Agreement.{Collection, agreement}

module _ (digest : Bytes → Bytes) where
  -- the history of one of the blocks
  pub record HistoryIn (bs : List Bytes) (h : History) : Type 0 where
    pub among : Memᴰ (block_of h) bs
    pub is : h ≡ history_of digest bs (block_of h)

  pub history_in : (bs : List Bytes) (b : Bytes) → Memᴰ b bs → HistoryIn bs (history_of digest bs b)
  unfolding history_of
  history_in bs b m = record { among = m; is = refl }

  child_in : (bs : List Bytes) → OneHistory digest bs → (h c : History) → HistoryIn bs h → Memᴰ c (children h) → HistoryIn bs c
  child_in bs g h c w m =
      let k = child_of digest bs g (block_of h) w.among c (rw w.is at m) in
      record { among = k.among; is = k.is_history }

  parent_in : (bs : List Bytes) → OneHistory digest bs → (h : History) → HistoryIn bs h
      → (sequence_of (block_of h) ≡ 0) ⊎ ((c : History) × Memᴰ c (children h) × (is_parent_of (block_of h) (block_of c) ≡ true))
  parent_in bs g h w = elim (child_parent digest bs g (block_of h) w.among) [
    | inl z ↦ inl z
    | inr p ↦ inr (p.0, rw w.is p.1, p.2)
  ]

  -- the histories of one list of blocks
  pub one_world : (bs : List Bytes) → OneHistory digest bs → Collection (HistoryIn bs) (forked bs)
  one_world bs g = record {
    closed = child_in bs g;
    parented = parent_in bs g;
    single = λ h k x y s u q.
        x.is ∙ ap (history_of digest bs) (unforked_single bs (site_of (block_of h)) u (block_of h) (block_of k) x.among y.among refl (sym s) q) ∙ sym y.is;
  }

  module _ (bs cs : List Bytes) (gb : OneHistory digest bs) (gc : OneHistory digest cs) (safe : NoCollision digest (bs ++ cs)) where
    pub across : (a b : Bytes) → Memᴰ a bs → Memᴰ b cs → digest a ≡ digest b → a ≡ b
    across a b ma mb = safe a b (Memᴰ.append_left cs ma) (Memᴰ.append_right bs mb)

    abbrev pub Either : History → Type 0
    Either h = HistoryIn bs h ⊎ HistoryIn cs h

    -- one block has one history in either
    one_history : (h k : History) → Either h → Either k → block_of h ≡ block_of k → h ≡ k
    one_history h k (inl x) (inl y) e = x.is ∙ ap (history_of digest bs) e ∙ sym y.is
    one_history h k (inl x) (inr y) e =
        x.is ∙ ap (history_of digest bs) e ∙ history_agree digest bs cs gb gc across (block_of k) (Memᴰ.cast (sym e) x.among) y.among ∙ sym y.is
    one_history h k (inr x) (inl y) e =
        sym (y.is ∙ ap (history_of digest bs) (sym e) ∙ history_agree digest bs cs gb gc across (block_of h) (Memᴰ.cast e y.among) x.among ∙ sym x.is)
    one_history h k (inr x) (inr y) e = x.is ∙ ap (history_of digest cs) e ∙ sym y.is

    among_both : (h : History) → Either h → Memᴰ (block_of h) (bs ++ cs)
    among_both h (inl x) = Memᴰ.append_left cs x.among
    among_both h (inr x) = Memᴰ.append_right bs x.among

    child_either : (h c : History) → Either h → Memᴰ c (children h) → Either c
    child_either h c (inl x) m = inl (child_in bs gb h c x m)
    child_either h c (inr x) m = inr (child_in cs gc h c x m)

    parent_either : (h : History) → Either h → (sequence_of (block_of h) ≡ 0) ⊎ ((c : History) × Memᴰ c (children h) × (is_parent_of (block_of h) (block_of c) ≡ true))
    parent_either h (inl x) = parent_in bs gb h x
    parent_either h (inr x) = parent_in cs gc h x

    world : Collection Either (forked (bs ++ cs))
    world = record {
      closed = child_either;
      parented = parent_either;
      single = λ h k x y s u q. one_history h k x y (unforked_single (bs ++ cs) (site_of (block_of h)) u (block_of h) (block_of k) (among_both h x) (among_both k y) refl (sym s) q);
    }

    pub one_delivery : (s : Setup) → lawful_sites s.sites ≡ true → count_below (forked (bs ++ cs)) s.sites ≤ faults s.sites → (slot : ℕ) (g h : History) → Either g → Either h
        → (v w : ℕ) → v ≢ 0 → w ≢ 0 → (slot_record s slot g).sent.delivered ≡ v → (slot_record s slot h).sent.delivered ≡ w → v ≡ w
    one_delivery s law few slot = agreement s slot Either (forked (bs ++ cs)) world law few
