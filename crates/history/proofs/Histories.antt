-- Induction over a history, and what the blocks directly referred to give: the messages made in them, and the parent's record.
-- Assumes nothing.
use mathlib.Core.Path.{◌≡◌, refl, sym, ap, ◌∙◌, subst}
use mathlib.Core.Logic.{◌⊎◌, inl, inr}
use mathlib.Core.Bool.{true, false}
use mathlib.Core.List.Memᴰ
use mathlib.Core.List.{Memᴰ}
use Prim.Native.Nat.{ℕ, ◌+◌, ◌≤◌}
use native.Mathlib.Nat.{le_refl}
use native.Mathlib.Omega.{arith}
use lib.Dec.{eqb}
use borrow.Author.Tests.{eqb-true}
use Rattle.base.specs.Bytes.{Bytes}
use Rattle.base.proofs.Tests.{and_left, and_right}
use Rattle.setup.specs.Setup.{Setup}
use Rattle.block.specs.Layout.{site_of, sequence_of}
use Rattle.broadcast.specs.declared.Kind.{Kind}
use Rattle.broadcast.specs.Record.{blank}
use Rattle.broadcast.specs.Process.{Message, made_of}
use Rattle.table.specs.Rules.{is_parent}
use Rattle.interpret.specs.Slot.{Direct, parent_state, messages}
use Rattle.interpret.proofs.Messages.{messages_from}
use Rattle.interpret.proofs.Order.{parent_state_cases}
use Rattle.history.specs.History.{History, Histories, node, end, ◌and◌, block_of, list_of, children, is_parent_of, Ancestor, direct, further, slot_record, directs}

-- ---- induction

module _ (P : History → Type 0) (step : (h : History) → ((c : History) → Memᴰ c (children h) → P c) → P h) where
  mutual
    pub child_ind : (h : History) → P h
    child_ind (node b hs) = step (node b hs) (λ c m. children_ind hs c m)

    pub children_ind : (hs : Histories) (c : History) → Memᴰ c (list_of hs) → P c
    children_ind end c m = absurd (Memᴰ.not-nil m)
    children_ind (h and hs) c m = elim (Memᴰ.cases_cons m) [ inl e ↦ subst P (sym e) (child_ind h) | inr k ↦ children_ind hs c k ]

pub ancestor_ind : (P : History → Type 0) → ((h : History) → ((a : History) → Ancestor a h → P a) → P h) → (h : History) → P h
ancestor_ind P step h = step h (child_ind (λ x. (a : History) → Ancestor a x → P a) go h)
  where
    go : (x : History) → ((c : History) → Memᴰ c (children x) → (a : History) → Ancestor a c → P a) → (a : History) → Ancestor a x → P a
    go x ih a (direct m) = step a (ih a m)
    go x ih a (further k m) = ih _ m a k

pub ancestor_trans : {a b c : History} → Ancestor a b → Ancestor b c → Ancestor a c
ancestor_trans k (direct m) = further k m
ancestor_trans k (further l m) = further (ancestor_trans k l) m

abbrev pub AncestorOrSelf : History → History → Type 0
AncestorOrSelf a h = (a ≡ h) ⊎ Ancestor a h

pub or_self_trans : {a b c : History} → AncestorOrSelf a b → Ancestor b c → Ancestor a c
or_self_trans (inl e) k = rw e k
or_self_trans (inr j) k = ancestor_trans j k

-- ---- a parent by site and sequence number

pub parent_site : (b a : Bytes) → is_parent_of b a ≡ true → site_of a ≡ site_of b
parent_site b a e = eqb-true _ _ (and_left (eqb (site_of a) (site_of b)) _ e)

pub parent_sequence : (b a : Bytes) → is_parent_of b a ≡ true → sequence_of a + 1 ≡ sequence_of b
parent_sequence b a e = eqb-true _ _ (and_right (eqb (site_of a) (site_of b)) _ e)

-- ---- a block's lineage: itself, its parent and so on

pub data Lineage : History → History → Type 0 where
  here : {h : History} → Lineage h h
  older : {a c h : History} → Lineage a c → Memᴰ c (children h) → is_parent_of (block_of h) (block_of c) ≡ true → Lineage a h

pub lineage_or_self : {a h : History} → Lineage a h → AncestorOrSelf a h
lineage_or_self here = inl refl
lineage_or_self (older k m e) = inr (or_self_trans (lineage_or_self k) (direct m))

pub lineage_sequence : {a h : History} → Lineage a h → sequence_of (block_of a) ≤ sequence_of (block_of h)
lineage_sequence (here {h = h}) = le_refl (sequence_of (block_of h))
lineage_sequence (older {a = a} {c = c} {h = h} k m e) =
    let low : sequence_of (block_of a) ≤ sequence_of (block_of c) = lineage_sequence k in
    let next : sequence_of (block_of c) + 1 ≡ sequence_of (block_of h) = parent_sequence (block_of h) (block_of c) e in
    omega arith

-- ---- the blocks directly referred to

module _ (s : Setup) (slot : ℕ) where
  unfoldable pub direct_of : History → Direct
  direct_of h = record { site = site_of (block_of h); sequence = sequence_of (block_of h); state = slot_record s slot h }

  pub directs_from : (hs : Histories) (d : Direct) → Memᴰ d (directs s slot hs) → (c : History) × Memᴰ c (list_of hs) × (d ≡ direct_of c)
  unfolding directs direct_of
  directs_from end d m = absurd (Memᴰ.not-nil m)
  directs_from (h and hs) d m = go (Memᴰ.cases_cons m) (λ j. directs_from hs d j)
    where
      go : (d ≡ direct_of h) ⊎ Memᴰ d (directs s slot hs)
          → (Memᴰ d (directs s slot hs) → (c : History) × Memᴰ c (list_of hs) × (d ≡ direct_of c))
          → (c : History) × Memᴰ c (list_of (h and hs)) × (d ≡ direct_of c)
      go (inl e) ih = (h, Memᴰ.head refl, e)
      go (inr j) ih = let w = ih j in (w.0, Memᴰ.tail w.1, w.2)

  pub directs_has : (hs : Histories) (c : History) → Memᴰ c (list_of hs) → Memᴰ (direct_of c) (directs s slot hs)
  unfolding directs direct_of
  directs_has end c m = absurd (Memᴰ.not-nil m)
  directs_has (h and hs) c m = elim (Memᴰ.cases_cons m) [ inl e ↦ Memᴰ.head (ap direct_of e) | inr k ↦ Memᴰ.tail (directs_has hs c k) ]

  -- what a message has behind it: a block directly referred to made it
  pub record From (hs : Histories) (k : Kind) (p v : ℕ) : Type 0 where
    pub child : History
    pub among : Memᴰ child (list_of hs)
    pub by_site : site_of (block_of child) ≡ p
    pub makes : made_of k (slot_record s slot child) ≡ v

  pub message_from : (hs : Histories) (m : Message) → Memᴰ m (messages s.sites (directs s slot hs)) → From hs m.kind m.sender m.number
  unfolding direct_of
  message_from hs m j =
      let w = messages_from s.sites (directs s slot hs) m j in
      let c = directs_from hs w.who w.among in
      record {
        child = c.0;
        among = c.1;
        by_site = sym (ap (λ (d : Direct). d.site) c.2) ∙ w.by_site;
        makes = sym (ap (λ (d : Direct). made_of m.kind d.state) c.2) ∙ w.makes;
      }

  pub record ParentIs (b : Bytes) (hs : Histories) : Type 0 where
    pub parent : History
    pub among : Memᴰ parent (list_of hs)
    pub is_parent : is_parent_of b (block_of parent) ≡ true
    pub its : parent_state (site_of b) (sequence_of b) (directs s slot hs) ≡ slot_record s slot parent

  pub record NoneIs (b : Bytes) (hs : Histories) : Type 0 where
    pub none_is : (c : History) → Memᴰ c (list_of hs) → is_parent_of b (block_of c) ≡ false
    pub blank_is : parent_state (site_of b) (sequence_of b) (directs s slot hs) ≡ blank

  -- the parent's record is that of a block referred to that is the parent, unless none is
  pub parent_cases : (b : Bytes) (hs : Histories) → ParentIs b hs ⊎ NoneIs b hs
  unfolding direct_of
  parent_cases b hs = elim (parent_state_cases (site_of b) (sequence_of b) (directs s slot hs)) [
    | inl w ↦ let c = directs_from hs w.parent w.among in inl (record {
      parent = c.0;
      among = c.1;
      is_parent = sym (ap (λ (d : Direct). is_parent (site_of b) (sequence_of b) d.site d.sequence) c.2) ∙ w.is_parent;
      its = w.its ∙ ap (λ (d : Direct). d.state) c.2;
    })
    | inr w ↦ inr (record { none_is = λ c m. w.none_is (direct_of c) (directs_has hs c m); blank_is = w.blank_is })
  ]
