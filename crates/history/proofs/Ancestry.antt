-- Blocks that were admitted in turn and of which no two different ones share a digest: each has one history, the one that is found by digest, and
-- what that history shows is told of the blocks themselves. Assumes nothing.
use mathlib.Core.Path.{◌≡◌, refl, sym, ap, ◌∙◌, subst}
use mathlib.Core.Logic.{◌⊎◌, inl, inr}
use mathlib.Core.Bool.{true}
use mathlib.Core.List.{List, [], ◌∷◌, map, Memᴰ}
use Rattle.base.specs.Bytes.{Bytes}
use Rattle.block.specs.Layout.{sequence_of, references_of}
use Rattle.history.specs.History.{History, block_of, children, is_parent_of, Ancestor}
use Rattle.history.specs.Ancestry.{history_of, AncestorIn}
use Rattle.history.specs.Forks.{NoCollision}
use Rattle.history.proofs.Admissions.{digest_of, Listed, Admitted, InTurn, Safe, admitted_in, child_in, child_listed, ancestor_in, one_history, is_history}

module _ (digest : Bytes → Bytes) where
  -- ---- one history for each block

  pub record OneHistory (bs : List Bytes) : Type 0 where
    pub histories : List History
    pub are : map block_of histories ≡ bs
    pub in_turn : InTurn digest histories
    pub safe : NoCollision digest bs

  module _ (bs : List Bytes) (o : OneHistory bs) where
    abbrev hs : List History
    hs = o.histories

    pub block_among : (h : History) → Memᴰ h hs → Memᴰ (block_of h) bs
    block_among h m = subst (Memᴰ (block_of h)) o.are (mathlib.Core.List.Memᴰ.map block_of m)

    safe_histories : Safe digest hs
    safe_histories h k m n = o.safe (block_of h) (block_of k) (block_among h m) (block_among k n)

    pub history_is : (h : History) → Memᴰ h hs → history_of digest bs (block_of h) ≡ h
    history_is h m = ap (λ (l : List Bytes). history_of digest l (block_of h)) (sym o.are) ∙ is_history digest hs o.in_turn safe_histories h m

    -- that of a block is one of them
    pub history_among : (b : Bytes) → Memᴰ b bs → Memᴰ (history_of digest bs b) hs
    history_among b m =
        let w = mathlib.Core.List.Memᴰ.of_map block_of hs (subst (Memᴰ b) (sym o.are) m) in
        mathlib.Core.List.Memᴰ.cast (ap (history_of digest bs) (sym w.2) ∙ history_is w.0 w.1) w.1

    -- what was checked when the block was admitted
    admitted_history : (b : Bytes) → Memᴰ b bs → Admitted digest hs (history_of digest bs b)
    admitted_history b m = admitted_in digest hs o.in_turn (history_of digest bs b) (history_among b m)

    -- ---- the blocks directly referred to

    module _ (b : Bytes) (m : Memᴰ b bs) where
      -- each is the history of a block that b refers to
      pub record Child (c : History) : Type 0 where
        pub among : Memᴰ (block_of c) bs
        pub by_digest : Memᴰ (digest (block_of c)) (references_of b)
        pub is_history : c ≡ history_of digest bs (block_of c)

      pub child_of : (c : History) → Memᴰ c (children (history_of digest bs b)) → Child c
      unfolding history_of
      child_of c k =
          let n : Memᴰ c hs = child_in digest hs o.in_turn (history_of digest bs b) c (history_among b m) k in
          record {
            among = block_among c n;
            by_digest = child_listed digest (history_of digest bs b) c (admitted_history b m).listed k;
            is_history = sym (history_is c n);
          }

      -- their digests are the references, in order and none missing
      pub children_listed : map (digest_of digest) (children (history_of digest bs b)) ≡ references_of b
      unfolding history_of
      children_listed = (admitted_history b m).listed

      -- and each block that b refers to is there
      pub child_has : (c : Bytes) → Memᴰ c bs → Memᴰ (digest c) (references_of b) → Memᴰ (history_of digest bs c) (children (history_of digest bs b))
      child_has c k r =
          let w = mathlib.Core.List.Memᴰ.of_map (digest_of digest) (children (history_of digest bs b)) (subst (Memᴰ (digest c)) (sym children_listed) r) in
          let x = child_of w.0 w.1 in
          mathlib.Core.List.Memᴰ.cast (ap (history_of digest bs) (o.safe c (block_of w.0) k x.among (sym w.2)) ∙ sym x.is_history) w.1

      -- a parent among them, unless it is the first of its site
      pub child_parent : (sequence_of b ≡ 0) ⊎ ((c : History) × Memᴰ c (children (history_of digest bs b)) × (is_parent_of b (block_of c) ≡ true))
      unfolding history_of
      child_parent = (admitted_history b m).parented

    -- the blocks above a block's history are its ancestors by digest
    pub above_ancestor : (b : Bytes) → Memᴰ b bs → {a : History} → Ancestor a (history_of digest bs b) → AncestorIn digest bs (block_of a) b
    unfolding history_of
    above_ancestor b m {a} k =
        subst (λ (l : List Bytes). AncestorIn digest l (block_of a) b) o.are (ancestor_in digest hs o.in_turn k (history_among b m))

  -- ---- among two lists of such blocks, where blocks of one digest are the same, a block has one history

  pub history_agree : (bs cs : List Bytes) → OneHistory bs → OneHistory cs → ((a b : Bytes) → Memᴰ a bs → Memᴰ b cs → digest a ≡ digest b → a ≡ b)
      → (b : Bytes) → Memᴰ b bs → Memᴰ b cs → history_of digest bs b ≡ history_of digest cs b
  unfolding history_of
  history_agree bs cs o p across b m k =
      one_history digest Either closed listed safe (history_of digest bs b) (history_of digest cs b) (inl (history_among bs o b m)) (inr (history_among cs p b k)) refl
    where
      Either : History → Type 0
      Either h = Memᴰ h o.histories ⊎ Memᴰ h p.histories

      closed : (h c : History) → Either h → Memᴰ c (children h) → Either c
      closed h c (inl n) j = inl (child_in digest o.histories o.in_turn h c n j)
      closed h c (inr n) j = inr (child_in digest p.histories p.in_turn h c n j)

      listed : (h : History) → Either h → Listed digest h
      listed h (inl n) = (admitted_in digest o.histories o.in_turn h n).listed
      listed h (inr n) = (admitted_in digest p.histories p.in_turn h n).listed

      safe : (h g : History) → Either h → Either g → digest_of digest h ≡ digest_of digest g → block_of h ≡ block_of g
      safe h g (inl i) (inl j) e = o.safe (block_of h) (block_of g) (block_among bs o h i) (block_among bs o g j) e
      safe h g (inl i) (inr j) e = across (block_of h) (block_of g) (block_among bs o h i) (block_among cs p g j) e
      safe h g (inr i) (inl j) e = sym (across (block_of g) (block_of h) (block_among bs o g j) (block_among cs p h i) (sym e))
      safe h g (inr i) (inr j) e = p.safe (block_of h) (block_of g) (block_among cs p h i) (block_among cs p g j) e

  -- ---- the order of the blocks

  -- one of the blocks has the digest
  abbrev pub Holds : List Bytes → Bytes → Type 0
  Holds bs d = (c : Bytes) × Memᴰ c bs × (digest c ≡ d)

  -- each refers to blocks before it only
  abbrev pub RefersBack : List Bytes → Type 0
  RefersBack [] = Unit {0}
  RefersBack (b ∷ older) = ((r : Bytes) → Memᴰ r (references_of b) → Holds older r) × RefersBack older

  turn_back : (hs : List History) → InTurn digest hs → RefersBack (map block_of hs)
  turn_back [] g = tt
  turn_back (h ∷ older) g = (held, turn_back older g.1)
    where
      held : (r : Bytes) → Memᴰ r (references_of (block_of h)) → Holds (map block_of older) r
      held r m =
          let w = mathlib.Core.List.Memᴰ.of_map (digest_of digest) (children h) (subst (Memᴰ r) (sym g.0.listed) m) in
          (block_of w.0, mathlib.Core.List.Memᴰ.map block_of (g.0.among w.0 w.1), w.2)

  pub refers_back : (bs : List Bytes) → OneHistory bs → RefersBack bs
  refers_back bs o = subst RefersBack o.are (turn_back o.histories o.in_turn)

  -- what one of them refers to is held
  pub referred_held : (bs : List Bytes) → RefersBack bs → (b : Bytes) → Memᴰ b bs → (r : Bytes) → Memᴰ r (references_of b) → Holds bs r
  referred_held [] g b m r k = absurd (mathlib.Core.List.Memᴰ.not-nil m)
  referred_held (x ∷ older) g b m r k = elim (mathlib.Core.List.Memᴰ.cases_cons m) [
    | inl q ↦ let w = g.0 r (rw q at k) in (w.0, mathlib.Core.List.Memᴰ.tail w.1, w.2)
    | inr j ↦ let w = referred_held older g.1 b j r k in (w.0, mathlib.Core.List.Memᴰ.tail w.1, w.2)
  ]
