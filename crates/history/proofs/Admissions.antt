-- Histories of blocks that were admitted in turn: the histories directly below a block are among those before it, have the digests that the block
-- refers to, and one of them at most is its parent's. No block is looked up by its digest here, so nothing is asked of digests: a block may come
-- twice, and two blocks may share a digest. Where no two different blocks share a digest, each block has one history, which is the one that is found
-- by digest. Assumes nothing.
use mathlib.Core.Path.{◌≡◌, refl, sym, ap, ap₂, ◌∙◌, subst}
use mathlib.Core.Logic.{◌⊎◌, inl, inr}
use mathlib.Core.Bool.{true, false}
use mathlib.Core.List.Memᴰ
use mathlib.Core.List.{List, [], ◌∷◌, map, Memᴰ}
use mathlib.Core.Option.{Option, some}
use native.Mathlib.Omega.{arith}
use lib.ListN.{length, get_or, drop}
use Rattle.base.specs.Bytes.{Bytes, same_bytes}
use Rattle.base.proofs.Tests.{by_test}
use Rattle.base.proofs.Bytes.{same_equal, same_other}
use Rattle.block.specs.Layout.{sequence_of, references_of}
use Rattle.block.specs.Promises.{Shaped}
use Rattle.history.specs.History.{History, Histories, node, end, ◌and◌, block_of, list_of, children, is_parent_of, Ancestor, direct, further}
use Rattle.history.specs.Ancestry.{found, gather, find, history_of, AncestorIn, refers, through}
use Rattle.history.proofs.Histories.{child_ind}

-- a parent among the blocks directly referred to, unless the block is the first of its site
abbrev pub Parented : History → Type 0
Parented h = (sequence_of (block_of h) ≡ 0) ⊎ ((c : History) × Memᴰ c (children h) × (is_parent_of (block_of h) (block_of c) ≡ true))

module _ (digest : Bytes → Bytes) where
  abbrev pub digest_of : History → Bytes
  digest_of h = digest (block_of h)

  -- "by digest": what stands directly below has, in order and none missing, the digests that the block lists
  abbrev pub Listed : History → Type 0
  Listed h = map digest_of (children h) ≡ references_of (block_of h)

  -- what admission checks of a block, told of its history and the histories before it
  pub record Admitted (older : List History) (h : History) : Type 0 where
    pub shape : Shaped (block_of h)
    pub among : (c : History) → Memᴰ c (children h) → Memᴰ c older
    pub listed : Listed h
    pub parented : Parented h
    pub single : (c e : History) → Memᴰ c (children h) → Memᴰ e (children h) → is_parent_of (block_of h) (block_of c) ≡ true
        → is_parent_of (block_of h) (block_of e) ≡ true → c ≡ e

  -- each was admitted to those before it, the newest first
  abbrev pub InTurn : List History → Type 0
  InTurn [] = Unit {0}
  InTurn (h ∷ older) = Admitted older h × InTurn older

  wider : (t : History) (older : List History) (h : History) → Admitted older h → Admitted (t ∷ older) h
  wider t older h a = record { shape = a.shape; among = λ c k. Memᴰ.tail (a.among c k); listed = a.listed; parented = a.parented; single = a.single }

  -- what was checked of one of them, among all
  pub admitted_in : (hs : List History) → InTurn hs → (h : History) → Memᴰ h hs → Admitted hs h
  admitted_in [] g h m = absurd (Memᴰ.not-nil m)
  admitted_in (t ∷ older) g h m = elim (Memᴰ.cases_cons m) [
    | inl e ↦ wider t older h (subst (Admitted older) (sym e) g.0)
    | inr k ↦ wider t older h (admitted_in older g.1 h k)
  ]

  pub child_in : (hs : List History) → InTurn hs → (h c : History) → Memᴰ h hs → Memᴰ c (children h) → Memᴰ c hs
  child_in hs g h c m k = (admitted_in hs g h m).among c k

  pub above_in : (hs : List History) → InTurn hs → {a h : History} → Ancestor a h → Memᴰ h hs → Memᴰ a hs
  above_in hs g {h = h} (direct {a} k) m = child_in hs g h a m k
  above_in hs g {h = h} (further {c = c} j k) m = above_in hs g j (child_in hs g h c m k)

  -- a digest directly below is one that the block lists
  pub child_listed : (h c : History) → Listed h → Memᴰ c (children h) → Memᴰ (digest_of c) (references_of (block_of h))
  child_listed h c e k = subst (Memᴰ (digest_of c)) e (Memᴰ.map digest_of k)

  -- the blocks above a history's block are its ancestors by digest
  pub ancestor_in : (hs : List History) → InTurn hs → {a h : History} → Ancestor a h → Memᴰ h hs → AncestorIn digest (map block_of hs) (block_of a) (block_of h)
  ancestor_in hs g {h = h} (direct {a} k) m = refers (Memᴰ.map block_of (child_in hs g h a m k)) (child_listed h a (admitted_in hs g h m).listed k)
  ancestor_in hs g {h = h} (further {c = c} j k) m =
      let mc = child_in hs g h c m k in
      through (ancestor_in hs g j mc) (Memᴰ.map block_of mc) (child_listed h c (admitted_in hs g h m).listed k)

  -- ---- one block, one history

  -- in a collection of histories with all that they refer to, where no two different blocks share a digest
  module _ (W : History → Type 0) (closed : (h c : History) → W h → Memᴰ c (children h) → W c) (listed : (h : History) → W h → Listed h)
      (safe : (h k : History) → W h → W k → digest_of h ≡ digest_of k → block_of h ≡ block_of k) where
    same_children : (hs ks : Histories) → ((c : History) → Memᴰ c (list_of hs) → (k : History) → W k → block_of c ≡ block_of k → c ≡ k)
        → ((c : History) → Memᴰ c (list_of hs) → W c) → ((k : History) → Memᴰ k (list_of ks) → W k)
        → map digest_of (list_of hs) ≡ map digest_of (list_of ks) → hs ≡ ks
    same_children end end ih wh wk e = refl
    same_children end (k and ks) ih wh wk e = let n : 0 ≡ length (map digest_of (list_of (k and ks))) = ap length e in absurd (omega arith)
    same_children (h and hs) end ih wh wk e = let n : length (map digest_of (list_of (h and hs))) ≡ 0 = ap length e in absurd (omega arith)
    same_children (h and hs) (k and ks) ih wh wk e =
        let mh : W h = wh h (Memᴰ.head refl) in
        let mk : W k = wk k (Memᴰ.head refl) in
        let d : digest_of h ≡ digest_of k = ap (λ (l : List Bytes). get_or l 0 []) e in
        let r : map digest_of (list_of hs) ≡ map digest_of (list_of ks) = ap (λ (l : List Bytes). drop 1 l) e in
        ap₂ ◌and◌ (ih h (Memᴰ.head refl) k mk (safe h k mh mk d))
        (same_children hs ks (λ c m. ih c (Memᴰ.tail m)) (λ c m. wh c (Memᴰ.tail m)) (λ c m. wk c (Memᴰ.tail m)) r)

    pub one_history : (h k : History) → W h → W k → block_of h ≡ block_of k → h ≡ k
    one_history h k wh wk e = child_ind (λ x. W x → (y : History) → W y → block_of x ≡ block_of y → x ≡ y) step h wh k wk e
      where
        step : (x : History) → ((c : History) → Memᴰ c (children x) → W c → (y : History) → W y → block_of c ≡ block_of y → c ≡ y)
            → W x → (y : History) → W y → block_of x ≡ block_of y → x ≡ y
        step (node b hs) ih wx (node c ks) wy q =
            ap₂ node q (same_children hs ks (λ a m z wz. ih a m (closed (node b hs) a wx m) z wz) (λ a m. closed (node b hs) a wx m) (λ a m. closed (node c ks) a wy m)
            (listed (node b hs) wx ∙ ap references_of q ∙ sym (listed (node c ks) wy)))

  -- ---- by digest

  -- no two different blocks of these histories share a digest
  abbrev pub Safe : List History → Type 0
  Safe hs = (h k : History) → Memᴰ h hs → Memᴰ k hs → digest_of h ≡ digest_of k → block_of h ≡ block_of k

  pub same_history : (hs : List History) → InTurn hs → Safe hs → (h k : History) → Memᴰ h hs → Memᴰ k hs → block_of h ≡ block_of k → h ≡ k
  same_history hs g safe = one_history (λ h. Memᴰ h hs) (child_in hs g) (λ h m. (admitted_in hs g h m).listed) safe

  find_here : (b : Bytes) (older : List Bytes) (d : Bytes) → same_bytes (digest b) d ≡ true → find digest (b ∷ older) d ≡ some (history_of digest older b)
  unfolding find history_of
  find_here b older d e = rw (e, find)

  find_older : (b : Bytes) (older : List Bytes) (d : Bytes) → same_bytes (digest b) d ≡ false → find digest (b ∷ older) d ≡ find digest older d
  unfolding find
  find_older b older d e = rw (e, find)

  -- a look-up that finds what stands directly below gathers it
  gather_is : (look : Bytes → Option History) (hs : Histories) → ((c : History) → Memᴰ c (list_of hs) → look (digest_of c) ≡ some c)
      → gather look (map digest_of (list_of hs)) ≡ hs
  unfolding gather found
  gather_is look end f = refl
  gather_is look (h and hs) f = ap₂ found (f h (Memᴰ.head refl)) (gather_is look hs (λ c m. f c (Memᴰ.tail m)))

  history_is : (bs : List Bytes) (h : History) → Listed h → ((c : History) → Memᴰ c (children h) → find digest bs (digest_of c) ≡ some c)
      → history_of digest bs (block_of h) ≡ h
  unfolding history_of
  history_is bs (node b hs) e f = ap (node b) (ap (gather (find digest bs)) (sym e) ∙ gather_is (find digest bs) hs f)

  find_history : (hs : List History) → InTurn hs → Safe hs → (k : History) → Memᴰ k hs → find digest (map block_of hs) (digest_of k) ≡ some k
  find_history [] g safe k m = absurd (Memᴰ.not-nil m)
  find_history (t ∷ older) g safe k m =
      go (λ x j. find_history older g.1 (λ a b u w. safe a b (Memᴰ.tail u) (Memᴰ.tail w)) x j)
    where
      go : ((x : History) → Memᴰ x older → find digest (map block_of older) (digest_of x) ≡ some x) → find digest (map block_of (t ∷ older)) (digest_of k) ≡ some k
      go ih = by_test (same_bytes (digest_of t) (digest_of k))
          (λ y. let d : digest_of t ≡ digest_of k = same_equal (digest_of t) (digest_of k) y in
          let q : t ≡ k = same_history (t ∷ older) g safe t k (Memᴰ.head refl) m (safe t k (Memᴰ.head refl) m d) in
          find_here (block_of t) (map block_of older) (digest_of k) y
          ∙ ap {B = Option History} some (history_is (map block_of older) t g.0.listed (λ c j. ih c (g.0.among c j)) ∙ q))
          (λ n. elim (Memᴰ.cases_cons m) [
            | inl e ↦ absurd (same_other (digest_of t) (digest_of k) n (ap digest_of (sym e)))
            | inr j ↦ find_older (block_of t) (map block_of older) (digest_of k) n ∙ ih k j
          ])

  -- each is the history of its block
  pub is_history : (hs : List History) → InTurn hs → Safe hs → (h : History) → Memᴰ h hs → history_of digest (map block_of hs) (block_of h) ≡ h
  is_history hs g safe h m = history_is (map block_of hs) h (admitted_in hs g h m).listed (λ c k. find_history hs g safe c (child_in hs g h c m k))
