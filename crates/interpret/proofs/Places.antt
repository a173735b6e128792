-- The list of the places that a place refers to: the turns of the loop that makes it, that it has room, and that its blocks are those referred
-- to. Assumes nothing.
use mathlib.Core.Path.{◌≡◌, refl, sym, ap, ap₂, ◌∙◌}
use mathlib.Core.Bool.{Bool, true, false, cond}
use mathlib.Core.List.{List, [], ◌∷◌, ◌++◌, append-nil}
use Prim.Native.Nat.{ℕ, zero, suc, ◌+◌, ◌≤◌, ◌<◌}
use native.Mathlib.Numerals.{add-one}
use native.Mathlib.Omega.{arith}
use lib.ListN.{length, get_or, set, take, length-append, length-set, get_or-append}
use lib.Seq.{take-suc-set, get_or-append-add}
use Rattle.base.specs.Count.{count_below}
use Rattle.base.specs.List.{passing_below}
use Rattle.base.specs.Bytes.{Bytes}
use Rattle.base.proofs.Count.{count_here, count_grows}
use Rattle.base.proofs.Members.{at_member}
use Rattle.base.proofs.PassingBelow.{passing_here, passing_past, passing_from, passing_length}
use Rattle.block.specs.Limits.{max_references}
use Rattle.table.specs.View.{Row, View}
use Rattle.table.specs.Layout.{row_at}
use Rattle.interpret.specs.Interpretation.{direct_at, join_if, directs_below}
use Rattle.interpret.specs.Steps.{referred_by, InterpretableSlot, PlaceList, directs_first}

-- ---- how many they are

module _ (f : ℕ → Bool) where
  -- there is room for one more
  pub room : (j k most : ℕ) → j < k → f j ≡ true → count_below f k ≤ most → length (passing_below f j) < most
  room j k most h y l = omega (arith, passing_length f j, count_here f j y, count_grows f (j + 1) k (omega arith))

-- ---- the turns of the loop

module _ (f : ℕ → Bool) where
  -- the list and how many are listed, after the places below j
  pub record ListedBelow (j : ℕ) (list : List ℕ) (count : ℕ) : Type 0 where
    pub size : length list ≡ max_references
    pub counted : count ≡ length (passing_below f j)
    pub listed : take count list ≡ passing_below f j

  pub put_start : (list : List ℕ) → length list ≡ max_references → ListedBelow 0 list 0
  unfolding passing_below
  put_start list n = record { size = n; counted = refl; listed = refl }

  pub put_here : (j : ℕ) (list : List ℕ) (count : ℕ) → f j ≡ true → count < max_references → ListedBelow j list count → ListedBelow (j + 1) (set list count j) (count + 1)
  put_here j list count y h p = record {
    size = length-set list count j ∙ p.size;
    counted = ap (λ (n : ℕ). n + 1) p.counted ∙ sym (length-append (passing_below f j) (j ∷ [])) ∙ ap length (sym (passing_here f j y));
    listed = rw (add-one count, take-suc-set list count j (omega (arith, p.size)), p.listed) (sym (passing_here f j y));
  }

  pub put_past : (j : ℕ) (list : List ℕ) (count : ℕ) → f j ≡ false → ListedBelow j list count → ListedBelow (j + 1) list count
  put_past j list count n p = record {
    size = p.size;
    counted = p.counted ∙ ap length (sym (passing_past f j n));
    listed = p.listed ∙ sym (passing_past f j n);
  }

-- ---- the places of the list

pub place_listed : (t : Bytes) (i : ℕ) (places : List ℕ) → places ≡ referred_by t i → (k : ℕ) → k < length places
    → (get_or places k 0 < i) × ((row_at t i).refers_to (get_or places k 0) ≡ true)
place_listed t i places e k h = passing_from (row_at t i).refers_to i _ (rw (← e) (at_member places k 0 h))

pub listed : (t : Bytes) (i : ℕ) (places : List ℕ) (slot : ℕ) → InterpretableSlot t i places slot → PlaceList t places slot
listed t i places slot r =
    record {
      few = r.ready.few;
      below = r.below;
      held = λ k h. omega (arith, (place_listed t i places r.listed k h).0, r.ready.place);
      sites = λ k h. r.ready.sites _ (place_listed t i places r.listed k h).0;
    }

-- ---- their blocks

module _ (v : View) (b : List ℕ) (slot : ℕ) where
  first_front : (xs ys : List ℕ) (k : ℕ) → k ≤ length xs → directs_first v b slot (xs ++ ys) k ≡ directs_first v b slot xs k
  unfolding directs_first
  first_front xs ys zero h = refl
  first_front xs ys (suc k) h = ap₂ ◌∷◌ (ap (direct_at v b slot) (get_or-append xs ys 0 k h)) (first_front xs ys k (omega arith))

  -- those of the places that a row refers to
  pub directs_listed : (r : Row) (k : ℕ) → directs_first v b slot (passing_below r.refers_to k) (length (passing_below r.refers_to k)) ≡ directs_below v b slot r k
  unfolding directs_first directs_below join_if passing_below
  directs_listed r zero = refl
  directs_listed r (suc k) = go (r.refers_to k) (directs_listed r k)
    where
      go : (t : Bool) → directs_first v b slot (passing_below r.refers_to k) (length (passing_below r.refers_to k)) ≡ directs_below v b slot r k
          → directs_first v b slot (passing_below r.refers_to k ++ cond t (k ∷ []) []) (length (passing_below r.refers_to k ++ cond t (k ∷ []) []))
          ≡ join_if t (direct_at v b slot k) (directs_below v b slot r k)
      go true ih =
          let n : length (passing_below r.refers_to k ++ (k ∷ [])) ≡ suc (length (passing_below r.refers_to k)) = omega (arith, length-append (passing_below r.refers_to k) (k ∷ [])) in
          let z : length (passing_below r.refers_to k) ≡ length (passing_below r.refers_to k) + 0 = omega arith in
          let last : get_or (passing_below r.refers_to k ++ (k ∷ [])) (length (passing_below r.refers_to k)) 0 ≡ k =
          ap (λ (m : ℕ). get_or (passing_below r.refers_to k ++ (k ∷ [])) m 0) z ∙ get_or-append-add (passing_below r.refers_to k) (k ∷ []) 0 0 in
          rw n (ap₂ ◌∷◌ (ap (direct_at v b slot) last) (first_front (passing_below r.refers_to k) (k ∷ []) (length (passing_below r.refers_to k)) (omega arith) ∙ ih))
      go false ih = rw (append-nil (passing_below r.refers_to k)) ih
