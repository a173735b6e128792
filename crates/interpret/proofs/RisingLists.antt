-- Rising lists of numbers without repeats: what an insertion has in it, and that two of the same numbers are equal. Assumes nothing.
use mathlib.Core.Path.{◌≡◌, refl, sym, ap₂}
use mathlib.Core.Logic.{◌⊎◌, inl, inr}
use mathlib.Core.Bool.{Bool, true, false, cond}
use mathlib.Core.List.Memᴰ
use mathlib.Core.List.{List, [], ◌∷◌, Memᴰ}
use Prim.Native.Nat.{ℕ, ◌<◌}
use native.Mathlib.Omega.{arith}
use lib.Dec.{eqb, ltb}
use borrow.Author.Tests.{eqb-true, eqb-false, ltb-true, ltb-false}
use Rattle.interpret.specs.Slot.{insert}

pub insert_from : (v : ℕ) (l : List ℕ) (x : ℕ) → Memᴰ x (insert v l) → (x ≡ v) ⊎ Memᴰ x l
unfolding insert
insert_from v [] x m = Memᴰ.cases_cons m
insert_from v (y ∷ l) x m = go (ltb v y) (eqb v y) m (λ k. insert_from v l x k)
  where
    go : (s t : Bool) → Memᴰ x (cond s (v ∷ y ∷ l) (cond t (y ∷ l) (y ∷ insert v l))) → (Memᴰ x (insert v l) → (x ≡ v) ⊎ Memᴰ x l)
        → (x ≡ v) ⊎ Memᴰ x (y ∷ l)
    go true t k ih = Memᴰ.cases_cons k
    go false true k ih = inr k
    go false false k ih = elim (Memᴰ.cases_cons k) [
      | inl e ↦ inr (Memᴰ.head e)
      | inr j ↦ elim (ih j) [ inl e ↦ inl e | inr i ↦ inr (Memᴰ.tail i) ]
    ]

pub insert_new : (v : ℕ) (l : List ℕ) → Memᴰ v (insert v l)
unfolding insert
insert_new v [] = Memᴰ.head refl
insert_new v (y ∷ l) = go (ltb v y) (eqb v y) refl (insert_new v l)
  where
    go : (s t : Bool) → eqb v y ≡ t → Memᴰ v (insert v l) → Memᴰ v (cond s (v ∷ y ∷ l) (cond t (y ∷ l) (y ∷ insert v l)))
    go true t e ih = Memᴰ.head refl
    go false true e ih = Memᴰ.head (eqb-true v y e)
    go false false e ih = Memᴰ.tail ih

pub insert_old : (v : ℕ) (l : List ℕ) (x : ℕ) → Memᴰ x l → Memᴰ x (insert v l)
unfolding insert
insert_old v [] x m = absurd (Memᴰ.not-nil m)
insert_old v (y ∷ l) x m = go (ltb v y) (eqb v y) (Memᴰ.cases_cons m) (λ k. insert_old v l x k)
  where
    go : (s t : Bool) → (x ≡ y) ⊎ Memᴰ x l → (Memᴰ x l → Memᴰ x (insert v l))
        → Memᴰ x (cond s (v ∷ y ∷ l) (cond t (y ∷ l) (y ∷ insert v l)))
    go true t k ih = Memᴰ.tail m
    go false true k ih = m
    go false false (inl e) ih = Memᴰ.head e
    go false false (inr j) ih = Memᴰ.tail (ih j)

-- each element is below all that follow
abbrev pub Rising : List ℕ → Type 0
Rising [] = Unit {0}
Rising (x ∷ l) = ((y : ℕ) → Memᴰ y l → x < y) × Rising l

pub insert_rising : (v : ℕ) (l : List ℕ) → Rising l → Rising (insert v l)
unfolding insert
insert_rising v [] a = (λ y m. absurd (Memᴰ.not-nil m), tt)
insert_rising v (x ∷ l) a = go (ltb v x) (eqb v x) refl refl (insert_rising v l a.1)
  where
    go : (s t : Bool) → ltb v x ≡ s → eqb v x ≡ t → Rising (insert v l) → Rising (cond s (v ∷ x ∷ l) (cond t (x ∷ l) (x ∷ insert v l)))
    go true t e f ih = (λ y m. elim (Memᴰ.cases_cons m) [ inl q ↦ rw q (ltb-true v x e) | inr k ↦ omega (arith, ltb-true v x e, a.0 y k) ], a)
    go false true e f ih = a
    go false false e f ih =
        (λ y m. elim (insert_from v l y m) [ inl q ↦ rw q (omega (arith, ltb-false v x e, eqb-false v x f)) | inr k ↦ a.0 y k ], ih)

-- an element behind the head of one is behind the head of the other
behind : (x y : ℕ) (l m : List ℕ) → x ≡ y → Rising (x ∷ l) → ((z : ℕ) → Memᴰ z (x ∷ l) → Memᴰ z (y ∷ m))
    → (z : ℕ) → Memᴰ z l → Memᴰ z m
behind x y l m e a f z k = elim (Memᴰ.cases_cons (f z (Memᴰ.tail k))) [ inl q ↦ absurd (omega (arith, a.0 z k)) | inr j ↦ j ]

pub same_rising : (l m : List ℕ) → Rising l → Rising m → ((x : ℕ) → Memᴰ x l → Memᴰ x m) → ((x : ℕ) → Memᴰ x m → Memᴰ x l) → l ≡ m
same_rising [] [] a b f g = refl
same_rising [] (y ∷ m) a b f g = absurd (Memᴰ.not-nil (g y (Memᴰ.head refl)))
same_rising (x ∷ l) [] a b f g = absurd (Memᴰ.not-nil (f x (Memᴰ.head refl)))
same_rising (x ∷ l) (y ∷ m) a b f g =
    ap₂ ◌∷◌ heads (same_rising l m a.1 b.1 (behind x y l m heads a f) (behind y x m l (sym heads) b g))
  where
    heads : x ≡ y
    heads = elim (Memᴰ.cases_cons (f x (Memᴰ.head refl))) [
      | inl e ↦ e
      | inr j ↦ elim (Memᴰ.cases_cons (g y (Memᴰ.head refl))) [ inl e ↦ sym e | inr i ↦ absurd (omega (arith, b.0 x j, a.0 y i)) ]
    ]
