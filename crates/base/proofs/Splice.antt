-- Laws of `splice`, a part written over bytes: what stands up to the end of the part, the length, each element and each part afterwards, two parts
-- written one behind the other, one over the other, and apart from each other. Assumes nothing.
use mathlib.Core.Path.{◌≡◌, refl, sym, ap, ap₂, ◌∙◌}
use mathlib.Core.List.{List, [], ◌++◌, append_assoc}
use Prim.Native.Nat.{ℕ, ◌+◌, ◌-◌, ◌≤◌, ◌<◌}
use native.Mathlib.Nat.{add_assoc, add-zero}
use native.Mathlib.Omega.{arith}
use lib.ListN.{length, get_or, take, drop, length-append, length-drop, take-append-drop, get_or-append}
use lib.Seq.{take_at, drop_at, drop-drop, get_or-take, get_or-drop, get_or-append-add, length-take-le, take-append-le, drop-append-le, drop-append-add, take-take}
use Rattle.base.specs.Bytes.{Bytes, splice}
use Rattle.base.proofs.Parts.{part_of_front}

-- what is left of the whole where a part of it, from `at` on and as long as `part`, is made `part`
pub splice_of_part : {A : Type 0} (b part ys : List A) (at : ℕ) → ys ≡ part → take at b ++ (ys ++ drop (at + length part - at) (drop at b)) ≡ splice b at part
unfolding splice
splice_of_part b part ys at e = let k : at + length part - at ≡ length part = omega arith in rw (e, k, drop-drop (length part) at b)

-- nothing put
pub splice_nothing : (b : Bytes) (at : ℕ) → splice b at [] ≡ b
unfolding splice
splice_nothing b at = ap (λ (n : ℕ). take at b ++ drop n b) (add-zero at) ∙ take-append-drop at b

module _ (b : Bytes) (at : ℕ) (part : Bytes) (within : at ≤ length b) where
  abbrev front : Bytes
  front = take at b ++ part

  before : length (take at b) ≡ at
  before = length-take-le at b within

  front_length : length front ≡ at + length part
  front_length = length-append (take at b) part ∙ ap (λ (n : ℕ). n + length part) before

  grouped : splice b at part ≡ front ++ drop (at + length part) b
  unfolding splice
  grouped = sym (append_assoc (take at b) part (drop (at + length part) b))

  pub take_splice : take (at + length part) (splice b at part) ≡ take at b ++ part
  take_splice = ap (take (at + length part)) grouped ∙ take_at front (drop (at + length part) b) (at + length part) front_length

  pub drop_splice : (n : ℕ) → drop (at + length part + n) (splice b at part) ≡ drop (at + length part + n) b
  drop_splice n =
      sym (drop-drop n (at + length part) (splice b at part))
      ∙ ap (drop n) (ap (drop (at + length part)) grouped ∙ drop_at front (drop (at + length part) b) (at + length part) front_length)
      ∙ drop-drop n (at + length part) b

  -- what is put right behind is put with it
  pub splice_append : (more : Bytes) → splice (splice b at part) (at + length part) more ≡ splice b at (part ++ more)
  unfolding splice
  splice_append more =
      ap₂ (λ (x y : Bytes). x ++ (more ++ y)) take_splice (drop_splice (length more))
      ∙ simp (append_assoc, length-append, add_assoc)

  -- the elements before, in and after the part
  pub splice_low : (i : ℕ) → i < at → get_or (splice b at part) i 0 ≡ get_or b i 0
  unfolding splice
  splice_low i h = get_or-append (take at b) (part ++ drop (at + length part) b) 0 i (omega (arith, before)) ∙ get_or-take at b i 0 h

  pub splice_in : (i : ℕ) → i < length part → get_or (splice b at part) (at + i) 0 ≡ get_or part i 0
  unfolding splice
  splice_in i h =
      ap (λ (n : ℕ). get_or (take at b ++ (part ++ drop (at + length part) b)) (n + i) 0) (sym before)
      ∙ get_or-append-add (take at b) (part ++ drop (at + length part) b) i 0 ∙ get_or-append part (drop (at + length part) b) 0 i h

  pub splice_high : (i : ℕ) → at + length part ≤ i → get_or (splice b at part) i 0 ≡ get_or b i 0
  splice_high i h =
      let e : i ≡ at + length part + 0 + (i - (at + length part)) = omega arith in
      ap (λ (n : ℕ). get_or (splice b at part) n 0) e ∙ sym (get_or-drop (at + length part + 0) (splice b at part) (i - (at + length part)) 0)
      ∙ ap (λ (l : Bytes). get_or l (i - (at + length part)) 0) (drop_splice 0)
      ∙ get_or-drop (at + length part + 0) b (i - (at + length part)) 0 ∙ ap (λ (n : ℕ). get_or b n 0) (sym e)

  -- a part before, and the part that was put
  pub splice_part_low : (n m : ℕ) → n + m ≤ at → take m (drop n (splice b at part)) ≡ take m (drop n b)
  unfolding splice
  splice_part_low n m h =
      ap (take m) (drop-append-le n (take at b) (part ++ drop (at + length part) b) (omega (arith, before)))
      ∙ take-append-le m (drop n (take at b)) (part ++ drop (at + length part) b) (omega (arith, before, length-drop n (take at b)))
      ∙ part_of_front n m at b h

  pub splice_part_in : take (length part) (drop at (splice b at part)) ≡ part
  unfolding splice
  splice_part_in =
      ap (take (length part)) (drop_at (take at b) (part ++ drop (at + length part) b) at before)
      ∙ take_at part (drop (at + length part) b) (length part) refl

pub length_splice : (b : Bytes) (at : ℕ) (part : Bytes) → at + length part ≤ length b → length (splice b at part) ≡ length b
length_splice b at part fits =
    ap length (grouped b at part (omega arith)) ∙ length-append (front b at part (omega arith)) (drop (at + length part) b)
    ∙ omega (arith, front_length b at part (omega arith), length-drop (at + length part) b)

-- a part put right before another
pub splice_before : (b : Bytes) (at : ℕ) (a x : Bytes) → at + length a ≤ length b → splice (splice b (at + length a) x) at a ≡ splice b at (a ++ x)
unfolding splice
splice_before b at a x h =
    let front : length (take (at + length a) b) ≡ at + length a = length-take-le (at + length a) b h in
    let n : at + length a + length x ≡ at + length (a ++ x) = omega (arith, length-append a x) in
    ap₂ (λ (u v : Bytes). u ++ (a ++ v))
    (take-append-le at (take (at + length a) b) (x ++ drop (at + length a + length x) b) (omega arith) ∙ take-take at (at + length a) b (omega arith))
    (drop_at (take (at + length a) b) (x ++ drop (at + length a + length x) b) (at + length a) front)
    ∙ ap (λ (v : Bytes). take at b ++ v) (sym (append_assoc a x (drop (at + length a + length x) b)) ∙ ap (λ (m : ℕ). (a ++ x) ++ drop m b) n)

-- what stands there already is put
pub splice_own : (b : Bytes) (at : ℕ) (part : Bytes) → take (length part) (drop at b) ≡ part → splice b at part ≡ b
unfolding splice
splice_own b at part e =
    ap (λ (y : Bytes). take at b ++ y)
    (ap₂ ◌++◌ (sym e) (sym (drop-drop (length part) at b)) ∙ take-append-drop (length part) (drop at b))
    ∙ take-append-drop at b

-- a part put over another of its length
pub splice_over : (b : Bytes) (at : ℕ) (p q : Bytes) → at ≤ length b → length q ≡ length p → splice (splice b at p) at q ≡ splice b at q
unfolding splice
splice_over b at p q h e =
    let n : at + length q ≡ at + length p + 0 = omega arith in
    ap₂ (λ (x y : Bytes). x ++ (q ++ y)) (splice_part_low b at p h 0 at (omega arith))
    (ap (λ (m : ℕ). drop m (splice b at p)) n ∙ drop_splice b at p h 0 ∙ ap (λ (m : ℕ). drop m b) (sym n))

-- a part put into the first of two
splice_first : (a x : Bytes) (at : ℕ) (p : Bytes) → at + length p ≤ length a → splice (a ++ x) at p ≡ splice a at p ++ x
unfolding splice
splice_first a x at p h =
    ap₂ (λ (u v : Bytes). u ++ (p ++ v)) (take-append-le at a x (omega arith)) (drop-append-le (at + length p) a x h)
    ∙ simp append_assoc

-- and one put to the front of the second
splice_second : (a x : Bytes) (at : ℕ) (q : Bytes) → length a ≡ at → splice (a ++ x) at q ≡ a ++ (q ++ drop (length q) x)
unfolding splice
splice_second a x at q n =
    ap₂ (λ (u v : Bytes). u ++ (q ++ v)) (take_at a x at n)
    (ap (λ (m : ℕ). drop (m + length q) (a ++ x)) (sym n) ∙ drop-append-add a x (length q))

-- two stores in a row, as code leaves them
pub stored_behind : (t t₁ t₂ a b : Bytes) (at n : ℕ) → at ≤ length t → t₁ ≡ splice t at a → at + length a ≡ n → t₂ ≡ splice t₁ n b → t₂ ≡ splice t at (a ++ b)
stored_behind t t₁ t₂ a b at n h e l f = f ∙ ap₂ (λ (x : Bytes) (k : ℕ). splice x k b) e (sym l) ∙ splice_append t at a h b

-- two parts put apart from each other, in either order
pub splice_apart : (b : Bytes) (low : ℕ) (p : Bytes) (high : ℕ) (q : Bytes) → low + length p ≤ high → high ≤ length b
    → splice (splice b low p) high q ≡ splice (splice b high q) low p
unfolding splice
splice_apart b low p high q apart within =
    let n : length (take high b) ≡ high = length-take-le high b within in
    ap (λ (x : Bytes). splice x high q)
    (ap (λ (x : Bytes). splice x low p) (sym (take-append-drop high b)) ∙ splice_first (take high b) (drop high b) low p (omega arith))
    ∙ splice_second (splice (take high b) low p) (drop high b) high q (length_splice (take high b) low p (omega arith) ∙ n)
    ∙ ap (λ (x : Bytes). splice (take high b) low p ++ (q ++ x)) (drop-drop (length q) high b)
    ∙ sym (splice_first (take high b) (q ++ drop (high + length q) b) low p (omega arith))
