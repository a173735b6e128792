-- Laws of byte strings cut in parts of one size and joined again. Assumes nothing.
use mathlib.Core.Path.{◌≡◌, refl, sym, ap, ◌∙◌}
use mathlib.Core.List.{List, [], ◌∷◌, ◌++◌, append_assoc, append-nil}
use Prim.Native.Nat.{ℕ, zero, suc, ◌+◌, ◌*◌, ◌-◌, ◌≤◌, ◌<◌, suc-le-suc}
use native.Mathlib.Nat.{mul-suc, mul-zero, add_comm, le_of_eq, le_of_suc-le-suc}
use native.Mathlib.Omega.{arith}
use lib.ListN.{length, get_or, take, drop, length-append, length-drop, take-append-drop}
use lib.Seq.{take_at, drop_at, take-add, take_all, take-take, drop-drop, ext_get_or}
use Rattle.std.specs.Array.{IsWholeChunk}
use Rattle.base.specs.Bytes.{Bytes, part_at, parts, concat}
use Rattle.base.specs.List.{list_below}
use Rattle.base.proofs.List.{length_list, list_at, list_more}

-- the length of a part from a to a + s, as the code asks it
pub part_size_lem : (a s : ℕ) → (a + s) - a ≡ s
part_size_lem a s = omega arith

-- a part from a to a + s that came as an array
pub array_part : (l part : List ℕ) (a s : ℕ) → IsWholeChunk (take ((a + s) - a) (drop a l)) part s → part ≡ take s (drop a l)
array_part l part a s w = w.same ∙ ap (λ (n : ℕ). take n (drop a l)) (part_size_lem a s)

-- a part up to the end
pub rest_part : (b : Bytes) (at : ℕ) → take (length b - at) (drop at b) ≡ drop at b
rest_part b at = take_all (length b - at) (drop at b) (le_of_eq (length-drop at b))

-- a part and what follows it
pub part_and_rest : (b : Bytes) (at size : ℕ) → take size (drop at b) ++ drop (at + size) b ≡ drop at b
part_and_rest b at size = ap (λ (x : Bytes). take size (drop at b) ++ x) (sym (drop-drop size at b)) ∙ take-append-drop size (drop at b)

-- a part of a front that reaches far enough
pub part_of_front : (n m k : ℕ) (b : Bytes) → n + m ≤ k → take m (drop n (take k b)) ≡ take m (drop n b)
part_of_front zero m k b h = take-take m k b (omega arith)
part_of_front (suc n) m zero b h = absurd (omega arith)
part_of_front (suc n) m (suc k) [] h = refl
part_of_front (suc n) m (suc k) (x ∷ b) h = part_of_front n m k b (omega arith)

pub length_parts : (k size : ℕ) (b : Bytes) → length (parts k size b) ≡ k
unfolding parts
length_parts zero size b = refl
length_parts (suc k) size b = ap suc (length_parts k size (drop size b))

size_more : (size k : ℕ) → size + size * k ≡ size * suc k
size_more size k = add_comm size (size * k) ∙ sym (mul-suc size k)

pub parts_at : (k size : ℕ) (b : Bytes) (i : ℕ) → i < k → get_or (parts k size b) i [] ≡ part_at size b i
unfolding parts
parts_at zero size b i h = absurd (omega arith)
parts_at (suc k) size b zero h = rw (mul-zero size)
parts_at (suc k) size b (suc i) h =
    parts_at k size (drop size b) i (le_of_suc-le-suc h) ∙ ap (take size) (drop-drop (size * i) size b ∙ ap (λ (n : ℕ). drop n b) (size_more size i))

pub parts_list : (k size : ℕ) (b : Bytes) → parts k size b ≡ list_below (part_at size b) k
parts_list k size b =
    ext_get_or [] (parts k size b) (list_below (part_at size b) k) (length_parts k size b ∙ sym (length_list (part_at size b) k))
    (λ i h. parts_at k size b i (omega (arith, length_parts k size b)) ∙ sym (list_at (part_at size b) k i [] (omega (arith, length_parts k size b))))

-- parts joined are the bytes that were cut
pub concat_parts : (k size : ℕ) (b : Bytes) → concat (parts k size b) ≡ take (size * k) b
unfolding parts concat
concat_parts zero size b = rw (mul-zero size)
concat_parts (suc k) size b = rw (concat_parts k size (drop size b), ← take-add size (size * k) b) (ap (λ (n : ℕ). take n b) (size_more size k))

-- byte strings of one size, joined
module _ (size : ℕ) where
  abbrev pub EachSize : List Bytes → Type 0
  EachSize xs = (i : ℕ) → i < length xs → length (get_or xs i []) ≡ size

  pub length_joined : (xs : List Bytes) → EachSize xs → length (concat xs) ≡ size * length xs
  unfolding concat
  length_joined [] e = sym (mul-zero size)
  length_joined (x ∷ xs) e = rw (length-append, e 0 (omega arith), length_joined xs (λ i h. e (suc i) (suc-le-suc h))) (size_more size (length xs))

  -- cut in parts of that size they are what was joined
  pub parts_joined : (xs : List Bytes) (rest : Bytes) → EachSize xs → parts (length xs) size (concat xs ++ rest) ≡ xs
  unfolding parts concat
  parts_joined [] rest e = refl
  parts_joined (x ∷ xs) rest e =
      let l : length x ≡ size = e 0 (omega arith) in
      rw (append_assoc x (concat xs) rest, take_at x (concat xs ++ rest) size l, drop_at x (concat xs ++ rest) size l, parts_joined xs rest (λ i h. e (suc i) (suc-le-suc h)))

  -- the values of a function at the numbers below k, joined
  pub length_joined_list : (f : ℕ → Bytes) (k : ℕ) → ((i : ℕ) → length (f i) ≡ size) → length (concat (list_below f k)) ≡ size * k
  length_joined_list f k e =
      length_joined (list_below f k) (λ i h. ap length (list_at f k i [] (omega (arith, length_list f k))) ∙ e i)
      ∙ ap (λ (n : ℕ). size * n) (length_list f k)

-- two lists joined one after the other
pub concat_append : (xs ys : List Bytes) → concat (xs ++ ys) ≡ concat xs ++ concat ys
unfolding concat
concat_append [] ys = refl
concat_append (x ∷ xs) ys = ap (λ (z : Bytes). x ++ z) (concat_append xs ys) ∙ sym (append_assoc x (concat xs) (concat ys))

-- one more joined at the end
pub concat_list_more : (f : ℕ → Bytes) (k : ℕ) → concat (list_below f (k + 1)) ≡ concat (list_below f k) ++ f k
unfolding concat
concat_list_more f k = ap concat (list_more f k) ∙ concat_append (list_below f k) (f k ∷ []) ∙ ap (λ (z : Bytes). concat (list_below f k) ++ z) (append-nil (f k))
