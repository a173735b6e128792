-- The hash value depends on its blocks alone: the blocks after the first n are the first blocks of the list without these n, and what stands behind
-- the last block does not matter. Assumes nothing.
use native.Mathlib.Omega.{arith}
use Prim.Native.Nat.{ℕ, zero, suc, ◌+◌, ◌*◌, ◌≤◌, ◌<◌}
use native.Mathlib.Nat.{add_assoc, add-zero, add-suc}
use mathlib.Core.Path.{◌≡◌, refl, ap, ap₂, sym, ◌∙◌}
use mathlib.Core.List.{List}
use lib.ListN.{take, drop}
use lib.Seq.{get_or-drop, get_or-take}
use Rattle.sha256.specs.declared.rounds.State.{State}
use Rattle.sha256.specs.Sha256.{word, words, schedule, rounds, plus, compress, hash}

of_words : (s : State) (l m : List ℕ) (i j : ℕ) → words l i 16 ≡ words m j 16 → compress s l i ≡ compress s m j
unfolding compress
of_words s l m i j e = ap (λ (M : List ℕ). plus (rounds s (schedule M 48) 64) s) e

-- ---- the blocks after the first n

word_drop : (l : List ℕ) (n i : ℕ) → word (drop n l) i ≡ word l (n + i)
word_drop l n i = simp (get_or-drop, add_assoc)

words_drop : (l : List ℕ) (n i t : ℕ) → words (drop n l) i t ≡ words l (n + i) t
unfolding words
words_drop l n i zero = refl
words_drop l n i (suc t) = rw (words_drop l n i t, word_drop l n (i + 4 * t), ← add_assoc n i (4 * t))

pub hash_split : (s : State) (l : List ℕ) (n k : ℕ) → hash s l (n + k) ≡ hash (hash s l n) (drop (64 * n) l) k
unfolding hash
hash_split s l n zero = rw add-zero
hash_split s l n (suc k) =
    let e : 64 * (n + k) ≡ 64 * n + 64 * k = omega arith in
    rw add-suc
    (ap₂ (λ (v : State) (i : ℕ). compress v l i) (hash_split s l n k) e
    ∙ sym (of_words (hash (hash s l n) (drop (64 * n) l) k) (drop (64 * n) l) l (64 * k) (64 * n + 64 * k) (words_drop l (64 * n) (64 * k) 16)))

-- ---- what stands behind the last block, and behind a block

word_take : (l : List ℕ) (j i : ℕ) → i + 4 ≤ j → word (take j l) i ≡ word l i
word_take l j i h =
    let a : i < j = omega arith in
    let b : i + 1 < j = omega arith in
    let c : i + 2 < j = omega arith in
    let d : i + 3 < j = omega arith in
    simp (get_or-take j l i 0 a, get_or-take j l (i + 1) 0 b, get_or-take j l (i + 2) 0 c, get_or-take j l (i + 3) 0 d)

words_take : (l : List ℕ) (j i t : ℕ) → i + 4 * t ≤ j → words (take j l) i t ≡ words l i t
unfolding words
words_take l j i zero h = refl
words_take l j i (suc t) h = rw (words_take l j i t (omega arith), word_take l j (i + 4 * t) (omega arith))

-- a block by itself
pub one_block : (s : State) (l : List ℕ) (i : ℕ) → compress s (take 64 (drop i l)) 0 ≡ compress s l i
one_block s l i = of_words s (take 64 (drop i l)) l 0 i (words_take (drop i l) 64 0 16 (omega arith) ∙ rw add-zero at (words_drop l i 0 16))

pub hash_take : (s : State) (l : List ℕ) (j n : ℕ) → 64 * n ≤ j → hash s (take j l) n ≡ hash s l n
unfolding hash
hash_take s l j zero h = refl
hash_take s l j (suc n) h =
    ap (λ (v : State). compress v (take j l) (64 * n)) (hash_take s l j n (omega arith))
    ∙ of_words (hash s l n) (take j l) l (64 * n) (64 * n) (words_take l j (64 * n) 16 (omega arith))
