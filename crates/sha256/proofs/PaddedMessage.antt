-- The padded message: its whole blocks are the message's, and one or two blocks, the tail, stand after them.
-- Assumes nothing.
use native.Mathlib.Omega.{arith}
use Prim.Native.Nat.{ℕ, suc, ◌+◌, ◌-◌, ◌*◌, ◌/◌, ◌%◌, ◌^◌, ◌≤◌}
use mathlib.Core.Path.{◌≡◌, refl, ap, ap₂, sym, ◌∙◌}
use mathlib.Core.List.{List, ◌∷◌, ◌++◌, append_assoc}
use lib.ListN.{length, take, drop, replicate, length-append, length-drop, length-replicate, replicate-append-replicate}
use lib.Seq.{take_at, take-append-add, drop-append-le}
use Rattle.base.specs.Bytes.{splice}
use Rattle.base.proofs.Splice.{take_splice}
use Rattle.sha256.specs.declared.rounds.State.{State}
use Rattle.sha256.specs.Sha256.{bytes_of, zeros, pad, H0, hash, bytes, sha256}
use Rattle.sha256.specs.Steps.{tail_blocks}
use Rattle.sha256.proofs.Hashing.{hash_split, hash_take}

abbrev pub zs : ℕ → List ℕ
zs n = replicate n 0

take_zeros : (n m : ℕ) → n ≤ m → take n (zs m) ≡ zs n
take_zeros n m h =
    let e : m ≡ n + (m - n) = omega arith in
    ap (λ (k : ℕ). take n (zs k)) e ∙ ap (take n) (sym (replicate-append-replicate n (m - n) 0)) ∙ take_at (zs n) (zs (m - n)) n (length-replicate n 0)

module _ (m : List ℕ) where
  abbrev pub len : ℕ
  len = length m

  abbrev pub whole : ℕ
  whole = 64 * (len / 64)

  abbrev pub end : ℕ
  end = 64 * tail_blocks len

  abbrev pub bits : ℕ
  bits = 8 * len % 2 ^ 64

  -- the rest of the message, the one bit, and zeros up to two blocks
  abbrev pub rest : List ℕ
  rest = drop whole m ++ (0x80 ∷ zs (127 - (len - whole)))

  -- ---- the tail: the rest, with the length put at the end of the first block or the second

  dropped_length : length (drop whole m) ≡ len - whole
  dropped_length = length-drop whole m

  room : end - 8 ≤ length rest
  room = simp (length-append, length-replicate) (omega (arith, dropped_length))

  rest_taken : take (end - 8) rest ≡ drop whole m ++ (0x80 ∷ zs (zeros len))
  unfolding zeros
  rest_taken =
      let e : end - 8 ≡ length (drop whole m) + suc (zeros len) = omega (arith, dropped_length) in
      let z : zeros len ≤ 127 - (len - whole) = omega arith in
      ap (λ (n : ℕ). take n rest) e ∙ take-append-add (drop whole m) (0x80 ∷ zs (127 - (len - whole))) (suc (zeros len))
      ∙ ap (λ (l : List ℕ). drop whole m ++ (0x80 ∷ l)) (take_zeros (zeros len) (127 - (len - whole)) z)

  pad_after : drop whole (pad m) ≡ (drop whole m ++ (0x80 ∷ zs (zeros len))) ++ bytes_of 8 bits
  unfolding pad
  pad_after =
      drop-append-le whole m (0x80 ∷ (zs (zeros len) ++ bytes_of 8 bits)) (omega arith)
      ∙ sym (append_assoc (drop whole m) (0x80 ∷ zs (zeros len)) (bytes_of 8 bits))

  pub tail_is : take end (splice rest (end - 8) (bytes_of 8 bits)) ≡ drop whole (pad m)
  tail_is =
      let e : end ≡ end - 8 + 8 = omega arith in
      ap (λ (n : ℕ). take n (splice rest (end - 8) (bytes_of 8 bits))) e ∙ take_splice rest (end - 8) (bytes_of 8 bits) room
      ∙ ap (λ (x : List ℕ). x ++ bytes_of 8 bits) rest_taken ∙ sym pad_after

  -- ---- the hash value

  pad_length : length (pad m) ≡ len + suc (zeros len + 8)
  unfolding pad
  pad_length = simp (length-append, length-replicate)

  pad_blocks : length (pad m) / 64 ≡ len / 64 + tail_blocks len
  unfolding zeros
  pad_blocks = omega (arith, pad_length)

  pad_before : (s : State) → hash s (pad m) (len / 64) ≡ hash s m (len / 64)
  unfolding pad
  pad_before s =
      sym (hash_take s (pad m) len (len / 64) (omega arith))
      ∙ ap (λ (l : List ℕ). hash s l (len / 64)) (take_at m (0x80 ∷ (zs (zeros len) ++ bytes_of 8 bits)) len refl)

  pub hashed : (tail : List ℕ) → take end tail ≡ drop whole (pad m) → sha256 m ≡ bytes (hash (hash H0 m (len / 64)) tail (tail_blocks len))
  unfolding sha256
  hashed tail e =
      ap bytes
      (ap (hash H0 (pad m)) pad_blocks ∙ hash_split H0 (pad m) (len / 64) (tail_blocks len)
      ∙ ap₂ (λ (s : State) (l : List ℕ). hash s l (tail_blocks len)) (pad_before H0) (sym e)
      ∙ hash_take (hash H0 m (len / 64)) tail end (tail_blocks len) (omega arith))
