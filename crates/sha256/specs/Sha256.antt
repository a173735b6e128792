-- SHA-256 as FIPS 180-4 defines it, in the standard's steps and names, each under its section. A byte is a number below 2 ^ 8 and a word
-- one below 2 ^ 32. A message is a list of bytes: a bit string of the standard's whose length is a multiple of 8. `get_or l i 0` is
-- element i of l, counted from 0. `State` is the struct of eight words, a to h, that src/rounds.rt declares.
-- Assumes nothing.
use Rattle.std.specs.Prelude.{ℕ, zero, suc, ◌+◌, ◌-◌, ◌*◌, ◌/◌, ◌%◌, ◌^◌, List, [], ◌∷◌, ◌++◌, length, get_or, replicate}
use Rattle.std.specs.Int.Bits.{bit_and, bit_or, bit_xor}
use Rattle.sha256.specs.declared.rounds.State.{State}

-- 2.2.2 Symbols and operations: on words. `bit_and`, `bit_or` and `bit_xor` are the library's; a sum modulo 2 ^ 32 is written out where it
-- stands.
abbrev pub complement : ℕ → ℕ
complement x = (2 ^ 32 - 1) - x

abbrev pub shift_left : ℕ → ℕ → ℕ
shift_left n x = x * 2 ^ n % 2 ^ 32

abbrev pub shift_right : ℕ → ℕ → ℕ
shift_right n x = x / 2 ^ n

-- 3.1 Bit strings and integers: the n bytes of a number, the most significant first
abbrev pub bytes_of : ℕ → ℕ → List ℕ
bytes_of zero x = []
bytes_of (suc n) x = x / 2 ^ (8 * n) % 2 ^ 8 ∷ bytes_of n x

-- 3.2 Operations on words
abbrev pub SHR : ℕ → ℕ → ℕ
SHR n x = shift_right n x

abbrev pub ROTR : ℕ → ℕ → ℕ
ROTR n x = bit_or (shift_right n x) (shift_left (32 - n) x)

-- 4.1.2 SHA-256 functions
abbrev pub Ch : ℕ → ℕ → ℕ → ℕ
Ch x y z = bit_xor (bit_and x y) (bit_and (complement x) z)

abbrev pub Maj : ℕ → ℕ → ℕ → ℕ
Maj x y z = bit_xor (bit_xor (bit_and x y) (bit_and x z)) (bit_and y z)

abbrev pub Σ0 : ℕ → ℕ
Σ0 x = bit_xor (bit_xor (ROTR 2 x) (ROTR 13 x)) (ROTR 22 x)

abbrev pub Σ1 : ℕ → ℕ
Σ1 x = bit_xor (bit_xor (ROTR 6 x) (ROTR 11 x)) (ROTR 25 x)

abbrev pub σ0 : ℕ → ℕ
σ0 x = bit_xor (bit_xor (ROTR 7 x) (ROTR 18 x)) (SHR 3 x)

abbrev pub σ1 : ℕ → ℕ
σ1 x = bit_xor (bit_xor (ROTR 17 x) (ROTR 19 x)) (SHR 10 x)

-- 4.2.2 SHA-256 constants
unfoldable pub K : List ℕ
K =
    0x428a2f98 ∷ 0x71374491 ∷ 0xb5c0fbcf ∷ 0xe9b5dba5 ∷ 0x3956c25b ∷ 0x59f111f1 ∷ 0x923f82a4 ∷ 0xab1c5ed5 ∷
    0xd807aa98 ∷ 0x12835b01 ∷ 0x243185be ∷ 0x550c7dc3 ∷ 0x72be5d74 ∷ 0x80deb1fe ∷ 0x9bdc06a7 ∷ 0xc19bf174 ∷
    0xe49b69c1 ∷ 0xefbe4786 ∷ 0x0fc19dc6 ∷ 0x240ca1cc ∷ 0x2de92c6f ∷ 0x4a7484aa ∷ 0x5cb0a9dc ∷ 0x76f988da ∷
    0x983e5152 ∷ 0xa831c66d ∷ 0xb00327c8 ∷ 0xbf597fc7 ∷ 0xc6e00bf3 ∷ 0xd5a79147 ∷ 0x06ca6351 ∷ 0x14292967 ∷
    0x27b70a85 ∷ 0x2e1b2138 ∷ 0x4d2c6dfc ∷ 0x53380d13 ∷ 0x650a7354 ∷ 0x766a0abb ∷ 0x81c2c92e ∷ 0x92722c85 ∷
    0xa2bfe8a1 ∷ 0xa81a664b ∷ 0xc24b8b70 ∷ 0xc76c51a3 ∷ 0xd192e819 ∷ 0xd6990624 ∷ 0xf40e3585 ∷ 0x106aa070 ∷
    0x19a4c116 ∷ 0x1e376c08 ∷ 0x2748774c ∷ 0x34b0bcb5 ∷ 0x391c0cb3 ∷ 0x4ed8aa4a ∷ 0x5b9cca4f ∷ 0x682e6ff3 ∷
    0x748f82ee ∷ 0x78a5636f ∷ 0x84c87814 ∷ 0x8cc70208 ∷ 0x90befffa ∷ 0xa4506ceb ∷ 0xbef9a3f7 ∷ 0xc67178f2 ∷ []

-- 5.1.1 Padding the message: the message, a one bit, the fewest zero bits that leave 64 bits of a block, and in these the message's length
-- in bits. The byte 0x80 is the one bit and seven zero bits, and `zeros` counts the zero bytes after it (`zeros_fill` and `zeros_least` of
-- specs/Promises.antt say that they are the fewest).
-- The length is the bit count modulo 2 ^ 64: the bit count itself for every message that the standard admits, and so defined for those of
-- 2 ^ 61 bytes and more too.
unfoldable pub zeros : ℕ → ℕ
zeros len = (119 - len % 64) % 64

unfoldable pub pad : List ℕ → List ℕ
pad m = m ++ (0x80 ∷ (replicate (zeros (length m)) 0 ++ bytes_of 8 (8 * length m % 2 ^ 64)))

-- 5.2.1 Parsing the message: the word of the four bytes from byte i on, and the first t words of the block that starts at byte i
abbrev pub word : List ℕ → ℕ → ℕ
word m i = get_or m i 0 * 2 ^ 24 + get_or m (i + 1) 0 * 2 ^ 16 + get_or m (i + 2) 0 * 2 ^ 8 + get_or m (i + 3) 0

unfoldable pub words : List ℕ → ℕ → ℕ → List ℕ
words m i zero = []
words m i (suc t) = words m i t ++ (word m (i + 4 * t) ∷ [])

-- 5.3.3 Setting the initial hash value: H(0). A hash value's words H0 to H7 are the fields a to h, as step 2 below names them.
unfoldable pub H0 : State
H0 =
    record {
      a = 0x6a09e667;
      b = 0xbb67ae85;
      c = 0x3c6ef372;
      d = 0xa54ff53a;
      e = 0x510e527f;
      f = 0x9b05688c;
      g = 0x1f83d9ab;
      h = 0x5be0cd19;
    }

-- 6.2.2 SHA-256 hash computation, step 1: word W t of the schedule, for t from 16 on, out of the words before it; and the schedule's first 16 + n
-- words, which begin with the sixteen words M of the block
unfoldable pub next : List ℕ → ℕ → ℕ
next W t = (σ1 (get_or W (t - 2) 0) + get_or W (t - 7) 0 + σ0 (get_or W (t - 15) 0) + get_or W (t - 16) 0) % 2 ^ 32

unfoldable pub schedule : List ℕ → ℕ → List ℕ
schedule M zero = M
schedule M (suc n) = schedule M n ++ (next (schedule M n) (16 + n) ∷ [])

-- step 3: one round on the working variables, k and w being K t and W t
abbrev pub T1 : State → ℕ → ℕ → ℕ
T1 s k w = (s.h + Σ1 s.e + Ch s.e s.f s.g + k + w) % 2 ^ 32

abbrev pub T2 : State → ℕ
T2 s = (Σ0 s.a + Maj s.a s.b s.c) % 2 ^ 32

unfoldable pub round : State → ℕ → ℕ → State
round s k w =
    record {
      h = s.g;
      g = s.f;
      f = s.e;
      e = (s.d + T1 s k w) % 2 ^ 32;
      d = s.c;
      c = s.b;
      b = s.a;
      a = (T1 s k w + T2 s) % 2 ^ 32;
    }

-- steps 2 and 3: the working variables, at first the hash value s, after t rounds
unfoldable pub rounds : State → List ℕ → ℕ → State
rounds s W zero = s
rounds s W (suc t) = round (rounds s W t) (get_or K t 0) (get_or W t 0)

-- step 4: the working variables s added to the hash value t
unfoldable pub plus : State → State → State
plus s t =
    record {
      a = (s.a + t.a) % 2 ^ 32;
      b = (s.b + t.b) % 2 ^ 32;
      c = (s.c + t.c) % 2 ^ 32;
      d = (s.d + t.d) % 2 ^ 32;
      e = (s.e + t.e) % 2 ^ 32;
      f = (s.f + t.f) % 2 ^ 32;
      g = (s.g + t.g) % 2 ^ 32;
      h = (s.h + t.h) % 2 ^ 32;
    }

-- steps 1 to 4: the hash value that follows s by the block that starts at byte i of m
unfoldable pub compress : State → List ℕ → ℕ → State
compress s m i = plus (rounds s (schedule (words m i 16) 48) 64) s

-- H(n), the hash value after n blocks, from H(0) = s
unfoldable pub hash : State → List ℕ → ℕ → State
hash s m zero = s
hash s m (suc n) = compress (hash s m n) m (64 * n)

-- the digest: the words H0 to H7 of the last hash value, one after another, each as four bytes
unfoldable pub word_bytes : List ℕ → List ℕ
word_bytes [] = []
word_bytes (w ∷ ws) = bytes_of 4 w ++ word_bytes ws

unfoldable pub bytes : State → List ℕ
bytes s = word_bytes (s.a ∷ s.b ∷ s.c ∷ s.d ∷ s.e ∷ s.f ∷ s.g ∷ s.h ∷ [])

unfoldable pub sha256 : List ℕ → List ℕ
sha256 m = bytes (hash H0 (pad m) (length (pad m) / 64))
