-- The published digests are found by computing the definition, its padding is the standard's, and a digest is 32 bytes. Assumes nothing.
use native.Mathlib.Omega.{arith}
use Prim.Native.Nat.{ℕ, zero, suc}
use mathlib.Core.Path.{◌≡◌, refl}
use mathlib.Core.List.{List, [], ◌∷◌}
use lib.ListN.{length}
use Rattle.base.specs.Bytes.{AllBytes}
use Rattle.base.proofs.Bytes.{bytes_append}
use Rattle.sha256.specs.Sha256.{bytes_of, K, zeros, pad, words, H0, next, schedule, round, rounds, plus, compress, hash, word_bytes, bytes, sha256}
use Rattle.sha256.specs.Promises.{Promises}

pub sha256_length : (m : List ℕ) → length (sha256 m) ≡ 32
unfolding sha256 bytes word_bytes
sha256_length m = refl

bytes_of_bytes : (n x : ℕ) → AllBytes (bytes_of n x)
bytes_of_bytes zero x i = omega arith
bytes_of_bytes (suc n) x zero = omega arith
bytes_of_bytes (suc n) x (suc i) = bytes_of_bytes n x i

word_bytes_bytes : (ws : List ℕ) → AllBytes (word_bytes ws)
unfolding word_bytes
word_bytes_bytes [] i = omega arith
word_bytes_bytes (w ∷ ws) i = bytes_append (bytes_of 4 w) (word_bytes ws) (bytes_of_bytes 4 w) (word_bytes_bytes ws) i

sha256_bytes : (m : List ℕ) → AllBytes (sha256 m)
unfolding sha256 bytes
sha256_bytes m = word_bytes_bytes _

pub promises : Promises
unfolding K zeros pad words H0 next schedule round rounds plus compress hash word_bytes bytes sha256
promises =
    record {
      abc_digest = refl;
      bits448_digest = refl;
      zeros_fill = λ len. omega arith;
      zeros_least = λ len k e. omega arith;
      size = sha256_length;
      bytes = sha256_bytes;
    }
