-- The library's bytes of a number, the high byte first, are the standard's. Assumes nothing.
use mathlib.Core.Path.{◌≡◌, refl}
use Prim.Native.Nat.{ℕ}
use native.Mathlib.Nat.{div-one}
use Rattle.std.specs.Int.{w32, w64, to_be_bytes}
use Rattle.sha256.specs.Sha256.{bytes_of}

pub four_bytes : (x : ℕ) → to_be_bytes w32 x ≡ bytes_of 4 x
four_bytes x = simp div-one refl

pub eight_bytes : (x : ℕ) → to_be_bytes w64 x ≡ bytes_of 8 x
eight_bytes x = simp div-one refl
