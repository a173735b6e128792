-- `push` meets its contract: the digest stands right behind the others, or there is no room. Assumes nothing.
use mathlib.Core.Path.{◌≡◌}
use Prim.Native.Nat.{ℕ, ◌+◌, ◌*◌, ◌≤◌}
use native.Mathlib.Omega.{arith}
use lib.ListN.{length, take}
use lib.Seq.{length-take-le}
use borrow.Author.Tests.{lt-ltb}
use Rattle.base.specs.Bytes.{Bytes, splice}
use Rattle.base.proofs.Splice.{take_splice}
use Rattle.block.specs.Limits.{reference_size, max_references}
use Rattle.build.specs.Steps.{with_reference}
use Rattle.build.proofs.references.References.push.Goals as goal

-- the first `count` references of the bytes
module _ (bytes : Bytes) (count : ℕ) (size : length bytes ≡ reference_size * max_references) (few : count ≤ max_references) where
  abbrev front : Bytes
  front = take (reference_size * count) bytes

  front_size : length front ≡ reference_size * count
  front_size = length-take-le (reference_size * count) bytes (omega arith)

  pub one_more : (digest after : Bytes) → length digest ≡ reference_size → count + 1 ≤ max_references → after ≡ splice bytes (reference_size * count) digest
      → take (reference_size * (count + 1)) after ≡ with_reference front digest
  one_more digest after d room e =
      let n : reference_size * (count + 1) ≡ reference_size * count + length digest = omega arith in
      let yes = lt-ltb (length front) (reference_size * max_references) (omega (arith, front_size)) in
      rw (e, n, yes) (take_splice bytes (reference_size * count) digest (omega arith))

pub returns-then-count-lt-MAX_REFERENCES : goal.returns-then-count-lt-MAX_REFERENCES
returns-then-count-lt-MAX_REFERENCES c = let inside = c.self.inside in
    rw (← c.self.view_is) (one_more inside.bytes inside.count (omega (arith, c.self.told)) c.self.invariant c.args.digest.now _ (omega (arith, c.told-digest)) (omega arith) c.put.ensures)
