-- Text put right behind text that was put at an index: both stand there as one. Assumes nothing.
use mathlib.Core.Path.{◌≡◌, sym, ap, ◌∙◌}
use mathlib.Core.List.{[], ◌++◌}
use Prim.Native.Nat.{ℕ, ◌+◌, ◌≤◌}
use native.Mathlib.Nat.{add-zero}
use native.Mathlib.Omega.{arith}
use lib.ListN.{length, length-append}
use Rattle.base.specs.Bytes.{Bytes, splice}
use Rattle.base.proofs.Splice.{splice_nothing, splice_append, length_splice}

-- `b` with the text at an index is `c`, and the text ends at `end`
pub record Put (b : Bytes) (at : ℕ) (text c : Bytes) (end : ℕ) : Type 0 where
  pub ends : end ≡ at + length text
  pub holds : c ≡ splice b at text

pub put_nothing : (b : Bytes) (at : ℕ) → Put b at [] b at
put_nothing b at = record { ends = sym (add-zero at); holds = sym (splice_nothing b at) }

pub put_behind : (b : Bytes) (at : ℕ) (text more c d : Bytes) (end last : ℕ) → at ≤ length b → Put b at text c end → Put c end more d last → Put b at (text ++ more) d last
put_behind b at text more c d end last h p q =
    record {
      ends = q.ends ∙ omega (arith, p.ends, length-append text more);
      holds = q.holds ∙ rw (p.holds, p.ends) (splice_append b at text h more);
    }

pub put_keeps : (b : Bytes) (at : ℕ) (text c : Bytes) (end : ℕ) → Put b at text c end → end ≤ length b → length c ≡ length b
put_keeps b at text c end p h = ap length p.holds ∙ length_splice b at text (omega (arith, p.ends))
