-- The group and the print of a place's digest: both are in range, and a digest whose print no lower place has in its group is held by no lower place.
-- Assumes nothing.
use mathlib.Core.Path.{◌≡◌, sym, ap, ◌∙◌}
use mathlib.Core.Bool.{false}
use Prim.Native.Nat.{ℕ, ◌+◌, ◌%◌, ◌<◌}
use native.Mathlib.Nat.{mod-lt}
use native.Mathlib.Omega.{arith}
use lib.Dec.{lit<}
use lib.ListN.{get_or, drop}
use lib.Seq.{get_or-take, get_or-drop}
use Rattle.base.specs.Bytes.{Bytes}
use Rattle.base.specs.Search.{any_below}
use Rattle.base.specs.Mask.{in_mask}
use Rattle.base.specs.Steps.{print_count}
use Rattle.base.proofs.Search.{any_false}
use Rattle.base.proofs.Prints.{new_print}
use Rattle.base.proofs.Bytes.{other_same}
use Rattle.block.specs.Limits.{reference_size}
use Rattle.table.specs.Layout.{row_start, digest_at, view_of}
use Rattle.table.specs.Rules.{has_digest}
use Rattle.table.specs.Steps.{group_count, group_at, print_at, prints_met}

pub group_lt : (t : Bytes) (i : ℕ) → group_at t i < group_count
group_lt t i = mod-lt (get_or t (row_start i) 0) (lit< tt)

pub print_lt : (t : Bytes) (i : ℕ) → print_at t i < print_count
print_lt t i = mod-lt (get_or t (row_start i + 1) 0) (lit< tt)

-- equal digests have their bytes in common
module _ (t : Bytes) (i j : ℕ) (e : digest_at t j ≡ digest_at t i) where
  byte_same : (n : ℕ) → n < reference_size → get_or t (row_start j + n) 0 ≡ get_or t (row_start i + n) 0
  byte_same n h =
      sym (get_or-drop (row_start j) t n 0) ∙ sym (get_or-take reference_size (drop (row_start j) t) n 0 h)
      ∙ ap (λ (d : Bytes). get_or d n 0) e ∙ get_or-take reference_size (drop (row_start i) t) n 0 h ∙ get_or-drop (row_start i) t n 0

  first_same_lem : get_or t (row_start j) 0 ≡ get_or t (row_start i) 0
  first_same_lem = ap (λ (n : ℕ). get_or t n 0) (begin j) ∙ byte_same 0 (omega arith) ∙ sym (ap (λ (n : ℕ). get_or t n 0) (begin i))
    where
      begin : (i : ℕ) → row_start i ≡ row_start i + 0
      begin i = omega arith

pub new_digest : (t : Bytes) (i : ℕ) → in_mask (prints_met t i) (print_at t i) ≡ false → any_below (has_digest (view_of t) (digest_at t i)) i ≡ false
new_digest t i n = any_false (has_digest (view_of t) (digest_at t i)) i
    (λ j h. other_same (digest_at t j) (digest_at t i) (λ e. new_print (group_at t) (print_at t) i (print_lt t i) n j h
    (ap (λ (x : ℕ). x % group_count) (first_same_lem t i j e)) (ap (λ (x : ℕ). x % print_count) (byte_same t i j e 1 (omega arith)))))
