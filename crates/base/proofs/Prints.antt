-- Laws of prints: what one number more adds to the masks, and that a number whose print was not met in its group has a key that no earlier number
-- has. Assumes nothing.
use mathlib.Core.Path.{◌≡◌, refl, sym, ap₂, ◌∙◌}
use mathlib.Core.Bool.{false, ◌&&◌}
use mathlib.Core.Logic.{◌≢◌}
use mathlib.Core.List.{List}
use Prim.Native.Nat.{ℕ, ◌+◌, ◌*◌, ◌%◌, ◌^◌, ◌<◌}
use native.Mathlib.Omega.{arith}
use lib.Bits.{bit_or}
use lib.ListN.{get_or, set}
use borrow.Author.Tests.{eq-eqb, ne_eqb}
use Rattle.base.specs.Search.{any_below}
use Rattle.base.specs.Mask.{in_mask}
use Rattle.base.specs.Steps.{print_count, has_print, prints_below, groups_below}
use Rattle.base.proofs.Tests.{true_not_false}
use Rattle.base.proofs.Search.{any_false_at}
use Rattle.base.proofs.Sets.{mask_has, some_put, some_skip}
use Rattle.base.proofs.List.{list_at, set_list}

module _ (group print : ℕ → ℕ) where
  -- number k more, in its own group and in another
  module _ (k : ℕ) where
    print_put : print k < print_count → bit_or (prints_below group print k (group k)) (1 * 2 ^ print k % 2 ^ 64) ≡ prints_below group print (k + 1) (group k)
    print_put l = some_put (has_print group print (group k)) 64 print_count k (print k) (omega arith) l (λ p m. rw (eq-eqb (group k) (group k) refl))

    print_skip : (g : ℕ) → g ≢ group k → prints_below group print k g ≡ prints_below group print (k + 1) g
    print_skip g n = some_skip (has_print group print g) print_count k (λ p m. rw (ne_eqb (group k) g (λ e. n (sym e))))

    -- the mask of its group, and one print more in it
    module _ (groups : ℕ) (masks : List ℕ) (l : group k < groups) (e : masks ≡ groups_below group print groups k) where
      pub group_mask : get_or masks (group k) 0 ≡ prints_below group print k (group k)
      group_mask = rw e (list_at (prints_below group print k) groups (group k) 0 l)

      pub group_more : (g p : ℕ) → g ≡ group k → p ≡ print k → print k < print_count
          → set masks g (bit_or (get_or masks g 0) (1 * 2 ^ p % 2 ^ 64)) ≡ groups_below group print groups (k + 1)
      group_more g p eg ep h =
          rw (eg, ep, group_mask, e)
          (set_list (prints_below group print k) (prints_below group print (k + 1)) groups (group k) _ l (print_put h) print_skip)

  -- a lower number has another group or another print
  pub new_print : (i : ℕ) → print i < print_count → in_mask (prints_below group print i (group i)) (print i) ≡ false
      → (j : ℕ) → j < i → group j ≡ group i → print j ≡ print i → ⊥
  new_print i l n j h g p = true_not_false
      (ap₂ ◌&&◌ (eq-eqb (group j) (group i) g) (eq-eqb (print j) (print i) p))
      (any_false_at (has_print group print (group i) (print i)) i
      (sym (mask_has (λ p. any_below (has_print group print (group i) p) i) print_count (print i) l) ∙ n) j h)
