use mathlib.Core.Path.{◌≡◌, refl, sym, ap, ◌∙◌}
use mathlib.Core.List.{◌++◌}
use Prim.Native.Nat.{ℕ, ◌+◌, ◌*◌, ◌≤◌, ◌<◌}
use native.Mathlib.Omega.{arith}
use lib.ListN.{length}
use Rattle.base.specs.List.{list_below}
use Rattle.base.specs.Bytes.{Bytes, concat, splice}
use Rattle.base.specs.Number.{pair}
use Rattle.base.proofs.Parts.{length_joined_list, concat_list_more}
use Rattle.base.proofs.Splice.{splice_nothing, splice_append}
use Rattle.base.proofs.Words.{pair_of_number}
use Rattle.setup.specs.Setup.{slot_count}
use Rattle.block.specs.Layout.{requests_in, counted_request}
use Rattle.table.proofs.writing.put_requests.Invariants.{pairs}
use Rattle.table.proofs.writing.put_requests.Goals as goal

pairs_length : (list : Bytes) (k : ℕ) → length (pairs list k) ≡ 2 * k
pairs_length list k = length_joined_list 2 (λ slot. pair (counted_request (requests_in list) slot)) k (λ i. refl)

-- one slot more
module _ (t₀ t t' : Bytes) (at slot x : ℕ) (list : Bytes) (fits : at + 2 * slot_count ≤ length t₀) (below : slot < slot_count) where
  more : t ≡ splice t₀ at (pairs list slot) → x ≡ counted_request (requests_in list) slot → t' ≡ splice t (at + 2 * slot) (pair x)
      → t' ≡ splice t₀ at (pairs list (slot + 1))
  more e f g =
      g ∙ ap (λ (b : Bytes). splice b (at + 2 * slot) (pair x)) e
      ∙ ap (λ (n : ℕ). splice (splice t₀ at (pairs list slot)) (at + n) (pair x)) (sym (pairs_length list slot))
      ∙ splice_append t₀ at (pairs list slot) (omega arith) (pair x)
      ∙ ap (λ (n : ℕ). splice t₀ at (pairs list slot ++ pair n)) f
      ∙ ap (splice t₀ at) (sym (concat_list_more (λ slot. pair (counted_request (requests_in list) slot)) slot))

pub loop-slot-init : goal.loop-slot-init
unfolding concat list_below
loop-slot-init c = sym (splice_nothing _ c.args.at)

pub loop-slot-preserved : goal.loop-slot-preserved
loop-slot-preserved c =
    let l = c.loop-slot in
    let a = c.args in
    let n = c.counted_request-number in
    more a.table.now l.table _ a.at l.slot _ a.list.now c.requires (omega arith) l.invariant n.ensures
    (c.put.ensures ∙ ap (splice l.table (a.at + 2 * l.slot)) (c.to_be_bytes.ensures ∙ pair_of_number n.result n.type_inv))
