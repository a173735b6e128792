use native.Mathlib.Omega.{arith}
use mathlib.Core.Path.{◌≡◌, sym, ap, ◌∙◌}
use Prim.Native.Nat.{ℕ, ◌+◌, ◌*◌, ◌%◌, ◌^◌, ◌<◌, ◌/◌}
use lib.Bits.{bit_or}
use lib.Dec.{eqb}
use lib.ListN.{length}
use Rattle.base.specs.Search.{any_below}
use Rattle.base.specs.Mask.{in_mask}
use Rattle.base.specs.Bytes.{Bytes}
use Rattle.base.proofs.Search.{first_none, first_past, first_before, found_first}
use Rattle.base.proofs.Sets.{mask_has, some_none, some_put}
use Rattle.setup.specs.Setup.{slot_count}
use Rattle.block.specs.Limits.{request_size}
use Rattle.block.specs.Layout.{request_at}
use Rattle.block.specs.Reading.{bad_request_at, slot_repeated_at}
use Rattle.block.specs.Steps.{NoneBad, slots_met}
use Rattle.block.specs.declared.Request.{Request}
use Rattle.block.proofs.RequestCheck.{slot_within}
use Rattle.block.proofs.requests.first_of_repeated_slot.Goals as goal
use Rattle.block.proofs.requests.first_of_repeated_slot.Goals.{After-in_mask, After-from-slot}

-- request i, and the mask of the slots before it; the code has the request in q and its slot in s
module _ (list : Bytes) (n : NoneBad list) (i : ℕ) (h : i < length list / request_size) (q : Request) (e : q ≡ request_at list i) (s : ℕ) (es : s ≡ q.slot) where
  is_slot : s ≡ (request_at list i).slot
  is_slot = es ∙ ap (λ (x : Request). x.slot) e

  below : s < slot_count
  below = omega (arith, is_slot, slot_within (request_at list i) (first_before (bad_request_at list) (length list / request_size) i (omega arith)))

  met_before : in_mask (slots_met list i) s ≡ slot_repeated_at list i
  met_before = rw (← is_slot) (mask_has (λ slot. any_below (λ j. eqb (request_at list j).slot slot) i) slot_count s below)

  one_more_lem : bit_or (slots_met list i) (1 * 2 ^ s % 2 ^ 64) ≡ slots_met list (i + 1)
  one_more_lem = some_put (λ slot j. eqb (request_at list j).slot slot) 64 slot_count i s (omega arith) below (λ slot l. ap (λ (x : ℕ). eqb x slot) is_slot)

pub loop-i-init : goal.loop-i-init
loop-i-init c = (c.requires, some_none _ slot_count, first_none _)

within : (c : After-from-slot) → c.from-slot.result < slot_count
within c = let l = c.loop-i in below _ l.invariant.0 l.i (omega arith) _ c.request.ensures _ c.from-slot.ensures

-- what the test of a turn shows
tested : (c : After-in_mask) → slot_repeated_at c.args.list.now c.loop-i.i ≡ c.in_mask.result
tested c =
    let l = c.loop-i in
    sym (met_before _ l.invariant.0 l.i (omega arith) _ c.request.ensures _ c.from-slot.ensures)
    ∙ ap (λ (m : ℕ). in_mask m c.from-slot.result) (sym l.invariant.1) ∙ sym c.in_mask.ensures

pub returns-then-in_mask : goal.returns-then-in_mask
returns-then-in_mask c =
    let l = c.loop-i in
    found_first _ _ l.i (omega arith) l.invariant.2 (tested (goal.at.returns-then-in_mask c).After-in_mask ∙ c.if-in_mask.true)

pub loop-i-preserved : goal.loop-i-preserved
loop-i-preserved c =
    let l = c.loop-i in (
      l.invariant.0,
      rw l.invariant.1 (one_more_lem _ l.invariant.0 l.i (omega arith) _ c.request.ensures _ c.from-slot.ensures),
      first_past _ l.i l.invariant.2 (tested (goal.at.loop-i-preserved c).After-in_mask ∙ c.if-in_mask.false),
    )

pub in_mask-requires : goal.in_mask-requires
in_mask-requires c = omega (arith, within (goal.at.in_mask-requires c).After-from-slot)

pub overflow_shl-met : goal.overflow_shl-met
overflow_shl-met c = omega (arith, within (goal.at.overflow_shl-met c).After-from-slot)
