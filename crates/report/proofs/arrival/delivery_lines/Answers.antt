-- `delivery_lines` meets its contract: its loop puts the lines of the slots. Assumes nothing.
use mathlib.Core.Path.{◌≡◌, ap, ◌∙◌}
use mathlib.Core.List.{◌++◌}
use Prim.Native.Nat.{ℕ, ◌+◌}
use native.Mathlib.Omega.{arith}
use lib.ListN.{length}
use Rattle.base.specs.Bytes.{Bytes, concat}
use Rattle.base.specs.List.{list_below}
use Rattle.base.proofs.Parts.{concat_list_more}
use Rattle.setup.specs.Setup.{slot_count}
use Rattle.report.specs.Listing.{delivery_lines}
use Rattle.report.proofs.arrival.delivery_lines.Invariants.{slot_text}
use Rattle.report.proofs.arrival.delivery_lines.Goals as goal

-- one slot more
more : (lines lines' text : Bytes) (of : ℕ → Bytes) (i : ℕ) → lines ≡ concat (list_below of i) → lines' ≡ lines ++ text → text ≡ of i → lines' ≡ concat (list_below of (i + 1))
more lines lines' text of i p q e = rw (concat_list_more of i) (q ∙ ap (λ (x : Bytes). x ++ text) p ∙ ap (λ (x : Bytes). concat (list_below of i) ++ x) e)

pub loop-slot-init : goal.loop-slot-init
unfolding concat list_below
loop-slot-init c = (c.new-lines.ensures, omega (arith, ap length c.new-lines.ensures))

pub loop-slot-preserved : goal.loop-slot-preserved
loop-slot-preserved c =
    let a = c.args in
    let l = c.loop-slot in
    let p = c.push_delivery.ensures in (
      more l.lines _ _ (slot_text a.records.now a.arrival a.place a.site a.sequence) l.slot l.invariant.0 p.line (rw c.delivered_in.ensures),
      omega (arith, l.invariant.1, p.size),
    )

pub returns : goal.returns
unfolding delivery_lines
returns c = let e : c.loop-slot.slot ≡ slot_count = omega arith in rw e at c.loop-slot.invariant.0
