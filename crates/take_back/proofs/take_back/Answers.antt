-- `take_back` meets its contract: one law for each way out. Assumes nothing.
use mathlib.Core.Path.{◌≡◌, sym, ◌∙◌}
use mathlib.Core.Bool.{true}
use Prim.Native.Nat.{suc, ◌<◌}
use native.Mathlib.Omega.{arith}
use Rattle.table.specs.View.{max_places}
use Rattle.table.specs.Layout.{count_of}
use Rattle.table.specs.Form.{in_form}
use Rattle.table.proofs.InForm.{formed_places}
use Rattle.take_back.proofs.Ways.{out2, out32, out33, out0}
use Rattle.take_back.proofs.take_back.Goals as goal
use Rattle.take_back.proofs.take_back.Goals.{In-Some, In-Some-checked_sub}

-- what each test shows
formed : (c : In-Some) → in_form c.in-Some.table.now ≡ true
formed c = rw c.in-Some.ensures.table.0 c.in-Some.ensures.table.1

counted : (c : In-Some-checked_sub) → count_of c.in-Some.table.now ≡ suc c.in-Some-checked_sub.last
counted c = let h = c.in-Some-checked_sub.ensures in omega (arith, h.0, h.1, c.count_of.ensures)

place : (c : In-Some-checked_sub) → c.in-Some-checked_sub.last < max_places
place c = omega (arith, counted c, formed_places _ (formed (goal.at.In-Some-checked_sub c).In-Some))

pub returns-in_default : goal.returns-in_default
returns-in_default c = let w = out2 _ c.in_default.ensures.table in record {
  value = w.0;
  table_after = w.1;
}

pub returns-in_default-checked_sub : goal.returns-in_default-checked_sub
returns-in_default-checked_sub c =
    let w = out32 _ (formed (goal.at.returns-in_default-checked_sub c).In-Some) (omega (arith, c.in_default-checked_sub.ensures, c.count_of.ensures)) in record {
      value = rw (← c.in-Some.ensures.table.0) w.0;
      table_after = rw (← c.in-Some.ensures.table.0) w.1;
    }

pub returns-then-is_interpreted : goal.returns-then-is_interpreted
returns-then-is_interpreted c =
    let at = goal.at.returns-then-is_interpreted c in
    let w = out33 _ (formed at.In-Some) _ (counted at.In-Some-checked_sub) (sym c.is_interpreted.ensures ∙ c.if-is_interpreted.true) in record {
      value = rw (← c.in-Some.ensures.table.0) w.0;
      table_after = rw (← c.in-Some.ensures.table.0) w.1;
    }

pub returns : goal.returns
returns c =
    let at = goal.at.returns c in
    let w = out0 _ (formed at.In-Some) _ (counted at.In-Some-checked_sub) (sym c.is_interpreted.ensures ∙ c.if-is_interpreted.false) _ c.clear_last.ensures in record {
      value = rw (← c.in-Some.ensures.table.0) w.0;
      table_after = rw (← c.in-Some.ensures.table.0) w.1;
    }

pub is_interpreted-requires : goal.is_interpreted-requires
is_interpreted-requires c = place (goal.at.is_interpreted-requires c).In-Some-checked_sub

pub clear_last-requires : goal.clear_last-requires
clear_last-requires c = let at = goal.at.clear_last-requires c in (counted at.In-Some-checked_sub, place at.In-Some-checked_sub)
