-- `build_from` meets its contract: what each check shows, and one law for all refusals. Assumes nothing.
use mathlib.Core.Path.{◌≡◌, refl, sym, ap, ◌∙◌}
use mathlib.Core.Bool.{true, false, not}
use mathlib.Core.Logic.{◌≢◌}
use mathlib.Core.List.{List}
use Prim.Native.Nat.{ℕ, ◌<◌}
use native.Mathlib.Omega.{arith}
use lib.ListN.{length}
use borrow.Author.Tests.{ne_eqb, lt-ltb, le-ltb}
use Rattle.base.specs.Mask.{in_mask}
use Rattle.base.specs.Bytes.{Bytes}
use Rattle.base.proofs.Search.{some_found, none_found, none_first}
use Rattle.answer.specs.declared.Answer.{Answer}
use Rattle.answer.specs.Checks.{Check, refused}
use Rattle.answer.specs.Promises.{check_at, FirstHold}
use Rattle.answer.proofs.Checks.{number_of}
use Rattle.answer.proofs.Promises.{decides, past}
use Rattle.table.specs.Layout.{setup_of, view_of}
use Rattle.table.specs.Form.{in_form}
use Rattle.table.proofs.InForm.{formed_places}
use Rattle.build.specs.Building.{well_listed, next_block, building_checks, building_from, built_from}
use Rattle.build.specs.Steps.{RequestList, next_answer, next_output}
use Rattle.build.proofs.Causes.{well_listed_lem}
use Rattle.build.proofs.build_from.Goals as goal
use Rattle.build.proofs.build_from.Goals.{In-Some, In_default-first_bad, Else-forked, Else-not-well_listed, In_default-first_of_repeated_slot, Else-sites_of-site}

listed : (requests : Bytes) → well_listed requests ≡ true → RequestList requests
listed requests e = let w = (well_listed_lem requests).0 e in record { fits = w.0; whole = omega (arith, w.1) }

module _ (seen : ℕ) (t : Bytes) (p : ℕ) (requests output : Bytes) where
  abbrev checks : List Check
  checks = building_checks (in_mask seen) (in_form t) (setup_of t) (view_of t) p requests (length output)

  -- what a call promises
  abbrev Promised : Answer → Bytes → Type 0
  Promised a output' = (a ≡ building_from (in_mask seen) t p requests output) × (output' ≡ built_from (in_mask seen) t p requests output)

  refusing : (a : Answer) → a ≡ building_from (in_mask seen) t p requests output → a.refusal ≢ 0 → Promised a output
  unfolding built_from
  refusing a e n = (e, rw (← e, ne_eqb a.refusal 0 n))

  -- check k is the first that does not hold
  way_refused : (k : ℕ) → k < length checks → (check_at checks k).number ≢ 0 → FirstHold checks k → (check_at checks k).holds ≡ false
      → (a : Answer) → a ≡ refused (check_at checks k).number (check_at checks k).value → Promised a output
  unfolding building_from
  way_refused k h n passed fails a e =
      refusing a (e ∙ sym (decides checks (length (next_block (in_mask seen) (view_of t) p requests)) k h passed fails)) (λ z. n (sym (number_of e) ∙ z))

  through : FirstHold checks 6 → building_from (in_mask seen) t p requests output ≡ next_answer (in_mask seen) t p requests output
  unfolding building_from next_answer
  through e = past checks _ 6 e

  way_written : FirstHold checks 6 → (a : Answer) (output' : Bytes) → a ≡ next_answer (in_mask seen) t p requests output → output' ≡ next_output (in_mask seen) t p requests output
      → Promised a output'
  unfolding built_from next_output
  way_written passed a output' e e' = (e ∙ sym (through passed), rw (through passed) e')

-- ---- the places of the walk, and the checks that hold there

abbrev Holding : In-Some → ℕ → Type 0
Holding s k = let a = s.args in FirstHold (checks a.seen s.in-Some.table.now a.site a.requests.now a.output.now) k

formed : (c : In-Some) → Holding c 1
formed c = (tt, rw c.in-Some.ensures.0 c.in-Some.ensures.1)

site : (c : Else-sites_of-site) → Holding (goal.at.Else-sites_of-site c).In-Some 2
site c = (formed (goal.at.Else-sites_of-site c).In-Some, rw (← c.sites_of.ensures) (lt-ltb _ _ c.if-sites_of-site.false))

list : (c : Else-not-well_listed) → Holding (goal.at.Else-not-well_listed c).In-Some 3
list c = (site (goal.at.Else-not-well_listed c).Else-sites_of-site, sym c.well_listed.ensures ∙ c.if-not-well_listed.false)

good : (c : In_default-first_bad) → Holding (goal.at.In_default-first_bad c).In-Some 4
good c = (list (goal.at.In_default-first_bad c).Else-not-well_listed, ap not (none_found _ _ c.in_default-first_bad.ensures))

apart : (c : In_default-first_of_repeated_slot) → Holding (goal.at.In_default-first_of_repeated_slot c).In-Some 5
apart c = (good (goal.at.In_default-first_of_repeated_slot c).In_default-first_bad, ap not (none_found _ _ c.in_default-first_of_repeated_slot.ensures))

unforked : (c : Else-forked) → Holding (goal.at.Else-forked c).In-Some 6
unforked c = (apart (goal.at.Else-forked c).In_default-first_of_repeated_slot, ap not (sym c.forked.ensures ∙ c.if-forked.false))

pub returns-in_default : goal.returns-in_default
returns-in_default c = let a = c.args in let w = way_refused a.seen a.table.now a.site a.requests.now a.output.now 0 (omega arith) (λ z. omega arith) tt c.in_default.ensures _ refl in record {
  value = w.0;
  output_after = w.1;
}

pub returns-then-sites_of-site : goal.returns-then-sites_of-site
returns-then-sites_of-site c = let a = c.args in let w = way_refused a.seen c.in-Some.table.now a.site a.requests.now a.output.now 1 (omega arith) (λ z. omega arith) (formed (goal.at.returns-then-sites_of-site c).In-Some) (rw (← c.sites_of.ensures) (le-ltb _ _ c.if-sites_of-site.true)) _ refl in record {
  value = rw (← c.in-Some.ensures.0) w.0;
  output_after = rw (← c.in-Some.ensures.0) w.1;
}

pub returns-then-not-well_listed : goal.returns-then-not-well_listed
returns-then-not-well_listed c = let a = c.args in let w = way_refused a.seen c.in-Some.table.now a.site a.requests.now a.output.now 2 (omega arith) (λ z. omega arith) (site (goal.at.returns-then-not-well_listed c).Else-sites_of-site) (sym c.well_listed.ensures ∙ c.if-not-well_listed.true) _ refl in record {
  value = rw (← c.in-Some.ensures.0) w.0;
  output_after = rw (← c.in-Some.ensures.0) w.1;
}

pub returns-in-Some-first_bad : goal.returns-in-Some-first_bad
returns-in-Some-first_bad c = let a = c.args in let w = way_refused a.seen c.in-Some.table.now a.site a.requests.now a.output.now 3 (omega arith) (λ z. omega arith) (list (goal.at.returns-in-Some-first_bad c).Else-not-well_listed) (ap not (some_found _ _ _ c.in-Some-first_bad.ensures).0) _ (ap (refused 6) (some_found _ _ _ c.in-Some-first_bad.ensures).1) in record {
  value = rw (← c.in-Some.ensures.0) w.0;
  output_after = rw (← c.in-Some.ensures.0) w.1;
}

pub first_of_repeated_slot-requires : goal.first_of_repeated_slot-requires
first_of_repeated_slot-requires c = none_first _ _ c.in_default-first_bad.ensures

pub returns-in-Some-first_of_repeated_slot : goal.returns-in-Some-first_of_repeated_slot
returns-in-Some-first_of_repeated_slot c = let a = c.args in let w = way_refused a.seen c.in-Some.table.now a.site a.requests.now a.output.now 4 (omega arith) (λ z. omega arith) (good (goal.at.returns-in-Some-first_of_repeated_slot c).In_default-first_bad) (ap not (some_found _ _ _ c.in-Some-first_of_repeated_slot.ensures).0) _ (ap (refused 18) (some_found _ _ _ c.in-Some-first_of_repeated_slot.ensures).1) in record {
  value = rw (← c.in-Some.ensures.0) w.0;
  output_after = rw (← c.in-Some.ensures.0) w.1;
}

pub forked-requires : goal.forked-requires
forked-requires c = formed_places _ (formed (goal.at.forked-requires c).In-Some).1

pub returns-then-forked : goal.returns-then-forked
returns-then-forked c = let a = c.args in let w = way_refused a.seen c.in-Some.table.now a.site a.requests.now a.output.now 5 (omega arith) (λ z. omega arith) (apart (goal.at.returns-then-forked c).In_default-first_of_repeated_slot) (ap not (sym c.forked.ensures ∙ c.if-forked.true)) _ refl in record {
  value = rw (← c.in-Some.ensures.0) w.0;
  output_after = rw (← c.in-Some.ensures.0) w.1;
}

pub write_next-requires : goal.write_next-requires
write_next-requires c = let h = unforked (goal.at.write_next-requires c).Else-forked in
    (record { formed = h.0.0.0.0.0.1; held = formed_places _ h.0.0.0.0.0.1; unforked = sym c.forked.ensures ∙ c.if-forked.false }, listed _ h.0.0.0.1)

pub returns : goal.returns
returns c = let a = c.args in let w = way_written a.seen c.in-Some.table.now a.site a.requests.now a.output.now (unforked (goal.at.returns c).Else-forked) _ _ c.write_next.ensures.value c.write_next.ensures.output_after in record {
  value = rw (← c.in-Some.ensures.0) w.0;
  output_after = rw (← c.in-Some.ensures.0) w.1;
}
