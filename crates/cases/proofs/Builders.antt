-- A site builds by the building rule, by computing, and so it is full, by the theorem; one that has retired something is not. Assumes nothing.
use mathlib.Core.Path.{◌≡◌, refl, ap, ◌∙◌}
use mathlib.Core.Bool.{Bool, true, false, not, ◌&&◌}
use mathlib.Core.List.{List, [], ◌∷◌, ◌++◌, Memᴰ}
use Prim.Native.Nat.{ℕ}
use lib.Dec.{eqb}
use lib.ListN.{length, take}
use borrow.Author.Tests.{eqb-true, eq-eqb}
use Rattle.base.specs.Bytes.{Bytes, same_bytes}
use Rattle.base.specs.List.{some_in}
use Rattle.base.proofs.Tests.{by_test, true_not_false, and_left, and_right}
use Rattle.base.proofs.List.{some_at_lem}
use Rattle.base.proofs.Bytes.{same_equal}
use Rattle.block.specs.Limits.{block_size}
use Rattle.block.specs.Layout.{site_of}
use Rattle.table.specs.Layout.{with_mark}
use Rattle.table.specs.Writing.{moved_bytes, move_down}
use Rattle.table.specs.Fresh.{fresh_table}
use Rattle.admission.specs.Admission.{admission, admitted}
use Rattle.take_back.specs.TakingBack.{taken_back}
use Rattle.interpret.specs.Interpretation.{interpretation, marked}
use Rattle.interpret.proofs.Promises as interpreting
use Rattle.retire.specs.Retiring.{retiring, retired_table}
use Rattle.retire.proofs.Promises as retired
use Rattle.build.specs.Building.{building, built}
use Rattle.history.specs.Forks.{forked, NoCollision}
use Rattle.run.specs.Ledger.{Call, admit, interpret, retire, take_back, Ledger}
use Rattle.run.specs.Run.{Site, started, site_answer, site_step}
use Rattle.arrival.specs.Full.{BlockBy, Full}
use Rattle.arrival.specs.Building.{OwnIsBuilt, BuildsByRule, BuildersFull}
use Rattle.arrival.proofs.Building.{builders_full}
use Rattle.cases.specs.Toy.{toy}
use Rattle.cases.specs.Run.{zero_records, calls_of, ledger_left}
use Rattle.cases.specs.Blocks.{sites, first}
use Rattle.cases.specs.Building.{room}
use Rattle.cases.specs.Builders.{built_too_early, first_built, next_built, own_turns, other_turns, built_late, late_turns, BuilderCases}
use Rattle.cases.proofs.Toy.{toy_digest}
use Rattle.cases.proofs.LedgerRun.{session, ledger_from, ledger_left_lem}
use Rattle.cases.proofs.Computing.{opened_ledger, opened_watch}
use Rattle.cases.proofs.Premises.{collision, no_collision, lawful_setup_lem}
use Rattle.cases.proofs.ArrivalPremises.{holds, is_held, refers_to, near, misses, not_full}

-- ---- building

-- a test that is made only where another passes
passes_where : (t x : Bool) → elim t [ true ↦ x | false ↦ true ] ≡ true → t ≡ true → x ≡ true
passes_where true x e y = e
passes_where false x e y = true_not_false y refl

module _ (p : ℕ) (requests output : Bytes) where
  -- block b is what site p builds from the table with these requests
  unfoldable writes : Bytes → Bytes → Bool
  writes t b = eqb (building t p requests output).refusal 0 && same_bytes (take (building t p requests output).value (built t p requests output)) b

  -- if it is a block of site p, and is admitted
  unfoldable admitted_own : Bytes → Bytes → ℕ → Bool
  admitted_own t b verdict = eqb (site_of b) p && eqb (admission toy t b verdict).refusal 0

  unfoldable kept : Bytes → Bytes → ℕ → Bool
  kept t b verdict = elim (admitted_own t b verdict) [ true ↦ writes t b | false ↦ true ]

  -- and so for each block that is brought, from the table as it stands. What the records are is no matter, but how many they are
  unfoldable all_kept : Bytes → List Call → Bool
  all_kept t [] = true
  all_kept t (admit b verdict ∷ cs) = kept t b verdict && all_kept (admitted toy t b verdict) cs
  all_kept t (interpret place ∷ cs) = all_kept (marked t zero_records place) cs
  all_kept t (retire ∷ cs) = all_kept (retired_table t zero_records) cs
  all_kept t (take_back ∷ cs) = all_kept (taken_back t) cs

  is_built : (x : Site) (b : Bytes) (verdict : ℕ) → kept x.table b verdict ≡ true → OwnIsBuilt toy p x (admit b verdict)
  unfolding writes admitted_own kept site_answer OwnIsBuilt
  is_built x b verdict e own passes =
      let asked : admitted_own x.table b verdict ≡ true = rw (eq-eqb (site_of b) p own, eq-eqb (admission toy x.table b verdict).refusal 0 passes) refl in
      let y = passes_where (admitted_own x.table b verdict) (writes x.table b) e asked in
      record { requests = requests; output = output; success = eqb-true _ _ (search and_left); writes = same_equal _ _ (search and_right) }

  marked_same : (x : Site) → length x.records ≡ length zero_records → (place : ℕ) → marked x.table x.records place ≡ marked x.table zero_records place
  unfolding interpretation marked
  marked_same x w place = rw w

  retired_same : (x : Site) → length x.records ≡ length zero_records → retired_table x.table x.records ≡ retired_table x.table zero_records
  unfolding retiring retired_table
  retired_same x w = rw w

  by_rule : (x : Site) (cs : List Call) → length x.records ≡ length zero_records → all_kept x.table cs ≡ true → BuildsByRule toy p x cs
  unfolding all_kept site_step OwnIsBuilt BuildsByRule
  by_rule x [] w e = tt
  by_rule x (admit b verdict ∷ cs) w e =
      (is_built x b verdict (and_left (kept x.table b verdict) _ e), by_rule (site_step toy x (admit b verdict)) cs w (and_right (kept x.table b verdict) _ e))
  by_rule x (interpret place ∷ cs) w e =
      (tt, by_rule (site_step toy x (interpret place)) cs ((interpreting.promises).sized x.table x.records place ∙ w) (rw (marked_same x w place) e))
  by_rule x (retire ∷ cs) w e = (tt, by_rule (site_step toy x retire) cs ((retired.promises).sized x.table x.records ∙ w) (rw (retired_same x w) e))
  by_rule x (take_back ∷ cs) w e = (tt, by_rule (site_step toy x take_back) cs w e)

own_by_rule : BuildsByRule toy 1 (started (sites 4) zero_records) (calls_of own_turns)
unfolding opened_watch fresh_table built_too_early first_built next_built own_turns writes admitted_own kept all_kept
own_by_rule = by_rule 1 (3 ∷ 0 ∷ 7 ∷ []) (room (block_size 4 1)) (started (sites 4) zero_records) (calls_of own_turns) refl refl

late_by_rule : BuildsByRule toy 1 (started (sites 4) zero_records) (calls_of late_turns)
unfolding opened_watch fresh_table marked with_mark moved_bytes move_down retired_table built_late late_turns writes admitted_own kept all_kept
late_by_rule = by_rule 1 [] (room (block_size 1 0)) (started (sites 4) zero_records) (calls_of late_turns) refl refl

-- ---- two ledgers

-- a block of site p in the second list is missing in the first
unfoldable unknown : ℕ → List Bytes → List Bytes → Bool
unknown p bs cs = some_in (λ b. eqb (site_of b) p && not (holds bs b)) cs

all_known : (p : ℕ) (bs cs : List Bytes) → unknown p bs cs ≡ false → (b : Bytes) → BlockBy cs p b → Memᴰ b bs
unfolding unknown
all_known p bs cs none b x = by_test (holds bs b) (λ y. is_held bs b y)
    (λ n. true_not_false (some_at_lem _ cs b x.held (rw (eq-eqb (site_of b) p x.by_site, n) refl)) none)

-- all else that computing the two runs opens
unfoldable opened_builders : Bool
unfolding opened_ledger built_too_early first_built next_built own_turns other_turns collision some_in holds unknown
opened_builders = true

own_is : ledger_left (sites 4) own_turns ≡ ledger_from own_turns
unfolding opened_builders
own_is = ledger_left_lem (sites 4) own_turns lawful_setup_lem refl

other_is : ledger_left (sites 4) other_turns ≡ ledger_from other_turns
unfolding opened_builders
other_is = ledger_left_lem (sites 4) other_turns lawful_setup_lem refl

no_collisions : NoCollision toy ((ledger_left (sites 4) own_turns).blocks ++ (ledger_left (sites 4) other_turns).blocks)
unfolding opened_builders
no_collisions = rw (own_is, other_is) (no_collision ((ledger_from own_turns).blocks ++ (ledger_from other_turns).blocks) refl)

known : (b : Bytes) → BlockBy (ledger_left (sites 4) other_turns).blocks 1 b → Memᴰ b (ledger_left (sites 4) own_turns).blocks
unfolding opened_builders
known = rw (own_is, other_is) (all_known 1 (ledger_from own_turns).blocks (ledger_from other_turns).blocks refl)

none_retired : (ledger_left (sites 4) own_turns).retired ≡ []
unfolding opened_builders
none_retired = ap (λ (l : Ledger). l.retired) own_is

-- ---- a third, with a block retired

unfoldable opened_late : Bool
unfolding opened_ledger built_late late_turns some_in forked holds refers_to near misses
opened_late = true

late_not_full : Full toy (ledger_left (sites 4) late_turns).blocks 1 → ⊥
unfolding opened_late
late_not_full = rw (ledger_left_lem (sites 4) late_turns lawful_setup_lem refl) (not_full toy (ledger_from late_turns).blocks built_late first refl)

-- ---- what the theorem on builders says of them

theorem : BuildersFull toy (sites 4) zero_records zero_records (calls_of own_turns) (calls_of other_turns) 1
theorem = builders_full toy toy_digest.size (sites 4) lawful_setup_lem zero_records zero_records (calls_of own_turns) (calls_of other_turns) 1

pub builder_cases : BuilderCases
unfolding opened_builders opened_late
builder_cases =
    record {
      builder_full = record { taken = session (sites 4) own_turns lawful_setup_lem refl; by_rule = own_by_rule; full = theorem.here none_retired own_by_rule };
      full_elsewhere = record {
        taken = session (sites 4) other_turns lawful_setup_lem refl;
        no_collision = no_collisions;
        known = known;
        full = theorem.elsewhere none_retired own_by_rule no_collisions known;
      };
      builder_late = record { taken = session (sites 4) late_turns lawful_setup_lem refl; by_rule = late_by_rule; not_full = late_not_full };
    }
