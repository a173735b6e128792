-- The promise of arrival on five runs: its premises by computing, and what follows by the promise. Assumes nothing.
use mathlib.Core.Path.{◌≡◌, refl, sym, ap, ◌∙◌, subst}
use mathlib.Core.Bool.{Bool, true, false, ◌&&◌}
use mathlib.Core.List.{List, [], map}
use Prim.Native.Nat.{ℕ, ◌+◌, ◌-◌, ◌≤◌, ◌<◌}
use native.Mathlib.Omega.{arith}
use lib.Dec.{ltb}
use lib.ListN.{length, get_or}
use Rattle.base.specs.Bytes.{Bytes}
use Rattle.base.specs.Count.{count_below}
use Rattle.base.specs.List.{list_below, some_in}
use Rattle.base.proofs.Tests.{and_left, and_right}
use Rattle.setup.specs.Setup.{faults}
use Rattle.block.specs.Layout.{site_of}
use Rattle.records.specs.Layout.{made_offset, flatten, part_of, numbers_of}
use Rattle.history.specs.History.{meaning}
use Rattle.history.specs.Ancestry.{history_of}
use Rattle.history.specs.Forks.{forked}
use Rattle.run.specs.Ledger.{Call, Ledger, empty}
use Rattle.run.specs.Promises.{delivered_entry}
use Rattle.agreement.proofs.TwoSites.{promised}
use Rattle.arrival.specs.Full.{Full}
use Rattle.arrival.specs.Arrival.{AllInterpreted, entry_in, Premises, ArrivalPromise}
use Rattle.arrival.proofs.Theorem.{arrival}
use Rattle.cases.specs.Toy.{toy}
use Rattle.cases.specs.Run.{zero_records, calls_of, answers_of, Step, arriving}
use Rattle.cases.specs.Blocks.{sites, three_sites, four_sites, echoing, readying}
use Rattle.cases.specs.Arrival.{echoing_beside, readying_beside, echoing_after, readying_after, two_sites, AllButTwo, ledger, site, Run, NothingDelivered, Arrives, OneSiteFewer, LastNotFull, ArrivalCases}
use Rattle.cases.proofs.Toy.{toy_digest}
use Rattle.cases.proofs.LedgerRun.{told, ledger_from, ledger_left_lem, all_marked, marked_held, marked_interpreted, made_by, arriving_unretired, campaign}
use Rattle.cases.proofs.Computing.{opened_ledger}
use Rattle.cases.proofs.Premises.{lawful_setup_lem}
use Rattle.cases.proofs.ArrivalPremises.{holds, held_by, refers_to, near, chain_refers, covers, uncovered, full_site, is_full, earlier_request, first_request, is_first_lem, each, at_each, in_rounds, rounds, misses, not_full}

-- ---- the premises but two

module _ (bs : List Bytes) (among : ℕ → Bool) (A : Bytes) (set : ℕ → Bool) (first_of second_of : ℕ → Bytes) (last : Bytes) where
  unfoldable all_but_two : Bool
  all_but_two =
      full_site toy bs among 0
      && (first_request bs (sites 4) 0 42 A
      && (each (sites 4) set (full_site toy bs among)
      && in_rounds toy bs (sites 4) set A first_of second_of last))

  all_but_two_lem : uncovered toy bs among ≡ false → all_but_two ≡ true → AllButTwo bs A set last
  unfolding all_but_two
  all_but_two_lem none e =
      let is_first = is_first_lem bs (sites 4) 0 42 A (search (and_left, and_right) depth 12) in
      record {
        owner_full = is_full toy bs among none 0 (search and_left);
        is_first = is_first;
        set_full = λ p i. is_full toy bs among none p (at_each (sites 4) set (full_site toy bs among) (search (and_left, and_right) depth 12) p i);
        rounds = rounds toy bs (sites 4) set A first_of second_of last is_first.by_owner.held (search (and_left, and_right) depth 12);
      }

-- ---- a run that computes

-- all that computing one opens
unfoldable opened_run : Bool
unfolding opened_ledger some_in forked meaning numbers_of flatten holds held_by refers_to near chain_refers covers uncovered full_site earlier_request
    first_request each in_rounds all_but_two misses
opened_run = true

-- the ledger that its turns leave
abbrev left : List Step → Ledger
left steps = ledger_from (arriving 0 steps)

-- entries 3 and 39 of slot 0 are 0 in a block's meaning
abbrev NoDelivery : List Bytes → Bytes → Type 0
NoDelivery bs b = (entry_in toy (sites 4) bs 0 b delivered_entry ≡ 0) × (entry_in toy (sites 4) bs 0 b (made_offset + delivered_entry) ≡ 0)

module _ (steps : List Step) (last : Bytes) (place : ℕ)
    (answered : told (sites 4) empty (calls_of (arriving 0 steps)) (answers_of (arriving 0 steps)) ≡ answers_of (arriving 0 steps))
    (marks : all_marked (left steps) (length steps) ≡ true)
    (made : made_by (sites 4) 0 (left steps) (length steps) ≡ map (λ x. x.makes) steps)
    (there : place < length steps) (standing : (left steps).block place ≡ last) where
  abbrev calls : List Call
  calls = calls_of (arriving 0 steps)

  -- what holds of the ledger computed holds of the ledger
  of_ledger : (P : Ledger → Type 0) → P (left steps) → P (ledger steps)
  of_ledger P x = subst P (sym (ledger_left_lem (sites 4) (arriving 0 steps) lawful_setup_lem answered)) x

  all_interpreted : AllInterpreted (ledger steps)
  all_interpreted = of_ledger AllInterpreted
      (λ i h. marked_interpreted (left steps) (length steps) marks i (subst (λ (k : ℕ). i < k) (marked_held (left steps) (length steps) marks) h))

  below : place < (ledger steps).held
  below = of_ledger (λ l. place < l.held) (marked_interpreted (left steps) (length steps) marks place there).below

  last_at : (ledger steps).block place ≡ last
  last_at = of_ledger (λ l. l.block place ≡ last) standing

  none_retired : (ledger steps).retired ≡ []
  unfolding ledger_from
  none_retired = of_ledger (λ l. l.retired ≡ []) (arriving_unretired empty 0 steps)

  run : Run steps last place
  run = record {
    campaign = campaign (sites 4) 0 steps lawful_setup_lem (omega arith) answered marks made;
    all_interpreted = all_interpreted;
    last_at = last_at;
  }

  -- the part of the place is the last block's meaning
  part_is : part_of (site steps).records place ≡ meaning (sites 4) (history_of toy (ledger steps).blocks last)
  part_is =
      let keeps = (promised toy toy_digest.size (sites 4) lawful_setup_lem zero_records [] calls []).first in
      keeps.shown (keeps.unretired none_retired) place (all_interpreted place below)
      ∙ ap (λ (b : Bytes). meaning (sites 4) (history_of toy (ledger steps).blocks b)) last_at

  nothing_delivered : NoDelivery (left steps).blocks last → NothingDelivered steps last place
  nothing_delivered n =
      let z = of_ledger (λ l. NoDelivery l.blocks last) n in
      record {
        delivered = z.0;
        made = z.1;
        delivered_shown = ap (λ (part : List ℕ). get_or part delivered_entry 0) part_is ∙ z.0;
        made_shown = ap (λ (part : List ℕ). get_or part (made_offset + delivered_entry) 0) part_is ∙ z.1;
      }

  module _ (among : ℕ → Bool) (A : Bytes) (set : ℕ → Bool) (first_of second_of : ℕ → Bytes) (covered : uncovered toy (left steps).blocks among ≡ false)
      (tests : all_but_two (left steps).blocks among A set first_of second_of last ≡ true) where
    but_two : AllButTwo (ledger steps).blocks A set last
    but_two = of_ledger (λ l. AllButTwo l.blocks A set last) (all_but_two_lem (left steps).blocks among A set first_of second_of last covered tests)

    last_full : full_site toy (left steps).blocks among (site_of last) ≡ true → Full toy (ledger steps).blocks (site_of last)
    last_full e = of_ledger (λ l. Full toy l.blocks (site_of last)) (is_full toy (left steps).blocks among covered (site_of last) e)

    arrives : 4 - faults 4 ≤ count_below set 4 → full_site toy (left steps).blocks among (site_of last) ≡ true
        → (forks : List Bool) → list_below (forked (left steps).blocks) 4 ≡ forks → Arrives steps last place A set forks
    arrives enough full forks e =
        let premises : Premises toy (sites 4) (ledger steps).blocks 0 42 last = record {
          owner_full = but_two.owner_full;
          A = A;
          is_first = but_two.is_first;
          set = set;
          enough = enough;
          set_full = but_two.set_full;
          rounds = but_two.rounds;
          last_full = last_full full;
        } in
        let promise : ArrivalPromise toy (sites 4) zero_records calls = arrival toy toy_digest.size (sites 4) lawful_setup_lem zero_records calls in
        record {
          run = run;
          forked_sites = of_ledger (λ l. list_below (forked l.blocks) 4 ≡ forks) e;
          premises = premises;
          of_request = refl;
          of_set = refl;
          arrives = promise.arrives none_retired 0 42 last (omega arith) premises;
          shown = (promise.shown none_retired all_interpreted 0 42 last (omega arith) premises).stays place below last_at;
        }

    one_site_fewer : count_below set 4 + 1 ≡ 4 - faults 4 → full_site toy (left steps).blocks among (site_of last) ≡ true
        → NoDelivery (left steps).blocks last → OneSiteFewer steps last place A set
    one_site_fewer e full n =
        record { run = run; all_but_two = but_two; one_fewer = e; last_full = last_full full; nothing = nothing_delivered n }

    -- the last block is above a block to which it does not refer
    last_not_full : 4 - faults 4 ≤ count_below set 4 → (a : Bytes) → misses toy (left steps).blocks last a ≡ true
        → NoDelivery (left steps).blocks last → LastNotFull steps last place A set
    last_not_full enough a m n = record {
      run = run;
      all_but_two = but_two;
      enough = enough;
      not_full = of_ledger (λ l. Full toy l.blocks (site_of last) → ⊥) (not_full toy (left steps).blocks last a m);
      nothing = nothing_delivered n;
    }

-- ---- the five runs

pub arrival_cases : ArrivalCases
unfolding opened_run
arrival_cases =
    record {
      all_full = arrives _ _ 12 refl refl refl (omega arith) refl (λ p. true) _ _ echoing (readying four_sites) refl refl
          (omega arith) refl _ refl;
      one_forked = arrives _ _ 9 refl refl refl (omega arith) refl (λ p. true) _ _ echoing_beside readying_beside refl refl
          (omega arith) refl _ refl;
      owner_outside = arrives _ _ 8 refl refl refl (omega arith) refl (λ p. true) _ _ echoing_after readying_after refl refl
          (omega arith) refl _ refl;
      one_site_fewer = one_site_fewer _ _ 5 refl refl refl (omega arith) refl (λ p. true) _ _ echoing (readying two_sites) refl refl
          refl refl (refl, refl);
      last_not_full = last_not_full _ _ 8 refl refl refl (omega arith) refl (λ p. ltb p 3) _ _ echoing (readying three_sites) refl refl
          (omega arith) (readying three_sites 0) refl (refl, refl);
    }
