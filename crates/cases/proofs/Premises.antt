-- The theorem's premises hold of two runs, by computing, and so does what it says of them. Assumes nothing.
use mathlib.Core.Path.{◌≡◌, refl, sym, subst}
use mathlib.Core.Bool.{Bool, true, false, not, ◌&&◌}
use mathlib.Core.Logic.{inl}
use mathlib.Core.List.{List}
use native.Mathlib.Omega.{arith}
use Rattle.base.specs.Bytes.{Bytes, same_bytes}
use Rattle.base.specs.List.{some_in}
use Rattle.base.proofs.Tests.{by_test, true_not_false}
use Rattle.base.proofs.List.{some_at_lem}
use Rattle.base.proofs.Bytes.{same_equal, equal_same}
use Rattle.setup.specs.Setup.{lawful}
use Rattle.records.specs.Layout.{flatten, numbers_of}
use Rattle.history.specs.History.{meaning}
use Rattle.history.specs.Forks.{forked, NoCollision}
use Rattle.run.specs.Ledger.{Ledger, empty}
use Rattle.agreement.specs.TwoSites.{TwoSites}
use Rattle.agreement.proofs.TwoSites.{promised}
use Rattle.cases.specs.Toy.{toy}
use Rattle.cases.specs.Run.{calls_of, answers_of}
use Rattle.cases.specs.Blocks.{sites}
use Rattle.cases.specs.Premises.{first_turns, second_turns, first_buffer, second_buffer, first_ledger, second_ledger, PremisesMet, ForkedCases, PremiseCases}
use Rattle.cases.proofs.Toy.{toy_digest}
use Rattle.cases.proofs.LedgerRun.{told, ledger_from, whole, answers_told, ledger_told}
use Rattle.cases.proofs.Computing.{opened_ledger}

-- ---- a test of all pairs shows that no two different blocks share a digest

unfoldable pub collision : List Bytes → Bool
collision blocks = some_in (λ a. some_in (λ b. same_bytes (toy a) (toy b) && not (same_bytes a b)) blocks) blocks

pub no_collision : (blocks : List Bytes) → collision blocks ≡ false → NoCollision toy blocks
unfolding collision
no_collision blocks n a b m k e = by_test (same_bytes a b) (λ y. same_equal a b y)
    (λ z. true_not_false (some_at_lem _ blocks a m (some_at_lem _ blocks b k (rw (equal_same (toy a) (toy b) e, z)))) n)

-- ---- the two ledgers

met : PremisesMet (ledger_from first_turns) (ledger_from second_turns)
unfolding opened_ledger collision some_in forked meaning numbers_of flatten
met =
    record {
      no_collision = no_collision _ refl;
      few_forked = omega arith;
      most_forked = refl;
      forked_in_both = refl;
      forked_in_first = refl;
      first_delivers = record { block = (ledger_from first_turns).block 7; is_interpreted = inl (7, record { below = omega arith; mark = refl }, refl); not_zero = λ e. omega arith; entry = refl };
      second_delivers = record { block = (ledger_from second_turns).block 10; is_interpreted = inl (10, record { below = omega arith; mark = refl }, refl); not_zero = λ e. omega arith; entry = refl };
      first_interpreted = record { below = omega arith; mark = refl };
      second_interpreted = record { below = omega arith; mark = refl };
      same_block = refl;
    }

-- each call gets its answer where the earlier ones do
first_told : told (sites 4) empty (calls_of first_turns) (answers_of first_turns) ≡ answers_of first_turns
unfolding opened_ledger
first_told = refl

second_told : told (sites 4) empty (calls_of second_turns) (answers_of second_turns) ≡ answers_of second_turns
unfolding opened_ledger
second_told = refl

pub lawful_setup_lem : lawful (sites 4) ≡ true
unfolding opened_ledger
lawful_setup_lem = refl

first_is : first_ledger ≡ ledger_from first_turns
unfolding ledger_from
first_is = ledger_told (sites 4) lawful_setup_lem first_buffer (whole 0) (calls_of first_turns) (answers_of first_turns) first_told

second_is : second_ledger ≡ ledger_from second_turns
unfolding ledger_from
second_is = ledger_told (sites 4) lawful_setup_lem second_buffer (whole 7) (calls_of second_turns) (answers_of second_turns) second_told

met_by_both : PremisesMet first_ledger second_ledger
met_by_both =
    subst (λ (l : Ledger). PremisesMet l second_ledger) (sym first_is) (subst (λ (l : Ledger). PremisesMet (ledger_from first_turns) l) (sym second_is) met)

-- ---- the theorem

theorem : TwoSites toy (sites 4) first_buffer second_buffer (calls_of first_turns) (calls_of second_turns)
theorem = promised toy toy_digest.size (sites 4) lawful_setup_lem first_buffer second_buffer (calls_of first_turns) (calls_of second_turns)

pub forked_cases : ForkedCases
unfolding opened_ledger some_in forked
forked_cases = record { other_high_byte = refl; both_bytes = refl }

pub premises : PremiseCases
premises =
    record {
      first_answers = answers_told (sites 4) lawful_setup_lem first_buffer (whole 0) (calls_of first_turns) (answers_of first_turns) first_told;
      second_answers = answers_told (sites 4) lawful_setup_lem second_buffer (whole 7) (calls_of second_turns) (answers_of second_turns) second_told;
      lawful_setup = lawful_setup_lem;
      met = met_by_both;
      one_number = λ v w. theorem.agreement met_by_both.no_collision met_by_both.few_forked 0 v w (omega arith);
      same_part = theorem.same met_by_both.no_collision 5 8 met_by_both.first_interpreted met_by_both.second_interpreted met_by_both.same_block;
    }
