-- A fresh table is refused under its cause and under no other; else it shows its setup and no block. Assumes nothing.
use mathlib.Core.Path.{◌≡◌, refl, sym, ap, subst}
use mathlib.Core.Bool.{true, false}
use mathlib.Core.Logic.Iff
use mathlib.Core.Logic.{◌↔◌}
use mathlib.Core.List.{List, [], ◌∷◌}
use Prim.Native.Nat.{ℕ}
use native.Mathlib.Omega.{arith}
use lib.Dec.{eqb}
use lib.ListN.{length, replicate}
use borrow.Author.Tests.{eqb-true, eqb-false, eq-eqb, ne_eqb}
use Rattle.base.specs.List.{some_in}
use Rattle.base.specs.Bytes.{Bytes}
use Rattle.base.proofs.Tests.{by_test}
use Rattle.answer.specs.Promises.{elsewhere, different, Decided}
use Rattle.answer.specs.Checks.{Check, check}
use Rattle.answer.proofs.Checks.{valued_only, no_value}
use Rattle.answer.proofs.Promises.{first_refused, second_refused, decided}
use Rattle.setup.specs.Setup.{Setup, lawful}
use Rattle.table.specs.Layout.{table_size}
use Rattle.table.specs.Fresh.{empty_table, fresh_table, fresh_answer, fresh_in}
use Rattle.table.specs.Promises.{Empty, FreshCauses, FreshInCauses}
use Rattle.table.specs.declared.FreshTable.{FreshTable}
use Rattle.table.proofs.InForm.{in_formed}
use Rattle.table.proofs.Empty.{empty_shows, empty_formed}

module _ (s : Setup) where
  pub empty : lawful s ≡ true → Empty s (empty_table s)
  empty law = record { formed = in_formed _ (empty_formed s law); setup = (empty_shows s law).0; retired = (empty_shows s law).1; count = (empty_shows s law).2 }

  abbrev unlawful : FreshTable
  unlawful = record { refusal = 1; table = replicate table_size 0 }

  abbrev made : FreshTable
  made = record { refusal = 0; table = empty_table s }

  is_unlawful : lawful s ≡ false → fresh_table s ≡ unlawful
  unfolding fresh_table
  is_unlawful n = rw n

  is_made : lawful s ≡ true → fresh_table s ≡ made
  unfolding fresh_table
  is_made y = rw y

  -- what holds on both ways holds of the answer
  by_way : (P : FreshTable → Type 0) → (lawful s ≡ false → P unlawful) → (lawful s ≡ true → P made) → P (fresh_table s)
  by_way P w1 w0 = by_test (lawful s) (λ y. subst P (sym (is_made y)) (w0 y)) (λ n. subst P (sym (is_unlawful n)) (w1 n))

  pub fresh : FreshCauses s
  fresh =
      record {
        one = (by_way (λ r. r.refusal ≡ 1 → lawful s ≡ false) (λ n _. n) (λ y e. absurd (omega arith)), λ n. ap (λ (r : FreshTable). r.refusal) (is_unlawful n));
        none = (by_way (λ r. r.refusal ≡ 0 → lawful s ≡ true) (λ n e. absurd (omega arith)) (λ y _. y), λ y. ap (λ (r : FreshTable). r.refusal) (is_made y));
        zeros = by_way (λ r. r.refusal ≡ 1 → r.table ≡ replicate table_size 0) (λ n _. refl) (λ y e. absurd (omega arith));
        shown = by_way (λ r. r.refusal ≡ 0 → Empty s r.table) (λ n e. absurd (omega arith)) (λ y _. empty y);
      }

  module _ (t : Bytes) where
    abbrev number : ℕ
    number = (fresh_answer s t).refusal

    abbrev checks : List Check
    checks = check 1 (lawful s) 0 ∷ check 2 (eqb (length t) table_size) 0 ∷ []

    told : Decided (fresh_answer s t) checks 0
    unfolding fresh_answer different elsewhere
    told = decided checks 0 refl

    none : (number ≡ 0) ↔ ((lawful s ≡ true) × (length t ≡ table_size))
    none = Iff.trans told.none (Iff.and (λ p. p.1, λ e. (tt, e)) (eqb-true _ _, eq-eqb _ _))

    pub fresh_in_lem : FreshInCauses s t
    unfolding fresh_answer fresh_in valued_only some_in
    fresh_in_lem =
        record {
          one = first_refused told;
          two = Iff.trans (second_refused told) (Iff.and Iff.rfl (eqb-false _ _, ne_eqb _ _));
          none = none;
          no_value = no_value [] checks 0 refl refl;
          refused = λ n. rw (ne_eqb number 0 n);
          shown = λ e. rw (eq-eqb number 0 e) (empty (none.0 e).0);
        }
