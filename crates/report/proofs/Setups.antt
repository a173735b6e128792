-- The setup of an input: whether the empty table is made, by its length and by whether it is lawful. Assumes nothing.
use mathlib.Core.Path.{◌≡◌}
use mathlib.Core.Bool.{true, false}
use mathlib.Core.Logic.{◌≢◌}
use Prim.Native.Nat.{◌<◌}
use native.Mathlib.Omega.{arith}
use lib.ListN.{length, drop, length-take, length-drop}
use borrow.Author.Tests.{eq-eqb, ne_eqb}
use Rattle.base.specs.Bytes.{Bytes}
use Rattle.base.proofs.Tests.{not_true_false}
use Rattle.answer.specs.Checks.{answer_to}
use Rattle.setup.specs.Setup.{Setup, lawful, slot_count}
use Rattle.setup.proofs.Thresholds.{eight_owners}
use Rattle.table.specs.Layout.{table_size}
use Rattle.table.specs.Fresh.{fresh_table, fresh_answer, fresh_in}
use Rattle.report.specs.Arrivals.{setup_size, setup_in}

-- a short one has too few owners
pub short_unlawful : (piece : Bytes) → length piece < setup_size → lawful (setup_in piece) ≡ false
short_unlawful piece short =
    not_true_false (lawful (setup_in piece))
    (λ law. omega (arith, eight_owners (setup_in piece) law, length-take slot_count (drop 1 piece), length-drop 1 piece))

module _ (s : Setup) (t : Bytes) where
  pub unlawful_refused : lawful s ≡ false → (fresh_answer s t).refusal ≡ 1
  unfolding fresh_answer answer_to
  unlawful_refused law = rw law

  -- the lent table is left as it was
  pub refused_kept : (fresh_answer s t).refusal ≢ 0 → fresh_in s t ≡ t
  unfolding fresh_in
  refused_kept some = rw (ne_eqb (fresh_answer s t).refusal 0 some)

  module _ (law : lawful s ≡ true) (sized : length t ≡ table_size) where
    pub lawful_made : (fresh_answer s t).refusal ≡ 0
    unfolding fresh_answer answer_to
    lawful_made = rw (law, eq-eqb (length t) table_size sized)

    pub table_made : fresh_in s t ≡ (fresh_table s).table
    unfolding fresh_in fresh_table
    table_made = rw (lawful_made, law)
