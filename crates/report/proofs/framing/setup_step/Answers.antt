-- `setup_step` meets its contract, one way out after the other. Assumes nothing.
use mathlib.Core.Path.{◌≡◌, sym, ap, ◌∙◌}
use mathlib.Core.Logic.{◌≢◌}
use mathlib.Core.List.{◌++◌}
use Prim.Native.Nat.{ℕ, ◌<◌}
use native.Mathlib.Omega.{arith}
use lib.ListN.{length}
use Rattle.base.specs.Bytes.{Bytes}
use Rattle.answer.proofs.Checks.{number_of}
use Rattle.answer.proofs.Refusals.{numbered}
use Rattle.table.specs.Fresh.{fresh_answer}
use Rattle.report.specs.Text.{names, setup_line}
use Rattle.report.specs.Arrivals.{setup_size, setup_in}
use Rattle.report.specs.Framing.{outcome_of, setup_step, handed}
use Rattle.report.specs.declared.Expected.TheVariants.{End}
use Rattle.report.proofs.Setups.{short_unlawful, unlawful_refused, refused_kept}
use Rattle.report.proofs.Ways.{setup_refused, setup_made}
use Rattle.report.proofs.framing.setup_step.Goals as goal

-- a piece that is too short
module _ (table piece : Bytes) (short : length piece < setup_size) where
  one : (fresh_answer (setup_in piece) table).refusal ≡ 1
  one = unlawful_refused (setup_in piece) table (short_unlawful piece short)

  refuses : (fresh_answer (setup_in piece) table).refusal ≢ 0
  refuses e = omega (arith, one)

  short_refused : setup_step table piece ≡ outcome_of End 0 (names ++ setup_line 1)
  short_refused = setup_refused table piece refuses ∙ ap (λ (r : ℕ). outcome_of End 0 (names ++ setup_line r)) one

pub returns-then-piece-lt-SETUP_SIZE : goal.returns-then-piece-lt-SETUP_SIZE
returns-then-piece-lt-SETUP_SIZE c = let a = c.args in record {
  value = c.stepped.ensures ∙ rw c.names_and_refusal.ensures (ap handed (sym (short_refused a.table.now a.piece.now (omega arith))));
  table_after = sym (refused_kept (setup_in a.piece.now) a.table.now (refuses a.table.now a.piece.now (omega arith)));
}

pub returns-in-Err : goal.returns-in-Err
returns-in-Err c =
    let a = c.args in
    let e = c.in-Err.ensures in
    let told = number_of e.value in
    let some = setup_refused a.table.now a.piece.now (λ q. omega (arith, numbered c.in-Err.refusal, told, q)) in record {
      value = c.stepped-in-Err.ensures ∙ rw (c.names_and_refusal-in-Err.ensures, told) (ap handed (sym some));
      table_after = e.table_after;
    }

pub returns-in-Ok : goal.returns-in-Ok
returns-in-Ok c =
    let a = c.args in
    let e = c.in-Ok.ensures in record {
      value = c.stepped-in-Ok.ensures ∙ rw c.names.ensures (ap handed (sym (setup_made a.table.now a.piece.now (sym (number_of e.value)))));
      table_after = e.table_after;
    }
