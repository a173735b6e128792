-- Retiring keeps its promises. Assumes nothing.
use mathlib.Core.Path.{sym, subst}
use mathlib.Core.List.{List}
use Prim.Native.Nat.{ℕ}
use Rattle.table.specs.Layout.{setup_of, count_of, view_of}
use Rattle.table.specs.Writing.{without_first}
use Rattle.table.specs.Promises.{Shows}
use Rattle.records.specs.Moving.{Moved}
use Rattle.retire.specs.Promises.{Promises}
use Rattle.retire.proofs.Effect.{table_passed, records_passed, shows_left, parts_left, refused, kept, sized}
use Rattle.retire.proofs.Causes.{causes, goes_on}

pub promises : Promises
promises =
    record {
      causes = causes;
      refused = refused;
      shown = λ t buffer e. subst (Shows (setup_of t) (without_first (view_of t))) (sym (table_passed t buffer e)) (shows_left t buffer e);
      parts = λ t buffer e. subst (λ (l : List ℕ). Moved buffer l (count_of t)) (sym (records_passed t buffer e)) (parts_left t buffer e);
      kept = kept;
      sized = sized;
      goes_on = goes_on;
    }
