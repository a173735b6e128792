-- `look_up` meets its contract. The loop's invariant: `places` has the places of the references passed, and `missing` is the index of the first of
-- these references that no place holds, if there is one. Assumes nothing.
use mathlib.Core.Path.{◌≡◌}
use Rattle.base.specs.Search.{found_below}
use Rattle.table.specs.Layout.{count_of}
use Rattle.admission.proofs.LookUp.{named_by, absent}
use Rattle.admission.proofs.held.look_up.Given as goal

abbrev pub invariant-loop-i : goal.invariant-loop-i
invariant-loop-i l =
    (l.places ≡ named_by l.index.table.now (count_of l.index.table.now) l.list l.i) × (l.missing ≡ found_below (absent l.index.table.now (count_of l.index.table.now) l.list) l.i)
