-- Two ECHO quorums meet in a site that has not forked, where at most f sites have. Assumes nothing.
use mathlib.Core.Path.{◌≡◌}
use mathlib.Core.Bool.{Bool, true, false, ◌&&◌}
use mathlib.Core.List.{List}
use Prim.Native.Nat.{ℕ, ◌≤◌, ◌<◌}
use native.Mathlib.Omega.{arith}
use lib.Dec.{eqb}
use lib.ListN.{get_or}
use borrow.Author.Tests.{eqb-true}
use Rattle.base.specs.Count.{count_below}
use Rattle.base.proofs.Tests.{and_left, and_right}
use Rattle.base.proofs.Count.{count_both, more_than}
use Rattle.setup.specs.Setup.{lawful_sites, faults, echo_quorum}
use Rattle.setup.proofs.Thresholds.{echo_quorums_meet}
use Rattle.broadcast.specs.Process.{support}
use Rattle.broadcast.proofs.Support.{support_count}

pub quorums_meet : (n : ℕ) → lawful_sites n ≡ true → (f g forks : ℕ → Bool) → echo_quorum n ≤ count_below f n → echo_quorum n ≤ count_below g n
    → count_below forks n ≤ faults n → (p : ℕ) × (p < n) × ((f p && g p) ≡ true) × (forks p ≡ false)
quorums_meet n law f g forks a b few = more_than (λ p. f p && g p) forks n (omega (arith, count_both f g n, echo_quorums_meet n law))

pub supporters_meet : (n : ℕ) → lawful_sites n ≡ true → (heard other : List ℕ) (v w : ℕ) (forks : ℕ → Bool) → echo_quorum n ≤ support n heard v
    → echo_quorum n ≤ support n other w → count_below forks n ≤ faults n
    → (p : ℕ) × (p < n) × (get_or heard p 0 ≡ v) × (get_or other p 0 ≡ w) × (forks p ≡ false)
supporters_meet n law heard other v w forks a b few =
    let m = quorums_meet n law (λ p. eqb (get_or heard p 0) v) (λ p. eqb (get_or other p 0) w) forks (rw (support_count n heard v) at a) (rw (support_count n other w) at b) few in
    (m.0, m.1, eqb-true _ _ (and_left _ (eqb (get_or other m.0 0) w) m.2), eqb-true _ _ (and_right (eqb (get_or heard m.0 0) v) _ m.2), m.3)
