use borrow.Author.Rules.{rules}
use native.Mathlib.Omega.{arith}
use Prim.Native.Nat.{ℕ, suc, ◌+◌, ◌-◌, ◌≤◌, ◌<◌}
use native.Mathlib.Numerals.{add-one}
use mathlib.Core.Logic.{◌≢◌}
use mathlib.Core.Path.{◌≡◌, refl}
use mathlib.Core.List.{List}
use lib.ListN.{length, take, set, get_or, length-set}
use lib.Seq.{take-suc-set, get_or-take, get_or-set_same, get_or-set_other}
use Rattle.sha256.specs.Sha256.{next, schedule}
use Rattle.sha256.proofs.schedule.extend.Goals as goal

next_take : (w : List ℕ) (t : ℕ) → 16 ≤ t → next (take t w) t ≡ next w t
unfolding next
next_take w t h =
    let a : t - 2 < t = omega arith in
    let b : t - 7 < t = omega arith in
    let c : t - 15 < t = omega arith in
    let d : t - 16 < t = omega arith in
    simp (get_or-take t w (t - 2) 0 a, get_or-take t w (t - 7) 0 b, get_or-take t w (t - 15) 0 c, get_or-take t w (t - 16) 0 d)

step : (M w : List ℕ) (t v : ℕ) → 16 ≤ t → t < length w → take t w ≡ schedule M (t - 16) → v ≡ next w t
    → take (t + 1) (set w t v) ≡ schedule M (t + 1 - 16)
unfolding schedule
step M w t v h l e n =
    let k : t + 1 - 16 ≡ suc (t - 16) = omega arith in
    let m : 16 + (t - 16) ≡ t = omega arith in
    rw (k, add-one, take-suc-set w t v l, n, ← next_take w t h, e, m)

older : (w : List ℕ) (t v b : ℕ) → 16 ≤ t → b ≡ get_or w (t - 1) 0 → b ≡ get_or (set w t v) (t + 1 - 2) 0
older w t v b h e =
    let k : t + 1 - 2 ≡ t - 1 = omega arith in
    let d : t - 1 ≢ t = λ q. omega arith in
    rw (k, get_or-set_other w t (t - 1) v 0 d) e

newer : (w : List ℕ) (t v : ℕ) → t < length w → v ≡ get_or (set w t v) (t + 1 - 1) 0
newer w t v h =
    let k : t + 1 - 1 ≡ t = omega arith in
    rw (k, get_or-set_same w t v 0 h)

pub loop-t-init : goal.loop-t-init
unfolding schedule
loop-t-init c = (search rules, refl, refl, refl)

pub loop-t-preserved : goal.loop-t-preserved
unfolding next
loop-t-preserved c =
    let l = c.loop-t in
    let v = c.next_of-c.result in
    let n : v ≡ next l.w l.t = rw l.invariant.1 at c.next_of-c.ensures in
    (simp length-set l.invariant.0, older l.w l.t v l.b (omega arith) l.invariant.2, newer l.w l.t v (omega arith), step _ l.w l.t v (omega arith) (omega arith) l.invariant.3 n)
