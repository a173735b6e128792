use native.Mathlib.Omega.{arith}
use Prim.Native.Nat.{ℕ, ◌+◌, ◌*◌, ◌<◌}
use native.Mathlib.Numerals.{add-one}
use mathlib.Core.Path.{◌≡◌, refl}
use mathlib.Core.List.{List}
use lib.ListN.{length, take, set, length-set}
use lib.Seq.{take-suc-set}
use Rattle.sha256.specs.Sha256.{word, words}
use Rattle.sha256.proofs.schedule.load.Goals as goal

step : (m w : List ℕ) (t v : ℕ) → t < length w → take t w ≡ words m 0 t → v ≡ word m (4 * t)
    → take (t + 1) (set w t v) ≡ words m 0 (t + 1)
unfolding words
step m w t v l e n =
    let z : 0 + 4 * t ≡ 4 * t = omega arith in
    rw (add-one, take-suc-set w t v l, z, n, e)

pub loop-t-init : goal.loop-t-init
unfolding words
loop-t-init c = (refl, refl)

pub loop-t-preserved : goal.loop-t-preserved
loop-t-preserved c =
    let l = c.loop-t in
    (simp length-set l.invariant.0, step _ l.w l.t c.word_at.result (omega arith) l.invariant.1 c.word_at.ensures)
