use native.Mathlib.Omega.{arith}
use native.Mathlib.Numerals.{add-one}
use Prim.Native.Nat.{ℕ, ◌+◌, ◌*◌}
use mathlib.Core.Path.{◌≡◌, refl, ap, ◌∙◌}
use mathlib.Core.List.{List}
use lib.ListN.{get_or}
use Rattle.sha256.specs.declared.rounds.State.{State}
use Rattle.sha256.specs.Sha256.{K, round, rounds}
use Rattle.sha256.proofs.rounds.rounds_of.Goals as goal

more : (s v r : State) (W : List ℕ) (t j : ℕ) → j ≡ t + 1 → v ≡ rounds s W t → r ≡ round v (get_or K t 0) (get_or W t 0) → r ≡ rounds s W j
unfolding rounds
more s v r W t j h e₁ e₂ = rw (h, add-one) (e₂ ∙ ap (λ (x : State). round x (get_or K t 0) (get_or W t 0)) e₁)

pub loop-turn-init : goal.loop-turn-init
unfolding rounds
loop-turn-init c = refl

pub loop-turn-preserved : goal.loop-turn-preserved
unfolding K
loop-turn-preserved c =
    let l = c.loop-turn in
    let w = c.args.w.now in
    let t = 4 * l.turn in
    let e₁ = more c.args.s _ _ w t (t + 1) refl l.invariant c.round_of-v.ensures in
    let e₂ = more c.args.s _ _ w (t + 1) (t + 2) (omega arith) e₁ c.round_of-v-in-loop-turn.ensures in
    let e₃ = more c.args.s _ _ w (t + 2) (t + 3) (omega arith) e₂ c.round_of-v-in-loop-turn-2.ensures in
    more c.args.s _ _ w (t + 3) (4 * (l.turn + 1)) (omega arith) e₃ c.round_of-v-in-loop-turn-3.ensures
