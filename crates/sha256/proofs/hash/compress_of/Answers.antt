-- `compress_of` meets its contract: what its callees ensure, in a row.
-- Assumes nothing.
use Prim.Native.Nat.{ℕ}
use mathlib.Core.Path.{◌≡◌, ap, ◌∙◌}
use mathlib.Core.List.{List}
use Rattle.sha256.specs.declared.rounds.State.{State}
use Rattle.sha256.specs.Sha256.{words, schedule, rounds, plus, compress}
use Rattle.sha256.proofs.hash.compress_of.Goals as goal

chain : (s v r : State) (m w : List ℕ) → w ≡ schedule (words m 0 16) 48 → v ≡ rounds s w 64 → r ≡ plus v s → r ≡ compress s m 0
unfolding compress
chain s v r m w e₁ e₂ e₃ = e₃ ∙ ap (λ (x : State). plus x s) (e₂ ∙ ap (λ (W : List ℕ). rounds s W 64) e₁)

pub returns : goal.returns
returns c = chain c.args.s _ _ _ _ c.schedule_of-w.ensures c.rounds_of.ensures c.plus_of.ensures
