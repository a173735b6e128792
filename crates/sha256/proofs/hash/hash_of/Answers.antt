use Prim.Native.Nat.{ℕ, ◌+◌, ◌*◌}
use native.Mathlib.Numerals.{add-one}
use mathlib.Core.Path.{◌≡◌, refl, ap, ◌∙◌}
use mathlib.Core.List.{List}
use Rattle.base.proofs.Parts.{array_part}
use Rattle.sha256.specs.declared.rounds.State.{State}
use Rattle.sha256.specs.Sha256.{compress, hash}
use Rattle.sha256.proofs.Hashing.{one_block}
use Rattle.sha256.proofs.hash.hash_of.Goals as goal

more : (s₀ : State) (m : List ℕ) (i : ℕ) (s r : State) → s ≡ hash s₀ m i → r ≡ compress s m (64 * i) → r ≡ hash s₀ m (i + 1)
unfolding hash
more s₀ m i s r e₁ e₂ = rw add-one (cc)

pub loop-i-init : goal.loop-i-init
unfolding hash
loop-i-init c = refl

pub loop-i-preserved : goal.loop-i-preserved
loop-i-preserved c =
    let l = c.loop-i in
    let m = c.args.m.now in
    let block = array_part m _ (64 * l.i) 64 (rw c.unwrap-block.ensures at c.as_array.ensures.cases) in
    more _ _ l.i l.v _ l.invariant (c.compress_of-v.ensures ∙ ap (λ (b : List ℕ). compress l.v b 0) block ∙ one_block l.v m (64 * l.i))
