-- `digest` meets its contract: the message's whole blocks, then the padded tail, by the law `hashed`.
-- Assumes nothing.
use Prim.Native.Nat.{ℕ, ◌/◌}
use mathlib.Core.Path.{◌≡◌}
use mathlib.Core.List.{List}
use lib.ListN.{length, take, drop}
use Rattle.sha256.specs.declared.rounds.State.{State}
use Rattle.sha256.specs.Sha256.{pad, H0, hash, bytes, sha256}
use Rattle.sha256.specs.Steps.{tail_blocks}
use Rattle.sha256.proofs.PaddedMessage.{whole, end, hashed}
use Rattle.sha256.proofs.digest.Goals as goal

chain : (m tail d : List ℕ) (k : ℕ) (s₀ s₁ s₂ : State) → s₀ ≡ H0 → s₁ ≡ hash s₀ m (length m / 64)
    → take (end m) tail ≡ drop (whole m) (pad m) → k ≡ tail_blocks (length m) → s₂ ≡ hash s₁ tail k → d ≡ bytes s₂ → d ≡ sha256 m
chain m tail d k s₀ s₁ s₂ e₀ e₁ e ek e₂ ed = cc (hashed m tail e)

pub returns : goal.returns
returns c =
    chain c.args.message.now _ _ _ _ _ _ c.initial.ensures c.hash_of-s.ensures c.put_tail.ensures
    c.tail_blocks.ensures c.hash_of.ensures c.bytes_of.ensures
