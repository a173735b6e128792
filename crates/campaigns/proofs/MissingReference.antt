-- What is said of an arrival that would get 9: its block is one that the reader accepts, and what the shelf makes of it. Assumes nothing.
use mathlib.Core.Path.{◌≡◌}
use mathlib.Core.Logic.{◌≢◌}
use mathlib.Core.List.{List, []}
use Prim.Native.Nat.{ℕ, ◌≤◌}
use native.Mathlib.Omega.{arith}
use lib.Dec.{eqb}
use borrow.Author.Tests.{eqb-true, ne_eqb}
use lib.ListN.{length}
use Rattle.base.specs.Bytes.{Bytes}
use Rattle.base.proofs.Tests.{by_test}
use Rattle.answer.specs.declared.Answer.{Answer}
use Rattle.block.specs.Limits.{max_block_size}
use Rattle.block.specs.Reading.{fields_of, reading}
use Rattle.std.specs.Prelude.{Ok}
use Rattle.block.proofs.Shape.{at_most}
use Rattle.block.proofs.Acceptance.{reading_accepted}
use Rattle.shelf.specs.Layout.{Waiting}
use Rattle.shelf.specs.Rules.{has_place, waits}
use Rattle.admission.specs.Admission.{admission}
use Rattle.admission.proofs.Causes.{causes}
use Rattle.campaigns.specs.Arriving.{shelved, arrived}
use Rattle.campaigns.specs.Steps.{shelving, waiting_then}

module _ (digest : Bytes → Bytes) (t : Bytes) (ws : List Waiting) (c : ℕ) (b : Bytes) (verdict : ℕ) where
  abbrev answer : Answer
  answer = admission digest t b verdict

  -- what is answered a success was admitted
  pub let_in : (shelving answer ws c b).refusal ≡ 0 → answer.refusal ≡ 0
  let_in z =
      by_test (eqb answer.refusal 9)
      (λ y.
      let nine = eqb-true answer.refusal 9 y in
      by_test (waits c b ws)
      (λ w. absurd (omega (arith, rw (y, w) at z)))
      (λ n. by_test (has_place c ws) (λ p. absurd (omega (arith, rw (y, n, p) at z))) (λ m. absurd (omega (arith, rw (y, n, m) at z)))))
      (λ n. rw n at z)

  -- a refusal is the one that the shelf tells, and the list is left as it tells
  pub arrived_refused : (shelving answer ws c b).refusal ≢ 0
      → arrived digest (has_place c ws) t ws c b verdict ≡ record { answer = shelving answer ws c b; table = t; waiting = waiting_then answer ws c b; tries = [] }
  unfolding arrived shelved
  arrived_refused z =
      by_test (eqb answer.refusal 9)
      (λ y. by_test (waits c b ws) (λ w. rw (y, w)) (λ n. by_test (has_place c ws) (λ p. rw (y, n, p)) (λ m. rw (y, n, m))))
      (λ n. let k = ne_eqb answer.refusal 0 (rw n at z) in rw (n, k))

  -- admission refused it too
  pub refused_at_all : (shelving answer ws c b).refusal ≢ 0 → answer.refusal ≢ 0
  refused_at_all z e = z (rw (ne_eqb answer.refusal 9 (λ q. omega arith)) e)

pub nine_accepted : (digest : Bytes → Bytes) (t b : Bytes) (verdict : ℕ) → (admission digest t b verdict).refusal ≡ 9 → reading b ≡ Ok (fields_of b)
nine_accepted digest t b verdict e = ((causes digest t b verdict).nine.0 e).0.readable.accepted

pub nine_short : (digest : Bytes → Bytes) (t b : Bytes) (verdict : ℕ) → (admission digest t b verdict).refusal ≡ 9 → length b ≤ max_block_size
nine_short digest t b verdict e = at_most b (reading_accepted b (fields_of b) (nine_accepted digest t b verdict e)).accepted.shape
