-- What the contracts of inner functions cite: what an entry point has tested. Nothing here need be believed.
use Rattle.std.specs.Prelude.{◌≡◌, Bool, cond, not, ℕ, ◌/◌, eqb, length}
use Rattle.base.specs.Search.{first_below, any_below, below}
use Rattle.base.specs.Mask.{mask_below}
use Rattle.base.specs.Bytes.{Bytes, same_bytes}
use Rattle.sha256.specs.Sha256.{sha256}
use Rattle.answer.specs.declared.Answer.{Answer}
use Rattle.answer.specs.Checks.{answer_to}
use Rattle.block.specs.Limits.{reference_size}
use Rattle.block.specs.Layout.{reference_list, reference_at}
use Rattle.block.specs.Promises.{Shaped}
use Rattle.table.specs.View.{View}
use Rattle.table.specs.Layout.{count_of, digest_at, view_of, with_row}
use Rattle.table.specs.Rules.{has_digest}
use Rattle.admission.specs.declared.held.Found.{Found}
use Rattle.admission.specs.Admission.{row_for, held_checks}

-- searches over a reference list, which has as many references as its length gives: whether the digest d is among them, the index of the first that
-- no place below k holds, and the mask of the places below k whose digests are among them
abbrev pub among : Bytes → Bytes → Bool
among list d = any_below (λ i. same_bytes (reference_at list i) d) (length list / reference_size)

abbrev pub first_missing : View → ℕ → Bytes → ℕ
first_missing v k list = first_below (λ i. not (any_below (has_digest v (reference_at list i)) k)) (length list / reference_size)

abbrev pub places_listed : Bytes → ℕ → Bytes → ℕ
places_listed t k list = mask_below (λ j. among list (digest_at t j)) k

-- a block that passes check 3, and what was found for its references in a table: the mask of the places that the block refers to, and the index of
-- its first missing reference
pub record LookedUp (t b : Bytes) (found : Found) : Type 0 where
  pub shaped : Shaped b
  pub places : found.places ≡ places_listed t (count_of t) (reference_list b)
  pub missing : found.missing ≡ below (length (reference_list b) / reference_size) (first_missing (view_of t) (count_of t) (reference_list b))

-- what checks 8 to 11 answer, and the table after them
unfoldable pub held_answer : Bytes → Bytes → Answer
held_answer t b = answer_to (held_checks sha256 (view_of t) b) (count_of t)

unfoldable pub entered : Bytes → Bytes → Bytes
entered t b = cond (eqb (held_answer t b).refusal 0) (with_row t (row_for sha256 (view_of t) b)) t
