-- What taking back promises beyond its two equations; proofs/Promises.antt shows it.
use Rattle.std.specs.Prelude.{◌≡◌, true, false, cond, ◌↔◌, ◌≢◌, List, [], ◌∷◌, ℕ, zero, suc, ◌+◌, ◌-◌, ◌<◌, eqb, length}
use Rattle.base.specs.Bytes.{Bytes}
use Rattle.answer.specs.Checks.{success}
use Rattle.block.specs.Limits.{reference_size}
use Rattle.table.specs.Layout.{setup_of, count_of, mark_at, view_of}
use Rattle.table.specs.Writing.{without_last}
use Rattle.table.specs.Form.{in_form}
use Rattle.table.specs.Promises.{Shows}
use Rattle.admission.specs.Admission.{admission, admitted}
use Rattle.take_back.specs.TakingBack.{taking_back, taken_back}

-- checks 2 and 32 hold
pub record SomeHeld (t : Bytes) : Type 0 where
  pub formed : in_form t ≡ true
  pub some : 0 < count_of t

-- each refusal comes under its cause and under no other
pub record Causes (t : Bytes) : Type 0 where
  pub two : ((taking_back t).refusal ≡ 2) ↔ (in_form t ≡ false)
  pub thirty_two : ((taking_back t).refusal ≡ 32) ↔ ((in_form t ≡ true) × (count_of t ≡ 0))
  pub thirty_three : ((taking_back t).refusal ≡ 33) ↔ (SomeHeld t × (mark_at t (count_of t - 1) ≡ 1))
  pub none : ((taking_back t).refusal ≡ 0) ↔ (SomeHeld t × (mark_at t (count_of t - 1) ≢ 1))
  pub no_value : (taking_back t).value ≡ 0

-- ---- admissions undone by takings back

-- k takings back, one after the other, all succeed and lead from the table t to a table that equals t' in every byte
unfoldable pub UndoneBy : ℕ → Bytes → Bytes → Type 0
UndoneBy zero t t' = t ≡ t'
UndoneBy (suc k) t t' = (taking_back t ≡ success 0) × UndoneBy k (taken_back t) t'

-- a block, and the link's verdict on it
pub record Brought : Type 0 where
  pub block : Bytes
  pub verdict : ℕ

module _ (digest : Bytes → Bytes) where
  -- the table after blocks were brought to t, one after the other; and how many of the blocks were admitted
  unfoldable pub loaded : Bytes → List Brought → Bytes
  loaded t [] = t
  loaded t (b ∷ bs) = loaded (admitted digest t b.block b.verdict) bs

  unfoldable pub admitted_of : Bytes → List Brought → ℕ
  admitted_of t [] = 0
  admitted_of t (b ∷ bs) =
      cond (eqb (admission digest t b.block b.verdict).refusal 0) 1 0 + admitted_of (admitted digest t b.block b.verdict) bs

pub record Promises : Type 0 where
  pub causes : (t : Bytes) → Causes t
  -- a refusal changes nothing
  pub refused : (t : Bytes) → (taking_back t).refusal ≢ 0 → taken_back t ≡ t
  -- the table shows all places but the last
  pub shown : (t : Bytes) → (taking_back t).refusal ≡ 0 → Shows (setup_of t) (without_last (view_of t)) (taken_back t)
  -- a table in form is in form after any taking back, refused or not
  pub kept : (t : Bytes) → in_form t ≡ true → in_form (taken_back t) ≡ true
  -- "straight after an admission that is the table before it", for any table, and for any digest of 32 bytes
  pub undone : (digest : Bytes → Bytes) → ((b : Bytes) → length (digest b) ≡ reference_size) → (t b : Bytes) (verdict : ℕ)
      → (admission digest t b verdict).refusal ≡ 0 → UndoneBy 1 (admitted digest t b verdict) t
  -- "Observers load the wrong campaign's file": whatever blocks the file brought, some of them perhaps refused, as many takings back as blocks of it
  -- were admitted lead to the table before the file
  pub file_undone : (digest : Bytes → Bytes) → ((b : Bytes) → length (digest b) ≡ reference_size) → (t : Bytes) (file : List Brought)
      → UndoneBy (admitted_of digest t file) (loaded digest t file) t
