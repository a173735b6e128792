-- What admission promises beyond its two equations; proofs/Promises.antt shows it for every digest of 32 bytes, and so for SHA-256.
use Rattle.std.specs.Prelude.{◌≡◌, ◌↔◌, ◌≢◌, ◌⊎◌, true, false, ℕ, ◌≤◌, ◌<◌}
use Rattle.base.specs.Search.{First}
use Rattle.base.specs.Bytes.{Bytes}
use Rattle.answer.specs.declared.Answer.{Answer}
use Rattle.block.specs.Layout.{site_of, reference_count, reference_list, reference_at}
use Rattle.block.specs.Reading.{fields_of, reading, read_answer}
use Rattle.block.specs.Promises.{Shaped}
use Rattle.std.specs.Prelude.{Ok}
use Rattle.table.specs.View.{max_places}
use Rattle.table.specs.Layout.{setup_of, count_of, digest_at, view_of}
use Rattle.table.specs.Rules.{parent_rule}
use Rattle.table.specs.Form.{in_form}
use Rattle.table.specs.Promises.{Grown}
use Rattle.admission.specs.Admission.{row_for, admission, admitted}

-- BlockShaped: checks 2 and 3 hold. OfSite: check 4 holds too. Vouched: check 5 holds too
pub record BlockShaped (t b : Bytes) : Type 0 where
  pub formed : in_form t ≡ true
  pub shape : Shaped b

pub record OfSite (t b : Bytes) : Type 0 where
  pub block_shaped : BlockShaped t b
  pub site : site_of b < (setup_of t).sites

pub record Vouched (t b : Bytes) (verdict : ℕ) : Type 0 where
  pub of_site : OfSite t b
  pub link : verdict ≡ 1

-- checks 2 to 7 and 18 hold; a block that the reader accepts has passed checks 3, 6, 18 and 7
pub record Readable (t b : Bytes) (verdict : ℕ) : Type 0 where
  pub formed : in_form t ≡ true
  pub site : site_of b < (setup_of t).sites
  pub link : verdict ≡ 1
  pub accepted : reading b ≡ Ok (fields_of b)

-- this place holds the block of digest d
abbrev pub HeldAt : Bytes → Bytes → ℕ → Type 0
HeldAt t d place = (place < count_of t) × (digest_at t place ≡ d)

-- some place holds the block of digest d
abbrev pub DigestHeld : Bytes → Bytes → Type 0
DigestHeld t d = (place : ℕ) × HeldAt t d place

-- reference i of the block is held at no place
abbrev pub MissingAt : Bytes → Bytes → ℕ → Type 0
MissingAt t b i = (i < reference_count b) × (DigestHeld t (reference_at (reference_list b) i) → ⊥)

-- some reference of the block is held at no place
abbrev pub ReferenceMissing : Bytes → Bytes → Type 0
ReferenceMissing t b = (i : ℕ) × MissingAt t b i

module _ (digest : Bytes → Bytes) where
  -- the block b, put at the next place of t, keeps the parent rule
  abbrev pub ParentRule : Bytes → Bytes → Type 0
  ParentRule t b = parent_rule (view_of t) (count_of t) (row_for digest (view_of t) b) ≡ true

  -- New: check 8 holds too. Linked: check 9 holds too. Parented: check 10 holds too
  pub record New (t b : Bytes) (verdict : ℕ) : Type 0 where
    pub readable : Readable t b verdict
    pub new : DigestHeld t (digest b) → ⊥

  pub record Linked (t b : Bytes) (verdict : ℕ) : Type 0 where
    pub is_new : New t b verdict
    pub found : ReferenceMissing t b → ⊥

  pub record Parented (t b : Bytes) (verdict : ℕ) : Type 0 where
    pub linked : Linked t b verdict
    pub parent : ParentRule t b

  module _ (t b : Bytes) (verdict : ℕ) where
    abbrev pub answer : Answer
    answer = admission digest t b verdict

    -- each refusal comes under its cause and under no other
    pub record Causes : Type 0 where
      pub two : (answer.refusal ≡ 2) ↔ (in_form t ≡ false)
      pub three : (answer.refusal ≡ 3) ↔ ((in_form t ≡ true) × (Shaped b → ⊥))
      pub four : (answer.refusal ≡ 4) ↔ (BlockShaped t b × ((setup_of t).sites ≤ site_of b))
      pub five : (answer.refusal ≡ 5) ↔ (OfSite t b × (verdict ≢ 1))
      -- 6, 18 and 7 are those of reading the block, with the index that reading gives
      pub six : (answer.refusal ≡ 6) ↔ (Vouched t b verdict × ((read_answer (reading b)).refusal ≡ 6))
      pub eighteen : (answer.refusal ≡ 18) ↔ (Vouched t b verdict × ((read_answer (reading b)).refusal ≡ 18))
      pub seven : (answer.refusal ≡ 7) ↔ (Vouched t b verdict × ((read_answer (reading b)).refusal ≡ 7))
      pub index : (answer.refusal ≡ 6) ⊎ ((answer.refusal ≡ 18) ⊎ (answer.refusal ≡ 7)) → answer.value ≡ (read_answer (reading b)).value
      pub eight : (answer.refusal ≡ 8) ↔ (Readable t b verdict × DigestHeld t (digest b))
      -- "its place"
      pub held_place : answer.refusal ≡ 8 → First (HeldAt t (digest b)) answer.value
      pub nine : (answer.refusal ≡ 9) ↔ (New t b verdict × ReferenceMissing t b)
      -- "index of first such"
      pub first_missing : answer.refusal ≡ 9 → First (MissingAt t b) answer.value
      pub ten : (answer.refusal ≡ 10) ↔ (Linked t b verdict × (ParentRule t b → ⊥))
      pub eleven : (answer.refusal ≡ 11) ↔ (Parented t b verdict × (count_of t ≡ max_places))
      pub none : (answer.refusal ≡ 0) ↔ (Parented t b verdict × (count_of t < max_places))
      -- a success has refusal 0, "with the place from admission"
      pub place : answer.refusal ≡ 0 → answer.value ≡ count_of t
      -- beside a refusal that is none of 6, 18, 7, 8 and 9 the value is 0
      pub no_value : answer.refusal ≢ 0 → answer.refusal ≢ 6 → answer.refusal ≢ 18 → answer.refusal ≢ 7 → answer.refusal ≢ 8 → answer.refusal ≢ 9
          → answer.value ≡ 0

  pub record Promises : Type 0 where
    pub causes : (t b : Bytes) (verdict : ℕ) → Causes t b verdict
    -- an admitted block stands at the next place, and its row shows what its bytes say
    pub shown : (t b : Bytes) (verdict : ℕ) → (admission digest t b verdict).refusal ≡ 0 → Grown t (admitted digest t b verdict) (row_for digest (view_of t) b)
    -- a table in form is in form after any admission, refused or not
    pub kept : (t b : Bytes) (verdict : ℕ) → in_form t ≡ true → in_form (admitted digest t b verdict) ≡ true
