-- What building promises beyond its two equations, whichever places are looked at; proofs/Promises.antt shows it.
use Rattle.std.specs.Prelude.{◌≡◌, Bool, true, false, ◌↔◌, ◌≢◌, ◌⊎◌, ℕ, ◌/◌, ◌%◌, ◌≤◌, ◌<◌, length, take, drop}
use Rattle.base.specs.Search.{First}
use Rattle.base.specs.Bytes.{Bytes, AllBytes}
use Rattle.answer.specs.declared.Answer.{Answer}
use Rattle.block.specs.Limits.{request_size, max_request_list_size}
use Rattle.block.specs.Promises.{BadIn, SlotRepeatedIn}
use Rattle.block.specs.Codec.{Reads}
use Rattle.table.specs.View.{max_places}
use Rattle.table.specs.Layout.{setup_of, count_of, sequence_at, view_of}
use Rattle.table.specs.Form.{in_form}
use Rattle.admission.specs.Admission.{admission}
use Rattle.admission.specs.Promises.{DigestHeld}
use Rattle.watch.specs.Forks.{of_site}
use Rattle.watch.specs.Promises.{Shares}
use Rattle.build.specs.Building.{max_sequence, next_sequence, next_content, next_block, building_from, built_from}

-- BySite: checks 2 and 4 hold. WholeList: check 3 holds too
pub record BySite (t : Bytes) (p : ℕ) : Type 0 where
  pub formed : in_form t ≡ true
  pub site : p < (setup_of t).sites

pub record WholeList (t : Bytes) (p : ℕ) (requests : Bytes) : Type 0 where
  pub by_site : BySite t p
  pub fits : length requests ≤ max_request_list_size
  pub whole : length requests % request_size ≡ 0

-- request i of the request list has a slot over 7, or number 0
abbrev pub BadRequest : Bytes → ℕ → Type 0
BadRequest requests = BadIn requests (length requests / request_size)

-- request i of the request list has the slot of an earlier one
abbrev pub RepeatedSlot : Bytes → ℕ → Type 0
RepeatedSlot requests = SlotRepeatedIn requests (length requests / request_size)

-- checks 2, 4, 3 and 6 hold
pub record GoodList (t : Bytes) (p : ℕ) (requests : Bytes) : Type 0 where
  pub whole_list : WholeList t p requests
  pub none_bad : ((i : ℕ) × BadRequest requests i) → ⊥

-- checks 2, 4, 3, 6 and 18 hold
pub record Asked (t : Bytes) (p : ℕ) (requests : Bytes) : Type 0 where
  pub formed : in_form t ≡ true
  pub site : p < (setup_of t).sites
  pub fits : length requests ≤ max_request_list_size
  pub whole : length requests % request_size ≡ 0
  pub none_bad : ((i : ℕ) × BadRequest requests i) → ⊥
  pub none_repeated : ((i : ℕ) × RepeatedSlot requests i) → ⊥

-- a held block of the site has sequence number 65,535, so no block can follow it
pub record Ended (seen : ℕ → Bool) (t : Bytes) (p : ℕ) : Type 0 where
  pub place : ℕ
  pub below : place < count_of t
  pub own : of_site (view_of t) seen p place ≡ true
  pub sequence : max_sequence ≤ sequence_at t place

-- what admission of the bytes b to the table t answers with verdict 1; and that it is "refused only by 11, or by 8 on a shared digest"
module _ (digest : Bytes → Bytes) (t b : Bytes) where
  abbrev pub admission_refusal : ℕ
  admission_refusal = (admission digest t b 1).refusal

  abbrev pub Admissible : Type 0
  Admissible = (admission_refusal ≡ 0) ⊎ (((admission_refusal ≡ 11) × (count_of t ≡ max_places)) ⊎ ((admission_refusal ≡ 8) × DigestHeld t (digest b)))

module _ (seen : ℕ → Bool) (t : Bytes) (p : ℕ) (requests output : Bytes) where
  abbrev pub answer : Answer
  answer = building_from seen t p requests output

  -- the output afterwards
  abbrev pub output_after : Bytes
  output_after = built_from seen t p requests output

  -- the length of the next block
  abbrev pub needed : ℕ
  needed = length (next_block seen (view_of t) p requests)

  -- checks 2, 4, 3, 6, 18 and 16 hold
  pub record Able : Type 0 where
    pub asked : Asked t p requests
    pub unforked : Shares (view_of t) seen p → ⊥

  -- checks 2, 4, 3, 6, 18, 16 and 30 hold
  pub record Lasting : Type 0 where
    pub able : Able
    pub within : next_sequence seen (view_of t) p ≤ max_sequence

  pub record Promised : Type 0 where
    -- each refusal comes under its cause and under no other
    pub two : (answer.refusal ≡ 2) ↔ (in_form t ≡ false)
    pub four : (answer.refusal ≡ 4) ↔ ((in_form t ≡ true) × ((setup_of t).sites ≤ p))
    pub three : (answer.refusal ≡ 3) ↔ (BySite t p × ((max_request_list_size < length requests) ⊎ (length requests % request_size ≢ 0)))
    pub six : (answer.refusal ≡ 6) ↔ (WholeList t p requests × ((i : ℕ) × BadRequest requests i))
    -- "index of first such request"
    pub first_bad : answer.refusal ≡ 6 → First (BadRequest requests) answer.value
    pub eighteen : (answer.refusal ≡ 18) ↔ (GoodList t p requests × ((i : ℕ) × RepeatedSlot requests i))
    -- "the index of the first such request"
    pub first_slot : answer.refusal ≡ 18 → First (RepeatedSlot requests) answer.value
    pub sixteen : (answer.refusal ≡ 16) ↔ (Asked t p requests × Shares (view_of t) seen p)
    pub thirty : (answer.refusal ≡ 30) ↔ (Able × Ended seen t p)
    pub seventeen : (answer.refusal ≡ 17) ↔ (Lasting × (length output < needed))
    pub none : (answer.refusal ≡ 0) ↔ (Lasting × (needed ≤ length output))
    -- the value of a success is the block's length, and the value of 17 the length needed
    pub value : (answer.refusal ≡ 0) ⊎ (answer.refusal ≡ 17) → answer.value ≡ needed
    -- beside a refusal that is none of 6, 18 and 17 the value is 0
    pub no_value : answer.refusal ≢ 0 → answer.refusal ≢ 6 → answer.refusal ≢ 18 → answer.refusal ≢ 17 → answer.value ≡ 0
    -- the block that is built reads back to the content of the next block
    pub read : AllBytes t → AllBytes requests → answer.refusal ≡ 0 → Reads (take needed output_after) (next_content seen (view_of t) p requests)
    -- bytes of the output after the block stay
    pub rest : answer.refusal ≡ 0 → drop needed output_after ≡ drop needed output
    -- the table that the block was built from admits it, or refuses it by 11 or 8 alone
    pub admissible : AllBytes t → AllBytes requests → answer.refusal ≡ 0 → (digest : Bytes → Bytes) → Admissible digest t (take needed output_after)
