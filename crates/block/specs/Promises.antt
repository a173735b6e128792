-- What reading promises beyond its equation: each refusal comes under its cause and under no other, with the index that the documents name, and a
-- block that it accepts requests a slot at most once. proofs/Promises.antt shows it.
use Rattle.std.specs.Prelude.{◌≡◌, ◌↔◌, ◌≢◌, ◌⊎◌, ℕ, ◌≤◌, ◌<◌, length}
use Rattle.base.specs.Search.{First}
use Rattle.base.specs.Bytes.{Bytes}
use Rattle.answer.specs.declared.Answer.{Answer}
use Rattle.setup.specs.Setup.{max_slot}
use Rattle.block.specs.Limits.{header_size, max_references, max_requests, block_size}
use Rattle.block.specs.Layout.{reference_count, request_count, reference_list, request_list, reference_at, request_at, request_for}
use Rattle.block.specs.Reading.{reading, read_answer}
use Rattle.block.specs.declared.Fields.{Fields}
use Rattle.std.specs.Prelude.{Ok}

-- the bytes b pass check 3: they are not under 5 bytes, p and r are within their limits, and the length is theirs
pub record Shaped (b : Bytes) : Type 0 where
  pub header : header_size ≤ length b
  pub references : reference_count b ≤ max_references
  pub requests : request_count b ≤ max_requests
  pub exact : length b ≡ block_size (reference_count b) (request_count b)

-- 6: request i of a list of `count` requests has a "slot over 7, or number 0"
pub record BadIn (list : Bytes) (count i : ℕ) : Type 0 where
  pub below : i < count
  pub bad : (max_slot < (request_at list i).slot) ⊎ ((request_at list i).number ≡ 0)

abbrev pub BadAt : Bytes → ℕ → Type 0
BadAt b = BadIn (request_list b) (request_count b)

-- 18: request i of a list of `count` requests has "a slot equal to an earlier one"
pub record SlotRepeatedIn (list : Bytes) (count i : ℕ) : Type 0 where
  pub below : i < count
  pub earlier : ℕ
  pub is_earlier : earlier < i
  pub same : (request_at list earlier).slot ≡ (request_at list i).slot

abbrev pub SlotRepeatedAt : Bytes → ℕ → Type 0
SlotRepeatedAt b = SlotRepeatedIn (request_list b) (request_count b)

-- 7: reference i is "a reference equal to an earlier one"
pub record RepeatedAt (b : Bytes) (i : ℕ) : Type 0 where
  pub below : i < reference_count b
  pub earlier : ℕ
  pub is_earlier : earlier < i
  pub same : reference_at (reference_list b) earlier ≡ reference_at (reference_list b) i

-- checks 3 and 6 hold
pub record GoodRequests (b : Bytes) : Type 0 where
  pub shape : Shaped b
  pub none_bad : ((i : ℕ) × BadAt b i) → ⊥

-- checks 3, 6 and 18 hold
pub record DifferentSlots (b : Bytes) : Type 0 where
  pub good : GoodRequests b
  pub none_repeated : ((i : ℕ) × SlotRepeatedAt b i) → ⊥

module _ (b : Bytes) where
  -- what reading answers for the bytes b, as a number and a value
  abbrev pub answer : Answer
  answer = read_answer (reading b)

  -- each refusal of reading, with its cause
  pub record Causes : Type 0 where
    pub three : (answer.refusal ≡ 3) ↔ (Shaped b → ⊥)
    pub six : (answer.refusal ≡ 6) ↔ (Shaped b × ((i : ℕ) × BadAt b i))
    pub eighteen : (answer.refusal ≡ 18) ↔ (GoodRequests b × ((i : ℕ) × SlotRepeatedAt b i))
    pub seven : (answer.refusal ≡ 7) ↔ (DifferentSlots b × ((i : ℕ) × RepeatedAt b i))
    pub none : (answer.refusal ≡ 0) ↔ (DifferentSlots b × (((i : ℕ) × RepeatedAt b i) → ⊥))
    -- "index of first such request", "the index of the first such request", "index of first such"
    pub first_bad : answer.refusal ≡ 6 → First (BadAt b) answer.value
    pub first_slot : answer.refusal ≡ 18 → First (SlotRepeatedAt b) answer.value
    pub first_repeated : answer.refusal ≡ 7 → First (RepeatedAt b) answer.value
    -- "numbers that the table doesn't name are 0"
    pub no_value : answer.refusal ≢ 6 → answer.refusal ≢ 18 → answer.refusal ≢ 7 → answer.value ≡ 0

  -- "If a slot is requested twice in a block, the first counts": in a block that reading accepts no slot is, each request counts, and nothing else does
  pub record OnceEach : Type 0 where
    pub once : (i j : ℕ) → i < request_count b → j < request_count b → (request_at (request_list b) i).slot ≡ (request_at (request_list b) j).slot → i ≡ j
    pub counts : (i : ℕ) → i < request_count b → request_for b (request_at (request_list b) i).slot ≡ (request_at (request_list b) i).number
    pub unrequested : (slot : ℕ) → ((i : ℕ) → i < request_count b → (request_at (request_list b) i).slot ≢ slot) → request_for b slot ≡ 0

pub record Promises : Type 0 where
  pub causes : (b : Bytes) → Causes b
  pub once_each : (b : Bytes) (f : Fields) → reading b ≡ Ok f → OnceEach b
