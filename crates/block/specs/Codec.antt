-- Document 01, "The block": "bytes and fields determine each other"; and request Two: "Round trips cover blocks with different slots". `RoundTrip` is
-- the promise; proofs/RoundTrip.antt shows it.
use Rattle.std.specs.Prelude.{◌≡◌, ◌≢◌, [], ℕ, ◌+◌, ◌*◌, ◌≤◌, ◌<◌, length, get_or, take, drop}
use Rattle.base.specs.Bytes.{Bytes, AllBytes}
use Rattle.setup.specs.Setup.{max_slot}
use Rattle.block.specs.Limits.{header_size, reference_size, max_references, max_requests}
use Rattle.block.specs.Layout.{Content, reference_at, request_at, content, content_of, encode}
use Rattle.block.specs.Reading.{fields_of, reading}
use Rattle.block.specs.declared.Request.{Request}
use Rattle.block.specs.declared.Fields.{Fields}
use Rattle.std.specs.Prelude.{Ok}

-- x is 32 bytes, as a digest is
pub record Digest (x : Bytes) : Type 0 where
  pub bytes : AllBytes x
  pub size : length x ≡ reference_size

-- a slot from 0 to 7, and a number from 1 to 65,535
pub record AdmissibleRequest (q : Request) : Type 0 where
  pub slot : q.slot ≤ max_slot
  pub some : 1 ≤ q.number
  pub number : q.number < 65536

-- what stands for an entry past the end of a list of requests; no law depends on it
abbrev pub no_request : Request
no_request = record { slot = 0; number = 0 }

-- a content that fits the block's fields
pub record Fitting (c : Content) : Type 0 where
  pub site : c.site < 256
  pub sequence : c.sequence < 65536
  pub few_references : length c.references ≤ max_references
  pub digests : (i : ℕ) → i < length c.references → Digest (get_or c.references i [])
  pub different_references : (i j : ℕ) → j < i → i < length c.references → get_or c.references j [] ≢ get_or c.references i []
  pub few_requests : length c.requests ≤ max_requests
  pub admissible : (i : ℕ) → i < length c.requests → AdmissibleRequest (get_or c.requests i no_request)
  pub different_slots : (i j : ℕ) → j < i → i < length c.requests → (get_or c.requests j no_request).slot ≢ (get_or c.requests i no_request).slot

-- reading accepts b, and c is its content
pub record Reads (b : Bytes) (c : Content) : Type 0 where
  pub accepted : reading b ≡ Ok (fields_of b)
  pub content : content_of b ≡ c

-- what the fields f, which reading hands back, say of the block b
module _ (f : Fields) (b : Bytes) where
  -- the two parts of b whose lengths the fields tell: the reference list and the request list
  abbrev pub reference_part : Bytes
  reference_part = take (reference_size * f.references) (drop header_size b)

  abbrev pub request_part : Bytes
  request_part = drop (header_size + reference_size * f.references) b

  -- the fields and the two parts are the content of b
  pub record Gives : Type 0 where
    pub content : content f.site f.sequence reference_part request_part ≡ content_of b
    pub references : length (content_of b).references ≡ f.references
    pub requests : length (content_of b).requests ≡ f.requests
    -- what is read from a part at an index is the entry of the content's list at that index
    pub reference : (i : ℕ) → i < f.references → reference_at reference_part i ≡ get_or (content_of b).references i []
    pub request : (i : ℕ) → i < f.requests → request_at request_part i ≡ get_or (content_of b).requests i no_request

pub record RoundTrip : Type 0 where
  -- the bytes of a fitting content read to that content
  pub written : (c : Content) → Fitting c → AllBytes (encode c) × Reads (encode c) c
  -- no other bytes read to that content, and every content that is read is fitting
  pub only : (b : Bytes) (c : Content) → AllBytes b → Reads b c → (b ≡ encode c) × Fitting c
  -- the fields that reading hands back, with the two parts, are the block's content
  pub fields : (b : Bytes) (f : Fields) → reading b ≡ Ok f → Gives f b
