-- Blocks written down by their fields, and a toy digest of them. The cases are about the rules, and SHA-256 would be slow to evaluate at each
-- step of a run; the test program has cases with SHA-256.
use Rattle.std.specs.Prelude.{◌≡◌, List, ◌++◌, ℕ, length, take, replicate}
use Rattle.base.specs.Bytes.{Bytes}
use Rattle.block.specs.Limits.{header_size, reference_size}
use Rattle.block.specs.Layout.{request_list, encode}
use Rattle.block.specs.declared.Request.{Request}

-- what the digest sees of a block: header and request list. Two different blocks share their digest only where they have the same site, sequence
-- number, counts and requests and refer to different blocks; cases that need a shared digest have two such blocks
unfoldable pub seen : Bytes → Bytes
seen b = take header_size b ++ request_list b

abbrev zeros : Bytes
zeros = replicate reference_size 0

-- the toy digest: the first 32 bytes of what it sees, with zeros behind where that is shorter
unfoldable pub toy : Bytes → Bytes
toy b = take reference_size (seen b ++ zeros)

-- a number requested in a slot
abbrev pub request : ℕ → ℕ → Request
request slot number = record { slot = slot; number = number }

-- the bytes of a block: site, sequence number, the digests that it refers to, and its requests
unfoldable pub block : ℕ → ℕ → List Bytes → List Request → Bytes
block site sequence references requests =
    encode (record { site = site; sequence = sequence; references = references; requests = requests })

pub record ToyDigest : Type 0 where
  -- the toy digest is as long as a digest, whatever the bytes are
  pub size : (b : Bytes) → length (toy b) ≡ reference_size
