-- Document 01, "The block", and request One, "Five requests are plenty": the sizes of a block's fields in bytes, and its limits.
use Rattle.std.specs.Prelude.{ℕ, ◌+◌, ◌*◌}

-- the bytes of site, sequence number and the two counts
abbrev pub header_size : ℕ
header_size = 5

-- the bytes of a reference, which is a digest
abbrev pub reference_size : ℕ
reference_size = 32

-- the bytes of a request: slot and number
abbrev pub request_size : ℕ
request_size = 3

abbrev pub max_references : ℕ
max_references = 16

-- "Make 5 the limit"
abbrev pub max_requests : ℕ
max_requests = 5

-- the length of a block with p references and r requests
abbrev pub block_size : ℕ → ℕ → ℕ
block_size p r = header_size + reference_size * p + request_size * r

-- the most bytes of a request list
abbrev pub max_request_list_size : ℕ
max_request_list_size = request_size * max_requests

-- the most bytes of a block
abbrev pub max_block_size : ℕ
max_block_size = block_size max_references max_requests
