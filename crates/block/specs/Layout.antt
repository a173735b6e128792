-- Document 01, "The block": where each field stands, a block's content, and the bytes of a content.
--
--   byte 0      site that built it
--   bytes 1, 2  sequence number, high byte first
--   byte 3      p, count of references
--   byte 4      r, count of requests
--   5 on        p references of 32 bytes, each a digest
--   then        r requests of 3 bytes: slot, number (high byte first)
use Rattle.std.specs.Prelude.{cond, List, [], ◌∷◌, ◌++◌, map, ℕ, ◌+◌, ◌*◌, ◌/◌, eqb, length, get_or, take, drop}
use Rattle.base.specs.Bytes.{Bytes, part_at, parts, concat}
use Rattle.base.specs.Number.{number_at, pair}
use Rattle.block.specs.Limits.{header_size, reference_size, request_size}
use Rattle.block.specs.declared.Request.{Request}

-- ---- the fields of a block's bytes

abbrev pub site_of : Bytes → ℕ
site_of b = get_or b 0 0

abbrev pub sequence_of : Bytes → ℕ
sequence_of b = number_at b 1

abbrev pub reference_count : Bytes → ℕ
reference_count b = get_or b 3 0

abbrev pub request_count : Bytes → ℕ
request_count b = get_or b 4 0

-- "The reference list begins at byte 5 and the request list where it ends"
abbrev pub reference_list : Bytes → Bytes
reference_list b = take (reference_size * reference_count b) (drop header_size b)

abbrev pub request_list : Bytes → Bytes
request_list b = drop (header_size + reference_size * reference_count b) b

-- ---- the entries of the two lists

abbrev pub reference_at : Bytes → ℕ → Bytes
reference_at list i = part_at reference_size list i

abbrev pub request_of : Bytes → Request
request_of part = record { slot = get_or part 0 0; number = number_at part 1 }

abbrev pub request_at : Bytes → ℕ → Request
request_at list i = request_of (part_at request_size list i)

-- ---- content

-- the fields in their order
pub record Content : Type 0 where
  pub site : ℕ
  pub sequence : ℕ
  pub references : List Bytes
  pub requests : List Request

-- the references in the bytes of a reference list, and the requests in the bytes of a request list
abbrev pub references_in : Bytes → List Bytes
references_in list = parts (length list / reference_size) reference_size list

abbrev pub requests_in : Bytes → List Request
requests_in list = map request_of (parts (length list / request_size) request_size list)

-- the content of a site, a sequence number and the bytes of the two lists
unfoldable pub content : ℕ → ℕ → Bytes → Bytes → Content
content site sequence references requests =
    record { site = site; sequence = sequence; references = references_in references; requests = requests_in requests }

unfoldable pub content_of : Bytes → Content
content_of b = content (site_of b) (sequence_of b) (reference_list b) (request_list b)

-- document 01, 'counted request': the number of the first request of the slot, 0 if there is none. In a block that reading accepts it is the only one
-- (`OnceEach`)
unfoldable pub counted_request : List Request → ℕ → ℕ
counted_request [] slot = 0
counted_request (q ∷ qs) slot = cond (eqb q.slot slot) q.number (counted_request qs slot)

-- a block's references in their order, and a block's counted request of a slot
abbrev pub references_of : Bytes → List Bytes
references_of b = references_in (reference_list b)

abbrev pub request_for : Bytes → ℕ → ℕ
request_for b = counted_request (requests_in (request_list b))

-- ---- the bytes of a content

abbrev pub request_bytes : Request → Bytes
request_bytes q = q.slot ∷ pair q.number

unfoldable pub encode : Content → Bytes
encode c =
    c.site ∷ (pair c.sequence ++ (length c.references ∷ length c.requests ∷ (concat c.references ++ concat (map request_bytes c.requests))))
