-- Document 01, "Setup and digest", and the thresholds of "One slot's process". Each threshold has a name, and proofs use only the laws of these names
-- in proofs/Thresholds.antt.
use Rattle.std.specs.Prelude.{Bool, ◌&&◌, ◌||◌, List, ℕ, ◌+◌, ◌-◌, ◌*◌, ◌/◌, eqb, ltb, length, get_or}
use Rattle.base.specs.Search.{all_below}

-- a site count n, and owners, of which a lawful setup has eight, one for each slot
pub record Setup : Type 0 where
  pub sites : ℕ
  pub owners : List ℕ

-- the owner of a slot, 0 past the last owner
abbrev pub owner_of : Setup → ℕ → ℕ
owner_of s slot = get_or s.owners slot 0

-- slots are 0 to 7
abbrev pub slot_count : ℕ
slot_count = 8

abbrev pub max_slot : ℕ
max_slot = slot_count - 1

-- no setup has more sites than 16
abbrev pub max_sites : ℕ
max_sites = 16

-- n is 1, 4, 7, 10, 13 or 16
unfoldable pub lawful_sites : ℕ → Bool
lawful_sites n = eqb n 1 || (eqb n 4 || (eqb n 7 || (eqb n 10 || (eqb n 13 || eqb n 16))))

-- every owner is below n
unfoldable pub owners_below : List ℕ → ℕ → Bool
owners_below owners n = all_below (λ slot. ltb (get_or owners slot 0) n) (length owners)

-- a lawful n, and eight owners below n
unfoldable pub lawful : Setup → Bool
lawful s = lawful_sites s.sites && (eqb (length s.owners) slot_count && owners_below s.owners s.sites)

-- f, where n = 3f + 1: how many sites may fork
unfoldable pub faults : ℕ → ℕ
faults n = (n - 1) / 3

-- ECHO: at least 2f + 1 supporters, and READY is sent
unfoldable pub echo_quorum : ℕ → ℕ
echo_quorum n = 2 * faults n + 1

-- READY: at least f + 1 supporters, and READY is sent
unfoldable pub ready_amplification : ℕ → ℕ
ready_amplification n = faults n + 1

-- READY: at least 2f + 1 supporters, and the number is delivered
unfoldable pub ready_quorum : ℕ → ℕ
ready_quorum n = 2 * faults n + 1
