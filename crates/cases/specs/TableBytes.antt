-- Document 01, "The table": where each field stands in a table's bytes, written out. No size is taken from a definition.
use Rattle.std.specs.Prelude.{◌≡◌, ◌||◌, [], ◌∷◌, ◌++◌, ℕ, ◌+◌, ◌*◌, eqb, replicate}
use Rattle.base.specs.Bytes.{Bytes}
use Rattle.base.specs.List.{list_below}
use Rattle.setup.specs.Setup.{Setup}
use Rattle.table.specs.View.{Row}
use Rattle.table.specs.Layout.{table_size, layout}

-- the setup of n 7 in which slots 0 to 6 have different owners
abbrev pub seven_owners : Setup
seven_owners = record { sites = 7; owners = 6 ∷ 5 ∷ 4 ∷ 3 ∷ 2 ∷ 1 ∷ 0 ∷ 6 ∷ [] }

-- the row of place i: it refers to places 1, 8 and 63, and requests another number in each slot. No table in form has such a row, but the layout does
-- not ask for form
abbrev pub written_row : ℕ → Row
written_row i =
    record {
      digest = list_below (λ k. 100 + k) 32;
      site = 5 + i;
      sequence = 772;
      refers_to = λ j. eqb j 1 || (eqb j 8 || eqb j 63);
      request = λ slot. 256 * (slot + 1) + (slot + 17);
      mark = i;
    }

-- the bytes of such a row: digest; site; sequence number; the places referred to; the requests; the mark
abbrev pub row_written : ℕ → ℕ → Bytes
row_written site mark =
    100 ∷ 101 ∷ 102 ∷ 103 ∷ 104 ∷ 105 ∷ 106 ∷ 107 ∷ 108 ∷ 109 ∷ 110 ∷ 111 ∷ 112 ∷ 113 ∷ 114 ∷ 115
    ∷ 116 ∷ 117 ∷ 118 ∷ 119 ∷ 120 ∷ 121 ∷ 122 ∷ 123 ∷ 124 ∷ 125 ∷ 126 ∷ 127 ∷ 128 ∷ 129 ∷ 130 ∷ 131
    ∷ site
    ∷ 3 ∷ 4
    ∷ 2 ∷ 1 ∷ 0 ∷ 0 ∷ 0 ∷ 0 ∷ 0 ∷ 128
    ∷ 1 ∷ 17 ∷ 2 ∷ 18 ∷ 3 ∷ 19 ∷ 4 ∷ 20 ∷ 5 ∷ 21 ∷ 6 ∷ 22 ∷ 7 ∷ 23 ∷ 8 ∷ 24
    ∷ mark
    ∷ []

pub record TableBytesCases : Type 0 where
  pub table_length : table_size ≡ 3851
  -- n, the owners, whether something has been retired, the count, the rows, and zeros
  pub table_written :
      layout seven_owners (record { retired = 1; held = 2; row = written_row })
      ≡ 7 ∷ 6 ∷ 5 ∷ 4 ∷ 3 ∷ 2 ∷ 1 ∷ 0 ∷ 6 ∷ 1 ∷ 2 ∷ (row_written 5 0 ++ (row_written 6 1 ++ replicate 3720 0))
