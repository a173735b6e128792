-- Document 01, "Listing program and C host": the input's bytes and the lines' text, written out. The digest is the toy one.
use Rattle.std.specs.Prelude.{◌≡◌, false, List, [], ◌∷◌, ◌++◌, ℕ, replicate}
use Rattle.base.specs.Bytes.{Bytes}
use Rattle.table.specs.Layout.{layout}
use Rattle.run.specs.Run.{Site}
use Rattle.report.specs.Text.{names, delivery_line}
use Rattle.report.specs.Arrivals.{arrived, unread, arrivals_in}
use Rattle.report.specs.Listing.{arrival_lines, listing}
use Rattle.cases.specs.Toy.{toy, block}
use Rattle.cases.specs.Blocks.{sites, numbered}
use Rattle.cases.specs.Watch.{interpreted_row}

-- "arrival place site seq slot number refusal" and a line feed
abbrev pub names_text : Bytes
names_text =
    97 ∷ 114 ∷ 114 ∷ 105 ∷ 118 ∷ 97 ∷ 108 ∷ 32
    ∷ 112 ∷ 108 ∷ 97 ∷ 99 ∷ 101 ∷ 32
    ∷ 115 ∷ 105 ∷ 116 ∷ 101 ∷ 32
    ∷ 115 ∷ 101 ∷ 113 ∷ 32
    ∷ 115 ∷ 108 ∷ 111 ∷ 116 ∷ 32
    ∷ 110 ∷ 117 ∷ 109 ∷ 98 ∷ 101 ∷ 114 ∷ 32
    ∷ 114 ∷ 101 ∷ 102 ∷ 117 ∷ 115 ∷ 97 ∷ 108 ∷ 10
    ∷ []

-- a line that fills only the first field, of one character, and the last: "x - - - - - y"
abbrev pub short_line : ℕ → ℕ → Bytes
short_line x y = x ∷ 32 ∷ 45 ∷ 32 ∷ 45 ∷ 32 ∷ 45 ∷ 32 ∷ 45 ∷ 32 ∷ 45 ∷ 32 ∷ y ∷ 10 ∷ []

-- the bytes of a setup: n 4 and eight owners
abbrev pub four_sites_input : Bytes
four_sites_input = 4 ∷ replicate 8 0

-- ---- a block that delivers in two slots

-- the records of the block at place 0. In slots 2 and 5 it sent READY, and had heard those of sites 0 and 1. In slot 3 the number was delivered
-- before that block, and in slot 4 in it
abbrev pub waiting : ℕ → List ℕ
waiting v = 0 ∷ 0 ∷ v ∷ 0 ∷ (replicate 16 0 ++ (v ∷ v ∷ (replicate 14 0 ++ (0 ∷ 0 ∷ v ∷ 0 ∷ []))))

abbrev pub over : ℕ → ℕ → List ℕ
over v made = 0 ∷ 0 ∷ v ∷ v ∷ (replicate 32 0 ++ (0 ∷ 0 ∷ 0 ∷ made ∷ []))

unfoldable pub saying_ready : List ℕ
saying_ready = replicate 80 0 ++ (waiting 9 ++ (over 8 0 ++ (over 8 8 ++ (waiting 65535 ++ replicate 20240 0))))

-- a site with these records, whose table holds that block, of site 3 and sequence number 6
unfoldable pub before : Site
before =
    record {
      table = layout (sites 4) (record { retired = 1; held = 1; row = λ i. interpreted_row 0 3 6 (λ j. false) });
      records = saying_ready;
    }

pub record ListingCases : Type 0 where
  -- "First a line of names"
  pub first_line : names ≡ names_text
  -- "then lines of values in that order": "10 9 3 258 7 65535 0"
  pub values_in_order :
      delivery_line (record { arrival = 10; place = 9; site = 3; sequence = 258; slot = 7; number = 65535 })
      ≡ 49 ∷ 48 ∷ 32 ∷ 57 ∷ 32 ∷ 51 ∷ 32 ∷ 50 ∷ 53 ∷ 56 ∷ 32 ∷ 55 ∷ 32 ∷ 54 ∷ 53 ∷ 53 ∷ 51 ∷ 53 ∷ 32 ∷ 48 ∷ 10 ∷ []
  -- "length (two bytes, high first), verdict, block": a block of two bytes, a block of 532, and an arrival of which one byte is there
  pub input_read :
      arrivals_in (0 ∷ 2 ∷ 5 ∷ 7 ∷ 8 ∷ 2 ∷ 20 ∷ 1 ∷ (replicate 532 6 ++ (0 ∷ [])))
      ≡ arrived (7 ∷ 8 ∷ []) 5 ∷ arrived (replicate 532 6) 1 ∷ unread ∷ []
  -- a length over the limit "is refused with 3, its verdict and bytes skipped; a cut arrival gets 3": lengths of 533 and 541
  pub overlong_skipped : arrivals_in (2 ∷ 21 ∷ 1 ∷ (replicate 533 6 ++ (0 ∷ 1 ∷ 4 ∷ 7 ∷ 0 ∷ 2 ∷ 1 ∷ 7 ∷ []))) ≡ unread ∷ arrived (7 ∷ []) 4 ∷ unread ∷ []
  pub longer_skipped : arrivals_in (2 ∷ 29 ∷ 1 ∷ (replicate 541 6 ++ (0 ∷ 1 ∷ 4 ∷ 7 ∷ []))) ≡ unread ∷ arrived (7 ∷ []) 4 ∷ []
  -- "A line stands for each delivery (lower slot first)": "5 1 3 7 2 9 0" and "5 1 3 7 5 65535 0"
  pub lower_slot_first :
      arrival_lines toy before (block 3 7 (toy (numbered 0) ∷ []) []) 1 5
      ≡ 53 ∷ 32 ∷ 49 ∷ 32 ∷ 51 ∷ 32 ∷ 55 ∷ 32 ∷ 50 ∷ 32 ∷ 57 ∷ 32 ∷ 48 ∷ 10
      ∷ 53 ∷ 32 ∷ 49 ∷ 32 ∷ 51 ∷ 32 ∷ 55 ∷ 32 ∷ 53 ∷ 32 ∷ 54 ∷ 53 ∷ 53 ∷ 51 ∷ 53 ∷ 32 ∷ 48 ∷ 10
      ∷ []
  -- "and each refused arrival; arrivals count from 0": verdict 0, a length of 533, a block of four bytes, and a cut arrival. "0 - - - - - 5", and 3
  -- for the others
  pub refused_counted :
      listing toy []
      (four_sites_input
      ++ (0 ∷ 5 ∷ 0 ∷ 0 ∷ 0 ∷ 0 ∷ 0 ∷ 0
      ∷ 2 ∷ 21 ∷ 1 ∷ (replicate 533 6
      ++ (0 ∷ 4 ∷ 1 ∷ 0 ∷ 0 ∷ 0 ∷ 0
      ∷ 0 ∷ 5 ∷ 1 ∷ 0 ∷ []))))
      ≡ names_text ++ (short_line 48 53 ++ (short_line 49 51 ++ (short_line 50 51 ++ short_line 51 51)))
  -- 18: a block that requests 1 and 2 in slot 3. "0 - - - - - 18"
  pub slot_twice :
      listing toy [] (four_sites_input ++ (0 ∷ 11 ∷ 1 ∷ 0 ∷ 0 ∷ 0 ∷ 0 ∷ 2 ∷ 3 ∷ 0 ∷ 1 ∷ 3 ∷ 0 ∷ 2 ∷ []))
      ≡ names_text ++ (48 ∷ 32 ∷ 45 ∷ 32 ∷ 45 ∷ 32 ∷ 45 ∷ 32 ∷ 45 ∷ 32 ∷ 45 ∷ 32 ∷ 49 ∷ 56 ∷ 10 ∷ [])
  -- "A setup that is short or unlawful gives, after the names, `- - - - - - 1` and the end": eight bytes; n 3
  pub setup_short : listing toy [] (4 ∷ replicate 7 0) ≡ names_text ++ short_line 45 49
  pub setup_unlawful : listing toy [] (3 ∷ (replicate 8 0 ++ (0 ∷ 5 ∷ 1 ∷ replicate 5 0))) ≡ names_text ++ short_line 45 49
