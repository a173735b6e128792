-- The watch: document 01, "Watch for forks", on small tables. `four` holds two forks of site 0 at places 0 and 1, a block of site 3 that refers to
-- place 1 at place 2, and site 3's next block, which refers to places 0 and 2, at place 3.
use Rattle.std.specs.Prelude.{◌≡◌, Bool, true, false, cond, ℕ, suc, ◌+◌, eqb}
use Rattle.base.specs.Bytes.{Bytes}
use Rattle.table.specs.View.{Row}
use Rattle.table.specs.Layout.{site_offset, sequence_offset, row_start, layout}
use Rattle.watch.specs.Forks.{forks}
use Rattle.watch.specs.Ancestors.{ancestors}
use Rattle.watch.specs.declared.ForkedSites.{ForkedSites}
use Rattle.watch.specs.declared.AncestorPlaces.{AncestorPlaces}
use Rattle.cases.specs.Toy.{toy}
use Rattle.cases.specs.Blocks.{sites, fresh, unlawful, numbered, four}
use Rattle.cases.specs.Form.{changed, referring, with_mark_at}

-- what `forks` answers: a mask of sites, how many they are, and whether that is at most f
abbrev pub naming : ℕ → ℕ → Bool → ForkedSites
naming mask count few = record { refusal = 0; sites = mask; count = count; at_most_f = few }

-- what `ancestors` answers: a mask of places, and how many they are
abbrev pub resting : ℕ → ℕ → AncestorPlaces
resting mask count = record { refusal = 0; places = mask; count = count }

-- the row of an interpreted block without requests at place i, of this site, sequence number and references
abbrev pub interpreted_row : ℕ → ℕ → ℕ → (ℕ → Bool) → Row
interpreted_row i site sequence refers =
    record { digest = toy (numbered i); site = site; sequence = sequence; refers_to = refers; request = λ slot. 0; mark = 1 }

-- a table that has retired something and holds two blocks of site 0, of these sequence numbers
unfoldable pub two_of : ℕ → ℕ → Bytes
two_of one other = layout (sites 4) (record { retired = 1; held = 2; row = λ i. interpreted_row i 0 (cond (eqb i 0) one other) (λ j. false) })

-- a table that holds four blocks of site 0, each after the one before
unfoldable pub four_in_row : Bytes
four_in_row = layout (sites 4) (record { retired = 0; held = 4; row = λ i. interpreted_row i 0 i (λ j. eqb (suc j) i) })

pub record WatchCases : Type 0 where
  pub nobody : forks fresh ≡ naming 0 0 true
  -- of four sites one may fork: site 0 has forked; then site 3 too, where its second block has sequence number 0
  pub one : forks four ≡ naming 1 1 true
  pub two : forks (changed four (row_start 3 + sequence_offset + 1) 0) ≡ naming 9 2 false
  -- a fork is named also where its blocks are interpreted
  pub interpreted_too : forks (with_mark_at (with_mark_at four 0 1) 1 1) ≡ naming 1 1 true
  -- two blocks of one sequence number but of two sites are no fork, nor are two blocks of one site with two sequence numbers
  pub other_site : forks (changed four (row_start 1 + site_offset) 1) ≡ naming 0 0 true
  pub other_sequence : forks (changed (referring four 1 1) (row_start 1 + sequence_offset + 1) 1) ≡ naming 0 0 true
  -- "one sequence number": both of its bytes are compared
  pub other_high_byte : forks (two_of 1 257) ≡ naming 0 0 true
  pub other_low_byte : forks (two_of 257 258) ≡ naming 0 0 true
  pub both_bytes : forks (two_of 257 257) ≡ naming 1 1 true
  pub not_in_form : forks unlawful ≡ record { refusal = 2; sites = 0; count = 0; at_most_f = false }
  -- the ancestors of a place without references; with one reference; with two references, one of which has a reference
  pub nothing : ancestors four 0 ≡ resting 0 0
  pub direct : ancestors four 2 ≡ resting 2 1
  pub further : ancestors four 3 ≡ resting 7 3
  -- the first of four blocks in a row is three references away from the last
  pub three_away : ancestors four_in_row 3 ≡ resting 7 3
  -- 2: table not in form; 13: place not below count
  pub no_form : ancestors unlawful 0 ≡ record { refusal = 2; places = 0; count = 0 }
  pub not_held : ancestors four 4 ≡ record { refusal = 13; places = 0; count = 0 }
