-- Document 01, "Watch for forks": the sites with two held blocks of one sequence number. `seen` says which places are looked at: the watch looks at
-- every place, and so does a site that builds its next block.
use Rattle.std.specs.Prelude.{Bool, false, cond, ◌&&◌, ℕ, eqb, leb, ltb, Result, Ok, Err}
use Rattle.std.specs.Int.Count.{ones}
use Rattle.base.specs.Search.{any_below}
use Rattle.base.specs.Mask.{mask_below}
use Rattle.base.specs.Bytes.{Bytes}
use Rattle.answer.specs.declared.Refusal.{Refusal}
use Rattle.answer.specs.Refusals.{refusal_number}
use Rattle.setup.specs.Setup.{Setup, faults}
use Rattle.table.specs.View.{max_places, View}
use Rattle.table.specs.Layout.{setup_of, view_of}
use Rattle.table.specs.Form.{in_form}
use Rattle.watch.specs.declared.ForkReport.{ForkReport}
use Rattle.watch.specs.declared.ForkedSites.{ForkedSites}

-- every place is looked at
abbrev pub everywhere : ℕ → Bool
everywhere i = ltb i max_places

module _ (v : View) (seen : ℕ → Bool) where
  -- place i is looked at and holds a block of site p
  abbrev pub of_site : ℕ → ℕ → Bool
  of_site p i = seen i && eqb (v.row i).site p

  -- place i is looked at and holds a block of site p with this sequence number
  abbrev pub of_sequence : ℕ → ℕ → ℕ → Bool
  of_sequence p sequence i = of_site p i && eqb (v.row i).sequence sequence

  -- place i holds a block of site p, and a lower place holds a block of site p with the same sequence number
  abbrev pub sequence_repeated_at : ℕ → ℕ → Bool
  sequence_repeated_at p i = of_site p i && any_below (of_sequence p (v.row i).sequence) i

  -- "two held blocks of one sequence number", both of site p
  unfoldable pub forked_in : ℕ → Bool
  forked_in p = any_below (sequence_repeated_at p) v.held

-- "the mask of sites with two held blocks of one sequence number"
abbrev pub forked_mask : Setup → View → ℕ
forked_mask s v = mask_below (forked_in v everywhere) s.sites

-- "its count of ones, and whether that is at most f"
abbrev pub reported : Setup → ℕ → ForkedSites
reported s mask = record { refusal = 0; sites = mask; count = ones mask; at_most_f = leb (ones mask) (faults s.sites) }

-- what `forks` answers; 2: table not in form, beside which all else is 0 and false
unfoldable pub forks : Bytes → ForkedSites
forks t =
    cond (in_form t)
    (reported (setup_of t) (forked_mask (setup_of t) (view_of t)))
    (record { refusal = 2; sites = 0; count = 0; at_most_f = false })

-- what programs in C get: a refusal by its number, beside which all else is 0 and false
abbrev pub forked_sites : Result ForkReport Refusal → ForkedSites
forked_sites (Ok r) = record { refusal = 0; sites = r.sites; count = r.count; at_most_f = r.at_most_f }
forked_sites (Err refusal) = record { refusal = refusal_number refusal; sites = 0; count = 0; at_most_f = false }
