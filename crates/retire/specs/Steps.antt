-- What the contracts of inner functions cite. Nothing here need be believed.
use Rattle.std.specs.Prelude.{Bool, ◌&&◌, ℕ, eqb, ltb}
use Rattle.base.specs.Bytes.{Bytes}
use Rattle.table.specs.Layout.{site_at, sequence_at, mark_at}

-- place i holds an interpreted block of this site, with a sequence number greater than this one
abbrev pub follows_one : Bytes → ℕ → ℕ → ℕ → Bool
follows_one t site sequence i = eqb (site_at t i) site && (eqb (mark_at t i) 1 && ltb sequence (sequence_at t i))
