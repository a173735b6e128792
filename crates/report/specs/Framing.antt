-- The listing one step at a time. A step gets a piece of the input: the bytes that the state before it wants, or fewer where the input ends. It gives
-- the next state and its lines, and a setup or a whole arrival changes what the site holds.
use Rattle.std.specs.Prelude.{cond, [], ◌++◌, ℕ, zero, suc, ◌+◌, ◌-◌, ◌*◌, ◌^◌, ◌%◌, min, eqb, ltb, leb, length, get_or, take, drop}
use Rattle.base.specs.Bytes.{Bytes}
use Rattle.setup.specs.Setup.{slot_count}
use Rattle.block.specs.Limits.{max_block_size}
use Rattle.table.specs.Fresh.{fresh_answer, fresh_in}
use Rattle.run.specs.Run.{Site}
use Rattle.report.specs.Text.{field_count, names, setup_line, unread_line}
use Rattle.report.specs.Arrivals.{setup_size, setup_in, length_size, verdict_size, block_length, overlong}
use Rattle.report.specs.Listing.{site_arrived, arrival_lines}
use Rattle.report.specs.declared.Expected.{Expected}
use Rattle.report.specs.declared.Expected.TheVariants.{Setup, Length, Block, Skip, End}
use Rattle.report.specs.declared.ListingState.{ListingState}
use Rattle.report.specs.declared.Stepped.{Stepped}

-- the length of the longest piece: a verdict and the longest block
abbrev pub piece_size : ℕ
piece_size = verdict_size + max_block_size

-- how many bytes the next step wants
unfoldable pub wanted_by : Expected → ℕ
wanted_by Setup = setup_size
wanted_by Length = length_size
wanted_by (Block size) = min (verdict_size + size) piece_size
wanted_by (Skip left) = min left piece_size
wanted_by End = 0

abbrev pub wanted : ListingState → ℕ
wanted s = wanted_by s.expected

-- ---- the next state, and the lines

-- arrivals are counted by numbers of 64 bits: after the last of these the count starts from 0 again
abbrev pub count_limit : ℕ
count_limit = 2 ^ 64

abbrev pub following : ℕ → ℕ
following arrival = suc arrival % count_limit

-- the state that expects this next, and in which the next arrival has this number
abbrev pub expecting : Expected → ℕ → ListingState
expecting expected arrival = record { expected = expected; arrivals = arrival }

-- the state before the first byte
abbrev pub start : ListingState
start = expecting Setup 0

-- what a step gives: the next state, and its lines
pub record Outcome : Type 0 where
  pub state : ListingState
  pub lines : Bytes

abbrev pub outcome_of : Expected → ℕ → Bytes → Outcome
outcome_of expected arrival lines = record { state = expecting expected arrival; lines = lines }

-- the step on a setup: the line of names, and behind it the refusal's line if making the lent table the empty one of this setup is refused
unfoldable pub setup_step : Bytes → Bytes → Outcome
setup_step table piece =
    cond (eqb (fresh_answer (setup_in piece) table).refusal 0)
    (outcome_of Length 0 names)
    (outcome_of End 0 (names ++ setup_line (fresh_answer (setup_in piece) table).refusal))

-- the step on the length of an arrival: nothing is left to read, or the arrival is cut, or it is too long, or its block of this length comes next
unfoldable pub length_step : ℕ → Bytes → Outcome
length_step arrival piece =
    cond (eqb (length piece) 0) (outcome_of End arrival [])
    (cond (ltb (length piece) length_size) (outcome_of End arrival (unread_line arrival))
    (cond (overlong piece)
    (outcome_of (Skip (verdict_size + block_length piece)) (following arrival) (unread_line arrival))
    (outcome_of (Block (block_length piece)) arrival [])))

-- the step on bytes that are skipped, `left` being how many are still to be skipped of an arrival that is too long
unfoldable pub skip_step : ℕ → ℕ → Bytes → Outcome
skip_step left arrival piece =
    cond (ltb (length piece) (wanted_by (Skip left))) (outcome_of End arrival [])
    (cond (leb left piece_size) (outcome_of Length arrival []) (outcome_of (Skip (left - piece_size)) arrival []))

module _ (digest : Bytes → Bytes) where
  -- the step on a verdict and a block of `size` bytes, or on fewer bytes of a cut arrival
  unfoldable pub block_step : ℕ → ℕ → Site → Bytes → Outcome
  block_step size arrival x piece =
      cond (ltb (length piece) (verdict_size + size)) (outcome_of End arrival (unread_line arrival))
      (outcome_of Length (following arrival) (arrival_lines digest x (take size (drop verdict_size piece)) (get_or piece 0 0) arrival))

  -- a step, by what is expected
  unfoldable pub step_by : Expected → ℕ → Site → Bytes → Outcome
  step_by Setup arrival x piece = setup_step x.table piece
  step_by Length arrival x piece = length_step arrival piece
  step_by (Block size) arrival x piece = block_step size arrival x piece
  step_by (Skip left) arrival x piece = skip_step left arrival piece
  step_by End arrival x piece = outcome_of End arrival []

  abbrev pub stepped : ListingState → Site → Bytes → Outcome
  stepped s x piece = step_by s.expected s.arrivals x piece

  -- ---- what a step leaves of the site

  unfoldable pub site_by : Expected → Site → Bytes → Site
  site_by Setup x piece = record { table = fresh_in (setup_in piece) x.table; records = x.records }
  site_by Length x piece = x
  site_by (Block size) x piece = cond (ltb (length piece) (verdict_size + size)) x (site_arrived digest x (take size (drop verdict_size piece)) (get_or piece 0 0))
  site_by (Skip left) x piece = x
  site_by End x piece = x

  abbrev pub site_stepped : ListingState → Site → Bytes → Site
  site_stepped s x piece = site_by s.expected x piece

  -- ---- the lines of several steps, joined

  -- the lines of so many steps on an input, from the state s and the site x on
  unfoldable pub run : ℕ → ListingState → Site → Bytes → Bytes
  run zero s x input = []
  run (suc turns) s x input =
      (stepped s x (take (wanted s) input)).lines
      ++ run turns (stepped s x (take (wanted s) input)).state (site_stepped s x (take (wanted s) input)) (drop (wanted s) input)

-- ---- how the lines are handed over

-- how many digits a number of 64 bits has at most
abbrev pub max_digits : ℕ
max_digits = 20

-- room for a field with the byte that ends it, for a line, and for the lines of a step
abbrev pub field_size : ℕ
field_size = max_digits + 1

abbrev pub line_size : ℕ
line_size = field_count * field_size

abbrev pub lines_size : ℕ
lines_size = slot_count * line_size

abbrev pub handed : Outcome → Stepped
handed o = record { state = o.state; lines = o.lines }
