-- The listing of bytes that come in parts. Steps are made on the bytes that came, one after the other, as long as the next step is due; the bytes
-- that no step got stay unread, and the next part comes behind them.
use Rattle.std.specs.Prelude.{Bool, true, false, ◌&&◌, ◌||◌, List, [], ◌∷◌, ◌++◌, ℕ, zero, suc, ◌+◌, ◌-◌, leb, ltb, length, take, drop}
use Rattle.base.specs.Bytes.{Bytes}
use Rattle.run.specs.Run.{Site}
use Rattle.report.specs.Framing.{wanted, Outcome, start, stepped, site_stepped, lines_size}
use Rattle.report.specs.declared.ListingState.{ListingState}
use Rattle.report.specs.declared.Gathered.{Gathered}

-- a site, by its lent table and records
abbrev pub lent_site : Bytes → List ℕ → Site
lent_site table records = record { table = table; records = records }

-- what the steps so far came to: the next state, the site, how many of the unread bytes they used, their lines, and how many they were
pub record Gathering : Type 0 where
  pub state : ListingState
  pub site : Site
  pub used : ℕ
  pub lines : Bytes
  pub steps : ℕ

-- before the first step
abbrev pub no_steps : ListingState → Site → Gathering
no_steps s x = record { state = s; site = x; used = 0; lines = []; steps = 0 }

-- whether the next step is due, where `left` bytes are unread and the output has room for `room` more: the listing is not at its end; the bytes that
-- the step wants are there, or no more will come; and there is room for a step's lines
unfoldable pub is_due : Bool → ListingState → ℕ → ℕ → Bool
is_due is_ended s left room = ltb 0 (wanted s) && ((leb (wanted s) left || is_ended) && leb lines_size room)

-- the piece that the next step gets, where `used` of the unread bytes have been used
abbrev pub piece_at : ListingState → ℕ → Bytes → Bytes
piece_at s used unread = take (wanted s) (drop used unread)

-- how far a listing has come, between two turns: the state, the site, the bytes that no step got yet, and all lines so far
pub record Progress : Type 0 where
  pub state : ListingState
  pub site : Site
  pub unread : Bytes
  pub lines : Bytes

-- how far a listing has come, with the site by its table and records
abbrev pub progress : ListingState → Bytes → List ℕ → Bytes → Bytes → Progress
progress s table records unread lines = record { state = s; site = lent_site table records; unread = unread; lines = lines }

-- how far a listing has come before the first byte
abbrev pub nothing_read : Site → Progress
nothing_read x = record { state = start; site = x; unread = []; lines = [] }

module _ (digest : Bytes → Bytes) where
  -- the outcome of the next step, and the site after it, where `used` of the unread bytes have been used
  abbrev pub outcome_at : ListingState → Site → ℕ → Bytes → Outcome
  outcome_at s x used unread = stepped digest s x (piece_at s used unread)

  abbrev pub site_stepped_at : ListingState → Site → ℕ → Bytes → Site
  site_stepped_at s x used unread = site_stepped digest s x (piece_at s used unread)

  -- where these bytes are unread, `is_ended` says whether no more will come, and the output has this size
  module _ (unread : Bytes) (is_ended : Bool) (size : ℕ) where
    abbrev pub due : Gathering → Bool
    due g = is_due is_ended g.state (length unread - g.used) (size - length g.lines)

    -- what the steps come to with one step more
    abbrev pub one_more : Gathering → Gathering
    one_more g =
        record {
          state = (outcome_at g.state g.site g.used unread).state;
          site = site_stepped_at g.state g.site g.used unread;
          used = g.used + length (piece_at g.state g.used unread);
          lines = g.lines ++ (outcome_at g.state g.site g.used unread).lines;
          steps = suc g.steps;
        }

    -- what the steps come to with all further steps, as long as the next step is due, and at most `most`
    unfoldable pub gather_on : ℕ → Gathering → Gathering
    gather_on zero g = g
    gather_on (suc most) g = elim (due g) [ true ↦ gather_on most (one_more g) | false ↦ g ]

    -- all steps that are due from the state s on. Every step takes at least one byte, or gets fewer than it wants and so is the last: one step more
    -- than there are bytes is enough
    unfoldable pub gathering : ListingState → Site → Gathering
    gathering s x = gather_on (suc (length unread)) (no_steps s x)

  -- ---- an input that comes in parts

  -- where the output has this size
  module _ (size : ℕ) where
    -- one turn: all steps that are due are made, and then the next part, which may have no bytes, comes behind the unread bytes
    abbrev pub turn : Bool → Progress → Bytes → Progress
    turn is_ended p part =
        record {
          state = (gathering p.unread is_ended size p.state p.site).state;
          site = (gathering p.unread is_ended size p.state p.site).site;
          unread = drop (gathering p.unread is_ended size p.state p.site).used p.unread ++ part;
          lines = p.lines ++ (gathering p.unread is_ended size p.state p.site).lines;
        }

    -- a turn for each part, each while more may come
    unfoldable pub turns : Progress → List Bytes → Progress
    turns p [] = p
    turns p (part ∷ parts) = turns (turn false p part) parts

    -- k turns after the last part, when no more will come
    unfoldable pub last_turns : ℕ → Progress → Progress
    last_turns zero p = p
    last_turns (suc k) p = last_turns k (turn true p [])

-- ---- how the outcome is handed over

abbrev pub gathered_of : Gathering → Gathered
gathered_of g = record { state = g.state; used = g.used; length = length g.lines }
