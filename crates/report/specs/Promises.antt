-- What all steps of a listing promise together, also where the input comes in parts; proofs/Promises.antt shows it for every digest, and so for
-- SHA-256.
use Rattle.std.specs.Prelude.{◌≡◌, Bool, true, false, ◌⊎◌, List, [], ◌++◌, ℕ, ◌+◌, ◌-◌, ◌≤◌, ◌<◌, length, drop}
use Rattle.base.specs.Bytes.{Bytes, concat}
use Rattle.table.specs.Layout.{table_size}
use Rattle.run.specs.Run.{Site}
use Rattle.report.specs.Listing.{listing}
use Rattle.report.specs.Framing.{piece_size, wanted, count_limit, start, run, lines_size}
use Rattle.report.specs.Gathering.{Gathering, gathering, nothing_read, turns, last_turns}
use Rattle.report.specs.declared.ListingState.{ListingState}

-- the next step is not due: the listing is at its end, or fewer bytes are unread than it wants and more may come, or the output lacks room
abbrev pub Stopped : Bytes → Bool → ℕ → Gathering → Type 0
Stopped unread is_ended size g =
    (wanted g.state ≡ 0)
    ⊎ (((length unread - g.used < wanted g.state) × (is_ended ≡ false))
    ⊎ (size - length g.lines < lines_size))

module _ (digest : Bytes → Bytes) where
  pub record Promises : Type 0 where
    -- the lines of the steps, joined, are the listing of the whole input. The lent table is of a table's length and may hold anything; the record
    -- buffer may be of any length and content. Every step but the last takes a byte, so one step more than there are bytes is enough, and further
    -- steps write nothing
    pub listed : (input : Bytes) (x : Site) (turns : ℕ) → length input < count_limit → length x.table ≡ table_size → length input < turns
        → run digest turns start x input ≡ listing digest x.records input
    -- gathering loses no byte and uses none twice: a run of steps on the unread bytes, with `more` behind them, writes the lines that are gathered,
    -- and then what a run writes from the state that is reached, on the bytes that no step used, with `more` behind them. Where `is_ended` says that
    -- no more will come, `more` is empty
    pub gathered : (unread more : Bytes) (is_ended : Bool) (size : ℕ) (s : ListingState) (x : Site) (turns : ℕ) → (is_ended ≡ true → more ≡ [])
        → run digest ((gathering digest unread is_ended size s x).steps + turns) s x (unread ++ more)
        ≡ (gathering digest unread is_ended size s x).lines
        ++ run digest turns (gathering digest unread is_ended size s x).state (gathering digest unread is_ended size s x).site
        (drop (gathering digest unread is_ended size s x).used unread ++ more)
    -- no more bytes are used than are unread
    pub used_there : (unread : Bytes) (is_ended : Bool) (size : ℕ) (s : ListingState) (x : Site) → (gathering digest unread is_ended size s x).used ≤ length unread
    -- gathering stops only where the next step is not due
    pub all_due : (unread : Bytes) (is_ended : Bool) (size : ℕ) (s : ListingState) (x : Site) → Stopped unread is_ended size (gathering digest unread is_ended size s x)
    -- an input that comes in parts, however it is cut, and whatever the output's size: once a state is reached that wants nothing, the lines of all
    -- turns, joined, are the listing of the parts, joined. Input and table are as `listed` asks
    pub listed_in_parts : (parts : List Bytes) (x : Site) (size last : ℕ) → length (concat parts) < count_limit → length x.table ≡ table_size
        → wanted (last_turns digest size last (turns digest size (nothing_read x) parts)).state ≡ 0
        → (last_turns digest size last (turns digest size (nothing_read x) parts)).lines ≡ listing digest x.records (concat parts)
    -- a state that wants nothing is reached: where the output has room for a step's lines, one turn more than there are bytes, after the last part,
    -- is enough
    pub reached : (parts : List Bytes) (x : Site) (size last : ℕ) → lines_size ≤ size → length (concat parts) < last
        → wanted (last_turns digest size last (turns digest size (nothing_read x) parts)).state ≡ 0
    -- no step asks for more than a verdict and the longest block
    pub small : (s : ListingState) → wanted s ≤ piece_size
