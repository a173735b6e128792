-- What the contracts of inner functions cite. Nothing here need be believed.
use Rattle.std.specs.Prelude.{◌+◌, length}
use Rattle.base.specs.Bytes.{Bytes}
use Rattle.run.specs.Run.{Site}
use Rattle.report.specs.Gathering.{piece_at, outcome_at}
use Rattle.report.specs.declared.Gathered.{Gathered}

-- what is gathered with one step more, where of the lines only their length is kept
abbrev pub advanced : (Bytes → Bytes) → Gathered → Site → Bytes → Gathered
advanced digest done x unread =
    record {
      state = (outcome_at digest done.state x done.used unread).state;
      used = done.used + length (piece_at done.state done.used unread);
      length = done.length + length (outcome_at digest done.state x done.used unread).lines;
    }
