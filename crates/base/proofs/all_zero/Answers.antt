-- `all_zero` meets its contract: the bytes are joined bit by bit. Assumes nothing.
use mathlib.Core.Path.{◌≡◌}
use borrow.Author.Rules.{rules}
use Rattle.std.specs.Prelude.{fold, bit_or}
use Rattle.std.proofs.iter.runs.Made.{chains}
use Rattle.base.proofs.Bytes.{no_bit}
use Rattle.base.proofs.all_zero.Goals as goal

pub returns : goal.returns
returns c =
    let e : c.fold.result ≡ fold bit_or 0 c.args.bytes.now = search (rules, chains) in
    rw e (no_bit c.args.bytes.now 0)
