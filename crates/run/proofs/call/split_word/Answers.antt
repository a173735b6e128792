-- `split_word` meets its contract: the first eight bytes are those of the number. Assumes nothing.
use mathlib.Core.Path.{◌≡◌, ap, ◌∙◌}
use native.Mathlib.Omega.{arith}
use lib.ListN.{length}
use lib.Seq.{length-take-le}
use Rattle.base.specs.LowFirst.{word_size, low_first}
use Rattle.base.proofs.Words.{word_of_low_first}
use Rattle.run.proofs.call.split_word.Goals as goal

pub returns : goal.returns
returns c =
    let e = c.in_ok-word.ensures.cases in
    let l : length c.in_ok-word.word.now ≡ word_size = ap length e.0 ∙ length-take-le word_size c.args.bytes.now (omega (arith, e.2)) in
    (omega (arith, e.2), c.from_le_bytes.ensures ∙ word_of_low_first c.in_ok-word.word.now l ∙ ap low_first e.0, e.1)
