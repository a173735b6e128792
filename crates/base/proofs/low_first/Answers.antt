-- `low_first` meets its contract: the zeros behind the bytes change nothing. Assumes nothing.
use mathlib.Core.Path.{◌≡◌, ap, ◌∙◌}
use mathlib.Core.List.{◌++◌}
use Prim.Native.Nat.{ℕ, ◌+◌, ◌-◌}
use borrow.Author.Rules.{rules}
use lib.ListN.{length, replicate}
use Rattle.std.proofs.lemmas.List.{drop-replicate}
use Rattle.base.specs.Bytes.{Bytes, splice}
use Rattle.base.specs.LowFirst.{word_size, low_first}
use Rattle.base.proofs.LowFirst.{low_first_padded}
use Rattle.base.proofs.Words.{word_of_low_first}
use Rattle.base.proofs.low_first.Goals as goal

-- bytes over the front of so many zeros
over_zeros : (b : Bytes) (k : ℕ) → low_first (splice (replicate k 0) 0 b) ≡ low_first b
unfolding splice
over_zeros b k = ap (λ (rest : Bytes). low_first (b ++ rest)) (drop-replicate (0 + length b) k 0) ∙ low_first_padded b (k - (0 + length b))

pub returns : goal.returns
returns c = c.from_le_bytes.ensures ∙ word_of_low_first _ (search rules) ∙ ap low_first c.put.ensures ∙ over_zeros c.args.bytes.now word_size
