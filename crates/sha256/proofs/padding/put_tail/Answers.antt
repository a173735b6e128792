-- `put_tail` meets its contract: the rest of the message, then the length at the end of the last block.
-- Assumes nothing.
use Prim.Native.Nat.{ℕ, ◌-◌, ◌*◌}
use mathlib.Core.Path.{◌≡◌, ap, ◌∙◌}
use mathlib.Core.List.{List}
use lib.ListN.{length, take, drop}
use Rattle.base.specs.Bytes.{splice}
use Rattle.sha256.specs.Sha256.{bytes_of, pad}
use Rattle.sha256.specs.Steps.{tail_blocks}
use Rattle.sha256.proofs.Bytes.{eight_bytes}
use Rattle.sha256.proofs.PaddedMessage.{whole, end, bits, rest, tail_is}
use Rattle.sha256.proofs.padding.put_tail.Goals as goal

tail_of : (m r r' b : List ℕ) (k : ℕ) → r ≡ rest m → k ≡ tail_blocks (length m) → b ≡ bytes_of 8 (bits m) → r' ≡ splice r (64 * k - 8) b → take (end m) r' ≡ drop (whole m) (pad m)
tail_of m r r' b k er ek eb e = rw (e, er, eb, ek) (tail_is m)

pub returns : goal.returns
returns c = tail_of c.args.message.now _ _ _ _ c.put_rest.ensures c.tail_blocks-end.ensures (c.to_be_bytes.ensures ∙ eight_bytes _ ∙ ap (bytes_of 8) c.bit_count.ensures) c.put.ensures
