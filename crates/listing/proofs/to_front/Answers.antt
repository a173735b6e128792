-- `to_front` meets its contract: the bytes from `used` to `count` stand at the front. Assumes nothing.
use Rattle.std.proofs.Common.{◌≡◌, ℕ, ◌+◌, ◌-◌, ◌≤◌, length, take, drop, sym, ap, ◌∙◌, arith}
use Rattle.std.proofs.lemmas.List.{drop-take}
use lib.ListN.{length-take, length-drop}
use Rattle.std.specs.List.{copy_within}
use Rattle.base.specs.Bytes.{Bytes, splice}
use Rattle.listing.proofs.to_front.Goals as goal

-- what copying the bytes from `used` to `count` to the front leaves
moved : (b : Bytes) (used count : ℕ) → used ≤ count → count ≤ length b → copy_within b used count 0 ≡ splice b 0 (drop used (take count b))
unfolding splice
moved b used count low high =
    let whole : used + (count - used) ≡ count = omega arith in
    let left : take (count - used) (drop used b) ≡ drop used (take count b) =
    sym (drop-take used (count - used) b) ∙ ap (λ (n : ℕ). drop used (take n b)) whole in
    let size : length (drop used (take count b)) ≡ count - used = omega (arith, length-drop used (take count b), length-take count b) in
    rw (left, size)

pub returns : goal.returns
returns c = c.copy_within.ensures.after ∙ moved _ _ _ c.requires.0 c.requires.1
