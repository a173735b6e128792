use native.Mathlib.Omega.{arith}
use native.Mathlib.Numerals.{add-one}
use Prim.Native.Nat.{ℕ, ◌+◌, ◌*◌, ◌≤◌, ◌<◌}
use mathlib.Core.Path.{◌≡◌, refl, sym, ap, ◌∙◌}
use mathlib.Core.List.{List, [], ◌∷◌, ◌++◌}
use lib.ListN.{length, get_or, take}
use lib.Seq.{take-suc, take_all}
use Rattle.base.specs.Bytes.{splice}
use Rattle.base.proofs.Splice.{take_splice}
use Rattle.sha256.proofs.Bytes.{four_bytes}
use Rattle.sha256.specs.Sha256.{bytes_of, word_bytes, bytes}
use borrow.Author.Rules.{rules}
use Rattle.sha256.proofs.bytes_of.Goals as goal

word_bytes_last : (ws : List ℕ) (w : ℕ) → word_bytes (ws ++ (w ∷ [])) ≡ word_bytes ws ++ bytes_of 4 w
unfolding word_bytes
word_bytes_last [] w = refl
word_bytes_last (v ∷ ws) w = rw (word_bytes_last ws w)

step : (ws out out' : List ℕ) (i : ℕ) → i < length ws → 4 * i ≤ length out → take (4 * i) out ≡ word_bytes (take i ws)
    → out' ≡ splice out (4 * i) (bytes_of 4 (get_or ws i 0)) → take (4 * (i + 1)) out' ≡ word_bytes (take (i + 1) ws)
step ws out out' i h l e p =
    let k : 4 * (i + 1) ≡ 4 * i + 4 = omega arith in
    rw (k, p, take_splice out (4 * i) (bytes_of 4 (get_or ws i 0)) l, e, add-one, take-suc ws i 0 h, word_bytes_last)

pub loop-i-init : goal.loop-i-init
unfolding word_bytes
loop-i-init c = (refl, refl)

pub loop-i-preserved : goal.loop-i-preserved
loop-i-preserved c =
    let l = c.loop-i in
    (search rules, step _ l.out _ l.i (omega arith) (omega arith) l.invariant.1 (c.put.ensures ∙ ap (splice l.out (4 * l.i)) (c.to_be_bytes.ensures ∙ four_bytes _)))

pub returns : goal.returns
unfolding bytes
returns c =
    let l = c.loop-i in
    let e : l.i ≡ 8 = omega arith in
    sym (take_all 32 l.out (omega arith)) ∙ rw e at l.invariant.1
