-- `put_rest` meets its contract: a copy into 128 zeros, and one store behind it.
-- Assumes nothing.
use native.Mathlib.Omega.{arith}
use Prim.Native.Nat.{ℕ, suc, ◌+◌, ◌-◌, ◌<◌, ◌≤◌}
use mathlib.Core.Path.{◌≡◌, refl, ap, sym, ◌∙◌}
use mathlib.Core.List.{List, ◌∷◌, ◌++◌}
use lib.ListN.{length, take, drop, set, length-drop, length-replicate, replicate-append-replicate}
use lib.Seq.{take_all, drop_at, set_at}
use Rattle.base.specs.Bytes.{splice}
use Rattle.sha256.proofs.PaddedMessage.{zs}
use Rattle.sha256.proofs.padding.put_rest.Goals as goal
use Rattle.sha256.proofs.padding.put_rest.Goals.{Start}

zeros_from : (k : ℕ) → k < 128 → drop k (zs 128) ≡ 0 ∷ zs (127 - k)
zeros_from k h =
    let e : 128 ≡ k + suc (127 - k) = omega arith in
    ap (λ (n : ℕ). drop k (zs n)) e ∙ ap (drop k) (sym (replicate-append-replicate k (suc (127 - k)) 0))
    ∙ drop_at (zs k) (0 ∷ zs (127 - k)) k (length-replicate k 0)

-- `out` is what 128 zeros are with p put to their front
placed : (p out : List ℕ) (n : ℕ) → length p < 128 → n ≡ length p → out ≡ splice (zs 128) 0 p → set out n 0x80 ≡ p ++ (0x80 ∷ zs (127 - length p))
unfolding splice
placed p out n h e o =
    let k : 0 + length p ≡ length p = omega arith in
    let o' : out ≡ p ++ (0 ∷ zs (127 - length p)) = rw (k, zeros_from (length p) h) at o in
    ap (λ (l : List ℕ). set l n 0x80) o' ∙ set_at p 0 (zs (127 - length p)) 0x80 n (sym e)

rest : (m tail out : List ℕ) (at n : ℕ) → at ≤ length m → length m < at + 64 → tail ≡ zs 128 → n ≡ length m - at
    → out ≡ splice tail 0 (take (length m - at) (drop at m)) → set out n 0x80 ≡ drop at m ++ (0x80 ∷ zs (127 - (length m - at)))
rest m tail out at n a b z e o =
    let l : length (drop at m) ≡ length m - at = length-drop at m in
    let p : take (length m - at) (drop at m) ≡ drop at m = take_all (length m - at) (drop at m) (omega arith) in
    placed (drop at m) out n (omega arith) (e ∙ sym l) (rw (p, z) at o) ∙ rw l

pub returns : goal.returns
returns c = rest c.args.message.now c.args.tail.now _ c.args.at _ c.requires.0 c.requires.1 c.requires.2 refl c.put.ensures
