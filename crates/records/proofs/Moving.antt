-- The parts of a buffer one place lower, and what moves them. Assumes nothing.
use mathlib.Core.Path.{◌≡◌, sym, ap, ◌∙◌}
use mathlib.Core.List.{List, ◌++◌}
use Prim.Native.Nat.{ℕ, suc, ◌+◌, ◌-◌, ◌*◌, ◌≤◌, ◌<◌}
use native.Mathlib.Omega.{arith}
use lib.ListN.{length, take, drop, length-drop}
use lib.Seq.{drop-drop, length-take-le}
use Rattle.std.specs.List.{copy_within}
use Rattle.base.specs.Bytes.{splice}
use Rattle.base.proofs.Parts.{part_of_front}
use Rattle.base.proofs.Splice.{drop_splice, take_splice, length_splice}
use Rattle.table.specs.View.{max_places}
use Rattle.records.specs.Layout.{part_size, buffer_size, part_start}
use Rattle.records.specs.Moving.{moved_parts, Moved}

module _ (buffer : List ℕ) (k : ℕ) (whole : length buffer ≡ buffer_size) (some : 0 < k) (few : k ≤ max_places) where
  abbrev part : List ℕ
  part = take (part_start (k - 1)) (drop part_size buffer)

  part_length : length part ≡ part_start (k - 1)
  part_length = length-take-le (part_start (k - 1)) (drop part_size buffer) (omega (arith, length-drop part_size buffer))

  front : take (0 + length part) (splice buffer 0 part) ≡ part
  front = take_splice buffer 0 part (omega arith)

  pub moved : Moved buffer (moved_parts buffer k) k
  unfolding moved_parts
  moved =
      record {
        size = length_splice buffer 0 part (omega (arith, part_length));
        lower = λ i h.
            sym (part_of_front (part_start i) part_size (0 + length part) (splice buffer 0 part) (omega (arith, part_length)))
            ∙ ap (λ (l : List ℕ). take part_size (drop (part_start i) l)) front
            ∙ part_of_front (part_start i) part_size (part_start (k - 1)) (drop part_size buffer) (omega arith)
            ∙ ap (take part_size) (drop-drop (part_start i) part_size buffer ∙ ap (λ (n : ℕ). drop n buffer) (next i));
        rest =
            let n : part_start (k - 1) ≡ 0 + length part + 0 = omega (arith, part_length) in
            ap (λ (m : ℕ). drop m (splice buffer 0 part)) n ∙ drop_splice buffer 0 part (omega arith) 0 ∙ ap (λ (m : ℕ). drop m buffer) (sym n);
      }
    where
      next : (i : ℕ) → part_size + part_start i ≡ part_start (suc i)
      next i = omega arith

  -- what copying all parts but the first to the front leaves
  pub moved_down : copy_within buffer part_size (part_size * k) 0 ≡ moved_parts buffer k
  unfolding moved_parts splice
  moved_down =
      let size : part_size * k - part_size ≡ part_start (k - 1) = omega arith in
      ap (λ (n : ℕ). take n (drop part_size buffer) ++ drop (0 + n) buffer) size ∙ ap (λ (n : ℕ). part ++ drop (0 + n) buffer) (sym part_length)
