-- References that are put behind others one after the other, as long as there is room: they are the digests of the first places, as many as there is
-- room for. Assumes nothing.
use mathlib.Core.Path.{◌≡◌, refl, sym, ap, ◌∙◌}
use mathlib.Core.List.{List, [], ◌∷◌, ◌++◌, map, append_assoc, append-nil}
use Prim.Native.Nat.{ℕ, suc, ◌+◌, ◌-◌, ◌*◌, ◌≤◌, ◌<◌}
use native.Mathlib.Decide.{dec_lt}
use native.Mathlib.Omega.{arith}
use lib.ListN.{length, get_or, take, drop, length-append, length-map, length-drop}
use lib.Seq.{take_all, length-take-le}
use borrow.Author.Tests.{lt-ltb, le-ltb}
use Rattle.base.specs.Bytes.{Bytes, concat}
use Rattle.base.proofs.List.{map_at}
use Rattle.base.proofs.Parts.{length_joined}
use Rattle.block.specs.Limits.{reference_size, max_references}
use Rattle.table.specs.View.{max_places}
use Rattle.table.specs.Layout.{table_size, row_start, digest_at}
use Rattle.build.specs.Steps.{with_reference, digests_of, with_digests}

abbrev pub AllPlaces : List ℕ → Type 0
AllPlaces ps = (i : ℕ) → i < length ps → get_or ps i 0 < max_places

-- some places, and then others
pub put_append : (t : Bytes) (ps qs : List ℕ) (references : Bytes) → with_digests t (ps ++ qs) references ≡ with_digests t qs (with_digests t ps references)
unfolding with_digests
put_append t [] qs references = refl
put_append t (i ∷ ps) qs references = put_append t ps qs (with_reference references (digest_at t i))

module _ (t : Bytes) (size : length t ≡ table_size) where
  pub digest_size : (i : ℕ) → i < max_places → length (digest_at t i) ≡ reference_size
  digest_size i h = length-take-le reference_size (drop (row_start i) t) (omega (arith, length-drop (row_start i) t))

  pub digests_size : (ps : List ℕ) → AllPlaces ps → length (digests_of t ps) ≡ reference_size * length ps
  digests_size ps h =
      length_joined reference_size (map (digest_at t) ps)
      (λ i l.
      let k : i < length ps = omega (arith, length-map ps (digest_at t)) in
      ap length (map_at (digest_at t) ps i 0 [] k) ∙ digest_size (get_or ps i 0) (h i k))
      ∙ ap (λ (n : ℕ). reference_size * n) (length-map ps (digest_at t))

  -- behind k references
  pub put_is : (ps : List ℕ) (k : ℕ) (references : Bytes) → AllPlaces ps → k ≤ max_references → length references ≡ reference_size * k
      → with_digests t ps references ≡ references ++ digests_of t (take (max_references - k) ps)
  unfolding with_digests concat
  put_is [] k references h few e =
      let none : take {A = ℕ} (max_references - k) [] ≡ [] = take_all (max_references - k) [] (omega arith) in
      rw none (sym (append-nil references))
  put_is (i ∷ ps) k references h few e =
      let rest : AllPlaces ps = λ j l. h (suc j) (omega arith) in
      let d : Bytes = digest_at t i in
      elim (dec_lt k max_references) [
        | yes l ↦
            let room = lt-ltb (length references) (reference_size * max_references) (omega (arith, e)) in
            let left : max_references - k ≡ suc (max_references - (k + 1)) = omega arith in
            let longer : length (references ++ d) ≡ reference_size * (k + 1) = omega (arith, e, length-append references d, digest_size i (h 0 (omega arith))) in
            rw (room, put_is ps (k + 1) (references ++ d) rest (omega arith) longer, left) (append_assoc references d (digests_of t (take (max_references - (k + 1)) ps)))
        | no n ↦
            let full = le-ltb (length references) (reference_size * max_references) (omega (arith, e)) in
            let none : max_references - k ≡ 0 = omega arith in
            rw (full, put_is ps k references rest few e, none)
      ]
