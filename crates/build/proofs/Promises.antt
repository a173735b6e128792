-- Building keeps its promises, whichever places are looked at. Assumes nothing.
use mathlib.Core.Path.{◌≡◌, sym, ap, ◌∙◌, subst}
use mathlib.Core.Bool.{Bool}
use mathlib.Core.Logic.{inl}
use Prim.Native.Nat.{ℕ, ◌+◌}
use native.Mathlib.Omega.{arith}
use lib.ListN.{length, take, drop}
use Rattle.base.specs.Bytes.{Bytes, splice}
use Rattle.base.proofs.Splice.{splice_part_in, drop_splice}
use Rattle.table.specs.Layout.{view_of}
use Rattle.build.specs.Building.{next_block, built_from}
use Rattle.build.specs.Promises.{Admissible, answer, output_after, Promised}
use Rattle.build.proofs.NextContent.{next_reads}
use Rattle.build.proofs.Causes.{two, four, three, six, first_bad_lem, eighteen, first_slot, sixteen, thirty, seventeen, none, value, no_value}
use Rattle.build.proofs.Admission.{next_admissible}

module _ (seen : ℕ → Bool) (t : Bytes) (p : ℕ) (requests output : Bytes) (done : (answer seen t p requests output).refusal ≡ 0) where
  abbrev block : Bytes
  block = next_block seen (view_of t) p requests

  -- what a success leaves
  written : output_after seen t p requests output ≡ splice output 0 block
  unfolding built_from
  written = rw done

  front : take (length block) (output_after seen t p requests output) ≡ block
  front = ap (take (length block)) written ∙ splice_part_in output 0 block (omega arith)

  -- the block that building hands out
  pub built_block : take (answer seen t p requests output).value (output_after seen t p requests output) ≡ block
  built_block = ap (λ (n : ℕ). take n (output_after seen t p requests output)) (value seen t p requests output (inl done)) ∙ front

  rest : drop (length block) (output_after seen t p requests output) ≡ drop (length block) output
  rest =
      let e : length block ≡ 0 + length block + 0 = omega arith in
      ap (drop (length block)) written ∙ ap (λ (n : ℕ). drop n (splice output 0 block)) e ∙ drop_splice output 0 block (omega arith) 0 ∙ ap (λ (n : ℕ). drop n output) (sym e)

pub promised : (seen : ℕ → Bool) (t : Bytes) (p : ℕ) (requests output : Bytes) → Promised seen t p requests output
promised seen t p requests output =
    record {
      two = two seen t p requests output;
      four = four seen t p requests output;
      three = three seen t p requests output;
      six = six seen t p requests output;
      first_bad = first_bad_lem seen t p requests output;
      eighteen = eighteen seen t p requests output;
      first_slot = first_slot seen t p requests output;
      sixteen = sixteen seen t p requests output;
      thirty = thirty seen t p requests output;
      seventeen = seventeen seen t p requests output;
      none = none seen t p requests output;
      value = value seen t p requests output;
      no_value = no_value seen t p requests output;
      read = λ all all_requests e.
          rw (front seen t p requests output e) (let last = ((none seen t p requests output).0 e).0 in next_reads seen t p requests all all_requests last.able.asked last.within);
      rest = rest seen t p requests output;
      admissible = λ all all_requests e digest.
          let last = ((none seen t p requests output).0 e).0 in
          subst (Admissible digest t) (sym (front seen t p requests output e)) (next_admissible seen t p requests all all_requests last.able.asked last.within last.able.unforked digest);
    }
