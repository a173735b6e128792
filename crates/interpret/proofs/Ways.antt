-- What `interpret` answers and leaves on each way out, and what its tests show. Assumes nothing.
use mathlib.Core.Path.{◌≡◌, refl, ap, ◌∙◌}
use mathlib.Core.Bool.{Bool, true, false}
use mathlib.Core.Logic.{◌≢◌}
use mathlib.Core.List.{List}
use Prim.Native.Nat.{ℕ, ◌≤◌, ◌<◌}
use native.Mathlib.Omega.{arith}
use lib.Dec.{eqb}
use lib.ListN.{length}
use borrow.Author.Tests.{eq-eqb, ne_eqb, lt-ltb, le-ltb}
use Rattle.std.specs.Prelude.{Option}
use Rattle.std.specs.declared.option.Option.TheVariants.{None, Some}
use Rattle.base.specs.Search.{found_below}
use Rattle.base.specs.Bytes.{Bytes, splice}
use Rattle.base.proofs.Search.{some_found, none_found}
use Rattle.answer.specs.declared.Answer.{Answer}
use Rattle.answer.specs.Checks.{success, refused, answer_to}
use Rattle.setup.specs.Setup.{max_sites}
use Rattle.setup.proofs.Thresholds.{sites_lawful, sites_few}
use Rattle.table.specs.View.{interpreted}
use Rattle.table.specs.Layout.{setup_of, count_of, references_at, row_at, view_of, with_mark}
use Rattle.table.specs.Rules.{refers_uninterpreted}
use Rattle.table.specs.Form.{in_form}
use Rattle.table.specs.Steps.{row_of}
use Rattle.table.proofs.Views.{row_form}
use Rattle.table.proofs.InForm.{table_form}
use Rattle.records.specs.Layout.{buffer_size, part_start}
use Rattle.interpret.specs.Interpretation.{written, interpretation, marked, recorded}
use Rattle.interpret.specs.Steps.{Interpretable}

-- what an entry point has tested of a place
pub ready : (t : Bytes) (i : ℕ) → in_form t ≡ true → i < count_of t → Interpretable t i
ready t i e h =
    let f = table_form t e in
    let few : (setup_of t).sites ≤ max_sites = sites_few (setup_of t).sites (sites_lawful (setup_of t) f.held.lawful) in
    record {
      place = omega (arith, f.held.fits);
      few = few;
      sites = λ j l. omega (arith, (row_form (setup_of t) (view_of t) j (f.held.rows j (omega arith))).site);
      few_references = (row_form (setup_of t) (view_of t) i (f.held.rows i h)).few;
    }

module _ (t : Bytes) (buffer : List ℕ) (i : ℕ) where
  -- an answer, a table and a buffer as they must be
  abbrev pub Leaves : Answer → Bytes → List ℕ → Type 0
  Leaves r t' buffer' = (r ≡ interpretation t buffer i) × ((t' ≡ marked t buffer i) × (buffer' ≡ recorded t buffer i))

  -- a refusal changes nothing
  refuses : (number value : ℕ) → eqb number 0 ≡ false → refused number value ≡ interpretation t buffer i → Leaves (refused number value) t buffer
  unfolding marked recorded
  refuses number value n e = (e, (rw (← e, n), rw (← e, n)))

  pub way2 : in_form t ≡ false → Leaves (refused 2 0) t buffer
  unfolding interpretation answer_to
  way2 n = refuses 2 0 refl (rw n)

  module _ (e₂ : in_form t ≡ true) where
    pub way12 : length buffer ≢ buffer_size → Leaves (refused 12 0) t buffer
    unfolding interpretation answer_to
    way12 n = refuses 12 0 refl (rw (e₂, ne_eqb (length buffer) buffer_size n))

    module _ (e₁₂ : length buffer ≡ buffer_size) where
      pub way13 : count_of t ≤ i → Leaves (refused 13 0) t buffer
      unfolding interpretation answer_to
      way13 n = refuses 13 0 refl (rw (e₂, eq-eqb (length buffer) buffer_size e₁₂, le-ltb i (count_of t) n))

      module _ (e₁₃ : i < count_of t) where
        pub way14 : interpreted (row_at t i) ≡ true → Leaves (refused 14 0) t buffer
        unfolding interpretation answer_to
        way14 n = refuses 14 0 refl (rw (e₂, eq-eqb (length buffer) buffer_size e₁₂, lt-ltb i (count_of t) e₁₃, n))

        module _ (e₁₄ : interpreted (row_at t i) ≡ false) (references : ℕ) (m : references ≡ references_at t i) where
          -- whether a place is referred to and not interpreted, by the row and by its references alone
          abbrev missing : ℕ → Bool
          missing = refers_uninterpreted (view_of t) (row_at t i)

          abbrev pub Found : Option ℕ → Type 0
          Found o = o ≡ found_below (refers_uninterpreted (view_of t) (row_of 0 0 references)) i

          found : (o : Option ℕ) → Found o → o ≡ found_below missing i
          found o e = e ∙ ap (λ (x : ℕ). found_below (refers_uninterpreted (view_of t) (row_of 0 0 x)) i) m

          pub way15 : (first : ℕ) → Found (Some first) → Leaves (refused 15 first) t buffer
          unfolding interpretation answer_to
          way15 first e =
              let w = some_found missing i first (found (Some first) e) in
              refuses 15 first refl
              (rw (e₂, eq-eqb (length buffer) buffer_size e₁₂, lt-ltb i (count_of t) e₁₃, e₁₄, w.0, ← w.1))

          succeeds : Found None → success 0 ≡ interpretation t buffer i
          unfolding interpretation answer_to
          succeeds e = rw (e₂, eq-eqb (length buffer) buffer_size e₁₂, lt-ltb i (count_of t) e₁₃, e₁₄, none_found missing i (found None e))

          pub way0 : Found None → (t' : Bytes) (buffer' part : List ℕ) → t' ≡ with_mark t i → part ≡ written (setup_of t) (view_of t) buffer i
              → buffer' ≡ splice buffer (part_start i) part → Leaves (success 0) t' buffer'
          unfolding marked recorded
          way0 e t' buffer' part p q s = let y = succeeds e in (y, (rw (← y) p, rw (← y, ← q) s))
