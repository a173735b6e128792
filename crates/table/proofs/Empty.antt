-- The empty table of a lawful setup is in form, and shows that setup and no block. Assumes nothing.
use mathlib.Core.Path.{◌≡◌, refl, sym, ap, ◌∙◌}
use mathlib.Core.Bool.{true}
use mathlib.Core.List.{◌∷◌, ◌++◌}
use Prim.Native.Nat.{ℕ, suc, ◌+◌, ◌*◌}
use native.Mathlib.Omega.{arith}
use lib.ListN.{length, get_or, take, drop, replicate, length-append, length-replicate}
use lib.Seq.{take_at, get_or_at, drop-append-add, get_or-append-add}
use Rattle.base.specs.Bytes.{Bytes, all_zero, concat}
use Rattle.base.specs.List.{list_below}
use Rattle.base.proofs.Bytes.{replicate_zeros}
use Rattle.setup.specs.Setup.{Setup, lawful, slot_count}
use Rattle.setup.proofs.Thresholds.{eight_owners}
use Rattle.table.specs.View.{max_places}
use Rattle.table.specs.Layout.{owners_offset, retired_offset, count_offset, rows_offset, row_size, row_start, setup_of, retired_of, count_of, layout}
use Rattle.table.specs.Fresh.{empty_table}
use Rattle.table.proofs.InForm.{TableForm}

-- a site count, eight owners, nothing retired, no block, and n zeros
module _ (sites : ℕ) (owners : Bytes) (eight : length owners ≡ slot_count) (n : ℕ) where
  abbrev bare : Bytes
  bare = sites ∷ (owners ++ (0 ∷ 0 ∷ replicate n 0))

  bare_length : length bare ≡ rows_offset + n
  bare_length = ap suc (length-append owners (0 ∷ 0 ∷ replicate n 0)) ∙ omega (arith, length-replicate {A = ℕ} n 0)

  bare_owners : take slot_count (drop owners_offset bare) ≡ owners
  bare_owners = take_at owners (0 ∷ 0 ∷ replicate n 0) slot_count eight

  bare_retired : get_or bare retired_offset 0 ≡ 0
  bare_retired = get_or_at owners 0 (0 ∷ replicate n 0) 0 slot_count eight

  bare_count : get_or bare count_offset 0 ≡ 0
  bare_count =
      ap (λ (k : ℕ). get_or (owners ++ (0 ∷ 0 ∷ replicate n 0)) (k + 1) 0) (sym eight) ∙ get_or-append-add owners (0 ∷ 0 ∷ replicate n 0) 1 0

  bare_rest : drop rows_offset bare ≡ replicate n 0
  bare_rest = ap (λ (k : ℕ). drop (k + 2) (owners ++ (0 ∷ 0 ∷ replicate n 0))) (sym eight) ∙ drop-append-add owners (0 ∷ 0 ∷ replicate n 0) 2

module _ (s : Setup) (law : lawful s ≡ true) where
  eight : length s.owners ≡ slot_count
  eight = eight_owners s law

  unfoldable empty : Bytes
  empty = bare s.sites s.owners eight (row_size * max_places)

  is_empty : empty_table s ≡ empty
  unfolding empty_table layout concat list_below empty
  is_empty = refl

  setup_shown : setup_of empty ≡ s
  unfolding empty
  setup_shown = ap (λ (x : Bytes). record { sites = s.sites; owners = x }) (bare_owners s.sites s.owners eight (row_size * max_places))

  count_shown : count_of empty ≡ 0
  unfolding empty
  count_shown = bare_count s.sites s.owners eight (row_size * max_places)

  retired_shown : retired_of empty ≡ 0
  unfolding empty
  retired_shown = bare_retired s.sites s.owners eight (row_size * max_places)

  formed : TableForm empty
  unfolding empty
  formed =
      record {
        size = bare_length s.sites s.owners eight (row_size * max_places);
        held = record {
          lawful = ap lawful setup_shown ∙ law;
          retired = omega (arith, retired_shown);
          fits = omega (arith, count_shown);
          rows = λ i h. absurd (omega (arith, count_shown));
        };
        zeros =
            ap (λ (k : ℕ). all_zero (drop (row_start k) empty)) count_shown
            ∙ ap all_zero (bare_rest s.sites s.owners eight (row_size * max_places)) ∙ replicate_zeros (row_size * max_places);
      }

  pub empty_shows : (setup_of (empty_table s) ≡ s) × (retired_of (empty_table s) ≡ 0) × (count_of (empty_table s) ≡ 0)
  empty_shows = (ap setup_of is_empty ∙ setup_shown, ap retired_of is_empty ∙ retired_shown, ap count_of is_empty ∙ count_shown)

  pub empty_formed : TableForm (empty_table s)
  empty_formed = rw is_empty formed
