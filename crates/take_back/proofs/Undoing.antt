-- Straight after an admission a taking back succeeds and leaves the table before the admission, all bytes; and after several admissions as many
-- takings back do. Assumes nothing.
use mathlib.Core.Path.{◌≡◌, refl, sym, ap, ◌∙◌, subst}
use mathlib.Core.Bool.{true}
use mathlib.Core.List.{List, [], ◌∷◌}
use Prim.Native.Nat.{ℕ, suc, ◌+◌, ◌-◌, ◌<◌}
use native.Mathlib.Omega.{arith}
use lib.Dec.{eqb}
use lib.ListN.{length}
use borrow.Author.Tests.{eqb-true, eqb-false, lt-ltb}
use Rattle.base.specs.Bytes.{Bytes}
use Rattle.base.proofs.Tests.{by_test}
use Rattle.answer.proofs.Checks.{number_of}
use Rattle.answer.specs.Checks.{success, answer_to}
use Rattle.block.specs.Limits.{reference_size}
use Rattle.table.specs.Layout.{count_of, mark_at, view_of, with_row}
use Rattle.table.specs.Writing.{without_row}
use Rattle.table.specs.Form.{in_form}
use Rattle.table.specs.Promises.{Grown}
use Rattle.table.proofs.InForm.{table_form}
use Rattle.table.proofs.ClearedRow.{row_undone}
use Rattle.admission.specs.Admission.{row_for, admission, admitted}
use Rattle.admission.proofs.Effect.{refused_table}
use Rattle.admission.proofs.Promises.{promises}
use Rattle.take_back.specs.TakingBack.{taking_back}
use Rattle.take_back.specs.Promises.{UndoneBy, Brought, loaded, admitted_of}
use Rattle.take_back.proofs.Effect.{table_passed}

-- ---- straight after an admission

goes : (t : Bytes) → in_form t ≡ true → 0 < count_of t → mark_at t (count_of t - 1) ≡ 0 → taking_back t ≡ success 0
unfolding taking_back answer_to
goes t f h m = rw (f, lt-ltb 0 (count_of t) h, m)

module _ (digest : Bytes → Bytes) (sized : (b : Bytes) → length (digest b) ≡ reference_size) (t b : Bytes) (verdict : ℕ)
    (e : (admission digest t b verdict).refusal ≡ 0) where
  abbrev t' : Bytes
  t' = admitted digest t b verdict

  grown : Grown t t' (row_for digest (view_of t) b)
  grown = (promises digest sized).shown t b verdict e

  was : in_form t ≡ true
  was = (((promises digest sized).causes t b verdict).none.0 e).0.linked.is_new.readable.formed

  passes_back : taking_back t' ≡ success 0
  passes_back =
      let last : count_of t' - 1 ≡ count_of t = omega (arith, grown.count) in
      goes t' ((promises digest sized).kept t b verdict was) (omega (arith, grown.count)) (ap (mark_at t') last ∙ grown.here.mark)

  with_row_lem : t' ≡ with_row t (row_for digest (view_of t) b)
  unfolding admitted
  with_row_lem = rw e

  pub undone : UndoneBy 1 t' t
  unfolding UndoneBy
  undone = (
    passes_back,
    table_passed t' (number_of passes_back) ∙ ap without_row with_row_lem
        ∙ row_undone t (row_for digest (view_of t) b) (table_form t was).size (((promises digest sized).causes t b verdict).none.0 e).1 (sized b) (table_form t was).zeros,
  )

-- ---- and after many

module _ (digest : Bytes → Bytes) (sized : (b : Bytes) → length (digest b) ≡ reference_size) where
  -- an admission, and what is undone before it
  one_more_lem : (t b : Bytes) (verdict : ℕ) → eqb (admission digest t b verdict).refusal 0 ≡ true → (n : ℕ) (t₀ : Bytes) → UndoneBy n t t₀
      → UndoneBy (suc n) (admitted digest t b verdict) t₀
  unfolding UndoneBy
  one_more_lem t b verdict y n t₀ w =
      let u = undone digest sized t b verdict (eqb-true (admission digest t b verdict).refusal 0 y) in
      (u.0, subst (λ (x : Bytes). UndoneBy n x t₀) (sym u.1) w)

  all_undone : (bs : List Brought) (t : Bytes) (n : ℕ) (t₀ : Bytes) → UndoneBy n t t₀ → UndoneBy (admitted_of digest t bs + n) (loaded digest t bs) t₀
  unfolding loaded admitted_of
  all_undone [] t n t₀ w = let k : n ≡ 0 + n = omega arith in subst (λ (m : ℕ). UndoneBy m t t₀) k w
  all_undone (b ∷ bs) t n t₀ w =
      let t₁ : Bytes = admitted digest t b.block b.verdict in
      let more = all_undone bs t₁ in
      by_test (eqb (admission digest t b.block b.verdict).refusal 0)
      (λ y.
      let k : admitted_of digest t₁ bs + suc n ≡ 1 + admitted_of digest t₁ bs + n = omega arith in
      rw y (subst (λ (m : ℕ). UndoneBy m (loaded digest t₁ bs) t₀) k (more (suc n) t₀ (one_more_lem t b.block b.verdict y n t₀ w))))
      (λ z.
      let k : admitted_of digest t₁ bs + n ≡ 0 + admitted_of digest t₁ bs + n = omega arith in
      rw z (subst (λ (m : ℕ). UndoneBy m (loaded digest t₁ bs) t₀) k
      (more n t₀ (subst (λ (x : Bytes). UndoneBy n x t₀) (sym (refused_table digest t b.block b.verdict (eqb-false _ 0 z))) w))))

  pub file_undone : (t : Bytes) (file : List Brought) → UndoneBy (admitted_of digest t file) (loaded digest t file) t
  unfolding UndoneBy
  file_undone t file =
      let k : admitted_of digest t file + 0 ≡ admitted_of digest t file = omega arith in
      subst (λ (m : ℕ). UndoneBy m (loaded digest t file) t) k (all_undone file t 0 t refl)
