-- The full table. That a table of 63 blocks is in form is slow to compute, so it is computed once: admission keeps form. Assumes nothing.
use mathlib.Core.Path.{◌≡◌, refl, ap, ap₂, ◌∙◌, subst}
use mathlib.Core.Bool.{true, cond}
use mathlib.Core.List.{List, [], ◌∷◌, map}
use lib.Dec.{eqb}
use Rattle.base.specs.Bytes.{Bytes}
use Rattle.answer.specs.declared.Answer.{Answer}
use Rattle.answer.specs.Checks.{refused, answer_to}
use Rattle.table.specs.Layout.{setup_of, count_of, view_of, with_row}
use Rattle.table.specs.Form.{in_form}
use Rattle.admission.specs.Admission.{row_for, admission_checks, admission, admitted}
use Rattle.admission.proofs.Promises.{promises}
use Rattle.run.specs.Run.{site_answer, site_step, site_answers}
use Rattle.cases.specs.Toy.{toy, block}
use Rattle.cases.specs.Run.{good, placed, answers}
use Rattle.cases.specs.Blocks.{numbered, holding}
use Rattle.cases.proofs.Toy.{toy_digest}
use Rattle.cases.proofs.Computing.{opened_table}

-- the answer of an admission at a table in form, and the table that it leaves
unfoldable pub answer_at : Bytes → Bytes → Answer
answer_at t b = answer_to (admission_checks toy true (setup_of t) (view_of t) b 1) (count_of t)

unfoldable pub next_table : Bytes → Bytes → Bytes
next_table t b = cond (eqb (answer_at t b).refusal 0) (with_row t (row_for toy (view_of t) b)) t

unfoldable answers_at : Bytes → List Bytes → List Answer
answers_at t [] = []
answers_at t (b ∷ bs) = answer_at t b ∷ answers_at (next_table t b) bs

pub answer_is : (t b : Bytes) → in_form t ≡ true → admission toy t b 1 ≡ answer_at t b
unfolding admission answer_at
answer_is t b e = rw e

pub table_is : (t b : Bytes) → in_form t ≡ true → admitted toy t b 1 ≡ next_table t b
unfolding admitted next_table
table_is t b e = rw (answer_is t b e)

in_form_lem : (t : Bytes) (bs : List Bytes) → in_form t ≡ true → answers toy t (map good bs) ≡ answers_at t bs
unfolding answers site_answers site_answer site_step answers_at
in_form_lem t [] e = refl
in_form_lem t (b ∷ bs) e =
    ap₂ (λ (a : Answer) (rest : List Answer). a ∷ rest) (answer_is t b e)
    (in_form_lem (admitted toy t b 1) bs ((promises toy toy_digest.size).kept t b 1 e) ∙ ap (λ (u : Bytes). answers_at u bs) (table_is t b e))

pub formed : in_form (holding 63) ≡ true
unfolding opened_table
formed = refl

-- with the next of the numbered blocks it is full
filling : answer_at (holding 63) (numbered 63) ≡ placed 63
unfolding opened_table answer_at
filling = refl

filled : next_table (holding 63) (numbered 63) ≡ holding 64
unfolding opened_table answer_at next_table
filled = refl

pub last_placed : admission toy (holding 63) (numbered 63) 1 ≡ placed 63
last_placed = answer_is (holding 63) (numbered 63) formed ∙ filling

pub last_leaves : admitted toy (holding 63) (numbered 63) 1 ≡ holding 64
last_leaves = table_is (holding 63) (numbered 63) formed ∙ filled

pub full_formed : in_form (holding 64) ≡ true
full_formed = subst (λ (t : Bytes). in_form t ≡ true) last_leaves ((promises toy toy_digest.size).kept (holding 63) (numbered 63) 1 formed)

last : answers_at (holding 63) (numbered 63 ∷ numbered 5 ∷ block 0 1 [] [] ∷ block 0 0 [] [] ∷ []) ≡ placed 63 ∷ refused 8 5 ∷ refused 10 0 ∷ refused 11 0 ∷ []
unfolding opened_table answer_at next_table answers_at
last = refl

pub parent_before_full :
    answers toy (holding 63) (good (numbered 63) ∷ good (numbered 5) ∷ good (block 0 1 [] []) ∷ good (block 0 0 [] []) ∷ [])
    ≡ placed 63 ∷ refused 8 5 ∷ refused 10 0 ∷ refused 11 0 ∷ []
parent_before_full = in_form_lem (holding 63) (numbered 63 ∷ numbered 5 ∷ block 0 1 [] [] ∷ block 0 0 [] [] ∷ []) formed ∙ last
