-- Laws of lists of tries: their outcomes, and that they are admissions one after the other. Assumes nothing.
use mathlib.Core.Path.{◌≡◌, refl, sym, ap, subst}
use mathlib.Core.List.{List, [], ◌∷◌, ◌++◌}
use Rattle.base.specs.Bytes.{Bytes}
use Rattle.base.proofs.Tests.{by_test}
use Rattle.answer.specs.declared.Answer.{Answer}
use Rattle.admission.specs.Admission.{admitted}
use Rattle.campaigns.specs.Passes.{Try, waits_on, outcome, outcomes_of}
use Rattle.campaigns.specs.Promises.{TriedFrom}

pub outcomes_append : (xs ys : List Try) → outcomes_of (xs ++ ys) ≡ outcomes_of xs ++ outcomes_of ys
unfolding outcomes_of
outcomes_append [] ys = refl
outcomes_append (x ∷ xs) ys =
    by_test (waits_on x.answer)
    (λ z. rw z (outcomes_append xs ys))
    (λ n. rw n (ap (λ (l : List Answer). outcome x.answer ∷ l) (outcomes_append xs ys)))

module _ (digest : Bytes → Bytes) where
  pub tried_append : (xs : List Try) (t t' t'' : Bytes) (ys : List Try) → TriedFrom digest t xs t' → TriedFrom digest t' ys t'' → TriedFrom digest t (xs ++ ys) t''
  unfolding TriedFrom
  tried_append [] t t' t'' ys e f = subst (λ (x : Bytes). TriedFrom digest x ys t'') (sym e) f
  tried_append (x ∷ xs) t t' t'' ys e f = (e.0, tried_append xs (admitted digest t x.block 1) t' t'' ys e.1 f)

  -- what each admission keeps, the tries keep
  pub tried_keeps : (Keeps : Bytes → Type 0) → ((t b : Bytes) → Keeps t → Keeps (admitted digest t b 1)) → (ys : List Try) (t t' : Bytes)
      → TriedFrom digest t ys t' → Keeps t → Keeps t'
  unfolding TriedFrom
  tried_keeps Keeps each [] t t' e k = subst Keeps e k
  tried_keeps Keeps each (y ∷ ys) t t' e k = tried_keeps Keeps each ys (admitted digest t y.block 1) t' e.1 (each t y.block k)
