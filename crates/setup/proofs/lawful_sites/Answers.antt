-- `lawful_sites` meets its contract: one of the six, or none of them. Assumes nothing.
use mathlib.Core.Path.{◌≡◌}
use mathlib.Core.Bool.{true, false}
use mathlib.Core.Logic.{◌⊎◌, inl, inr}
use Prim.Native.Nat.{ℕ}
use borrow.Author.Tests.{ne_eqb}
use Rattle.setup.specs.Setup.{lawful_sites}
use Rattle.setup.proofs.lawful_sites.Goals as goal

abbrev Listed : ℕ → Type 0
Listed n = (n ≡ 1) ⊎ ((n ≡ 4) ⊎ ((n ≡ 7) ⊎ ((n ≡ 10) ⊎ ((n ≡ 13) ⊎ (n ≡ 16)))))

one : (n : ℕ) → Listed n → true ≡ lawful_sites n
unfolding lawful_sites
one n (inl e) = rw e
one n (inr (inl e)) = rw e
one n (inr (inr (inl e))) = rw e
one n (inr (inr (inr (inl e)))) = rw e
one n (inr (inr (inr (inr (inl e))))) = rw e
one n (inr (inr (inr (inr (inr e))))) = rw e

none : (n : ℕ) → (Listed n → ⊥) → false ≡ lawful_sites n
unfolding lawful_sites
none n h =
    rw (
      ne_eqb n 1 (λ e. h (inl e)),
      ne_eqb n 4 (λ e. h (inr (inl e))),
      ne_eqb n 7 (λ e. h (inr (inr (inl e)))),
      ne_eqb n 10 (λ e. h (inr (inr (inr (inl e))))),
      ne_eqb n 13 (λ e. h (inr (inr (inr (inr (inl e)))))),
      ne_eqb n 16 (λ e. h (inr (inr (inr (inr (inr e)))))),
    )

pub returns-in-1 : goal.returns-in-1
returns-in-1 c = one c.args.sites c.in-1.is

pub returns-in_default : goal.returns-in_default
returns-in_default c = none c.args.sites c.in_default.in_default-own.rest.1
