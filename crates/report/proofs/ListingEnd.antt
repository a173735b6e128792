-- A step that gets fewer bytes than it wants ends the listing, and only at its end a listing wants nothing after a step. Assumes nothing.
use mathlib.Core.Path.{◌≡◌, refl}
use mathlib.Core.Bool.{Bool, true, false, cond}
use Prim.Native.Nat.{ℕ, ◌+◌, ◌<◌}
use native.Mathlib.Omega.{arith}
use lib.Dec.{eqb, leb, ltb}
use lib.ListN.{length}
use borrow.Author.Tests.{eqb-true, ltb-false, leb-false}
use Rattle.base.specs.Bytes.{Bytes}
use Rattle.table.specs.Fresh.{fresh_answer}
use Rattle.run.specs.Run.{Site}
use Rattle.report.specs.Arrivals.{setup_in, length_size, verdict_size, overlong}
use Rattle.report.specs.Framing.{piece_size, wanted_by, wanted, Outcome, setup_step, length_step, skip_step, block_step, step_by, stepped}
use Rattle.report.specs.declared.Expected.{Expected}
use Rattle.report.specs.declared.Expected.TheVariants.{Length, Block, Skip, End}
use Rattle.report.specs.declared.ListingState.{ListingState}
use Rattle.report.proofs.Setups.{short_unlawful, unlawful_refused}

abbrev pub AtEnd : Outcome → Type 0
AtEnd o = o.state.expected ≡ End

-- one that wants nothing is at its end
abbrev pub Proper : Outcome → Type 0
Proper o = wanted o.state ≡ 0 → AtEnd o

-- what each branch of a test gives
cond_gives : (P : Outcome → Type 0) (t : Bool) (a b : Outcome) → (t ≡ true → P a) → (t ≡ false → P b) → P (cond t a b)
cond_gives P true a b y n = y refl
cond_gives P false a b y n = n refl

module _ (digest : Bytes → Bytes) (arrival : ℕ) (x : Site) (piece : Bytes) where
  short_by : (e : Expected) → length piece < wanted_by e → AtEnd (step_by digest e arrival x piece)
  unfolding step_by wanted_by setup_step length_step skip_step block_step
  short_by Expected.Setup short =
      let refusal : ℕ = (fresh_answer (setup_in piece) x.table).refusal in
      cond_gives AtEnd (eqb refusal 0) _ _
      (λ z. absurd (omega (arith, eqb-true refusal 0 z, unlawful_refused (setup_in piece) x.table (short_unlawful piece short)))) (λ _. refl)
  short_by Length short =
      cond_gives AtEnd (eqb (length piece) 0) _ _ (λ _. refl)
      (λ _. cond_gives AtEnd (ltb (length piece) length_size) _ _ (λ _. refl) (λ f. absurd (omega (arith, ltb-false (length piece) length_size f))))
  short_by (Block size) short =
      cond_gives AtEnd (ltb (length piece) (verdict_size + size)) _ _ (λ _. refl) (λ f. absurd (omega (arith, ltb-false (length piece) (verdict_size + size) f)))
  short_by (Skip left) short =
      cond_gives AtEnd (ltb (length piece) (wanted_by (Skip left))) _ _ (λ _. refl) (λ f. absurd (omega (arith, ltb-false (length piece) (wanted_by (Skip left)) f)))
  short_by End short = refl

  proper_by : (e : Expected) → Proper (step_by digest e arrival x piece)
  unfolding step_by wanted_by setup_step length_step skip_step block_step
  proper_by Expected.Setup = cond_gives Proper (eqb (fresh_answer (setup_in piece) x.table).refusal 0) _ _ (λ _ z. absurd (omega arith)) (λ _ _. refl)
  proper_by Length =
      cond_gives Proper (eqb (length piece) 0) _ _ (λ _ _. refl)
      (λ _. cond_gives Proper (ltb (length piece) length_size) _ _ (λ _ _. refl)
      (λ _. cond_gives Proper (overlong piece) _ _ (λ _ z. absurd (omega arith)) (λ _ z. absurd (omega arith))))
  proper_by (Block size) = cond_gives Proper (ltb (length piece) (verdict_size + size)) _ _ (λ _ _. refl) (λ _ z. absurd (omega arith))
  proper_by (Skip left) =
      cond_gives Proper (ltb (length piece) (wanted_by (Skip left))) _ _ (λ _ _. refl)
      (λ _. cond_gives Proper (leb left piece_size) _ _ (λ _ z. absurd (omega arith)) (λ f z. absurd (omega (arith, leb-false left piece_size f))))
  proper_by End = λ _. refl

module _ (digest : Bytes → Bytes) (s : ListingState) (x : Site) (piece : Bytes) where
  pub short_ends : length piece < wanted s → AtEnd (stepped digest s x piece)
  short_ends = short_by digest s.arrivals x piece s.expected

  pub step_proper : Proper (stepped digest s x piece)
  step_proper = proper_by digest s.arrivals x piece s.expected

-- a listing at its end wants nothing
pub end_wants_nothing : (s : ListingState) → s.expected ≡ End → wanted s ≡ 0
unfolding wanted_by
end_wants_nothing s e = rw e
