-- The ways out of the call, one law each. Assumes nothing.
use mathlib.Core.Path.{◌≡◌, refl}
use mathlib.Core.Bool.{true, false}
use Prim.Native.Nat.{ℕ, suc, ◌-◌}
use native.Mathlib.Omega.{arith}
use lib.Dec.{eqb}
use borrow.Author.Tests.{lt-ltb}
use Rattle.base.specs.Bytes.{Bytes}
use Rattle.answer.specs.declared.Answer.{Answer}
use Rattle.answer.specs.Checks.{success, refused, answer_to}
use Rattle.table.specs.View.{interpreted}
use Rattle.table.specs.Layout.{count_of, row_at}
use Rattle.table.specs.Writing.{without_row}
use Rattle.table.specs.Form.{in_form}
use Rattle.take_back.specs.TakingBack.{taking_back, taken_back}

module _ (t : Bytes) where
  abbrev pub Out : Answer → Bytes → Type 0
  Out r t' = (r ≡ taking_back t) × (t' ≡ taken_back t)

  out_refuses : (number : ℕ) → eqb number 0 ≡ false → refused number 0 ≡ taking_back t → Out (refused number 0) t
  unfolding taken_back
  out_refuses number n e = (e, rw (← e, n))

  pub out2 : in_form t ≡ false → Out (refused 2 0) t
  unfolding taking_back answer_to
  out2 n = out_refuses 2 refl (rw n)

  module _ (f : in_form t ≡ true) where
    pub out32 : count_of t ≡ 0 → Out (refused 32 0) t
    unfolding taking_back answer_to
    out32 z = out_refuses 32 refl (rw (f, z))

    module _ (last : ℕ) (c : count_of t ≡ suc last) where
      last_is : count_of t - 1 ≡ last
      last_is = omega arith

      pub out33 : interpreted (row_at t last) ≡ true → Out (refused 33 0) t
      unfolding taking_back answer_to
      out33 m = out_refuses 33 refl (rw (f, lt-ltb 0 (count_of t) (omega arith), last_is, m))

      out_passes : interpreted (row_at t last) ≡ false → success 0 ≡ taking_back t
      unfolding taking_back answer_to
      out_passes n = rw (f, lt-ltb 0 (count_of t) (omega arith), last_is, n)

      pub out0 : interpreted (row_at t last) ≡ false → (t' : Bytes) → t' ≡ without_row t → Out (success 0) t'
      unfolding taken_back
      out0 n t' e = let p = out_passes n in (p, rw (← p) e)
