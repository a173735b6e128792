-- The ways out of the call, one law each. Assumes nothing.
use mathlib.Core.Path.{◌≡◌, refl}
use mathlib.Core.Bool.{true, false}
use mathlib.Core.Logic.{◌≢◌}
use mathlib.Core.List.{List}
use Prim.Native.Nat.{ℕ, suc}
use native.Mathlib.Omega.{arith}
use lib.Dec.{eqb}
use lib.ListN.{length}
use borrow.Author.Tests.{eq-eqb, ne_eqb, lt-ltb}
use Rattle.base.specs.Bytes.{Bytes}
use Rattle.answer.specs.declared.Answer.{Answer}
use Rattle.answer.specs.Checks.{success, refused, answer_to}
use Rattle.table.specs.Layout.{count_of, view_of}
use Rattle.table.specs.Writing.{move_down}
use Rattle.table.specs.Form.{in_form}
use Rattle.records.specs.Layout.{buffer_size}
use Rattle.records.specs.Moving.{moved_parts}
use Rattle.retire.specs.Retiring.{retirable, retiring, retired_table, retired_records}

module _ (t : Bytes) (buffer : List ℕ) where
  abbrev pub Out : Answer → Bytes → List ℕ → Type 0
  Out r t' buffer' = (r ≡ retiring t buffer) × ((t' ≡ retired_table t buffer) × (buffer' ≡ retired_records t buffer))

  out_refuses : (number : ℕ) → eqb number 0 ≡ false → refused number 0 ≡ retiring t buffer → Out (refused number 0) t buffer
  unfolding retired_table retired_records
  out_refuses number n e = (e, (rw (← e, n), rw (← e, n)))

  pub out2 : in_form t ≡ false → Out (refused 2 0) t buffer
  unfolding retiring answer_to
  out2 n = out_refuses 2 refl (rw n)

  module _ (f : in_form t ≡ true) where
    pub out12 : length buffer ≢ buffer_size → Out (refused 12 0) t buffer
    unfolding retiring answer_to
    out12 n = out_refuses 12 refl (rw (f, ne_eqb (length buffer) buffer_size n))

    module _ (whole : length buffer ≡ buffer_size) where
      pub out13 : count_of t ≡ 0 → Out (refused 13 0) t buffer
      unfolding retiring answer_to
      out13 z = out_refuses 13 refl (rw (f, eq-eqb (length buffer) buffer_size whole, z))

      module _ (left : ℕ) (c : count_of t ≡ suc left) where
        pub out29 : retirable (view_of t) ≡ false → Out (refused 29 0) t buffer
        unfolding retiring answer_to
        out29 n = out_refuses 29 refl (rw (f, eq-eqb (length buffer) buffer_size whole, lt-ltb 0 (count_of t) (omega arith), n))

        out_passes : retirable (view_of t) ≡ true → success 0 ≡ retiring t buffer
        unfolding retiring answer_to
        out_passes y = rw (f, eq-eqb (length buffer) buffer_size whole, lt-ltb 0 (count_of t) (omega arith), y)

        pub out0 : retirable (view_of t) ≡ true → (t' : Bytes) (buffer' : List ℕ) → t' ≡ move_down t → buffer' ≡ moved_parts buffer (count_of t) → Out (success 0) t' buffer'
        unfolding retired_table retired_records
        out0 y t' buffer' e g = let p = out_passes y in (p, (rw (← p) e, rw (← p) g))
