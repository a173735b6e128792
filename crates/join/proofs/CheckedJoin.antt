-- What a join that passes its checks has shown. Assumes nothing.
use mathlib.Core.Path.{◌≡◌, refl, ap, ap₂}
use mathlib.Core.Bool.{true, ◌&&◌}
use mathlib.Core.Logic.{◌↔◌}
use mathlib.Core.List.{List}
use Prim.Native.Nat.{ℕ}
use lib.Dec.{eqb}
use lib.ListN.{length}
use borrow.Author.Tests.{eqb-true, eq-eqb, leb-true, not-true}
use Rattle.base.specs.Bytes.{Bytes, same_bytes}
use Rattle.base.proofs.Tests.{and_left, and_right}
use Rattle.base.proofs.Bytes.{same_equal, equal_same}
use Rattle.answer.specs.Promises.{elsewhere, different, Decided}
use Rattle.answer.proofs.Promises.{decided}
use Rattle.setup.specs.Setup.{Setup}
use Rattle.table.specs.View.{max_places}
use Rattle.table.specs.Layout.{setup_of, retired_of, view_of}
use Rattle.table.specs.Form.{in_form}
use Rattle.records.specs.Layout.{buffer_size}
use Rattle.join.specs.Steps.{JoinableSides}
use Rattle.join.specs.Promises.{BothFormed, BuffersSized, Unretired}
use Rattle.join.specs.Join.{neither_retired, same_setup, joined_count, join_checks, join_answer, joined, copied, joined_table, joined_records}

-- two setups that pass the test are equal, and equal ones pass it
pub setup_same : (s z : Setup) → (same_setup s z ≡ true) ↔ (s ≡ z)
setup_same s z = (
  λ e. ap₂ (λ (x : ℕ) (y : Bytes). record { sites = x; owners = y })
      (eqb-true s.sites z.sites (and_left (eqb s.sites z.sites) (same_bytes s.owners z.owners) e))
      (same_equal s.owners z.owners (and_right (eqb s.sites z.sites) (same_bytes s.owners z.owners) e)),
  λ e. rw (eq-eqb _ _ (ap (λ (x : Setup). x.sites) e), equal_same _ _ (ap (λ (x : Setup). x.owners) e)),
)

-- checks 2 and 12
pub formed_both : (left right : Bytes) → (in_form left && in_form right) ≡ true → BothFormed left right
formed_both left right f = record { left_formed = and_left (in_form left) (in_form right) f; right_formed = and_right (in_form left) (in_form right) f }

pub whole_of : (left right : Bytes) (left_records right_records third : List ℕ) → BothFormed left right
    → (eqb (length left_records) buffer_size && (eqb (length right_records) buffer_size && eqb (length third) buffer_size)) ≡ true
    → BuffersSized left right left_records right_records third
whole_of left right left_records right_records third f z =
    let r = and_right (eqb (length left_records) buffer_size) (eqb (length right_records) buffer_size && eqb (length third) buffer_size) z in
    record {
      left_formed = f.left_formed;
      right_formed = f.right_formed;
      left_size = eqb-true _ _ (and_left (eqb (length left_records) buffer_size) (eqb (length right_records) buffer_size && eqb (length third) buffer_size) z);
      right_size = eqb-true _ _ (and_left (eqb (length right_records) buffer_size) (eqb (length third) buffer_size) r);
      size = eqb-true _ _ (and_right (eqb (length right_records) buffer_size) (eqb (length third) buffer_size) r);
    }

-- and 31
pub unretired_of : (left right : Bytes) (left_records right_records third : List ℕ) → BuffersSized left right left_records right_records third → neither_retired left right ≡ true
    → Unretired left right left_records right_records third
unretired_of left right left_records right_records third w e =
    record {
      buffers_sized = w;
      left_retired = eqb-true _ _ (and_left (eqb (retired_of left) 0) (eqb (retired_of right) 0) e);
      right_retired = eqb-true _ _ (and_right (eqb (retired_of left) 0) (eqb (retired_of right) 0) e);
    }

module _ (left right : Bytes) (left_records right_records third : List ℕ) (e : (join_answer left right left_records right_records third).refusal ≡ 0) where
  told : Decided (join_answer left right left_records right_records third) (join_checks left right (length left_records) (length right_records) (length third))
      (joined_count (view_of left) (view_of right))
  unfolding join_answer different elsewhere
  told = decided _ _ refl

  pub passes : JoinableSides left right left_records right_records third
  passes =
      let h = told.none.0 e in
      let formed = formed_both left right h.0.0.0.0.0.1 in
      let u = unretired_of left right left_records right_records third (whole_of left right left_records right_records third formed h.0.0.0.0.1) h.0.0.0.1 in
      let w = u.buffers_sized in
      record {
        left_size = w.left_size;
        right_size = w.right_size;
        size = w.size;
        joinable = record {
          formed = formed;
          left_retired = u.left_retired;
          right_retired = u.right_retired;
          setup = (setup_same (setup_of left) (setup_of right)).0 h.0.0.1;
          apart = not-true _ h.0.1;
          fits = leb-true (joined_count (view_of left) (view_of right)) max_places h.1;
        };
      }

  pub joined_passed : joined left right left_records right_records third ≡ joined_table left right
  unfolding joined
  joined_passed = rw e

  pub copied_passed : copied left right left_records right_records third ≡ joined_records left right left_records right_records third
  unfolding copied
  copied_passed = rw e

  pub value_passed : (join_answer left right left_records right_records third).value ≡ joined_count (view_of left) (view_of right)
  value_passed = told.returned e
