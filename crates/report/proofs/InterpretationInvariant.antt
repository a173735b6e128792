-- Each admitted block is interpreted directly, so at a listing's site every place is interpreted, and no interpretation is refused. Assumes
-- nothing.
use mathlib.Core.Path.{◌≡◌, sym, ap, ◌∙◌, subst}
use mathlib.Core.Bool.{Bool, true, cond}
use mathlib.Core.List.{List, [], ◌∷◌}
use Prim.Native.Nat.{ℕ, ◌<◌}
use native.Mathlib.Omega.{arith}
use lib.Dec.{eqb}
use lib.ListN.{length}
use borrow.Author.Tests.{eqb-true, eqb-false}
use Rattle.base.specs.Bytes.{Bytes}
use Rattle.base.proofs.Tests.{by_test}
use Rattle.sha256.specs.Sha256.{sha256}
use Rattle.table.specs.Layout.{count_of, mark_at, view_of}
use Rattle.table.specs.Form.{in_form}
use Rattle.table.specs.Promises.{Grown, Marked}
use Rattle.records.specs.Layout.{buffer_size}
use Rattle.admission.specs.Admission.{row_for}
use Rattle.admission.proofs.Promises.{sha256_promises}
use Rattle.interpret.proofs.Promises.{promises}
use Rattle.run.specs.Run.{Site, site_answer}
use Rattle.report.specs.Arrivals.{Arrival, arrived, unread}
use Rattle.report.specs.Listing.{admission_answer, site_arrived, arrival_refusal}
use Rattle.report.specs.ListingCalls.{NoneRefused}
use Rattle.report.proofs.Calls.{number, place, entered, second, both, passed_site, passed_refusal, refused_site, refused_refusal}

-- a table in form with every place interpreted, and a whole record buffer
pub record InterpretationInvariant (x : Site) : Type 0 where
  pub formed : in_form x.table ≡ true
  pub interpreted : (i : ℕ) → i < count_of x.table → mark_at x.table i ≡ 1
  pub whole : length x.records ≡ buffer_size

module _ (x : Site) (k : InterpretationInvariant x) (b : Bytes) (verdict : ℕ) where
  -- the table after the admission, and the place that the admission gave
  abbrev t : Bytes
  t = entered x b verdict

  abbrev p : ℕ
  p = place x b verdict

  t_formed : in_form t ≡ true
  t_formed = sha256_promises.kept x.table b verdict k.formed

  -- ---- an admission that passes

  module _ (e : number x b verdict ≡ 0) where
    next : p ≡ count_of x.table
    next = (sha256_promises.causes x.table b verdict).place e

    grown : Grown x.table t (row_for sha256 (view_of x.table) b)
    grown = sha256_promises.shown x.table b verdict e

    lower_interpreted : (i : ℕ) → i < p → mark_at t i ≡ 1
    lower_interpreted i h = let l : i < count_of x.table = omega (arith, next) in sym (grown.below i l).mark ∙ k.interpreted i l

    -- so the interpretation passes too
    interpretation_passes : second x b verdict ≡ 0
    interpretation_passes =
        (promises.causes t x.records p).none.1 (
          record {
            place_held = record { records_sized = record { formed = t_formed; size = k.whole }; below = omega (arith, next, grown.count) };
            unmarked = λ y. let z : mark_at t p ≡ 0 = ap (mark_at t) next ∙ grown.here.mark in omega arith;
          },
          λ u. u.1.unmarked (lower_interpreted u.0 u.1.lower),
        )

    shown : Marked t (both x b verdict).table p
    shown = promises.shown t x.records p interpretation_passes

    every_interpreted : (i : ℕ) → i < count_of (both x b verdict).table → mark_at (both x b verdict).table i ≡ 1
    every_interpreted i h = (shown.rows i).mark ∙ by_test (eqb i p)
        (λ y. ap (λ (z : Bool). cond z 1 (mark_at t i)) y)
        (λ n. ap (λ (z : Bool). cond z 1 (mark_at t i)) n
        ∙ lower_interpreted i (omega (arith, eqb-false i p n, shown.count, grown.count, next)))

    both_invariant : InterpretationInvariant (both x b verdict)
    both_invariant =
        record {
          formed = promises.kept t x.records p t_formed;
          interpreted = every_interpreted;
          whole = promises.sized t x.records p ∙ k.whole;
        }

  -- ---- every arrival

  arrival_none_refused : arrival_refusal sha256 x b verdict ≡ (admission_answer sha256 x b verdict).refusal
  unfolding site_answer
  arrival_none_refused = by_test (eqb (number x b verdict) 0)
      (λ y. let e = eqb-true (number x b verdict) 0 y in passed_refusal x b verdict e ∙ interpretation_passes e ∙ sym e)
      (refused_refusal x b verdict)

  arrival_invariant : InterpretationInvariant (site_arrived sha256 x b verdict)
  arrival_invariant = by_test (eqb (number x b verdict) 0)
      (λ y. let e = eqb-true (number x b verdict) 0 y in subst InterpretationInvariant (sym (passed_site x b verdict e)) (both_invariant e))
      (λ n. subst InterpretationInvariant (sym (refused_site x b verdict n)) k)

pub none_refused : (x : Site) → InterpretationInvariant x → (arrivals : List Arrival) → NoneRefused x arrivals
unfolding NoneRefused
none_refused x k [] = tt
none_refused x k (unread ∷ rest) = none_refused x k rest
none_refused x k (arrived b verdict ∷ rest) =
    (arrival_none_refused x k b verdict, none_refused (site_arrived sha256 x b verdict) (arrival_invariant x k b verdict) rest)
