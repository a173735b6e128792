-- The calls of one arrival: a list of one or two calls, what they leave, and which of them refuses; and that no arrival takes anything back.
-- Assumes nothing.
use mathlib.Core.Path.{◌≡◌, refl, sym, ◌∙◌}
use mathlib.Core.Bool.{false, cond}
use mathlib.Core.List.{List, [], ◌∷◌}
use Prim.Native.Nat.{ℕ}
use lib.Dec.{eqb}
use borrow.Author.Tests.{eq-eqb, eqb-true}
use Rattle.base.specs.Bytes.{Bytes}
use Rattle.base.proofs.Tests.{by_test}
use Rattle.sha256.specs.Sha256.{sha256}
use Rattle.admission.specs.Admission.{admission, admitted}
use Rattle.interpret.specs.Interpretation.{interpretation, marked, recorded}
use Rattle.run.specs.Ledger.{Call, admit}
use Rattle.run.specs.Run.{Site, site_answer, site_step, site_after}
use Rattle.run.proofs.Growth.{NoneBack}
use Rattle.report.specs.Arrivals.{Arrival, arrived, unread}
use Rattle.report.specs.Listing.{admission_answer, interpretation_call, site_arrived, arrival_refusal}
use Rattle.report.specs.ListingCalls.{arrival_calls}

module _ (x : Site) (b : Bytes) (verdict : ℕ) where
  -- what the admission answers, and the table that it leaves
  abbrev pub number : ℕ
  number = (admission sha256 x.table b verdict).refusal

  abbrev pub place : ℕ
  place = (admission sha256 x.table b verdict).value

  abbrev pub entered : Bytes
  entered = admitted sha256 x.table b verdict

  -- what the interpretation answers, and the site that it leaves
  abbrev pub second : ℕ
  second = (interpretation entered x.records place).refusal

  abbrev pub both : Site
  both = record { table = marked entered x.records place; records = recorded entered x.records place }

  -- ---- an admission that passes

  pub passed_site : number ≡ 0 → site_arrived sha256 x b verdict ≡ both
  unfolding site_arrived site_answer site_step
  passed_site e = rw (eq-eqb number 0 e)

  pub passed_refusal : number ≡ 0 → arrival_refusal sha256 x b verdict ≡ second
  unfolding arrival_refusal site_answer site_step
  passed_refusal e = rw (eq-eqb number 0 e)

  -- ---- one that is refused

  pub refused_site : eqb number 0 ≡ false → site_arrived sha256 x b verdict ≡ x
  unfolding site_arrived site_answer
  refused_site n = rw n

  pub refused_refusal : eqb number 0 ≡ false → arrival_refusal sha256 x b verdict ≡ number
  unfolding arrival_refusal site_answer
  refused_refusal n = rw n

  refused_step : eqb number 0 ≡ false → site_step sha256 x (admit b verdict) ≡ x
  unfolding site_step admitted
  refused_step n = rw n

  -- ---- either

  -- an arrival that is not refused had an admission that passed
  pub accepted : arrival_refusal sha256 x b verdict ≡ 0 → number ≡ 0
  accepted z = by_test (eqb number 0) (λ y. eqb-true number 0 y) (λ n. sym (refused_refusal n) ∙ z)

  -- the calls, as specs/ListingCalls.antt lists them
  abbrev pub calls_at : List Call
  calls_at = admit b verdict ∷ cond (eqb (admission_answer sha256 x b verdict).refusal 0) (interpretation_call sha256 x b verdict ∷ []) []

  pub site_after_calls : site_after sha256 x calls_at ≡ site_arrived sha256 x b verdict
  unfolding site_after site_arrived site_answer
  site_after_calls = by_test (eqb number 0) (λ y. rw y) (λ n. rw n (refused_step n))

-- arrivals take nothing back
pub none_back : (x : Site) (arrivals : List Arrival) → NoneBack (arrival_calls x arrivals)
unfolding arrival_calls
none_back x [] = tt
none_back x (unread ∷ rest) = none_back x rest
none_back x (arrived b verdict ∷ rest) =
    let more = none_back (site_arrived sha256 x b verdict) rest in
    (refl, by_test (eqb (admission_answer sha256 x b verdict).refusal 0) (λ y. rw y (refl, more)) (λ n. rw n more))
