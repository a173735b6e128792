-- One arrival, by what its two calls answer and leave: the site after it, its lines, and what a success shows of the buffers. Assumes nothing.
use mathlib.Core.Path.{◌≡◌, sym, ap, ap₂, ◌∙◌}
use mathlib.Core.Bool.{false}
use mathlib.Core.Logic.{◌≢◌}
use mathlib.Core.List.{List}
use Prim.Native.Nat.{ℕ, ◌<◌}
use native.Mathlib.Omega.{arith}
use borrow.Author.Tests.{eq-eqb, ne_eqb}
use lib.Dec.{eqb}
use lib.ListN.{length}
use Rattle.base.specs.Bytes.{Bytes}
use Rattle.sha256.specs.Sha256.{sha256}
use Rattle.answer.proofs.Checks.{number_of}
use Rattle.answer.specs.declared.Answer.{Answer}
use Rattle.block.specs.Layout.{site_of, sequence_of}
use Rattle.block.specs.Reading.{fields_of}
use Rattle.block.specs.Promises.{Shaped}
use Rattle.block.proofs.Acceptance.{reading_accepted}
use Rattle.table.specs.View.{max_places}
use Rattle.table.proofs.InForm.{formed_places}
use Rattle.records.specs.Layout.{buffer_size}
use Rattle.admission.specs.Admission.{admission, admitted}
use Rattle.admission.proofs.Promises.{sha256_promises}
use Rattle.interpret.specs.Interpretation.{interpretation, marked, recorded}
use Rattle.interpret.proofs.Promises.{promises}
use Rattle.run.specs.Run.{Site, site_answer}
use Rattle.report.proofs.Calls.{number, second, passed_site, passed_refusal, refused_site, refused_refusal}
use Rattle.report.specs.Text.{refused_line}
use Rattle.report.specs.Listing.{delivery_lines, site_arrived, arrival_lines}

-- the admission, its answer and the table after it
module _ (x : Site) (b : Bytes) (verdict arrival : ℕ) (a : Answer) (t : Bytes) (first : a ≡ admission sha256 x.table b verdict)
    (entering : t ≡ admitted sha256 x.table b verdict) where
  same_number : a.refusal ≡ number x b verdict
  same_number = number_of first

  module _ (refused : a.refusal ≢ 0) where
    fails : eqb (number x b verdict) 0 ≡ false
    fails = ne_eqb (number x b verdict) 0 (λ e. refused (same_number ∙ e))

    pub refused_table : t ≡ (site_arrived sha256 x b verdict).table
    unfolding admitted
    refused_table = entering ∙ rw fails (sym (ap (λ (y : Site). y.table) (refused_site x b verdict fails)))

    pub refused_records : x.records ≡ (site_arrived sha256 x b verdict).records
    refused_records = sym (ap (λ (y : Site). y.records) (refused_site x b verdict fails))

    pub refused_lines : refused_line arrival a.refusal ≡ arrival_lines sha256 x b verdict arrival
    unfolding arrival_lines
    refused_lines = rw (refused_refusal x b verdict fails, fails, same_number)

  -- the interpretation, its answer and what it leaves
  module _ (taken : a.refusal ≡ 0) (i : Answer) (u : Bytes) (r : List ℕ) (interpreting : i ≡ interpretation t x.records a.value)
      (marks : u ≡ marked t x.records a.value) (writes : r ≡ recorded t x.records a.value) where
    none : number x b verdict ≡ 0
    none = sym same_number ∙ taken

    same_second : i.refusal ≡ second x b verdict
    same_second = number_of (interpreting ∙ ap₂ (λ (t : Bytes) (a : Answer). interpretation t x.records a.value) entering first)

    pub taken_table : u ≡ (site_arrived sha256 x b verdict).table
    taken_table =
        marks ∙ ap₂ (λ (t : Bytes) (a : Answer). marked t x.records a.value) entering first
        ∙ sym (ap (λ (y : Site). y.table) (passed_site x b verdict none))

    pub taken_records : r ≡ (site_arrived sha256 x b verdict).records
    taken_records =
        writes ∙ ap₂ (λ (t : Bytes) (a : Answer). recorded t x.records a.value) entering first
        ∙ sym (ap (λ (y : Site). y.records) (passed_site x b verdict none))

    pub uninterpreted_lines : i.refusal ≢ 0 → refused_line arrival i.refusal ≡ arrival_lines sha256 x b verdict arrival
    unfolding arrival_lines
    uninterpreted_lines refused =
        rw (passed_refusal x b verdict none, ne_eqb (second x b verdict) 0 (λ e. refused (same_second ∙ e)), same_second)

    -- the block that was admitted has passed check 3, and its place that was interpreted is one of the table's
    pub shape_there : Shaped b
    shape_there =
        let p = ((sha256_promises.causes x.table b verdict).none.0 none).0 in
        (reading_accepted b (fields_of b) p.linked.is_new.readable.accepted).accepted.shape

    module _ (interpreted : i.refusal ≡ 0) where
      pub place_there : (length r ≡ buffer_size) × (a.value < max_places)
      place_there =
          let h = ((promises.causes t x.records a.value).none.0 (number_of (sym interpreting) ∙ interpreted)).0.place_held in (
            ap length writes ∙ promises.sized t x.records a.value ∙ h.records_sized.size,
            omega (arith, h.below, formed_places t h.records_sized.formed),
          )

      pub delivered_lines : delivery_lines r arrival a.value (site_of b) (sequence_of b) ≡ arrival_lines sha256 x b verdict arrival
      unfolding arrival_lines site_answer
      delivered_lines =
          rw (passed_refusal x b verdict none, eq-eqb (second x b verdict) 0 (sym same_second ∙ interpreted))
          (ap₂ (λ (r : List ℕ) (a : Answer). delivery_lines r arrival a.value (site_of b) (sequence_of b)) taken_records first)
