use mathlib.Core.Path.{◌≡◌, refl, sym, ap, ◌∙◌}
use mathlib.Core.Bool.{true}
use mathlib.Core.List.{List}
use Prim.Native.Nat.{ℕ, ◌-◌}
use native.Mathlib.Omega.{arith}
use lib.ListN.{length}
use Rattle.base.specs.Bytes.{Bytes, splice}
use Rattle.run.specs.Run.{Site}
use Rattle.report.specs.Gathering.{lent_site, Gathering, is_due, gathered_of}
use Rattle.report.specs.declared.Gathered.{Gathered}
use Rattle.report.proofs.GatheringStep.{so_far, leads_start, leads_end, leads_less, leads_next, has_room}
use Rattle.report.proofs.Appending.{Put}
use Rattle.report.proofs.gathering.gather.Goals as goal
use Rattle.report.proofs.gathering.gather.Goals.{At-loop-table, In-loop-table}

-- what is gathered, once all of it is
module _ (output table : Bytes) (records : List ℕ) (out : Bytes) (done : Gathered) (lines : Bytes) (steps : ℕ) (g : Gathering) (put : Put output 0 lines out done.length)
    (e : so_far table records done lines steps ≡ g) where
  all_gathered : (done ≡ gathered_of g) × ((table ≡ g.site.table) × ((records ≡ g.site.records) × (out ≡ splice output 0 g.lines)))
  all_gathered =
      let n : done.length ≡ length lines = put.ends ∙ omega arith in (
        ap (λ (m : ℕ). record { state = done.state; used = done.used; length = m }) n ∙ ap gathered_of e,
        (ap (λ (h : Gathering). h.site.table) e, (ap (λ (h : Gathering). h.site.records) e, put.holds ∙ ap (λ (h : Gathering). splice output 0 h.lines) e)),
      )

-- ---- the places of the walk

pub loop-table-init : goal.loop-table-init
loop-table-init c =
    let a = c.args in
    (leads_start a.unread.now a.is_ended a.output.now a.state (lent_site a.table.now a.records.now), refl, refl)

abbrev site : At-loop-table → Site
site c = lent_site c.args.table.now c.args.records.now

-- a step that is made is due
due_at : (c : In-loop-table) → let a = c.args in let l = c.loop-table in
    is_due a.is_ended l.done.state (length a.unread.now - l.done.used) (length l.output - l.done.length) ≡ true
due_at c = sym c.is_due.ensures ∙ c.loop-table-test.true

pub advance-done-requires : goal.advance-done-requires
advance-done-requires c =
    let a = c.args in
    let l = c.loop-table in
    (l.invariant.0.within, has_room a.unread.now a.is_ended a.output.now a.state (site (goal.at.advance-done-requires c).At-loop-table) l.table l.records l.output l.done l.invariant.0 (due_at (goal.at.advance-done-requires c).In-loop-table))

pub loop-table-smaller : goal.loop-table-smaller
loop-table-smaller c =
    let a = c.args in
    let l = c.loop-table in
    let e = c.advance-done.ensures in
    leads_less a.unread.now a.is_ended a.output.now a.state (site (goal.at.loop-table-smaller c).At-loop-table) l.table l.records l.output l.done l.invariant.0 (due_at (goal.at.loop-table-smaller c).In-loop-table)
    _ _ c.advance-done.new.output c.advance-done.result e.value e.table_after e.records_after

pub loop-table-preserved : goal.loop-table-preserved
loop-table-preserved c =
    let a = c.args in
    let l = c.loop-table in
    let e = c.advance-done.ensures in (
      leads_next a.unread.now a.is_ended a.output.now a.state (site (goal.at.loop-table-preserved c).At-loop-table) l.table l.records l.output l.done l.invariant.0 (due_at (goal.at.loop-table-preserved c).In-loop-table)
          _ _ _ c.advance-done.result e.value e.table_after e.records_after e.output_after e.length_in_bounds,
      c.advance-done.auto.table ∙ l.invariant.1,
      c.advance-done.auto.records ∙ l.invariant.2,
    )

pub returns : goal.returns
returns c = let a = c.args in
    let l = c.loop-table in
    let e = leads_end a.unread.now a.is_ended a.output.now a.state (site (goal.at.returns c).At-loop-table) l.table l.records l.output l.done l.invariant.0
    (sym c.is_due.ensures ∙ c.loop-table-test.false) in
    let w = all_gathered a.output.now l.table l.records l.output l.done l.invariant.0.lines l.invariant.0.steps _ l.invariant.0.put e in record {
      value = w.0;
      table_after = w.1.0;
      records_after = w.1.1.0;
      output_after = w.1.1.1;
    }
