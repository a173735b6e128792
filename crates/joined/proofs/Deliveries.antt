-- The result shows as delivered what either side shows, and nothing else. Assumes nothing.
use mathlib.Core.Path.{◌≡◌, sym, ap, ◌∙◌}
use mathlib.Core.Logic.{◌⊎◌, ◌↔◌, inl, inr}
use mathlib.Core.List.{List}
use Prim.Native.Nat.{ℕ, ◌+◌, ◌*◌, ◌<◌}
use native.Mathlib.Omega.{arith}
use lib.ListN.{get_or}
use Rattle.base.specs.Bytes.{Bytes}
use Rattle.setup.specs.Setup.{Setup}
use Rattle.table.specs.Layout.{count_of, mark_at}
use Rattle.records.specs.Layout.{record_size, part_of}
use Rattle.join.specs.Join.{joined_table, joined_records}
use Rattle.join.specs.Steps.{JoinableSides}
use Rattle.join.proofs.TableInvariant.{TableInvariant}
use Rattle.join.proofs.ThirdBuffer as handed
use Rattle.run.specs.Run.{Site}
use Rattle.run.specs.Promises.{delivered_entry}
use Rattle.run.proofs.SiteInvariant.{Fixed}
use Rattle.joined.specs.Promises.{ShowsDelivered}
use Rattle.joined.proofs.Parts.{right_part}

-- a place with the part of one that shows it
shown_by : (x y : Site) (slot v i : ℕ) (d : ShowsDelivered x slot v) → i < count_of y.table → mark_at y.table i ≡ 1
    → part_of y.records i ≡ part_of x.records d.place → ShowsDelivered y slot v
shown_by x y slot v i d h m e =
    record {
      place = i;
      below = h;
      mark = m;
      not_zero = d.not_zero;
      entry = ap (λ (b : List ℕ). get_or b (record_size * slot + delivered_entry) 0) e ∙ d.entry;
    }

module _ (x y : Site) (third : List ℕ) (p : JoinableSides x.table y.table x.records y.records third) (s : Setup)
    (fixed_left : Fixed s x.table x.records) (fixed_right : Fixed s y.table y.records) (slot v : ℕ) where
  abbrev t : Bytes
  t = joined_table x.table y.table

  abbrev result : Site
  result = record { table = t; records = joined_records x.table y.table x.records y.records third }

  whole : TableInvariant x.table y.table p.joinable (count_of y.table) t
  whole = handed.whole x.table y.table x.records y.records third p

  abbrev Shown : Site → Type 0
  Shown z = ShowsDelivered z slot v

  from_left : Shown x → Shown result
  from_left d =
      let m = whole.still d.place d.below d.mark in
      let h : d.place < count_of t = omega (arith, d.below, handed.left_within x.table y.table x.records y.records third p) in
      shown_by x result slot v d.place d h m
      (handed.records_part x.table y.table x.records y.records third p d.place h m
      ∙ handed.left_part x.table y.table x.records y.records third p d.place d.below d.mark)

  from_right : Shown y → Shown result
  from_right d =
      let q = whole.placed d.place d.below in
      let m = (whole.same q.0 d.place q.1 d.below q.2).mark d.mark in
      shown_by y result slot v q.0 d q.1 m
      (handed.records_part x.table y.table x.records y.records third p q.0 q.1 m
      ∙ right_part x.table y.table x.records y.records third p s fixed_left fixed_right d.place d.below q.0 q.1 q.2 d.mark)

  from_result : Shown result → Shown x ⊎ Shown y
  from_result d =
      let e = handed.records_part x.table y.table x.records y.records third p d.place d.below d.mark in
      elim (handed.source x.table y.table x.records y.records third p d.place d.below) [
        | inl o ↦ inl (shown_by result x slot v d.place d o.below o.mark (sym (e ∙ o.is)))
        | inr u ↦ elim u [
          | inl o ↦ inr (shown_by result y slot v o.from d o.below o.mark (sym (e ∙ o.is)))
          | inr o ↦ absurd (o.unmarked d.mark)
        ]
      ]

  pub delivered : Shown result ↔ (Shown x ⊎ Shown y)
  delivered = (from_result, λ d. elim d [ inl u ↦ from_left u | inr u ↦ from_right u ])
