-- `may_retire` meets its contract: one test after the other. Assumes nothing.
use mathlib.Core.Path.{◌≡◌, refl, sym, ap, ◌∙◌}
use mathlib.Core.Bool.{true, false, not}
use Prim.Native.Nat.{ℕ}
use Rattle.base.specs.Search.{any_below}
use Rattle.base.specs.Bytes.{Bytes}
use Rattle.table.specs.View.{interpreted}
use Rattle.table.specs.Layout.{count_of, site_at, sequence_at, row_at, view_of}
use Rattle.retire.specs.Retiring.{waits_for_first, retirable}
use Rattle.retire.specs.Steps.{follows_one}
use Rattle.retire.proofs.may.may_retire.Goals as goal
use Rattle.retire.proofs.may.may_retire.Goals.{then-is_interpreted, else-is_interpreted}

module _ (t : Bytes) (k : ℕ) (e : k ≡ count_of t) where
  unmarked : interpreted (row_at t 0) ≡ false → false ≡ retirable (view_of t)
  unfolding retirable
  unmarked n = rw n

  module _ (m : interpreted (row_at t 0) ≡ true) where
    waiting : not (any_below (waits_for_first (view_of t)) k) ≡ false → false ≡ retirable (view_of t)
    unfolding retirable
    waiting n = rw (m, ← e, n)

    following : not (any_below (waits_for_first (view_of t)) k) ≡ true → (site sequence : ℕ) → site ≡ site_at t 0 → sequence ≡ sequence_at t 0
        → any_below (follows_one t site sequence) k ≡ retirable (view_of t)
    unfolding retirable
    following y site sequence p q = rw (m, ← e, y, p, q) refl

pub returns-then-not-any_waits : goal.returns-then-not-any_waits
returns-then-not-any_waits c =
    let t = c.args.table.now in
    elim c.if-is_interpreted.branch [
      | then-is_interpreted w ↦ c.any_follows.ensures
          ∙ following t c.args.k c.requires.2 (sym c.is_interpreted.ensures ∙ w.if-is_interpreted.true) (ap not (sym w.any_waits.ensures) ∙ sym w.value-is ∙ c.if-not-any_waits.true) _ _
          c.site_at-site.ensures c.sequence_at-sequence.ensures
      | else-is_interpreted w ↦ absurd (cc)
    ]

pub returns-else-not-any_waits : goal.returns-else-not-any_waits
returns-else-not-any_waits c =
    let t = c.args.table.now in
    c.if-not-any_waits.false
    ∙ elim c.if-is_interpreted.branch [
      | then-is_interpreted w ↦ waiting t c.args.k c.requires.2 (sym c.is_interpreted.ensures ∙ w.if-is_interpreted.true) (ap not (sym w.any_waits.ensures) ∙ sym w.value-is ∙ c.if-not-any_waits.false)
      | else-is_interpreted w ↦ unmarked t c.args.k c.requires.2 (sym c.is_interpreted.ensures ∙ w.if-is_interpreted.false)
    ]
