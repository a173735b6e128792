use mathlib.Core.Path.{◌≡◌, refl, sym, ap, ◌∙◌}
use mathlib.Core.Bool.{Bool, true, false}
use mathlib.Core.List.{List, [], ◌∷◌}
use Prim.Native.Nat.{ℕ, ◌+◌}
use Rattle.base.specs.List.{passing_below}
use Rattle.base.specs.Mask.{in_mask}
use Rattle.base.specs.Bytes.{Bytes}
use Rattle.base.proofs.PassingBelow.{passing_here, passing_past}
use Rattle.table.specs.Layout.{digest_at, view_of}
use Rattle.build.specs.Building.{is_other}
use Rattle.build.specs.Steps.{with_reference, with_digests}
use Rattle.build.proofs.Digests.{put_append}
use Rattle.build.proofs.picking.NextBlock.put_others.Goals as goal
use Rattle.build.proofs.picking.NextBlock.put_others.Goals.{then-is_other, else-is_other}

-- the places below i that pass the test are put
module _ (t : Bytes) (f : ℕ → Bool) (i : ℕ) (before references : Bytes) (e : references ≡ with_digests t (passing_below f i) before) where
  here : f i ≡ true → with_reference references (digest_at t i) ≡ with_digests t (passing_below f (i + 1)) before
  unfolding with_digests
  here y =
      ap (λ (r : Bytes). with_reference r (digest_at t i)) e ∙ sym (put_append t (passing_below f i) (i ∷ []) before)
      ∙ ap (λ (ps : List ℕ). with_digests t ps before) (sym (passing_here f i y))

  past : f i ≡ false → references ≡ with_digests t (passing_below f (i + 1)) before
  past n = e ∙ ap (λ (ps : List ℕ). with_digests t ps before) (sym (passing_past f i n))

pub loop-i-init : goal.loop-i-init
unfolding passing_below with_digests
loop-i-init c = refl

pub loop-i-preserved : goal.loop-i-preserved
loop-i-preserved c =
    let l = c.loop-i in
    let own = c.args.self.own in
    let f : ℕ → Bool = is_other (in_mask own.seen) (view_of own.table.now) own.site in
    elim c.if-is_other.branch [
      | then-is_other w ↦ w.references-is ∙ w.push.ensures ∙ ap (with_reference l.references) w.digest_at.ensures
          ∙ here own.table.now f l.i c.args.references.now l.references l.invariant (sym c.is_other.ensures ∙ w.if-is_other.true)
      | else-is_other w ↦ w.references-is ∙ past own.table.now f l.i c.args.references.now l.references l.invariant (sym c.is_other.ensures ∙ w.if-is_other.false)
    ]
