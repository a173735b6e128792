use mathlib.Core.Path.{◌≡◌, refl, sym, ap, ◌∙◌}
use Prim.Native.Nat.{ℕ, ◌*◌, ◌%◌, ◌^◌, ◌≤◌, ◌<◌}
use native.Mathlib.Omega.{arith}
use lib.Bits.{bit_or}
use Rattle.std.specs.Prelude.{Option, Some, None}
use Rattle.std.specs.Option.{option_or}
use Rattle.base.specs.Search.{below}
use Rattle.base.specs.Bytes.{Bytes}
use Rattle.base.proofs.Search.{below_some, below_none, found_step, first_none, found_none}
use Rattle.base.proofs.Sets.{some_none}
use Rattle.block.specs.Layout.{reference_at}
use Rattle.table.specs.Layout.{count_of, view_of}
use Rattle.table.specs.Rules.{place_of}
use Rattle.table.proofs.InForm.{formed_places}
use Rattle.admission.proofs.LookUp.{names, named_put, named_skip, absent, is_absent, is_there}
use Rattle.admission.proofs.held.look_up.Goals as goal
use Rattle.admission.proofs.held.look_up.Goals.{in-Some, in-None}

-- the place that the search in a turn answers, and that no place holds the reference
module _ (t list key : Bytes) (i : ℕ) (ek : key ≡ reference_at list i) where
  here : (place : ℕ) → Some place ≡ below (count_of t) (place_of (view_of t) (count_of t) key) → (place < count_of t) × (place ≡ place_of (view_of t) (count_of t) (reference_at list i))
  here place e = let h = below_some (count_of t) place _ e in (rw h.1 h.0, h.1 ∙ ap (place_of (view_of t) (count_of t)) ek)

  nowhere : None ≡ below (count_of t) (place_of (view_of t) (count_of t) key) → count_of t ≤ place_of (view_of t) (count_of t) (reference_at list i)
  nowhere e = rw ek at (below_none (count_of t) _ e)

or_none : (o : Option ℕ) → option_or o None ≡ o
or_none None = refl
or_none (Some x) = refl

pub loop-i-init : goal.loop-i-init
loop-i-init c = let t = c.args.index.now.table.now in (some_none (names t c.args.list.now) _, found_none (absent t (count_of t) c.args.list.now) 0 (first_none _))

pub overflow_shl-places : goal.overflow_shl-places
overflow_shl-places c =
    let t = c.args.index.now.table.now in
    omega (arith, formed_places t c.args.index.now.formed, (here t c.args.list.now _ c.loop-i.i c.reference.ensures _ c.in-Some.ensures).0)

pub loop-i-preserved : goal.loop-i-preserved
loop-i-preserved c =
    let l = c.loop-i in
    let t = c.args.index.now.table.now in
    let list = c.args.list.now in
    let more = found_step (absent t (count_of t) list) l.i in
    elim c.match-find.branch [
      | in-Some w ↦
          let h = here t list _ l.i c.reference.ensures _ w.in-Some.ensures in (
            w.places-is ∙ ap (λ (m : ℕ). bit_or m (1 * 2 ^ w.in-Some.place % 2 ^ 64)) l.invariant.0 ∙ named_put t list l.i _ c.args.index.now.formed h.1 h.0,
            w.missing-is ∙ l.invariant.1 ∙ sym (rw (is_there t (count_of t) list l.i _ h.1 h.0) at more ∙ or_none _),
          )
      | in-None w ↦
          let h = nowhere t list _ l.i c.reference.ensures w.in-None.ensures in (
            w.places-is ∙ l.invariant.0 ∙ named_skip t list l.i _ c.args.index.now.formed refl h,
            w.missing-is ∙ w.or-missing.ensures ∙ ap (λ (o : Option ℕ). option_or o (Some l.i)) l.invariant.1 ∙ sym (rw (is_absent t (count_of t) list l.i _ refl h) at more),
          )
    ]
