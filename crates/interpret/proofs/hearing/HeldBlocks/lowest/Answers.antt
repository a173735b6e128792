use mathlib.Core.Path.{◌≡◌, refl, ap, ◌∙◌}
use Prim.Native.Nat.{ℕ}
use lib.ListN.{get_or}
use Rattle.base.specs.List.{list_below}
use Rattle.broadcast.specs.declared.Kind.TheVariants.{Send, Echo, Ready}
use Rattle.broadcast.specs.declared.Sent.{Sent}
use Rattle.broadcast.specs.Process.{made_of}
use Rattle.table.specs.Layout.{site_at, view_of}
use Rattle.records.specs.Layout.{record_in}
use Rattle.interpret.specs.Interpretation.{direct_at}
use Rattle.interpret.specs.Steps.{directs_first, least_of, lowest}
use Rattle.interpret.proofs.Turns.{directs_more, low_more}
use Rattle.interpret.proofs.hearing.HeldBlocks.lowest.Goals as goal

pub loop-place-init : goal.loop-place-init
unfolding list_below directs_first lowest
loop-place-init c = record { sends = refl; echoes = refl; readies = refl }

pub loop-place-preserved : goal.loop-place-preserved
unfolding made_of
loop-place-preserved c =
    let l = c.loop-place in
    let a = c.args in
    let v = view_of a.self.table.now in
    let i = l.place-index in
    let d = direct_at v a.self.records.now a.self.slot (get_or a.self.places.now i 0) in
    let h = c.requires.sites i c.loop-place-test.true in
    let s : c.from-site.result ≡ d.site = c.from-site.ensures ∙ c.site_at.ensures ∙ ap (site_at a.self.table.now) c.from-j.ensures in
    let e : c.made_in-made.result ≡ d.state.made = c.made_in-made.ensures ∙ ap (λ (j : ℕ). (record_in a.self.records.now j a.self.slot).made) c.from-j.ensures in
    let more = directs_more v a.self.records.now a.self.slot a.self.places.now i in
    record {
      sends = rw (← more) (low_more Send d _ l.low.sends _ _ h l.invariant.sends s (c.least.ensures ∙ ap (λ (x : Sent). least_of x.send (get_or l.low.sends c.from-site.result 0)) e));
      echoes = rw (← more) (low_more Echo d _ l.low.echoes _ _ h l.invariant.echoes s (c.least-in-loop-place.ensures ∙ ap (λ (x : Sent). least_of x.echo (get_or l.low.echoes c.from-site.result 0)) e));
      readies = rw (← more) (low_more Ready d _ l.low.readies _ _ h l.invariant.readies s (c.least-in-loop-place-2.ensures ∙ ap (λ (x : Sent). least_of x.ready (get_or l.low.readies c.from-site.result 0)) e));
    }
