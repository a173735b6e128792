-- `shelve` meets its contract: where the campaign gets a place, one is free. Assumes nothing.
use mathlib.Core.Path.{sym, ◌∙◌}
use native.Mathlib.Omega.{arith}
use Rattle.shelf.specs.Layout.{waiting_in}
use Rattle.shelf.proofs.Rules.{place_free}
use Rattle.campaigns.proofs.shelve.Goals as goal

pub put_on-requires : goal.put_on-requires
put_on-requires c =
    let free = place_free c.args.campaign (waiting_in c.args.shelf.now.bytes.now) (sym c.has_place.ensures ∙ c.if-not-has_place.false) in
    (omega (arith, free.1), c.requires (sym c.waits_on.ensures ∙ c.if-not-waits_on.false))
