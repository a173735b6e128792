-- `put_greatest` meets its contract: the site has a greatest block, or none. Assumes nothing.
use Rattle.build.specs.Steps.{with_digests}
use Rattle.build.proofs.PickedReferences.{nobody, alone}
use Rattle.build.proofs.picking.NextBlock.put_greatest.Goals as goal

pub returns-in-Some : goal.returns-in-Some
unfolding with_digests
returns-in-Some c = let own = c.args.self.own in
    let e = alone own.table.now own.seen own.site c.args.self.unforked c.in-Some.place (rw c.in-Some.is at c.greatest_place.ensures) in
    rw (e, ← c.digest_at.ensures) c.push.ensures

pub returns-in_default : goal.returns-in_default
unfolding with_digests
returns-in_default c = let own = c.args.self.own in
    let e = nobody own.table.now own.seen own.site (rw c.in_default.is at c.greatest_place.ensures) in
    rw e
