use mathlib.Core.Path.{◌≡◌, ap, ap₂, ◌∙◌}
use Prim.Native.Nat.{◌-◌}
use native.Mathlib.Omega.{arith}
use lib.Dec.{leb}
use lib.ListN.{length}
use borrow.Author.Tests.{lt-leb}
use Rattle.base.specs.Count.{sum_below}
use Rattle.base.proofs.Search.{all_true, all_false}
use Rattle.shelf.specs.Layout.{max_waiting, waiting_in}
use Rattle.shelf.specs.Rules.{campaign_count, max_share, holds, lack, shared}
use Rattle.shelf.proofs.Turns.{length_waiting}
use Rattle.shelf.proofs.entries.Entries.shared.Goals as goal

pub returns-then-places_held-gt-MAX_SHARE : goal.returns-then-places_held-gt-MAX_SHARE
unfolding shared
returns-then-places_held-gt-MAX_SHARE c =
    let l = c.loop-c in
    let ws = waiting_in c.args.self.now.shelf.now in
    let h = c.places_held.ensures.0 in
    rw (all_false (λ j. leb (holds j ws) max_share) campaign_count l.c (omega arith) (lt-leb (holds l.c ws) max_share (omega (arith, c.if-places_held-gt-MAX_SHARE.true))))

pub returns : goal.returns
unfolding shared
returns c =
    let l = c.loop-c in
    let s = c.args.self.now.shelf.now in
    let ws = waiting_in s in
    let e : l.c ≡ campaign_count = omega arith in
    let n : max_waiting - c.count.result ≡ max_waiting - length ws = omega (arith, c.count.ensures, length_waiting s) in
    ap₂ leb (l.invariant.1 ∙ ap (sum_below (λ d. lack d ws)) e) n
    ∙ rw (all_true (λ j. leb (holds j ws) max_share) campaign_count (λ j h. l.invariant.2 j (omega arith)))
