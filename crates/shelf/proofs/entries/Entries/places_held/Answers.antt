-- `places_held` meets its contract. Assumes nothing.
use mathlib.Core.Path.{◌≡◌, ◌∙◌}
use Prim.Native.Nat.{ℕ}
use native.Mathlib.Omega.{arith}
use lib.Dec.{eqb}
use borrow.Author.Rules.{rules}
use Rattle.std.specs.List.{count_by, range_with_len}
use Rattle.std.proofs.lemmas.Iterator.{YieldsList-from_range}
use Rattle.std.proofs.lemmas.Iterator.Consumers.{count_from_yields_List, YieldsList-from_filter}
use Rattle.std.proofs.lemmas.List.FromFn.{length-range_with_len}
use Rattle.std.proofs.lemmas.List.Sums.{length-filter, count_by-le-length}
use Rattle.shelf.specs.Layout.{campaign_at}
use Rattle.shelf.proofs.Turns.{holds_over}
use Rattle.shelf.proofs.entries.Entries.places_held.Goals as goal

pub returns : goal.returns
returns c =
    let a = c.args in
    let k = c.count.result in
    let test = λ (j : ℕ). eqb (campaign_at a.self.now.shelf.now j) a.campaign in
    let counted : c.count-2.result ≡ count_by test (range_with_len 0 k) =
    count_from_yields_List _ _ c.count-2.ensures.ran
    (YieldsList-from_filter _ test (YieldsList-from_range 0 k k c.filter.ensures.source (omega arith)) c.filter.ensures.closure (λ x b q e. search rules))
    ∙ length-filter test (range_with_len 0 k) in (
      counted ∙ holds_over a.self.now.shelf.now a.campaign 0 k (omega (arith, c.count.ensures)),
      omega (arith, counted, count_by-le-length test (range_with_len 0 k), length-range_with_len 0 k, c.count.ensures, a.self.now.few),
    )
