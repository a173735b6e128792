use mathlib.Core.Path.{◌≡◌, refl, ap₂, ◌∙◌}
use Prim.Native.Nat.{ℕ, ◌≤◌}
use lib.Dec.{ltb}
use native.Mathlib.Omega.{arith}
use borrow.Author.Tests.{ltb-false}
use Rattle.std.specs.Option.{unwrap_or}
use Rattle.base.specs.Search.{below}
use Rattle.base.proofs.Tests.{by_test}
use Rattle.base.proofs.Search.{first_le}
use Rattle.table.specs.Layout.{count_of, digest_at, view_of}
use Rattle.table.specs.Rules.{has_digest}
use Rattle.join.specs.Join.{place_in}
use Rattle.table.proofs.InForm.{formed_places}
use Rattle.join.proofs.PlaceLists.{held_next}
use Rattle.join.proofs.places.place_all.Goals as goal
use Rattle.join.proofs.places.place_all.Goals.{After-unwrap_or}

-- the place found, or the count
or_count : (k place : ℕ) → place ≤ k → unwrap_or (below k place) k ≡ place
or_count k place h = by_test (ltb place k)
    (λ y. rw y refl)
    (λ n. rw n (omega (arith, ltb-false place k n)))

found : (c : After-unwrap_or) → c.unwrap_or.result ≡ place_in (view_of c.args.table.now) (digest_at c.args.other.now c.loop-k.k)
found c =
    let v = view_of c.args.table.now in
    let d = digest_at c.args.other.now c.loop-k.k in
    let e : c.find-place.result ≡ below (count_of c.args.table.now) (place_in v d) = rw (c.digest_at.ensures, c.new-index.ensures) at c.find-place.ensures in
    c.unwrap_or.ensures ∙ ap₂ unwrap_or e c.count_of-held.ensures ∙ or_count (count_of c.args.table.now) (place_in v d) (first_le (has_digest v d) (count_of c.args.table.now))

pub loop-k-preserved : goal.loop-k-preserved
loop-k-preserved c =
    let few = formed_places _ c.requires.right_formed in
    held_next _ _ c.loop-k.k _ c.loop-k.places c.loop-k.invariant (omega (arith, few, c.count_of-k-end.ensures)) (found (goal.at.loop-k-preserved c).After-unwrap_or)
