-- `same_block` meets its contract: where the other fields are equal, the references are compared by places. Assumes nothing.
use mathlib.Core.Path.{◌≡◌, sym, ap₂, ◌∙◌}
use mathlib.Core.Bool.{◌&&◌}
use Prim.Native.Nat.{ℕ, ◌^◌, ◌<◌}
use native.Mathlib.Omega.{arith}
use Rattle.table.specs.View.{max_places}
use Rattle.table.specs.Layout.{references_at, view_of}
use Rattle.join.specs.Join.{refers_within, same_block}
use Rattle.join.specs.Steps.{within_by}
use Rattle.join.proofs.ClashByPlaces.{within_is, by_references}
use Rattle.join.proofs.clash.Matched.same_block.Goals as goal
use Rattle.join.proofs.clash.Matched.same_block.Goals.{After-refers_within}

left_refers : (c : After-refers_within) → let s = c.args.self.now in c.refers_within.result ≡ refers_within (view_of s.left.now) c.args.i (view_of s.right.now) c.args.j
left_refers c =
    let s = c.args.self.now in
    let wide : references_at s.right.now c.args.j < 2 ^ max_places = (let w : c.references_at-others.result < 2 ^ max_places = c.references_at-others.type_inv in omega (arith, c.references_at-others.ensures)) in
    c.refers_within.ensures ∙ ap₂ (λ (x y : ℕ). within_by x s.in_right y) c.references_at-referred.ensures c.references_at-others.ensures
    ∙ within_is s.left.now s.right.now s.formed.left_formed s.formed.right_formed c.args.i c.args.j c.requires.0 c.requires.1 wide s.in_right s.left_found

-- what is left of the comparison
last : (c : After-refers_within) → let s = c.args.self.now in
    (c.refers_within.result && refers_within (view_of s.right.now) c.args.j (view_of s.left.now) c.args.i) ≡ same_block (view_of s.left.now) c.args.i (view_of s.right.now) c.args.j
last c =
    let s = c.args.self.now in
    rw (← left_refers c) at (by_references s.left.now c.args.i s.right.now c.args.j (sym c.site_at.ensures ∙ c.if-site_at.false ∙ c.site_at-2.ensures)
    (sym c.sequence_at.ensures ∙ c.if-sequence_at.false ∙ c.sequence_at-2.ensures) (sym c.same_requests.ensures ∙ c.if-not-same_requests.false))

pub returns-then-not-refers_within : goal.returns-then-not-refers_within
returns-then-not-refers_within c = rw c.if-not-refers_within.true at (last (goal.at.returns-then-not-refers_within c).After-refers_within)

pub returns : goal.returns
returns c =
    let s = c.args.self.now in
    let wide : references_at s.left.now c.args.i < 2 ^ max_places = (let w : c.references_at-referred.result < 2 ^ max_places = c.references_at-referred.type_inv in omega (arith, c.references_at-referred.ensures)) in
    let rest = rw c.if-not-refers_within.false at (last (goal.at.returns c).After-refers_within) in
    c.refers_within-2.ensures ∙ ap₂ (λ (x y : ℕ). within_by x s.in_left y) c.references_at-others.ensures c.references_at-referred.ensures
    ∙ within_is s.right.now s.left.now s.formed.right_formed s.formed.left_formed c.args.j c.args.i c.requires.1 c.requires.0 wide s.in_left s.right_found ∙ rest
