use mathlib.Core.Path.{◌≡◌, refl, sym, ap, ◌∙◌}
use mathlib.Core.Bool.{Bool, true, false}
use mathlib.Core.List.{List}
use Prim.Native.Nat.{ℕ, ◌≤◌, ◌+◌, ◌<◌, ◌*◌, ◌%◌, ◌^◌}
use native.Mathlib.Omega.{arith}
use lib.Bits.{bit_or}
use lib.Dec.{eqb}
use lib.ListN.{get_or, set}
use borrow.Author.Rules.{rules}
use borrow.Author.Tests.{eq-eqb, ne_eqb, le-ltb}
use Rattle.base.specs.Bytes.{Bytes}
use Rattle.base.specs.Search.{first_below, any_below}
use Rattle.base.specs.List.{list_below}
use Rattle.base.specs.Mask.{mask_below}
use Rattle.base.proofs.Tests.{one_more_lem}
use Rattle.base.proofs.Search.{all_true, all_false}
use Rattle.base.proofs.List.{list_at, set_list}
use Rattle.base.proofs.Mask.{mask_put, mask_skip}
use Rattle.base.proofs.Prints.{group_mask, group_more}
use Rattle.setup.specs.Setup.{max_sites}
use Rattle.table.specs.Layout.{setup_of, view_of, site_at, mark_at}
use Rattle.table.specs.Rules.{row_in_form}
use Rattle.table.specs.Steps.{RowContext, site_below, sites_below, group_count, group_at, print_at}
use Rattle.table.proofs.Prints.{group_lt, print_lt}
use Rattle.table.proofs.form.rows_in_form.Goals as goal
use Rattle.table.proofs.form.rows_in_form.Goals.{then-is_interpreted, else-is_interpreted, After-group_at-group, After-print_at, After-from-site, At-loop-i, Else-n-site}

-- the mask of one site, and one place more in the mask of its site
module _ (t : Bytes) (k site : ℕ) (masks : List ℕ) (l : site < max_sites) (e : masks ≡ sites_below t k) where
  site_mask : get_or masks site 0 ≡ site_below t site k
  site_mask = rw e (list_at (λ p. site_below t p k) max_sites site 0 l)

  site_more : k < 64 → site ≡ site_at t k → set masks site (bit_or (get_or masks site 0) (1 * 2 ^ k % 2 ^ 64)) ≡ sites_below t (k + 1)
  site_more h s =
      rw (site_mask, e)
      (set_list (λ p. site_below t p k) (λ p. site_below t p (k + 1)) max_sites site _ l
      (mask_put 64 (λ j. eqb (site_at t j) site) k h (eq-eqb _ _ (sym s)))
      (λ p n. mask_skip (λ j. eqb (site_at t j) p) k (ne_eqb _ _ (λ q. n (sym (s ∙ q))))))

-- a row of no site is not in form
no_site : (t : Bytes) (i : ℕ) → (setup_of t).sites ≤ site_at t i → row_in_form (setup_of t) (view_of t) i ≡ false
unfolding row_in_form
no_site t i h = rw (le-ltb (site_at t i) (setup_of t).sites h)

pub loop-i-init : goal.loop-i-init
unfolding mask_below list_below any_below first_below
loop-i-init c = (refl, refl, refl, λ j h. absurd (omega arith))

-- the row's site, the count of sites, and what the row's check asks
site : (c : After-from-site) → c.from-site.result ≡ site_at c.args.table.now c.loop-i.i
site c = c.from-site.ensures ∙ c.site_at.ensures

count : (c : At-loop-i) → c.from-n.result ≡ (setup_of c.args.table.now).sites
count c = c.from-n.ensures ∙ c.sites_of.ensures

entered : (c : Else-n-site) → c.from-site.result < max_sites
entered c = omega (arith, c.if-n-site.false, count (goal.at.Else-n-site c).At-loop-i, c.requires.table_bound)

met : (g : After-group_at-group) → RowContext g.args.table.now g.loop-i.i g.loop-i.marked (get_or g.loop-i.of_site g.from-site.result 0)
    (get_or g.loop-i.of_group g.group_at-group.result 0)
met g =
    let t = g.args.table.now in
    record {
      site = omega (arith, g.if-n-site.false, count (goal.at.After-group_at-group g).At-loop-i, site (goal.at.After-group_at-group g).After-from-site);
      marks = g.loop-i.invariant.0;
      same = site_mask t g.loop-i.i _ _ (entered (goal.at.After-group_at-group g).Else-n-site) g.loop-i.invariant.1 ∙ ap (λ (p : ℕ). site_below t p g.loop-i.i) (site (goal.at.After-group_at-group g).After-from-site);
      met = ap (λ (n : ℕ). get_or g.loop-i.of_group n 0) g.group_at-group.ensures
          ∙ group_mask (group_at t) (print_at t) g.loop-i.i group_count _ (group_lt t g.loop-i.i) g.loop-i.invariant.2;
    }

pub returns-then-n-site : goal.returns-then-n-site
returns-then-n-site c =
    let a = c.args in
    sym (all_false (row_in_form (setup_of a.table.now) (view_of a.table.now)) a.k c.loop-i.i (omega arith)
    (no_site a.table.now c.loop-i.i (omega (arith, c.if-n-site.true, count (goal.at.returns-then-n-site c).At-loop-i, site (goal.at.returns-then-n-site c).After-from-site))))

pub returns-then-not-row_in_form : goal.returns-then-not-row_in_form
returns-then-not-row_in_form c =
    let a = c.args in
    sym (all_false (row_in_form (setup_of a.table.now) (view_of a.table.now)) a.k c.loop-i.i (omega arith)
    (sym c.row_in_form.ensures ∙ c.if-not-row_in_form.true))

pub loop-i-preserved : goal.loop-i-preserved
loop-i-preserved c =
    let l = c.loop-i in
    let t = c.args.table.now in
    let f : ℕ → Bool = λ p. eqb (mark_at t p) 1 in (
      elim c.if-is_interpreted.branch [
        | then-is_interpreted w ↦ w.marked-is ∙ ap (λ (x : ℕ). bit_or x (1 * 2 ^ l.i % 2 ^ 64)) l.invariant.0
            ∙ mask_put 64 f l.i (omega arith) (sym c.is_interpreted.ensures ∙ w.if-is_interpreted.true)
        | else-is_interpreted w ↦ w.marked-is ∙ l.invariant.0 ∙ mask_skip f l.i (sym c.is_interpreted.ensures ∙ w.if-is_interpreted.false)
      ],
      site_more t l.i _ _ (entered (goal.at.loop-i-preserved c).Else-n-site) l.invariant.1 (omega arith) (site (goal.at.loop-i-preserved c).After-from-site),
      group_more (group_at t) (print_at t) l.i group_count _ (group_lt t l.i) l.invariant.2 _ _ c.group_at-group.ensures c.print_at.ensures (print_lt t l.i),
      one_more_lem (λ p. row_in_form (setup_of t) (view_of t) p ≡ true) l.i
          (sym c.row_in_form.ensures ∙ c.if-not-row_in_form.false) l.invariant.3,
    )

pub row_in_form-requires : goal.row_in_form-requires
row_in_form-requires c = let m = met (goal.at.row_in_form-requires c).After-group_at-group in search rules

pub returns : goal.returns
returns c = sym (all_true _ c.args.k (λ j h. c.loop-i.invariant.3 j (omega arith)))
