use mathlib.Core.Path.{◌≡◌, refl, sym, ap, ◌∙◌}
use Prim.Native.Nat.{ℕ, ◌<◌, ◌*◌, ◌%◌, ◌^◌}
use native.Mathlib.Omega.{arith}
use lib.Bits.{bit_or}
use lib.ListN.{get_or}
use borrow.Author.Rules.{rules}
use Rattle.base.specs.Search.{any_below, first_below}
use Rattle.base.specs.List.{list_below}
use Rattle.base.specs.Mask.{mask_below}
use Rattle.base.specs.Steps.{print_count}
use Rattle.base.proofs.Sets.{some_none}
use Rattle.base.proofs.Prints.{group_mask, group_more}
use Rattle.setup.specs.Setup.{max_sites}
use Rattle.table.specs.Layout.{setup_of, count_of, site_at, view_of}
use Rattle.watch.specs.Forks.{everywhere, sequence_repeated_at, forked_in}
use Rattle.watch.specs.Steps.{sequence_print, sequence_prints_met}
use Rattle.watch.proofs.ForkPass.{print_lt, forked_put, forked_skip}
use Rattle.watch.proofs.sites.forked_mask.Goals as goal
use Rattle.watch.proofs.sites.forked_mask.Goals.{then-is_fork, else-is_fork, After-sequence_print, After-from-site}

pub loop-i-init : goal.loop-i-init
unfolding mask_below list_below any_below first_below
loop-i-init c = let t = c.args.table.now in (c.count_of-k.ensures, search rules, some_none (sequence_repeated_at (view_of t) everywhere) (setup_of t).sites, refl)

-- the block's site is one of the setup
site : (c : After-from-site) → c.from-site.result ≡ site_at c.args.table.now c.loop-i.i
site c = c.from-site.ensures ∙ c.site_at.ensures

entered : (c : After-from-site) → c.from-site.result < (setup_of c.args.table.now).sites
entered c = omega (arith, site c, c.loop-i.invariant.1.sites c.loop-i.i (omega arith))

within : (c : After-from-site) → c.from-site.result < max_sites
within c = omega (arith, entered c, c.loop-i.invariant.1.few)

site_within : (c : After-from-site) → site_at c.args.table.now c.loop-i.i < max_sites
site_within c = omega (arith, site c, within c)

-- the prints of its site
prints : (c : After-from-site) → get_or c.loop-i.of_site c.from-site.result 0 ≡ sequence_prints_met c.args.table.now c.loop-i.i
prints c =
    let l = c.loop-i in
    let t = c.args.table.now in
    ap (λ (x : ℕ). get_or l.of_site x 0) (site c) ∙ group_mask (site_at t) (sequence_print t) l.i max_sites _ (site_within c) l.invariant.3

print : (c : After-sequence_print) → c.sequence_print.result < print_count
print c = omega (arith, c.sequence_print.ensures, print_lt c.args.table.now c.loop-i.i)

pub loop-i-preserved : goal.loop-i-preserved
loop-i-preserved c =
    let l = c.loop-i in
    let t = c.args.table.now in
    let n = (setup_of t).sites in (
      search rules,
      search rules,
      elim c.if-is_fork.branch [
        | then-is_fork w ↦ w.mask-is ∙ ap (λ (x : ℕ). bit_or x (1 * 2 ^ c.from-site.result % 2 ^ 16)) l.invariant.2
            ∙ forked_put t n l.i l.invariant.1.few _ (site (goal.at.loop-i-preserved c).After-from-site) (entered (goal.at.loop-i-preserved c).After-from-site) (sym c.is_fork.ensures ∙ w.if-is_fork.true)
        | else-is_fork w ↦ w.mask-is ∙ l.invariant.2 ∙ forked_skip t n l.i (sym c.is_fork.ensures ∙ w.if-is_fork.false)
      ],
      group_more (site_at t) (sequence_print t) l.i max_sites _ (site_within (goal.at.loop-i-preserved c).After-from-site) l.invariant.3 _ _ (site (goal.at.loop-i-preserved c).After-from-site) c.sequence_print.ensures (print_lt t l.i),
    )

pub returns : goal.returns
unfolding forked_in
returns c =
    let l = c.loop-i in
    let e : l.i ≡ count_of c.args.table.now = omega (arith, l.invariant.0) in
    rw e at l.invariant.2

pub is_fork-requires : goal.is_fork-requires
is_fork-requires c = let h = prints (goal.at.is_fork-requires c).After-from-site in search rules
