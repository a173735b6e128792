-- What the watch says of a table that calls reached, told by the ledger of those calls.
use Rattle.std.specs.Prelude.{◌≡◌, true, ◌↔◌, [], ℕ, ◌<◌}
use Rattle.base.specs.Mask.{in_mask}
use Rattle.base.specs.Bytes.{Bytes}
use Rattle.watch.specs.Forks.{forks}
use Rattle.watch.specs.Ancestors.{ancestors}
use Rattle.history.specs.Ancestry.{AncestorIn}
use Rattle.history.specs.Forks.{forked}
use Rattle.run.specs.Ledger.{Ledger}
use Rattle.run.specs.Run.{Site}

-- a place that the watch names as an ancestor of place i holds this block
pub record NamedAncestor (l : Ledger) (x : Site) (i : ℕ) (b : Bytes) : Type 0 where
  pub place : ℕ
  pub held : place < l.held
  pub named : in_mask (ancestors x.table i).places place ≡ true
  pub holds : l.block place ≡ b

module _ (digest : Bytes → Bytes) where
  -- what the watch says of the site x, told by its ledger l
  pub record WatchKeeps (l : Ledger) (x : Site) : Type 0 where
    -- the watch refuses neither the table nor a place that is held
    pub formed : (forks x.table).refusal ≡ 0
    pub answered : (i : ℕ) → i < l.held → (ancestors x.table i).refusal ≡ 0
    -- each site that the watch names has two different blocks of one sequence number in the ledger; where nothing was retired, it names all sites
    -- that have
    pub named_forked : (p : ℕ) → in_mask (forks x.table).sites p ≡ true → forked l.blocks p ≡ true
    pub forked_sites : l.retired ≡ [] → (p : ℕ) → in_mask (forks x.table).sites p ≡ forked l.blocks p
    -- each place that the watch names holds an ancestor, in the ledger, of the block at place i; where nothing was retired, it names a place of each
    -- ancestor
    pub named_ancestor : (i : ℕ) → i < l.held → (b : Bytes) → NamedAncestor l x i b → AncestorIn digest l.blocks b (l.block i)
    pub ancestor_places : l.retired ≡ [] → (i : ℕ) → i < l.held → (b : Bytes) → NamedAncestor l x i b ↔ AncestorIn digest l.blocks b (l.block i)
