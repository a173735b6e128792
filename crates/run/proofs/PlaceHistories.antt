-- The history of the block at each place, as it was when the block was admitted. At every marked place the place's part of the buffer is the
-- meaning of that history; an interpretation that passes writes that meaning. Assumes nothing.
use mathlib.Core.Path.{◌≡◌, sym, ap, ap₂, ◌∙◌}
use mathlib.Core.Bool.{true}
use mathlib.Core.Logic.{◌≢◌}
use mathlib.Core.List.Memᴰ
use mathlib.Core.List.{List, ◌++◌, map, Memᴰ}
use Prim.Native.Nat.{ℕ, ◌<◌}
use native.Mathlib.Omega.{arith}
use Rattle.base.specs.Bytes.{Bytes, concat}
use Rattle.base.proofs.List.{list_same}
use Rattle.base.proofs.Members.{newest, newest_has}
use Rattle.setup.specs.Setup.{Setup, slot_count}
use Rattle.block.specs.Layout.{site_of, sequence_of, request_for}
use Rattle.table.specs.View.{View}
use Rattle.table.specs.Layout.{count_of, row_at, view_of}
use Rattle.table.specs.Rules.{is_parent}
use Rattle.records.specs.Layout.{flatten, part_of, record_in, numbers_of}
use Rattle.records.proofs.Parts.{record_in_lem}
use Rattle.interpret.specs.Slot.{Direct, interpret_slot}
use Rattle.interpret.specs.Interpretation.{direct_at, directs_below, record_for, written, interpretation}
use Rattle.interpret.proofs.Order.{interpret_slot_same}
use Rattle.interpret.proofs.Causes.{causes}
use Rattle.interpret.proofs.Effect.{below_from, below_has, here, ready}
use Rattle.history.specs.History.{History, node, block_of, children, is_parent_of, slot_record, directs, meaning}
use Rattle.history.proofs.Histories.{direct_of, directs_from, directs_has}
use Rattle.history.proofs.Meanings.{record_sized}
use Rattle.history.proofs.Admissions.{InTurn, admitted_in}
use Rattle.run.specs.Ledger.{Ledger, view_in}
use Rattle.run.specs.Run.{Site}
use Rattle.run.proofs.Simulation.{Simulates, few}

-- a record worked out from the blocks that a history refers to, of which one at most is a parent, is the history's
record_same : (s : Setup) (slot : ℕ) (h : History) (site sequence request : ℕ) (read : List Direct)
    → site ≡ site_of (block_of h) → sequence ≡ sequence_of (block_of h) → request ≡ request_for (block_of h) slot
    → ((d : Direct) → Memᴰ d read → (c : History) × Memᴰ c (children h) × (d ≡ direct_of s slot c))
    → ((c : History) → Memᴰ c (children h) → Memᴰ (direct_of s slot c) read)
    → ((c e : History) → Memᴰ c (children h) → Memᴰ e (children h) → is_parent_of (block_of h) (block_of c) ≡ true → is_parent_of (block_of h) (block_of e) ≡ true → c ≡ e)
    → interpret_slot s slot site sequence request read ≡ slot_record s slot h
unfolding slot_record direct_of
record_same s slot (node b hs) site sequence request read p q r from has single =
    ap₂ (λ (x y : ℕ). interpret_slot s slot x y request read) p q
    ∙ ap (λ (n : ℕ). interpret_slot s slot (site_of b) (sequence_of b) n read) r
    ∙ sym (interpret_slot_same (site_of b) (sequence_of b) (directs s slot hs) read given_read read_given one s slot (request_for b slot))
  where
    given_read : (d : Direct) → Memᴰ d (directs s slot hs) → Memᴰ d read
    given_read d m = let c = directs_from s slot hs d m in Memᴰ.cast c.2 (has c.0 c.1)

    read_given : (d : Direct) → Memᴰ d read → Memᴰ d (directs s slot hs)
    read_given d m = let c = from d m in Memᴰ.cast c.2 (directs_has s slot hs c.0 c.1)

    one : (d f : Direct) → Memᴰ d (directs s slot hs) → Memᴰ f (directs s slot hs) → is_parent (site_of b) (sequence_of b) d.site d.sequence ≡ true
        → is_parent (site_of b) (sequence_of b) f.site f.sequence ≡ true → d ≡ f
    one d f m n x y =
        let c = directs_from s slot hs d m in
        let g = directs_from s slot hs f n in
        c.2 ∙ ap (direct_of s slot) (single c.0 g.0 c.1 g.1 (rw c.2 at x) (rw g.2 at y)) ∙ sym g.2

module _ (digest : Bytes → Bytes) where
  pub record PlaceHistories (s : Setup) (l : Ledger) (x : Site) : Type 0 where
    -- the history of the block at each place, and those of the retired ones, the last retired first
    pub history : ℕ → History
    pub retired : List History
    pub blocks : (i : ℕ) → i < l.held → block_of (history i) ≡ l.block i
    pub retired_blocks : map block_of retired ≡ l.retired
    -- each was admitted to those before it
    pub in_turn : InTurn digest (newest history l.held ++ retired)
    -- the places that a place refers to have histories directly below its own
    pub refers : (i j : ℕ) → i < l.held → j < i → ((view_in digest l).row i).refers_to j ≡ true → Memᴰ (history j) (children (history i))
    -- and as long as it is not interpreted, these are all
    pub waits : (i : ℕ) → i < l.held → l.mark i ≢ 1 → (c : History) → Memᴰ c (children (history i))
        → (j : ℕ) × (j < i) × (((view_in digest l).row i).refers_to j ≡ true) × (c ≡ history j)
    -- the part of each marked place
    pub shown : (i : ℕ) → i < l.held → l.mark i ≡ 1 → part_of x.records i ≡ meaning s (history i)

  module _ (s : Setup) (l : Ledger) (x : Site) (g : PlaceHistories s l x) where
    -- all of them, the newest first
    abbrev pub histories : List History
    histories = newest g.history l.held ++ g.retired

    pub history_in : (i : ℕ) → i < l.held → Memᴰ (g.history i) histories
    history_in i h = Memᴰ.append_left g.retired (newest_has g.history l.held i h)

  module _ (s : Setup) (size : ℕ) (l : Ledger) (x : Site) (t : Simulates digest s size l x) (g : PlaceHistories s l x) (i : ℕ)
      (e : (interpretation x.table x.records i).refusal ≡ 0) where
    abbrev table : Bytes
    table = x.table

    abbrev v : View
    v = view_of x.table

    below : i < count_of table
    below = here table x.records i e

    place : i < l.held
    place = omega (arith, below, t.count)

    unmarked : l.mark i ≢ 1
    unmarked m = ((causes table x.records i).none.0 e).0.unmarked ((t.rows i below).mark ∙ m)

    module _ (slot : ℕ) (within : slot < slot_count) where
      part_is : (j : ℕ) → j < l.held → l.mark j ≡ 1 → part_of x.records j ≡ numbers_of (λ slot. slot_record s slot (g.history j))
      unfolding meaning
      part_is j h m = g.shown j h m

      refers_is : (j : ℕ) → j < i → (row_at table i).refers_to j ≡ ((view_in digest l).row i).refers_to j
      refers_is j h = (t.rows i below).refers_to j (omega (arith, below, few digest s size l x t))

      -- what is read of a block referred to is its meaning
      read_is : (j : ℕ) → j < i → (row_at table i).refers_to j ≡ true → direct_at v x.records slot j ≡ direct_of s slot (g.history j)
      unfolding direct_of
      read_is j h y =
          let low : j < count_of table = omega (arith, below) in
          let row = t.rows j low in
          let its : block_of (g.history j) ≡ l.block j = g.blocks j (omega (arith, place)) in
          let marked : l.mark j ≡ 1 = sym row.mark ∙ ready table x.records i e j h y in
          let state : record_in x.records j slot ≡ slot_record s slot (g.history j) =
          record_in_lem (λ slot. slot_record s slot (g.history j)) (λ slot k. record_sized s slot (g.history j)) x.records j slot within (part_is j (omega (arith, t.count)) marked) in
          λ k. record { site = (row.site ∙ ap site_of (sym its)) k; sequence = (row.sequence ∙ ap sequence_of (sym its)) k; state = state k }

      abbrev read : List Direct
      read = directs_below v x.records slot (row_at table i) i

      from : (d : Direct) → Memᴰ d read → (c : History) × Memᴰ c (children (g.history i)) × (d ≡ direct_of s slot c)
      from d m =
          let w = below_from v x.records slot (row_at table i) i d m in
          (g.history w.0, g.refers i w.0 place w.1 (sym (refers_is w.0 w.1) ∙ w.2), w.3 ∙ read_is w.0 w.1 w.2)

      has : (c : History) → Memᴰ c (children (g.history i)) → Memᴰ (direct_of s slot c) read
      has c m =
          let w = g.waits i place unmarked c m in
          let y : (row_at table i).refers_to w.0 ≡ true = refers_is w.0 w.1 ∙ w.2 in
          Memᴰ.cast (ap (direct_of s slot) w.3 ∙ sym (read_is w.0 w.1 y)) (below_has v x.records slot (row_at table i) i w.0 w.1 y)

      record_is : record_for s v x.records i slot ≡ slot_record s slot (g.history i)
      unfolding record_for
      record_is =
          let row = t.rows i below in
          let its : l.block i ≡ block_of (g.history i) = sym (g.blocks i place) in
          record_same s slot (g.history i) _ _ _ read (row.site ∙ ap site_of its) (row.sequence ∙ ap sequence_of its)
          (row.request slot within ∙ ap (λ (b : Bytes). request_for b slot) its) from has
          (admitted_in digest (histories s l x g) g.in_turn (g.history i) (history_in s l x g i place)).single

    -- what is written is the meaning of the place's history
    pub written_is : written s v x.records i ≡ meaning s (g.history i)
    unfolding meaning numbers_of
    written_is = ap concat (list_same (λ slot. flatten (record_for s v x.records i slot)) (λ slot. flatten (slot_record s slot (g.history i))) slot_count
        (λ slot h. ap flatten (record_is slot h)))
