-- A block that building wrote from a table is as proofs/Builders.antt asks: the site's held blocks have lower sequence numbers; and what a block of
-- another site refers to, to which it refers, it refers to itself or a held block of its site does, since the rule picks in place order and a place
-- refers only to lower places. Assumes nothing.
use mathlib.Core.Path.{◌≡◌, sym, ap, ◌∙◌, subst}
use mathlib.Core.Logic.{◌⊎◌, ◌≢◌, inl, inr}
use mathlib.Core.Bool.{true, ◌&&◌}
use mathlib.Core.List.Memᴰ
use mathlib.Core.List.{[], Memᴰ, map}
use Prim.Native.Nat.{ℕ, ◌<◌}
use native.Mathlib.Omega.{arith}
use lib.ListN.{length}
use borrow.Author.Tests.{ne_eqb, lt-ltb}
use Rattle.base.specs.Bytes.{Bytes}
use Rattle.base.proofs.Tests.{by_test, and_left, and_right}
use Rattle.base.proofs.Members.{member_at}
use Rattle.base.proofs.Search.{any_true_at}
use Rattle.setup.specs.Setup.{Setup}
use Rattle.block.specs.Limits.{reference_size}
use Rattle.block.specs.Layout.{site_of, sequence_of, references_of}
use Rattle.table.specs.View.{max_places, View}
use Rattle.table.specs.Layout.{count_of, digest_at, site_at, row_at, view_of}
use Rattle.table.proofs.InForm.{one_place}
use Rattle.watch.specs.Forks.{everywhere, of_site}
use Rattle.build.specs.Building.{next_sequence, is_referred, is_other, picked, next_block}
use Rattle.build.proofs.Sequence.{next_above}
use Rattle.build.proofs.PickedPlaces.{picked_held, picked_lower}
use Rattle.build.proofs.Fields.{next_numbered, next_refers}
use Rattle.build.proofs.Promises.{built_block}
use Rattle.run.specs.Ledger.{Ledger}
use Rattle.run.specs.Run.{Site}
use Rattle.run.proofs.Simulation.{Simulates}
use Rattle.run.proofs.Runs.{RunInvariant}
use Rattle.run.proofs.LedgerPlaces.{LedgerPlaces, standing}
use Rattle.agreement.proofs.Watch.{of_site_lem, site_of_lem}
use Rattle.arrival.specs.Full.{BlockBy, RefersTo}
use Rattle.arrival.specs.Building.{BuiltFrom}
use Rattle.arrival.proofs.Builders.{Picks}

module _ (digest : Bytes → Bytes) (sized : (b : Bytes) → length (digest b) ≡ reference_size) (s : Setup) (size : ℕ) (l : Ledger) (x : Site)
    (invariant : RunInvariant digest sized s size l x) (none : l.retired ≡ []) (p : ℕ) (b : Bytes) (w : BuiltFrom x.table p b) where
  abbrev t : Simulates digest s size l x
  t = invariant.simulated

  abbrev table : Bytes
  table = x.table

  abbrev v : View
  v = view_of table

  stand : LedgerPlaces digest l table
  stand = standing digest sized s size l x invariant

  -- ---- what it shows

  is_next : b ≡ next_block everywhere v p w.requests
  is_next = sym w.writes ∙ built_block everywhere table p w.requests w.output w.success

  numbered : sequence_of b ≡ next_sequence everywhere v p
  numbered = ap sequence_of is_next ∙ next_numbered everywhere v p w.requests

  refers_are : references_of b ≡ map (digest_at table) (picked everywhere v p)
  refers_are = ap references_of is_next ∙ next_refers everywhere table p w.requests t.formed

  digest_is : (i : ℕ) → i < l.held → digest_at table i ≡ digest (l.block i)
  digest_is i h = (t.rows i (stand.counted i h)).digest

  -- it refers to a held block where the block's place is picked, and only there
  picked_refers : (i : ℕ) → i < l.held → Memᴰ i (picked everywhere v p) → RefersTo digest b (l.block i)
  picked_refers i h m = subst (Memᴰ (digest (l.block i))) (sym refers_are) (Memᴰ.cast (sym (digest_is i h)) (Memᴰ.map (digest_at table) m))

  refers_picked : (i : ℕ) → i < l.held → RefersTo digest b (l.block i) → Memᴰ i (picked everywhere v p)
  refers_picked i h r =
      let u = Memᴰ.of_map (digest_at table) (picked everywhere v p) (subst (Memᴰ (digest (l.block i))) refers_are r) in
      let k = member_at (picked everywhere v p) u.0 0 u.1 in
      let below : u.0 < count_of table = subst (λ (j : ℕ). j < count_of table) k.2 (picked_held everywhere v p k.0 k.1) in
      let same : u.0 ≡ i = one_place table t.formed u.0 i below (stand.counted i h) (u.2 ∙ sym (digest_is i h)) in
      Memᴰ.cast (sym same) u.1

  -- ---- the rule

  rises : (d : Bytes) → BlockBy l.blocks p d → sequence_of d < sequence_of b
  rises d y =
      let u = stand.all_placed none d y.held in
      let own : site_of (l.block u.0) ≡ p = ap site_of (sym u.2) ∙ y.by_site in
      let k = stand.counted u.0 u.1 in
      omega (arith, numbered, (t.rows u.0 k).sequence, ap sequence_of u.2, next_above everywhere v p u.0 k (of_site_lem digest sized s size l x invariant p u.0 u.1 own))

  -- a block of the site refers to place j, or the block itself does, where it refers to a place of another site that refers to place j
  closed_at : (i j : ℕ) → i < l.held → j < l.held → site_of (l.block i) ≢ p → site_of (l.block j) ≢ p → RefersTo digest b (l.block i)
      → RefersTo digest (l.block i) (l.block j) → RefersTo digest b (l.block j) ⊎ ((d : Bytes) × BlockBy l.blocks p d × RefersTo digest d (l.block j))
  closed_at i j hi hj n m r ij = by_test (is_referred everywhere v p j)
      (λ y.
      let u = any_true_at (λ k. of_site v everywhere p k && (row_at table k).refers_to j) (count_of table) y in
      let h : u.0 < l.held = stand.held u.0 u.1 in
      let own = and_left (of_site v everywhere p u.0) ((row_at table u.0).refers_to j) u.2 in
      let lists = and_right (of_site v everywhere p u.0) ((row_at table u.0).refers_to j) u.2 in
      inr (l.block u.0, record { held = stand.among u.0 h; by_site = site_of_lem digest sized s size l x invariant p u.0 h own }, stand.lists u.0 j h hj lists))
      (λ z.
      let other : is_other everywhere v p j ≡ true = rw (
        lt-ltb j max_places (stand.fits j hj),
        ne_eqb (site_at table j) p (λ e. m (sym (t.rows j (stand.counted j hj)).site ∙ e)),
        z,
      ) in
      let lower : j < i = (stand.row i hi).lower j (stand.fits j hj) (stand.refers none i j hi hj ij) in
      inl (picked_refers j hj (picked_lower everywhere v p i j (refers_picked i hi r) (λ e. n (sym (t.rows i (stand.counted i hi)).site ∙ e)) lower other)))

  closed : (c a : Bytes) → Memᴰ c l.blocks → Memᴰ a l.blocks → site_of c ≢ p → site_of a ≢ p → RefersTo digest b c → RefersTo digest c a
      → RefersTo digest b a ⊎ ((d : Bytes) × BlockBy l.blocks p d × RefersTo digest d a)
  closed c a mc ma = go (stand.all_placed none c mc) (stand.all_placed none a ma)
    where
      go : (i : ℕ) × (i < l.held) × (c ≡ l.block i) → (j : ℕ) × (j < l.held) × (a ≡ l.block j) → site_of c ≢ p → site_of a ≢ p → RefersTo digest b c
          → RefersTo digest c a → RefersTo digest b a ⊎ ((d : Bytes) × BlockBy l.blocks p d × RefersTo digest d a)
      go (i, hi, ei) (j, hj, ej) = rw (ei, ej) (closed_at i j hi hj)

  pub picks : Picks digest p l.blocks b
  picks = record { rises = rises; closed = closed }
