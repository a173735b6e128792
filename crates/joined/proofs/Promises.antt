-- A joined site is one that calls could have reached, with any digest of 32 bytes, and so with SHA-256. Assumes nothing.
use mathlib.Core.Path.{◌≡◌, sym, ap, ◌∙◌, subst}
use mathlib.Core.Bool.{true}
use mathlib.Core.Logic.{◌⊎◌, ◌↔◌}
use mathlib.Core.List.Memᴰ
use mathlib.Core.List.{List, ◌++◌, Memᴰ}
use Prim.Native.Nat.{ℕ, ◌<◌}
use native.Mathlib.Omega.{arith}
use lib.Dec.{ltb}
use lib.ListN.{length}
use borrow.Author.Tests.{ltb-true, ltb-false}
use Rattle.base.specs.Bytes.{Bytes}
use Rattle.base.proofs.Tests.{by_test}
use Rattle.sha256.specs.Sha256.{sha256}
use Rattle.sha256.proofs.Promises.{sha256_length}
use Rattle.setup.specs.Setup.{Setup, lawful}
use Rattle.block.specs.Limits.{reference_size}
use Rattle.table.specs.Layout.{setup_of, retired_of, count_of}
use Rattle.table.proofs.Canonical.{Canonical}
use Rattle.records.specs.Layout.{buffer_size}
use Rattle.join.specs.Join.{joined_table, joined_records}
use Rattle.join.specs.Steps.{JoinableSides}
use Rattle.join.proofs.CheckedJoin.{passes, joined_passed, copied_passed}
use Rattle.join.proofs.TableInvariant.{TableInvariant}
use Rattle.join.proofs.ThirdBuffer.{whole, records_length}
use Rattle.run.specs.Ledger.{Call, Ledger}
use Rattle.run.specs.Run.{Site, started, site_after}
use Rattle.run.specs.Promises.{ledger_of, site_with}
use Rattle.run.proofs.LedgerPlaces.{LedgerPlaces, standing}
use Rattle.run.proofs.Runs.{after_append}
use Rattle.run.proofs.Growth.{none_retired}
use Rattle.run.proofs.Promises.{run}
use Rattle.run.proofs.SiteInvariant.{Fixed, SiteInvariant, reached, Rows, reached_rows}
use Rattle.run.proofs.Reachability.{calls_of, retraced, calls_among}
use Rattle.agreement.proofs.TwoSites.{promised}
use Rattle.arrival.proofs.Theorem as arrival
use Rattle.joined.specs.Promises.{join_of, CanJoin, ShowsDelivered, Reachable, left, right, Covered}
use Rattle.joined.proofs.Parts.{restored_is, joined_fixed}
use Rattle.joined.proofs.Deliveries.{delivered}
use Rattle.joined.proofs.Blocks.{block_of, placed_right, joined_rows}
use Rattle.joined.proofs.Agreement.{agreed}

module _ (digest : Bytes → Bytes) (sized : (b : Bytes) → length (digest b) ≡ reference_size) where
  -- two sites that calls reached, joined
  module _ (s z : Setup) (law : lawful s ≡ true) (size₁ size₂ : ℕ) (l₁ l₂ : Ledger) (x y : Site)
      (r₁ : SiteInvariant digest sized s size₁ l₁ x) (r₂ : SiteInvariant digest sized z size₂ l₂ y) (third : List ℕ) (e : CanJoin x y third) where
    p : JoinableSides x.table y.table x.records y.records third
    p = passes x.table y.table x.records y.records third e

    abbrev t : Bytes
    t = joined_table x.table y.table

    abbrev n : ℕ
    n = count_of x.table

    abbrev c : ℕ
    c = count_of t

    abbrev records : List ℕ
    records = joined_records x.table y.table x.records y.records third

    all : TableInvariant x.table y.table p.joinable (count_of y.table) t
    all = whole x.table y.table x.records y.records third p

    set : setup_of t ≡ s
    set = all.setup ∙ r₁.invariant.simulated.setup

    one_setup : z ≡ s
    one_setup = sym r₂.invariant.simulated.setup ∙ sym p.joinable.setup ∙ r₁.invariant.simulated.setup

    rows₁ : Rows digest x.table l₁.block
    rows₁ = reached_rows digest sized s size₁ l₁ x r₁

    rows₂ : Rows digest y.table l₂.block
    rows₂ = reached_rows digest sized z size₂ l₂ y r₂

    abbrev block : ℕ → Bytes
    block = block_of digest x.table y.table x.records y.records third p l₁.block l₂.block rows₁ rows₂

    rows : Rows digest t block
    rows = joined_rows digest x.table y.table x.records y.records third p l₁.block l₂.block rows₁ rows₂

    canonical : Canonical t
    canonical = all.canonical r₁.canonical

    fixed_right : Fixed s y.table y.records
    fixed_right = subst (λ (u : Setup). Fixed u y.table y.records) one_setup r₂.fixed

    fixed : Fixed s t records
    fixed = joined_fixed x.table y.table x.records y.records third p s r₁.fixed fixed_right

    size : length records ≡ buffer_size
    size = records_length x.table y.table x.records y.records third p

    abbrev calls : List Call
    calls = calls_of digest sized s law t all.formed all.retired set block rows third canonical records fixed size p.size

    -- what joining leaves
    result_is : ◌≡◌ {A = Site} (record { table = t; records = records }) (join_of x y third)
    result_is = λ i. record {
      table = sym (joined_passed x.table y.table x.records y.records third e) i;
      records = sym (copied_passed x.table y.table x.records y.records third e) i;
    }

    shows : (slot v : ℕ) → ShowsDelivered (join_of x y third) slot v ↔ (ShowsDelivered x slot v ⊎ ShowsDelivered y slot v)
    shows slot v = subst (λ (z : Site). ShowsDelivered z slot v ↔ (ShowsDelivered x slot v ⊎ ShowsDelivered y slot v)) result_is
        (delivered x y third p s r₁.fixed fixed_right slot v)

    reaches : site_with digest s third calls ≡ join_of x y third
    reaches =
        retraced digest sized s law t all.formed all.retired set block rows third canonical records fixed size p.size
        ∙ ap (λ (b : List ℕ). record { table = t; records = b }) (restored_is x.table y.table x.records y.records third p c (omega arith)) ∙ result_is

    -- what is admitted

    stand₁ : LedgerPlaces digest l₁ x.table
    stand₁ = standing digest sized s size₁ l₁ x r₁.invariant

    stand₂ : LedgerPlaces digest l₂ y.table
    stand₂ = standing digest sized z size₂ l₂ y r₂.invariant

    block_among : (i : ℕ) → i < c → Memᴰ (block i) (l₁.blocks ++ l₂.blocks)
    block_among i h = by_test (ltb i n)
        (λ o. rw o (Memᴰ.append_left l₂.blocks (stand₁.among i (stand₁.held i (ltb-true i n o)))))
        (λ o. let u = placed_right digest x.table y.table x.records y.records third p l₁.block l₂.block rows₁ rows₂ i (omega (arith, ltb-false i n o)) h in
        rw o (Memᴰ.append_right l₁.blocks (stand₂.among _ (stand₂.held _ u.0))))

    among : (b : Bytes) → Memᴰ b (ledger_of digest s third calls).blocks → Memᴰ b (l₁.blocks ++ l₂.blocks)
    among b m =
        let w = calls_among digest sized s law t all.formed all.retired set block rows third canonical records fixed size p.size b m in
        Memᴰ.cast w.2 (block_among w.0 w.1)

    reachable : Reachable digest s third (l₁.blocks ++ l₂.blocks) (join_of x y third)
    reachable = record { calls = calls; reaches = reaches; among = among }

  -- a site whose table says so has retired nothing
  unretired_reached : (s : Setup) → lawful s ≡ true → (buffer : List ℕ) (calls : List Call) → retired_of (site_with digest s buffer calls).table ≡ 0
      → SiteInvariant digest sized s (length buffer) (ledger_of digest s buffer calls) (site_with digest s buffer calls)
  unretired_reached s law buffer calls e =
      reached digest sized s law buffer calls (none_retired (ledger_of digest s buffer calls).retired (sym (run digest sized s law buffer calls).simulated.retired ∙ e))

  pub covered : (s z : Setup) → lawful s ≡ true → lawful z ≡ true → (buffer₁ buffer₂ third : List ℕ) (calls₁ calls₂ : List Call)
      → CanJoin (left digest s z buffer₁ buffer₂ third calls₁ calls₂) (right digest s z buffer₁ buffer₂ third calls₁ calls₂) third
      → Covered digest s z buffer₁ buffer₂ third calls₁ calls₂
  covered s z law other buffer₁ buffer₂ third calls₁ calls₂ e =
      let joins = (passes _ _ _ _ third e).joinable in
      let r₁ = unretired_reached s law buffer₁ calls₁ joins.left_retired in
      let r₂ = unretired_reached z other buffer₂ calls₂ joins.right_retired in
      let r = reachable s z law (length buffer₁) (length buffer₂) (ledger_of digest s buffer₁ calls₁) (ledger_of digest z buffer₂ calls₂)
      (site_with digest s buffer₁ calls₁) (site_with digest z buffer₂ calls₂) r₁ r₂ third e in
      record {
        reachable = r;
        delivered = shows s z law (length buffer₁) (length buffer₂) (ledger_of digest s buffer₁ calls₁) (ledger_of digest z buffer₂ calls₂)
            (site_with digest s buffer₁ calls₁) (site_with digest z buffer₂ calls₂) r₁ r₂ third e;
        goes_on = λ more. after_append digest (started s third) r.calls more ∙ ap (λ (x : Site). site_after digest x more) r.reaches;
        promised = λ more buffer₃ calls₃. promised digest sized s law third buffer₃ (r.calls ++ more) calls₃;
        arrives = λ more. arrival.arrival digest sized s law third (r.calls ++ more);
        agreement = agreed digest sized s law third _ _ r;
      }

pub theorem : (s z : Setup) → lawful s ≡ true → lawful z ≡ true → (buffer₁ buffer₂ third : List ℕ) (calls₁ calls₂ : List Call)
    → CanJoin (left sha256 s z buffer₁ buffer₂ third calls₁ calls₂) (right sha256 s z buffer₁ buffer₂ third calls₁ calls₂) third
    → Covered sha256 s z buffer₁ buffer₂ third calls₁ calls₂
theorem = covered sha256 sha256_length
