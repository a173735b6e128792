-- What the watch says of a table that calls reached: its forked sites and its ancestors are the ledger's. Assumes nothing.
use mathlib.Core.Path.{◌≡◌, refl, sym, ap, ◌∙◌, subst}
use mathlib.Core.Bool.{true}
use mathlib.Core.Logic.{inl, inr}
use mathlib.Core.List.{List, [], Memᴰ}
use Prim.Native.Nat.{ℕ, ◌≤◌, ◌<◌}
use native.Mathlib.Nat.{eq-or-lt_of_le}
use native.Mathlib.Omega.{arith}
use native.Mathlib.Decide.{dec_lt}
use lib.Dec.{eqb}
use lib.ListN.{length}
use borrow.Author.Tests.{eq-eqb, eqb-true, lt-ltb}
use Rattle.base.specs.Bytes.{Bytes}
use Rattle.base.proofs.Tests.{and_right, same_tests}
use Rattle.sha256.specs.Sha256.{sha256}
use Rattle.sha256.proofs.Promises.{sha256_length}
use Rattle.setup.specs.Setup.{Setup, lawful}
use Rattle.block.specs.Limits.{reference_size}
use Rattle.block.specs.Layout.{site_of, sequence_of, references_of}
use Rattle.table.specs.View.{max_places}
use Rattle.table.specs.Layout.{site_at, view_of}
use Rattle.watch.specs.Forks.{everywhere, of_site, forks}
use Rattle.watch.specs.Ancestors.{PlaceAncestor, direct, further}
use Rattle.watch.specs.Promises.{Shares}
use Rattle.watch.proofs.Promises.{promises}
use Rattle.history.specs.Ancestry.{AncestorIn, refers, through}
use Rattle.history.specs.Forks.{forked}
use Rattle.history.proofs.Forks.{Fork, fork_forked, forked_fork}
use Rattle.run.specs.Ledger.{Call, Ledger}
use Rattle.run.specs.Run.{Site}
use Rattle.run.specs.Promises.{ledger_of, site_with}
use Rattle.run.proofs.Simulation.{Simulates}
use Rattle.run.proofs.Runs.{RunInvariant}
use Rattle.run.proofs.LedgerPlaces.{LedgerPlaces, standing}
use Rattle.run.proofs.Promises.{run}
use Rattle.agreement.specs.Watch.{NamedAncestor, WatchKeeps}

module _ (digest : Bytes → Bytes) (sized : (b : Bytes) → length (digest b) ≡ reference_size) (s : Setup) (size : ℕ) (l : Ledger) (x : Site)
    (invariant : RunInvariant digest sized s size l x) where
  abbrev t : Simulates digest s size l x
  t = invariant.simulated

  abbrev table : Bytes
  table = x.table

  stand : LedgerPlaces digest l table
  stand = standing digest sized s size l x invariant

  -- ---- forks

  pub of_site_lem : (p i : ℕ) → i < l.held → site_of (l.block i) ≡ p → of_site (view_of table) everywhere p i ≡ true
  of_site_lem p i h e = rw (lt-ltb i max_places (stand.fits i h), eq-eqb (site_at table i) p ((t.rows i (stand.counted i h)).site ∙ e))

  pub site_of_lem : (p i : ℕ) → i < l.held → of_site (view_of table) everywhere p i ≡ true → site_of (l.block i) ≡ p
  site_of_lem p i h e = sym (t.rows i (stand.counted i h)).site ∙ eqb-true (site_at table i) p (and_right (everywhere i) (eqb (site_at table i) p) e)

  shared_forked : (p : ℕ) → Shares (view_of table) everywhere p → forked l.blocks p ≡ true
  shared_forked p w =
      let i : ℕ = w.one in
      let j : ℕ = w.other in
      let hj : j < l.held = omega (arith, w.held, t.count) in
      let hi : i < l.held = omega (arith, hj, w.different) in
      fork_forked l.blocks p (record {
        one = l.block i;
        other = l.block j;
        one_among = stand.among i hi;
        other_among = stand.among j hj;
        one_site = site_of_lem p i hi w.one_of;
        other_site = site_of_lem p j hj w.other_of;
        sequence = sym (t.rows i (stand.counted i hi)).sequence ∙ w.sequence ∙ (t.rows j (stand.counted j hj)).sequence;
        different = λ e.
            (stand.row j hj).new i w.different ((t.rows i (stand.counted i hi)).digest ∙ ap digest e ∙ sym (t.rows j (stand.counted j hj)).digest);
      })

  -- at places that rise
  sharing : (p i j : ℕ) → i < j → j < l.held → site_of (l.block i) ≡ p → site_of (l.block j) ≡ p → sequence_of (l.block i) ≡ sequence_of (l.block j)
      → Shares (view_of table) everywhere p
  sharing p i j d h a b q =
      let hi : i < l.held = omega (arith, h, d) in
      record {
        one = i;
        other = j;
        different = d;
        held = stand.counted j h;
        one_of = of_site_lem p i hi a;
        other_of = of_site_lem p j h b;
        sequence = (t.rows i (stand.counted i hi)).sequence ∙ q ∙ sym (t.rows j (stand.counted j h)).sequence;
      }

  two_places : (p : ℕ) (f : Fork l.blocks p) → (i : ℕ) × (i < l.held) × (f.one ≡ l.block i) → (j : ℕ) × (j < l.held) × (f.other ≡ l.block j)
      → Shares (view_of table) everywhere p
  two_places p f (i, h, u) (j, k, w) =
      let sa : site_of (l.block i) ≡ p = ap site_of (sym u) ∙ f.one_site in
      let sb : site_of (l.block j) ≡ p = ap site_of (sym w) ∙ f.other_site in
      let q : sequence_of (l.block i) ≡ sequence_of (l.block j) = ap sequence_of (sym u) ∙ f.sequence ∙ ap sequence_of w in
      elim (dec_lt i j) [
        | yes d ↦ sharing p i j d k sa sb q
        | no g ↦ let le : j ≤ i = omega arith in elim (eq-or-lt_of_le le) [
          | inl e ↦ absurd (f.different (u ∙ ap l.block (sym e) ∙ sym w))
          | inr d ↦ sharing p j i d h sb sa (sym q)
        ]
      ]

  forked_shared : l.retired ≡ [] → (p : ℕ) → forked l.blocks p ≡ true → Shares (view_of table) everywhere p
  forked_shared none p e =
      let f = forked_fork l.blocks p e in
      two_places p f (stand.all_placed none f.one f.one_among) (stand.all_placed none f.other f.other_among)

  -- ---- ancestors

  ancestor_of_block : {a i : ℕ} → i < l.held → PlaceAncestor (view_of table) a i → (a < l.held) × AncestorIn digest l.blocks (l.block a) (l.block i)
  ancestor_of_block {a} {i} h (direct k e) = let ka = stand.held a k in (ka, refers (stand.among a ka) (stand.lists i a h ka e))
  ancestor_of_block {a} {i} h (further {c = c} w k e) =
      let kc = stand.held c k in
      let r = ancestor_of_block kc w in
      (r.0, through r.1 (stand.among c kc) (stand.lists i c h kc e))

  -- a place above which place i stands, and its block
  record AncestorPlace (i : ℕ) (b : Bytes) : Type 0 where
    place : ℕ
    above : PlaceAncestor (view_of table) place i
    holds : l.block place ≡ b

  block_of_ancestor : l.retired ≡ [] → {b e : Bytes} → AncestorIn digest l.blocks b e → (i : ℕ) → i < l.held → e ≡ l.block i → AncestorPlace i b
  block_of_ancestor none (refers {a = b} m r) i h q =
      let w = stand.all_placed none b m in
      let e : Memᴰ (digest (l.block w.0)) (references_of (l.block i)) = rw (← q, ← w.2) r in
      record { place = w.0; above = direct (stand.counted w.0 w.1) (stand.refers none i w.0 h w.1 e); holds = sym w.2 }
  block_of_ancestor none (through {c = c} u m r) i h q =
      let w = stand.all_placed none c m in
      let e : Memᴰ (digest (l.block w.0)) (references_of (l.block i)) = rw (← q, ← w.2) r in
      let v = block_of_ancestor none u w.0 w.1 w.2 in
      record { place = v.place; above = further v.above (stand.counted w.0 w.1) (stand.refers none i w.0 h w.1 e); holds = v.holds }

  -- ---- what the watch answers

  forks_answered : (forks table).refusal ≡ 0
  unfolding forks
  forks_answered = rw t.formed

  named_ancestor : (i : ℕ) → i < l.held → (b : Bytes) → NamedAncestor l x i b → AncestorIn digest l.blocks b (l.block i)
  named_ancestor i h b w =
      subst (λ (c : Bytes). AncestorIn digest l.blocks c (l.block i)) w.holds
      (ancestor_of_block h ((promises.ancestor table i t.formed (stand.counted i h) w.place).0 w.named)).1

  ancestor_named : l.retired ≡ [] → (i : ℕ) → i < l.held → (b : Bytes) → AncestorIn digest l.blocks b (l.block i) → NamedAncestor l x i b
  ancestor_named none i h b u =
      let w = block_of_ancestor none u i h refl in
      record {
        place = w.place;
        held = (ancestor_of_block h w.above).0;
        named = (promises.ancestor table i t.formed (stand.counted i h) w.place).1 w.above;
        holds = w.holds;
      }

  pub watch_keeps : WatchKeeps digest l x
  watch_keeps =
      record {
        formed = forks_answered;
        answered = λ i h. (promises.none table i).1 (t.formed, stand.counted i h);
        named_forked = λ p e. shared_forked p ((promises.forked table t.formed p).0 e);
        forked_sites = λ none p.
            let named = promises.forked table t.formed p in
            same_tests _ _ (λ e. shared_forked p (named.0 e)) (λ e. named.1 (forked_shared none p e));
        named_ancestor = named_ancestor;
        ancestor_places = λ none i h b. (named_ancestor i h b, ancestor_named none i h b);
      }

-- the digest that runs
pub watched : (s : Setup) → lawful s ≡ true → (buffer : List ℕ) (calls : List Call) → WatchKeeps sha256 (ledger_of sha256 s buffer calls) (site_with sha256 s buffer calls)
watched s law buffer calls = watch_keeps sha256 sha256_length s (length buffer) _ _ (run sha256 sha256_length s law buffer calls)
