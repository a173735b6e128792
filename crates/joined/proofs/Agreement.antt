-- Agreement for a site that calls could have reached from blocks of a list: where at most f sites forked among these blocks and those of a
-- further site, the two show one number for a slot. Assumes nothing; what is taken as given stands in the promise itself.
use mathlib.Core.Path.{◌≡◌, refl, sym, ap, ◌∙◌, subst}
use mathlib.Core.Bool.{true}
use mathlib.Core.Logic.{◌⊎◌, inl, inr}
use mathlib.Core.List.Memᴰ
use mathlib.Core.List.{List, ◌++◌, Memᴰ}
use Prim.Native.Nat.{ℕ, ◌+◌, ◌*◌, ◌≤◌, ◌<◌}
use native.Mathlib.Omega.{arith}
use lib.ListN.{length, get_or}
use Rattle.base.specs.Count.{count_below}
use Rattle.base.specs.Bytes.{Bytes}
use Rattle.base.proofs.Count.{count_mono}
use Rattle.base.proofs.List.{some_found, some_at_lem}
use Rattle.setup.specs.Setup.{Setup, lawful, faults, slot_count}
use Rattle.block.specs.Limits.{reference_size}
use Rattle.records.specs.Layout.{record_size}
use Rattle.history.specs.Forks.{forked, NoCollision}
use Rattle.run.specs.Ledger.{Call, Ledger}
use Rattle.run.specs.Run.{Site}
use Rattle.run.specs.Promises.{delivered_entry, Delivered, SiteKeeps, ledger_of, site_with}
use Rattle.agreement.specs.TwoSites.{TwoSites}
use Rattle.agreement.proofs.TwoSites.{promised}
use Rattle.joined.specs.Promises.{ShowsDelivered, Reachable}

-- a site that forked among some of the blocks forked among all
forked_more : (bs cs : List Bytes) → ((b : Bytes) → Memᴰ b bs → Memᴰ b cs) → (p : ℕ) → forked bs p ≡ true → forked cs p ≡ true
unfolding forked
forked_more bs cs f p y =
    let a = some_found _ bs y in
    let b = some_found _ bs a.2 in
    some_at_lem _ cs a.0 (f a.0 a.1) (some_at_lem _ cs b.0 (f b.0 b.1) b.2)

module _ (digest : Bytes → Bytes) (sized : (b : Bytes) → length (digest b) ≡ reference_size) (s : Setup) (law : lawful s ≡ true) where
  -- what a site's records show is delivered in its ledger
  shown_delivered : (l : Ledger) (x : Site) → SiteKeeps digest s l x → NoCollision digest l.blocks → (slot v : ℕ) → ShowsDelivered x slot v → Delivered digest s l slot v
  shown_delivered l x k safe slot v d =
      let h : d.place < l.held = omega (arith, d.below, k.count) in
      let m : l.mark d.place ≡ 1 = sym (k.rows d.place h).mark ∙ d.mark in
      record {
        block = l.block d.place;
        is_interpreted = inl (d.place, record { below = h; mark = m }, refl);
        not_zero = d.not_zero;
        entry = ap (λ (b : List ℕ). get_or b (record_size * slot + delivered_entry) 0) (sym (k.shown (λ a b r. safe a b ((k.placed a).1 (inr r))) d.place (record { below = h; mark = m }))) ∙ d.entry;
      }

  pub agreed : (third : List ℕ) (blocks : List Bytes) (x : Site) → Reachable digest s third blocks x → (buffer : List ℕ) (calls : List Call)
      → NoCollision digest (blocks ++ (ledger_of digest s buffer calls).blocks)
      → count_below (forked (blocks ++ (ledger_of digest s buffer calls).blocks)) s.sites ≤ faults s.sites
      → (slot v w : ℕ) → slot < slot_count → ShowsDelivered x slot v → ShowsDelivered x slot w ⊎ ShowsDelivered (site_with digest s buffer calls) slot w → v ≡ w
  agreed third blocks x r buffer calls safe few slot v w h d e =
      all.agreement (λ a b ma mb. safe a b (more a ma) (more b mb))
      (omega (arith, count_mono (forked mine) (forked (blocks ++ other)) s.sites (λ p l y. forked_more mine (blocks ++ other) more p y)))
      slot v w h (inl (first v d)) (elim e [ inl u ↦ inl (first w u) | inr u ↦ inr (shown_delivered _ _ all.second (λ a b m n. safe a b (Memᴰ.append_right blocks m) (Memᴰ.append_right blocks n)) slot w u) ])
    where
      all : TwoSites digest s third buffer r.calls calls
      all = promised digest sized s law third buffer r.calls calls

      other : List Bytes
      other = (ledger_of digest s buffer calls).blocks

      mine : List Bytes
      mine = (ledger_of digest s third r.calls).blocks ++ other

      more : (b : Bytes) → Memᴰ b mine → Memᴰ b (blocks ++ other)
      more b m = elim (Memᴰ.append_cases (ledger_of digest s third r.calls).blocks m) [
        | inl u ↦ Memᴰ.append_left other (r.among b u)
        | inr u ↦ Memᴰ.append_right blocks u
      ]

      first : (v : ℕ) → ShowsDelivered x slot v → Delivered digest s (ledger_of digest s third r.calls) slot v
      first v u = shown_delivered _ _ all.first (λ a b m n. safe a b (Memᴰ.append_left other (r.among a m)) (Memᴰ.append_left other (r.among b n))) slot v (subst (λ (y : Site). ShowsDelivered y slot v) (sym r.reaches) u)
