-- A list of blocks in which the blocks of one site are as the building rule makes them: the chain of each refers to every ancestor of it, whoever
-- built that ancestor. So the site is full, by the blocks of its own ledger and of any other that holds its blocks. Assumes nothing.
use mathlib.Core.Path.{◌≡◌, sym, ap, ◌∙◌, subst}
use mathlib.Core.Logic.{◌⊎◌, ◌≢◌, inl, inr}
use mathlib.Core.List.Memᴰ
use mathlib.Core.List.{List, [], ◌∷◌, Memᴰ}
use Prim.Native.Nat.{ℕ, zero, suc, ◌+◌, ◌-◌, ◌≤◌, ◌<◌}
use native.Mathlib.Omega.{arith}
use lib.Dec.{eqb}
use lib.ListN.{drop}
use borrow.Author.Tests.{eqb-true, eqb-false}
use Rattle.base.specs.Bytes.{Bytes}
use Rattle.base.proofs.Tests.{by_test}
use Rattle.block.specs.Layout.{site_of, sequence_of, references_of}
use Rattle.history.specs.History.{block_of}
use Rattle.history.specs.Ancestry.{AncestorIn, refers, through}
use Rattle.history.proofs.Histories.{parent_site, parent_sequence}
use Rattle.history.proofs.Ancestry.{OneHistory, Holds, RefersBack, refers_back, referred_held, child_of, child_parent}
use Rattle.history.proofs.Forks.{Single, single_unforked}
use Rattle.arrival.specs.Full.{BlockBy, RefersTo, InChain, itself, earlier, Above, ReferredInChain, Full}
use Rattle.arrival.proofs.Chains.{chain_held, chain_site, chain_sequence, chain_refers_lem}

module _ (digest : Bytes → Bytes) where
  -- a block whose digest is held is held, where no other of the blocks has that digest
  held_by_digest : (bs : List Bytes) (c : Bytes) → ((d : Bytes) → Memᴰ d bs → digest d ≡ digest c → d ≡ c) → Holds digest bs (digest c) → Memᴰ c bs
  held_by_digest bs c same h = Memᴰ.cast (sym (same h.0 h.1 h.2)) h.1

module _ (digest : Bytes → Bytes) (p : ℕ) where
  -- ---- what the rule says of a block of the site, and the blocks held when it was built

  pub record Picks (older : List Bytes) (b : Bytes) : Type 0 where
    pub rises : (d : Bytes) → BlockBy older p d → sequence_of d < sequence_of b
    -- where it refers to another site's block, and that one to another site's block, it refers to the latter too, or a block of the site did before
    pub closed : (c a : Bytes) → Memᴰ c older → Memᴰ a older → site_of c ≢ p → site_of a ≢ p → RefersTo digest b c → RefersTo digest c a
        → RefersTo digest b a ⊎ ((d : Bytes) × BlockBy older p d × RefersTo digest d a)

  -- so for every block of the site in a list, the newest first
  abbrev pub Built : List Bytes → Type 0
  Built [] = Unit {0}
  Built (b ∷ older) = (site_of b ≡ p → Picks older b) × Built older

  -- and so where the newest is taken back
  pub built_behind : (bs : List Bytes) → Built bs → Built (drop 1 bs)
  built_behind [] k = k
  built_behind (b ∷ older) k = k.1

  -- a block of the list, and the blocks held when it was admitted
  record Since (bs : List Bytes) (b : Bytes) : Type 0 where
    older : List Bytes
    back : RefersBack digest older
    linked : (r : Bytes) → Memᴰ r (references_of b) → Holds digest older r
    picks : site_of b ≡ p → Picks older b
    inside : (c : Bytes) → Memᴰ c older → Memᴰ c bs

  since : (bs : List Bytes) → RefersBack digest bs → Built bs → (b : Bytes) → Memᴰ b bs → Since bs b
  since [] g k b m = absurd (Memᴰ.not-nil m)
  since (x ∷ older) g k b m = elim (Memᴰ.cases_cons m) [
    | inl q ↦ record { older = older; back = g.1; linked = rw q g.0; picks = rw q k.0; inside = λ c n. Memᴰ.tail n }
    | inr n ↦ let w = since older g.1 k.1 b n in
        record { older = w.older; back = w.back; linked = w.linked; picks = w.picks; inside = λ c j. Memᴰ.tail (w.inside c j) }
  ]

  -- one block of each sequence number
  single : (bs : List Bytes) → Built bs → Single bs p
  single [] k a b ma mb sa sb q = absurd (Memᴰ.not-nil ma)
  single (x ∷ older) k a b ma mb sa sb q = go (Memᴰ.cases_cons ma) (Memᴰ.cases_cons mb) (λ i j. single older k.1 a b i j sa sb q)
    where
      below : (d : Bytes) → Memᴰ d older → site_of d ≡ p → site_of x ≡ p → sequence_of d < sequence_of x
      below d m sd sx = (k.0 sx).rises d (record { held = m; by_site = sd })

      go : (a ≡ x) ⊎ Memᴰ a older → (b ≡ x) ⊎ Memᴰ b older → (Memᴰ a older → Memᴰ b older → a ≡ b) → a ≡ b
      go (inl e) (inl f) ih = e ∙ sym f
      go (inl e) (inr j) ih = absurd (omega (arith, below b j sb (ap site_of (sym e) ∙ sa), ap sequence_of e))
      go (inr i) (inl f) ih = absurd (omega (arith, below a i sa (ap site_of (sym f) ∙ sb), ap sequence_of f))
      go (inr i) (inr j) ih = ih i j

  module _ (bs : List Bytes) (g : OneHistory digest bs) (k : Built bs) where
    -- ---- the site's blocks are one chain

    chain_below : (d : ℕ) (a b : Bytes) → BlockBy bs p a → BlockBy bs p b → sequence_of b ≡ d + sequence_of a → InChain digest bs a b
    chain_below zero a b x y q =
        subst (InChain digest bs a) (single bs k a b x.held y.held x.by_site y.by_site (omega arith)) itself
    chain_below (suc d) a b x y q = elim (child_parent digest bs g b y.held) [
      | inl z ↦ absurd (omega arith)
      | inr c ↦
          let w = child_of digest bs g b y.held c.0 c.1 in
          earlier (chain_below d a (block_of c.0) x (record { held = w.among; by_site = parent_site b (block_of c.0) c.2 ∙ y.by_site })
          (omega (arith, parent_sequence b (block_of c.0) c.2)))
          (record { held = w.among; referred = w.by_digest; is_parent = c.2 })
    ]

    one_chain : (a b : Bytes) → BlockBy bs p a → BlockBy bs p b → sequence_of a ≤ sequence_of b → InChain digest bs a b
    one_chain a b x y h = chain_below (sequence_of b - sequence_of a) a b x y (omega arith)

    -- ---- what the chain refers to is closed under references

    -- a block whose digest was held when block e was admitted was held then
    held_since : (e : Bytes) (w : Since bs e) (c : Bytes) → Memᴰ c bs → Holds digest w.older (digest c) → Memᴰ c w.older
    held_since e w c m = held_by_digest digest w.older c (λ d n. g.safe d c (w.inside d n) m)

    closed_under : (b c a : Bytes) → BlockBy bs p b → Memᴰ c bs → Memᴰ a bs → ReferredInChain digest bs b c → RefersTo digest c a
        → ReferredInChain digest bs b a
    closed_under b c a y mc ma r ca =
        by_test (eqb (site_of c) p) (λ z. own (eqb-true _ _ z)) (λ z. by_test (eqb (site_of a) p)
        (λ u. owned (eqb-true _ _ u))
        (λ u. others (eqb-false _ _ z) (eqb-false _ _ u)))
      where
        e : Bytes
        e = r.by

        at : BlockBy bs p e
        at = record { held = chain_held digest bs r.in_chain y.held; by_site = chain_site digest bs r.in_chain ∙ y.by_site }

        w : Since bs e
        w = since bs (refers_back digest bs g) k e at.held

        picks : Picks w.older e
        picks = w.picks at.by_site

        c_older : Memᴰ c w.older
        c_older = held_since e w c mc (w.linked (digest c) r.refers)

        a_older : Memᴰ a w.older
        a_older = held_since e w a ma (referred_held digest w.older w.back c c_older (digest a) ca)

        -- a block of the site that was held when e was built is in the chain
        in_chain : (d : Bytes) → BlockBy w.older p d → InChain digest bs d b
        in_chain d x = one_chain d b (record { held = w.inside d x.held; by_site = x.by_site }) y
            (omega (arith, picks.rises d x, chain_sequence digest bs r.in_chain))

        own : site_of c ≡ p → ReferredInChain digest bs b a
        own s = record { by = c; in_chain = in_chain c (record { held = c_older; by_site = s }); refers = ca }

        owned : site_of a ≡ p → ReferredInChain digest bs b a
        owned s =
            let x : BlockBy w.older p a = record { held = a_older; by_site = s } in
            elim (chain_refers_lem digest bs (in_chain a x)) [
              | inl q ↦ absurd (omega (arith, picks.rises a x, chain_sequence digest bs r.in_chain, ap sequence_of q))
              | inr z ↦ z
            ]

        others : site_of c ≢ p → site_of a ≢ p → ReferredInChain digest bs b a
        others n m = elim (picks.closed c a c_older a_older n m r.refers ca) [
          | inl z ↦ record { by = e; in_chain = r.in_chain; refers = z }
          | inr d ↦ record { by = d.0; in_chain = in_chain d.0 d.1; refers = d.2 }
        ]

    down : (b : Bytes) → BlockBy bs p b → {c a : Bytes} → ReferredInChain digest bs b c → Memᴰ c bs → AncestorIn digest bs a c → ReferredInChain digest bs b a
    down b y {c} {a} r mc (refers m z) = closed_under b c a y mc m r z
    down b y {c} {a} r mc (through {c = d} u m z) = down b y (closed_under b c d y mc m r z) m u

    -- every ancestor is referred to in the chain
    all_referred : (b a : Bytes) → BlockBy bs p b → Above digest bs b a → ReferredInChain digest bs b a
    all_referred b a y (refers m r) = record { by = b; in_chain = itself; refers = r }
    all_referred b a y (through {c = c} u m r) = down b y (record { by = b; in_chain = itself; refers = r }) m u

    pub built_full : Full digest bs p
    built_full = record { unforked = single_unforked bs p (single bs k); refers_to_all = λ b a y above u. all_referred b a y above }

    -- ---- and at another site, where blocks of one digest are the same and no further block of the site is held

    module _ (cs : List Bytes) (gc : OneHistory digest cs) (same : (a b : Bytes) → Memᴰ a bs → Memᴰ b cs → digest a ≡ digest b → a ≡ b)
        (known : (b : Bytes) → BlockBy cs p b → Memᴰ b bs) where
      -- what a block held at both refers to is held at both
      held_here : (b c : Bytes) → Memᴰ b bs → Memᴰ c cs → RefersTo digest b c → Memᴰ c bs
      held_here b c mb mc r = held_by_digest digest bs c (λ d n. same d c n mc) (referred_held digest bs (refers_back digest bs g) b mb (digest c) r)

      held_there : (b c : Bytes) → Memᴰ b cs → Memᴰ c bs → RefersTo digest b c → Memᴰ c cs
      held_there b c mb mc r = held_by_digest digest cs c (λ d n e. sym (same c d mc n (sym e))) (referred_held digest cs (refers_back digest cs gc) b mb (digest c) r)

      above_here : {a b : Bytes} → Memᴰ b bs → Above digest cs b a → Above digest bs b a
      above_here {a} {b} mb (refers m r) = refers (held_here b a mb m r) r
      above_here {a} {b} mb (through {c = c} u m r) = let mc = held_here b c mb m r in through (above_here mc u) mc r

      chain_there : {a b : Bytes} → Memᴰ b cs → InChain digest bs a b → InChain digest cs a b
      chain_there mb itself = itself
      chain_there {a} {b} mb (earlier {c = c} i q) =
          let mc = held_there b c mb q.held q.referred in
          earlier (chain_there mc i) (record { held = mc; referred = q.referred; is_parent = q.is_parent })

      pub full_elsewhere : Full digest cs p
      full_elsewhere =
          record {
            unforked = single_unforked cs p (λ a b ma mb sa sb q.
                single bs k a b (known a (record { held = ma; by_site = sa })) (known b (record { held = mb; by_site = sb })) sa sb q);
            refers_to_all = λ b a y above u.
                let mb = known b y in
                let r = all_referred b a (record { held = mb; by_site = y.by_site }) (above_here mb above) in
                record { by = r.by; in_chain = chain_there y.held r.in_chain; refers = r.refers };
          }
