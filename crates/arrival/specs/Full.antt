-- Request Fourteen, its terms: a block's chain, what is above a block, and a full site. All three are over the blocks of one ledger.
use Rattle.std.specs.Prelude.{◌≡◌, true, false, ℕ}
use mathlib.Core.List.{List, Memᴰ}
use Rattle.base.specs.Bytes.{Bytes}
use Rattle.block.specs.Layout.{site_of, references_of}
use Rattle.history.specs.History.{is_parent_of}
use Rattle.history.specs.Ancestry.{AncestorIn}
use Rattle.history.specs.Forks.{forked}

-- b is a block of the list, and site p built it
pub record BlockBy (blocks : List Bytes) (p : ℕ) (b : Bytes) : Type 0 where
  pub held : Memᴰ b blocks
  pub by_site : site_of b ≡ p

module _ (digest : Bytes → Bytes) where
  -- block b refers to block a directly
  abbrev pub RefersTo : Bytes → Bytes → Type 0
  RefersTo b a = Memᴰ (digest a) (references_of b)

  module _ (blocks : List Bytes) where
    -- document 01: block c is the parent of block b, which has it among its references, "of its own site with the sequence number one less"
    pub record Parent (b c : Bytes) : Type 0 where
      pub held : Memᴰ c blocks
      pub referred : RefersTo b c
      pub is_parent : is_parent_of b c ≡ true

    -- "A block's chain is itself, its parent and so on": block a is in the chain of block b
    pub data InChain : Bytes → Bytes → Type 0 where
      itself : {b : Bytes} → InChain b b
      earlier : {a c b : Bytes} → InChain a c → Parent b c → InChain a b

    -- "Above means having it among its ancestors": block b is above block a
    abbrev pub Above : Bytes → Bytes → Type 0
    Above b a = AncestorIn digest blocks a b

    -- block a "is referred to directly by some block of that block's chain", which is the chain of block b
    pub record ReferredInChain (b a : Bytes) : Type 0 where
      pub by : Bytes
      pub in_chain : InChain by b
      pub refers : RefersTo by a

    -- "Call a site full if it isn't forked and, for each of its blocks, every ancestor that an unforked site built is referred to directly by
    -- some block of that block's chain"
    pub record Full (p : ℕ) : Type 0 where
      pub unforked : forked blocks p ≡ false
      pub refers_to_all : (b a : Bytes) → BlockBy blocks p b → Above b a → forked blocks (site_of a) ≡ false → ReferredInChain b a
