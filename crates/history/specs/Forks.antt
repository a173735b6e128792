-- Document 01, "Interpreting a place": which sites forked in a list of blocks; and that no two different blocks of a list share a digest.
use Rattle.std.specs.Prelude.{◌≡◌, Bool, not, ◌&&◌, ℕ, eqb}
use mathlib.Core.List.{List, Memᴰ}
use Rattle.base.specs.Bytes.{Bytes, same_bytes}
use Rattle.base.specs.List.{some_in}
use Rattle.block.specs.Layout.{site_of, sequence_of}

-- "A site forked if it has two different blocks of one sequence number"
unfoldable pub forked : List Bytes → ℕ → Bool
forked blocks p =
    some_in (λ a. some_in (λ b. eqb (site_of a) p && (eqb (site_of b) p && (eqb (sequence_of a) (sequence_of b) && not (same_bytes a b)))) blocks) blocks

module _ (digest : Bytes → Bytes) where
  -- no two different blocks of the list share a digest
  abbrev pub NoCollision : List Bytes → Type 0
  NoCollision blocks = (a b : Bytes) → Memᴰ a blocks → Memᴰ b blocks → digest a ≡ digest b → a ≡ b
