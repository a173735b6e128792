-- The history of a block by the blocks of a ledger: each reference stands for the block that has it as its digest.
use Rattle.std.specs.Prelude.{true, false}
use mathlib.Core.List.{List, [], ◌∷◌, Memᴰ}
use Rattle.std.proofs.Math.Option.{Option, none, some}
use Rattle.base.specs.Bytes.{Bytes, same_bytes}
use Rattle.block.specs.Layout.{references_of}
use Rattle.history.specs.History.{History, Histories, node, end, ◌and◌}

-- the histories that a look-up finds for a list of references, in the order of the references; a reference for which it finds none is left out
unfoldable pub found : Option History → Histories → Histories
found none hs = hs
found (some h) hs = h and hs

unfoldable pub gather : (Bytes → Option History) → List Bytes → Histories
gather look [] = end
gather look (r ∷ rs) = found (look r) (gather look rs)

module _ (digest : Bytes → Bytes) where
  -- the history of the first block of a list that has digest d, none if no block has. What it refers to is looked up among the blocks behind it,
  -- which are older
  unfoldable pub find : List Bytes → Bytes → Option History
  find [] d = none
  find (b ∷ older) d =
      elim (same_bytes (digest b) d) [
        | true ↦ some (node b (gather (λ r. find older r) (references_of b)))
        | false ↦ find older d
      ]

  -- the history of block b, which refers to blocks of a list, the newest first
  unfoldable pub history_of : List Bytes → Bytes → History
  history_of blocks b = node b (gather (find blocks) (references_of b))

  -- "A block's ancestors are the blocks of the ledger that it refers to by digest, and theirs"
  pub data AncestorIn (blocks : List Bytes) : Bytes → Bytes → Type 0 where
    refers : {a b : Bytes} → Memᴰ a blocks → Memᴰ (digest a) (references_of b) → AncestorIn blocks a b
    through : {a c b : Bytes} → AncestorIn blocks a c → Memᴰ c blocks → Memᴰ (digest c) (references_of b) → AncestorIn blocks a b
