use mathlib.Core.Path.{refl, ap, ◌∙◌}
use Prim.Native.Nat.{◌<◌}
use lib.ListN.{get_or}
use borrow.Author.Rules.{rules}
use Rattle.base.specs.Bytes.{Bytes}
use Rattle.base.specs.List.{list_below}
use Rattle.table.specs.Steps.{last_of, byte_count}
use Rattle.table.proofs.InForm.{formed_places}
use Rattle.table.proofs.DigestIndex.{index_more}
use Rattle.table.proofs.index.index_of.Goals as goal
use Rattle.table.proofs.index.index_of.Goals.{After-from}

pub loop-j-init : goal.loop-j-init
unfolding list_below last_of
loop-j-init c = refl

-- the first byte of a row's digest
byte : (c : After-from) → c.from.result < byte_count
byte c = rw c.from.ensures c.first_of.type_inv

pub loop-j-preserved : goal.loop-j-preserved
loop-j-preserved c =
    index_more _ c.loop-j.j _ _ (byte (goal.at.loop-j-preserved c).After-from) (c.from.ensures ∙ c.first_of.ensures ∙ ap (λ (b : Bytes). get_or b 0 0) c.digest_at.ensures) c.loop-j.invariant

pub digest_at-requires : goal.digest_at-requires
digest_at-requires c = let p = formed_places _ c.requires in search rules
