-- A record that code holds has an entry of each kind heard for each site, since its type says so. Assumes nothing.
use mathlib.Core.List.{[], ◌∷◌}
use denote.Laws.{Is}
use denote.Struct.Declared.{row}
use denote.Struct.Laws.{val}
use borrow.Author.Rules.{rules}
use Rattle.broadcast.specs.declared.SlotRecord.{SlotRecord}
use Rattle.broadcast.specs.contracts.SlotRecord.{the_type}
use Rattle.broadcast.proofs.SlotRecord.TheLaws.{the_laws}
use Rattle.broadcast.proofs.Steps.{Sized}

pub held_sized : (s : SlotRecord) → Is (row the_type) s (val the_type the_laws s ∷ []) → Sized s
held_sized s g = record { echoes_size = search rules; readies_size = search rules }
