-- The table keeps its promises. Assumes nothing.
use Rattle.table.specs.Promises.{Promises}
use Rattle.table.proofs.AddedRow.{grown}
use Rattle.table.proofs.TableLayout.{laid}
use Rattle.table.proofs.MarkedPlace.{marked}
use Rattle.table.proofs.Freshness.{empty, fresh, fresh_in_lem}

pub promises : Promises
promises = record { fresh = fresh; fresh_in = fresh_in_lem; laid = laid; empty = empty; grown = grown; marked = marked }
