-- Taking back keeps its promises. Assumes nothing.
use Rattle.take_back.specs.Promises.{Promises}
use Rattle.take_back.proofs.Effect.{shows, refused, kept}
use Rattle.take_back.proofs.Causes.{causes}
use Rattle.take_back.proofs.Undoing.{undone, file_undone}

pub promises : Promises
promises = record { causes = causes; refused = refused; shown = shows; kept = kept; undone = undone; file_undone = file_undone }
