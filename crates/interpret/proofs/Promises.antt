-- Interpretation keeps its promises. Assumes nothing.
use Rattle.interpret.specs.Promises.{Promises}
use Rattle.interpret.proofs.Causes.{causes}
use Rattle.interpret.proofs.Effect.{shown, kept, sized}

pub promises : Promises
promises = record { causes = causes; shown = shown; kept = kept; sized = sized }
