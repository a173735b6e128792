-- What reading promises beyond its equation. Assumes nothing.
use Rattle.block.specs.Promises.{Promises}
use Rattle.block.proofs.Causes.{causes}
use Rattle.block.proofs.Acceptance.{reading_accepted}
use Rattle.block.proofs.Counting.{once_each}

pub promises : Promises
promises = record { causes = causes; once_each = λ b f e. once_each b (reading_accepted b f e).accepted }
