-- Admission keeps its promises, with any digest of 32 bytes, and so with SHA-256. Assumes nothing.
use mathlib.Core.Path.{◌≡◌}
use lib.ListN.{length}
use Rattle.base.specs.Bytes.{Bytes}
use Rattle.sha256.specs.Sha256.{sha256}
use Rattle.sha256.proofs.Promises.{sha256_length}
use Rattle.block.specs.Limits.{reference_size}
use Rattle.admission.specs.Promises.{Promises}
use Rattle.admission.proofs.Causes.{causes}
use Rattle.admission.proofs.Effect.{shown, kept}

pub promises : (digest : Bytes → Bytes) → ((b : Bytes) → length (digest b) ≡ reference_size) → Promises digest
promises digest sized =
    record {
      causes = causes digest;
      shown = λ t b verdict. shown digest t b verdict sized;
      kept = λ t b verdict. kept digest t b verdict sized;
    }

pub sha256_promises : Promises sha256
sha256_promises = promises sha256 sha256_length
