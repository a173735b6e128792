-- `well_shaped` meets its contract, test by test. Assumes nothing.
use native.Mathlib.Omega.{arith}
use lib.ListN.{length}
use borrow.Author.Tests.{le-leb, lt-leb}
use Rattle.base.specs.Bytes.{Bytes}
use Rattle.block.specs.Limits.{header_size, max_references, max_requests}
use Rattle.block.specs.Layout.{reference_count, request_count}
use Rattle.block.specs.Reading.{well_shaped}
use Rattle.block.proofs.shaped.well_shaped.Goals as goal

pub returns-then-block-lt-HEADER_SIZE : goal.returns-then-block-lt-HEADER_SIZE
unfolding well_shaped
returns-then-block-lt-HEADER_SIZE c = rw (lt-leb header_size _ c.if-block-lt-HEADER_SIZE.true)

pub returns-then-p-gt-MAX_REFERENCES : goal.returns-then-p-gt-MAX_REFERENCES
unfolding well_shaped
returns-then-p-gt-MAX_REFERENCES c =
    let b : Bytes = c.args.block.now in
    rw (le-leb header_size (length b) (omega arith), lt-leb (reference_count b) max_references (omega arith))

pub returns-then-r-gt-MAX_REQUESTS : goal.returns-then-r-gt-MAX_REQUESTS
unfolding well_shaped
returns-then-r-gt-MAX_REQUESTS c =
    let b : Bytes = c.args.block.now in
    rw (le-leb header_size (length b) (omega arith), le-leb (reference_count b) max_references (omega arith), lt-leb (request_count b) max_requests (omega arith))

pub returns : goal.returns
unfolding well_shaped
returns c =
    let b : Bytes = c.args.block.now in
    rw (le-leb header_size (length b) (omega arith), le-leb (reference_count b) max_references (omega arith), le-leb (request_count b) max_requests (omega arith), c.from-r.ensures, c.from-p.ensures)
