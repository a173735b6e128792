-- `well_listed` meets its contract: one test after the other. Assumes nothing.
use borrow.Author.Tests.{lt-leb, le-leb}
use Rattle.build.specs.Building.{well_listed}
use Rattle.build.proofs.well_listed.Goals as goal

pub returns-then-requests-le-MAX_REQUEST_LIST_SIZE : goal.returns-then-requests-le-MAX_REQUEST_LIST_SIZE
unfolding well_listed
returns-then-requests-le-MAX_REQUEST_LIST_SIZE c = rw (le-leb _ _ c.if-requests-le-MAX_REQUEST_LIST_SIZE.true)

pub returns-else-requests-le-MAX_REQUEST_LIST_SIZE : goal.returns-else-requests-le-MAX_REQUEST_LIST_SIZE
unfolding well_listed
returns-else-requests-le-MAX_REQUEST_LIST_SIZE c = rw (lt-leb _ _ c.if-requests-le-MAX_REQUEST_LIST_SIZE.false)
