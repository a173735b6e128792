-- The laws of building: the content of the next block, its bytes, the call; and then what the code does.

-- the greatest of a function's values below a bound
pub mod Greatest
-- the sequence number of a site's next block
pub mod Sequence
-- the places that the next block refers to
pub mod PickedPlaces
-- references put one after the other, as long as there is room
pub mod Digests
-- the content of the next block fits a block's fields
pub mod NextContent
-- what the bytes of the next block show
pub mod Fields
-- the references that a block's bytes show, where they read to a content
pub mod ReadBack
-- each refusal comes under its cause and under no other
pub mod Causes
-- the table admits what was built, unless it is full or holds the digest
pub mod Admission
-- building keeps its promises
pub mod Promises
-- the code gathers what the site's blocks refer to
pub mod ReferredMask
-- what the code puts are the references of the next block
pub mod PickedReferences
-- the code writes the encoding of the next block
pub mod NextBytes
