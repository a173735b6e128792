-- The laws of admission.

-- what the code looks up, reference by reference: the mask of places, and the first missing reference
mod LookUp
-- a block's references as a list, and whether a digest is among them
pub mod ReferenceList
-- the searches over the references among what is held are those of the definition
pub mod HeldReferences
-- each refusal comes under its cause and under no other
pub mod Causes
-- what an admission leaves: the new row, a table in form; a refusal changes nothing
pub mod Effect
-- admission keeps its promises, with any digest and so with SHA-256
pub mod Promises
