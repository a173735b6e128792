-- What the definition is held against, and what the proof of `digest` is made of.

-- the hash value reads its blocks only
mod Hashing
-- the padded message: the message's whole blocks, and a tail of one or two
mod PaddedMessage
-- published digests, the padding of the standard, and 32 bytes
pub mod Promises
-- the bytes of a number
mod Bytes
