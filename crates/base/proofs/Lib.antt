-- The laws of what specs/ defines. Other crates' proofs cite them.

-- both cases of a test, and what a conjunction or a disjunction says
pub mod Tests
-- the first number below a bound that passes a test
pub mod Search
-- how many numbers below a bound pass a test, and sets that are large enough to meet
pub mod Count
-- the sum of a function's values below a bound
pub mod Sum
-- the bits of a mask, and how many are ones
pub mod Mask
-- a mask as a set of places
pub mod Sets
-- a mask's highest place, and the loop over a mask from there down
pub mod TopPlace
-- a function's values below a bound as a list, and what is read after a store
pub mod List
-- a print that was not met is that of a new key
pub mod Prints
-- `any`, `all` and `find` over the numbers below a bound
pub mod Ranges
-- an element of a list and its index
pub mod Members
-- the elements of a list that pass a test
pub mod Selection
-- the numbers below a bound that pass a test, as a rising list
pub mod PassingBelow
-- when two byte strings are equal
pub mod Bytes
-- byte strings cut in parts of one size, and joined again
pub mod Parts
-- bytes put into bytes
pub mod Splice
-- numbers of two bytes, the high byte first
pub mod Number
-- numbers of any count of bytes, the low byte first
pub mod LowFirst
-- the conversions of the library
pub mod Words
