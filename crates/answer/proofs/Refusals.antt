-- Every refusal has a number, and 0 is none of them. Assumes nothing.
use Prim.Native.Nat.{◌<◌}
use native.Mathlib.Omega.{arith}
use Rattle.answer.specs.Refusals.{refusal_number}
use Rattle.answer.specs.declared.Refusal.{Refusal}
use Rattle.answer.specs.declared.Refusal.TheVariants.{UnlawfulSetup, OutOfForm, Misshapen, UnknownSite, Unverified, BadRequest, RepeatedReference, Held, NotHeld, ParentRule, TableFull, RecordsSize, UnknownPlace, Interpreted, Uninterpreted, Forked, NoRoom, RepeatedSlot, ShelfFull, Waiting, UnknownCampaign, OtherSetup, Clash, TooManyBlocks, NotRetirable, SequenceSpent, HasRetired, NothingHeld, LastInterpreted}

pub numbered : (refusal : Refusal) → 0 < refusal_number refusal
numbered UnlawfulSetup = omega arith
numbered OutOfForm = omega arith
numbered Misshapen = omega arith
numbered UnknownSite = omega arith
numbered Unverified = omega arith
numbered (BadRequest value) = omega arith
numbered (RepeatedReference value) = omega arith
numbered (Held value) = omega arith
numbered (NotHeld value) = omega arith
numbered ParentRule = omega arith
numbered TableFull = omega arith
numbered RecordsSize = omega arith
numbered UnknownPlace = omega arith
numbered Interpreted = omega arith
numbered (Uninterpreted value) = omega arith
numbered Forked = omega arith
numbered (NoRoom value) = omega arith
numbered (RepeatedSlot value) = omega arith
numbered ShelfFull = omega arith
numbered Waiting = omega arith
numbered UnknownCampaign = omega arith
numbered OtherSetup = omega arith
numbered (Clash value) = omega arith
numbered TooManyBlocks = omega arith
numbered NotRetirable = omega arith
numbered SequenceSpent = omega arith
numbered HasRetired = omega arith
numbered NothingHeld = omega arith
numbered LastInterpreted = omega arith
