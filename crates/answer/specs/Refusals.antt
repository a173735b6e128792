-- Why a call is refused, and the numbers of documents 01 and 02, "What is turned down", for it.
use Rattle.std.specs.Prelude.{ℕ, Result, Ok, Err}
use Rattle.answer.specs.Checks.{success, refused}
use Rattle.answer.specs.declared.Answer.{Answer}
use Rattle.answer.specs.declared.Refusal.{Refusal}
use Rattle.answer.specs.declared.Refusal.TheVariants.{UnlawfulSetup, OutOfForm, Misshapen, UnknownSite, Unverified, BadRequest, RepeatedReference, Held, NotHeld, ParentRule, TableFull, RecordsSize, UnknownPlace, Interpreted, Uninterpreted, Forked, NoRoom, RepeatedSlot, ShelfFull, Waiting, UnknownCampaign, OtherSetup, Clash, TooManyBlocks, NotRetirable, SequenceSpent, HasRetired, NothingHeld, LastInterpreted}

-- the number of a refusal
abbrev pub refusal_number : Refusal → ℕ
refusal_number UnlawfulSetup = 1
refusal_number OutOfForm = 2
refusal_number Misshapen = 3
refusal_number UnknownSite = 4
refusal_number Unverified = 5
refusal_number (BadRequest value) = 6
refusal_number (RepeatedReference value) = 7
refusal_number (Held value) = 8
refusal_number (NotHeld value) = 9
refusal_number ParentRule = 10
refusal_number TableFull = 11
refusal_number RecordsSize = 12
refusal_number UnknownPlace = 13
refusal_number Interpreted = 14
refusal_number (Uninterpreted value) = 15
refusal_number Forked = 16
refusal_number (NoRoom value) = 17
refusal_number (RepeatedSlot value) = 18
refusal_number ShelfFull = 19
refusal_number Waiting = 20
refusal_number UnknownCampaign = 21
refusal_number OtherSetup = 23
refusal_number (Clash value) = 24
refusal_number TooManyBlocks = 25
refusal_number NotRetirable = 29
refusal_number SequenceSpent = 30
refusal_number HasRetired = 31
refusal_number NothingHeld = 32
refusal_number LastInterpreted = 33

-- the value beside the number: an index, a place or a length where the documents return one, and else 0
abbrev pub refusal_value : Refusal → ℕ
refusal_value UnlawfulSetup = 0
refusal_value OutOfForm = 0
refusal_value Misshapen = 0
refusal_value UnknownSite = 0
refusal_value Unverified = 0
refusal_value (BadRequest value) = value
refusal_value (RepeatedReference value) = value
refusal_value (Held value) = value
refusal_value (NotHeld value) = value
refusal_value ParentRule = 0
refusal_value TableFull = 0
refusal_value RecordsSize = 0
refusal_value UnknownPlace = 0
refusal_value Interpreted = 0
refusal_value (Uninterpreted value) = value
refusal_value Forked = 0
refusal_value (NoRoom value) = value
refusal_value (RepeatedSlot value) = value
refusal_value ShelfFull = 0
refusal_value Waiting = 0
refusal_value UnknownCampaign = 0
refusal_value OtherSetup = 0
refusal_value (Clash value) = value
refusal_value TooManyBlocks = 0
refusal_value NotRetirable = 0
refusal_value SequenceSpent = 0
refusal_value HasRetired = 0
refusal_value NothingHeld = 0
refusal_value LastInterpreted = 0

-- the answer of a call whose success returns a value
abbrev pub answer_of : Result ℕ Refusal → Answer
answer_of (Ok value) = success value
answer_of (Err refusal) = refused (refusal_number refusal) (refusal_value refusal)

-- the answer of a call whose success returns nothing
abbrev pub done_of : Result Unit Refusal → Answer
done_of (Ok nothing) = success 0
done_of (Err refusal) = refused (refusal_number refusal) (refusal_value refusal)
