-- Document 01, "Listing program and C host": the lines of a listing, in ASCII.
use Rattle.std.specs.Prelude.{Option, Some, None, true, false, cond, List, [], ◌∷◌, ◌++◌, ℕ, zero, suc, ◌+◌, ◌-◌, ◌/◌, ◌%◌, eqb, ltb, get_or}
use Prim.Native.Char.{code}
use Prim.Native.String.{String, len, char_at}
use Rattle.base.specs.Bytes.{Bytes, concat}
use Rattle.base.specs.List.{list_below}
use Rattle.report.specs.declared.Delivery.{Delivery}

-- the bytes of a text of ASCII characters
unfoldable pub ascii : String → Bytes
ascii s = list_below (λ i. code (char_at s i)) (len s)

abbrev pub space : ℕ
space = 32

abbrev pub line_feed : ℕ
line_feed = 10

-- the character of a digit from 0 to 9
abbrev pub digit : ℕ → ℕ
digit d = 48 + d

-- the decimal digits of n, without leading zeros, where n has at most `most` digits
unfoldable pub digits : ℕ → ℕ → Bytes
digits zero n = []
digits (suc most) n = elim (ltb n 10) [ true ↦ digit n ∷ [] | false ↦ digits most (n / 10) ++ (digit (n % 10) ∷ []) ]

-- a number in decimal; n has at most n + 1 digits
unfoldable pub decimal : ℕ → Bytes
decimal n = digits (suc n) n

-- a field of a line: a number, or none
abbrev pub Field : Type 0
Field = Option ℕ

-- "`-` is a field with no value"
unfoldable pub field_text : Field → Bytes
field_text (Some n) = decimal n
field_text None = ascii "-"

-- arrival, place, site, seq, slot, number, refusal
abbrev pub field_count : ℕ
field_count = 7

-- what stands after field i: one space, or a line feed after the last
unfoldable pub ending : ℕ → ℕ
ending i = cond (eqb i (field_count - 1)) line_feed space

-- a line of seven values, in the order of the names
unfoldable pub line : List Field → Bytes
line fields = concat (list_below (λ i. field_text (get_or fields i (Some 0)) ++ (ending i ∷ [])) field_count)

-- "First a line of names"
unfoldable pub names : Bytes
names = ascii "arrival place site seq slot number refusal\n"

-- the line of a refusal: what was refused, and the refusal's number
unfoldable pub refusal_line : Field → ℕ → Bytes
refusal_line what refusal = line (what ∷ None ∷ None ∷ None ∷ None ∷ None ∷ Some refusal ∷ [])

-- "A refused arrival's line fills only arrival and refusal"
abbrev pub refused_line : ℕ → ℕ → Bytes
refused_line arrival refusal = refusal_line (Some arrival) refusal

-- the line of an arrival without a block: too long it is "refused with 3", and "a cut arrival gets 3"
abbrev pub unread_line : ℕ → Bytes
unread_line arrival = refused_line arrival 3

-- "A setup that is short or unlawful gives .. `- - - - - - 1`"
abbrev pub setup_line : ℕ → Bytes
setup_line refusal = refusal_line None refusal

-- a delivery's line has all values: "refusal 0 is none"
unfoldable pub delivery_line : Delivery → Bytes
delivery_line d =
    line
    (Some d.arrival
    ∷ Some d.place
    ∷ Some d.site
    ∷ Some d.sequence
    ∷ Some d.slot
    ∷ Some d.number
    ∷ Some 0
    ∷ [])

-- a delivery's line, and nothing where no number was delivered
unfoldable pub delivery_text : Delivery → Bytes
delivery_text d = cond (eqb d.number 0) [] (delivery_line d)
