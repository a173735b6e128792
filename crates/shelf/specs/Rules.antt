-- Request Three: the rules of the shelf, over the list of what waits.
use Rattle.std.specs.Prelude.{Bool, cond, true, not, ◌&&◌, List, [], ◌∷◌, ℕ, ◌-◌, eqb, leb, ltb, length}
use Rattle.base.specs.Search.{all_below}
use Rattle.base.specs.Count.{sum_below}
use Rattle.base.specs.List.{some_in, count_in}
use Rattle.base.specs.Bytes.{Bytes, same_bytes}
use Rattle.block.specs.Reading.{reading, read_answer}
use Rattle.shelf.specs.Layout.{max_waiting, Waiting}

-- "up to four campaigns"
abbrev pub campaign_count : ℕ
campaign_count = 4

-- "a campaign up to 3"
abbrev pub max_campaign : ℕ
max_campaign = campaign_count - 1

-- "A campaign may always hold 2 places and never more than 10"
abbrev pub reserved : ℕ
reserved = 2

abbrev pub max_share : ℕ
max_share = 10

-- whether an entry waits for this campaign
abbrev pub is_for : ℕ → Waiting → Bool
is_for c w = eqb w.campaign c

-- how many places a campaign holds
unfoldable pub holds : ℕ → List Waiting → ℕ
holds c ws = count_in (is_for c) ws

-- "the free places"
abbrev pub free : List Waiting → ℕ
free ws = max_waiting - length ws

-- what a campaign lacks of its 2
abbrev pub lack : ℕ → List Waiting → ℕ
lack c ws = reserved - holds c ws

-- "what the campaigns lack of their 2", summed; and "what the others lack of their 2", summed over all campaigns but c
abbrev pub all_lack : List Waiting → ℕ
all_lack ws = sum_below (λ d. lack d ws) campaign_count

abbrev pub others_lack : ℕ → List Waiting → ℕ
others_lack c ws = sum_below (λ d. cond (eqb d c) 0 (lack d ws)) campaign_count

-- "It takes a further one exactly when it holds fewer than 10 and the free places then still cover what the others lack of their 2"
unfoldable pub has_place : ℕ → List Waiting → Bool
has_place c ws = ltb (holds c ws) max_share && ltb (others_lack c ws) (free ws)

-- "its bytes already wait for that campaign": whether one entry has these bytes, and whether some entry has
abbrev pub is_same : ℕ → Bytes → Waiting → Bool
is_same c b w = is_for c w && same_bytes w.block b

unfoldable pub waits : ℕ → Bytes → List Waiting → Bool
waits c b ws = some_in (is_same c b) ws

-- "one that the reader accepts"
abbrev pub accepts : Bytes → Bool
accepts b = eqb (read_answer (reading b)).refusal 0

-- "each waiting block is one that the reader accepts, for a campaign up to 3, no campaign has the same bytes waiting twice"
unfoldable pub each_sound : List Waiting → Bool
each_sound [] = true
each_sound (w ∷ ws) =
    (leb w.campaign max_campaign && (accepts w.block && not (waits w.campaign w.block ws)))
    && each_sound ws

-- "or holds more than 10 places, and the free places cover what the campaigns lack of their 2"
unfoldable pub shared : List Waiting → Bool
shared ws = all_below (λ c. leb (holds c ws) max_share) campaign_count && leb (all_lack ws) (free ws)

-- the rules of form: no more blocks wait than there are places, each is sound, and the campaigns share the places
unfoldable pub rules_hold : List Waiting → Bool
rules_hold ws = leb (length ws) max_waiting && (each_sound ws && shared ws)
