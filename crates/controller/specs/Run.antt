-- Request Three: the run of a whole list of calls of all campaigns, and the run of one campaign's calls alone. Each step is what the contracts of
-- `arrive`, `admit`, `interpret`, `retire` and `take_back` say; `digest` is SHA-256 in these contracts.
use Rattle.std.specs.Prelude.{Bool, false, cond, List, [], ◌∷◌, ◌++◌, map, ℕ, eqb, leb}
use Rattle.base.specs.Bytes.{Bytes}
use Rattle.answer.specs.declared.Answer.{Answer}
use Rattle.answer.specs.Checks.{answer_to, refused}
use Rattle.setup.specs.Setup.{Setup}
use Rattle.shelf.specs.Layout.{Waiting}
use Rattle.shelf.specs.Form.{empty_shelf}
use Rattle.campaigns.specs.Passes.{Try, outcomes_of}
use Rattle.campaigns.specs.Arriving.{Arrived, Called, outcomes_size, unchanged, listed, arrival_checks, arrived, arrival}
use Rattle.run.specs.Ledger.{Call, admit}
use Rattle.run.specs.Run.{Site, started, site_answer, site_step}

-- a call for a campaign: a block arrives, with a buffer of `room` numbers for outcomes; or one of "the other calls made for it", on its own table and
-- records, such as a retiring, a taking back or an admission past the shelf
pub data CampaignCall : Type 0 where
  arrives : (b : Bytes) (verdict room : ℕ) → CampaignCall
  made : (call : Call) → CampaignCall

-- a call, and the campaign that it is for
pub record ControllerCall : Type 0 where
  pub campaign : ℕ
  pub call : CampaignCall

-- what a call is answered, and the outcomes that it lists
pub record Reply : Type 0 where
  pub answer : Answer
  pub outcomes : List Answer

-- a controller: each campaign's table and records, and the shelf that the campaigns share
pub record Controller : Type 0 where
  pub site : ℕ → Site
  pub shelf : Bytes

-- a call for one campaign, and whether the shelf took its block
pub record OwnCall : Type 0 where
  pub call : CampaignCall
  pub taken : Bool

-- one campaign alone: its table and records, and what waits for it
pub record Alone : Type 0 where
  pub site : Site
  pub waiting : List Waiting

-- "From an empty start": each campaign with its setup and a record buffer, and the empty shelf
abbrev pub empty_start : (ℕ → Setup) → (ℕ → List ℕ) → Controller
empty_start setups buffers = record { site = λ c. started (setups c) (buffers c); shelf = empty_shelf }

-- the controller x with the site y for campaign c, and this shelf
abbrev pub with_site : Controller → ℕ → Site → Bytes → Controller
with_site x c y shelf = record { site = λ d. cond (eqb d c) y (x.site d); shelf = shelf }

module _ (digest : Bytes → Bytes) where
  -- ---- all campaigns

  -- what the arrival of a block for campaign c answers and leaves at the controller x
  abbrev pub arrival_at : Controller → ℕ → Bytes → ℕ → ℕ → Called
  arrival_at x c b verdict room = arrival digest (x.site c).table x.shelf c b verdict room

  -- the reply to a call for campaign c
  unfoldable pub reply_to : Controller → ℕ → CampaignCall → Reply
  reply_to x c (arrives b verdict room) = record { answer = (arrival_at x c b verdict room).answer; outcomes = listed (arrival_at x c b verdict room) }
  reply_to x c (made call) = record { answer = site_answer digest (x.site c) call; outcomes = [] }

  -- the controller after a call for campaign c
  unfoldable pub step : Controller → ℕ → CampaignCall → Controller
  step x c (arrives b verdict room) =
      with_site x c (record { table = (arrival_at x c b verdict room).table; records = (x.site c).records }) (arrival_at x c b verdict room).shelf
  step x c (made call) = with_site x c (site_step digest (x.site c) call) x.shelf

  -- the controller after a list of calls
  unfoldable pub after : Controller → List ControllerCall → Controller
  after x [] = x
  after x (k ∷ ks) = after (step x k.campaign k.call) ks

  -- ---- of a list, what concerns one campaign

  module _ (c : ℕ) where
    -- the lists that `each` gives for the calls of campaign c, joined
    unfoldable pub each_own : {A : Type 0} → (Controller → CampaignCall → List A) → Controller → List ControllerCall → List A
    each_own each x [] = []
    each_own each x (k ∷ ks) = cond (eqb k.campaign c) (each x k.call) [] ++ each_own each (step x k.campaign k.call) ks

    -- the replies to the calls of campaign c
    abbrev pub replies : Controller → List ControllerCall → List Reply
    replies = each_own (λ x call. reply_to x c call ∷ [])

    -- the outcomes that these replies list
    abbrev pub outcomes : Controller → List ControllerCall → List Answer
    outcomes = each_own (λ x call. (reply_to x c call).outcomes)

    -- the waiting blocks of campaign c that were tried, in the order tried: by one call, and by a list of calls
    unfoldable pub tries_by : Controller → CampaignCall → List Try
    tries_by x (arrives b verdict room) = (arrival_at x c b verdict room).tries
    tries_by x (made call) = []

    abbrev pub tries : Controller → List ControllerCall → List Try
    tries = each_own tries_by

    -- the shelf took the block of a call: the call is an arrival that was answered 9
    unfoldable pub is_taken : Controller → CampaignCall → Bool
    is_taken x (arrives b verdict room) = eqb (arrival_at x c b verdict room).answer.refusal 9
    is_taken x (made call) = false

    -- the blocks that the shelf took for campaign c: by one call, and by a list of calls
    unfoldable pub taken_by : Controller → CampaignCall → List Bytes
    taken_by x (arrives b verdict room) = cond (is_taken x (arrives b verdict room)) (b ∷ []) []
    taken_by x (made call) = []

    abbrev pub shelved_blocks : Controller → List ControllerCall → List Bytes
    shelved_blocks = each_own taken_by

    -- the calls for campaign c as plain calls of a site: an arrival that passes the checks before admission's is an admission, and each try is "an
    -- admission call of its own"
    unfoldable pub plain_by : Controller → CampaignCall → List Call
    plain_by x (arrives b verdict room) =
        cond (eqb (answer_to (arrival_checks c room x.shelf) 0).refusal 0)
        (admit b verdict ∷ map (λ (y : Try). admit y.block 1) (arrival_at x c b verdict room).tries) []
    plain_by x (made call) = call ∷ []

    abbrev pub plain_run : Controller → List ControllerCall → List Call
    plain_run = each_own plain_by

    -- ---- campaign c alone: whether the shelf takes a block is told with the call

    -- the calls for campaign c, each with whether the shelf took its block
    abbrev pub own_run : Controller → List ControllerCall → List OwnCall
    own_run = each_own (λ x call. record { call = call; taken = is_taken x call } ∷ [])

    -- an arrival at campaign c alone, where `took` says whether the shelf has a place for the block
    abbrev pub alone_arrived : Alone → Bool → Bytes → ℕ → ℕ → Arrived
    alone_arrived y took b verdict room =
        cond (leb outcomes_size room) (arrived digest took y.site.table y.waiting c b verdict)
        (unchanged (refused 17 outcomes_size) y.site.table y.waiting)

    unfoldable pub alone_reply : Alone → Bool → CampaignCall → Reply
    alone_reply y took (arrives b verdict room) =
        record { answer = (alone_arrived y took b verdict room).answer; outcomes = outcomes_of (alone_arrived y took b verdict room).tries }
    alone_reply y took (made call) = record { answer = site_answer digest y.site call; outcomes = [] }

    unfoldable pub alone_step : Alone → Bool → CampaignCall → Alone
    alone_step y took (arrives b verdict room) =
        record {
          site = record { table = (alone_arrived y took b verdict room).table; records = y.site.records };
          waiting = (alone_arrived y took b verdict room).waiting;
        }
    alone_step y took (made call) = record { site = site_step digest y.site call; waiting = y.waiting }

    unfoldable pub alone_after : Alone → List OwnCall → Alone
    alone_after y [] = y
    alone_after y (k ∷ ks) = alone_after (alone_step y k.taken k.call) ks

    unfoldable pub alone_replies : Alone → List OwnCall → List Reply
    alone_replies y [] = []
    alone_replies y (k ∷ ks) = alone_reply y k.taken k.call ∷ alone_replies (alone_step y k.taken k.call) ks
