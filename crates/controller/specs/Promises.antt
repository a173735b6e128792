-- What request Three promises of whole lists of calls of all campaigns, refused ones included, from an empty start; and that an arrival can be taken
-- back, as request Twelve has it. proofs/Promises.antt shows both, with SHA-256.
use Rattle.std.specs.Prelude.{◌≡◌, true, List, [], ℕ, suc, ◌+◌}
use Rattle.base.specs.Bytes.{Bytes, same_bytes}
use Rattle.base.specs.List.{count_in}
use Rattle.setup.specs.Setup.{Setup}
use Rattle.shelf.specs.Layout.{waiting_in}
use Rattle.shelf.specs.Form.{shelf_in_form}
use Rattle.campaigns.specs.Passes.{let_in, outcomes_of}
use Rattle.campaigns.specs.Promises.{only, times_waiting, times_ended}
use Rattle.take_back.specs.Promises.{UndoneBy}
use Rattle.run.specs.Ledger.{Call, take_back}
use Rattle.run.specs.Run.{site_after}
use Rattle.run.specs.Promises.{site_with}
use Rattle.agreement.specs.TwoSites.{TwoSites}
use Rattle.arrival.specs.Arrival.{ArrivalPromise}
use Rattle.controller.specs.Run.{ControllerCall, made, Controller, Alone, empty_start, arrival_at, step, after, replies, outcomes, tries, shelved_blocks, plain_run, own_run, alone_after, alone_replies}

module _ (digest : Bytes → Bytes) where
  -- ---- one controller

  module _ (setups : ℕ → Setup) (buffers : ℕ → List ℕ) (calls : List ControllerCall) where
    abbrev pub begin : Controller
    begin = empty_start setups buffers

    abbrev pub final : Controller
    final = after digest begin calls

    -- the calls for campaign c as plain calls of a site, in which an arrival and each try are admissions
    abbrev pub plain_calls : ℕ → List Call
    plain_calls c = plain_run digest c begin calls

    -- what campaign c comes to by its own calls alone, where each call is told with whether the shelf took its block
    abbrev pub alone : ℕ → Alone
    alone c = alone_after digest c (record { site = begin.site c; waiting = [] }) (own_run digest c begin calls)

    -- what holds of a campaign c up to 3 after the calls
    pub record RunKeeps (c : ℕ) : Type 0 where
      -- the shelf is in form
      pub formed : shelf_in_form final.shelf ≡ true
      -- the campaign's table and records are those of its plain calls
      pub as_plain : final.site c ≡ site_after digest (begin.site c) (plain_calls c)
      -- "a campaign's tables depend only on its own arrivals, the other calls made for it and which of its blocks the shelf took": the campaign's
      -- table and records, what waits for it, and the replies to its calls are those of a run that is told no more than these
      pub site : final.site c ≡ (alone c).site
      pub waiting : only c (waiting_in final.shelf) ≡ (alone c).waiting
      pub answers : replies digest c begin calls ≡ alone_replies digest c (record { site = begin.site c; waiting = [] }) (own_run digest c begin calls)
      -- the outcomes that were listed are those of the blocks that were tried and let in or dropped
      pub listed : outcomes digest c begin calls ≡ outcomes_of (tries digest c begin calls)
      -- nothing is lost and nothing is invented: as often as the bytes x were answered 9, they wait, or were let in or dropped
      pub accounted : (x : Bytes)
          → count_in (λ b. same_bytes b x) (shelved_blocks digest c begin calls)
          ≡ times_waiting c x (waiting_in final.shelf) + times_ended x (tries digest c begin calls)

  -- ---- two runs in which a campaign's own calls, and which of its blocks the shelf took, are the same: whatever the other campaigns do, both runs
  -- leave the campaign the same, and reply to its calls the same

  pub record Independent (c : ℕ) (setups₁ setups₂ : ℕ → Setup) (buffers₁ buffers₂ : ℕ → List ℕ) (calls₁ calls₂ : List ControllerCall) : Type 0 where
    pub site : (final setups₁ buffers₁ calls₁).site c ≡ (final setups₂ buffers₂ calls₂).site c
    pub waiting : only c (waiting_in (final setups₁ buffers₁ calls₁).shelf) ≡ only c (waiting_in (final setups₂ buffers₂ calls₂).shelf)
    pub answers : replies digest c (begin setups₁ buffers₁ calls₁) calls₁ ≡ replies digest c (begin setups₂ buffers₂ calls₂) calls₂

  -- ---- two controllers: "The two-site statement holds for each campaign alone", and so does the promise of arrival

  -- s is the setup of campaign c at both controllers; each controller has its own calls, and other campaigns as it likes
  module _ (c : ℕ) (s : Setup) (setups₁ setups₂ : ℕ → Setup) (buffers₁ buffers₂ : ℕ → List ℕ) (calls₁ calls₂ : List ControllerCall) where
    -- what holds of campaign c at two controllers
    pub record CampaignKeeps : Type 0 where
      -- the campaign's table and records at each controller are those that its plain calls leave at a site of setup s
      pub first : (final setups₁ buffers₁ calls₁).site c ≡ site_with digest s (buffers₁ c) (plain_calls setups₁ buffers₁ calls₁ c)
      pub second : (final setups₂ buffers₂ calls₂).site c ≡ site_with digest s (buffers₂ c) (plain_calls setups₂ buffers₂ calls₂ c)
      -- the theorem of two sites holds of these plain calls, and the promise of arrival too
      pub promised : TwoSites digest s (buffers₁ c) (buffers₂ c) (plain_calls setups₁ buffers₁ calls₁ c) (plain_calls setups₂ buffers₂ calls₂ c)
      pub first_arrives : ArrivalPromise digest s (buffers₁ c) (plain_calls setups₁ buffers₁ calls₁ c)
      pub second_arrives : ArrivalPromise digest s (buffers₂ c) (plain_calls setups₂ buffers₂ calls₂ c)

-- ---- taking back

-- how an arrival for campaign c at the controller x is undone
pub record ArrivalUndone (digest : Bytes → Bytes) (x : Controller) (c : ℕ) (b : Bytes) (verdict room : ℕ) : Type 0 where
  -- "straight after an admission that is the table before it (each block let in from the shelf being an admission of its own)": after an arrival that
  -- is admitted, one taking back more than blocks were let in leads to the table before the arrival, in all bytes
  pub table : (arrival_at digest x c b verdict room).answer.refusal ≡ 0
      → UndoneBy (suc (count_in let_in (arrival_at digest x c b verdict room).tries)) (arrival_at digest x c b verdict room).table (x.site c).table
  -- by a taking back no block returns to the shelf, and the records stay
  pub shelf : (y : Controller) → (step digest y c (made take_back)).shelf ≡ y.shelf
  pub records : (y : Controller) → ((step digest y c (made take_back)).site c).records ≡ (y.site c).records
