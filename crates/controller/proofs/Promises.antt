-- What request Three promises of whole lists of calls holds, and an arrival can be taken back, with SHA-256. Assumes nothing.
use mathlib.Core.Path.{◌≡◌, sym, ap, ap₂, ◌∙◌}
use mathlib.Core.Bool.{true}
use mathlib.Core.List.{List, []}
use Prim.Native.Nat.{ℕ, ◌≤◌}
use native.Mathlib.Omega.{arith}
use lib.ListN.{length}
use Rattle.base.specs.Bytes.{Bytes}
use Rattle.base.specs.List.{count_in, passing_in}
use Rattle.sha256.specs.Sha256.{sha256}
use Rattle.sha256.proofs.Promises.{sha256_length}
use Rattle.setup.specs.Setup.{Setup, lawful}
use Rattle.block.specs.Limits.{reference_size}
use Rattle.shelf.specs.Layout.{Waiting, waiting_in}
use Rattle.shelf.specs.Rules.{max_campaign}
use Rattle.shelf.specs.Form.{shelf_in_form, empty_shelf}
use Rattle.shelf.proofs.InForm.{of_ruled, formed_bytes}
use Rattle.shelf.proofs.Rules.{ruled_empty}
use Rattle.shelf.proofs.ShelfLayout.{empty_laid, waiting_laid}
use Rattle.campaigns.specs.Promises.{only, times_waiting}
use Rattle.run.specs.Run.{started}
use Rattle.run.specs.Promises.{site_with}
use Rattle.agreement.proofs.TwoSites.{theorem}
use Rattle.arrival.proofs.Theorem as arrival
use Rattle.controller.specs.Run.{ControllerCall, OwnCall, Alone, Controller, empty_start, after, own_run, alone_after, alone_replies}
use Rattle.controller.specs.Promises.{begin, plain_calls, RunKeeps, Independent, CampaignKeeps, ArrivalUndone}
use Rattle.controller.proofs.Runs.{run_formed, run_plain, run_alone, run_replies, run_listed, run_accounted}
use Rattle.controller.proofs.Undoing.{arrival_undone}

-- ---- the empty shelf

empty_formed : shelf_in_form empty_shelf ≡ true
empty_formed = ap shelf_in_form empty_laid ∙ formed_bytes [] tt (of_ruled [] ruled_empty)

empty_waiting : waiting_in empty_shelf ≡ []
empty_waiting = ap waiting_in empty_laid ∙ waiting_laid [] (omega arith) tt

none_for : (c : ℕ) → only c (waiting_in empty_shelf) ≡ []
unfolding passing_in
none_for c = ap (only c) empty_waiting

none_times : (c : ℕ) (b : Bytes) → times_waiting c b (waiting_in empty_shelf) ≡ 0
unfolding count_in
none_times c b = ap (times_waiting c b) empty_waiting

-- ---- one controller

module _ (digest : Bytes → Bytes) (sized : (b : Bytes) → length (digest b) ≡ reference_size) (setups : ℕ → Setup) (buffers : ℕ → List ℕ) (calls : List ControllerCall)
    (c : ℕ) (low : c ≤ max_campaign) where
  abbrev start : Controller
  start = empty_start setups buffers

  abbrev idle : Alone
  idle = record { site = started (setups c) (buffers c); waiting = [] }

  begins : ◌≡◌ {A = Alone} (record { site = start.site c; waiting = only c (waiting_in start.shelf) }) idle
  begins = ap (λ (l : List Waiting). record { site = start.site c; waiting = l }) (none_for c)

  ends : alone_after digest c idle (own_run digest c start calls)
      ≡ record { site = (after digest start calls).site c; waiting = only c (waiting_in (after digest start calls).shelf) }
  ends = ap (λ (y : Alone). alone_after digest c y (own_run digest c start calls)) (sym begins) ∙ run_alone digest sized c low calls start empty_formed

  pub run_keeps : RunKeeps digest setups buffers calls c
  run_keeps =
      record {
        formed = run_formed digest sized calls start empty_formed;
        as_plain = run_plain digest sized c low calls start empty_formed;
        site = sym (ap (λ (y : Alone). y.site) ends);
        waiting = sym (ap (λ (y : Alone). y.waiting) ends);
        answers = run_replies digest sized c low calls start empty_formed ∙ ap (λ (y : Alone). alone_replies digest c y (own_run digest c start calls)) begins;
        listed = run_listed digest sized c low calls start empty_formed;
        accounted = λ b. omega (arith, run_accounted digest sized c low b calls start empty_formed, none_times c b);
      }

pub runs : (setups : ℕ → Setup) (buffers : ℕ → List ℕ) (calls : List ControllerCall) (c : ℕ) → c ≤ max_campaign → RunKeeps sha256 setups buffers calls c
runs = run_keeps sha256 sha256_length

-- ---- two runs

pub independent : (c : ℕ) → c ≤ max_campaign → (setups₁ setups₂ : ℕ → Setup) (buffers₁ buffers₂ : ℕ → List ℕ) (calls₁ calls₂ : List ControllerCall)
    → setups₁ c ≡ setups₂ c → buffers₁ c ≡ buffers₂ c
    → own_run sha256 c (begin sha256 setups₁ buffers₁ calls₁) calls₁ ≡ own_run sha256 c (begin sha256 setups₂ buffers₂ calls₂) calls₂
    → Independent sha256 c setups₁ setups₂ buffers₁ buffers₂ calls₁ calls₂
independent c low setups₁ setups₂ buffers₁ buffers₂ calls₁ calls₂ es eb eo =
    let k₁ = runs setups₁ buffers₁ calls₁ c low in
    let k₂ = runs setups₂ buffers₂ calls₂ c low in
    let same : ◌≡◌ {A = Alone} (record { site = started (setups₁ c) (buffers₁ c); waiting = [] }) (record { site = started (setups₂ c) (buffers₂ c); waiting = [] }) =
    ap₂ (λ (s : Setup) (b : List ℕ). record { site = started s b; waiting = [] }) es eb in
    record {
      site = k₁.site ∙ ap₂ (λ (y : Alone) (o : List OwnCall). (alone_after sha256 c y o).site) same eo ∙ sym k₂.site;
      waiting = k₁.waiting ∙ ap₂ (λ (y : Alone) (o : List OwnCall). (alone_after sha256 c y o).waiting) same eo ∙ sym k₂.waiting;
      answers = k₁.answers ∙ ap₂ (λ (y : Alone) (o : List OwnCall). alone_replies sha256 c y o) same eo ∙ sym k₂.answers;
    }

-- ---- two controllers

pub campaigns : (c : ℕ) → c ≤ max_campaign → (s : Setup) → lawful s ≡ true → (setups₁ setups₂ : ℕ → Setup) (buffers₁ buffers₂ : ℕ → List ℕ)
    (calls₁ calls₂ : List ControllerCall) → setups₁ c ≡ s → setups₂ c ≡ s → CampaignKeeps sha256 c s setups₁ setups₂ buffers₁ buffers₂ calls₁ calls₂
campaigns c low s law setups₁ setups₂ buffers₁ buffers₂ calls₁ calls₂ e₁ e₂ =
    let plain₁ = plain_calls sha256 setups₁ buffers₁ calls₁ c in
    let plain₂ = plain_calls sha256 setups₂ buffers₂ calls₂ c in
    record {
      first = (runs setups₁ buffers₁ calls₁ c low).as_plain ∙ ap (λ (z : Setup). site_with sha256 z (buffers₁ c) plain₁) e₁;
      second = (runs setups₂ buffers₂ calls₂ c low).as_plain ∙ ap (λ (z : Setup). site_with sha256 z (buffers₂ c) plain₂) e₂;
      promised = theorem s law (buffers₁ c) (buffers₂ c) plain₁ plain₂;
      first_arrives = arrival.theorem s law (buffers₁ c) plain₁;
      second_arrives = arrival.theorem s law (buffers₂ c) plain₂;
    }

-- ---- an arrival that is taken back

pub undone : (x : Controller) (c : ℕ) (b : Bytes) (verdict room : ℕ) → ArrivalUndone sha256 x c b verdict room
undone = arrival_undone sha256 sha256_length
