-- The theorem of two sites: two sites of one lawful setup, each with its list of calls and its record buffer, keep what specs/TwoSites.antt says.
-- Assumes nothing; what is taken as given (no collision, few forks) stands in the promises themselves.
use mathlib.Core.Path.{◌≡◌, sym, ap, ◌∙◌, subst}
use mathlib.Core.Bool.{true}
use mathlib.Core.Logic.{◌⊎◌, ◌≢◌, inl, inr}
use mathlib.Core.List.{List, ◌++◌, Memᴰ}
use Prim.Native.Nat.{ℕ, ◌≤◌, ◌<◌}
use lib.ListN.{length}
use Rattle.base.specs.Bytes.{Bytes}
use Rattle.base.specs.Count.{count_below}
use Rattle.sha256.specs.Sha256.{sha256}
use Rattle.sha256.proofs.Promises.{sha256_length}
use Rattle.setup.specs.Setup.{Setup, lawful, faults, slot_count}
use Rattle.setup.proofs.Thresholds.{sites_lawful}
use Rattle.block.specs.Limits.{reference_size}
use Rattle.records.specs.Layout.{part_of}
use Rattle.history.specs.History.{History, slot_record, meaning}
use Rattle.history.specs.Ancestry.{history_of}
use Rattle.history.specs.Forks.{forked, NoCollision}
use Rattle.history.proofs.Ancestry.{OneHistory, history_agree}
use Rattle.history.proofs.Collections.{history_in as block_history, across, Either, one_delivery}
use Rattle.run.specs.Ledger.{Call, Ledger}
use Rattle.run.specs.Promises.{Interpreted, RetiredClear, Delivered, ledger_of, site_with}
use Rattle.run.proofs.Runs.{RunInvariant}
use Rattle.run.proofs.LedgerPlaces.{standing, interpreted_among, one_history_each, safe_clear}
use Rattle.run.proofs.Promises.{delivered_is, run, site_keeps, answers_keep}
use Rattle.agreement.specs.TwoSites.{TwoSites}

module _ (digest : Bytes → Bytes) (sized : (b : Bytes) → length (digest b) ≡ reference_size) (s : Setup) (law : lawful s ≡ true)
    (buffer₁ buffer₂ : List ℕ) (calls₁ calls₂ : List Call) where
  abbrev l₁ : Ledger
  l₁ = ledger_of digest s buffer₁ calls₁

  abbrev l₂ : Ledger
  l₂ = ledger_of digest s buffer₂ calls₂

  run₁ : RunInvariant digest sized s (length buffer₁) l₁ (site_with digest s buffer₁ calls₁)
  run₁ = run digest sized s law buffer₁ calls₁

  run₂ : RunInvariant digest sized s (length buffer₂) l₂ (site_with digest s buffer₂ calls₂)
  run₂ = run digest sized s law buffer₂ calls₂

  module _ (safe : NoCollision digest (l₁.blocks ++ l₂.blocks)) where
    clear₁ : RetiredClear digest l₁
    clear₁ = safe_clear digest sized s (length buffer₁) l₁ _ run₁ (λ a b m n. safe a b (mathlib.Core.List.Memᴰ.append_left l₂.blocks m) (mathlib.Core.List.Memᴰ.append_left l₂.blocks n))

    clear₂ : RetiredClear digest l₂
    clear₂ = safe_clear digest sized s (length buffer₂) l₂ _ run₂ (λ a b m n. safe a b (mathlib.Core.List.Memᴰ.append_right l₁.blocks m) (mathlib.Core.List.Memᴰ.append_right l₁.blocks n))

    one₁ : OneHistory digest l₁.blocks
    one₁ = one_history_each digest sized s (length buffer₁) l₁ _ run₁ clear₁

    one₂ : OneHistory digest l₂.blocks
    one₂ = one_history_each digest sized s (length buffer₂) l₂ _ run₂ clear₂

    -- a delivery at either site, in a history of either
    record Reached (slot v : ℕ) : Type 0 where
      by : History
      in_either : Either digest l₁.blocks l₂.blocks one₁ one₂ safe by
      not_zero : v ≢ 0
      entry : (slot_record s slot by).sent.delivered ≡ v

    reached : (slot v : ℕ) → slot < slot_count → Delivered digest s l₁ slot v ⊎ Delivered digest s l₂ slot v → Reached slot v
    reached slot v h (inl d) = record {
      by = history_of digest l₁.blocks d.block;
      in_either = inl (block_history digest l₁.blocks d.block (interpreted_among digest sized s (length buffer₁) l₁ _ run₁ d.block d.is_interpreted));
      not_zero = d.not_zero;
      entry = sym (delivered_is s (history_of digest l₁.blocks d.block) slot h) ∙ d.entry;
    }
    reached slot v h (inr d) = record {
      by = history_of digest l₂.blocks d.block;
      in_either = inr (block_history digest l₂.blocks d.block (interpreted_among digest sized s (length buffer₂) l₂ _ run₂ d.block d.is_interpreted));
      not_zero = d.not_zero;
      entry = sym (delivered_is s (history_of digest l₂.blocks d.block) slot h) ∙ d.entry;
    }

    one_number : count_below (forked (l₁.blocks ++ l₂.blocks)) s.sites ≤ faults s.sites → (slot v w : ℕ) → slot < slot_count
        → Delivered digest s l₁ slot v ⊎ Delivered digest s l₂ slot v → Delivered digest s l₁ slot w ⊎ Delivered digest s l₂ slot w → v ≡ w
    one_number few slot v w h d e =
        let x = reached slot v h d in
        let y = reached slot w h e in
        one_delivery digest l₁.blocks l₂.blocks one₁ one₂ safe s (sites_lawful s law) few slot
        x.by y.by x.in_either y.in_either v w x.not_zero y.not_zero x.entry y.entry

    -- each part is that of the block's history by digest, which is the same at both
    same_part : (i j : ℕ) → Interpreted l₁ i → Interpreted l₂ j → l₁.block i ≡ l₂.block j
        → part_of (site_with digest s buffer₁ calls₁).records i ≡ part_of (site_with digest s buffer₂ calls₂).records j
    same_part i j m n e =
        let here : Memᴰ (l₁.block i) l₁.blocks = (standing digest sized s (length buffer₁) l₁ _ run₁).among i m.below in
        (site_keeps digest sized s law (length buffer₁) l₁ _ run₁).shown clear₁ i m
        ∙ ap (λ (b : Bytes). meaning s (history_of digest l₁.blocks b)) e
        ∙ ap (meaning s) (history_agree digest l₁.blocks l₂.blocks one₁ one₂ (across digest l₁.blocks l₂.blocks one₁ one₂ safe)
        (l₂.block j) (subst (λ (b : Bytes). Memᴰ b l₁.blocks) e here) ((standing digest sized s (length buffer₂) l₂ _ run₂).among j n.below))
        ∙ sym ((site_keeps digest sized s law (length buffer₂) l₂ _ run₂).shown clear₂ j n)

  pub promised : TwoSites digest s buffer₁ buffer₂ calls₁ calls₂
  promised =
      record {
        first = site_keeps digest sized s law (length buffer₁) l₁ _ run₁;
        second = site_keeps digest sized s law (length buffer₂) l₂ _ run₂;
        first_answers = answers_keep digest sized s law buffer₁ calls₁;
        second_answers = answers_keep digest sized s law buffer₂ calls₂;
        same = same_part;
        agreement = one_number;
      }

-- the digest that runs
pub theorem : (s : Setup) → lawful s ≡ true → (buffer₁ buffer₂ : List ℕ) (calls₁ calls₂ : List Call) → TwoSites sha256 s buffer₁ buffer₂ calls₁ calls₂
theorem s law = promised sha256 sha256_length s law
