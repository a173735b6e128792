-- The promise of arrival holds of the ledger and the site that a list of calls leaves. Assumes nothing.
use mathlib.Core.Path.{◌≡◌, sym, ap, ◌∙◌, subst}
use mathlib.Core.Bool.{true}
use mathlib.Core.List.{List, []}
use Prim.Native.Nat.{ℕ, ◌<◌}
use lib.ListN.{length, get_or}
use Rattle.base.specs.Bytes.{Bytes}
use Rattle.sha256.specs.Sha256.{sha256}
use Rattle.sha256.proofs.Promises.{sha256_length}
use Rattle.setup.specs.Setup.{Setup, lawful, slot_count}
use Rattle.block.specs.Limits.{reference_size}
use Rattle.records.specs.Layout.{part_of}
use Rattle.history.specs.History.{meaning}
use Rattle.history.specs.Ancestry.{history_of}
use Rattle.run.specs.Ledger.{Call, Ledger}
use Rattle.run.specs.Run.{Site}
use Rattle.run.specs.Promises.{ledger_of, site_with}
use Rattle.run.proofs.LedgerPlaces.{standing, one_history_each, unretired_clear}
use Rattle.run.proofs.Runs.{RunInvariant}
use Rattle.run.proofs.Promises.{run, site_keeps}
use Rattle.arrival.specs.Full.{InChain}
use Rattle.arrival.specs.Arrival.{AllInterpreted, Premises, DeliveredInChain, ShownInChain, ArrivalPromise}
use Rattle.arrival.proofs.Chains.{chain_held}
use Rattle.arrival.proofs.Delivery.{arrived}

module _ (digest : Bytes → Bytes) (sized : (b : Bytes) → length (digest b) ≡ reference_size) (s : Setup) (law : lawful s ≡ true)
    (buffer : List ℕ) (calls : List Call) where
  abbrev l : Ledger
  l = ledger_of digest s buffer calls

  abbrev x : Site
  x = site_with digest s buffer calls

  invariant : RunInvariant digest sized s (length buffer) l x
  invariant = run digest sized s law buffer calls

  arrives : l.retired ≡ [] → (slot v : ℕ) (last : Bytes) → slot < slot_count → Premises digest s l.blocks slot v last → DeliveredInChain digest s l.blocks slot v last
  arrives none = arrived digest l.blocks (one_history_each digest sized s (length buffer) l x invariant (unretired_clear digest sized s (length buffer) l x invariant none)) s law

  -- an entry in the part of an interpreted place is the entry in its block's meaning
  entry_shown : l.retired ≡ [] → AllInterpreted l → (b : Bytes) (i k : ℕ) → i < l.held → l.block i ≡ b
      → get_or (part_of x.records i) k 0 ≡ get_or (meaning s (history_of digest l.blocks b)) k 0
  entry_shown none all b i k h e = ap (λ (part : List ℕ). get_or part k 0)
      ((site_keeps digest sized s law (length buffer) l x invariant).shown (unretired_clear digest sized s (length buffer) l x invariant none) i (all i h) ∙ ap (λ (c : Bytes). meaning s (history_of digest l.blocks c)) e)

  shown : l.retired ≡ [] → AllInterpreted l → (slot v : ℕ) (last : Bytes) → slot < slot_count → Premises digest s l.blocks slot v last → ShownInChain digest l x slot v last
  shown none all slot v last h w =
      let d = arrives none slot v last h w in
      let m = (standing digest sized s (length buffer) l x invariant).all_placed none d.by (chain_held digest l.blocks d.in_chain w.rounds.last_by.held) in
      record {
        place = m.0;
        held = m.1;
        in_chain = subst (λ (c : Bytes). InChain digest l.blocks c last) m.2 d.in_chain;
        made = entry_shown none all d.by m.0 _ m.1 (sym m.2) ∙ d.made;
        stays = λ i k e. entry_shown none all last i _ k e ∙ d.stays;
      }

  pub arrival : ArrivalPromise digest s buffer calls
  arrival = record { arrives = arrives; shown = shown }

-- the digest that runs
pub theorem : (s : Setup) → lawful s ≡ true → (buffer : List ℕ) (calls : List Call) → ArrivalPromise sha256 s buffer calls
theorem s law = arrival sha256 sha256_length s law
