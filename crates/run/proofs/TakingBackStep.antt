-- A taking back that passes: every place but the last keeps its history. Assumes nothing.
use mathlib.Core.Path.{◌≡◌, ap, subst}
use mathlib.Core.List.{List, ◌++◌}
use Prim.Native.Nat.{ℕ, ◌-◌}
use native.Mathlib.Omega.{arith}
use Rattle.base.specs.Bytes.{Bytes}
use Rattle.base.proofs.Members.{newest, newest_last}
use Rattle.setup.specs.Setup.{Setup}
use Rattle.take_back.specs.TakingBack.{taking_back}
use Rattle.history.specs.History.{History}
use Rattle.history.proofs.Admissions.{InTurn}
use Rattle.run.specs.Ledger.{take_back, Ledger, taken}
use Rattle.run.specs.Run.{Site}
use Rattle.run.proofs.Simulation.{Simulates, one_held}
use Rattle.run.proofs.PlaceHistories.{PlaceHistories}

module _ (digest : Bytes → Bytes) (s : Setup) (size : ℕ) (l : Ledger) (x : Site) (t : Simulates digest s size l x) (g : PlaceHistories digest s l x)
    (e : (taking_back x.table).refusal ≡ 0) where
  -- the last one was admitted after all others
  in_turn : InTurn digest (newest g.history (l.held - 1) ++ g.retired)
  in_turn = (subst (InTurn digest) (ap (λ (hs : List History). hs ++ g.retired) (newest_last g.history l.held (one_held digest s size l x t e))) g.in_turn).1

  pub takes_back : (table : Bytes) → PlaceHistories digest s (taken l take_back) (record { table = table; records = x.records })
  unfolding taken
  takes_back table =
      record {
        history = g.history;
        retired = g.retired;
        blocks = λ i h. g.blocks i (omega arith);
        retired_blocks = g.retired_blocks;
        in_turn = in_turn;
        refers = λ i j h. g.refers i j (omega arith);
        waits = λ i h. g.waits i (omega arith);
        shown = λ i h. g.shown i (omega arith);
      }
