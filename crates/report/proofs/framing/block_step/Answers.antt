-- `block_step` meets its contract: an arrival that is cut, or one that is whole. Assumes nothing.
use mathlib.Core.Path.{sym, ap, ◌∙◌}
use native.Mathlib.Numerals.{add-one}
use native.Mathlib.Omega.{arith}
use Rattle.base.proofs.Parts.{part_size_lem}
use Rattle.sha256.specs.Sha256.{sha256}
use Rattle.run.specs.Run.{Site}
use Rattle.report.specs.Framing.{handed}
use Rattle.report.proofs.Ways.{block_cut, site_cut, block_whole, site_whole}
use Rattle.report.proofs.framing.block_step.Goals as goal
use Rattle.report.proofs.framing.block_step.Goals.{Start}

-- ---- the places of the walk

abbrev site : Start → Site
site c = record { table = c.args.table.now; records = c.args.records.now }

pub returns-then-piece-size : goal.returns-then-piece-size
returns-then-piece-size c = let a = c.args in
    let x : Site = site (goal.at.returns-then-piece-size c).Start in
    let e = site_cut sha256 a.size a.arrivals x a.piece.now (omega arith) in record {
      value = c.stepped.ensures
          ∙ rw c.refused.ensures (ap handed (sym (block_cut sha256 a.size a.arrivals x a.piece.now (omega arith))));
      table_after = sym (ap (λ (y : Site). y.table) e);
      records_after = sym (ap (λ (y : Site). y.records) e);
    }

pub returns : goal.returns
returns c = let a = c.args in
    let x : Site = site (goal.at.returns c).Start in
    let r = c.arrive-lines.ensures in
    let cut = part_size_lem 1 a.size in
    let e = site_whole sha256 a.size a.arrivals x a.piece.now (omega arith) in record {
      value = c.stepped-2.ensures
          ∙ rw (rw cut at r.value, add-one) (ap handed (sym (block_whole sha256 a.size a.arrivals x a.piece.now (omega arith))));
      table_after = rw cut at r.table_after ∙ sym (ap (λ (y : Site). y.table) e);
      records_after = rw cut at r.records_after ∙ sym (ap (λ (y : Site). y.records) e);
    }
