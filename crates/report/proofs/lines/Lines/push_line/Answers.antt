-- `push_line` meets its contract: its loop puts the fields. Assumes nothing.
use mathlib.Core.Path.{◌≡◌, refl, sym, ap, ◌∙◌}
use mathlib.Core.List.{List, [], ◌∷◌, ◌++◌, append-nil, append_assoc}
use Prim.Native.Nat.{ℕ, zero, suc, ◌+◌, ◌<◌}
use native.Mathlib.Nat.{le_of_suc-le-suc}
use native.Mathlib.Omega.{arith}
use lib.ListN.{length, get_or}
use borrow.Author.Rules.{rules}
use Rattle.std.specs.Prelude.{Some, None}
use Rattle.base.specs.Bytes.{Bytes, concat}
use Rattle.base.specs.List.{list_below}
use Rattle.base.proofs.Parts.{concat_list_more}
use Rattle.report.specs.Text.{Field, field_count, line}
use Rattle.report.proofs.lines.Lines.push_line.Invariants.{field_in}
use Rattle.report.proofs.lines.Lines.push_line.Goals as goal

-- what is read at an index of a list does not hang on the default
any_default : (xs : List Field) (i : ℕ) (d e : Field) → i < length xs → get_or xs i d ≡ get_or xs i e
any_default [] i d e h = absurd (omega arith)
any_default (x ∷ xs) zero d e h = refl
any_default (x ∷ xs) (suc i) d e h = any_default xs i d e (le_of_suc-le-suc h)

-- one field more
more : (before lines lines' field : Bytes) (of : ℕ → Bytes) (i : ℕ) → lines ≡ before ++ concat (list_below of i) → lines' ≡ lines ++ field → field ≡ of i
    → lines' ≡ before ++ concat (list_below of (i + 1))
more before lines lines' field of i p q e =
    rw (concat_list_more of i) (q ∙ ap (λ (x : Bytes). x ++ field) p ∙ append_assoc before (concat (list_below of i)) field ∙ ap (λ (x : Bytes). before ++ (concat (list_below of i) ++ x)) e)

pub loop-i-init : goal.loop-i-init
unfolding concat list_below
loop-i-init c = (sym (append-nil c.args.self.now), omega arith)

pub loop-i-preserved : goal.loop-i-preserved
loop-i-preserved c =
    let l = c.loop-i in
    let f = c.push_field.ensures in (
      more c.args.self.now l.self _ _ (field_in c.args.fields) l.i l.invariant.0 f.field (rw (c.ending.ensures, any_default c.args.fields l.i None (Some 0) (search rules)) refl),
      omega (arith, l.invariant.1, f.size),
    )

pub returns : goal.returns
unfolding line
returns c =
    let l = c.loop-i in
    let e : l.i ≡ field_count = omega arith in record {
      line = rw e at l.invariant.0;
      size = omega (arith, l.invariant.1, e);
    }
