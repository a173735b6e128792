-- `push_field` meets its contract: the field, then the byte that ends it. Assumes nothing.
use mathlib.Core.Path.{◌≡◌, ap, ◌∙◌}
use mathlib.Core.List.{[], ◌∷◌, ◌++◌, append_assoc}
use Prim.Native.Nat.{ℕ, ◌-◌}
use lib.ListN.{length, take, drop}
use Rattle.std.specs.Prelude.{Some, None}
use Rattle.base.specs.Bytes.{Bytes}
use Rattle.base.specs.List.{list_below}
use Rattle.report.specs.Text.{Field, ascii, decimal, field_text}
use Rattle.base.proofs.Parts.{rest_part}
use Rattle.report.proofs.lines.Lines.push_field.Goals as goal
use Rattle.report.proofs.lines.Lines.push_field.Goals.{in-Some, in-None}

-- a field and the byte that ends it, put one behind the other
both : (before text with_text all : Bytes) (ending : ℕ) → with_text ≡ before ++ text → all ≡ with_text ++ (ending ∷ []) → all ≡ before ++ (text ++ (ending ∷ []))
both before text with_text all ending p q = q ∙ ap (λ (x : Bytes). x ++ (ending ∷ [])) p ∙ append_assoc before text (ending ∷ [])

some_text : (f : Field) (n : ℕ) (before after printed : Bytes) → f ≡ Some n → printed ≡ field_text (Some n) → after ≡ before ++ printed → after ≡ before ++ field_text f
some_text f n before after printed e d p = p ∙ ap (λ (x : Bytes). before ++ x) (d ∙ rw e)

-- the digits are all that stands from their start on
digits_text : (b : Bytes) (start n : ℕ) → drop start b ≡ decimal n → take (length b - start) (drop start b) ≡ field_text (Some n)
unfolding field_text
digits_text b start n e = rest_part b start ∙ e

none_text : (f : Field) → f ≡ None → 45 ∷ [] ≡ field_text f
unfolding field_text ascii list_below
none_text f e = rw e

pub returns-clause-field : goal.returns-clause-field
unfolding field_text ascii list_below
returns-clause-field c = elim c.match-field.branch [
  | in-Some w ↦ both _ _ _ _ _ (rw w.self-is (some_text _ _ _ _ _ w.in-Some.is (digits_text w.digits-digits.result.bytes w.digits-digits.result.start _ w.digits-digits.ensures.bytes_value) w.push.ensures)) c.push-2.ensures
  | in-None w ↦ both _ _ _ _ _ (rw w.self-is (w.push-in-None.ensures ∙ ap (λ (x : Bytes). c.args.self.now ++ x) (none_text _ w.in-None.is))) c.push-2.ensures
]
