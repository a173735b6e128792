-- A text that is made of lines is split into those lines. Assumes nothing.
use mathlib.Core.Path.{◌≡◌, refl, ap, ◌∙◌}
use mathlib.Core.Bool.{Bool, true, false, cond}
use mathlib.Core.List.{List, [], ◌∷◌, ◌++◌, append_assoc}
use Prim.Native.Nat.{ℕ}
use native.Mathlib.Omega.{arith}
use borrow.Author.Tests.{eqb-true, ne_eqb}
use lib.Dec.{eqb}
use lib.ListN.{length, get_or}
use Rattle.base.specs.Bytes.{Bytes, concat}
use Rattle.base.specs.List.{list_below}
use Rattle.base.proofs.Tests.{true_not_false}
use Rattle.report.specs.Text.{Field}
use Rattle.std.specs.Prelude.{Some}
use Rattle.report.specs.Text.{ascii, space, line_feed, field_text, ending, line, names}
use Rattle.report.specs.Lines.{lines_after, lines_in}
use Rattle.report.proofs.LineFields.{Plain, field_plain}

-- whether the text's only line feed is its last byte
unfoldable pub is_line : Bytes → Bool
is_line [] = false
is_line (c ∷ cs) = cond (eqb c line_feed) (eqb (length cs) 0) (is_line cs)

nothing : (x : Bytes) → length x ≡ 0 → x ≡ []
nothing [] e = refl
nothing (c ∷ cs) e = absurd (omega arith)

-- the first line is split off
split_line : (x : Bytes) → is_line x ≡ true → (before rest : Bytes) → lines_after before (x ++ rest) ≡ (before ++ x) ∷ lines_after [] rest
unfolding is_line lines_after
split_line [] y before rest = true_not_false y refl
split_line (c ∷ cs) y before rest = go (eqb c line_feed) y (λ l. split_line cs l (before ++ (c ∷ [])) rest)
  where
    go : (t : Bool) → cond t (eqb (length cs) 0) (is_line cs) ≡ true
        → (is_line cs ≡ true → lines_after (before ++ (c ∷ [])) (cs ++ rest) ≡ ((before ++ (c ∷ [])) ++ cs) ∷ lines_after [] rest)
        → cond t ((before ++ (c ∷ [])) ∷ lines_after [] (cs ++ rest)) (lines_after (before ++ (c ∷ [])) (cs ++ rest)) ≡ (before ++ (c ∷ cs)) ∷ lines_after [] rest
    go true l later = rw (nothing cs (eqb-true (length cs) 0 l))
    go false l later = later l ∙ ap (λ (x : Bytes). x ∷ lines_after [] rest) (append_assoc before (c ∷ []) cs)

abbrev pub AllLines : List Bytes → Type 0
AllLines [] = Unit {0}
AllLines (x ∷ xs) = (is_line x ≡ true) × AllLines xs

pub split_all : (xs : List Bytes) → AllLines xs → lines_in (concat xs) ≡ xs
unfolding concat lines_after
split_all [] l = refl
split_all (x ∷ xs) l = split_line x l.0 [] (concat xs) ∙ ap (λ (ys : List Bytes). x ∷ ys) (split_all xs l.1)

-- ---- the lines of a listing are such

plain_skipped : (x rest : Bytes) → Plain x → is_line (x ++ rest) ≡ is_line rest
unfolding is_line
plain_skipped [] rest p = refl
plain_skipped (c ∷ cs) rest p = rw (ne_eqb c line_feed (λ e. omega (arith, p.0))) (plain_skipped cs rest p.1)

field_skipped : (f : Field) (c : ℕ) (rest : Bytes) → is_line ((field_text f ++ (c ∷ [])) ++ rest) ≡ is_line (c ∷ rest)
field_skipped f c rest = ap is_line (append_assoc (field_text f) (c ∷ []) rest) ∙ plain_skipped (field_text f) (c ∷ rest) (field_plain f)

-- past a field and a space
more : (f : Field) (rest : Bytes) → is_line ((field_text f ++ (space ∷ [])) ++ rest) ≡ is_line rest
unfolding is_line
more f rest = field_skipped f space rest

pub line_is_line : (fields : List Field) → is_line (line fields) ≡ true
unfolding line concat list_below ending is_line
line_is_line fields =
    let field : ℕ → Field = λ i. get_or fields i (Some 0) in
    more (field 0) _ ∙ more (field 1) _ ∙ more (field 2) _ ∙ more (field 3) _ ∙ more (field 4) _ ∙ more (field 5) _ ∙ field_skipped (field 6) line_feed []

pub names_line : is_line names ≡ true
unfolding is_line names ascii list_below
names_line = refl
