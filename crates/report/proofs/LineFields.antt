-- A line's text says its seven fields: lines of other fields have other texts, and none is that of the names. Assumes nothing.
use mathlib.Core.Path.{◌≡◌, refl, sym, ap, ap₂, ◌∙◌, subst}
use mathlib.Core.Logic.{◌≢◌}
use mathlib.Core.List.{List, [], ◌∷◌, ◌++◌, append_assoc}
use Prim.Native.Nat.{ℕ, zero, suc, ◌+◌, ◌-◌, ◌*◌, ◌/◌, ◌%◌, ◌≤◌, ◌<◌}
use native.Mathlib.Nat.{le_of_suc-le-suc}
use native.Mathlib.Omega.{arith}
use borrow.Author.Tests.{eqb-true, eqb-false}
use lib.Dec.{eqb}
use lib.ListN.{get_or, drop}
use Rattle.base.specs.Bytes.{Bytes, concat}
use Rattle.base.specs.List.{list_below}
use Rattle.base.proofs.Tests.{by_test}
use Rattle.report.specs.declared.Delivery.{Delivery}
use Rattle.report.specs.Text.{Field}
use Rattle.std.specs.Prelude.{Some, None}
use Rattle.report.specs.Text.{ascii, space, digit, decimal, field_text, field_count, ending, line, names, refusal_line, delivery_line}
use Rattle.report.specs.Lines.{Legible}
use Rattle.report.proofs.Decimal.{leading, last_apart}

-- ---- a number's digits say the number

-- every byte is a digit
abbrev Digits : Bytes → Type 0
Digits [] = Unit {0}
Digits (c ∷ cs) = ((48 ≤ c) × (c ≤ 57)) × Digits cs

digits_append : (xs ys : Bytes) → Digits xs → Digits ys → Digits (xs ++ ys)
digits_append [] ys p q = q
digits_append (x ∷ xs) ys p q = (p.0, digits_append xs ys p.1 q)

-- the number of some digits, behind those of n
unfoldable number : ℕ → Bytes → ℕ
number n [] = n
number n (c ∷ cs) = number (10 * n + (c - 48)) cs

number_append : (n : ℕ) (xs : Bytes) (c : ℕ) → number n (xs ++ (c ∷ [])) ≡ 10 * number n xs + (c - 48)
unfolding number
number_append n [] c = refl
number_append n (x ∷ xs) c = number_append (10 * n + (x - 48)) xs c

record Says (x : Bytes) (n : ℕ) : Type 0 where
  digits : Digits x
  value : number 0 x ≡ n

leading_says : (n : ℕ) → (n ≢ 0 → Says (decimal n) n) → Says (leading n) n
unfolding leading number
leading_says n some =
    by_test (eqb n 0)
    (λ e. rw e (record { digits = tt; value = sym (eqb-true n 0 e) }))
    (λ e. rw e (some (eqb-false n 0 e)))

decimal_below : (k n : ℕ) → n < k → Says (decimal n) n
decimal_below zero n h = absurd (omega arith)
decimal_below (suc k) n h =
    let front = leading_says (n / 10) (λ some. decimal_below k (n / 10) (omega arith)) in
    rw (last_apart n)
    (record {
      digits = digits_append (leading (n / 10)) (digit (n % 10) ∷ []) front.digits ((omega arith, omega arith), tt);
      value = number_append 0 (leading (n / 10)) (digit (n % 10)) ∙ omega (arith, front.value);
    })

decimal_says : (n : ℕ) → Says (decimal n) n
decimal_says n = decimal_below (suc n) n (omega arith)

-- ---- a field's text says the field

minus_no_digit : (n : ℕ) → decimal n ≢ ascii "-"
unfolding ascii list_below
minus_no_digit n e = let d : Digits (ascii "-") = subst Digits e (decimal_says n).digits in omega (arith, d.0.0)

field_same : (f g : Field) → field_text f ≡ field_text g → f ≡ g
unfolding field_text
field_same (Some n) (Some m) e = ap Some (sym (decimal_says n).value ∙ ap (number 0) e ∙ (decimal_says m).value)
field_same (Some n) None e = absurd (minus_no_digit n e)
field_same None (Some m) e = absurd (minus_no_digit m (sym e))
field_same None None e = refl

-- it has neither a space nor a line feed
abbrev pub Plain : Bytes → Type 0
Plain [] = Unit {0}
Plain (c ∷ cs) = (space < c) × Plain cs

digits_plain : (x : Bytes) → Digits x → Plain x
digits_plain [] d = tt
digits_plain (c ∷ cs) d = (omega (arith, d.0.0), digits_plain cs d.1)

pub field_plain : (f : Field) → Plain (field_text f)
unfolding field_text ascii list_below
field_plain (Some n) = digits_plain (decimal n) (decimal_says n).digits
field_plain None = (omega arith, tt)

-- ---- a line's text says its fields

first_same_lem : {x y : ℕ} {xs ys : Bytes} → x ∷ xs ≡ y ∷ ys → x ≡ y
first_same_lem e = ap (λ (l : Bytes). get_or l 0 0) e

rest_same : {x y : ℕ} {xs ys : Bytes} → x ∷ xs ≡ y ∷ ys → xs ≡ ys
rest_same e = ap (λ (l : Bytes). drop 1 l) e

-- what stands before and behind the first space or line feed
parted : (a b : Bytes) → Plain a → Plain b → (s : ℕ) → s ≤ space → (r t : Bytes) → a ++ (s ∷ r) ≡ b ++ (s ∷ t) → (a ≡ b) × (r ≡ t)
parted [] [] p q s h r t e = (refl, rest_same e)
parted [] (d ∷ ds) p q s h r t e = absurd (omega (arith, first_same_lem e, q.0))
parted (c ∷ cs) [] p q s h r t e = absurd (omega (arith, first_same_lem e, p.0))
parted (c ∷ cs) (d ∷ ds) p q s h r t e =
    let w = parted cs ds p.1 q.1 s h r t (rest_same e) in
    (ap₂ ◌∷◌ (first_same_lem e) w.0, w.1)

-- the texts of the first k fields, each with what stands after it
abbrev texts : (ℕ → ℕ) → (ℕ → Field) → ℕ → Bytes
texts end f k = concat (list_below (λ i. field_text (f i) ++ (end i ∷ [])) k)

fields_same : (end : ℕ → ℕ) → ((i : ℕ) → end i ≤ space) → (f g : ℕ → Field) (k : ℕ) → texts end f k ≡ texts end g k → (i : ℕ) → i < k → f i ≡ g i
unfolding concat list_below
fields_same end low f g zero e i h = absurd (omega arith)
fields_same end low f g (suc k) e i h = go i h (λ j l. fields_same (λ i. end (suc i)) (λ i. low (suc i)) (λ i. f (suc i)) (λ i. g (suc i)) k both.1 j l)
  where
    both : (field_text (f 0) ≡ field_text (g 0)) × (texts (λ i. end (suc i)) (λ i. f (suc i)) k ≡ texts (λ i. end (suc i)) (λ i. g (suc i)) k)
    both =
        parted (field_text (f 0)) (field_text (g 0)) (field_plain (f 0)) (field_plain (g 0)) (end 0) (low 0) _ _
        (sym (append_assoc (field_text (f 0)) (end 0 ∷ []) _) ∙ e ∙ append_assoc (field_text (g 0)) (end 0 ∷ []) _)

    go : (i : ℕ) → i < suc k → ((j : ℕ) → j < k → f (suc j) ≡ g (suc j)) → f i ≡ g i
    go zero h later = field_same (f 0) (g 0) both.0
    go (suc j) h later = later j (le_of_suc-le-suc h)

ending_low : (i : ℕ) → ending i ≤ space
unfolding ending
ending_low i = by_test (eqb i (field_count - 1)) (λ e. rw e (omega arith)) (λ e. rw e (omega arith))

line_says : (fs gs : List Field) → line fs ≡ line gs → (i : ℕ) → i < field_count → get_or fs i (Some 0) ≡ get_or gs i (Some 0)
unfolding line
line_says fs gs e = fields_same ending ending_low (λ i. get_or fs i (Some 0)) (λ i. get_or gs i (Some 0)) field_count e

-- ---- a delivery's

-- a field's number, one more than it, and 0 where it has none
abbrev number_in : Field → ℕ
number_in (Some n) = suc n
number_in None = 0

numbers_same : (n m : ℕ) → ◌≡◌ {A = Field} (Some n) (Some m) → n ≡ m
numbers_same n m e = let q : suc n ≡ suc m = ap number_in e in omega arith

abbrev delivery : ℕ → ℕ → ℕ → ℕ → ℕ → ℕ → Delivery
delivery arrival place site sequence slot number =
    record { arrival = arrival; place = place; site = site; sequence = sequence; slot = slot; number = number }

module _ (d : Delivery) where
  delivery_same : (e : Delivery) → delivery_line d ≡ delivery_line e → d ≡ e
  unfolding delivery_line
  delivery_same e q =
      let w = line_says _ _ q in
      let q0 : d.arrival ≡ e.arrival = numbers_same _ _ (w 0 (omega arith)) in
      let q1 : d.place ≡ e.place = numbers_same _ _ (w 1 (omega arith)) in
      let q2 : d.site ≡ e.site = numbers_same _ _ (w 2 (omega arith)) in
      let q3 : d.sequence ≡ e.sequence = numbers_same _ _ (w 3 (omega arith)) in
      let q4 : d.slot ≡ e.slot = numbers_same _ _ (w 4 (omega arith)) in
      let q5 : d.number ≡ e.number = numbers_same _ _ (w 5 (omega arith)) in
      let all : delivery d.arrival d.place d.site d.sequence d.slot d.number
      ≡ delivery e.arrival e.place e.site e.sequence e.slot e.number = cc in
      all

  not_refusal : (what : Field) (refusal : ℕ) → delivery_line d ≢ refusal_line what refusal
  unfolding delivery_line refusal_line
  not_refusal what refusal q = let z : suc d.place ≡ 0 = ap number_in (line_says _ _ q 1 (omega arith)) in omega arith

  not_names : delivery_line d ≢ names
  unfolding delivery_line line concat list_below ending field_text names ascii
  not_names q =
      let w = parted (decimal d.arrival) (ascii "arrival") (field_plain (Some d.arrival)) (omega arith, (omega arith, (omega arith, (omega arith, (omega arith, (omega arith, (omega arith, tt)))))))
      space (omega arith) _ _ (sym (append_assoc (decimal d.arrival) (space ∷ []) _) ∙ q) in
      let a : Digits (ascii "arrival") = subst Digits w.0 (decimal_says d.arrival).digits in
      omega (arith, a.0.1)

  pub legible : Legible d
  legible = record { delivery = delivery_same; not_refusal = not_refusal; not_names = not_names }
