-- The lines that a listing is made of, and what stands among them: a delivery's line for each number that is shown, and no other delivery's.
-- Assumes nothing.
use mathlib.Core.Path.{◌≡◌, refl, sym, ap, ap₂, ◌∙◌, subst}
use mathlib.Core.Bool.{Bool, true, false, cond}
use mathlib.Core.Logic.{◌≢◌, ◌⊎◌, inl, inr}
use mathlib.Core.List.{List, [], ◌∷◌, ◌++◌, append-nil, Memᴰ}
use Prim.Native.Nat.{ℕ, zero, suc, ◌<◌, suc-le-suc}
use native.Mathlib.Nat.{le_of_suc-le-suc}
use native.Mathlib.Omega.{arith}
use borrow.Author.Tests.{eqb-true, eqb-false, eq-eqb, ne_eqb}
use lib.Dec.{eqb}
use Rattle.base.specs.Bytes.{Bytes, concat}
use Rattle.base.specs.List.{list_below}
use Rattle.base.proofs.Parts.{concat_append}
use Rattle.base.proofs.Tests.{by_test}
use Rattle.sha256.specs.Sha256.{sha256}
use Rattle.setup.specs.Setup.{slot_count}
use Rattle.block.specs.Layout.{site_of, sequence_of}
use Rattle.run.specs.Run.{Site}
use Rattle.report.specs.declared.Delivery.{Delivery}
use Rattle.report.specs.Text.{Field}
use Rattle.std.specs.Prelude.{Some}
use Rattle.report.specs.Text.{refusal_line, refused_line, unread_line, delivery_line, delivery_text}
use Rattle.report.specs.Arrivals.{Arrival, arrived, unread}
use Rattle.report.specs.Listing.{delivery, delivery_lines, admission_answer, site_arrived, arrival_refusal, arrival_lines, listing_from}
use Rattle.report.specs.ListingCalls.{ListingShows, here, later, past}
use Rattle.report.proofs.LineFields.{legible}
use Rattle.report.proofs.Splitting.{is_line, AllLines, line_is_line}

-- ---- lists of lines

lines_append : (xs ys : List Bytes) → AllLines xs → AllLines ys → AllLines (xs ++ ys)
lines_append [] ys p q = q
lines_append (x ∷ xs) ys p q = (p.0, lines_append xs ys p.1 q)

-- a delivery's or a refusal's
pub record Delivers (line : Bytes) : Type 0 where
  pub made : Delivery
  pub low : made.slot < slot_count
  pub text : line ≡ delivery_line made

pub record Refuses (line : Bytes) : Type 0 where
  pub what : Field
  pub refusal : ℕ
  pub text : line ≡ refusal_line what refusal

-- ---- the deliveries of one arrival

-- a delivery's line, where a number was delivered, before others
unfoldable pub before : Delivery → List Bytes → List Bytes
before d rest = cond (eqb d.number 0) rest (delivery_line d ∷ rest)

-- those of the first k
unfoldable pub deliveries : (ℕ → Delivery) → ℕ → List Bytes
deliveries f zero = []
deliveries f (suc k) = before (f 0) (deliveries (λ i. f (suc i)) k)

before_joined : (d : Delivery) (rest : List Bytes) → concat (before d rest) ≡ delivery_text d ++ concat rest
unfolding before delivery_text concat
before_joined d rest = by_test (eqb d.number 0) (λ e. rw e) (λ e. rw e)

deliveries_joined : (f : ℕ → Delivery) (k : ℕ) → concat (deliveries f k) ≡ concat (list_below (λ i. delivery_text (f i)) k)
unfolding deliveries concat list_below
deliveries_joined f zero = refl
deliveries_joined f (suc k) = before_joined (f 0) (deliveries (λ i. f (suc i)) k) ∙ ap (λ (b : Bytes). delivery_text (f 0) ++ b) (deliveries_joined (λ i. f (suc i)) k)

delivery_is_line : (d : Delivery) → is_line (delivery_line d) ≡ true
unfolding delivery_line
delivery_is_line d = line_is_line _

deliveries_lines : (f : ℕ → Delivery) (k : ℕ) → AllLines (deliveries f k)
unfolding deliveries before
deliveries_lines f zero = tt
deliveries_lines f (suc k) =
    let rest = deliveries_lines (λ i. f (suc i)) k in
    by_test (eqb (f 0).number 0) (λ e. rw e rest) (λ e. rw e (delivery_is_line (f 0), rest))

deliveries_have : (f : ℕ → Delivery) (k i : ℕ) → i < k → (f i).number ≢ 0 → Memᴰ (delivery_line (f i)) (deliveries f k)
unfolding deliveries before
deliveries_have f zero i h n = absurd (omega arith)
deliveries_have f (suc k) zero h n = rw (ne_eqb (f 0).number 0 n) (mathlib.Core.List.Memᴰ.head refl)
deliveries_have f (suc k) (suc i) h n =
    let there = deliveries_have (λ i. f (suc i)) k i (le_of_suc-le-suc h) n in
    by_test (eqb (f 0).number 0) (λ e. rw e there) (λ e. rw e (mathlib.Core.List.Memᴰ.tail there))

-- one of the first k
record OneOf (f : ℕ → Delivery) (k : ℕ) (line : Bytes) : Type 0 where
  index : ℕ
  below : index < k
  some : (f index).number ≢ 0
  text : line ≡ delivery_line (f index)

deliveries_from : (f : ℕ → Delivery) (k : ℕ) (line : Bytes) → Memᴰ line (deliveries f k) → OneOf f k line
unfolding deliveries before
deliveries_from f zero line m = absurd (mathlib.Core.List.Memᴰ.not-nil m)
deliveries_from f (suc k) line m = go (eqb (f 0).number 0) refl m (λ n. deliveries_from (λ i. f (suc i)) k line n)
  where
    further : OneOf (λ i. f (suc i)) k line → OneOf f (suc k) line
    further w = record { index = suc w.index; below = suc-le-suc w.below; some = w.some; text = w.text }

    go : (t : Bool) → eqb (f 0).number 0 ≡ t → Memᴰ line (cond t (deliveries (λ i. f (suc i)) k) (delivery_line (f 0) ∷ deliveries (λ i. f (suc i)) k))
        → (Memᴰ line (deliveries (λ i. f (suc i)) k) → OneOf (λ i. f (suc i)) k line) → OneOf f (suc k) line
    go true e m rest = further (rest m)
    go false e m rest = elim (mathlib.Core.List.Memᴰ.cases_cons m) [
      | inl q ↦ record { index = 0; below = omega arith; some = eqb-false (f 0).number 0 e; text = q }
      | inr n ↦ further (rest n)
    ]

-- ---- the lines of one arrival

module _ (x : Site) (b : Bytes) (verdict arrival : ℕ) where
  -- what it delivers in a slot
  abbrev in_slot : ℕ → Delivery
  in_slot slot = delivery (site_arrived sha256 x b verdict).records arrival (admission_answer sha256 x b verdict).value (site_of b) (sequence_of b) slot

  abbrev refusal : ℕ
  refusal = arrival_refusal sha256 x b verdict

  unfoldable pub arrival_texts : List Bytes
  arrival_texts = cond (eqb refusal 0) (deliveries in_slot slot_count) (refused_line arrival refusal ∷ [])

  passed_texts : refusal ≡ 0 → arrival_texts ≡ deliveries in_slot slot_count
  unfolding arrival_texts
  passed_texts e = rw (eq-eqb refusal 0 e)

  refused_texts : refusal ≢ 0 → arrival_texts ≡ refused_line arrival refusal ∷ []
  unfolding arrival_texts
  refused_texts n = rw (ne_eqb refusal 0 n)

  arrival_joined : concat arrival_texts ≡ arrival_lines sha256 x b verdict arrival
  unfolding arrival_texts arrival_lines delivery_lines concat
  arrival_joined = by_test (eqb refusal 0) (λ e. rw e (deliveries_joined in_slot slot_count)) (λ e. rw e (append-nil (refused_line arrival refusal)))

pub refusal_is_line : (what : Field) (number : ℕ) → is_line (refusal_line what number) ≡ true
unfolding refusal_line
refusal_is_line what number = line_is_line _

-- ---- the lines of all

unfoldable pub texts_from : ℕ → Site → List Arrival → List Bytes
texts_from arrival x [] = []
texts_from arrival x (unread ∷ rest) = unread_line arrival ∷ texts_from (suc arrival) x rest
texts_from arrival x (arrived b verdict ∷ rest) = arrival_texts x b verdict arrival ++ texts_from (suc arrival) (site_arrived sha256 x b verdict) rest

pub texts_joined : (arrival : ℕ) (x : Site) (arrivals : List Arrival) → concat (texts_from arrival x arrivals) ≡ listing_from sha256 arrival x arrivals
unfolding texts_from listing_from concat
texts_joined arrival x [] = refl
texts_joined arrival x (unread ∷ rest) = ap (λ (b : Bytes). unread_line arrival ++ b) (texts_joined (suc arrival) x rest)
texts_joined arrival x (arrived b verdict ∷ rest) =
    concat_append (arrival_texts x b verdict arrival) (texts_from (suc arrival) (site_arrived sha256 x b verdict) rest)
    ∙ ap₂ (λ (y z : Bytes). y ++ z) (arrival_joined x b verdict arrival) (texts_joined (suc arrival) (site_arrived sha256 x b verdict) rest)

pub texts_lines : (arrival : ℕ) (x : Site) (arrivals : List Arrival) → AllLines (texts_from arrival x arrivals)
unfolding texts_from arrival_texts
texts_lines arrival x [] = tt
texts_lines arrival x (unread ∷ rest) = (refusal_is_line (Some arrival) 3, texts_lines (suc arrival) x rest)
texts_lines arrival x (arrived b verdict ∷ rest) =
    lines_append (arrival_texts x b verdict arrival) (texts_from (suc arrival) (site_arrived sha256 x b verdict) rest)
    (by_test (eqb (refusal x b verdict arrival) 0) (λ e. rw e (deliveries_lines (in_slot x b verdict arrival) slot_count))
    (λ e. rw e (refusal_is_line (Some arrival) (refusal x b verdict arrival), tt)))
    (texts_lines (suc arrival) (site_arrived sha256 x b verdict) rest)

-- each is a delivery's or a refusal's
pub texts_kinds : (arrival : ℕ) (x : Site) (arrivals : List Arrival) (line : Bytes) → Memᴰ line (texts_from arrival x arrivals) → Delivers line ⊎ Refuses line
unfolding texts_from
texts_kinds arrival x [] line m = absurd (mathlib.Core.List.Memᴰ.not-nil m)
texts_kinds arrival x (unread ∷ rest) line m = elim (mathlib.Core.List.Memᴰ.cases_cons m) [
  | inl q ↦ inr (record { what = Some arrival; refusal = 3; text = q })
  | inr n ↦ texts_kinds (suc arrival) x rest line n
]
texts_kinds arrival x (arrived b verdict ∷ rest) line m = elim (mathlib.Core.List.Memᴰ.append_cases (arrival_texts x b verdict arrival) m) [
  | inl n ↦ by_test (eqb (refusal x b verdict arrival) 0)
      (λ e.
      let w = deliveries_from (in_slot x b verdict arrival) slot_count line (subst (Memᴰ line) (passed_texts x b verdict arrival (eqb-true _ 0 e)) n) in
      inl (record { made = in_slot x b verdict arrival w.index; low = w.below; text = w.text }))
      (λ e. elim (mathlib.Core.List.Memᴰ.cases_cons (subst (Memᴰ line) (refused_texts x b verdict arrival (eqb-false _ 0 e)) n)) [
        | inl q ↦ inr (record { what = Some arrival; refusal = refusal x b verdict arrival; text = q })
        | inr z ↦ absurd (mathlib.Core.List.Memᴰ.not-nil z)
      ])
  | inr n ↦ texts_kinds (suc arrival) (site_arrived sha256 x b verdict) rest line n
]

-- ---- what is shown has a line

pub shown_line : (arrival : ℕ) (x : Site) (arrivals : List Arrival) (slot v : ℕ) → slot < slot_count → ListingShows x arrivals slot v
    → (d : Delivery) × ((d.slot ≡ slot) × ((d.number ≡ v) × Memᴰ (delivery_line d) (texts_from arrival x arrivals)))
unfolding texts_from
shown_line arrival x [] slot v low m = elim m [ ]
shown_line arrival x (unread ∷ rest) slot v low (past m) =
    let w = shown_line (suc arrival) x rest slot v low m in (w.0, (w.1.0, (w.1.1.0, mathlib.Core.List.Memᴰ.tail w.1.1.1)))
shown_line arrival x (arrived b verdict ∷ rest) slot v low (here z e n) =
    let d : Delivery = in_slot x b verdict arrival slot in
    let there : Memᴰ (delivery_line d) (arrival_texts x b verdict arrival) =
    subst (Memᴰ (delivery_line d)) (sym (passed_texts x b verdict arrival z)) (deliveries_have (in_slot x b verdict arrival) slot_count slot low (λ q. n (sym e ∙ q))) in
    (d, (refl, (e, mathlib.Core.List.Memᴰ.append_left _ there)))
shown_line arrival x (arrived b verdict ∷ rest) slot v low (later m) =
    let w = shown_line (suc arrival) (site_arrived sha256 x b verdict) rest slot v low m in
    (w.0, (w.1.0, (w.1.1.0, mathlib.Core.List.Memᴰ.append_right (arrival_texts x b verdict arrival) w.1.1.1)))

-- ---- a delivery's line is shown

pub line_shown : (arrival : ℕ) (x : Site) (arrivals : List Arrival) (d : Delivery) → Memᴰ (delivery_line d) (texts_from arrival x arrivals)
    → ListingShows x arrivals d.slot d.number
unfolding texts_from
line_shown arrival x [] d m = absurd (mathlib.Core.List.Memᴰ.not-nil m)
line_shown arrival x (unread ∷ rest) d m = elim (mathlib.Core.List.Memᴰ.cases_cons m) [
  | inl q ↦ absurd ((legible d).not_refusal (Some arrival) 3 q)
  | inr n ↦ past (line_shown (suc arrival) x rest d n)
]
line_shown arrival x (arrived b verdict ∷ rest) d m = elim (mathlib.Core.List.Memᴰ.append_cases (arrival_texts x b verdict arrival) m) [
  | inl n ↦ by_test (eqb (refusal x b verdict arrival) 0)
      (λ e.
      let z = eqb-true _ 0 e in
      let w = deliveries_from (in_slot x b verdict arrival) slot_count (delivery_line d) (subst (Memᴰ (delivery_line d)) (passed_texts x b verdict arrival z) n) in
      let same : d ≡ in_slot x b verdict arrival w.index = (legible d).delivery (in_slot x b verdict arrival w.index) w.text in
      subst (λ (y : Delivery). ListingShows x (arrived b verdict ∷ rest) y.slot y.number) (sym same) (here z refl w.some))
      (λ e. elim (mathlib.Core.List.Memᴰ.cases_cons (subst (Memᴰ (delivery_line d)) (refused_texts x b verdict arrival (eqb-false _ 0 e)) n)) [
        | inl q ↦ absurd ((legible d).not_refusal (Some arrival) (refusal x b verdict arrival) q)
        | inr z ↦ absurd (mathlib.Core.List.Memᴰ.not-nil z)
      ])
  | inr n ↦ later (line_shown (suc arrival) (site_arrived sha256 x b verdict) rest d n)
]
