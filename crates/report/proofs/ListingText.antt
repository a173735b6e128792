-- The text of a listing is its lines, and those of deliveries are what `ListingShows` says. Assumes nothing.
use mathlib.Core.Path.{◌≡◌, sym, ap, ◌∙◌, subst}
use mathlib.Core.Bool.{true, cond}
use mathlib.Core.Logic.{◌⊎◌, inl, inr}
use mathlib.Core.List.Memᴰ
use mathlib.Core.List.{List, [], ◌∷◌, ◌++◌, append-nil, Memᴰ}
use Prim.Native.Nat.{ℕ, ◌<◌}
use lib.ListN.{drop}
use Rattle.base.specs.Bytes.{Bytes, concat}
use Rattle.base.proofs.Tests.{by_test}
use Rattle.setup.specs.Setup.{Setup, lawful, slot_count}
use Rattle.run.specs.Run.{Site, started}
use Rattle.report.specs.declared.Delivery.{Delivery}
use Rattle.report.specs.Text.{Field}
use Rattle.std.specs.Prelude.{None}
use Rattle.report.specs.Text.{names, refusal_line, setup_line, delivery_line}
use Rattle.report.specs.Arrivals.{Arrival, setup_size, setup_in, arrivals_in}
use Rattle.report.specs.Listing.{listing}
use Rattle.report.specs.ListingCalls.{ListingShows}
use Rattle.report.specs.Lines.{lines_in, text, LineShows, TextKeeps}
use Rattle.report.proofs.LineFields.{legible}
use Rattle.report.proofs.Splitting.{AllLines, split_all, names_line}
use Rattle.report.proofs.ListingLines.{Delivers, Refuses, refusal_is_line, texts_from, texts_joined, texts_lines, texts_kinds, shown_line, line_shown}

module _ (buffer : List ℕ) (input : Bytes) where
  abbrev setup : Setup
  setup = setup_in input

  abbrev site : Site
  site = started setup buffer

  abbrev all : List Arrival
  all = arrivals_in (drop setup_size input)

  -- the lines behind that of the names
  unfoldable further : List Bytes
  further = cond (lawful setup) (texts_from 0 site all) (setup_line 1 ∷ [])

  text_joined : text buffer input ≡ concat (names ∷ further)
  unfolding listing concat further
  text_joined =
      by_test (lawful setup)
      (λ y. rw y (ap (λ (b : Bytes). names ++ b) (sym (texts_joined 0 site all))))
      (λ n. rw n (ap (λ (b : Bytes). names ++ b) (sym (append-nil (setup_line 1)))))

  further_lines : AllLines further
  unfolding further
  further_lines = by_test (lawful setup) (λ y. rw y (texts_lines 0 site all)) (λ n. rw n (refusal_is_line None 1, tt))

  lines_are : lines_in (text buffer input) ≡ names ∷ further
  lines_are = ap lines_in text_joined ∙ split_all (names ∷ further) (names_line, further_lines)

  further_kinds : (line : Bytes) → Memᴰ line further → Delivers line ⊎ Refuses line
  unfolding further
  further_kinds line =
      by_test (lawful setup)
      (λ y. rw y (texts_kinds 0 site all line))
      (λ n. rw n (λ m. elim (Memᴰ.cases_cons m) [ inl q ↦ inr (record { what = None; refusal = 1; text = q }) | inr z ↦ absurd (Memᴰ.not-nil z) ]))

  kinds : (line : Bytes) → Memᴰ line (lines_in (text buffer input))
      → (line ≡ names) ⊎ (((d : Delivery) × (line ≡ delivery_line d)) ⊎ ((what : Field) × (refusal : ℕ) × (line ≡ refusal_line what refusal)))
  kinds line m = elim (Memᴰ.cases_cons (subst (Memᴰ line) lines_are m)) [
    | inl q ↦ inl q
    | inr n ↦ inr (elim (further_kinds line n) [ inl w ↦ inl (w.made, w.text) | inr w ↦ inr (w.what, w.refusal, w.text) ])
  ]

  -- a delivery's line stands behind that of the names
  behind_names : (d : Delivery) → Memᴰ (delivery_line d) (lines_in (text buffer input)) → Memᴰ (delivery_line d) further
  behind_names d m = elim (Memᴰ.cases_cons (subst (Memᴰ (delivery_line d)) lines_are m)) [ inl q ↦ absurd ((legible d).not_names q) | inr n ↦ n ]

  low_slot : (d : Delivery) → Memᴰ (delivery_line d) (lines_in (text buffer input)) → d.slot < slot_count
  low_slot d m = elim (further_kinds (delivery_line d) (behind_names d m)) [
    | inl w ↦ subst (λ (e : Delivery). e.slot < slot_count) (sym ((legible d).delivery w.made w.text)) w.low
    | inr w ↦ absurd ((legible d).not_refusal w.what w.refusal w.text)
  ]

  module _ (law : lawful setup ≡ true) where
    further_lawful : further ≡ texts_from 0 site all
    unfolding further
    further_lawful = rw law

    line_shows : (d : Delivery) → Memᴰ (delivery_line d) (lines_in (text buffer input)) → ListingShows site all d.slot d.number
    line_shows d m = line_shown 0 site all d (subst (Memᴰ (delivery_line d)) further_lawful (behind_names d m))

    shows_line : (slot v : ℕ) → slot < slot_count → ListingShows site all slot v → LineShows buffer input slot v
    shows_line slot v low s =
        let w = shown_line 0 site all slot v low s in
        record {
          delivery = w.0;
          in_slot = w.1.0;
          is_number = w.1.1.0;
          stands = subst (Memᴰ (delivery_line w.0)) (sym lines_are) (Memᴰ.tail (subst (Memᴰ (delivery_line w.0)) (sym further_lawful) w.1.1.1));
        }

  pub text_keeps : TextKeeps buffer input
  text_keeps =
      record {
        whole = ap concat lines_are ∙ sym text_joined;
        kinds = kinds;
        legible = legible;
        shown = λ law slot v low. (
          shows_line law slot v low,
          λ l. subst (λ (k : ℕ). ListingShows site all k v) l.in_slot (subst (λ (n : ℕ). ListingShows site all l.delivery.slot n) l.is_number (line_shows law l.delivery l.stands)),
        );
        slots = low_slot;
      }
