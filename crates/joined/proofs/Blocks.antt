-- The rows of the result show the blocks of the two ledgers: the left's at the left's places, the right's behind them. Assumes nothing.
use mathlib.Core.Path.{◌≡◌, sym, ap, ◌∙◌}
use mathlib.Core.Bool.{true, cond}
use mathlib.Core.List.{List, Memᴰ}
use Prim.Native.Nat.{ℕ, ◌≤◌, ◌<◌}
use native.Mathlib.Omega.{arith}
use lib.Dec.{ltb}
use borrow.Author.Tests.{ltb-true, ltb-false}
use Rattle.base.specs.Bytes.{Bytes}
use Rattle.base.proofs.Tests.{by_test, not_true_false, same_tests}
use Rattle.setup.specs.Setup.{slot_count}
use Rattle.block.specs.Layout.{site_of, sequence_of, references_of, request_for}
use Rattle.block.specs.Reading.{reading, fields_of}
use Rattle.block.specs.Promises.{Shaped}
use Rattle.std.specs.Prelude.{Ok}
use Rattle.block.proofs.Acceptance.{reading_accepted}
use Rattle.table.specs.View.{max_places, View}
use Rattle.table.specs.Layout.{count_of, digest_at, site_at, sequence_at, counted_request_at, row_at, view_of}
use Rattle.table.proofs.InForm.{table_form, formed_row, one_place}
use Rattle.admission.specs.Admission.{lists}
use Rattle.admission.proofs.ReferenceList.{lists_member, member_lists}
use Rattle.join.specs.Join.{refers_by, place_in, joined_table}
use Rattle.join.specs.Steps.{JoinableSides}
use Rattle.join.proofs.References.{place_found, place_has, by_from, by_has}
use Rattle.join.proofs.TableInvariant.{PlaceShows, Carried, TableInvariant}
use Rattle.join.proofs.ThirdBuffer.{whole}
use Rattle.run.proofs.SiteInvariant.{Rows}

shaped : (b : Bytes) → reading b ≡ Ok (fields_of b) → Shaped b
shaped b e = (reading_accepted b (fields_of b) e).accepted.shape

module _ (digest : Bytes → Bytes) (left right : Bytes) (left_records right_records third : List ℕ) (p : JoinableSides left right left_records right_records third)
    (block_l block_r : ℕ → Bytes) (rows_l : Rows digest left block_l) (rows_r : Rows digest right block_r) where
  abbrev t : Bytes
  t = joined_table left right

  abbrev n : ℕ
  n = count_of left

  abbrev m : ℕ
  m = count_of right

  abbrev c : ℕ
  c = count_of t

  abbrev w : View
  w = view_of right

  all : TableInvariant left right p.joinable m t
  all = whole left right left_records right_records third p

  few : c ≤ max_places
  few = (table_form t all.formed).held.fits

  within : n ≤ c
  within = omega (arith, all.count)

  -- one place shows this block
  record RowIs (q : ℕ) (b : Bytes) : Type 0 where
    digests : digest_at t q ≡ digest b
    site : site_at t q ≡ site_of b
    sequence : sequence_at t q ≡ sequence_of b
    request : (slot : ℕ) → slot < slot_count → counted_request_at t q slot ≡ request_for b slot
    refers : (a : ℕ) → a < c → (row_at t q).refers_to a ≡ lists b (digest_at t a)
    linked : (r : Bytes) → Memᴰ r (references_of b) → (a : ℕ) × (a < c) × (digest_at t a ≡ r)
    accepted : reading b ≡ Ok (fields_of b)

  -- a place from which on the block lists nothing, as all that it lists stands below
  beyond : (q : ℕ) (b : Bytes) → q < c → Shaped b → ((r : Bytes) → Memᴰ r (references_of b) → (a : ℕ) × (a < q) × (digest_at t a ≡ r))
      → (a : ℕ) → a < c → q ≤ a → (row_at t q).refers_to a ≡ lists b (digest_at t a)
  beyond q b h shape low a l o =
      not_true_false ((row_at t q).refers_to a) (λ y. absurd (omega (arith, (formed_row t all.formed q h).lower a (omega (arith, few)) y)))
      ∙ sym (not_true_false (lists b (digest_at t a)) (λ y.
      let u = low (digest_at t a) (lists_member b shape (digest_at t a) y) in
      let e : u.0 ≡ a = one_place t all.formed u.0 a (omega (arith, u.1)) l u.2 in
      absurd (omega (arith, u.1))))

  -- ---- the left's places

  module _ (q : ℕ) (h : q < n) where
    old : PlaceShows left right p.joinable t q left q
    old = all.kept q h

    low_left : (r : Bytes) → Memᴰ r (references_of (block_l q)) → (a : ℕ) × (a < q) × (digest_at t a ≡ r)
    low_left r k =
        let a = rows_l.linked q h r k in
        let y : (row_at left q).refers_to a.0 ≡ true = rows_l.refers q a.0 h a.1 ∙ ap (lists (block_l q)) a.2
        ∙ member_lists (block_l q) (shaped (block_l q) (rows_l.accepted q h)) r k in
        (a.0, (formed_row left p.joinable.formed.left_formed q h).lower a.0 (omega (arith, a.1, within, few)) y, (all.kept a.0 a.1).digest ∙ a.2)

    left_row : RowIs q (block_l q)
    left_row =
        record {
          digests = old.digest ∙ rows_l.digests q h;
          site = old.site ∙ rows_l.sites q h;
          sequence = old.sequence ∙ rows_l.sequences q h;
          request = λ slot l. old.request slot l ∙ rows_l.requests q h slot l;
          refers = λ a l. by_test (ltb a q)
              (λ y. let la : a < n = omega (arith, ltb-true a q y) in
              old.refers_to a (omega (arith, few)) ∙ rows_l.refers q a h la ∙ ap (lists (block_l q)) (sym (all.kept a la).digest))
              (λ z. beyond q (block_l q) (omega (arith, within)) (shaped (block_l q) (rows_l.accepted q h)) low_left a l (omega (arith, ltb-false a q z)));
          linked = λ r k. let u = low_left r k in (u.0, omega (arith, u.1, within), u.2);
          accepted = rows_l.accepted q h;
        }

  -- ---- a place that holds a block of the right

  module _ (q j : ℕ) (h : q < c) (l : j < m) (e : digest_at t q ≡ digest_at right j) where
    its : Carried left right p.joinable t q j
    its = all.same q j h l e

    abbrev b : Bytes
    b = block_r j

    -- the right's place that a reference stands for
    there : (r : Bytes) → Memᴰ r (references_of b) → (i : ℕ) × (i < m) × ((row_at right j).refers_to i ≡ true) × (digest_at right i ≡ r)
    there r k =
        let i = rows_r.linked j l r k in
        (i.0, i.1, rows_r.refers j i.0 l i.1 ∙ ap (lists b) i.2 ∙ member_lists b (shaped b (rows_r.accepted j l)) r k, i.2)

    low_right : (r : Bytes) → Memᴰ r (references_of b) → (a : ℕ) × (a < q) × (digest_at t a ≡ r)
    low_right r k =
        let i = there r k in
        let a = its.reaches i.0 i.1 i.2 in
        (a.0, a.1, a.2 ∙ i.3)

    refers_low : (a : ℕ) → a < q → (row_at t q).refers_to a ≡ lists b (digest_at t a)
    refers_low a o = its.refers a o ∙ same_tests (refers_by w j (digest_at t a)) (lists b (digest_at t a))
        (λ y. let i = by_from w j (digest_at t a) y in ap (lists b) (sym i.3) ∙ sym (rows_r.refers j i.0 l i.1) ∙ i.2)
        (λ y. let i = there (digest_at t a) (lists_member b (shaped b (rows_r.accepted j l)) (digest_at t a) y) in by_has w j (digest_at t a) i.0 i.1 i.2 i.3)

    right_row : RowIs q b
    right_row =
        record {
          digests = e ∙ rows_r.digests j l;
          site = its.site ∙ rows_r.sites j l;
          sequence = its.sequence ∙ rows_r.sequences j l;
          request = λ slot o. its.request slot o ∙ rows_r.requests j l slot o;
          refers = λ a o. by_test (ltb a q)
              (λ y. refers_low a (ltb-true a q y))
              (λ z. beyond q b h (shaped b (rows_r.accepted j l)) low_right a o (omega (arith, ltb-false a q z)));
          linked = λ r k. let u = low_right r k in (u.0, omega (arith, u.1), u.2);
          accepted = rows_r.accepted j l;
        }

  -- ---- all places

  abbrev pub block_of : ℕ → Bytes
  block_of q = cond (ltb q n) (block_l q) (block_r (place_in w (digest_at t q)))

  -- the right's place of a block behind the left's
  pub placed_right : (q : ℕ) → n ≤ q → q < c → (place_in w (digest_at t q) < m) × (digest_at t q ≡ digest_at right (place_in w (digest_at t q)))
  placed_right q h l =
      let u = all.added q h l in
      let i : place_in w (digest_at t q) < m = place_found w (digest_at t q) u.from u.below (sym u.digest) in
      (i, sym (place_has w (digest_at t q) i))

  row_is : (q : ℕ) → q < c → RowIs q (block_of q)
  row_is q h = by_test (ltb q n)
      (λ y. rw y (left_row q (ltb-true q n y)))
      (λ z. let u = placed_right q (omega (arith, ltb-false q n z)) h in rw z (right_row q (place_in w (digest_at t q)) h u.0 u.1))

  pub joined_rows : Rows digest t block_of
  joined_rows =
      record {
        digests = λ q h. (row_is q h).digests;
        sites = λ q h. (row_is q h).site;
        sequences = λ q h. (row_is q h).sequence;
        requests = λ q h. (row_is q h).request;
        refers = λ q a h l. (row_is q h).refers a l;
        linked = λ q h. (row_is q h).linked;
        accepted = λ q h. (row_is q h).accepted;
      }
