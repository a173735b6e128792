-- The table that joining makes, for any two tables in form that checks 23 to 25 let pass: after each place of the right it is in form, has the
-- left's places first and then the right's blocks that are not in the left, in their order, and each block of the right refers where it stands to
-- the places of the blocks that it refers to. Assumes nothing.
use mathlib.Core.Path.{◌≡◌, refl, sym, ap, ap₂, ◌∙◌, subst}
use mathlib.Core.Bool.{Bool, true, false, not, ◌&&◌}
use mathlib.Core.Logic.{◌⊎◌, ◌≢◌, inl, inr}
use Prim.Native.Nat.{ℕ, zero, suc, ◌+◌, ◌≤◌, ◌<◌}
use native.Mathlib.Nat.{eq-or-lt_of_le, le_of_suc-le-suc}
use native.Mathlib.Omega.{arith}
use lib.Dec.{eqb, ltb}
use lib.ListN.{length, drop, length-drop}
use lib.Seq.{length-take-le}
use borrow.Author.Tests.{eqb-true, eqb-false, eq-eqb, lt-ltb, ltb-true, ltb-false}
use Rattle.base.specs.Search.{any_below}
use Rattle.base.specs.Count.{count_below}
use Rattle.base.specs.Bytes.{Bytes}
use Rattle.base.proofs.Tests.{by_test, and_left, and_right, or_cases, same_tests}
use Rattle.base.proofs.Search.{any_true, any_false, any_false_at, any_first, first_passes}
use Rattle.base.proofs.Count.{count_some, count_one, count_single, count_sent, count_grows}
use Rattle.base.proofs.Bytes.{same_equal, equal_same, same_other, other_same}
use Rattle.setup.specs.Setup.{Setup, slot_count}
use Rattle.block.specs.Limits.{reference_size, max_references}
use Rattle.table.specs.View.{max_places, Row, interpreted, View}
use Rattle.table.specs.Layout.{row_start, setup_of, retired_of, count_of, digest_at, site_at, sequence_at, counted_request_at, mark_at, row_at, view_of, with_row, with_mark}
use Rattle.table.specs.Rules.{has_digest, place_of, parent_row, parents, parent_rule}
use Rattle.table.specs.Form.{in_form}
use Rattle.table.specs.Promises.{Grown, Marked}
use Rattle.table.proofs.Views.{RowForm, form_row, rule_formed}
use Rattle.table.proofs.InForm.{table_form, formed_row, formed_parent, one_place, in_formed}
use Rattle.table.proofs.Canonical.{Canonical, row_canonical, mark_canonical}
use Rattle.table.proofs.AddedRow.{grown, grown_formed}
use Rattle.table.proofs.MarkedPlace.{marked, marked_formed}
use Rattle.join.specs.Join.{refers_by, is_extra, carried, join_place, join_below, place_in}
use Rattle.join.specs.Steps.{Joinable}
use Rattle.join.proofs.References.{place_found, place_has, by_from, by_has, Agrees, no_clash}

module _ (left right : Bytes) (both : Joinable left right) where
  f : in_form left ≡ true
  f = both.formed.left_formed

  g : in_form right ≡ true
  g = both.formed.right_formed

  abbrev n : ℕ
  n = count_of left

  abbrev m : ℕ
  m = count_of right

  abbrev w : View
  w = view_of right

  abbrev extra : ℕ → Bool
  extra j = is_extra (view_of left) (view_of right) j

  few : m ≤ max_places
  few = (table_form right g).held.fits

  -- the row of a place but for its mark
  pub record PlaceShows (t : Bytes) (p : ℕ) (u : Bytes) (q : ℕ) : Type 0 where
    pub digest : digest_at t p ≡ digest_at u q
    pub site : site_at t p ≡ site_at u q
    pub sequence : sequence_at t p ≡ sequence_at u q
    pub refers_to : (j : ℕ) → j < max_places → (row_at t p).refers_to j ≡ (row_at u q).refers_to j
    pub request : (slot : ℕ) → slot < slot_count → counted_request_at t p slot ≡ counted_request_at u q slot

  -- the right's block j, where it stands in the table
  pub record Carried (t : Bytes) (p j : ℕ) : Type 0 where
    pub site : site_at t p ≡ site_at right j
    pub sequence : sequence_at t p ≡ sequence_at right j
    pub request : (slot : ℕ) → slot < slot_count → counted_request_at t p slot ≡ counted_request_at right j slot
    pub refers : (q : ℕ) → q < p → (row_at t p).refers_to q ≡ refers_by w j (digest_at t q)
    pub reaches : (i : ℕ) → i < m → (row_at right j).refers_to i ≡ true → (q : ℕ) × (q < p) × (digest_at t q ≡ digest_at right i)
    pub mark : mark_at right j ≡ 1 → mark_at t p ≡ 1

  -- a place behind the left's
  pub record Added (k : ℕ) (t : Bytes) (p : ℕ) : Type 0 where
    pub from : ℕ
    pub below : from < k
    pub is_new : extra from ≡ true
    pub place : p ≡ n + count_below extra from
    pub digest : digest_at t p ≡ digest_at right from
    pub mark : mark_at t p ≡ mark_at right from

  -- where a mark of the left's places comes from
  pub record MarkedBy (k : ℕ) (p : ℕ) : Type 0 where
    pub from : ℕ
    pub below : from < k
    pub digest : digest_at left p ≡ digest_at right from
    pub mark : mark_at right from ≡ 1

  -- after the right's places below k
  pub record TableInvariant (k : ℕ) (t : Bytes) : Type 0 where
    pub formed : in_form t ≡ true
    pub setup : setup_of t ≡ setup_of left
    pub retired : retired_of t ≡ 0
    pub count : count_of t ≡ n + count_below extra k
    pub kept : (p : ℕ) → p < n → PlaceShows t p left p
    pub added : (p : ℕ) → n ≤ p → p < count_of t → Added k t p
    pub placed : (j : ℕ) → j < k → (p : ℕ) × (p < count_of t) × (digest_at t p ≡ digest_at right j)
    pub same : (p j : ℕ) → p < count_of t → j < k → digest_at t p ≡ digest_at right j → Carried t p j
    pub still : (p : ℕ) → p < n → mark_at left p ≡ 1 → mark_at t p ≡ 1
    pub marks : (p : ℕ) → p < n → mark_at t p ≡ 1 → (mark_at left p ≡ 1) ⊎ MarkedBy k p
    pub canonical : Canonical left → Canonical t

  -- ---- the start

  shows_self : (t : Bytes) (p : ℕ) → PlaceShows t p t p
  shows_self t p = record { digest = refl; site = refl; sequence = refl; refers_to = λ j h. refl; request = λ slot h. refl }

  starts : TableInvariant 0 left
  unfolding count_below
  starts =
      record {
        formed = f;
        setup = refl;
        retired = both.left_retired;
        count = omega arith;
        kept = λ p h. shows_self left p;
        added = λ p h l. absurd (omega arith);
        placed = λ j h. absurd (omega arith);
        same = λ p j h l. absurd (omega arith);
        still = λ p h e. e;
        marks = λ p h e. inl e;
        canonical = λ c. c;
      }

  -- ---- one place of the right

  module _ (k : ℕ) (below : k < m) (t : Bytes) (a : TableInvariant k t) where
    abbrev c : ℕ
    c = count_of t

    abbrev d : Bytes
    d = digest_at right k

    row : RowForm (setup_of right) (view_of right) k
    row = formed_row right g k below

    most : count_below extra k ≤ count_below extra m
    most = count_grows extra k m (omega arith)

    held_few : c ≤ max_places
    held_few = (table_form t a.formed).held.fits

    left_within : n ≤ c
    left_within = omega (arith, a.count)

    -- a block that place k refers to has its mark where it stands, where k has one
    ready : mark_at right k ≡ 1 → (q : ℕ) → q < c → refers_by w k (digest_at t q) ≡ true → mark_at t q ≡ 1
    ready e q h y =
        let i = by_from w k (digest_at t q) y in
        let l : i.0 < k = row.lower i.0 (omega (arith, few, i.1)) i.2 in
        (a.same q i.0 h l (sym i.3)).mark (row.closed e i.0 l i.2)

    -- ---- its block is held

    module _ (p : ℕ) (at : p < c) (e : digest_at t p ≡ d) where
      -- in the left
      in_left_lem : p < n
      in_left_lem = by_test (ltb p n) (λ y. ltb-true p n y) (λ z.
          let x = a.added p (omega (arith, ltb-false p n z)) at in
          absurd (row.new x.from x.below (sym x.digest ∙ e)))

      old : PlaceShows t p left p
      old = a.kept p in_left_lem

      digest_left : digest_at left p ≡ d
      digest_left = sym old.digest ∙ e

      agree : Agrees (view_of left) p w k
      agree = no_clash (view_of left) w both.apart p k in_left_lem below digest_left

      not_extra : extra k ≡ false
      not_extra = ap not (any_true (has_digest (view_of left) d) n p in_left_lem (equal_same _ _ digest_left))

      count_kept : c ≡ n + count_below extra (suc k)
      unfolding count_below
      count_kept = a.count ∙ rw not_extra (omega arith)

      low : (q : ℕ) → q < p → digest_at t q ≡ digest_at left q
      low q h = (a.kept q (omega (arith, in_left_lem))).digest

      left_few : n ≤ max_places
      left_few = (table_form left f).held.fits

      refers_is : (q : ℕ) → q < p → (row_at t p).refers_to q ≡ refers_by w k (digest_at t q)
      refers_is q h =
          old.refers_to q (omega (arith, in_left_lem, left_few)) ∙ same_tests ((row_at left p).refers_to q) (refers_by w k (digest_at t q))
          (λ y. rw (low q h) (agree.to q (omega (arith, in_left_lem)) y))
          (λ y. let i = by_from w k (digest_at t q) y in
          let u = by_from (view_of left) p (digest_at right i.0) (agree.back i.0 i.1 i.2) in
          let s : u.0 ≡ q = one_place left f u.0 q u.1 (omega (arith, in_left_lem)) (u.3 ∙ i.3 ∙ low q h) in
          ap (row_at left p).refers_to (sym s) ∙ u.2)

      reaches : (i : ℕ) → i < m → (row_at right k).refers_to i ≡ true → (q : ℕ) × (q < p) × (digest_at t q ≡ digest_at right i)
      reaches i h y =
          let u = by_from (view_of left) p (digest_at right i) (agree.back i h y) in
          let l : u.0 < p = (formed_row left f p in_left_lem).lower u.0 (omega (arith, u.1, left_few)) u.2 in
          (u.0, l, low u.0 l ∙ u.3)

      -- what a table has that differs from this one by that mark at most
      record Touched (t' : Bytes) : Type 0 where
        formed : in_form t' ≡ true
        setup : setup_of t' ≡ setup_of t
        retired : retired_of t' ≡ retired_of t
        count : count_of t' ≡ count_of t
        rows : (q : ℕ) → PlaceShows t' q t q
        up : (q : ℕ) → mark_at t q ≡ 1 → mark_at t' q ≡ 1
        down : (q : ℕ) → mark_at t' q ≡ 1 → (mark_at t q ≡ 1) ⊎ ((q ≡ p) × (mark_at right k ≡ 1))
        others : (q : ℕ) → n ≤ q → mark_at t' q ≡ mark_at t q
        sets : mark_at right k ≡ 1 → mark_at t' p ≡ 1
        canonical : Canonical t → Canonical t'

      module _ (t' : Bytes) (x : Touched t') where
        carry : (q j : ℕ) → q < c → Carried t q j → Carried t' q j
        carry q j l y =
            record {
              site = (x.rows q).site ∙ y.site;
              sequence = (x.rows q).sequence ∙ y.sequence;
              request = λ slot h. (x.rows q).request slot h ∙ y.request slot h;
              refers = λ r h. (x.rows q).refers_to r (omega (arith, held_few)) ∙ y.refers r h ∙ ap (refers_by w j) (sym (x.rows r).digest);
              reaches = λ i h z. let u = y.reaches i h z in (u.0, u.1, (x.rows u.0).digest ∙ u.2);
              mark = λ z. x.up q (y.mark z);
            }

        carry_here : Carried t' p k
        carry_here =
            record {
              site = (x.rows p).site ∙ old.site ∙ agree.site;
              sequence = (x.rows p).sequence ∙ old.sequence ∙ agree.sequence;
              request = λ slot h. (x.rows p).request slot h ∙ old.request slot h ∙ agree.request slot h;
              refers = λ r h. (x.rows p).refers_to r (omega (arith, at, held_few)) ∙ refers_is r h ∙ ap (refers_by w k) (sym (x.rows r).digest);
              reaches = λ i h z. let u = reaches i h z in (u.0, u.1, (x.rows u.0).digest ∙ u.2);
              mark = x.sets;
            }

        touched_next : TableInvariant (suc k) t'
        touched_next =
            record {
              formed = x.formed;
              setup = x.setup ∙ a.setup;
              retired = x.retired ∙ a.retired;
              count = x.count ∙ count_kept;
              kept = λ q h. let u = x.rows q in let v = a.kept q h in record {
                digest = u.digest ∙ v.digest;
                site = u.site ∙ v.site;
                sequence = u.sequence ∙ v.sequence;
                refers_to = λ j l. u.refers_to j l ∙ v.refers_to j l;
                request = λ slot l. u.request slot l ∙ v.request slot l;
              };
              added = λ q h l. let v = a.added q h (omega (arith, x.count)) in record {
                from = v.from;
                below = omega (arith, v.below);
                is_new = v.is_new;
                place = v.place;
                digest = (x.rows q).digest ∙ v.digest;
                mark = x.others q h ∙ v.mark;
              };
              placed = λ j h. elim (eq-or-lt_of_le (le_of_suc-le-suc h)) [
                | inl q ↦ (p, omega (arith, at, x.count), (x.rows p).digest ∙ e ∙ ap (digest_at right) (sym q))
                | inr l ↦ let u = a.placed j l in (u.0, omega (arith, u.1, x.count), (x.rows u.0).digest ∙ u.2)
              ];
              same = λ q j h l y. let z : q < c = omega (arith, x.count) in
                  let o : digest_at t q ≡ digest_at right j = sym (x.rows q).digest ∙ y in
                  elim (eq-or-lt_of_le (le_of_suc-le-suc l)) [
                    | inl s ↦ let r : q ≡ p = one_place t a.formed q p z at (o ∙ ap (digest_at right) s ∙ sym e) in
                        subst (λ (i : ℕ). Carried t' q i) (sym s) (subst (λ (i : ℕ). Carried t' i k) (sym r) carry_here)
                    | inr b ↦ carry q j z (a.same q j z b o)
                  ];
              still = λ q h y. x.up q (a.still q h y);
              marks = λ q h y. elim (x.down q y) [
                | inl z ↦ elim (a.marks q h z) [
                  | inl o ↦ inl o
                  | inr o ↦ inr (record { from = o.from; below = omega (arith, o.below); digest = o.digest; mark = o.mark })
                ]
                | inr z ↦ inr (record { from = k; below = omega arith; digest = ap (digest_at left) z.0 ∙ digest_left; mark = z.1 })
              ];
              canonical = λ o. x.canonical (a.canonical o);
            }

      -- where the right has not interpreted it, nothing changes
      untouched : interpreted (row_at right k) ≡ false → Touched t
      untouched z =
          record {
            formed = a.formed;
            setup = refl;
            retired = refl;
            count = refl;
            rows = λ q. shows_self t q;
            up = λ q y. y;
            down = λ q y. inl y;
            others = λ q h. refl;
            sets = λ y. absurd (eqb-false (mark_at right k) 1 z y);
            canonical = λ o. o;
          }

      -- where it has, the place is marked
      module _ (y : mark_at right k ≡ 1) where
        is : Marked t (with_mark t p) p
        is = marked t p (table_form t a.formed).size (omega (arith, at, held_few))

        mark_there : mark_at (with_mark t p) p ≡ 1
        mark_there = (is.rows p).mark ∙ rw (eq-eqb p p refl)

        touched : Touched (with_mark t p)
        touched =
            record {
              formed = in_formed (with_mark t p) (marked_formed t (with_mark t p) p (table_form t a.formed) is at
                  (λ q h z. ready y q (omega (arith, at)) (sym (refers_is q h) ∙ z)));
              setup = is.setup;
              retired = is.retired;
              count = is.count;
              rows = λ q. let u = is.rows q in record { digest = u.digest; site = u.site; sequence = u.sequence; refers_to = u.refers_to; request = u.request };
              up = λ q z. (is.rows q).mark ∙ by_test (eqb q p) (λ o. rw o) (λ o. rw o z);
              down = λ q z. by_test (eqb q p)
                  (λ o. inr (eqb-true q p o, y))
                  (λ o. inl (sym ((is.rows q).mark ∙ rw o) ∙ z));
              others = λ q h. (is.rows q).mark ∙ by_test (eqb q p) (λ o. absurd (omega (arith, in_left_lem, eqb-true q p o))) (λ o. rw o);
              sets = λ z. mark_there;
              canonical = mark_canonical t p (table_form t a.formed).size at held_few;
            }

    -- ---- its block is not held

    module _ (none : any_below (has_digest (view_of t) d) c ≡ false) where
      not_held : (q : ℕ) → q < c → digest_at t q ≢ d
      not_held q h = same_other (digest_at t q) d (any_false_at (has_digest (view_of t) d) c none q h)

      is_extra_lem : extra k ≡ true
      is_extra_lem = ap not (any_false (has_digest (view_of left) d) n (λ i h. other_same (digest_at left i) d (λ o. not_held i (omega (arith, left_within)) ((a.kept i h).digest ∙ o))))

      pub room : c < max_places
      unfolding count_below
      room =
          let o : count_below extra (suc k) ≤ count_below extra m = count_grows extra (suc k) m below in
          let z : count_below extra (suc k) ≡ 1 + count_below extra k = rw is_extra_lem in
          omega (arith, a.count, both.fits)

      digest_whole : length d ≡ reference_size
      digest_whole = length-take-le reference_size (drop (row_start k) right) (omega (arith, length-drop (row_start k) right, (table_form right g).size, few))

      abbrev r : Row
      r = carried (view_of t) w k

      abbrev t' : Bytes
      t' = with_row t r

      gr : Grown t t' r
      gr = grown t r (table_form t a.formed).size room digest_whole

      refers_new : (q : ℕ) → q < c → (row_at t' c).refers_to q ≡ refers_by w k (digest_at t q)
      refers_new q h = gr.here.refers_to q (omega (arith, room)) ∙ rw (lt-ltb q c h)

      lower_new : (q : ℕ) → q < max_places → (row_at t' c).refers_to q ≡ true → q < c
      lower_new q h y = ltb-true q c (and_left (ltb q c) (refers_by w k (digest_at t q)) (sym (gr.here.refers_to q h) ∙ y))

      refers_at : (q : ℕ) → q < max_places → (row_at t' c).refers_to q ≡ true → refers_by w k (digest_at t q) ≡ true
      refers_at q h y = and_right (ltb q c) (refers_by w k (digest_at t q)) (sym (gr.here.refers_to q h) ∙ y)

      -- the right's place of a block that it refers to
      abbrev source : ℕ → ℕ
      source q = place_in w (digest_at t q)

      source_is : (q : ℕ) → refers_by w k (digest_at t q) ≡ true → (source q < m) × (digest_at right (source q) ≡ digest_at t q) × ((row_at right k).refers_to (source q) ≡ true)
      source_is q y =
          let i = by_from w k (digest_at t q) y in
          let o : source q < m = place_found w (digest_at t q) i.0 i.1 i.3 in
          let u : digest_at right (source q) ≡ digest_at t q = place_has w (digest_at t q) o in
          (o, u, ap (row_at right k).refers_to (one_place right g (source q) i.0 o i.1 (u ∙ sym i.3)) ∙ i.2)

      few_new : count_below (row_at t' c).refers_to max_places ≤ max_references
      few_new =
          let o : count_below (row_at t' c).refers_to max_places ≤ count_below (row_at right k).refers_to max_places =
          count_sent (row_at t' c).refers_to (row_at right k).refers_to source max_places max_places
          (λ q h y. let u = source_is q (refers_at q h y) in (omega (arith, u.0, few), u.2))
          (λ x q l h y z e. let u = source_is x (refers_at x (omega arith) y) in let v = source_is q (refers_at q h z) in
          let s : x ≡ q = one_place t a.formed x q (lower_new x (omega arith) y) (lower_new q h z) (sym u.1 ∙ ap (digest_at right) e ∙ v.1) in
          omega arith) in
          omega (arith, row.few)

      parent_same : (q i : ℕ) → q < c → Carried t q i → parent_row (row_at t' c) (row_at t' q) ≡ parent_row (row_at right k) (row_at right i)
      parent_same q i h x =
          ap₂ (λ (y z : ℕ). eqb y (site_at t' c) && eqb (z + 1) (sequence_at t' c)) (sym (gr.below q h).site ∙ x.site) (sym (gr.below q h).sequence ∙ x.sequence)
          ∙ ap₂ (λ (y z : ℕ). eqb (site_at right i) y && eqb (sequence_at right i + 1) z) gr.here.site gr.here.sequence

      abbrev one_of : ℕ → Bool
      one_of j = (row_at t' c).refers_to j && parent_row (row_at t' c) (row_at t' j)

      abbrev one_in : ℕ → Bool
      one_in j = (row_at right k).refers_to j && parent_row (row_at right k) (row_at right j)

      one_parent : count_below one_in k ≡ 1 → count_below one_of c ≡ 1
      one_parent o =
          let x = count_some one_in k (omega arith) in
          let i : ℕ = x.0 in
          let q = a.placed i x.1 in
          let y : (row_at right k).refers_to i ≡ true = and_left ((row_at right k).refers_to i) (parent_row (row_at right k) (row_at right i)) x.2 in
          let z : parent_row (row_at right k) (row_at right i) ≡ true = and_right ((row_at right k).refers_to i) (parent_row (row_at right k) (row_at right i)) x.2 in
          let u : (row_at t' c).refers_to q.0 ≡ true = refers_new q.0 q.1 ∙ by_has w k (digest_at t q.0) i (omega (arith, x.1)) y (sym q.2) in
          let v : parent_row (row_at t' c) (row_at t' q.0) ≡ true = parent_same q.0 i q.1 (a.same q.0 i q.1 x.1 q.2) ∙ z in
          count_single one_of c q.0 q.1 (rw (u, v)) (λ b h l. only i x.1 x.2 q.0 q.1 q.2 b h l)
        where
          only : (i : ℕ) → i < k → one_in i ≡ true → (q : ℕ) → q < c → digest_at t q ≡ digest_at right i → (b : ℕ) → b < c → one_of b ≡ true → b ≡ q
          only i li oi q lq dq b lb ob =
              let y : (row_at t' c).refers_to b ≡ true = and_left ((row_at t' c).refers_to b) (parent_row (row_at t' c) (row_at t' b)) ob in
              let z : parent_row (row_at t' c) (row_at t' b) ≡ true = and_right ((row_at t' c).refers_to b) (parent_row (row_at t' c) (row_at t' b)) ob in
              let j = by_from w k (digest_at t b) (refers_at b (omega (arith, room)) y) in
              let lj : j.0 < k = row.lower j.0 (omega (arith, j.1, few)) j.2 in
              let u : parent_row (row_at right k) (row_at right j.0) ≡ true = sym (parent_same b j.0 lb (a.same b j.0 lb lj (sym j.3))) ∙ z in
              let s : j.0 ≡ i = count_one one_in k o j.0 i lj li (rw (j.2, u)) oi in
              one_place t a.formed b q lb lq (sym j.3 ∙ ap (digest_at right) s ∙ sym dq)

      parent_new : parent_rule (view_of t') c (row_at t' c) ≡ true
      unfolding parent_rule parents
      parent_new = elim (or_cases (eqb (sequence_at right k) 0) _ (formed_parent right g both.right_retired k below)) [
        | inl z ↦ let o : eqb (sequence_at t' c) 0 ≡ true = ap (λ (y : ℕ). eqb y 0) gr.here.sequence ∙ z in rw o
        | inr z ↦ by_test (eqb (sequence_at t' c) 0) (λ y. rw y) (λ y. rw (y, one_parent (eqb-true _ 1 z)))
      ]

      new_form : RowForm (setup_of t) (view_of t') c
      new_form =
          record {
            site = omega (arith, gr.here.site, row.site, ap (λ (z : Setup). z.sites) (a.setup ∙ both.setup));
            mark = omega (arith, gr.here.mark, row.mark);
            lower = lower_new;
            few = few_new;
            new = λ j h e. not_held j h ((gr.below j h).digest ∙ e ∙ gr.here.digest);
            closed = λ e j h y. sym (gr.below j h).mark ∙ ready (sym gr.here.mark ∙ e) j h (refers_at j (omega (arith, room)) y);
            parent = rule_formed (view_of t') c (row_at t' c) parent_new;
          }

      carry_on : (q j : ℕ) → q < c → Carried t q j → Carried t' q j
      carry_on q j l y =
          let u = gr.below q l in
          record {
            site = sym u.site ∙ y.site;
            sequence = sym u.sequence ∙ y.sequence;
            request = λ slot h. sym (u.request slot h) ∙ y.request slot h;
            refers = λ b h. sym (u.refers_to b (omega (arith, held_few))) ∙ y.refers b h ∙ ap (refers_by w j) (gr.below b (omega arith)).digest;
            reaches = λ i h z. let o = y.reaches i h z in (o.0, o.1, sym (gr.below o.0 (omega (arith, o.1))).digest ∙ o.2);
            mark = λ z. sym u.mark ∙ y.mark z;
          }

      carry_new : Carried t' c k
      carry_new =
          record {
            site = gr.here.site;
            sequence = gr.here.sequence;
            request = gr.here.request;
            refers = λ b h. refers_new b h ∙ ap (refers_by w k) (gr.below b h).digest;
            reaches = λ i h z. let o = a.placed i (row.lower i (omega (arith, few)) z) in (o.0, o.1, sym (gr.below o.0 o.1).digest ∙ o.2);
            mark = λ z. gr.here.mark ∙ z;
          }

      count_new : count_of t' ≡ n + count_below extra (suc k)
      unfolding count_below
      count_new = gr.count ∙ rw is_extra_lem (omega (arith, a.count))

      grown_next : TableInvariant (suc k) t'
      grown_next =
          record {
            formed = in_formed t' (grown_formed t t' r (table_form t a.formed) room gr (form_row (setup_of t) (view_of t') c new_form));
            setup = gr.setup ∙ a.setup;
            retired = gr.retired ∙ a.retired;
            count = count_new;
            kept = λ q h. let u = gr.below q (omega (arith, left_within)) in let v = a.kept q h in record {
              digest = sym u.digest ∙ v.digest;
              site = sym u.site ∙ v.site;
              sequence = sym u.sequence ∙ v.sequence;
              refers_to = λ j l. sym (u.refers_to j l) ∙ v.refers_to j l;
              request = λ slot l. sym (u.request slot l) ∙ v.request slot l;
            };
            added = λ q h l. elim (last q l) [
              | inl s ↦ record {
                from = k;
                below = omega arith;
                is_new = is_extra_lem;
                place = s ∙ a.count;
                digest = ap (digest_at t') s ∙ gr.here.digest;
                mark = ap (mark_at t') s ∙ gr.here.mark;
              }
              | inr b ↦ let v = a.added q h b in record {
                from = v.from;
                below = omega (arith, v.below);
                is_new = v.is_new;
                place = v.place;
                digest = sym (gr.below q b).digest ∙ v.digest;
                mark = sym (gr.below q b).mark ∙ v.mark;
              }
            ];
            placed = λ j h. elim (eq-or-lt_of_le (le_of_suc-le-suc h)) [
              | inl s ↦ (c, omega (arith, gr.count), gr.here.digest ∙ ap (digest_at right) (sym s))
              | inr l ↦ let u = a.placed j l in (u.0, omega (arith, u.1, gr.count), sym (gr.below u.0 u.1).digest ∙ u.2)
            ];
            same = λ q j h l y. there q j (last q h) (eq-or-lt_of_le (le_of_suc-le-suc l)) y;
            still = λ q h y. sym (gr.below q (omega (arith, left_within))).mark ∙ a.still q h y;
            marks = λ q h y. elim (a.marks q h ((gr.below q (omega (arith, left_within))).mark ∙ y)) [
              | inl o ↦ inl o
              | inr o ↦ inr (record { from = o.from; below = omega (arith, o.below); digest = o.digest; mark = o.mark })
            ];
            canonical = λ o. row_canonical t r (table_form t a.formed).size room digest_whole (a.canonical o);
          }
        where
          last : (q : ℕ) → q < count_of t' → (q ≡ c) ⊎ (q < c)
          last q h = let le : q ≤ c = omega (arith, gr.count) in eq-or-lt_of_le le

          there : (q j : ℕ) → (q ≡ c) ⊎ (q < c) → (j ≡ k) ⊎ (j < k) → digest_at t' q ≡ digest_at right j → Carried t' q j
          there q j (inl s) (inl z) y = subst (λ (i : ℕ). Carried t' q i) (sym z) (subst (λ (i : ℕ). Carried t' i k) (sym s) carry_new)
          there q j (inl s) (inr b) y = absurd (row.new j b (sym y ∙ ap (digest_at t') s ∙ gr.here.digest))
          there q j (inr b) (inl z) y = absurd (not_held q b ((gr.below q b).digest ∙ y ∙ ap (digest_at right) z))
          there q j (inr b) (inr e) y = carry_on q j b (a.same q j b e ((gr.below q b).digest ∙ y))

    next : TableInvariant (suc k) (join_place t w k)
    unfolding join_place
    next = by_test (any_below (has_digest (view_of t) d) c)
        (λ y. let p : ℕ = place_of (view_of t) c d in
        let l : p < c = any_first (has_digest (view_of t) d) c y in
        let e : digest_at t p ≡ d = same_equal _ _ (first_passes (has_digest (view_of t) d) c l) in
        by_test (interpreted (row_at right k))
        (λ z. rw (y, z) (touched_next p l e (with_mark t p) (touched p l e (eqb-true (mark_at right k) 1 z))))
        (λ z. rw (y, z) (touched_next p l e t (untouched p l e z))))
        (λ z. rw z (grown_next z))

  -- ---- all places of the right

  pub joining : (k : ℕ) → k ≤ m → TableInvariant k (join_below left w k)
  unfolding join_below
  joining zero h = starts
  joining (suc k) h = next k h (join_below left w k) (joining k (omega arith))
