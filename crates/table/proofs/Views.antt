-- What the rules read of a view: only its rows, and of those only the places below the one looked at. Then what a row in form
-- and a view in form have, and that one row more in form keeps a view in form. Assumes nothing.
use mathlib.Core.Path.{◌≡◌, refl, sym, ap, ap₂, ◌∙◌}
use mathlib.Core.Bool.{Bool, true, false, not, ◌&&◌, ◌||◌}
use mathlib.Core.Logic.{inl, inr}
use Prim.Native.Nat.{ℕ, suc, ◌≤◌, ◌<◌}
use native.Mathlib.Nat.{eq-or-lt_of_le, le_of_suc-le-suc}
use native.Mathlib.Omega.{arith}
use lib.Dec.{eqb, leb, ltb}
use borrow.Author.Tests.{eq-eqb, eqb-true, lt-ltb, ltb-true, le-leb, leb-true, leb-false, not-true, not-false}
use Rattle.base.specs.Bytes.{Bytes, same_bytes}
use Rattle.base.specs.Search.{any_below, all_below}
use Rattle.base.specs.Count.{count_below}
use Rattle.base.proofs.Tests.{by_test, true_not_false, not_true_false, and_left, and_right, and_not_right, or_false}
use Rattle.base.proofs.Search.{first_same_lem, any_same, all_same, any_false, any_false_at, all_true, all_true_at}
use Rattle.base.proofs.Count.{count_same}
use Rattle.base.proofs.Bytes.{other_same, same_other}
use Rattle.setup.specs.Setup.{Setup, lawful}
use Rattle.block.specs.Limits.{max_references}
use Rattle.table.specs.View.{max_places, Row, interpreted, View, SameRow, SameBelow}
use Rattle.table.specs.Rules.{has_digest, place_of, parent_row, parents, parent_rule, parent_in_form, refers_uninterpreted, row_in_form, held_in_form}

-- ---- rows and views that show the same

pub row_refl : (r : Row) → SameRow r r
row_refl r = record { digest = refl; site = refl; sequence = refl; refers_to = λ j h. refl; request = λ slot h. refl; mark = refl }

pub row_sym : (r q : Row) → SameRow r q → SameRow q r
row_sym r q e =
    record {
      digest = sym e.digest;
      site = sym e.site;
      sequence = sym e.sequence;
      refers_to = λ j h. sym (e.refers_to j h);
      request = λ slot h. sym (e.request slot h);
      mark = sym e.mark;
    }

pub row_trans : (r q p : Row) → SameRow r q → SameRow q p → SameRow r p
row_trans r q p e f =
    record {
      digest = e.digest ∙ f.digest;
      site = e.site ∙ f.site;
      sequence = e.sequence ∙ f.sequence;
      refers_to = λ j h. e.refers_to j h ∙ f.refers_to j h;
      request = λ slot h. e.request slot h ∙ f.request slot h;
      mark = e.mark ∙ f.mark;
    }

pub same_refl : (v : View) (k : ℕ) → SameBelow v v k
same_refl v k i h = row_refl (v.row i)

pub same_sym : (v w : View) (k : ℕ) → SameBelow v w k → SameBelow w v k
same_sym v w k e i h = row_sym (v.row i) (w.row i) (e i h)

pub same_lower : (v w : View) (k i : ℕ) → i ≤ k → SameBelow v w k → SameBelow v w i
same_lower v w k i l e j h = e j (omega arith)

-- ---- the rules on two such views

pub place_same : (v w : View) (k : ℕ) (d : Bytes) → SameBelow v w k → place_of v k d ≡ place_of w k d
place_same v w k d e = first_same_lem (has_digest v d) (has_digest w d) k (λ j h. ap (λ (x : Bytes). same_bytes x d) (e j h).digest)

-- the parents that a row has are counted by its site, its sequence number and which places below k it refers to
parents_read : (v w : View) (k : ℕ) (r q : Row) → SameBelow v w k → r.site ≡ q.site → r.sequence ≡ q.sequence
    → ((j : ℕ) → j < k → r.refers_to j ≡ q.refers_to j) → parents v k r ≡ parents w k q
unfolding parents
parents_read v w k r q e s n f =
    count_same (λ j. r.refers_to j && parent_row r (v.row j)) (λ j. q.refers_to j && parent_row q (w.row j)) k
    (λ j h. ap₂ ◌&&◌ (f j h) (rw (s, n, (e j h).site, (e j h).sequence)))

-- the parent rule reads no more of a row
pub rule_reads : (v w : View) (k : ℕ) (r q : Row) → SameBelow v w k → r.site ≡ q.site → r.sequence ≡ q.sequence
    → ((j : ℕ) → j < k → r.refers_to j ≡ q.refers_to j) → parent_rule v k r ≡ parent_rule w k q
unfolding parent_rule
rule_reads v w k r q e s n f = ap₂ (λ (x y : ℕ). eqb x 0 || eqb y 1) n (parents_read v w k r q e s n f)

-- form's parent rule reads the row's mark too, and whether something has been retired
pub form_rule_reads : (v w : View) (k : ℕ) (r q : Row) → v.retired ≡ w.retired → SameBelow v w k → r.site ≡ q.site → r.sequence ≡ q.sequence
    → r.mark ≡ q.mark → ((j : ℕ) → j < k → r.refers_to j ≡ q.refers_to j) → parent_in_form v k r ≡ parent_in_form w k q
unfolding parent_in_form
form_rule_reads v w k r q g e s n m f =
    ap₂ ◌||◌ (rule_reads v w k r q e s n f)
    (ap₂ ◌&&◌ (ap₂ (λ (x y : ℕ). eqb x 1 && eqb y 1) g m) (ap (λ (x : ℕ). eqb x 0) (parents_read v w k r q e s n f)))

pub rule_same : (v w : View) (k : ℕ) (r q : Row) → SameBelow v w k → k ≤ max_places → SameRow r q → parent_rule v k r ≡ parent_rule w k q
rule_same v w k r q e l f = rule_reads v w k r q e f.site f.sequence (λ j h. f.refers_to j (omega arith))

-- a row that has its parent is in form by it
pub rule_formed : (v : View) (k : ℕ) (r : Row) → parent_rule v k r ≡ true → parent_in_form v k r ≡ true
unfolding parent_in_form
rule_formed v k r e = rw e

-- where nothing has been retired, form asks the parent rule itself
pub form_rule : (v : View) (k : ℕ) (r : Row) → v.retired ≡ 0 → parent_in_form v k r ≡ parent_rule v k r
unfolding parent_in_form
form_rule v k r e = ap (λ (x : ℕ). parent_rule v k r || ((eqb x 1 && interpreted r) && eqb (parents v k r) 0)) e ∙ or_false (parent_rule v k r)

pub row_same : (s : Setup) (v w : View) (i : ℕ) → v.retired ≡ w.retired → SameBelow v w (suc i) → i < max_places → row_in_form s v i ≡ row_in_form s w i
unfolding row_in_form
row_same s v w i g e l =
    let here : SameRow (v.row i) (w.row i) = e i (omega arith) in
    let below : SameBelow v w i = same_lower v w (suc i) i (omega arith) e in
    ap₂ ◌&&◌ (ap (λ (x : ℕ). ltb x s.sites) here.site)
    (ap₂ ◌&&◌ (ap (λ (x : ℕ). leb x 1) here.mark)
    (ap₂ ◌&&◌ (ap not (any_same (λ j. leb i j && (v.row i).refers_to j) (λ j. leb i j && (w.row i).refers_to j) max_places (λ j h. ap (λ (x : Bool). leb i j && x) (here.refers_to j h))))
    (ap₂ ◌&&◌ (ap (λ (n : ℕ). leb n max_references) (count_same (v.row i).refers_to (w.row i).refers_to max_places here.refers_to))
    (ap₂ ◌&&◌ (ap not (any_same (has_digest v (v.row i).digest) (has_digest w (w.row i).digest) i (λ j h. ap₂ same_bytes (below j h).digest here.digest)))
    (ap₂ ◌&&◌ (ap₂ (λ (m : ℕ) (x : Bool). not (eqb m 1 && x)) here.mark
    (any_same (refers_uninterpreted v (v.row i)) (refers_uninterpreted w (w.row i)) i
    (λ j h. ap₂ (λ (x : Bool) (m : ℕ). x && not (eqb m 1)) (here.refers_to j (omega arith)) (below j h).mark)))
    (form_rule_reads v w i (v.row i) (w.row i) g below here.site here.sequence here.mark (λ j h. here.refers_to j (omega arith))))))))

pub held_same : (s : Setup) (v w : View) → v.retired ≡ w.retired → v.held ≡ w.held → SameBelow v w v.held → v.held ≤ max_places → held_in_form s v ≡ held_in_form s w
unfolding held_in_form
held_same s v w g n e l =
    ap₂ (λ (r : ℕ) (y : Bool). lawful s && (leb r 1 && y)) g
    (ap₂ (λ (k : ℕ) (x : Bool). leb k max_places && x) n
    (all_same (row_in_form s v) (row_in_form s w) v.held (λ i h. row_same s v w i g (same_lower v w v.held (suc i) h e) (omega arith)) ∙ ap (all_below (row_in_form s w)) n))

-- ---- what a row in form has

pub record RowForm (s : Setup) (v : View) (i : ℕ) : Type 0 where
  pub site : (v.row i).site < s.sites
  pub mark : (v.row i).mark ≤ 1
  -- references only to lower places, and few
  pub lower : (j : ℕ) → j < max_places → (v.row i).refers_to j ≡ true → j < i
  pub few : count_below (v.row i).refers_to max_places ≤ max_references
  -- no lower place has its digest
  pub new : (j : ℕ) → j < i → (v.row j).digest ≡ (v.row i).digest → ⊥
  -- where it is interpreted, so are its references
  pub closed : (v.row i).mark ≡ 1 → (j : ℕ) → j < i → (v.row i).refers_to j ≡ true → (v.row j).mark ≡ 1
  pub parent : parent_in_form v i (v.row i) ≡ true

pub row_form : (s : Setup) (v : View) (i : ℕ) → row_in_form s v i ≡ true → RowForm s v i
unfolding row_in_form
row_form s v i e =
    record {
      site = ltb-true (v.row i).site s.sites (search and_left);
      mark = leb-true (v.row i).mark 1 (search (and_left, and_right));
      lower = λ j h y. lower j y (any_false_at (λ j. leb i j && (v.row i).refers_to j) max_places (not-true _ (search (and_left, and_right))) j h);
      few = leb-true (count_below (v.row i).refers_to max_places) max_references (search (and_left, and_right));
      new = λ j h. same_other (v.row j).digest (v.row i).digest (any_false_at (has_digest v (v.row i).digest) i (not-true _ (search (and_left, and_right))) j h);
      closed = λ m j h y. closed j y (any_false_at (refers_uninterpreted v (v.row i)) i (none m (not-true _ (search (and_left, and_right)))) j h);
      parent = search (and_left, and_right);
    }
  where
    lower : (j : ℕ) → (v.row i).refers_to j ≡ true → (leb i j && (v.row i).refers_to j) ≡ false → j < i
    lower j y n = by_test (leb i j) (λ l. true_not_false y (and_not_right (leb i j) ((v.row i).refers_to j) n l)) (λ l. leb-false i j l)

    none : (v.row i).mark ≡ 1 → (interpreted (v.row i) && any_below (refers_uninterpreted v (v.row i)) i) ≡ false → any_below (refers_uninterpreted v (v.row i)) i ≡ false
    none m n = and_not_right (interpreted (v.row i)) (any_below (refers_uninterpreted v (v.row i)) i) n (eq-eqb (v.row i).mark 1 m)

    closed : (j : ℕ) → (v.row i).refers_to j ≡ true → refers_uninterpreted v (v.row i) j ≡ false → (v.row j).mark ≡ 1
    closed j y n = eqb-true (v.row j).mark 1 (not-false _ (and_not_right ((v.row i).refers_to j) (not (interpreted (v.row j))) n y))

pub form_row : (s : Setup) (v : View) (i : ℕ) → RowForm s v i → row_in_form s v i ≡ true
unfolding row_in_form
form_row s v i f =
    rw (
      lt-ltb (v.row i).site s.sites f.site,
      le-leb (v.row i).mark 1 f.mark,
      any_false (λ j. leb i j && (v.row i).refers_to j) max_places lower,
      le-leb (count_below (v.row i).refers_to max_places) max_references f.few,
      any_false (has_digest v (v.row i).digest) i (λ j h. other_same (v.row j).digest (v.row i).digest (f.new j h)),
      closed,
      f.parent,
    )
  where
    lower : (j : ℕ) → j < max_places → (leb i j && (v.row i).refers_to j) ≡ false
    lower j h = not_true_false _ (λ e.
        let low : j < i = f.lower j h (and_right (leb i j) ((v.row i).refers_to j) e) in
        absurd (omega (arith, leb-true i j (and_left (leb i j) ((v.row i).refers_to j) e))))

    closed : (interpreted (v.row i) && any_below (refers_uninterpreted v (v.row i)) i) ≡ false
    closed = by_test (interpreted (v.row i)) (λ y. rw (y, any_false (refers_uninterpreted v (v.row i)) i (none (eqb-true (v.row i).mark 1 y)))) (λ n. rw n)
      where
        none : (v.row i).mark ≡ 1 → (j : ℕ) → j < i → refers_uninterpreted v (v.row i) j ≡ false
        none m j h = by_test ((v.row i).refers_to j) (λ y. rw (y, f.closed m j h y)) (λ n. rw n)

-- ---- what a view in form has

pub record ViewInForm (s : Setup) (v : View) : Type 0 where
  pub lawful : lawful s ≡ true
  pub retired : v.retired ≤ 1
  pub fits : v.held ≤ max_places
  pub rows : (i : ℕ) → i < v.held → row_in_form s v i ≡ true

pub held_of : (s : Setup) (v : View) → held_in_form s v ≡ true → ViewInForm s v
unfolding held_in_form
held_of s v e =
    record {
      lawful = search and_left;
      retired = leb-true v.retired 1 (search (and_left, and_right));
      fits = leb-true v.held max_places (search (and_left, and_right));
      rows = all_true_at (row_in_form s v) v.held (search (and_right, and_left));
    }

pub held_in : (s : Setup) (v : View) → ViewInForm s v → held_in_form s v ≡ true
unfolding held_in_form
held_in s v h = rw (h.lawful, le-leb v.retired 1 h.retired, le-leb v.held max_places h.fits, all_true (row_in_form s v) v.held h.rows)

-- one row more
pub form_grows : (s : Setup) (v w : View) → ViewInForm s v → v.retired ≡ w.retired → w.held ≡ suc v.held → v.held < max_places → SameBelow v w v.held → row_in_form s w v.held ≡ true → ViewInForm s w
form_grows s v w h g n l e r =
    record {
      lawful = h.lawful;
      retired = omega (arith, h.retired);
      fits = omega arith;
      rows = λ i k. row i (omega arith);
    }
  where
    row : (i : ℕ) → i < suc v.held → row_in_form s w i ≡ true
    row i k = elim (eq-or-lt_of_le (le_of_suc-le-suc k)) [
      | inl q ↦ ap (row_in_form s w) q ∙ r
      | inr b ↦ sym (row_same s v w i g (same_lower v w v.held (suc i) b e) (omega arith)) ∙ h.rows i b
    ]
