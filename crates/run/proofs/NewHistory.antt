-- The history of a block that a table admits: directly below it stand the histories of the blocks at the places that hold its references.
-- Assumes nothing.
use mathlib.Core.Path.{◌≡◌, refl, sym, ap, ◌∙◌}
use mathlib.Core.Bool.{Bool, true, false, ◌&&◌}
use mathlib.Core.Logic.{◌⊎◌, inl, inr}
use mathlib.Core.List.Memᴰ
use mathlib.Core.List.{List, [], ◌∷◌, ◌++◌, map, Memᴰ}
use Prim.Native.Nat.{ℕ, ◌<◌}
use native.Mathlib.Omega.{arith}
use lib.Dec.{eqb, ltb}
use borrow.Author.Tests.{eqb-true, lt-ltb}
use Rattle.base.specs.Search.{any_below}
use Rattle.base.specs.Count.{count_below}
use Rattle.base.specs.Bytes.{Bytes}
use Rattle.base.proofs.Tests.{by_test, and_left, and_right, or_cases}
use Rattle.base.proofs.Search.{any_first, first_passes, any_false_at}
use Rattle.base.proofs.Count.{count_some, count_one}
use Rattle.base.proofs.Bytes.{same_equal, same_other}
use Rattle.base.proofs.Members.{newest, newest_has}
use Rattle.block.specs.Layout.{site_of, sequence_of, references_of}
use Rattle.block.specs.Reading.{fields_of}
use Rattle.block.specs.Promises.{Shaped}
use Rattle.block.proofs.Acceptance.{reading_accepted}
use Rattle.table.specs.Layout.{count_of, digest_at, site_at, sequence_at, row_at, view_of}
use Rattle.table.specs.Rules.{has_digest, place_of, parent_row, parents, parent_rule}
use Rattle.table.proofs.InForm.{one_place}
use Rattle.admission.specs.Admission.{lists, row_for}
use Rattle.admission.specs.Promises.{Parented}
use Rattle.admission.proofs.ReferenceList.{reference_from, lists_member, member_lists}
use Rattle.history.specs.History.{History, Histories, node, end, ◌and◌, block_of, list_of, children, is_parent_of}
use Rattle.history.proofs.Histories.{parent_sequence}
use Rattle.history.proofs.Admissions.{digest_of, Parented as HasParent, Admitted}

-- ---- a history for each reference

unfoldable each : (Bytes → History) → List Bytes → Histories
each f [] = end
each f (r ∷ rs) = f r and each f rs

each_from : (f : Bytes → History) (rs : List Bytes) (c : History) → Memᴰ c (list_of (each f rs)) → (r : Bytes) × Memᴰ r rs × (c ≡ f r)
unfolding each
each_from f [] c m = absurd (Memᴰ.not-nil m)
each_from f (r ∷ rs) c m = elim (Memᴰ.cases_cons m) [
  | inl e ↦ (r, Memᴰ.head refl, e)
  | inr k ↦ let w = each_from f rs c k in (w.0, Memᴰ.tail w.1, w.2)
]

each_has : (f : Bytes → History) (rs : List Bytes) (r : Bytes) → Memᴰ r rs → Memᴰ (f r) (list_of (each f rs))
unfolding each
each_has f [] r m = absurd (Memᴰ.not-nil m)
each_has f (x ∷ rs) r m = elim (Memᴰ.cases_cons m) [ inl e ↦ Memᴰ.head (ap f e) | inr k ↦ Memᴰ.tail (each_has f rs r k) ]

each_listed : (g : History → Bytes) (f : Bytes → History) (rs : List Bytes) → ((r : Bytes) → Memᴰ r rs → g (f r) ≡ r) → map g (list_of (each f rs)) ≡ rs
unfolding each
each_listed g f [] h = refl
each_listed g f (r ∷ rs) h = λ k. h r (Memᴰ.head refl) k ∷ each_listed g f rs (λ x m. h x (Memᴰ.tail m)) k

-- ---- the table's places hold these blocks, with these histories

module _ (digest : Bytes → Bytes) (t : Bytes) (block : ℕ → Bytes)
    (digests : (j : ℕ) → j < count_of t → digest_at t j ≡ digest (block j))
    (sites : (j : ℕ) → j < count_of t → site_at t j ≡ site_of (block j))
    (sequences : (j : ℕ) → j < count_of t → sequence_at t j ≡ sequence_of (block j))
    (history : ℕ → History) (its : (j : ℕ) → j < count_of t → block_of (history j) ≡ block j)
    (b : Bytes) (verdict : ℕ) (p : Parented digest t b verdict) where
  shape : Shaped b
  shape = (reading_accepted b (fields_of b) p.linked.is_new.readable.accepted).accepted.shape

  -- the place that holds a reference
  abbrev place : Bytes → ℕ
  place r = place_of (view_of t) (count_of t) r

  there : (r : Bytes) → Memᴰ r (references_of b) → any_below (has_digest (view_of t) r) (count_of t) ≡ true
  there r m = by_test (any_below (has_digest (view_of t) r) (count_of t)) (λ y. y) (λ n. absurd (lost n))
    where
      lost : any_below (has_digest (view_of t) r) (count_of t) ≡ false → ⊥
      lost n =
          let i = reference_from b shape r m in
          p.linked.found (i.0, (i.1, λ w. same_other _ _ (any_false_at (has_digest (view_of t) r) (count_of t) n w.0 w.1.0) (w.1.1 ∙ sym i.2)))

  held : (r : Bytes) → Memᴰ r (references_of b) → place r < count_of t
  held r m = any_first (has_digest (view_of t) r) (count_of t) (there r m)

  at_place : (r : Bytes) → Memᴰ r (references_of b) → digest_at t (place r) ≡ r
  at_place r m = same_equal (digest_at t (place r)) r (first_passes (has_digest (view_of t) r) (count_of t) (held r m))

  -- a listed place is the one that holds its digest
  place_is : (j : ℕ) → j < count_of t → Memᴰ (digest_at t j) (references_of b) → place (digest_at t j) ≡ j
  place_is j h m = one_place t p.linked.is_new.readable.formed (place (digest_at t j)) j (held (digest_at t j) m) h (at_place (digest_at t j) m)

  pub new_history : History
  new_history = node b (each (λ r. history (place r)) (references_of b))

  pub new_block : block_of new_history ≡ b
  unfolding new_history
  new_block = refl

  -- directly below it stand the histories of the places that it refers to
  pub child_place : (c : History) → Memᴰ c (children new_history) → (j : ℕ) × (j < count_of t) × (lists b (digest_at t j) ≡ true) × (c ≡ history j)
  unfolding new_history
  child_place c m =
      let w = each_from (λ r. history (place r)) (references_of b) c m in
      (place w.0, held w.0 w.1, ap (lists b) (at_place w.0 w.1) ∙ member_lists b shape w.0 w.1, w.2)

  pub place_child : (j : ℕ) → j < count_of t → lists b (digest_at t j) ≡ true → Memᴰ (history j) (children new_history)
  unfolding new_history
  place_child j h y =
      let m = lists_member b shape (digest_at t j) y in
      Memᴰ.cast (ap history (sym (place_is j h m))) (each_has (λ r. history (place r)) (references_of b) (digest_at t j) m)

  -- the test that the parent rule counts
  abbrev is_one : ℕ → Bool
  is_one j = (row_for digest (view_of t) b).refers_to j && parent_row (row_for digest (view_of t) b) (row_at t j)

  parent_is : (j : ℕ) → j < count_of t → is_parent_of b (block_of (history j)) ≡ parent_row (row_for digest (view_of t) b) (row_at t j)
  parent_is j h = rw (its j h, ← (sites j h), ← (sequences j h))

  one_child : (j : ℕ) → j < count_of t → is_one j ≡ true → (c : History) × Memᴰ c (children new_history) × (is_parent_of b (block_of c) ≡ true)
  one_child j h y =
      let refers : (ltb j (count_of t) && lists b (digest_at t j)) ≡ true = and_left (ltb j (count_of t) && lists b (digest_at t j)) (parent_row (row_for digest (view_of t) b) (row_at t j)) y in (
        history j,
        place_child j h (and_right (ltb j (count_of t)) (lists b (digest_at t j)) refers),
        parent_is j h ∙ and_right (ltb j (count_of t) && lists b (digest_at t j)) (parent_row (row_for digest (view_of t) b) (row_at t j)) y,
      )

  child_one : (c : History) → Memᴰ c (children new_history) → is_parent_of b (block_of c) ≡ true → (j : ℕ) × (j < count_of t) × (c ≡ history j) × (is_one j ≡ true)
  child_one c m q =
      let w = child_place c m in
      let is_p : parent_row (row_for digest (view_of t) b) (row_at t w.0) ≡ true =
      sym (parent_is w.0 w.1) ∙ ap (λ (x : History). is_parent_of b (block_of x)) (sym w.3) ∙ q in
      (w.0, w.1, w.3, rw (lt-ltb w.0 (count_of t) w.1, w.2, is_p))

  rule : (sequence_of b ≡ 0) ⊎ (count_below is_one (count_of t) ≡ 1)
  unfolding parent_rule parents
  rule = elim (or_cases (eqb (sequence_of b) 0) _ p.parent) [ inl z ↦ inl (eqb-true _ _ z) | inr z ↦ inr (eqb-true _ _ z) ]

  parented : HasParent new_history
  unfolding new_history
  parented = elim rule [
    | inl z ↦ inl z
    | inr o ↦ let w = count_some is_one (count_of t) (omega arith) in inr (one_child w.0 w.1 w.2)
  ]

  single : (c e : History) → Memᴰ c (children new_history) → Memᴰ e (children new_history) → is_parent_of b (block_of c) ≡ true
      → is_parent_of b (block_of e) ≡ true → c ≡ e
  single c e m k x y = elim rule [
    | inl z ↦ absurd (omega (arith, parent_sequence b (block_of c) x))
    | inr o ↦ let i = child_one c m x in
        let j = child_one e k y in
        i.2 ∙ ap history (count_one is_one (count_of t) o i.0 j.0 i.1 j.1 i.3 j.3) ∙ sym j.2
  ]

  pub new_admitted : (rest : List History) → Admitted digest (newest history (count_of t) ++ rest) new_history
  unfolding new_history
  new_admitted rest =
      record {
        shape = shape;
        among = λ c m. let w = child_place c m in Memᴰ.append_left rest (Memᴰ.cast w.3 (newest_has history (count_of t) w.0 w.1));
        listed = each_listed (digest_of digest) (λ r. history (place r)) (references_of b)
            (λ r m. ap digest (its (place r) (held r m)) ∙ sym (digests (place r) (held r m)) ∙ at_place r m);
        parented = parented;
        single = single;
      }
