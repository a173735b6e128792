-- The checks of the calls read of a view only the rows that are held: two views that agree on these give one answer. Assumes nothing.
use mathlib.Core.Path.{◌≡◌, refl, ap, ap₂, ◌∙◌}
use mathlib.Core.Bool.{Bool, true, false, not, ◌&&◌}
use mathlib.Core.List.{List, [], ◌∷◌}
use Prim.Native.Nat.{ℕ, ◌-◌, ◌≤◌, ◌<◌}
use native.Mathlib.Omega.{arith}
use lib.Dec.{eqb, ltb}
use borrow.Author.Tests.{ltb-true}
use Rattle.base.specs.Search.{first_below, any_below}
use Rattle.base.specs.Bytes.{Bytes}
use Rattle.base.proofs.Tests.{by_test}
use Rattle.base.proofs.Search.{first_same_lem, any_same}
use Rattle.answer.specs.Checks.{Check, check, answer_to}
use Rattle.setup.specs.Setup.{Setup}
use Rattle.block.specs.Layout.{site_of, reference_count, reference_list, reference_at}
use Rattle.block.specs.Reading.{well_shaped, reading, read_answer}
use Rattle.table.specs.View.{max_places, interpreted, View, SameBelow}
use Rattle.table.specs.Rules.{has_digest, place_of, parent_rule, refers_uninterpreted}
use Rattle.table.proofs.Views.{place_same, rule_reads}
use Rattle.records.specs.Layout.{buffer_size}
use Rattle.admission.specs.Admission.{lists, missing, row_for, admission_checks}
use Rattle.take_back.specs.TakingBack.{taking_back_checks}
use Rattle.interpret.specs.Interpretation.{interpretation_checks}
use Rattle.retire.specs.Retiring.{waits_for_first, follows_first, retirable, retiring_checks}

-- where a check fails, those after it are not made
cut : (c : Check) (cs ds : List Check) (value : ℕ) → c.holds ≡ false → answer_to (c ∷ cs) value ≡ answer_to (c ∷ ds) value
unfolding answer_to
cut c cs ds value z = rw z

rest_same : (c : Check) (cs ds : List Check) (value : ℕ) → (c.holds ≡ true → answer_to cs value ≡ answer_to ds value) → answer_to (c ∷ cs) value ≡ answer_to (c ∷ ds) value
unfolding answer_to
rest_same c cs ds value h = by_test c.holds (λ y. rw (y, h y)) (λ z. cut c cs ds value z)

module _ (v w : View) (n : v.held ≡ w.held) (e : SameBelow v w v.held) (f g : Bool) (formed : f ≡ g) where
  module _ (digest : Bytes → Bytes) (b : Bytes) where
    digest_same : (d : Bytes) → any_below (has_digest v d) v.held ≡ any_below (has_digest w d) w.held
    unfolding any_below
    digest_same d = ap₂ ltb (place_same v w v.held d e) refl ∙ ap (λ (k : ℕ). ltb (place_of w k d) k) n

    place_is : place_of v v.held (digest b) ≡ place_of w w.held (digest b)
    place_is = place_same v w v.held (digest b) e ∙ ap (λ (k : ℕ). place_of w k (digest b)) n

    missing_same : (i : ℕ) → missing v b i ≡ missing w b i
    missing_same i = ap not (digest_same (reference_at (reference_list b) i))

    rule_is : parent_rule v v.held (row_for digest v b) ≡ parent_rule w w.held (row_for digest w b)
    rule_is =
        rule_reads v w v.held (row_for digest v b) (row_for digest w b) e refl refl
        (λ j h. ap₂ (λ (k : ℕ) (d : Bytes). ltb j k && lists b d) n (e j h).digest)
        ∙ ap (λ (k : ℕ). parent_rule w k (row_for digest w b)) n

    pub admission_same : (s : Setup) (verdict : ℕ)
        → answer_to (admission_checks digest f s v b verdict) v.held ≡ answer_to (admission_checks digest g s w b verdict) w.held
    admission_same s verdict = λ k. answer_to (
        check 2 (formed k) 0
        ∷ check 3 (well_shaped b) 0
        ∷ check 4 (ltb (site_of b) s.sites) 0
        ∷ check 5 (eqb verdict 1) 0
        ∷ check (read_answer (reading b)).refusal (eqb (read_answer (reading b)).refusal 0) (read_answer (reading b)).value
        ∷ check 8 (not (digest_same (digest b) k)) (place_is k)
        ∷ check 9 (not (any_same (missing v b) (missing w b) (reference_count b) (λ i h. missing_same i) k)) (first_same_lem (missing v b) (missing w b) (reference_count b) (λ i h. missing_same i) k)
        ∷ check 10 (rule_is k) 0
        ∷ check 11 (ltb (n k) max_places) 0
        ∷ []) (n k)

  module _ (few : v.held ≤ max_places) (size i : ℕ) where
    unready_same : i < v.held → (j : ℕ) → j < i → refers_uninterpreted v (v.row i) j ≡ refers_uninterpreted w (w.row i) j
    unready_same h j l = ap₂ (λ (x : Bool) (m : ℕ). x && not (eqb m 1)) ((e i h).refers_to j (omega arith)) (e j (omega arith)).mark

    held_checks_lem : i < v.held
        → answer_to (check 14 (not (interpreted (v.row i))) 0 ∷ check 15 (not (any_below (refers_uninterpreted v (v.row i)) i)) (first_below (refers_uninterpreted v (v.row i)) i) ∷ []) 0
        ≡ answer_to (check 14 (not (interpreted (w.row i))) 0 ∷ check 15 (not (any_below (refers_uninterpreted w (w.row i)) i)) (first_below (refers_uninterpreted w (w.row i)) i) ∷ []) 0
    held_checks_lem h = λ k. answer_to (
        check 14 (not (eqb ((e i h).mark k) 1)) 0
        ∷ check 15 (not (any_same (refers_uninterpreted v (v.row i)) (refers_uninterpreted w (w.row i)) i (unready_same h) k)) (first_same_lem (refers_uninterpreted v (v.row i)) (refers_uninterpreted w (w.row i)) i (unready_same h) k)
        ∷ []) 0

    pub interpretation_same : answer_to (interpretation_checks f v size i) 0 ≡ answer_to (interpretation_checks g w size i) 0
    interpretation_same =
        rest_same _ _ _ 0 (λ _. rest_same _ _ _ 0 (λ _. rest_same _ _ _ 0 (λ y. held_checks_lem (ltb-true i v.held y))))
        ∙ (λ k. answer_to (
        check 2 (formed k) 0
        ∷ check 12 (eqb size buffer_size) 0
        ∷ check 13 (ltb i (n k)) 0
        ∷ check 14 (not (interpreted (w.row i))) 0
        ∷ check 15 (not (any_below (refers_uninterpreted w (w.row i)) i)) (first_below (refers_uninterpreted w (w.row i)) i)
        ∷ []) 0)

  -- ---- retiring

  retirable_same : 0 < v.held → retirable v ≡ retirable w
  unfolding retirable
  retirable_same h =
      ap₂ ◌&&◌ (ap (λ (m : ℕ). eqb m 1) (e 0 h).mark)
      (ap₂ ◌&&◌ (ap not (any_same (waits_for_first v) (waits_for_first w) v.held
      (λ i l. ap₂ (λ (x : Bool) (m : ℕ). x && not (eqb m 1)) ((e i l).refers_to 0 (omega arith)) (e i l).mark) ∙ ap (any_below (waits_for_first w)) n))
      (any_same (follows_first v) (follows_first w) v.held (λ i l. rw ((e i l).site, (e 0 h).site, (e i l).mark, (e 0 h).sequence, (e i l).sequence))
      ∙ ap (any_below (follows_first w)) n))

  pub retiring_same : (size : ℕ) → answer_to (retiring_checks f v size) 0 ≡ answer_to (retiring_checks g w size) 0
  retiring_same size =
      rest_same _ _ _ 0 (λ _. rest_same _ _ _ 0 (λ _. rest_same _ _ _ 0 (λ y.
      ap (λ (b : Bool). answer_to (check 29 b 0 ∷ []) 0) (retirable_same (ltb-true 0 v.held y)))))
      ∙ (λ k. answer_to (
      check 2 (formed k) 0
      ∷ check 12 (eqb size buffer_size) 0
      ∷ check 13 (ltb 0 (n k)) 0
      ∷ check 29 (retirable w) 0
      ∷ []) 0)

  -- ---- taking back

  pub taking_back_same : answer_to (taking_back_checks f v) 0 ≡ answer_to (taking_back_checks g w) 0
  taking_back_same =
      rest_same _ _ _ 0 (λ _. rest_same _ _ _ 0 (λ y.
      let h : 0 < v.held = ltb-true 0 v.held y in
      ap (λ (m : ℕ). answer_to (check 33 (not (eqb m 1)) 0 ∷ []) 0) ((e (v.held - 1) (omega arith)).mark ∙ ap (λ (k : ℕ). (w.row (k - 1)).mark) n)))
      ∙ (λ k. answer_to (
      check 2 (formed k) 0
      ∷ check 32 (ltb 0 (n k)) 0
      ∷ check 33 (not (interpreted (w.row (w.held - 1)))) 0
      ∷ []) 0)
