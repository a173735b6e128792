-- Document 01, "Watch for forks": "for a place, the mask and count of all its ancestors, itself left out".
use Rattle.std.specs.Prelude.{Bool, true, false, cond, ◌&&◌, ◌||◌, ◌≡◌, List, [], ◌∷◌, ℕ, zero, suc, ◌<◌, eqb, ltb, Result, Ok, Err}
use Rattle.std.specs.Int.Count.{ones}
use Rattle.base.specs.Search.{any_below}
use Rattle.base.specs.Mask.{mask_below}
use Rattle.base.specs.Bytes.{Bytes}
use Rattle.answer.specs.declared.Answer.{Answer}
use Rattle.answer.specs.declared.Refusal.{Refusal}
use Rattle.answer.specs.Refusals.{refusal_number}
use Rattle.answer.specs.Checks.{Check, check, answer_to}
use Rattle.table.specs.View.{View}
use Rattle.table.specs.Layout.{view_of}
use Rattle.table.specs.Form.{in_form}
use Rattle.watch.specs.declared.AncestorReport.{AncestorReport}
use Rattle.watch.specs.declared.AncestorPlaces.{AncestorPlaces}

module _ (v : View) where
  -- place a is reached from place i by at most k references
  unfoldable pub reached : ℕ → ℕ → ℕ → Bool
  reached zero i a = false
  reached (suc k) i a = (v.row i).refers_to a || any_below (λ c. (v.row i).refers_to c && reached k c a) v.held

  -- place a is an ancestor of place i. Every ancestor is reached by at most as many references as blocks are held
  abbrev pub is_ancestor : ℕ → ℕ → Bool
  is_ancestor i a = reached v.held i a

  -- Ancestor a i, as a relation: place a is held, and place i refers to it, or to a held place that has it as an ancestor
  pub data PlaceAncestor : ℕ → ℕ → Type 0 where
    direct : {a i : ℕ} → a < v.held → (v.row i).refers_to a ≡ true → PlaceAncestor a i
    further : {a c i : ℕ} → PlaceAncestor a c → c < v.held → (v.row i).refers_to c ≡ true → PlaceAncestor a i

  -- the mask of the ancestors of place i
  abbrev pub ancestor_mask : ℕ → ℕ
  ancestor_mask i = mask_below (is_ancestor i) v.held

-- 2: table not in form; 13: place not below count
abbrev pub ancestor_checks : Bool → View → ℕ → List Check
ancestor_checks formed v i = check 2 formed 0 ∷ check 13 (ltb i v.held) 0 ∷ []

-- the refusal of `ancestors`, 0 if there is none
abbrev pub ancestor_answer : Bytes → ℕ → Answer
ancestor_answer t i = answer_to (ancestor_checks (in_form t) (view_of t) i) 0

-- what `ancestors` answers: the mask and the count, or a refusal beside which both are 0
unfoldable pub ancestors : Bytes → ℕ → AncestorPlaces
ancestors t i =
    cond (eqb (ancestor_answer t i).refusal 0)
    (record { refusal = 0; places = ancestor_mask (view_of t) i; count = ones (ancestor_mask (view_of t) i) })
    (record { refusal = (ancestor_answer t i).refusal; places = 0; count = 0 })

-- what programs in C get: a refusal by its number, beside which both are 0
abbrev pub ancestor_places : Result AncestorReport Refusal → AncestorPlaces
ancestor_places (Ok r) = record { refusal = 0; places = r.places; count = r.count }
ancestor_places (Err refusal) = record { refusal = refusal_number refusal; places = 0; count = 0 }
