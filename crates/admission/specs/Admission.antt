-- Document 01, "The table" and rows 2 to 11 of "What is turned down", and request Two's 18: what admission answers, and what it leaves. The checks are
-- made over a view, so that the ledger of crates/run makes the same checks; `digest` is SHA-256 in every contract.
use Rattle.std.specs.Prelude.{Bool, cond, not, ◌&&◌, List, [], ◌∷◌, ℕ, eqb, ltb}
use Rattle.base.specs.Search.{any_below}
use Rattle.base.specs.Bytes.{Bytes, same_bytes}
use Rattle.answer.specs.declared.Answer.{Answer}
use Rattle.answer.specs.Checks.{Check, check, check_none, answer_to}
use Rattle.setup.specs.Setup.{Setup}
use Rattle.block.specs.Layout.{site_of, sequence_of, reference_count, reference_list, reference_at, request_for}
use Rattle.block.specs.Reading.{well_shaped, reading, read_answer}
use Rattle.table.specs.View.{max_places, Row, View}
use Rattle.table.specs.Layout.{setup_of, count_of, view_of, with_row}
use Rattle.table.specs.Rules.{has_digest, parent_rule}
use Rattle.table.specs.Form.{in_form}

-- the digest d is among the references of the block b
abbrev pub lists : Bytes → Bytes → Bool
lists b d = any_below (λ i. same_bytes (reference_at (reference_list b) i) d) (reference_count b)

-- reference i of the block b is not held
abbrev pub missing : View → Bytes → ℕ → Bool
missing v b i = not (any_below (has_digest v (reference_at (reference_list b) i)) v.held)

module _ (digest : Bytes → Bytes) where
  -- the row of a block at the next place, uninterpreted
  abbrev pub row_for : View → Bytes → Row
  row_for v b =
      record {
        digest = digest b;
        site = site_of b;
        sequence = sequence_of b;
        -- the held places whose digests are among the block's references
        refers_to = λ j. ltb j v.held && lists b (v.row j).digest;
        -- the counted request of each slot
        request = request_for b;
        mark = 0;
      }

  -- 8: digest held, with its place; 9: reference not held, with the index of the first such reference; 10: parent rule broken; 11: 64 held
  abbrev pub held_checks : View → Bytes → List Check
  held_checks v b =
      check_none 8 (has_digest v (digest b)) v.held
      ∷ check_none 9 (missing v b) (reference_count b)
      ∷ check 10 (parent_rule v v.held (row_for v b)) 0
      ∷ check 11 (ltb v.held max_places) 0
      ∷ []

  -- 2: table not in form; 3: no block; 4: site not below n; 5: link verdict not 1; then the reader's 6, 18 and 7, and the checks 8 to 11 on what is
  -- held
  abbrev pub admission_checks : Bool → Setup → View → Bytes → ℕ → List Check
  admission_checks formed s v b verdict =
      check 2 formed 0
      ∷ check 3 (well_shaped b) 0
      ∷ check 4 (ltb (site_of b) s.sites) 0
      ∷ check 5 (eqb verdict 1) 0
      ∷ check (read_answer (reading b)).refusal (eqb (read_answer (reading b)).refusal 0) (read_answer (reading b)).value
      ∷ held_checks v b

  -- the answer of an admission; a success returns the block's place
  unfoldable pub admission : Bytes → Bytes → ℕ → Answer
  admission t b verdict = answer_to (admission_checks (in_form t) (setup_of t) (view_of t) b verdict) (count_of t)

  -- the table after an admission: with the block at the next place, or by a refusal as it was
  unfoldable pub admitted : Bytes → Bytes → ℕ → Bytes
  admitted t b verdict = cond (eqb (admission t b verdict).refusal 0) (with_row t (row_for (view_of t) b)) t
