-- Document 01, "Building", rows 16 and 17 of "What is turned down", and request Two's 18: a site's next block, what building answers, and what it
-- leaves. `seen` says which places are looked at: the call `build` looks at every place.
use Rattle.std.specs.Prelude.{Bool, cond, not, ◌&&◌, List, [], ◌∷◌, ◌++◌, map, ℕ, zero, suc, ◌+◌, ◌/◌, ◌%◌, max, eqb, leb, ltb, length, take}
use Rattle.base.specs.Search.{any_below}
use Rattle.base.specs.List.{passing_below}
use Rattle.base.specs.Bytes.{Bytes, splice}
use Rattle.answer.specs.declared.Answer.{Answer}
use Rattle.answer.specs.Checks.{Check, check, check_none, answer_to}
use Rattle.setup.specs.Setup.{Setup}
use Rattle.block.specs.Limits.{request_size, max_references, max_request_list_size}
use Rattle.block.specs.Layout.{Content, requests_in, encode}
use Rattle.block.specs.Reading.{bad_request_at, slot_repeated_at}
use Rattle.table.specs.View.{View}
use Rattle.table.specs.Layout.{setup_of, view_of}
use Rattle.table.specs.Form.{in_form}
use Rattle.watch.specs.Forks.{everywhere, of_site, forked_in}

-- the greatest sequence number that two bytes hold
abbrev pub max_sequence : ℕ
max_sequence = 65535

-- the greatest of f's values at the numbers below k, 0 if there is none
unfoldable pub greatest_below : (ℕ → ℕ) → ℕ → ℕ
greatest_below f zero = 0
greatest_below f (suc k) = max (f k) (greatest_below f k)

module _ (seen : ℕ → Bool) (v : View) (p : ℕ) where
  -- one more than the sequence number of the block at place i; 0 if place i is not looked at or holds a block of another site
  abbrev pub sequence_after : ℕ → ℕ
  sequence_after i = cond (of_site v seen p i) ((v.row i).sequence + 1) 0

  -- "sequence 0 if the site has no held block, else one more than its greatest"
  unfoldable pub next_sequence : ℕ
  next_sequence = greatest_below sequence_after v.held

  -- place i holds "its greatest block": the site's block of greatest sequence number
  abbrev pub is_greatest : ℕ → Bool
  is_greatest i = of_site v seen p i && eqb ((v.row i).sequence + 1) next_sequence

  -- a held block of this site refers to place i directly
  abbrev pub is_referred : ℕ → Bool
  is_referred i = any_below (λ j. of_site v seen p j && (v.row j).refers_to i) v.held

  -- place i holds a "block of another site that no held block of this site refers to directly"
  abbrev pub is_other : ℕ → Bool
  is_other i = (seen i && not (eqb (v.row i).site p)) && not (is_referred i)

  -- the places that the next block refers to: "its greatest block first, then in place order every block of another site that no held block of this
  -- site refers to directly, up to 16 in all"
  unfoldable pub picked : List ℕ
  picked = take max_references (passing_below is_greatest v.held ++ passing_below is_other v.held)

  -- the content of the next block: references to the picked places, and the requests as given
  unfoldable pub next_content : Bytes → Content
  next_content requests =
      record {
        site = p;
        sequence = next_sequence;
        references = map (λ i. (v.row i).digest) picked;
        requests = requests_in requests;
      }

  -- the bytes of the next block
  abbrev pub next_block : Bytes → Bytes
  next_block requests = encode (next_content requests)

-- 3: request list over its limit or no multiple of 3
unfoldable pub well_listed : Bytes → Bool
well_listed requests = leb (length requests) max_request_list_size && eqb (length requests % request_size) 0

-- 2: table not in form; 4: site not below n; 3: no request list; 6: slot over 7, or number 0, with the index of the first such request; 18: a slot
-- equal to an earlier one, with the index of the first such request; 16: two held blocks of the site share a sequence number; 30: building past
-- sequence 65,535; 17: output shorter than the block, with the length needed
abbrev pub building_checks : (ℕ → Bool) → Bool → Setup → View → ℕ → Bytes → ℕ → List Check
building_checks seen formed s v p requests room =
    check 2 formed 0
    ∷ check 4 (ltb p s.sites) 0
    ∷ check 3 (well_listed requests) 0
    ∷ check_none 6 (bad_request_at requests) (length requests / request_size)
    ∷ check_none 18 (slot_repeated_at requests) (length requests / request_size)
    ∷ check 16 (not (forked_in v seen p)) 0
    ∷ check 30 (leb (next_sequence seen v p) max_sequence) 0
    ∷ check 17 (leb (length (next_block seen v p requests)) room) (length (next_block seen v p requests))
    ∷ []

module _ (seen : ℕ → Bool) where
  -- the answer of building from the places looked at; a success returns the block's length
  unfoldable pub building_from : Bytes → ℕ → Bytes → Bytes → Answer
  building_from t p requests output =
      answer_to (building_checks seen (in_form t) (setup_of t) (view_of t) p requests (length output)) (length (next_block seen (view_of t) p requests))

  -- the output afterwards: the block at its front, "Bytes after the block stay"; or by a refusal the output as it was
  unfoldable pub built_from : Bytes → ℕ → Bytes → Bytes → Bytes
  built_from t p requests output =
      cond (eqb (building_from t p requests output).refusal 0) (splice output 0 (next_block seen (view_of t) p requests)) output

-- the answer of building, and the output afterwards, where every place is looked at
abbrev pub building : Bytes → ℕ → Bytes → Bytes → Answer
building = building_from everywhere

abbrev pub built : Bytes → ℕ → Bytes → Bytes → Bytes
built = built_from everywhere
