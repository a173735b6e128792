-- What the contracts of inner functions cite: what an entry point has tested. Nothing here need be believed.
use Rattle.std.specs.Prelude.{◌≡◌, Bool, true, false, cond, List, [], ◌∷◌, ◌++◌, map, ℕ, ◌*◌, ◌/◌, ◌≤◌, eqb, ltb, length, drop}
use Rattle.base.specs.List.{passing_below}
use Rattle.base.specs.Mask.{mask_below, in_mask}
use Rattle.base.specs.Bytes.{Bytes, concat, splice}
use Rattle.answer.specs.declared.Answer.{Answer}
use Rattle.answer.specs.Checks.{answer_to}
use Rattle.block.specs.Limits.{reference_size, request_size, max_references, max_request_list_size}
use Rattle.table.specs.View.{max_places}
use Rattle.table.specs.Layout.{setup_of, count_of, digest_at, view_of}
use Rattle.table.specs.Form.{in_form}
use Rattle.watch.specs.Forks.{forked_in}
use Rattle.build.specs.Building.{is_greatest, is_referred, is_other, next_block, building_checks}

-- a table in form, and a site that passes check 16
pub record Buildable (t : Bytes) (seen p : ℕ) : Type 0 where
  pub formed : in_form t ≡ true
  pub held : count_of t ≤ max_places
  pub unforked : forked_in (view_of t) (in_mask seen) p ≡ false

-- the mask of the places that held blocks of the site refer to directly
abbrev pub referred_mask : Bytes → ℕ → ℕ → ℕ
referred_mask t seen p = mask_below (is_referred (in_mask seen) (view_of t) p) max_places

-- the place of the site's block of greatest sequence number, if the site has a block
abbrev pub greatest_in : Bytes → ℕ → ℕ → List ℕ
greatest_in t seen p = passing_below (is_greatest (in_mask seen) (view_of t) p) (count_of t)

-- the places of other sites' blocks that no held block of the site refers to, in place order
abbrev pub others_in : Bytes → ℕ → ℕ → List ℕ
others_in t seen p = passing_below (is_other (in_mask seen) (view_of t) p) (count_of t)

-- the digests of these places, one after the other
abbrev pub digests_of : Bytes → List ℕ → Bytes
digests_of t places = concat (map (digest_at t) places)

-- references with one more behind them, if there is room for it
abbrev pub with_reference : Bytes → Bytes → Bytes
with_reference references digest = cond (ltb (length references) (reference_size * max_references)) (references ++ digest) references

-- references with the digests of these places behind them, put one after the other as long as there is room
unfoldable pub with_digests : Bytes → List ℕ → Bytes → Bytes
with_digests t [] references = references
with_digests t (i ∷ places) references = with_digests t places (with_reference references (digest_at t i))

-- a request list that passes check 3
pub record RequestList (requests : Bytes) : Type 0 where
  pub fits : length requests ≤ max_request_list_size
  pub whole : length requests ≡ request_size * (length requests / request_size)

-- what checks 30 and 17 answer, and the output after them
module _ (seen : ℕ → Bool) (t : Bytes) (p : ℕ) (requests output : Bytes) where
  unfoldable pub next_answer : Answer
  next_answer =
      answer_to (drop 6 (building_checks seen true (setup_of t) (view_of t) p requests (length output))) (length (next_block seen (view_of t) p requests))

  unfoldable pub next_output : Bytes
  next_output = cond (eqb next_answer.refusal 0) (splice output 0 (next_block seen (view_of t) p requests)) output
