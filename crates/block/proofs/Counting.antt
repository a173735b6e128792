-- What counts among the requests from an index on, and that each request of an accepted block counts. Assumes nothing.
use mathlib.Core.Path.{◌≡◌, refl, sym, ◌∙◌}
use mathlib.Core.Logic.{◌≢◌}
use mathlib.Core.List.{List}
use Prim.Native.Nat.{ℕ, zero, suc, ◌+◌, ◌/◌, ◌≤◌, ◌<◌}
use native.Mathlib.Omega.{arith}
use native.Mathlib.Numerals.{add-one}
use lib.Dec.{eqb, ltb}
use lib.ListN.{length, drop, drop_of_length-le}
use borrow.Author.Tests.{eq-eqb, ne_eqb, eqb-false, ltb-true, ltb-false}
use Rattle.base.specs.Bytes.{Bytes}
use Rattle.base.proofs.Tests.{by_test}
use Rattle.base.proofs.Search.{any_false_at}
use Rattle.block.specs.Limits.{request_size}
use Rattle.block.specs.Layout.{request_count, request_list, request_at, requests_in, counted_request}
use Rattle.block.specs.Reading.{slot_repeated_at}
use Rattle.block.specs.Promises.{OnceEach}
use Rattle.block.specs.declared.Request.{Request}
use Rattle.block.proofs.Lists.{requests_length, requests_drop}
use Rattle.block.proofs.Shape.{requests_counted}
use Rattle.block.proofs.Acceptance.{Accepted}

module _ (list : Bytes) where
  -- the requests from index i on
  abbrev pub from : ℕ → List Request
  from i = drop i (requests_in list)

  module _ (slot i : ℕ) where
    pub here : i < length list / request_size → (request_at list i).slot ≡ slot → counted_request (from i) slot ≡ (request_at list i).number
    unfolding counted_request
    here h e = rw (requests_drop list i h, eq-eqb _ _ e)

    pub past : i < length list / request_size → (request_at list i).slot ≢ slot → counted_request (from i) slot ≡ counted_request (from (i + 1)) slot
    unfolding counted_request
    past h n = rw (add-one i, requests_drop list i h, ne_eqb _ _ n)

    pub none : length list / request_size ≤ i → counted_request (from i) slot ≡ 0
    unfolding counted_request
    none h = rw (drop_of_length-le (requests_in list) {i = i} (omega (arith, requests_length list)))

  -- what counts from index j on is what counts from n further on, if none of the requests between has the slot
  skipped : (slot i n j : ℕ) → j + n ≡ i → i ≤ length list / request_size → ((k : ℕ) → k < i → (request_at list k).slot ≢ slot)
      → counted_request (from j) slot ≡ counted_request (from i) slot
  skipped slot i zero j e h other = let same : j ≡ i = omega arith in rw same
  skipped slot i (suc n) j e h other = past slot j (omega arith) (other j (omega arith)) ∙ skipped slot i n (j + 1) (omega arith) h other

-- the requests of an accepted block
module _ (b : Bytes) (a : Accepted b) where
  abbrev list : Bytes
  list = request_list b

  abbrev slot : ℕ → ℕ
  slot i = (request_at list i).slot

  abbrev counted : length list / request_size ≡ request_count b
  counted = requests_counted b a.shape

  -- no request before request i has its slot
  pub apart : (i j : ℕ) → j < i → i < request_count b → slot j ≢ slot i
  apart i j l h =
      eqb-false _ _ (any_false_at (λ k. eqb (slot k) (slot i)) i (any_false_at (slot_repeated_at list) (request_count b) a.slots i h) j l)

  once : (i j : ℕ) → i < request_count b → j < request_count b → slot i ≡ slot j → i ≡ j
  once i j h k e =
      by_test (ltb i j)
      (λ y. absurd (apart j i (ltb-true i j y) k e))
      (λ n. by_test (ltb j i) (λ y. absurd (apart i j (ltb-true j i y) h (sym e))) (λ m. omega (arith, ltb-false i j n, ltb-false j i m)))

  pub once_each : OnceEach b
  once_each =
      record {
        once = once;
        counts = λ i h. skipped list (slot i) i i 0 (omega arith) (omega (arith, counted)) (λ k l. apart i k l h) ∙ here list (slot i) i (omega (arith, counted)) refl;
        unrequested = λ s other.
            skipped list s (request_count b) (request_count b) 0 (omega arith) (omega (arith, counted)) other ∙ none list s (request_count b) (omega (arith, counted));
      }
