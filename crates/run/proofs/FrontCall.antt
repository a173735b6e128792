-- The call at the front of an encoded list: when there is one, and that the list is that call and those of the bytes behind it.
-- Assumes nothing.
use mathlib.Core.Path.{◌≡◌, refl, sym, ap, ◌∙◌}
use mathlib.Core.Bool.{◌||◌}
use mathlib.Core.Logic.{◌≢◌}
use mathlib.Core.List.{List, [], ◌∷◌}
use Prim.Native.Nat.{ℕ, zero, suc, ◌+◌, ◌-◌, ◌≤◌, ◌<◌}
use native.Mathlib.Omega.{arith}
use lib.Dec.{eqb}
use lib.ListN.{length, get_or, drop, length-drop}
use borrow.Author.Tests.{eq-eqb, ne_eqb, eqb-true, eqb-false, le-leb, lt-leb, leb-true}
use Rattle.base.specs.Bytes.{Bytes}
use Rattle.base.specs.LowFirst.{low_first_at}
use Rattle.base.proofs.Tests.{by_test, and_right, and_false}
use Rattle.run.specs.Ledger.{Call}
use Rattle.run.specs.Encoding.{admission_byte, interpretation_byte, retiring_byte, taking_back_byte, admission_header, interpretation_size, bare_size, admission_first, interpretation_first, bare_first, first_size, first_call, first_calls, calls_in}

module _ (b : Bytes) where
  -- ---- the ways out of the code that reads it

  pub way_empty : length b < bare_size → 0 ≡ first_size b
  unfolding first_size
  way_empty h =
      rw (
        lt-leb admission_header (length b) (omega arith),
        lt-leb interpretation_size (length b) (omega arith),
        lt-leb bare_size (length b) h,
        and_false (eqb (get_or b 0 0) admission_byte),
        and_false (eqb (get_or b 0 0) interpretation_byte),
        and_false (eqb (get_or b 0 0) retiring_byte || eqb (get_or b 0 0) taking_back_byte),
      )

  pub way_retiring : bare_size ≤ length b → get_or b 0 0 ≡ retiring_byte → bare_size ≡ first_size b
  unfolding first_size
  way_retiring h e = rw (e, le-leb bare_size (length b) h)

  pub way_taking_back : bare_size ≤ length b → get_or b 0 0 ≡ taking_back_byte → bare_size ≡ first_size b
  unfolding first_size
  way_taking_back h e = rw (e, le-leb bare_size (length b) h)

  pub way_short : get_or b 0 0 ≢ retiring_byte → get_or b 0 0 ≢ taking_back_byte → length b < interpretation_size → 0 ≡ first_size b
  unfolding first_size
  way_short n m h =
      rw (
        lt-leb admission_header (length b) (omega arith),
        lt-leb interpretation_size (length b) h,
        ne_eqb (get_or b 0 0) retiring_byte n,
        ne_eqb (get_or b 0 0) taking_back_byte m,
        and_false (eqb (get_or b 0 0) admission_byte),
        and_false (eqb (get_or b 0 0) interpretation_byte),
      )

  pub way_interpretation : interpretation_size ≤ length b → get_or b 0 0 ≡ interpretation_byte → interpretation_size ≡ first_size b
  unfolding first_size
  way_interpretation h e = rw (e, le-leb interpretation_size (length b) h)

  pub way_other : get_or b 0 0 ≢ retiring_byte → get_or b 0 0 ≢ taking_back_byte → get_or b 0 0 ≢ interpretation_byte → get_or b 0 0 ≢ admission_byte → 0 ≡ first_size b
  unfolding first_size
  way_other o p n m =
      rw (ne_eqb (get_or b 0 0) admission_byte m, ne_eqb (get_or b 0 0) interpretation_byte n, ne_eqb (get_or b 0 0) retiring_byte o, ne_eqb (get_or b 0 0) taking_back_byte p)

  module _ (e : get_or b 0 0 ≡ admission_byte) where
    pub way_cut : length b < admission_header → 0 ≡ first_size b
    unfolding first_size
    way_cut h = rw (e, lt-leb admission_header (length b) h)

    pub way_cut_block : admission_header ≤ length b → length b - admission_header < low_first_at b 2 → 0 ≡ first_size b
    unfolding first_size
    way_cut_block h l = let n : length b < admission_header + low_first_at b 2 = omega arith in
        rw (e, le-leb admission_header (length b) h, lt-leb (admission_header + low_first_at b 2) (length b) n)

    pub way_admission : admission_header ≤ length b → low_first_at b 2 ≤ length b - admission_header → admission_header + low_first_at b 2 ≡ first_size b
    unfolding first_size
    way_admission h l = let n : admission_header + low_first_at b 2 ≤ length b = omega arith in
        rw (e, le-leb admission_header (length b) h, le-leb (admission_header + low_first_at b 2) (length b) n)

  -- ---- what it takes

  pub size_within : first_size b ≤ length b
  unfolding first_size
  size_within = by_test (admission_first b)
      (λ y. rw y (leb-true (admission_header + low_first_at b 2) (length b) (search (and_right, y))))
      (λ n. by_test (interpretation_first b) (λ y. rw (n, y) (leb-true interpretation_size (length b) (search (and_right, y))))
      (λ m. by_test (bare_first b) (λ y. rw (n, m, y) (leb-true bare_size (length b) (search (and_right, y)))) (λ o. rw (n, m, o) (omega arith))))

-- ---- the list is the call at the front and the calls behind it

none_here : (k : ℕ) (b : Bytes) → first_size b ≡ 0 → first_calls k b ≡ []
unfolding first_calls
none_here zero b e = refl
none_here (suc k) b e = rw (eq-eqb (first_size b) 0 e, first_calls)

one_here : (k : ℕ) (b : Bytes) → first_size b ≢ 0 → first_calls (suc k) b ≡ first_call b ∷ first_calls k (drop (first_size b) b)
unfolding first_calls
one_here k b n = rw (ne_eqb (first_size b) 0 n, first_calls)

-- as many turns as there are bytes are enough
enough : (k m : ℕ) (b : Bytes) → length b ≤ k → length b ≤ m → first_calls k b ≡ first_calls m b
enough zero m b h l = let e : first_size b ≡ 0 = omega (arith, size_within b) in none_here 0 b e ∙ sym (none_here m b e)
enough (suc k) zero b h l = let e : first_size b ≡ 0 = omega (arith, size_within b) in none_here (suc k) b e ∙ sym (none_here 0 b e)
enough (suc k) (suc m) b h l = by_test (eqb (first_size b) 0)
    (λ y. let e = eqb-true (first_size b) 0 y in none_here (suc k) b e ∙ sym (none_here (suc m) b e))
    (λ n.
    let some : first_size b ≢ 0 = eqb-false (first_size b) 0 n in
    let short : length (drop (first_size b) b) < length b = omega (arith, size_within b, length-drop (first_size b) b) in
    one_here k b some ∙ ap (λ (cs : List Call). first_call b ∷ cs) (enough k m (drop (first_size b) b) (omega arith) (omega arith)) ∙ sym (one_here m b some))

pub calls_none : (b : Bytes) → first_size b ≡ 0 → calls_in b ≡ []
unfolding calls_in
calls_none b e = none_here (length b) b e

pub calls_more : (b : Bytes) → first_size b ≢ 0 → calls_in b ≡ first_call b ∷ calls_in (drop (first_size b) b)
unfolding calls_in
calls_more b n =
    let short : length (drop (first_size b) b) < length b = omega (arith, size_within b, length-drop (first_size b) b) in
    let one : length b ≡ suc (length b - 1) = omega arith in
    ap (λ (k : ℕ). first_calls k b) one ∙ one_here (length b - 1) b n
    ∙ ap (λ (cs : List Call). first_call b ∷ cs) (enough (length b - 1) (length (drop (first_size b) b)) (drop (first_size b) b) (omega arith) (omega arith))
