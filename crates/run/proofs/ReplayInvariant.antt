-- What holds at each turn of a replay: the calls that are left lead from the site as it is to the site that all calls lead to from the first. Assumes
-- nothing.
use mathlib.Core.Path.{◌≡◌, refl, sym, ap, ◌∙◌}
use mathlib.Core.Logic.{◌≢◌}
use mathlib.Core.List.{List, [], ◌∷◌}
use Prim.Native.Nat.{ℕ, suc, ◌+◌, ◌≤◌, ◌<◌}
use native.Mathlib.Numerals.{add-one}
use native.Mathlib.Omega.{arith}
use lib.ListN.{length, drop, length-drop}
use Rattle.base.specs.Bytes.{Bytes}
use Rattle.sha256.specs.Sha256.{sha256}
use Rattle.answer.specs.Buffer.{put_answer, put_answers}
use Rattle.answer.specs.declared.Answer.{Answer}
use Rattle.run.specs.Ledger.{Call}
use Rattle.run.specs.Run.{Site, site_answer, site_step, site_after, site_answers}
use Rattle.run.specs.Encoding.{first_size, first_call, calls_in}
use Rattle.run.proofs.FrontCall.{size_within, calls_none, calls_more}

pub record ReplayInvariant (calls : Bytes) (x₀ : Site) (answers₀ : List ℕ) (x : Site) (answers : List ℕ) (count : ℕ) (left : Bytes) : Type 0 where
  -- each call took a byte at least
  pub counted : count + length left ≤ length calls
  pub site : site_after sha256 x (calls_in left) ≡ site_after sha256 x₀ (calls_in calls)
  pub put : put_answers answers count (site_answers sha256 x (calls_in left)) ≡ put_answers answers₀ 0 (site_answers sha256 x₀ (calls_in calls))
  pub number : count + length (calls_in left) ≡ length (calls_in calls)
  -- what is lent keeps its length
  pub table : length x.table ≡ length x₀.table
  pub records : length x.records ≡ length x₀.records
  pub answered : length answers ≡ length answers₀

pub starts : (calls : Bytes) (x : Site) (answers : List ℕ) → ReplayInvariant calls x answers x answers 0 calls
starts calls x answers =
    record { counted = omega arith; site = refl; put = refl; number = omega arith; table = refl; records = refl; answered = refl }

module _ (calls : Bytes) (x₀ : Site) (answers₀ : List ℕ) (x : Site) (answers : List ℕ) (count : ℕ) (left : Bytes) (r : ReplayInvariant calls x₀ answers₀ x answers count left) where
  -- no call is left
  pub finished : first_size left ≡ 0 → (count ≡ length (calls_in calls)) × (x ≡ site_after sha256 x₀ (calls_in calls)) × (answers ≡ put_answers answers₀ 0 (site_answers sha256 x₀ (calls_in calls)))
  unfolding site_after site_answers put_answers
  finished z =
      let none : calls_in left ≡ [] = calls_none left z in
      let n : length (calls_in left) ≡ 0 = ap length none in (
        omega (arith, r.number),
        sym (ap (site_after sha256 x) none) ∙ r.site,
        sym (ap (λ (cs : List Call). put_answers answers count (site_answers sha256 x cs)) none) ∙ r.put,
      )

  -- the first of those that are left is run
  module _ (some : first_size left ≢ 0) (call : Call) (behind : Bytes) (ec : call ≡ first_call left) (eb : behind ≡ drop (first_size left) left) where
    more : calls_in left ≡ call ∷ calls_in behind
    more = calls_more left some ∙ rw (ec, eb) refl

    -- fewer bytes are left
    pub fewer : length behind < length left
    fewer = omega (arith, some, size_within left, ap length eb, length-drop (first_size left) left)

    pub goes_on : (t' : Bytes) (records' answers' : List ℕ) (answer : Answer)
        → answer ≡ site_answer sha256 x call → t' ≡ (site_step sha256 x call).table → records' ≡ (site_step sha256 x call).records
        → answers' ≡ put_answer answers count answer
        → length t' ≡ length x.table → length records' ≡ length x.records → length answers' ≡ length answers
        → ReplayInvariant calls x₀ answers₀ (record { table = t'; records = records' }) answers' (count + 1) behind
    unfolding site_after site_answers put_answers
    goes_on t' records' answers' answer a t s p lt lr la =
        let n : length (calls_in left) ≡ suc (length (calls_in behind)) = ap length more in
        let x' : record { table = t'; records = records' } ≡ site_step sha256 x call = λ k. record { table = t k; records = s k } in
        record {
          counted = omega (arith, r.counted, fewer);
          site = ap (λ (y : Site). site_after sha256 y (calls_in behind)) x' ∙ sym (ap (site_after sha256 x) more) ∙ r.site;
          put = rw (add-one count, p, a, x') (sym (ap (λ (cs : List Call). put_answers answers count (site_answers sha256 x cs)) more) ∙ r.put);
          number = omega (arith, r.number);
          table = lt ∙ r.table;
          records = lr ∙ r.records;
          answered = la ∙ r.answered;
        }
