-- The turns of a pass, and of all passes: what was done so far and what is left to do make what the whole pass, or all passes, come to. Assumes
-- nothing.
use mathlib.Core.Path.{◌≡◌, sym, ap, ap₂, ◌∙◌}
use mathlib.Core.Bool.{Bool, true, false, cond, ◌||◌}
use mathlib.Core.List.{List, [], ◌∷◌, ◌++◌, append_assoc, append-nil}
use Prim.Native.Nat.{ℕ, suc, ◌+◌, ◌≤◌, ◌<◌}
use native.Mathlib.Numerals.{add-one}
use native.Mathlib.Omega.{arith}
use lib.Dec.{eqb}
use lib.ListN.{length, get_or, take, drop, length-append, drop_of_length-le}
use lib.Seq.{take_all, take_at, drop_at, drop-cons, take-suc, length-take-le}
use borrow.Author.Tests.{eqb-true, ne_eqb}
use Rattle.base.specs.Bytes.{Bytes}
use Rattle.base.specs.List.{some_in}
use Rattle.base.proofs.Tests.{by_test, or_false, or_assoc}
use Rattle.answer.specs.Buffer.{put_answers}
use Rattle.answer.specs.declared.Answer.{Answer}
use Rattle.answer.proofs.Buffer.{put_append}
use Rattle.shelf.specs.Layout.{Waiting}
use Rattle.shelf.specs.Rules.{is_for}
use Rattle.shelf.specs.Steps.{no_waiting, without}
use Rattle.admission.specs.Admission.{admission, admitted}
use Rattle.admission.proofs.Effect.{refused_table}
use Rattle.campaigns.specs.Passes.{PassResult, waits_on, outcome, outcomes_of, tried_before, left_before, admits, pass, passes, settled}
use Rattle.campaigns.specs.Steps.{Turned, passed_by, taken_out, turned}
use Rattle.campaigns.specs.declared.Pass.{Pass}
use Rattle.campaigns.proofs.Inductions.{pass_fewer, passes_enough}
use Rattle.campaigns.proofs.Tries.{outcomes_append}

-- ---- the outcomes in the buffer, and how many

pub record Noted : Type 0 where
  pub numbers : List ℕ
  pub count : ℕ

abbrev pub noted : Noted → List Answer → Noted
noted e os = record { numbers = put_answers e.numbers e.count os; count = e.count + length os }

noted_none : (e : Noted) → noted e [] ≡ e
unfolding put_answers
noted_none e = ap (λ (n : ℕ). record { numbers = e.numbers; count = n }) (omega arith)

noted_append : (e : Noted) (os ps : List Answer) → noted (noted e os) ps ≡ noted e (os ++ ps)
noted_append e os ps =
    ap₂ (λ (l : List ℕ) (n : ℕ). record { numbers = l; count = n }) (put_append e.numbers e.count os ps) (omega (arith, length-append os ps))

-- ---- what a pass comes to

pub record Result : Type 0 where
  pub table : Bytes
  pub waiting : List Waiting
  pub outcomes : Noted
  pub admitted : Bool

-- what waits before the entries that are left, what has been noted and admitted, and what a pass over the rest leaves
abbrev pub resumed : List Waiting → Noted → Bool → PassResult → Result
resumed us e adm q = record { table = q.table; waiting = us ++ q.waiting; outcomes = noted e (outcomes_of q.tries); admitted = adm || admits q.tries }

module _ (us : List Waiting) (e : Noted) (adm : Bool) (w : Waiting) (q : PassResult) where
  snoc : (us ++ (w ∷ [])) ++ q.waiting ≡ us ++ (w ∷ q.waiting)
  snoc = append_assoc us (w ∷ []) q.waiting

  first_left : resumed (us ++ (w ∷ [])) e adm q ≡ resumed us e adm (left_before w q)
  first_left = ap (λ (l : List Waiting). record { table = q.table; waiting = l; outcomes = noted e (outcomes_of q.tries); admitted = adm || admits q.tries }) snoc

  module _ (a : Answer) where
    first_stays : waits_on a ≡ true → resumed (us ++ (w ∷ [])) e adm q ≡ resumed us e adm (tried_before w a q)
    unfolding outcomes_of admits some_in
    first_stays z =
        let r : a.refusal ≡ 9 = eqb-true a.refusal 9 z in
        let o : eqb a.refusal 0 ≡ false = ne_eqb a.refusal 0 (λ k. omega arith) in
        rw (z, o) first_left

    first_goes : waits_on a ≡ false → resumed us (noted e (outcome a ∷ [])) (adm || eqb a.refusal 0) q ≡ resumed us e adm (tried_before w a q)
    unfolding outcomes_of admits some_in
    first_goes n =
        rw n
        (ap₂ (λ (x : Noted) (y : Bool). record { table = q.table; waiting = us ++ q.waiting; outcomes = x; admitted = y })
        (noted_append e (outcome a ∷ []) (outcomes_of q.tries)) (or_assoc adm (eqb a.refusal 0) (admits q.tries)))

-- what the passes come to
pub record Came : Type 0 where
  pub table : Bytes
  pub waiting : List Waiting
  pub outcomes : Noted

abbrev pub came_to : Noted → PassResult → Came
came_to e q = record { table = q.table; waiting = q.waiting; outcomes = noted e (outcomes_of q.tries) }

module _ (digest : Bytes → Bytes) (c : ℕ) where
  -- what is left to do, from where the pass stands
  unfoldable pub left_of : Bytes → List Waiting → List ℕ → Pass → Result
  left_of t ws o p = resumed (take p.at ws) (record { numbers = o; count = p.ended }) p.admitted (pass digest t c (drop p.at ws))

  -- nothing is left
  pub left_none : (t : Bytes) (ws : List Waiting) (o : List ℕ) (p : Pass) → length ws ≤ p.at
      → left_of t ws o p ≡ record { table = t; waiting = ws; outcomes = record { numbers = o; count = p.ended }; admitted = p.admitted }
  unfolding left_of pass outcomes_of admits some_in
  left_none t ws o p h =
      let e : Noted = record { numbers = o; count = p.ended } in
      ap₂ (λ (us vs : List Waiting). resumed us e p.admitted (pass digest t c vs)) (take_all p.at ws h) (drop_of_length-le ws h)
      ∙ ap₂ (λ (us : List Waiting) (y : Bool). record { table = t; waiting = us; outcomes = noted e []; admitted = y }) (append-nil ws) (or_false p.admitted)
      ∙ ap (λ (x : Noted). record { table = t; waiting = ws; outcomes = x; admitted = p.admitted }) (noted_none e)

  module _ (t : Bytes) (ws : List Waiting) (o : List ℕ) (p : Pass) (below : p.at < length ws) where
    abbrev here : Waiting
    here = get_or ws p.at no_waiting

    abbrev answer : Answer
    answer = admission digest t here.block 1

    abbrev front : List Waiting
    front = take p.at ws

    abbrev rest : List Waiting
    rest = drop (suc p.at) ws

    abbrev before : Noted
    before = record { numbers = o; count = p.ended }

    -- the entry here is first
    left_here : left_of t ws o p ≡ resumed front before p.admitted (pass digest t c (here ∷ rest))
    unfolding left_of
    left_here = ap (λ (vs : List Waiting). resumed front before p.admitted (pass digest t c vs)) (drop-cons ws p.at no_waiting below)

    -- the pass goes by it
    left_by : left_of t ws o (passed_by t ws o p).next ≡ resumed (front ++ (here ∷ [])) before p.admitted (pass digest t c rest)
    unfolding left_of
    left_by =
        ap (λ (n : ℕ). resumed (take n ws) before p.admitted (pass digest t c (drop n ws))) (add-one p.at)
        ∙ ap (λ (us : List Waiting). resumed us before p.admitted (pass digest t c rest)) (take-suc ws p.at no_waiting below)

    front_length : length front ≡ p.at
    front_length = length-take-le p.at ws (omega arith)

    -- it is taken out
    left_out : (a : Answer) (t' : Bytes) → left_of t' (without p.at ws) (taken_out a t' ws o p).outcomes (taken_out a t' ws o p).next
        ≡ resumed front (noted before (outcome a ∷ [])) (p.admitted || eqb a.refusal 0) (pass digest t' c rest)
    unfolding left_of put_answers
    left_out a t' =
        ap₂ (λ (us vs : List Waiting). resumed us (noted before (outcome a ∷ [])) (p.admitted || eqb a.refusal 0) (pass digest t' c vs))
        (take_at front rest p.at front_length) (drop_at front rest p.at front_length)

    abbrev turn : Turned
    turn = turned digest t ws o c p

    pub left_turn : left_of turn.table turn.waiting turn.outcomes turn.next ≡ left_of t ws o p
    unfolding turned pass
    left_turn =
        by_test (is_for c here)
        (λ y.
        by_test (waits_on answer)
        (λ z.
        let r : answer.refusal ≡ 9 = eqb-true answer.refusal 9 z in
        let same : admitted digest t here.block 1 ≡ t = refused_table digest t here.block 1 (λ k. omega arith) in
        rw (y, z) (left_by ∙ first_stays front before p.admitted here (pass digest t c rest) answer z ∙ sym (left_here ∙ rw (y, same))))
        (λ n.
        rw (y, n)
        (left_out answer (admitted digest t here.block 1)
        ∙ first_goes front before p.admitted here (pass digest (admitted digest t here.block 1) c rest) answer n ∙ sym (left_here ∙ rw y))))
        (λ n. rw n (left_by ∙ first_left front before p.admitted here (pass digest t c rest) ∙ sym (left_here ∙ rw n)))

  -- ---- the passes

  -- what is left to do: all passes, or none
  unfoldable pub rest_of : Bool → Bytes → List Waiting → Noted → Came
  rest_of again t ws e = cond again (came_to e (settled digest t c ws)) (record { table = t; waiting = ws; outcomes = e })

  pub rest_turn : (t : Bytes) (ws : List Waiting) (e : Noted)
      → rest_of (admits (pass digest t c ws).tries) (pass digest t c ws).table (pass digest t c ws).waiting (noted e (outcomes_of (pass digest t c ws).tries))
      ≡ rest_of true t ws e
  unfolding rest_of settled passes
  rest_turn t ws e =
      let p = pass digest t c ws in
      by_test (admits p.tries)
      (λ y.
      let l = pass_fewer digest c ws t y in
      let q = passes digest (length ws) p.table c p.waiting in
      let more : passes digest (suc (length p.waiting)) p.table c p.waiting ≡ q =
      passes_enough digest c (suc (length p.waiting)) (length ws) p.table p.waiting (omega arith) l in
      rw y
      (ap (came_to (noted e (outcomes_of p.tries))) more
      ∙ ap (λ (x : Noted). record { table = q.table; waiting = q.waiting; outcomes = x })
      (noted_append e (outcomes_of p.tries) (outcomes_of q.tries) ∙ ap (noted e) (sym (outcomes_append p.tries q.tries)))))
      (λ y. rw y)
