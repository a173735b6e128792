-- `same` meets its contract: bytes that differ at an index are not the same, and bytes that differ at none are. Assumes nothing.
use mathlib.Core.Path.{◌≡◌, refl, sym, ap, ◌∙◌}
use mathlib.Core.Bool.{true, false}
use Prim.Native.Nat.{ℕ, ◌<◌}
use native.Mathlib.Omega.{arith}
use lib.ListN.{length, get_or}
use lib.Seq.{ext_get_or}
use borrow.Author.Rules.{rules}
use Rattle.base.specs.Bytes.{Bytes, same_bytes}
use Rattle.base.proofs.Tests.{by_test, true_not_false, one_more_lem}
use Rattle.base.proofs.Bytes.{other_same, equal_same}
use Rattle.base.proofs.same.Goals as goal
use Rattle.base.proofs.same.Goals.{then-a-i, else-a-i}

-- two that differ at an index, and two that are the same at each
differ : (a b : Bytes) (i : ℕ) → (get_or a i 0 ≡ get_or b i 0 → ⊥) → same_bytes a b ≡ false
differ a b i n = other_same a b (λ e. n (ap (λ (x : Bytes). get_or x i 0) e))

agree : (a b : Bytes) → length a ≡ length b → ((j : ℕ) → j < length a → get_or a j 0 ≡ get_or b j 0) → same_bytes a b ≡ true
agree a b l e = equal_same a b (ext_get_or 0 a b l e)

pub returns-then-a-b : goal.returns-then-a-b
returns-then-a-b c = sym (other_same _ _ (λ e. c.if-a-b.true (ap length e)))

pub loop-i-init : goal.loop-i-init
loop-i-init c = (search rules, λ y j h. absurd (omega arith), λ n. true_not_false {t = true} refl n)

pub loop-i-preserved : goal.loop-i-preserved
loop-i-preserved c =
    let l = c.loop-i in
    let a = c.args in (
      search rules,
      λ y. elim c.if-a-i.branch [
        | then-a-i w ↦ true_not_false y w.are_same-is
        | else-a-i w ↦ one_more_lem (λ j. get_or a.a.now j 0 ≡ get_or a.b.now j 0) l.i w.if-a-i.false (l.invariant.1 (sym w.are_same-is ∙ y))
      ],
      λ n. elim c.if-a-i.branch [ then-a-i w ↦ differ a.a.now a.b.now l.i w.if-a-i.true | else-a-i w ↦ l.invariant.2 (sym w.are_same-is ∙ n) ],
    )

pub returns : goal.returns
returns c =
    let l = c.loop-i in
    by_test l.are_same (λ y. y ∙ sym (agree _ _ l.invariant.0 (λ j h. l.invariant.1 y j (omega arith)))) (λ n. n ∙ sym (l.invariant.2 n))

pub returns-then-a-k : goal.returns-then-a-k
returns-then-a-k c = sym (differ _ _ c.loop-k.k c.if-a-k.true)
