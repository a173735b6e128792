-- An admission that passes: the next place gets the history of the block that is admitted, and the other places keep their histories. Assumes
-- nothing.
use mathlib.Core.Path.{◌≡◌, refl, sym, ap, ◌∙◌, subst}
use mathlib.Core.Bool.{true, cond, ◌&&◌}
use mathlib.Core.Logic.{◌⊎◌, ◌≢◌, inl, inr}
use mathlib.Core.List.Memᴰ
use mathlib.Core.List.{List, ◌++◌, Memᴰ}
use Prim.Native.Nat.{ℕ, ◌<◌}
use native.Mathlib.Nat.{eq-or-lt_of_le, le_of_suc-le-suc}
use native.Mathlib.Omega.{arith}
use lib.Dec.{eqb, ltb}
use borrow.Author.Tests.{eq-eqb, ne_eqb, lt-ltb}
use Rattle.base.specs.Bytes.{Bytes}
use Rattle.base.proofs.Tests.{and_right}
use Rattle.base.proofs.Members.{newest, newest_same}
use Rattle.setup.specs.Setup.{Setup}
use Rattle.table.specs.Layout.{count_of, digest_at}
use Rattle.records.specs.Layout.{part_of}
use Rattle.admission.specs.Admission.{lists}
use Rattle.admission.specs.Promises.{Parented}
use Rattle.history.specs.History.{History, block_of, children, meaning}
use Rattle.history.proofs.Admissions.{Admitted, InTurn}
use Rattle.run.specs.Ledger.{admit, Ledger, taken, view_in}
use Rattle.run.specs.Run.{Site}
use Rattle.run.proofs.NewHistory.{new_history, new_block, child_place, place_child, new_admitted}
use Rattle.run.proofs.Simulation.{Simulates, block_old, block_new, mark_old, mark_new, refers_old}
use Rattle.run.proofs.PlaceHistories.{PlaceHistories}

module _ (digest : Bytes → Bytes) (s : Setup) (size : ℕ) (l : Ledger) (x : Site) (t : Simulates digest s size l x) (g : PlaceHistories digest s l x)
    (b : Bytes) (verdict : ℕ) (p : Parented digest x.table b verdict) where
  abbrev after : Ledger
  after = taken l (admit b verdict)

  -- ---- the new history

  its : (j : ℕ) → j < count_of x.table → block_of (g.history j) ≡ l.block j
  its j h = g.blocks j (omega (arith, t.count))

  digest_is : (j : ℕ) → j < count_of x.table → digest_at x.table j ≡ digest (l.block j)
  digest_is j h = (t.rows j h).digest

  new : History
  new = new_history digest x.table l.block digest_is (λ j h. (t.rows j h).site) (λ j h. (t.rows j h).sequence) g.history its b verdict p

  admitted : Admitted digest (newest g.history (count_of x.table) ++ g.retired) new
  unfolding new
  admitted = new_admitted digest x.table l.block digest_is (λ j h. (t.rows j h).site) (λ j h. (t.rows j h).sequence) g.history its b verdict p g.retired

  new_is : block_of new ≡ b
  unfolding new
  new_is = new_block digest x.table l.block digest_is (λ j h. (t.rows j h).site) (λ j h. (t.rows j h).sequence) g.history its b verdict p

  new_child : (c : History) → Memᴰ c (children new) → (j : ℕ) × (j < l.held) × (lists b (digest (l.block j)) ≡ true) × (c ≡ g.history j)
  unfolding new
  new_child c m =
      let w = child_place digest x.table l.block digest_is (λ j h. (t.rows j h).site) (λ j h. (t.rows j h).sequence) g.history its b verdict p c m in
      (w.0, omega (arith, w.1, t.count), ap (lists b) (sym (digest_is w.0 w.1)) ∙ w.2, w.3)

  new_has : (j : ℕ) → j < l.held → lists b (digest (l.block j)) ≡ true → Memᴰ (g.history j) (children new)
  unfolding new
  new_has j h y =
      let k : j < count_of x.table = omega (arith, t.count) in
      place_child digest x.table l.block digest_is (λ j h. (t.rows j h).site) (λ j h. (t.rows j h).sequence) g.history its b verdict p j k (ap (lists b) (digest_is j k) ∙ y)

  -- ---- the histories of the places

  unfoldable history_after : ℕ → History
  history_after i = cond (eqb i l.held) new (g.history i)

  history_old : (i : ℕ) → i < l.held → history_after i ≡ g.history i
  unfolding history_after
  history_old i h = rw (ne_eqb i l.held (λ e. absurd (omega arith)))

  history_new : history_after l.held ≡ new
  unfolding history_after
  history_new = rw (eq-eqb l.held l.held refl)

  -- a place is the new one or an old one
  old_or_new : (i : ℕ) → i < after.held → (i ≡ l.held) ⊎ (i < l.held)
  unfolding taken
  old_or_new i h = eq-or-lt_of_le (le_of_suc-le-suc h)

  in_turn : InTurn digest (newest history_after after.held ++ g.retired)
  unfolding taken newest
  in_turn =
      let n : newest history_after l.held ≡ newest g.history l.held = newest_same history_after g.history l.held history_old in
      let m : newest g.history (count_of x.table) ≡ newest history_after l.held = ap (newest g.history) t.count ∙ sym n in (
        subst (λ (h : History). Admitted digest (newest history_after l.held ++ g.retired) h) (sym history_new)
            (subst (λ (hs : List History). Admitted digest (hs ++ g.retired) new) m admitted),
        subst (λ (hs : List History). InTurn digest (hs ++ g.retired)) (sym n) g.in_turn,
      )

  blocks : (i : ℕ) → i < after.held → block_of (history_after i) ≡ after.block i
  blocks i h = elim (old_or_new i h) [
    | inl q ↦ subst (λ (k : ℕ). block_of (history_after k) ≡ after.block k) (sym q) (ap block_of history_new ∙ new_is ∙ sym (block_new digest s size l x t b verdict))
    | inr k ↦ ap block_of (history_old i k) ∙ g.blocks i k ∙ sym (block_old digest s size l x t b verdict i k)
  ]

  -- what a place refers to after the call is what it did
  refers_back : (i : ℕ) → i < l.held → (j : ℕ) → ((view_in digest after).row i).refers_to j ≡ ((view_in digest l).row i).refers_to j
  refers_back i h j =
      ap (λ (a : Bytes). ltb j i && lists a (digest (after.block j))) (block_old digest s size l x t b verdict i h)
      ∙ sym (refers_old digest s size l x t b verdict (l.block i) i j (omega arith))

  refers_new : (j : ℕ) → ((view_in digest after).row l.held).refers_to j ≡ (ltb j l.held && lists b (digest (l.block j)))
  refers_new j =
      ap (λ (a : Bytes). ltb j l.held && lists a (digest (after.block j))) (block_new digest s size l x t b verdict)
      ∙ sym (refers_old digest s size l x t b verdict b l.held j (omega arith))

  refers : (i j : ℕ) → i < after.held → j < i → ((view_in digest after).row i).refers_to j ≡ true → Memᴰ (history_after j) (children (history_after i))
  refers i j h low y = elim (old_or_new i h) [
    | inl q ↦
        let below : j < l.held = omega arith in
        let z : (ltb j l.held && lists b (digest (l.block j))) ≡ true = sym (refers_new j) ∙ ap (λ (k : ℕ). ((view_in digest after).row k).refers_to j) (sym q) ∙ y in
        subst (λ (c : History). Memᴰ (history_after j) (children c)) (sym (ap history_after q ∙ history_new))
        (Memᴰ.cast (history_old j below) (new_has j below (and_right (ltb j l.held) (lists b (digest (l.block j))) z)))
    | inr k ↦
        subst (λ (c : History). Memᴰ (history_after j) (children c)) (sym (history_old i k))
        (Memᴰ.cast (history_old j (omega arith)) (g.refers i j k low (sym (refers_back i k j) ∙ y)))
  ]

  waits : (i : ℕ) → i < after.held → after.mark i ≢ 1 → (c : History) → Memᴰ c (children (history_after i))
      → (j : ℕ) × (j < i) × (((view_in digest after).row i).refers_to j ≡ true) × (c ≡ history_after j)
  waits i h n c m = elim (old_or_new i h) [
    | inl q ↦
        let w = new_child c (subst (λ (d : History). Memᴰ c (children d)) (ap history_after q ∙ history_new) m) in (
          w.0,
          omega (arith, w.1),
          ap (λ (k : ℕ). ((view_in digest after).row k).refers_to w.0) q ∙ refers_new w.0 ∙ rw (lt-ltb w.0 l.held w.1, w.2),
          w.3 ∙ sym (history_old w.0 w.1),
        )
    | inr k ↦
        let w = g.waits i k (λ e. n (mark_old digest s size l x t b verdict i k ∙ e)) c (subst (λ (d : History). Memᴰ c (children d)) (history_old i k) m) in
        (w.0, w.1, refers_back i k w.0 ∙ w.2, w.3 ∙ sym (history_old w.0 (omega (arith, w.1))))
  ]

  shown : (i : ℕ) → i < after.held → after.mark i ≡ 1 → part_of x.records i ≡ meaning s (history_after i)
  shown i h m = elim (old_or_new i h) [
    | inl q ↦ let z : after.mark i ≡ 0 = ap after.mark q ∙ mark_new digest s size l x t b verdict in absurd (omega arith)
    | inr k ↦ g.shown i k (sym (mark_old digest s size l x t b verdict i k) ∙ m) ∙ ap (meaning s) (sym (history_old i k))
  ]

  pub admits : (table : Bytes) → PlaceHistories digest s (taken l (admit b verdict)) (record { table = table; records = x.records })
  unfolding taken
  admits table =
      record {
        history = history_after;
        retired = g.retired;
        blocks = blocks;
        retired_blocks = g.retired_blocks;
        in_turn = in_turn;
        refers = refers;
        waits = waits;
        shown = shown;
      }
