-- The places of a site's table and its ledger: each block that counts stands at one of them or was retired, and a place refers to lower places
-- whose digests its block lists. Where no retired block shares a digest with another, each block has one history. Assumes nothing.
use mathlib.Core.Path.{◌≡◌, refl, sym, ap, ap₂, ◌∙◌, subst}
use mathlib.Core.Bool.{true, ◌&&◌}
use mathlib.Core.Logic.{◌⊎◌, ◌↔◌, inl, inr}
use mathlib.Core.List.Memᴰ
use mathlib.Core.List.{List, [], ◌++◌, map, Memᴰ}
use Prim.Native.Nat.{ℕ, zero, suc, ◌<◌}
use native.Mathlib.Nat.{eq-or-lt_of_le, le_of_suc-le-suc}
use native.Mathlib.Omega.{arith}
use lib.Dec.{ltb}
use lib.ListN.{length}
use borrow.Author.Tests.{lt-ltb}
use Rattle.base.specs.Bytes.{Bytes}
use Rattle.base.proofs.Tests.{and_right}
use Rattle.base.proofs.Members.{newest, newest_has, newest_from, newest_same, map_newest}
use Rattle.setup.specs.Setup.{Setup}
use Rattle.block.specs.Limits.{reference_size}
use Rattle.block.specs.Layout.{references_of}
use Rattle.block.specs.Promises.{Shaped}
use Rattle.table.specs.View.{max_places}
use Rattle.table.specs.Layout.{setup_of, count_of, row_at, view_of}
use Rattle.table.proofs.Views.{RowForm}
use Rattle.table.proofs.InForm.{table_form, formed_row, one_place}
use Rattle.admission.specs.Admission.{lists}
use Rattle.admission.proofs.ReferenceList.{lists_member, member_lists}
use Rattle.history.specs.History.{History, block_of, children}
use Rattle.history.specs.Ancestry.{history_of}
use Rattle.history.specs.Forks.{NoCollision}
use Rattle.history.proofs.Admissions.{digest_of, Admitted, InTurn, admitted_in}
use Rattle.history.proofs.Ancestry.{OneHistory, history_is}
use Rattle.run.specs.Ledger.{Ledger}
use Rattle.run.specs.Run.{Site}
use Rattle.run.specs.Promises.{Placed, InterpretedBlock, RetiredClear, history_at}
use Rattle.run.proofs.PlaceHistories.{histories, history_in}
use Rattle.run.proofs.Runs.{RunInvariant}

-- what was checked of the history at a place, among those of the lower places
turn_at : (digest : Bytes → Bytes) (f : ℕ → History) (k : ℕ) (rest : List History) → InTurn digest (newest f k ++ rest) → (i : ℕ) → i < k
    → Admitted digest (newest f i ++ rest) (f i)
unfolding newest
turn_at digest f zero rest g i h = absurd (omega arith)
turn_at digest f (suc k) rest g i h = elim (eq-or-lt_of_le (le_of_suc-le-suc h)) [
  | inl q ↦ subst (λ (j : ℕ). Admitted digest (newest f j ++ rest) (f j)) (sym q) g.0
  | inr l ↦ turn_at digest f k rest g.1 i l
]

pub record LedgerPlaces (digest : Bytes → Bytes) (l : Ledger) (t : Bytes) : Type 0 where
  -- the places of the table are the ledger's
  pub counted : (i : ℕ) → i < l.held → i < count_of t
  pub held : (i : ℕ) → i < count_of t → i < l.held
  pub fits : (i : ℕ) → i < l.held → i < max_places
  pub row : (i : ℕ) → i < l.held → RowForm (setup_of t) (view_of t) i
  -- the blocks of the ledger are those at the places and the retired ones
  pub among : (i : ℕ) → i < l.held → Memᴰ (l.block i) l.blocks
  pub placed : (b : Bytes) → Memᴰ b l.blocks ↔ (Placed l b ⊎ Memᴰ b l.retired)
  -- what a place refers to is listed by its block
  pub lists : (i j : ℕ) → i < l.held → j < l.held → (row_at t i).refers_to j ≡ true → Memᴰ (digest (l.block j)) (references_of (l.block i))
  -- where nothing was retired, each block of the ledger stands at a place, and what a block lists its place refers to
  pub all_placed : l.retired ≡ [] → (b : Bytes) → Memᴰ b l.blocks → Placed l b
  pub refers : l.retired ≡ [] → (i j : ℕ) → i < l.held → j < l.held → Memᴰ (digest (l.block j)) (references_of (l.block i)) → (row_at t i).refers_to j ≡ true

module _ (digest : Bytes → Bytes) (sized : (b : Bytes) → length (digest b) ≡ reference_size) (s : Setup) (size : ℕ) (l : Ledger) (x : Site)
    (t : RunInvariant digest sized s size l x) where
  abbrev table : Bytes
  table = x.table

  counted : (i : ℕ) → i < l.held → i < count_of table
  counted i h = omega (arith, t.simulated.count)

  fits : (i : ℕ) → i < l.held → i < max_places
  fits i h = omega (arith, counted i h, (table_form table t.simulated.formed).held.fits)

  -- ---- blocks and places

  placed : (b : Bytes) → Memᴰ b l.blocks ↔ (Placed l b ⊎ Memᴰ b l.retired)
  placed b = (there, back)
    where
      there : Memᴰ b l.blocks → Placed l b ⊎ Memᴰ b l.retired
      there m = elim (Memᴰ.append_cases (newest l.block l.held) (subst (Memᴰ b) t.simulated.stand m)) [
        | inl k ↦ inl (newest_from l.block l.held b k)
        | inr k ↦ inr k
      ]

      back : Placed l b ⊎ Memᴰ b l.retired → Memᴰ b l.blocks
      back (inl w) = subst (Memᴰ b) (sym t.simulated.stand) (Memᴰ.append_left l.retired (Memᴰ.cast w.2 (newest_has l.block l.held w.0 w.1)))
      back (inr k) = subst (Memᴰ b) (sym t.simulated.stand) (Memᴰ.append_right (newest l.block l.held) k)

  among : (i : ℕ) → i < l.held → Memᴰ (l.block i) l.blocks
  among i h = (placed (l.block i)).1 (inl (i, h, refl))

  none_retired : l.retired ≡ [] → (b : Bytes) → Memᴰ b l.retired → ⊥
  none_retired e b m = Memᴰ.not-nil (subst (Memᴰ b) e m)

  all_placed : l.retired ≡ [] → (b : Bytes) → Memᴰ b l.blocks → Placed l b
  all_placed e b m = elim ((placed b).0 m) [ inl w ↦ w | inr r ↦ absurd (none_retired e b r) ]

  pub interpreted_among : (b : Bytes) → InterpretedBlock l b → Memᴰ b l.blocks
  interpreted_among b (inl w) = (placed b).1 (inl (w.0, w.1.below, w.2))
  interpreted_among b (inr r) = (placed b).1 (inr r)

  -- two places do not share a digest
  distinct : (i j : ℕ) → i < l.held → j < l.held → digest (l.block i) ≡ digest (l.block j) → i ≡ j
  distinct i j h k e = one_place table t.simulated.formed i j (counted i h) (counted j k)
      ((t.simulated.rows i (counted i h)).digest ∙ e ∙ sym (t.simulated.rows j (counted j k)).digest)

  -- ---- references

  shaped : (i : ℕ) → i < l.held → Shaped (l.block i)
  shaped i h = subst Shaped (t.known.blocks i h)
      (admitted_in digest (histories digest s l x t.known) t.known.in_turn (t.known.history i) (history_in digest s l x t.known i h)).shape

  refers_is : (i j : ℕ) → i < l.held → j < l.held → (row_at table i).refers_to j ≡ (ltb j i && lists (l.block i) (digest (l.block j)))
  refers_is i j h k = (t.simulated.rows i (counted i h)).refers_to j (fits j k)

  lists_it : (i j : ℕ) → i < l.held → j < l.held → (row_at table i).refers_to j ≡ true → Memᴰ (digest (l.block j)) (references_of (l.block i))
  lists_it i j h k e = lists_member (l.block i) (shaped i h) (digest (l.block j)) (and_right (ltb j i) _ (sym (refers_is i j h k) ∙ e))

  -- where nothing was retired, a block lists lower places only
  lower : l.retired ≡ [] → (i j : ℕ) → i < l.held → j < l.held → Memᴰ (digest (l.block j)) (references_of (l.block i)) → j < i
  lower e i j h k m = go (Memᴰ.append_cases (newest t.known.history i) (a.among c.0 c.1))
    where
      a : Admitted digest (newest t.known.history i ++ t.known.retired) (t.known.history i)
      a = turn_at digest t.known.history l.held t.known.retired t.known.in_turn i h

      c : (c : History) × Memᴰ c (children (t.known.history i)) × (digest_of digest c ≡ digest (l.block j))
      c = Memᴰ.of_map (digest_of digest) (children (t.known.history i))
          (subst (Memᴰ (digest (l.block j))) (sym (a.listed ∙ ap references_of (t.known.blocks i h))) m)

      go : Memᴰ c.0 (newest t.known.history i) ⊎ Memᴰ c.0 t.known.retired → j < i
      go (inl n) =
          let w = newest_from t.known.history i c.0 n in
          let q : w.0 ≡ j = distinct w.0 j (omega (arith, w.1)) k (ap digest (sym (t.known.blocks w.0 (omega (arith, w.1)))) ∙ ap (digest_of digest) (sym w.2) ∙ c.2) in
          omega (arith, w.1)
      go (inr n) = absurd (none_retired e (block_of c.0) (subst (Memᴰ (block_of c.0)) t.known.retired_blocks (Memᴰ.map block_of n)))

  refers_it : l.retired ≡ [] → (i j : ℕ) → i < l.held → j < l.held → Memᴰ (digest (l.block j)) (references_of (l.block i)) → (row_at table i).refers_to j ≡ true
  refers_it e i j h k m = refers_is i j h k ∙ rw (lt-ltb j i (lower e i j h k m), member_lists (l.block i) (shaped i h) (digest (l.block j)) m)

  pub standing : LedgerPlaces digest l table
  standing =
      record {
        counted = counted;
        held = λ i h. omega (arith, t.simulated.count);
        fits = fits;
        row = λ i h. formed_row table t.simulated.formed i (counted i h);
        among = among;
        placed = placed;
        lists = lists_it;
        all_placed = all_placed;
        refers = refers_it;
      }

  -- ---- one history for each block

  -- the histories' blocks are the ledger's
  blocks_are : map block_of (histories digest s l x t.known) ≡ l.blocks
  blocks_are =
      map_newest block_of t.known.history l.held t.known.retired
      ∙ ap₂ ◌++◌ (newest_same (λ i. block_of (t.known.history i)) l.block l.held t.known.blocks) t.known.retired_blocks ∙ sym t.simulated.stand

  pub block_in : (h : History) → Memᴰ h (histories digest s l x t.known) → Memᴰ (block_of h) l.blocks
  block_in h m = subst (Memᴰ (block_of h)) blocks_are (Memᴰ.map block_of m)

  -- the blocks at places have different digests; so where the retired ones share none, no two blocks do
  no_collision : RetiredClear digest l → NoCollision digest l.blocks
  no_collision clear a b ma mb e = go ((placed a).0 ma) ((placed b).0 mb)
    where
      go : Placed l a ⊎ Memᴰ a l.retired → Placed l b ⊎ Memᴰ b l.retired → a ≡ b
      go (inr r) q = clear a b r mb e
      go (inl p) (inr r) = sym (clear b a r ma (sym e))
      go (inl p) (inl q) = p.2 ∙ ap l.block (distinct p.0 q.0 p.1 q.1 (ap digest (sym p.2) ∙ e ∙ ap digest q.2)) ∙ sym q.2

  pub one_history_each : RetiredClear digest l → OneHistory digest l.blocks
  one_history_each clear = record { histories = histories digest s l x t.known; are = blocks_are; in_turn = t.known.in_turn; safe = no_collision clear }

  -- that of a place's block by digest is the one that it was admitted with
  pub place_history : RetiredClear digest l → (i : ℕ) → i < l.held → history_at digest l i ≡ t.known.history i
  unfolding one_history_each
  place_history clear i h =
      ap (history_of digest l.blocks) (sym (t.known.blocks i h))
      ∙ history_is digest l.blocks (one_history_each clear) (t.known.history i) (history_in digest s l x t.known i h)

  pub unretired_clear : l.retired ≡ [] → RetiredClear digest l
  unretired_clear e a b m n d = absurd (none_retired e a m)

  -- where no two different blocks of the ledger share a digest, the retired ones share none
  pub safe_clear : NoCollision digest l.blocks → RetiredClear digest l
  safe_clear safe a b m n d = safe a b ((placed a).1 (inr m)) n d
