-- One turn of each loop, and what the loops' results make of a slot's record. Assumes nothing.
use mathlib.Core.Path.{◌≡◌, refl, sym, ap, ◌∙◌}
use mathlib.Core.Bool.{Bool, true, false, cond}
use mathlib.Core.List.{List, ◌∷◌}
use Prim.Native.Nat.{ℕ, zero, suc, ◌+◌, ◌≤◌, ◌<◌}
use native.Mathlib.Numerals.{add-one}
use native.Mathlib.Omega.{arith}
use lib.ListN.{get_or, set}
use borrow.Author.Tests.{eq-eqb, ne_eqb}
use Rattle.std.specs.Prelude.{IfSome}
use Rattle.std.specs.declared.option.Option.TheVariants.{Some}
use Rattle.base.proofs.List.{list_at, set_list}
use Rattle.setup.specs.Setup.{max_sites}
use Rattle.broadcast.specs.declared.Kind.{Kind}
use Rattle.broadcast.specs.declared.Kind.TheVariants.{Send, Echo, Ready}
use Rattle.broadcast.specs.declared.SlotRecord.{SlotRecord}
use Rattle.broadcast.specs.Process.{made_of, received, receive_all}
use Rattle.broadcast.proofs.Steps.{Sized, nothing_heard, receive_all_append, receive_all_sized}
use Rattle.table.specs.View.{Row, View}
use Rattle.table.specs.Rules.{parent_row}
use Rattle.interpret.specs.Slot.{Direct, parent_state, messages_of, messages}
use Rattle.interpret.specs.Interpretation.{direct_at}
use Rattle.interpret.specs.Steps.{directs_first, least_of, lowest, lowest_in, heard_from, parent_first, state_at}
use Rattle.interpret.proofs.Lowest.{hear_sender}

-- ---- the parent

module _ (v : View) (r : Row) (places : List ℕ) (k : ℕ) where
  pub parent_in : (j : ℕ) → j ≡ get_or places k 0 → parent_row r (v.row j) ≡ true → Some j ≡ parent_first v r places (k + 1)
  unfolding parent_first
  parent_in j e y = rw (add-one k, ← e, y)

  pub parent_out : (j : ℕ) → j ≡ get_or places k 0 → parent_row r (v.row j) ≡ false → parent_first v r places k ≡ parent_first v r places (k + 1)
  unfolding parent_first
  parent_out j e n = rw (add-one k, ← e, n)

-- the parent is a place of the list
pub parent_listed : (P : ℕ → Type 0) (v : View) (r : Row) (places : List ℕ) (k : ℕ) → ((i : ℕ) → i < k → P (get_or places i 0))
    → IfSome (parent_first v r places k) P
unfolding parent_first
parent_listed P v r places zero h = tt
parent_listed P v r places (suc k) h = go (parent_row r (v.row (get_or places k 0))) (parent_listed P v r places k (λ i l. h i (omega arith)))
  where
    go : (t : Bool) → IfSome (parent_first v r places k) P → IfSome (cond t (Some (get_or places k 0)) (parent_first v r places k)) P
    go true ih = h k (omega arith)
    go false ih = ih

-- the parent's record
pub parent_state_lem : (v : View) (b : List ℕ) (slot : ℕ) (r : Row) (places : List ℕ) (k : ℕ)
    → parent_state r.site r.sequence (directs_first v b slot places k) ≡ state_at b slot (parent_first v r places k)
unfolding parent_state directs_first parent_first state_at
parent_state_lem v b slot r places zero = refl
parent_state_lem v b slot r places (suc k) = go (parent_row r (v.row (get_or places k 0))) refl (parent_state_lem v b slot r places k)
  where
    go : (t : Bool) → parent_row r (v.row (get_or places k 0)) ≡ t
        → parent_state r.site r.sequence (directs_first v b slot places k) ≡ state_at b slot (parent_first v r places k)
        → parent_state r.site r.sequence (direct_at v b slot (get_or places k 0) ∷ directs_first v b slot places k)
        ≡ state_at b slot (cond t (Some (get_or places k 0)) (parent_first v r places k))
    go true e ih = rw e
    go false e ih = rw e ih

-- ---- the lowest numbers of a kind, with one block more

pub directs_more : (v : View) (b : List ℕ) (slot : ℕ) (places : List ℕ) (k : ℕ)
    → direct_at v b slot (get_or places k 0) ∷ directs_first v b slot places k ≡ directs_first v b slot places (k + 1)
unfolding directs_first
directs_more v b slot places k = rw (add-one k)

pub low_more : (k : Kind) (d : Direct) (ds : List Direct) (low : List ℕ) (p number : ℕ) → d.site < max_sites → low ≡ lowest_in k ds → p ≡ d.site
    → number ≡ least_of (made_of k d.state) (get_or low p 0) → set low p number ≡ lowest_in k (d ∷ ds)
unfolding lowest
low_more k d ds low p number h q s e =
    let l : p < max_sites = omega arith in
    rw q (set_list (λ x. lowest k x ds) (λ x. lowest k x (d ∷ ds)) max_sites p number l
    (e ∙ rw (eq-eqb _ _ (sym s), q, list_at (λ x. lowest k x ds) max_sites p 0 l))
    (λ x n. rw (ne_eqb d.site x (λ z. n (sym z ∙ sym s)))))

-- ---- the messages of a kind, from one sender more

module _ (n owner : ℕ) (k : Kind) (low : List ℕ) (r s : SlotRecord) (p : ℕ) (e : s ≡ heard_from n owner k low p r) where
  pub hear_in : received s n owner k p (get_or low p 0) ≡ heard_from n owner k low (p + 1) r
  unfolding heard_from
  hear_in = rw (add-one p, e)

  pub hear_out : get_or low p 0 ≡ 0 → s ≡ heard_from n owner k low (p + 1) r
  hear_out z = sym (nothing_heard n owner k p s) ∙ ap (received s n owner k p) (sym z) ∙ hear_in

-- the lowest numbers alone have an effect
pub heard_lowest : (n owner : ℕ) (k : Kind) (ds : List Direct) (r : SlotRecord) → Sized r → (p : ℕ) → p ≤ max_sites
    → heard_from n owner k (lowest_in k ds) p r ≡ receive_all n owner (messages_of k p ds) r
unfolding heard_from messages_of receive_all
heard_lowest n owner k ds r sized zero h = refl
heard_lowest n owner k ds r sized (suc p) h =
    rw (heard_lowest n owner k ds r sized p (omega arith), list_at (λ x. lowest k x ds) max_sites p 0 h) (sym (hear_sender n owner k p ds r sized))

-- kind after kind
module _ (n owner : ℕ) (ds : List Direct) (few : n ≤ max_sites) (sends echoes readies : List ℕ) (i : sends ≡ lowest_in Send ds) (j : echoes ≡ lowest_in Echo ds)
    (k : readies ≡ lowest_in Ready ds) (r : SlotRecord) (sized : Sized r) where
  pub heard_kinds : (s e q : SlotRecord) → s ≡ heard_from n owner Send sends n r → e ≡ heard_from n owner Echo echoes n s → q ≡ heard_from n owner Ready readies n e
      → q ≡ receive_all n owner (messages n ds) r
  unfolding messages
  heard_kinds s e q x y z =
      let a : s ≡ receive_all n owner (messages_of Send n ds) r = x ∙ rw i (heard_lowest n owner Send ds r sized n few) in
      let b : e ≡ receive_all n owner (messages_of Echo n ds) s = y ∙ rw j (heard_lowest n owner Echo ds s (rw a (receive_all_sized n owner (messages_of Send n ds) r sized)) n few) in
      let c : q ≡ receive_all n owner (messages_of Ready n ds) e = z ∙ rw k (heard_lowest n owner Ready ds e (rw (b, a) (receive_all_sized n owner (messages_of Echo n ds) _ (receive_all_sized n owner (messages_of Send n ds) r sized))) n few) in
      simp receive_all_append (rw (← a, ← b) c)
