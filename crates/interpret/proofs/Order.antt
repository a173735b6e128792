-- A slot's record depends on the set of the blocks referred to, not on their order; and it has sixteen entries for each kind heard.
-- Assumes nothing.
use mathlib.Core.Path.{◌≡◌, refl, sym, ap, ap₂, ◌∙◌}
use mathlib.Core.Logic.{◌⊎◌, inl, inr}
use mathlib.Core.Bool.{Bool, true, false}
use mathlib.Core.List.Memᴰ
use mathlib.Core.List.{List, [], ◌∷◌, ◌++◌, map, Memᴰ}
use Prim.Native.Nat.{ℕ, zero, suc}
use Rattle.base.proofs.Tests.{true_not_false}
use Rattle.setup.specs.Setup.{Setup, owner_of}
use Rattle.broadcast.specs.declared.Kind.{Kind}
use Rattle.broadcast.specs.declared.Kind.TheVariants.{Send, Echo, Ready}
use Rattle.broadcast.specs.declared.SlotRecord.{SlotRecord}
use Rattle.broadcast.specs.Record.{blank}
use Rattle.broadcast.specs.Process.{message}
use Rattle.broadcast.proofs.Steps.{Sized, blank_sized, nothing_made_sized, request_sized, receive_all_sized}
use Rattle.table.specs.Rules.{is_parent}
use Rattle.interpret.specs.Slot.{Direct, parent_state, numbers, messages_of, messages, interpret_slot}
use Rattle.interpret.proofs.RisingLists.{same_rising}
use Rattle.interpret.proofs.Messages.{numbers_from, numbers_has, numbers_rising}

-- ---- the same messages

module _ (ds es : List Direct) (f : (d : Direct) → Memᴰ d ds → Memᴰ d es) (g : (d : Direct) → Memᴰ d es → Memᴰ d ds) where
  numbers_same : (k : Kind) (p : ℕ) → numbers k p ds ≡ numbers k p es
  numbers_same k p = same_rising _ _ (numbers_rising ds k p) (numbers_rising es k p) (over ds es f) (over es ds g)
    where
      over : (xs ys : List Direct) → ((d : Direct) → Memᴰ d xs → Memᴰ d ys) → (v : ℕ) → Memᴰ v (numbers k p xs) → Memᴰ v (numbers k p ys)
      over xs ys h v m =
          let w = numbers_from xs k p v m in
          rw (← w.makes) (numbers_has ys k p w.who (h w.who w.among) w.by_site (λ z. w.is_number (sym w.makes ∙ z)))

  messages_of_same : (k : Kind) (n : ℕ) → messages_of k n ds ≡ messages_of k n es
  unfolding messages_of
  messages_of_same k zero = refl
  messages_of_same k (suc p) = ap₂ ◌++◌ (messages_of_same k p) (ap (map (message k p)) (numbers_same k p))

  pub messages_same : (n : ℕ) → messages n ds ≡ messages n es
  unfolding messages
  messages_same n = rw (messages_of_same Send n, messages_of_same Echo n, messages_of_same Ready n)

-- ---- the parent's record

pub record ParentIn (site sequence : ℕ) (ds : List Direct) : Type 0 where
  pub parent : Direct
  pub among : Memᴰ parent ds
  pub is_parent : is_parent site sequence parent.site parent.sequence ≡ true
  pub its : parent_state site sequence ds ≡ parent.state

pub record NoParent (site sequence : ℕ) (ds : List Direct) : Type 0 where
  pub none_is : (d : Direct) → Memᴰ d ds → is_parent site sequence d.site d.sequence ≡ false
  pub blank_is : parent_state site sequence ds ≡ blank

pub parent_state_cases : (site sequence : ℕ) (ds : List Direct) → ParentIn site sequence ds ⊎ NoParent site sequence ds
unfolding parent_state
parent_state_cases site sequence [] = inr (record { none_is = λ d m. absurd (Memᴰ.not-nil m); blank_is = refl })
parent_state_cases site sequence (d ∷ ds) = go (is_parent site sequence d.site d.sequence) refl (parent_state_cases site sequence ds)
  where
    go : (t : Bool) → is_parent site sequence d.site d.sequence ≡ t → ParentIn site sequence ds ⊎ NoParent site sequence ds
        → ParentIn site sequence (d ∷ ds) ⊎ NoParent site sequence (d ∷ ds)
    go true e ih = inl (record { parent = d; among = Memᴰ.head refl; is_parent = e; its = rw e })
    go false e (inl w) = inl (record { parent = w.parent; among = Memᴰ.tail w.among; is_parent = w.is_parent; its = rw e w.its })
    go false e (inr w) = inr (record {
      none_is = λ x m. elim (Memᴰ.cases_cons m) [ inl q ↦ rw q e | inr k ↦ w.none_is x k ];
      blank_is = rw e w.blank_is;
    })

-- what holds of the blank record and of every record of a block referred to holds of the parent's
pub parent_state_keeps : (P : SlotRecord → Type 0) → P blank → (site sequence : ℕ) (ds : List Direct) → ((d : Direct) → Memᴰ d ds → P d.state)
    → P (parent_state site sequence ds)
parent_state_keeps P b site sequence ds h = elim (parent_state_cases site sequence ds) [
  | inl w ↦ rw w.its (h w.parent w.among)
  | inr w ↦ rw w.blank_is b
]

-- ---- the same record

module _ (site sequence : ℕ) (ds es : List Direct) (f : (d : Direct) → Memᴰ d ds → Memᴰ d es) (g : (d : Direct) → Memᴰ d es → Memᴰ d ds)
    (one : (d e : Direct) → Memᴰ d ds → Memᴰ e ds → is_parent site sequence d.site d.sequence ≡ true
    → is_parent site sequence e.site e.sequence ≡ true → d ≡ e) where
  parent_state_same : parent_state site sequence ds ≡ parent_state site sequence es
  parent_state_same = go (parent_state_cases site sequence ds) (parent_state_cases site sequence es)
    where
      go : ParentIn site sequence ds ⊎ NoParent site sequence ds → ParentIn site sequence es ⊎ NoParent site sequence es
          → parent_state site sequence ds ≡ parent_state site sequence es
      go (inl x) (inl y) =
          x.its ∙ ap (λ (d : Direct). d.state) (one x.parent y.parent x.among (g _ y.among) x.is_parent y.is_parent) ∙ sym y.its
      go (inl x) (inr y) = true_not_false x.is_parent (y.none_is x.parent (f _ x.among))
      go (inr x) (inl y) = true_not_false y.is_parent (x.none_is y.parent (g _ y.among))
      go (inr x) (inr y) = x.blank_is ∙ sym y.blank_is

  -- the blocks may be gone through in any order, where at most one of them is a parent
  pub interpret_slot_same : (s : Setup) (slot v : ℕ) → interpret_slot s slot site sequence v ds ≡ interpret_slot s slot site sequence v es
  unfolding interpret_slot
  interpret_slot_same s slot v = rw (messages_same ds es f g s.sites, parent_state_same)

pub interpret_slot_sized : (s : Setup) (slot site sequence v : ℕ) (ds : List Direct) → ((d : Direct) → Memᴰ d ds → Sized d.state)
    → Sized (interpret_slot s slot site sequence v ds)
unfolding interpret_slot
interpret_slot_sized s slot site sequence v ds h =
    receive_all_sized s.sites (owner_of s slot) (messages s.sites ds) _ (request_sized (owner_of s slot) site v _
    (nothing_made_sized _ (parent_state_keeps Sized blank_sized site sequence ds h)))
