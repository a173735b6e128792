-- The messages made in the blocks referred to: which block made each, and that each number made is among them. Assumes nothing.
use mathlib.Core.Path.{◌≡◌, refl, sym, ◌∙◌}
use mathlib.Core.Logic.{◌⊎◌, ◌≢◌, inl, inr}
use mathlib.Core.Bool.{Bool, true, false, not, ◌&&◌}
use mathlib.Core.List.Memᴰ
use mathlib.Core.List.{List, [], ◌∷◌, map, Memᴰ}
use Prim.Native.Nat.{ℕ, zero, suc, ◌<◌}
use native.Mathlib.Nat.{eq-or-lt_of_le, le_of_suc-le-suc}
use native.Mathlib.Omega.{arith}
use lib.Dec.{eqb}
use borrow.Author.Tests.{eqb-true, eqb-false}
use Rattle.broadcast.specs.declared.Kind.{Kind}
use Rattle.broadcast.specs.declared.Kind.TheVariants.{Send, Echo, Ready}
use Rattle.broadcast.specs.Process.{Message, message, made_of}
use Rattle.interpret.specs.Slot.{Direct, insert_if, numbers, messages_of, messages}
use Rattle.interpret.proofs.RisingLists.{insert_from, insert_new, insert_old, Rising, insert_rising}

-- what a number has behind it: one of the blocks made it
pub record MadeBy (ds : List Direct) (k : Kind) (p v : ℕ) : Type 0 where
  pub who : Direct
  pub among : Memᴰ who ds
  pub by_site : who.site ≡ p
  pub makes : made_of k who.state ≡ v
  pub is_number : v ≢ 0

made_by_tail : (d : Direct) (ds : List Direct) (k : Kind) (p v : ℕ) → MadeBy ds k p v → MadeBy (d ∷ ds) k p v
made_by_tail d ds k p v f = record { who = f.who; among = Memᴰ.tail f.among; by_site = f.by_site; makes = f.makes; is_number = f.is_number }

-- ---- the numbers of a kind and a site

pub numbers_from : (ds : List Direct) (k : Kind) (p v : ℕ) → Memᴰ v (numbers k p ds) → MadeBy ds k p v
unfolding numbers insert_if
numbers_from [] k p v m = absurd (Memᴰ.not-nil m)
numbers_from (d ∷ ds) k p v m = go (eqb d.site p) (eqb (made_of k d.state) 0) refl refl m (λ j. made_by_tail d ds k p v (numbers_from ds k p v j))
  where
    go : (s t : Bool) → eqb d.site p ≡ s → eqb (made_of k d.state) 0 ≡ t → Memᴰ v (insert_if (s && not t) (made_of k d.state) (numbers k p ds))
        → (Memᴰ v (numbers k p ds) → MadeBy (d ∷ ds) k p v) → MadeBy (d ∷ ds) k p v
    go true false e f j ih = elim (insert_from (made_of k d.state) (numbers k p ds) v j) [
      | inl q ↦ record { who = d; among = Memᴰ.head refl; by_site = eqb-true _ _ e; makes = sym q; is_number = λ z. eqb-false _ _ f (sym q ∙ z) }
      | inr i ↦ ih i
    ]
    go true true e f j ih = ih j
    go false t e f j ih = ih j

pub numbers_has : (ds : List Direct) (k : Kind) (p : ℕ) (d : Direct) → Memᴰ d ds → d.site ≡ p → made_of k d.state ≢ 0
    → Memᴰ (made_of k d.state) (numbers k p ds)
unfolding numbers insert_if
numbers_has [] k p d m s n = absurd (Memᴰ.not-nil m)
numbers_has (x ∷ ds) k p d m s n =
    go (eqb x.site p) (eqb (made_of k x.state) 0) refl refl (Memᴰ.cases_cons m) (λ j. numbers_has ds k p d j s n)
  where
    go : (r t : Bool) → eqb x.site p ≡ r → eqb (made_of k x.state) 0 ≡ t → (d ≡ x) ⊎ Memᴰ d ds
        → (Memᴰ d ds → Memᴰ (made_of k d.state) (numbers k p ds))
        → Memᴰ (made_of k d.state) (insert_if (r && not t) (made_of k x.state) (numbers k p ds))
    go true false e f (inl q) ih = rw q (insert_new (made_of k x.state) (numbers k p ds))
    go true false e f (inr j) ih = insert_old (made_of k x.state) (numbers k p ds) (made_of k d.state) (ih j)
    go true true e f (inl q) ih = absurd (n (rw q (eqb-true _ _ f)))
    go true true e f (inr j) ih = ih j
    go false t e f (inl q) ih = absurd (eqb-false _ _ e (rw q at s))
    go false t e f (inr j) ih = ih j

pub numbers_rising : (ds : List Direct) (k : Kind) (p : ℕ) → Rising (numbers k p ds)
unfolding numbers insert_if
numbers_rising [] k p = tt
numbers_rising (d ∷ ds) k p = go (eqb d.site p && not (eqb (made_of k d.state) 0)) (numbers_rising ds k p)
  where
    go : (t : Bool) → Rising (numbers k p ds) → Rising (insert_if t (made_of k d.state) (numbers k p ds))
    go true a = insert_rising (made_of k d.state) (numbers k p ds) a
    go false a = a

-- ---- the messages

messages_of_from : (ds : List Direct) (k : Kind) (n : ℕ) (m : Message) → Memᴰ m (messages_of k n ds) → MadeBy ds m.kind m.sender m.number
unfolding messages_of
messages_of_from ds k zero m j = absurd (Memᴰ.not-nil j)
messages_of_from ds k (suc p) m j = elim (Memᴰ.append_cases (messages_of k p ds) j) [
  | inl i ↦ messages_of_from ds k p m i
  | inr i ↦ let w = Memᴰ.of_map _ (numbers k p ds) i in rw (← w.2) (numbers_from ds k p w.0 w.1)
]

pub messages_from : (n : ℕ) (ds : List Direct) (m : Message) → Memᴰ m (messages n ds) → MadeBy ds m.kind m.sender m.number
unfolding messages
messages_from n ds m j = elim (Memᴰ.append_cases (messages_of Send n ds) j) [
  | inl i ↦ messages_of_from ds Send n m i
  | inr i ↦ elim (Memᴰ.append_cases (messages_of Echo n ds) i) [ inl l ↦ messages_of_from ds Echo n m l | inr l ↦ messages_of_from ds Ready n m l ]
]

messages_of_has : (ds : List Direct) (k : Kind) (n : ℕ) (d : Direct) → Memᴰ d ds → d.site < n → made_of k d.state ≢ 0
    → Memᴰ (message k d.site (made_of k d.state)) (messages_of k n ds)
unfolding messages_of
messages_of_has ds k zero d j h nz = absurd (omega arith)
messages_of_has ds k (suc p) d j h nz = elim (eq-or-lt_of_le (le_of_suc-le-suc h)) [
  | inl q ↦ rw q (Memᴰ.append_right (messages_of k p ds) (Memᴰ.map (message k p) (numbers_has ds k p d j q nz)))
  | inr l ↦ Memᴰ.append_left (map (message k p) (numbers k p ds)) (messages_of_has ds k p d j l nz)
]

pub messages_has : (n : ℕ) (ds : List Direct) (k : Kind) (d : Direct) → Memᴰ d ds → d.site < n → made_of k d.state ≢ 0
    → Memᴰ (message k d.site (made_of k d.state)) (messages n ds)
unfolding messages
messages_has n ds Send d j h nz = Memᴰ.append_left _ (messages_of_has ds Send n d j h nz)
messages_has n ds Echo d j h nz = Memᴰ.append_right (messages_of Send n ds) (Memᴰ.append_left _ (messages_of_has ds Echo n d j h nz))
messages_has n ds Ready d j h nz = Memᴰ.append_right (messages_of Send n ds) (Memᴰ.append_right (messages_of Echo n ds) (messages_of_has ds Ready n d j h nz))
