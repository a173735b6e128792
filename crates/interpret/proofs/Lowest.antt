-- Of the numbers of one kind from one sender only the lowest has an effect, so the code hears no other. Assumes nothing.
use mathlib.Core.Path.{◌≡◌, refl, sym, ap, ◌∙◌}
use mathlib.Core.Logic.{◌≢◌}
use mathlib.Core.Bool.{Bool, true, false, not, ◌&&◌, cond}
use mathlib.Core.List.Memᴰ
use mathlib.Core.List.{List, [], ◌∷◌, map}
use Prim.Native.Nat.{ℕ, suc}
use lib.Dec.{eqb, ltb}
use borrow.Author.Tests.{ne_eqb, eqb-false}
use Rattle.broadcast.specs.declared.Kind.{Kind}
use Rattle.broadcast.specs.declared.SlotRecord.{SlotRecord}
use Rattle.broadcast.specs.Process.{message, made_of, received, receive_all}
use Rattle.broadcast.proofs.Steps.{Sized, receive_all_append, receive_all_sized}
use Rattle.broadcast.proofs.FirstMessage.{first, only_first}
use Rattle.interpret.specs.Slot.{Direct, insert, insert_if, numbers, messages_of}
use Rattle.interpret.specs.Steps.{least_of, lowest}
use Rattle.interpret.proofs.Messages.{numbers_from}

-- none of the numbers is 0, so the first is not
first_some : (ds : List Direct) (k : Kind) (p v : ℕ) (m : List ℕ) → numbers k p ds ≡ v ∷ m → v ≢ 0
first_some ds k p v m e = (numbers_from ds k p v (rw e (Memᴰ.head refl))).is_number

first_insert : (v : ℕ) (l : List ℕ) → v ≢ 0 → ((x : ℕ) (m : List ℕ) → l ≡ x ∷ m → x ≢ 0) → first (insert v l) ≡ least_of v (first l)
unfolding insert least_of
first_insert v [] h a = rw (ne_eqb v 0 h)
first_insert v (x ∷ l) h a = go (ltb v x) (eqb v x) refl
  where
    go : (s t : Bool) → ltb v x ≡ s → first (cond s (v ∷ x ∷ l) (cond t (x ∷ l) (x ∷ insert v l))) ≡ least_of v x
    go true t e = rw (ne_eqb v 0 h, ne_eqb x 0 (a x l refl), e)
    go false true e = rw (ne_eqb v 0 h, ne_eqb x 0 (a x l refl), e)
    go false false e = rw (ne_eqb v 0 h, ne_eqb x 0 (a x l refl), e)

least_none : (v w : ℕ) → eqb v 0 ≡ true → least_of v w ≡ w
unfolding least_of
least_none v w e = rw e

pub first_lowest : (k : Kind) (p : ℕ) (ds : List Direct) → first (numbers k p ds) ≡ lowest k p ds
unfolding numbers insert_if lowest
first_lowest k p [] = refl
first_lowest k p (d ∷ ds) = go (eqb d.site p) (eqb (made_of k d.state) 0) refl (first_lowest k p ds)
  where
    go : (s t : Bool) → eqb (made_of k d.state) 0 ≡ t → first (numbers k p ds) ≡ lowest k p ds
        → first (insert_if (s && not t) (made_of k d.state) (numbers k p ds)) ≡ cond s (least_of (made_of k d.state) (lowest k p ds)) (lowest k p ds)
    go true true e ih = ih ∙ sym (least_none (made_of k d.state) (lowest k p ds) e)
    go true false e ih =
        first_insert (made_of k d.state) (numbers k p ds) (eqb-false _ _ e) (first_some ds k p) ∙ ap (least_of (made_of k d.state)) ih
    go false t e ih = ih

-- one turn of the loop over the senders
pub hear_sender : (n owner : ℕ) (k : Kind) (p : ℕ) (ds : List Direct) (r : SlotRecord) → Sized r
    → receive_all n owner (messages_of k (suc p) ds) r ≡ received (receive_all n owner (messages_of k p ds) r) n owner k p (lowest k p ds)
unfolding messages_of
hear_sender n owner k p ds r s =
    receive_all_append n owner (messages_of k p ds) (map (message k p) (numbers k p ds)) r
    ∙ only_first n owner k p (receive_all n owner (messages_of k p ds) r) (receive_all_sized n owner (messages_of k p ds) r s) (numbers k p ds) (first_some ds k p)
    ∙ ap (received (receive_all n owner (messages_of k p ds) r) n owner k p) (first_lowest k p ds)
