-- Of several messages of one kind from one sender only the first has an effect. Assumes nothing.
use mathlib.Core.Path.{◌≡◌, refl, sym, ap, ◌∙◌}
use mathlib.Core.Logic.{◌≢◌}
use mathlib.Core.Bool.{Bool, true, false, not, ◌&&◌}
use mathlib.Core.List.{List, [], ◌∷◌, map}
use Prim.Native.Nat.{ℕ, ◌<◌}
use native.Mathlib.Omega.{arith}
use lib.Dec.{eqb, ltb, leb}
use lib.ListN.{length, get_or}
use lib.Seq.{get_or-set_same}
use borrow.Author.Tests.{ne_eqb, ltb-true, leb-true}
use Rattle.base.proofs.Tests.{and_left, and_right}
use Rattle.setup.specs.Setup.{max_sites}
use Rattle.broadcast.specs.declared.Kind.{Kind}
use Rattle.broadcast.specs.declared.Kind.TheVariants.{Send, Echo, Ready}
use Rattle.broadcast.specs.declared.SlotRecord.{SlotRecord}
use Rattle.broadcast.specs.Record.{note_echo, note_ready}
use Rattle.broadcast.specs.Process.{message, only_if, ready_on_echoes, ready_on_readies, deliver_on_readies, take_send, take_echo, take_ready, take, receive, received, receive_all}
use Rattle.broadcast.proofs.Steps.{only_if_keeps, Sized, nothing_heard}

-- ---- two steps, each taken only if a test passes

idle : (t : Bool) (f : SlotRecord → SlotRecord) (r : SlotRecord) → f r ≡ r → only_if t f r ≡ r
unfolding only_if
idle true f r e = e
idle false f r e = refl

-- a second step that changes nothing after the first, and is not taken where that is not
two : (t u : Bool) (f g : SlotRecord → SlotRecord) (r : SlotRecord) → (t ≡ true → g (f r) ≡ f r) → (t ≡ false → u ≡ false)
    → only_if u g (only_if t f r) ≡ only_if t f r
unfolding only_if
two true u f g r h k = idle u g (f r) (h refl)
two false u f g r h k = rw (k refl)

-- a test that fails once its step was taken
shut : (test : SlotRecord → Bool) (f g : SlotRecord → SlotRecord) (r : SlotRecord) → (test r ≡ true → test (f r) ≡ false)
    → only_if (test (only_if (test r) f r)) g (only_if (test r) f r) ≡ only_if (test r) f r
unfolding only_if
shut test f g r h = go (test r) refl
  where
    go : (t : Bool) → test r ≡ t → only_if (test (only_if t f r)) g (only_if t f r) ≡ only_if t f r
    go true e = rw (h e)
    go false e = rw e

and_false : (a : Bool) {b : Bool} → b ≡ false → (a && b) ≡ false
and_false true e = e
and_false false e = refl

-- ---- the second message of a kind from a sender

pub same_echoes : (n v : ℕ) (r : SlotRecord) → (ready_on_echoes n v r).echoes ≡ r.echoes
unfolding ready_on_echoes
same_echoes n v r = only_if_keeps (λ q. q.echoes ≡ r.echoes) _ _ r refl (λ _ _. refl)

pub same_readies : (n v : ℕ) (r : SlotRecord) → (deliver_on_readies n v (ready_on_readies n v r)).readies ≡ r.readies
unfolding ready_on_readies deliver_on_readies
same_readies n v r =
    only_if_keeps (λ q. q.readies ≡ r.readies) _ _ (ready_on_readies n v r) (only_if_keeps (λ q. q.readies ≡ r.readies) _ _ r refl (λ _ _. refl)) (λ _ k. k)

take_again : (n owner : ℕ) (k : Kind) (p v w : ℕ) (r : SlotRecord) → Sized r → v ≢ 0 → p < max_sites
    → take n owner k p w (take n owner k p v r) ≡ take n owner k p v r
unfolding take take_send take_echo take_ready
take_again n owner Send p v w r s nz l = shut (λ q. eqb p owner && eqb q.sent.echo 0) _ _ r (λ _. and_false (eqb p owner) (ne_eqb v 0 nz))
take_again n owner Echo p v w r s nz l = shut (λ q. eqb (get_or q.echoes p 0) 0) _ _ r (λ _.
    let h : p < length r.echoes = omega arith in rw (same_echoes n v (note_echo p v r), get_or-set_same r.echoes p v 0 h) (ne_eqb v 0 nz))
take_again n owner Ready p v w r s nz l = shut (λ q. eqb (get_or q.readies p 0) 0) _ _ r (λ _.
    let h : p < length r.readies = omega arith in rw (same_readies n v (note_ready p v r), get_or-set_same r.readies p v 0 h) (ne_eqb v 0 nz))

pub again : (n owner : ℕ) (k : Kind) (p v w : ℕ) (r : SlotRecord) → Sized r → v ≢ 0
    → received (received r n owner k p v) n owner k p w ≡ received r n owner k p v
unfolding receive
again n owner k p v w r s nz =
    two (not (eqb v 0) && (ltb p n && leb n max_sites)) (not (eqb w 0) && (ltb p n && leb n max_sites)) (take n owner k p v) (take n owner k p w) r
    (λ e. let g : (ltb p n && leb n max_sites) ≡ true = and_right (not (eqb v 0)) (ltb p n && leb n max_sites) e in
    let l : p < max_sites = omega (arith, ltb-true p n (and_left (ltb p n) (leb n max_sites) g), leb-true n max_sites (and_right (ltb p n) (leb n max_sites) g)) in
    take_again n owner k p v w r s nz l)
    (λ e. and_false (not (eqb w 0)) (rw (ne_eqb v 0 nz) at e))

-- ---- several messages

-- the first of a list, 0 if there is none
abbrev pub first : List ℕ → ℕ
first [] = 0
first (v ∷ l) = v

no_effect : (n owner : ℕ) (k : Kind) (p : ℕ) (r : SlotRecord) → ((w : ℕ) → received r n owner k p w ≡ r) → (l : List ℕ)
    → receive_all n owner (map (message k p) l) r ≡ r
unfolding receive_all
no_effect n owner k p r h [] = refl
no_effect n owner k p r h (w ∷ l) = ap (receive_all n owner (map (message k p) l)) (h w) ∙ no_effect n owner k p r h l

pub only_first : (n owner : ℕ) (k : Kind) (p : ℕ) (r : SlotRecord) → Sized r → (l : List ℕ) → ((v : ℕ) (m : List ℕ) → l ≡ v ∷ m → v ≢ 0)
    → receive_all n owner (map (message k p) l) r ≡ received r n owner k p (first l)
unfolding receive_all
only_first n owner k p r s [] h = sym (nothing_heard n owner k p r)
only_first n owner k p r s (v ∷ l) h = no_effect n owner k p (received r n owner k p v) (λ w. again n owner k p v w r s (h v l refl)) l
