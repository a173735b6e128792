-- What holds at each turn of a pass and of the passes, as the loops keep it. Assumes nothing.
use mathlib.Core.Path.{◌≡◌, sym, ap, ◌∙◌}
use mathlib.Core.Bool.{Bool, true}
use mathlib.Core.Logic.{◌⊎◌, inl, inr}
use mathlib.Core.List.{List}
use Prim.Native.Nat.{ℕ, suc, ◌+◌, ◌-◌, ◌≤◌, ◌<◌}
use native.Mathlib.Omega.{arith}
use lib.ListN.{length, get_or, take, drop, length-append, length-drop}
use lib.Seq.{length-take-le}
use Rattle.std.specs.Borrow.{MutBor}
use Rattle.base.specs.Bytes.{Bytes}
use Rattle.base.proofs.Tests.{by_test}
use Rattle.sha256.specs.Sha256.{sha256}
use Rattle.shelf.specs.Layout.{max_waiting, Waiting, waiting_in}
use Rattle.shelf.specs.Rules.{is_for}
use Rattle.shelf.specs.Steps.{no_waiting, Becomes, without}
use Rattle.admission.specs.Admission.{admission, admitted}
use Rattle.campaigns.specs.Passes.{waits_on, outcomes_of, admits, pass}
use Rattle.campaigns.specs.Steps.{Turned, passed_by, taken_out, turned}
use Rattle.campaigns.specs.declared.Pass.{Pass}
use Rattle.campaigns.proofs.Inductions.{pass_length, pass_fewer}
use Rattle.campaigns.proofs.Turns.{noted, left_of, left_turn, rest_of, rest_turn}

-- ---- a pass

module _ (t : Bytes) (ws : List Waiting) (o : List ℕ) (c : ℕ) (p : Pass) where
  abbrev turn : Turned
  turn = turned sha256 t ws o c p

  abbrev block : Bytes
  block = (get_or ws p.at no_waiting).block

  turned_cases : (turn ≡ passed_by t ws o p) ⊎ (turn ≡ taken_out (admission sha256 t block 1) (admitted sha256 t block 1) ws o p)
  unfolding turned
  turned_cases =
      by_test (is_for c (get_or ws p.at no_waiting))
      (λ y. by_test (waits_on (admission sha256 t block 1)) (λ z. inl (rw (y, z))) (λ z. inr (rw (y, z))))
      (λ y. inl (rw y))

  module _ (below : p.at < length ws) where
    length_out : suc (length (without p.at ws)) ≡ length ws
    length_out = omega (arith, length-append (take p.at ws) (drop (suc p.at) ws), length-take-le p.at ws (omega arith), length-drop (suc p.at) ws)

    turned_less : length turn.waiting - turn.next.at < length ws - p.at
    turned_less = elim turned_cases [ inl e ↦ rw e (omega arith) | inr e ↦ rw e (omega (arith, length_out)) ]

    turned_few : (n : ℕ) → p.ended + length ws ≤ n → turn.next.ended + length turn.waiting ≤ n
    turned_few n h = elim turned_cases [ inl e ↦ rw e h | inr e ↦ rw e (omega (arith, length_out)) ]

-- what holds where a pass that began at the lent shelf x stands at y
pub record PassInvariant (c : ℕ) (t₀ : Bytes) (x : MutBor Bytes) (o₀ : List ℕ) (p₀ : Pass) (t : Bytes) (y : MutBor Bytes) (o : List ℕ) (p : Pass) : Type 0 where
  pub few : p.ended + length (waiting_in y.now) ≤ max_waiting
  pub left : left_of sha256 c t (waiting_in y.now) o p ≡ left_of sha256 c t₀ (waiting_in x.now) o₀ p₀
  pub same_reference : y.ghost_name ≡ x.ghost_name

module _ (c : ℕ) (t₀ : Bytes) (x : MutBor Bytes) (o₀ : List ℕ) (p₀ : Pass) (t : Bytes) (y : MutBor Bytes) (o : List ℕ) (p : Pass) (g : PassInvariant c t₀ x o₀ p₀ t y o p)
    (below : p.at < length (waiting_in y.now)) (t' : Bytes) (y' : MutBor Bytes) (o' : List ℕ) (p' : Pass) (ep : p' ≡ (turned sha256 t (waiting_in y.now) o c p).next)
    (et : t' ≡ (turned sha256 t (waiting_in y.now) o c p).table) (ey : Becomes y y' (turned sha256 t (waiting_in y.now) o c p).waiting)
    (eo : o' ≡ (turned sha256 t (waiting_in y.now) o c p).outcomes) where
  abbrev ws : List Waiting
  ws = waiting_in y.now

  pub goes_on : PassInvariant c t₀ x o₀ p₀ t' y' o' p'
  goes_on =
      record {
        few = rw (ey.waiting, ep) (turned_few t ws o c p below max_waiting g.few);
        left = rw (ey.waiting, et, eo, ep) (left_turn sha256 c t ws o p below ∙ g.left);
        same_reference = ey.same_reference ∙ g.same_reference;
      }

  pub goes_down : length (waiting_in y'.now) - p'.at < length (waiting_in y.now) - p.at
  goes_down = rw (ey.waiting, ep) (turned_less t ws o c p below)

-- ---- the passes

-- and where passes that began at x have come to y
pub record PassesInvariant (c : ℕ) (t₀ : Bytes) (x : MutBor Bytes) (o₀ : List ℕ) (t : Bytes) (y : MutBor Bytes) (o : List ℕ) (ended : ℕ) (again : Bool) : Type 0 where
  pub few : ended + length (waiting_in y.now) ≤ max_waiting
  pub left : rest_of sha256 c again t (waiting_in y.now) (record { numbers = o; count = ended }) ≡ rest_of sha256 c true t₀ (waiting_in x.now) (record { numbers = o₀; count = 0 })
  pub same_reference : y.ghost_name ≡ x.ghost_name

module _ (c : ℕ) (t₀ : Bytes) (x : MutBor Bytes) (o₀ : List ℕ) (t : Bytes) (y : MutBor Bytes) (o : List ℕ) (ended : ℕ) (g : PassesInvariant c t₀ x o₀ t y o ended true)
    (t' : Bytes) (y' : MutBor Bytes) (o' : List ℕ) (ended' : ℕ) (again' : Bool) (ea : again' ≡ admits (pass sha256 t c (waiting_in y.now)).tries)
    (en : ended' ≡ ended + length (outcomes_of (pass sha256 t c (waiting_in y.now)).tries)) (et : t' ≡ (pass sha256 t c (waiting_in y.now)).table)
    (ey : Becomes y y' (pass sha256 t c (waiting_in y.now)).waiting)
    (eo : o' ≡ (noted (record { numbers = o; count = ended }) (outcomes_of (pass sha256 t c (waiting_in y.now)).tries)).numbers) where
  pub settles_on : PassesInvariant c t₀ x o₀ t' y' o' ended' again'
  settles_on =
      record {
        few = omega (arith, ap length ey.waiting, pass_length sha256 c (waiting_in y.now) t, g.few);
        left = rw (ey.waiting, et, eo, en, ea)
            (rest_turn sha256 c t (waiting_in y.now) (record { numbers = o; count = ended }) ∙ g.left);
        same_reference = ey.same_reference ∙ g.same_reference;
      }

  pub settles_down : again' ≡ true → length (waiting_in y'.now) < length (waiting_in y.now)
  settles_down q = rw ey.waiting (pass_fewer sha256 c (waiting_in y.now) t (sym ea ∙ q))
