-- A shelf in form as a record of what holds of it, and the other way round. Assumes nothing.
use mathlib.Core.Path.{◌≡◌}
use mathlib.Core.Logic.{◌≢◌}
use mathlib.Core.Bool.{true, false, ◌&&◌}
use mathlib.Core.List.{List}
use Prim.Native.Nat.{◌≤◌}
use lib.Dec.{leb}
use lib.ListN.{length}
use Rattle.std.specs.Prelude.{Option, Some, None, MatchOption}
use Rattle.std.specs.Array.{IsWholeChunk}
use borrow.Author.Tests.{leb-true, le-leb}
use Rattle.base.specs.Bytes.{Bytes, same_bytes}
use Rattle.base.proofs.Tests.{and_left, and_right}
use Rattle.base.proofs.Bytes.{same_equal, same_refl}
use Rattle.shelf.specs.Layout.{max_waiting, shelf_size, Waiting, waiting_in, shelf_bytes}
use Rattle.shelf.specs.Rules.{each_sound, shared, rules_hold}
use Rattle.shelf.specs.Form.{shelf_in_form}
use Rattle.shelf.proofs.ShelfLayout.{AllFit, waiting_laid, laid_size}
use Rattle.shelf.proofs.Turns.{shown_fit}

pub record RulesHold (ws : List Waiting) : Type 0 where
  pub few : length ws ≤ max_waiting
  pub sound : each_sound ws ≡ true
  pub fair : shared ws ≡ true

pub ruled_of : (ws : List Waiting) → rules_hold ws ≡ true → RulesHold ws
unfolding rules_hold
ruled_of ws e =
    let r = and_right (leb (length ws) max_waiting) (each_sound ws && shared ws) e in
    record {
      few = leb-true (length ws) max_waiting (and_left (leb (length ws) max_waiting) (each_sound ws && shared ws) e);
      sound = and_left (each_sound ws) (shared ws) r;
      fair = and_right (each_sound ws) (shared ws) r;
    }

pub of_ruled : (ws : List Waiting) → RulesHold ws → rules_hold ws ≡ true
unfolding rules_hold
of_ruled ws r = rw (le-leb (length ws) max_waiting r.few, r.sound, r.fair)

-- a shelf in form is the layout of what it shows, and the rules hold for that
pub record ShelfForm (s : Bytes) : Type 0 where
  pub rules : RulesHold (waiting_in s)
  pub laid : s ≡ shelf_bytes (waiting_in s)

pub shelf_form_lem : (s : Bytes) → shelf_in_form s ≡ true → ShelfForm s
unfolding shelf_in_form
shelf_form_lem s e =
    let same = same_bytes s (shelf_bytes (waiting_in s)) in
    record {
      rules = ruled_of (waiting_in s) (and_left (rules_hold (waiting_in s)) same e);
      laid = same_equal s (shelf_bytes (waiting_in s)) (and_right (rules_hold (waiting_in s)) same e);
    }

pub formed_size : (s : Bytes) → shelf_in_form s ≡ true → length s ≡ shelf_size
formed_size s e = let f = shelf_form_lem s e in laid_size s (waiting_in s) (record { bytes = f.laid; few = f.rules.few; fit = shown_fit s })

-- and the layout of what the rules hold for is in form
pub formed_bytes : (ws : List Waiting) → AllFit ws → rules_hold ws ≡ true → shelf_in_form (shelf_bytes ws) ≡ true
unfolding shelf_in_form
formed_bytes ws f e = rw (waiting_laid ws (ruled_of ws e).few f, e, same_refl (shelf_bytes ws))

-- where a buffer in form is taken for a shelf, it is one
pub whole_shelf : {B : Type 0} (s : Bytes) (now : B → Bytes) (r : Option B) → shelf_in_form s ≡ true
    → MatchOption r (length s ≢ shelf_size) (λ y. IsWholeChunk s (now y) shelf_size) → MatchOption r (shelf_in_form s ≡ false) (λ y. (now y ≡ s) × (shelf_in_form s ≡ true))
whole_shelf s now (Some y) f w = (w.same, f)
whole_shelf s now None f w = absurd (w (formed_size s f))
