-- What is gathered are the lines of the steps in their order, and what is left is what no step got; why gathering stops; and what a turn after
-- the last part leaves to do. Assumes nothing.
use mathlib.Core.Path.{◌≡◌, refl, sym, ap, ap₂, ◌∙◌}
use mathlib.Core.Bool.{Bool, true}
use mathlib.Core.Logic.{⊎_elim}
use mathlib.Core.List.{[], ◌∷◌, ◌++◌, append_assoc, append-nil}
use Prim.Native.Nat.{ℕ, zero, suc, ◌+◌, ◌-◌, ◌≤◌}
use native.Mathlib.Nat.{zero-add}
use native.Mathlib.Omega.{arith}
use lib.ListN.{length, take, drop, length-drop}
use lib.Seq.{take-append-le, drop-append-le, drop-drop}
use Rattle.base.specs.Bytes.{Bytes}
use Rattle.run.specs.Run.{Site}
use Rattle.report.specs.Framing.{wanted, stepped, site_stepped, run}
use Rattle.report.specs.Gathering.{Gathering, piece_at, due, one_more, gathering}
use Rattle.report.specs.Promises.{Stopped}
use Rattle.report.specs.declared.ListingState.{ListingState}
use Rattle.report.proofs.DueStep.{is_due_lem, is_not_due}
use Rattle.report.proofs.Termination.{next_within, gathered_all, kept}

-- what is behind the bytes that were taken, also where there were fewer
drop_taken : (n : ℕ) (l : Bytes) → drop (length (take n l)) l ≡ drop n l
drop_taken zero l = refl
drop_taken (suc n) [] = refl
drop_taken (suc n) (x ∷ l) = drop_taken n l

module _ (digest : Bytes → Bytes) (unread : Bytes) (is_ended : Bool) (size : ℕ) where
  pub within : (s : ListingState) (x : Site) → (gathering digest unread is_ended size s x).used ≤ length unread
  within s x = kept digest unread is_ended size (λ (g : Gathering). g.used ≤ length unread) (λ g d w. next_within digest unread is_ended size g w) s x (omega arith)

  pub stopped : (s : ListingState) (x : Site) → Stopped unread is_ended size (gathering digest unread is_ended size s x)
  stopped s x =
      let g : Gathering = gathering digest unread is_ended size s x in
      is_not_due is_ended g.state (length unread - g.used) (size - length g.lines) (gathered_all digest unread is_ended size s x)

  -- ---- the lines in their order, and the bytes that are left

  module _ (more : Bytes) (none : is_ended ≡ true → more ≡ []) (s : ListingState) (x : Site) where
    -- a run writes the lines so far, and then what a run writes from there
    abbrev Written : Gathering → Type 0
    Written g = (g.used ≤ length unread) × ((turns : ℕ) → run digest (g.steps + turns) s x (unread ++ more) ≡ g.lines ++ run digest turns g.state g.site (drop g.used unread ++ more))

    module _ (g : Gathering) (d : due digest unread is_ended size g ≡ true) (w : g.used ≤ length unread) where
      abbrev rest : Bytes
      rest = drop g.used unread

      abbrev n : ℕ
      n = wanted g.state

      abbrev piece : Bytes
      piece = piece_at g.state g.used unread

      left : length rest ≡ length unread - g.used
      left = length-drop g.used unread

      -- the bytes to come do not change the piece
      same_piece : take n (rest ++ more) ≡ piece
      same_piece = ⊎_elim
          (λ there. take-append-le n rest more (omega (arith, left)))
          (λ ended. ap (λ (m : Bytes). take n (rest ++ m)) (none ended) ∙ ap (take n) (append-nil rest))
          (is_due_lem is_ended g.state (length unread - g.used) (size - length g.lines) d).there

      -- what is behind the piece
      same_rest : drop n (rest ++ more) ≡ drop (g.used + length piece) unread ++ more
      same_rest =
          let behind : drop n rest ≡ drop (g.used + length piece) unread = sym (drop_taken n rest) ∙ drop-drop (length piece) g.used unread in
          ⊎_elim
          (λ there. drop-append-le n rest more (omega (arith, left)) ∙ ap (λ (b : Bytes). b ++ more) behind)
          (λ ended.
          ap (λ (m : Bytes). drop n (rest ++ m)) (none ended) ∙ ap (drop n) (append-nil rest) ∙ sym (append-nil (drop n rest))
          ∙ ap (λ (m : Bytes). drop n rest ++ m) (sym (none ended)) ∙ ap (λ (b : Bytes). b ++ more) behind)
          (is_due_lem is_ended g.state (length unread - g.used) (size - length g.lines) d).there

      step_run : (turns : ℕ) → run digest (suc turns) g.state g.site (rest ++ more)
          ≡ (stepped digest g.state g.site piece).lines
          ++ run digest turns (stepped digest g.state g.site piece).state (site_stepped digest g.state g.site piece) (drop (g.used + length piece) unread ++ more)
      unfolding run
      step_run turns =
          ap₂ (λ (p q : Bytes). (stepped digest g.state g.site p).lines ++ run digest turns (stepped digest g.state g.site p).state (site_stepped digest g.state g.site p) q) same_piece same_rest

    written_more : (g : Gathering) → due digest unread is_ended size g ≡ true → Written g → Written (one_more digest unread is_ended size g)
    written_more g d w = (
      next_within digest unread is_ended size g w.0,
      λ turns.
          let k : suc g.steps + turns ≡ g.steps + suc turns = omega arith in
          ap (λ (k : ℕ). run digest k s x (unread ++ more)) k
          ∙ w.1 (suc turns) ∙ ap (λ (t : Bytes). g.lines ++ t) (step_run g d w.0 turns) ∙ sym (append_assoc g.lines _ _),
    )

    pub written : (turns : ℕ)
        → run digest ((gathering digest unread is_ended size s x).steps + turns) s x (unread ++ more)
        ≡ (gathering digest unread is_ended size s x).lines
        ++ run digest turns (gathering digest unread is_ended size s x).state (gathering digest unread is_ended size s x).site
        (drop (gathering digest unread is_ended size s x).used unread ++ more)
    written = (kept digest unread is_ended size Written written_more s x (omega arith, λ turns. ap (λ (k : ℕ). run digest k s x (unread ++ more)) (zero-add turns))).1
