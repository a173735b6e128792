-- An input that comes in parts: the lines of all turns, joined, are those of a run on the parts, joined; and turns after the last part reach
-- the listing's end. Assumes nothing.
use mathlib.Core.Path.{◌≡◌, refl, sym, ap, ◌∙◌}
use mathlib.Core.Bool.{Bool, true, false}
use mathlib.Core.List.{List, [], ◌∷◌, ◌++◌, append_assoc, append-nil}
use Prim.Native.Nat.{ℕ, zero, suc, ◌+◌, ◌-◌, ◌≤◌, ◌<◌}
use native.Mathlib.Nat.{add_assoc, zero-add}
use native.Mathlib.Omega.{arith}
use lib.Dec.{eqb}
use lib.ListN.{length, drop, length-append, length-drop}
use borrow.Author.Tests.{eqb-true, eqb-false, le-leb}
use Rattle.base.specs.Bytes.{Bytes, concat}
use Rattle.base.proofs.Tests.{by_test, true_not_false}
use Rattle.run.specs.Run.{Site}
use Rattle.report.specs.Framing.{wanted_by, wanted, expecting, start, run, lines_size}
use Rattle.report.specs.Gathering.{Gathering, no_steps, due, gathering, Progress, nothing_read, turn, turns, last_turns}
use Rattle.report.specs.declared.Expected.{Expected}
use Rattle.report.specs.declared.Expected.TheVariants.{End}
use Rattle.report.specs.declared.ListingState.{ListingState}
use Rattle.report.proofs.DueStep.{nothing_wanted, none_to_come}
use Rattle.report.proofs.ListingEnd.{step_proper}
use Rattle.report.proofs.Termination.{work, kept, nothing_due, some_due}
use Rattle.report.proofs.EnoughTurns.{ended}
use Rattle.report.proofs.GatheredLines.{written}

module _ (digest : Bytes → Bytes) (size : ℕ) where
  abbrev after : Bool → Progress → Gathering
  after is_ended p = gathering digest p.unread is_ended size p.state p.site

  abbrev turned : Bool → Progress → Bytes → Progress
  turned = turn digest size

  -- ---- the lines

  module _ (x : Site) (whole : Bytes) where
    -- a run on the whole input writes the lines so far, and then what a run writes from there on what is unread and what is to come; and a
    -- state that wants nothing is at the listing's end
    record Goes (p : Progress) (rest : Bytes) : Type 0 where
      pub steps : ℕ
      pub writes : (more : ℕ) → run digest (steps + more) start x whole ≡ p.lines ++ run digest more p.state p.site (p.unread ++ rest)
      pub proper : wanted p.state ≡ 0 → p.state.expected ≡ End

    turn_goes : (is_ended : Bool) (p : Progress) (part rest : Bytes) → (is_ended ≡ true → part ++ rest ≡ []) → Goes p (part ++ rest) → Goes (turned is_ended p part) rest
    turn_goes is_ended p part rest none g =
        let a : Gathering = after is_ended p in
        record {
          steps = g.steps + a.steps;
          writes = λ more.
              ap (λ (n : ℕ). run digest n start x whole) (add_assoc g.steps a.steps more)
              ∙ g.writes (a.steps + more)
              ∙ ap (λ (t : Bytes). p.lines ++ t) (written digest p.unread is_ended size (part ++ rest) none p.state p.site more)
              ∙ sym (append_assoc p.lines a.lines (run digest more a.state a.site (drop a.used p.unread ++ (part ++ rest))))
              ∙ ap (λ (b : Bytes). (p.lines ++ a.lines) ++ run digest more a.state a.site b) (sym (append_assoc (drop a.used p.unread) part rest));
          proper = kept digest p.unread is_ended size (λ (h : Gathering). wanted h.state ≡ 0 → h.state.expected ≡ End)
              (λ h d e. step_proper digest h.state h.site _) p.state p.site g.proper;
        }

    turns_go : (parts : List Bytes) (p : Progress) → Goes p (concat parts) → Goes (turns digest size p parts) []
    unfolding turns concat
    turns_go [] p g = g
    turns_go (part ∷ parts) p g = turns_go parts (turned false p part) (turn_goes false p part (concat parts) (λ e. true_not_false e refl) g)

    last_go : (k : ℕ) (p : Progress) → Goes p [] → Goes (last_turns digest size k p) []
    unfolding last_turns
    last_go zero p g = g
    last_go (suc k) p g = last_go k (turned true p []) (turn_goes true p [] [] (λ _. refl) g)

    start_goes : Goes (nothing_read x) whole
    unfolding wanted_by
    start_goes = record { steps = 0; writes = λ more. ap (λ (n : ℕ). run digest n start x whole) (zero-add more); proper = λ e. absurd (omega arith) }

    -- at the end all is written
    all_written : (p : Progress) → Goes p [] → wanted p.state ≡ 0 → (text : Bytes) → ((n : ℕ) → length whole < n → run digest n start x whole ≡ text) → p.lines ≡ text
    all_written p g e text law =
        let n : ℕ = suc (length whole) in
        let end : p.state ≡ expecting End p.state.arrivals = ap (λ (w : Expected). expecting w p.state.arrivals) (g.proper e) in
        sym (append-nil p.lines)
        ∙ ap (λ (t : Bytes). p.lines ++ t) (sym (ap (λ (s : ListingState). run digest n s p.site (p.unread ++ [])) end ∙ ended digest n p.state.arrivals p.site (p.unread ++ [])))
        ∙ sym (g.writes n) ∙ law (g.steps + n) (omega arith)

  pub listed_in_parts : (parts : List Bytes) (x : Site) (last : ℕ) (text : Bytes)
      → ((n : ℕ) → length (concat parts) < n → run digest n start x (concat parts) ≡ text)
      → wanted (last_turns digest size last (turns digest size (nothing_read x) parts)).state ≡ 0
      → (last_turns digest size last (turns digest size (nothing_read x) parts)).lines ≡ text
  listed_in_parts parts x last text law e =
      all_written x (concat parts) (last_turns digest size last (turns digest size (nothing_read x) parts))
      (last_go x (concat parts) last (turns digest size (nothing_read x) parts) (turns_go x (concat parts) parts (nothing_read x) (start_goes x (concat parts)))) e text law

  -- ---- the end is reached

  -- no more is unread than came
  unread_short : (parts : List Bytes) (p : Progress) → length (turns digest size p parts).unread ≤ length p.unread + length (concat parts)
  unfolding turns concat
  unread_short [] p = omega arith
  unread_short (part ∷ parts) p =
      let a : Gathering = after false p in
      omega (arith, unread_short parts (turned false p part), length-append (drop a.used p.unread) part, length-drop a.used p.unread, length-append part (concat parts))

  -- a listing that wants nothing stays as it is
  at_end : (k : ℕ) (p : Progress) → wanted p.state ≡ 0 → wanted (last_turns digest size k p).state ≡ 0
  unfolding last_turns
  at_end zero p e = e
  at_end (suc k) p e = at_end k (turned true p []) (ap (λ (g : Gathering). wanted g.state) same ∙ e)
    where
      same : after true p ≡ no_steps p.state p.site
      same = nothing_due digest p.unread true size p.state p.site (nothing_wanted true p.state (length p.unread - 0) (size - length {A = ℕ} []) e)

  module _ (room : lines_size ≤ size) where
    abbrev work_of : Progress → ℕ
    work_of p = work (length p.unread) p.state 0

    less_left : (p : Progress) → 0 < wanted p.state → work_of (turned true p []) < work_of p
    less_left p some =
        let a : Gathering = after true p in
        let d : due digest p.unread true size (no_steps p.state p.site) ≡ true =
        none_to_come true p.state (length p.unread - 0) (size - 0) refl some ∙ le-leb lines_size (size - 0) (omega arith) in
        omega (arith, some_due digest p.unread true size p.state p.site d, length-append (drop a.used p.unread) [], length-drop a.used p.unread)

    ends_within : (k : ℕ) (p : Progress) → work_of p ≤ k → wanted (last_turns digest size k p).state ≡ 0
    unfolding last_turns
    ends_within zero p h = omega arith
    ends_within (suc k) p h = by_test (eqb (wanted p.state) 0)
        (λ e. at_end (suc k) p (eqb-true (wanted p.state) 0 e))
        (λ n. let some : 0 < wanted p.state = omega (arith, eqb-false (wanted p.state) 0 n) in ends_within k (turned true p []) (omega (arith, less_left p some)))

    pub reached : (parts : List Bytes) (x : Site) (last : ℕ) → length (concat parts) < last
        → wanted (last_turns digest size last (turns digest size (nothing_read x) parts)).state ≡ 0
    reached parts x last h = ends_within last (turns digest size (nothing_read x) parts) (omega (arith, unread_short parts (nothing_read x)))
