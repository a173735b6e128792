-- One step of gathering: the piece that it gets, and what is gathered once its lines stand behind the others. Assumes nothing.
use mathlib.Core.Path.{◌≡◌, sym, ap, ◌∙◌}
use mathlib.Core.Bool.{Bool, true, false}
use mathlib.Core.List.{List, [], ◌++◌}
use Prim.Native.Nat.{ℕ, suc, ◌+◌, ◌-◌, ◌≤◌, ◌<◌, min}
use native.Mathlib.Omega.{arith}
use lib.Dec.{leb}
use lib.ListN.{length, take, drop, length-drop}
use lib.Seq.{take_all}
use borrow.Author.Tests.{leb-true, leb-false}
use Rattle.base.specs.Bytes.{Bytes, splice}
use Rattle.base.proofs.Tests.{by_test}
use Rattle.sha256.specs.Sha256.{sha256}
use Rattle.run.specs.Run.{Site}
use Rattle.report.specs.Framing.{wanted, Outcome, stepped, lines_size, handed}
use Rattle.report.specs.Gathering.{lent_site, Gathering, no_steps, is_due, piece_at, outcome_at, site_stepped_at, due, one_more, gather_on, gathering}
use Rattle.report.specs.Steps.{advanced}
use Rattle.report.specs.declared.ListingState.{ListingState}
use Rattle.report.specs.declared.Gathered.{Gathered}
use Rattle.report.specs.declared.Stepped.{Stepped}
use Rattle.report.proofs.Appending.{Put, put_nothing, put_behind, put_keeps}
use Rattle.report.proofs.DueStep.{is_due_lem}
use Rattle.report.proofs.Termination.{work, length_piece, less_work, next_within, none_due, one_due, enough}

-- a piece as the code cuts it
pub piece_cut : (s : ListingState) (used end : ℕ) (unread : Bytes) → end ≡ used + min (wanted s) (length unread - used)
    → take (end - used) (drop used unread) ≡ piece_at s used unread
piece_cut s used end unread e = by_test (leb (wanted s) (length unread - used))
    (λ there.
    let h : wanted s ≤ length unread - used = leb-true (wanted s) (length unread - used) there in
    let k : end - used ≡ wanted s = omega arith in
    ap (λ (n : ℕ). take n (drop used unread)) k)
    (λ short.
    let h : length unread - used < wanted s = leb-false (wanted s) (length unread - used) short in
    let l : length (drop used unread) ≡ length unread - used = length-drop used unread in
    take_all (end - used) (drop used unread) (omega arith) ∙ sym (take_all (wanted s) (drop used unread) (omega arith)))

pub piece_ends : (s : ListingState) (used end : ℕ) (unread : Bytes) → end ≡ used + min (wanted s) (length unread - used)
    → end ≡ used + length (piece_at s used unread)
piece_ends s used end unread e = omega (arith, e, length_piece s used unread)

-- what the step gives, on that piece
module _ (s : ListingState) (x : Site) (used end : ℕ) (unread : Bytes) (q : Stepped) (e : end ≡ used + min (wanted s) (length unread - used))
    (h : q ≡ handed (stepped sha256 s x (take (end - used) (drop used unread)))) where
  abbrev o : Outcome
  o = outcome_at sha256 s x used unread

  is_outcome : q ≡ handed o
  is_outcome = h ∙ ap (λ (piece : Bytes). handed (stepped sha256 s x piece)) (piece_cut s used end unread e)

  pub step_advances : (n : ℕ) → ◌≡◌ {A = Gathered} (record { state = q.state; used = end; length = n + length q.lines })
      (advanced sha256 (record { state = s; used = used; length = n }) x unread)
  step_advances n = rw is_outcome (ap (λ (m : ℕ). record { state = o.state; used = m; length = n + length o.lines }) (piece_ends s used end unread e))

  pub step_lines : q.lines ≡ (outcome_at sha256 s x used unread).lines
  step_lines = ap (λ (r : Stepped). r.lines) is_outcome

-- what the steps so far came to, with their lines and their number
abbrev pub so_far : Bytes → List ℕ → Gathered → Bytes → ℕ → Gathering
so_far table records done lines steps =
    record { state = done.state; site = lent_site table records; used = done.used; lines = lines; steps = steps }

-- ---- the loop: the bytes that came, whether more may come, the output before, and the state and the site before
module _ (unread : Bytes) (is_ended : Bool) (output : Bytes) (s : ListingState) (x : Site) where
  abbrev size : ℕ
  size = length output

  -- the steps so far lead to what is gathered, and their lines stand at the front
  pub record Leads (table : Bytes) (records : List ℕ) (out : Bytes) (done : Gathered) : Type 0 where
    pub lines : Bytes
    pub steps : ℕ
    pub within : done.used ≤ length unread
    pub fits : done.length ≤ length output
    pub put : Put output 0 lines out done.length
    pub leads : gather_on sha256 unread is_ended size (work (length unread) done.state done.used) (so_far table records done lines steps)
        ≡ gathering sha256 unread is_ended size s x

  -- before the first step
  pub leads_start : Leads x.table x.records output (record { state = s; used = 0; length = 0 })
  unfolding gathering
  leads_start =
      record {
        lines = [];
        steps = 0;
        within = omega arith;
        fits = omega arith;
        put = put_nothing output 0;
        leads = enough sha256 unread is_ended size (work (length unread) s 0) (suc (length unread)) (no_steps s x) (omega arith) (omega arith) (omega arith);
      }

  module _ (table : Bytes) (records : List ℕ) (out : Bytes) (done : Gathered) (l : Leads table records out done) where
    abbrev g : Gathering
    g = so_far table records done l.lines l.steps

    length_lines : done.length ≡ length l.lines
    length_lines = l.put.ends ∙ omega arith

    pub same_size : length out ≡ length output
    same_size = put_keeps output 0 l.lines out done.length l.put l.fits

    due_same : due sha256 unread is_ended size g ≡ is_due is_ended done.state (length unread - done.used) (length out - done.length)
    due_same = rw (same_size, length_lines)

    -- ---- no step is due: all is gathered

    pub leads_end : is_due is_ended done.state (length unread - done.used) (length out - done.length) ≡ false
        → so_far table records done l.lines l.steps ≡ gathering sha256 unread is_ended size s x
    leads_end d = sym (none_due sha256 unread is_ended size (work (length unread) done.state done.used) g (due_same ∙ d)) ∙ l.leads

    -- ---- one that is due

    module _ (d : is_due is_ended done.state (length unread - done.used) (length out - done.length) ≡ true) where
      pub has_room : done.length + lines_size ≤ length out
      has_room = omega (arith, (is_due_lem is_ended done.state (length unread - done.used) (length out - done.length) d).fits)

      module _ (table₁ : Bytes) (records₁ : List ℕ) (out₁ : Bytes) (done₁ : Gathered)
          (e : done₁ ≡ advanced sha256 done (lent_site table records) unread)
          (t : table₁ ≡ (site_stepped_at sha256 done.state (lent_site table records) done.used unread).table)
          (r : records₁ ≡ (site_stepped_at sha256 done.state (lent_site table records) done.used unread).records) where
        abbrev next : Gathering
        next = one_more sha256 unread is_ended size g

        abbrev lines₁ : Bytes
        lines₁ = l.lines ++ (outcome_at sha256 done.state (lent_site table records) done.used unread).lines

        g₁_next : so_far table₁ records₁ done₁ lines₁ (suc l.steps) ≡ next
        g₁_next = rw (e, t, r)

        less : work (length unread) next.state next.used < work (length unread) done.state done.used
        less = less_work sha256 unread is_ended size g l.within (due_same ∙ d)

        pub leads_less : work (length unread) done₁.state done₁.used < work (length unread) done.state done.used
        leads_less = rw e less

        on_next : gather_on sha256 unread is_ended size (work (length unread) next.state next.used) next ≡ gathering sha256 unread is_ended size s x
        on_next =
            let m : ℕ = work (length unread) done.state done.used - 1 in
            let k : suc m ≡ work (length unread) done.state done.used = omega (arith, less) in
            enough sha256 unread is_ended size (work (length unread) next.state next.used) m next (next_within sha256 unread is_ended size g l.within) (omega arith) (omega (arith, less))
            ∙ sym (one_due sha256 unread is_ended size m g (due_same ∙ d))
            ∙ ap (λ (n : ℕ). gather_on sha256 unread is_ended size n g) k
            ∙ l.leads

        pub leads_next : out₁ ≡ splice out done.length (outcome_at sha256 done.state (lent_site table records) done.used unread).lines
            → done₁.length ≤ length out → Leads table₁ records₁ out₁ done₁
        leads_next o f =
            record {
              lines = lines₁;
              steps = suc l.steps;
              within = rw e (next_within sha256 unread is_ended size g l.within);
              fits = omega (arith, f, same_size);
              put = put_behind output 0 l.lines (outcome_at sha256 done.state (lent_site table records) done.used unread).lines out out₁ done.length done₁.length (omega arith) l.put
                  (record { ends = ap (λ (d : Gathered). d.length) e; holds = o });
              leads = ap (λ (q : Gathering). gather_on sha256 unread is_ended size (work (length unread) q.state q.used) q) g₁_next ∙ on_next;
            }
