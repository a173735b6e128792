-- `turn` meets its contract: the steps are those of gathering, and what no step used stands before what comes. Assumes nothing.
use mathlib.Core.Path.{◌≡◌, refl, sym, ap, ◌∙◌, subst}
use mathlib.Core.List.{List, [], ◌++◌, append-nil}
use Prim.Native.Nat.{ℕ, ◌+◌, ◌-◌, ◌≤◌}
use native.Mathlib.Omega.{arith}
use lib.ListN.{length, take, drop, length-take, length-drop, length-append, take-append-drop, drop_of_length-le}
use lib.Seq.{take-take, length-take-le}
use Rattle.std.proofs.Common.{rules, Option, None, Some}
use Rattle.std.proofs.lemmas.Result.{MatchResult-from_err}
use Rattle.std.specs.Io.KnownBytes.{Appends, Consumes}
use Rattle.base.specs.Bytes.{Bytes, splice}
use Rattle.base.proofs.Splice.{take_splice}
use Rattle.sha256.specs.Sha256.{sha256}
use Rattle.report.specs.Gathering.{Gathering, gathering, gathered_of, lent_site, progress, turn}
use Rattle.report.specs.declared.Gathered.{Gathered}
use Rattle.report.proofs.GatheredLines.{within}
use Rattle.listing.specs.declared.ProgramState.{ProgramState}
use Rattle.listing.proofs.turn.Goals as goal

-- lines that stand in the output are no longer than it
front_fits : (b text : Bytes) → length (splice b 0 text) ≡ length b → length text ≤ length b
unfolding splice
front_fits b text e = omega (arith, length-append text (drop (0 + length text) b))

-- what came is what is there less what stayed
came_length : (after : Bytes) (n stayed : ℕ) → n ≤ length after → length (drop stayed (take n after)) ≡ n - stayed
came_length after n stayed there = length-drop stayed (take n after) ∙ ap (λ (m : ℕ). m - stayed) (length-take-le n after there)

none_came : (after : Bytes) (n stayed : ℕ) → n ≡ stayed → drop stayed (take n after) ≡ []
none_came after n stayed e = drop_of_length-le (take n after) (omega (arith, length-take n after))

none_consumed : (known : Option Bytes) → Consumes known known []
none_consumed None = search rules
none_consumed (Some b) = refl

-- what the steps of a turn come to, as it is handed over
module _ (before : ProgramState) (table : Bytes) (records : List ℕ) (input output : Bytes) where
  abbrev count : ℕ
  count = before.front.count

  abbrev made : Gathering
  made = gathering sha256 (take count input) before.front.is_ended (length output) before.state (lent_site table records)

  module _ (r : Gathered) (v : r ≡ gathered_of made) where
    -- they use no more bytes than are unread
    used_there : r.used ≤ count
    used_there =
        omega (
          arith,
          ap (λ (r : Gathered). r.used) v,
          within sha256 (take count input) before.front.is_ended (length output) before.state (lent_site table records),
          length-take count input,
        )

    -- their lines fit the output
    lines_fit : (out : Bytes) → out ≡ splice output 0 made.lines → length out ≡ length output → r.length ≤ length out
    lines_fit out o k = omega (arith, ap (λ (r : Gathered). r.length) v, k, front_fits output made.lines (sym (ap length o) ∙ k))

    -- what is written are the lines
    front_lines : (out : Bytes) → out ≡ splice output 0 made.lines → take r.length out ≡ made.lines
    front_lines out o =
        let k : r.length ≡ 0 + length made.lines = omega (arith, ap (λ (r : Gathered). r.length) v) in
        ap (take r.length) o ∙ ap (λ (i : ℕ). take i (splice output 0 made.lines)) k ∙ take_splice output 0 made.lines (omega arith)

    -- the bytes that no step used
    abbrev left : Bytes
    left = drop r.used (take count input)

    -- how far the listing has come then
    turned : (s : Bytes) (x : List ℕ) (unread came : Bytes) → s ≡ made.site.table → x ≡ made.site.records → unread ≡ left ++ came
        → progress r.state s x unread made.lines
        ≡ turn sha256 (length output) before.front.is_ended (progress before.state table records (take count input) []) came
    turned s x unread came t e u = rw (ap (λ (r : Gathered). r.state) v, t, e, u, ap (λ (r : Gathered). r.used) v)

    -- where those bytes are moved to the front, and stay there
    module _ (moved after : Bytes) (high : count ≤ length input) (m : moved ≡ splice input 0 left)
        (k : take (count - r.used) after ≡ take (count - r.used) moved) where
      left_length : 0 + length left ≡ count - r.used
      left_length = omega (arith, length-drop r.used (take count input), length-take count input, used_there)

      left_first : take (count - r.used) after ≡ left
      left_first =
          k ∙ ap (take (count - r.used)) m ∙ ap (λ (i : ℕ). take i (splice input 0 left)) (sym left_length) ∙ take_splice input 0 left (omega arith)

      -- what is unread if nothing comes, and if there are n bytes then
      unread_left : take (count - r.used) after ≡ left ++ []
      unread_left = left_first ∙ sym (append-nil left)

      unread_after : (n : ℕ) → count - r.used ≤ n → take n after ≡ left ++ drop (count - r.used) (take n after)
      unread_after n more =
          sym (take-append-drop (count - r.used) (take n after))
          ∙ ap (λ (b : Bytes). b ++ drop (count - r.used) (take n after)) (take-take (count - r.used) n after more ∙ left_first)

pub overflow_sub-left : goal.overflow_sub-left
overflow_sub-left g c = used_there _ _ _ _ _ _ c.gather-gathered.ensures.value

pub to_front-requires : goal.to_front-requires
to_front-requires g c = (used_there _ _ _ _ _ _ c.gather-gathered.ensures.value, c.requires.0)

pub write_front-requires : goal.write_front-requires
write_front-requires g c =
    let h = c.gather-gathered in
    lines_fit _ _ _ _ _ _ h.ensures.value _ h.ensures.output_after h.auto.output

pub returns-in_err-write_front-clause-lines_after : goal.returns-in_err-write_front-clause-lines_after
returns-in_err-write_front-clause-lines_after g c =
    let a = c.args in
    let h = c.gather-gathered in
    let e = h.ensures in (
      record { state = h.result.state; front = record { count = a.before.front.count - h.result.used; is_ended = a.before.front.is_ended } },
      [],
      (made a.before a.table.now a.records.now a.input.now a.output.now).lines,
      turned _ _ _ _ _ _ e.value _ _ _ _ e.table_after e.records_after
          (unread_left _ _ _ _ _ _ e.value _ _ c.requires.0 c.to_front.ensures refl),
      e.output_after,
      λ _. refl,
      λ _. refl,
      none_consumed _,
      MatchResult-from_err _ _ _ c.from_residual.ensures.0 (λ _. refl),
    )

pub returns-in_err-front-clause-lines_after : goal.returns-in_err-front-clause-lines_after
returns-in_err-front-clause-lines_after g c =
    let a = c.args in
    let h = c.gather-gathered in
    let e = h.ensures in (
      record { state = h.result.state; front = record { count = a.before.front.count - h.result.used; is_ended = a.before.front.is_ended } },
      [],
      (made a.before a.table.now a.records.now a.input.now a.output.now).lines,
      turned _ _ _ _ _ _ e.value _ _ _ _ e.table_after e.records_after
          (unread_left _ _ _ _ _ _ e.value _ _ c.requires.0 c.to_front.ensures c.read_on.ensures.input_unchanged),
      e.output_after,
      λ _. refl,
      λ _. refl,
      c.in_err-front.ensures.bytes_read,
      MatchResult-from_err _ _ _ c.from_residual-in_err-front.ensures.0 (λ _. refl),
    )

pub returns-clause-lines_after : goal.returns-clause-lines_after
returns-clause-lines_after g c =
    let a = c.args in
    let h = c.gather-gathered in
    let e = h.ensures in
    let read = c.in_ok-front.ensures in
    let n = c.in_ok-front.front.count in
    let stayed = a.before.front.count - h.result.used in
    let bounds = read.count_le_count in (
      record { state = h.result.state; front = c.in_ok-front.front },
      drop stayed (take n c.read_on.new.input),
      (made a.before a.table.now a.records.now a.input.now a.output.now).lines,
      turned _ _ _ _ _ _ e.value _ _ _ _ e.table_after e.records_after
          (unread_after _ _ _ _ _ _ e.value _ _ c.requires.0 c.to_front.ensures read.input_unchanged n bounds.0),
      e.output_after,
      λ z. none_came _ n stayed (bounds.2 z),
      λ q. none_came _ n stayed (bounds.4 (omega (arith, q, came_length c.read_on.new.input n stayed bounds.1, bounds.0))),
      read.bytes_read,
      (refl, subst (Appends _ _) (front_lines _ _ _ _ _ _ e.value _ e.output_after) c.in_ok-write_front.ensures),
    )
