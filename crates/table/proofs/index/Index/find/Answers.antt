use mathlib.Core.Path.{◌≡◌, sym, ap, ◌∙◌}
use mathlib.Core.List.{List}
use Prim.Native.Nat.{ℕ, ◌-◌, ◌≤◌, ◌<◌}
use native.Mathlib.Omega.{arith}
use lib.ListN.{length, get_or}
use borrow.Author.Rules.{rules}
use borrow.Author.Tests.{lt-ltb}
use Rattle.base.specs.Bytes.{Bytes}
use Rattle.base.proofs.Search.{found_nowhere}
use Rattle.base.proofs.List.{length_list, list_at}
use Rattle.table.specs.Layout.{count_of, view_of}
use Rattle.table.specs.Rules.{has_digest}
use Rattle.table.specs.Steps.{index_of, last_of, byte_count}
use Rattle.table.proofs.InForm.{formed_places}
use Rattle.table.proofs.DigestIndex.{last_le, not_past, only_place}
use Rattle.table.proofs.index.Index.find.Invariants.{NotFrom}
use Rattle.table.proofs.index.Index.find.Goals as goal
use Rattle.table.proofs.index.Index.find.Goals.{After-from, Start}

-- what the index has of the digest's first byte
module _ (t d : Bytes) (index : List ℕ) (byte last : ℕ) (indexed : index ≡ index_of t) (low : byte < byte_count) (eb : byte ≡ get_or d 0 0) (el : last ≡ get_or index byte 0) where
  last_is : last ≡ last_of t (get_or d 0 0) (count_of t)
  last_is =
      el ∙ ap (λ (l : List ℕ). get_or l byte 0) indexed ∙ list_at (λ b. last_of t b (count_of t)) byte_count byte 0 low
      ∙ ap (λ (b : ℕ). last_of t b (count_of t)) eb

  begins : (last ≤ count_of t) × NotFrom t d last
  begins = (omega (arith, last_is, last_le t (get_or d 0 0) (count_of t)), λ j l h. not_past t d (count_of t) j (omega (arith, last_is)) h)

low_byte : (c : After-from) → c.from.result < byte_count
low_byte c = rw c.from.ensures c.first_of.type_inv

all_bytes : (c : Start) → length c.args.self.now.ends ≡ byte_count
all_bytes c = let t = c.args.self.now.table.now in ap length c.args.self.now.indexed ∙ length_list (λ b. last_of t b (count_of t)) byte_count

pub bounds-self-from : goal.bounds-self-from
bounds-self-from c = let h = low_byte (goal.at.bounds-self-from c).After-from in let n = all_bytes (goal.at.bounds-self-from c).Start in search rules

pub loop-j-init : goal.loop-j-init
loop-j-init c =
    begins _ _ _ _ _ c.args.self.now.indexed (low_byte (goal.at.loop-j-init c).After-from) (c.from.ensures ∙ c.first_of.ensures) c.from-end.ensures

pub has_digest-requires : goal.has_digest-requires
has_digest-requires c = let p = formed_places _ c.args.self.now.formed in omega arith

pub returns-then-has_digest : goal.returns-then-has_digest
returns-then-has_digest c =
    let a = c.args in
    let o = only_place a.self.now.table.now a.digest.now _ c.args.self.now.formed (omega arith) (sym c.has_digest.ensures ∙ c.if-has_digest.true) in
    rw (o, lt-ltb (c.loop-j.j - 1) (count_of a.self.now.table.now) (omega arith))

pub returns : goal.returns
returns c = found_nowhere (has_digest (view_of c.args.self.now.table.now) c.args.digest.now) (count_of c.args.self.now.table.now) (λ i h. c.loop-j.invariant.1 i (omega arith) h)
