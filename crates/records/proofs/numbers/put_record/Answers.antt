-- `put_record` meets its contract: its four parts, each put right behind the one before. Assumes nothing.
use mathlib.Core.Path.{◌≡◌, refl, ap, ◌∙◌}
use mathlib.Core.List.{List, ◌++◌, append_assoc}
use Prim.Native.Nat.{ℕ, ◌+◌, ◌≤◌}
use native.Mathlib.Omega.{arith}
use lib.ListN.{length, length-append}
use borrow.Author.Rules.{rules}
use Rattle.base.specs.Bytes.{splice}
use Rattle.base.proofs.Splice.{stored_behind}
use Rattle.setup.specs.Setup.{max_sites}
use Rattle.broadcast.specs.declared.SlotRecord.{SlotRecord}
use Rattle.records.specs.Layout.{echoes_offset, readies_offset, made_offset, sent_numbers, flatten}
use Rattle.records.proofs.numbers.put_record.Goals as goal

module _ (out a b c d : List ℕ) (at : ℕ) (s : SlotRecord) (echoes : length s.echoes ≡ max_sites) (readies : length s.readies ≡ max_sites) (within : at ≤ length out) where
  all_put : a ≡ splice out at (sent_numbers s.sent) → b ≡ splice a (at + echoes_offset) s.echoes → c ≡ splice b (at + readies_offset) s.readies
      → d ≡ splice c (at + made_offset) (sent_numbers s.made) → d ≡ splice out at (flatten s)
  unfolding flatten
  all_put p q r t =
      let two = stored_behind out a b (sent_numbers s.sent) s.echoes at (at + echoes_offset) within p refl q in
      let three = stored_behind out b c (sent_numbers s.sent ++ s.echoes) s.readies at (at + readies_offset) within two (simp length-append (omega arith)) r in
      stored_behind out c d ((sent_numbers s.sent ++ s.echoes) ++ s.readies) (sent_numbers s.made) at (at + made_offset) within three (simp length-append (omega arith)) t
      ∙ ap (splice out at) (simp append_assoc)

pub returns : goal.returns
returns c =
    all_put c.args.out.now _ _ _ _ c.args.at c.args.state (search rules) (search rules) (omega (arith, c.requires))
    c.put_sent.ensures c.put.ensures c.put-2.ensures c.put_sent-2.ensures
