-- `put_setup` meets its contract: the two puts make the layout of a setup with nothing held. Assumes nothing.
use mathlib.Core.Path.{◌≡◌, ap, ◌∙◌}
use mathlib.Core.List.{[], ◌∷◌, ◌++◌}
use Prim.Native.Nat.{ℕ, suc, ◌+◌}
use native.Mathlib.Omega.{arith}
use lib.ListN.{length, drop, replicate}
use Rattle.base.specs.List.{list_below}
use Rattle.base.specs.Bytes.{Bytes, concat, splice}
use Rattle.base.proofs.Splice.{splice_append}
use Rattle.setup.specs.Setup.{slot_count}
use Rattle.table.specs.Layout.{owners_offset, table_size, layout}
use Rattle.table.specs.Fresh.{empty_table}
use Rattle.table.proofs.put_setup.Goals as goal

module _ (sites : ℕ) (owners t₀ t₁ : Bytes) (eight : length owners ≡ slot_count) (e₀ : t₀ ≡ replicate table_size 0) (e₁ : t₁ ≡ splice t₀ 0 (sites ∷ [])) where
  empty : (t₂ : Bytes) → t₂ ≡ splice t₁ owners_offset owners → t₂ ≡ empty_table (record { sites = sites; owners = owners })
  unfolding empty_table layout concat list_below splice
  empty t₂ e₂ =
      let nine : 0 + length (sites ∷ owners) ≡ suc slot_count = omega (arith, eight) in
      e₂ ∙ ap (λ (t : Bytes). splice t owners_offset owners) (e₁ ∙ ap (λ (t : Bytes). splice t 0 (sites ∷ [])) e₀)
      ∙ splice_append (replicate table_size 0) 0 (sites ∷ []) (omega arith) owners
      ∙ ap (λ (n : ℕ). (sites ∷ owners) ++ drop n (replicate table_size 0)) nine

pub returns : goal.returns
returns c =
    empty c.args.sites c.args.owners.now _ _ c.requires.0 c.requires.1 c.put.ensures _ c.put-2.ensures
