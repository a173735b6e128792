-- What the bytes of the next block show, whatever the requests: its site, its sequence number, and the picked places' digests as its
-- references. Assumes nothing.
use mathlib.Core.Path.{◌≡◌, refl, ap, ◌∙◌}
use mathlib.Core.Bool.{Bool, true}
use mathlib.Core.List.{map}
use Prim.Native.Nat.{ℕ}
use Rattle.base.specs.Bytes.{Bytes}
use Rattle.base.proofs.Number.{number_pair}
use Rattle.block.specs.Layout.{site_of, sequence_of, references_in, references_of, encode}
use Rattle.block.proofs.Encoding.{encode_references, references_held}
use Rattle.table.specs.View.{View}
use Rattle.table.specs.Layout.{digest_at, view_of}
use Rattle.table.specs.Form.{in_form}
use Rattle.table.proofs.InForm.{table_form}
use Rattle.build.specs.Building.{next_sequence, picked, next_content, next_block}
use Rattle.build.proofs.NextContent.{reference_size_lem}

module _ (seen : ℕ → Bool) (v : View) (p : ℕ) (requests : Bytes) where
  pub next_site : site_of (next_block seen v p requests) ≡ p
  unfolding encode next_content
  next_site = refl

  pub next_numbered : sequence_of (next_block seen v p requests) ≡ next_sequence seen v p
  unfolding encode next_content
  next_numbered = number_pair (next_sequence seen v p)

pub next_refers : (seen : ℕ → Bool) (t : Bytes) (p : ℕ) (requests : Bytes) → in_form t ≡ true
    → references_of (next_block seen (view_of t) p requests) ≡ map (digest_at t) (picked seen (view_of t) p)
unfolding next_content
next_refers seen t p requests f =
    let sized = reference_size_lem seen t p requests (table_form t f) in
    ap references_in (encode_references (next_content seen (view_of t) p requests) sized) ∙ references_held (next_content seen (view_of t) p requests) sized
