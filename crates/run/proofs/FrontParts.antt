-- The call at the front of an encoded list, by the parts that the code splits it into. Assumes nothing.
use mathlib.Core.Path.{◌≡◌, refl, sym, ap, ◌∙◌}
use mathlib.Core.Logic.{◌≢◌}
use mathlib.Core.List.{◌∷◌}
use Prim.Native.Nat.{ℕ, ◌+◌, ◌-◌, ◌≤◌, ◌<◌}
use native.Mathlib.Omega.{arith}
use lib.ListN.{length, get_or, take, drop, length-drop}
use lib.Seq.{drop-drop}
use Rattle.base.specs.Bytes.{Bytes}
use Rattle.base.specs.LowFirst.{word_size, low_first_at}
use Rattle.run.specs.Ledger.{Call, admit, interpret, retire, take_back}
use Rattle.run.specs.Encoding.{admission_byte, interpretation_byte, retiring_byte, taking_back_byte, admission_header, interpretation_size, bare_size, first_size, first_call}
use Rattle.run.proofs.FrontCall.{way_cut, way_cut_block, way_admission, way_short, way_interpretation, way_retiring, way_taking_back}

-- a call is at the front, and these bytes are behind it
abbrev pub Splits : Bytes → Call → Bytes → Type 0
Splits b call behind = (first_size b ≢ 0) × (call ≡ first_call b) × (behind ≡ drop (first_size b) b)

module _ (b rest : Bytes) (kind : ℕ) (eb : b ≡ kind ∷ rest) where
  pub here : get_or b 0 0 ≡ kind
  here = rw eb

  length_of : length b ≡ length rest + 1
  length_of = ap length eb ∙ omega arith

  splits : (n : ℕ) (call : Call) (behind : Bytes) → 0 < n → n ≡ first_size b → call ≡ first_call b → behind ≡ drop n b → Splits b call behind
  splits n call behind some size c d = (λ z. omega (arith, some, size, z), c, d ∙ ap (λ (k : ℕ). drop k b) size)

  pub retiring_front : kind ≡ retiring_byte → Splits b retire rest
  unfolding first_call
  retiring_front k = splits bare_size retire rest (omega arith) (way_retiring b (omega (arith, length_of)) (here ∙ k)) (rw (here ∙ k)) (rw eb)

  pub taking_back_front : kind ≡ taking_back_byte → Splits b take_back rest
  unfolding first_call
  taking_back_front k = splits bare_size take_back rest (omega arith) (way_taking_back b (omega (arith, length_of)) (here ∙ k)) (rw (here ∙ k)) (rw eb)

  module _ (k : kind ≡ interpretation_byte) where
    pub place_cut : length rest < word_size → first_size b ≡ 0
    place_cut h = sym (way_short b (λ e. omega (arith, here, k, e)) (λ e. omega (arith, here, k, e)) (omega (arith, length_of)))

    pub interpretation_front : word_size ≤ length rest → (place : ℕ) (behind : Bytes) → place ≡ low_first_at rest 0 → behind ≡ drop word_size rest → Splits b (interpret place) behind
    unfolding first_call
    interpretation_front h place behind p d =
        splits interpretation_size (interpret place) behind (omega arith) (way_interpretation b (omega (arith, length_of)) (here ∙ k))
        (rw (here ∙ k, eb) (ap interpret p)) (d ∙ rw eb refl)

  module _ (k : kind ≡ admission_byte) where
    pub verdict_cut : length rest ≡ 0 → first_size b ≡ 0
    verdict_cut h = sym (way_cut b (here ∙ k) (omega (arith, length_of)))

    module _ (verdict : ℕ) (rest' : Bytes) (er : rest ≡ verdict ∷ rest') where
      length_rest : length b ≡ length rest' + 2
      length_rest = ap length eb ∙ rw er (omega arith)

      header : drop admission_header b ≡ drop word_size rest'
      header = rw (eb, er) refl

      pub length_cut : length rest' < word_size → first_size b ≡ 0
      length_cut h = sym (way_cut b (here ∙ k) (omega (arith, length_rest)))

      module _ (size : ℕ) (rest'' : Bytes) (there : word_size ≤ length rest') (es : size ≡ low_first_at rest' 0) (ed : rest'' ≡ drop word_size rest') where
        is_size : low_first_at b 2 ≡ size
        is_size = rw (eb, er) (sym es)

        length_behind : length rest'' ≡ length b - admission_header
        length_behind = omega (arith, ap length ed, length-drop word_size rest', length_rest)

        pub block_cut : length rest'' < size → first_size b ≡ 0
        block_cut h = sym (way_cut_block b (here ∙ k) (omega (arith, length_rest)) (omega (arith, is_size, length_behind)))

        pub admission_front : size ≤ length rest'' → (block behind : Bytes) → block ≡ take size rest'' → behind ≡ drop size rest'' → Splits b (admit block verdict) behind
        unfolding first_call
        admission_front h block behind p d =
            let whole : admission_header + size ≡ first_size b = ap (λ (n : ℕ). admission_header + n) (sym is_size) ∙ way_admission b (here ∙ k) (omega (arith, length_rest)) (omega (arith, is_size, length_behind)) in
            let e : rest'' ≡ drop admission_header b = ed ∙ sym header in
            let v : get_or b 1 0 ≡ verdict = rw (eb, er) refl in
            splits (admission_header + size) (admit block verdict) behind (omega arith) whole
            (rw (here ∙ k, is_size, v, ← e) (ap (λ (x : Bytes). admit x verdict) p))
            (d ∙ ap (drop size) e ∙ drop-drop size admission_header b)
