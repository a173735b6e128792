-- Lists of calls in bytes, as `replay` takes them (crates/run, specs/Encoding.antt).
use Rattle.std.specs.Prelude.{◌≡◌, [], ◌∷◌, ◌++◌, take, replicate}
use Rattle.base.specs.Bytes.{Bytes}
use Rattle.run.specs.Ledger.Call.{admit, interpret, retire, take_back}
use Rattle.run.specs.Encoding.{calls_in}

-- an admission of three bytes with verdict 5, and an interpretation of place 258
abbrev pub admission_bytes : Bytes
admission_bytes = 0 ∷ 5 ∷ 3 ∷ 0 ∷ 0 ∷ 0 ∷ 0 ∷ 0 ∷ 0 ∷ 0 ∷ 7 ∷ 8 ∷ 9 ∷ []

abbrev pub interpretation_bytes : Bytes
interpretation_bytes = 1 ∷ 2 ∷ 1 ∷ 0 ∷ 0 ∷ 0 ∷ 0 ∷ 0 ∷ 0 ∷ []

pub record EncodingCases : Type 0 where
  pub none : calls_in [] ≡ []
  -- each of the four calls, and another call behind them
  pub each :
      calls_in (admission_bytes ++ (interpretation_bytes ++ (2 ∷ 3 ∷ admission_bytes)))
      ≡ admit (7 ∷ 8 ∷ 9 ∷ []) 5 ∷ interpret 258 ∷ retire ∷ take_back ∷ admit (7 ∷ 8 ∷ 9 ∷ []) 5 ∷ []
  -- a block of no bytes
  pub empty_block : calls_in (0 ∷ 1 ∷ replicate 8 0) ≡ admit [] 1 ∷ []
  -- a call that is cut ends the list: an admission cut in its block, one cut in the block's length, and an interpretation cut in its place
  pub cut_block : calls_in (2 ∷ take 12 admission_bytes) ≡ retire ∷ []
  pub cut_length : calls_in (2 ∷ take 9 admission_bytes) ≡ retire ∷ []
  pub cut_place : calls_in (2 ∷ take 8 interpretation_bytes) ≡ retire ∷ []
  -- a call that begins with another byte ends the list
  pub other_byte : calls_in (3 ∷ 4 ∷ 3 ∷ []) ≡ take_back ∷ []
