-- What calls a list of bytes is, by computing. Assumes nothing.
use mathlib.Core.Path.{refl}
use Rattle.base.specs.LowFirst.{low_first}
use Rattle.run.specs.Encoding.{first_size, first_call, first_calls, calls_in}
use Rattle.cases.specs.Encoding.{EncodingCases}

pub encoding : EncodingCases
unfolding low_first first_size first_call first_calls calls_in
encoding = record { none = refl; each = refl; empty_block = refl; cut_block = refl; cut_length = refl; cut_place = refl; other_byte = refl }
