-- What the contracts of inner functions cite. Nothing here need be believed.
use Rattle.run.specs.Ledger.{Call, admit, interpret, retire, take_back}
use Rattle.run.specs.declared.call.EncodedCall.{EncodedCall}
use Rattle.run.specs.declared.call.EncodedCall.TheVariants.{Admission, Interpretation, Retiring, TakingBack}

-- the call that the code has read
abbrev pub call_of : EncodedCall → Call
call_of (Admission block verdict) = admit block.now verdict
call_of (Interpretation place) = interpret place
call_of Retiring = retire
call_of TakingBack = take_back
