-- How a text of the journal that is loaded is taken.
use Rattle.std.specs.Prelude.{ℕ, List, Result, Ok, Err, ⊤}
use Rattle.sig_event.specs.declared.claims.Claims.{Claims}
use Rattle.sig_set.specs.Reading.{claims_read}
use Rattle.sig_set.specs.declared.reading.ClaimsFault.{ClaimsFault}
use Rattle.sig_set.specs.declared.reading.ClaimsFault.TheVariants as claims
use Rattle.sig_receiver.specs.declared.take_fault.TakeFault.{TakeFault}
use Rattle.sig_receiver.specs.declared.take_fault.TakeFault.TheVariants.{Bad, Memory}

-- a text is not taken for the reason that it gives no claims
abbrev pub take_fault : ClaimsFault → TakeFault
take_fault (claims.Bad spot) = Bad spot
take_fault claims.Memory = Memory

abbrev pub taken_by : Result Claims ClaimsFault → Result ⊤ TakeFault
taken_by (Ok claims) = Ok tt
taken_by (Err fault) = Err (take_fault fault)

-- a text is taken where it says claims (RFC 8417, section 2.2), be its pair new or known
abbrev pub text_taken : List ℕ → Result ⊤ TakeFault
text_taken text = taken_by (claims_read text)
