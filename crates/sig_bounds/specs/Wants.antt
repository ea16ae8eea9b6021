-- What requests and scripts want of a stream is proper.
use Rattle.std.specs.Prelude.{◌≡◌, ◌≤◌, ℕ, List, Bool, Some, Ok, length}
use Rattle.serde_json.specs.Data.{Data}
use Rattle.sig_json.specs.Json.{json_of}
use Rattle.sig_json.specs.declared.limits.TheConstants.{REQUEST_BODY_BYTES}
use Rattle.sig_terms.specs.declared.want.Want.{Want}
use Rattle.sig_stream.specs.Wants.{want_of}
use Rattle.sig_calls.specs.Proper.{IsProperWant}

-- what is wanted in a text that is no longer than a request's body is proper
abbrev pub WantsAreProper : Type 0
WantsAreProper = (text : List ℕ) (body : Data) (gateway : Bool) (want : Want) → length text ≤ REQUEST_BODY_BYTES → json_of text ≡ Some body
    → want_of gateway body ≡ Ok want → IsProperWant want
