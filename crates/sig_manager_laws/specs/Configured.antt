-- What a receiver may set of a stream's configuration, as the transmitter tells it (OpenID Shared Signals Framework 1.0,
-- section 8.1.1).
use Rattle.std.specs.Prelude.{◌≡◌, ℕ, List, Bool, true, Option, Some, IfSome, Ok}
use Rattle.sig_terms.specs.declared.configuration.StreamConf.{StreamConf}
use Rattle.sig_terms.specs.declared.endpoint.Endpoint.{Endpoint}
use Rattle.sig_terms.specs.declared.want.Delivery.{Delivery}
use Rattle.sig_terms.specs.declared.want.Delivery.TheVariants.{Poll, Push}
use Rattle.sig_terms.specs.declared.want.Want.{Want}
use Rattle.sig_stream.specs.Configurations.{conf_data}
use Rattle.sig_stream.specs.Wants.{is_field, reached, want_of}

-- the URL spells the endpoint, which is reached with this gateway, and the authorization is the text of a field
pub record IsReached (gateway : Bool) (endpoint : Endpoint) (url : List ℕ) (authorization : Option (List ℕ)) : Type 0 where
  pub spelled : reached gateway url ≡ Some endpoint
  pub shown : IfSome authorization (λ text. is_field text ≡ true)

-- a delivery as it is read of a request
abbrev pub IsTaken : Bool → Delivery → Type 0
IsTaken gateway Poll = Unit {0}
IsTaken gateway (Push endpoint url authorization) = IsReached gateway endpoint url authorization

-- what its receiver may set of a configuration
abbrev pub set_in : StreamConf → Want
set_in conf = record { requested = conf.requested; delivery = Some conf.delivery; description = conf.description }

-- a configuration whose delivery was read of a request is read back of its object
abbrev pub ConfigurationsAreReadBack : Type 0
ConfigurationsAreReadBack = (conf : StreamConf) (base : List ℕ) → IsTaken true conf.delivery → want_of true (conf_data conf base) ≡ Ok (set_in conf)
