-- What holds of a history under proper rules: its facts, streams and tokens are as those rules have them.
use Rattle.std.specs.Prelude.{◌≡◌, ◌≤◌, ℕ, List, true, All, Contains, IfSome, IsUtf8}
use Rattle.sig_json.specs.declared.limits.TheConstants.{LAST_NUMBER}
use Rattle.sig_event.specs.News.{IsProperNews}
use Rattle.sig_event.specs.declared.claims.Claims.{Claims}
use Rattle.sig_set.specs.Written.{IsProperClaims}
use Rattle.sig_terms.specs.declared.fact.Fact.{Fact}
use Rattle.sig_terms.specs.declared.fact.Fact.TheVariants.{Created, Configured, StatusSet, Listed, Unlisted, Deleted, Published, Settled, Asked}
use Rattle.sig_history.specs.Streams.{Stream, Made, jti_of}
use Rattle.sig_history.specs.Owed.{Sum, owed_by}
use Rattle.sig_history.specs.Sound.{is_client_name}
use Rattle.sig_history.specs.Whole.{IsWhole}

-- a fact that these rules make
abbrev pub IsOurFact : List ℕ → Fact → Type 0
IsOurFact issuer (Created conf time) = (conf.iss ≡ issuer) × All IsUtf8 conf.aud
IsOurFact issuer (Configured stream requested delivery description) = Unit {0}
IsOurFact issuer (StatusSet stream status reason operator time) = IfSome reason IsUtf8 × (time ≤ LAST_NUMBER)
IsOurFact issuer (Listed stream subject) = Unit {0}
IsOurFact issuer (Unlisted stream subject) = Unit {0}
IsOurFact issuer (Deleted stream) = Unit {0}
IsOurFact issuer (Published id news time) = IsProperNews news × (time ≤ LAST_NUMBER)
IsOurFact issuer (Settled stream items) = Unit {0}
IsOurFact issuer (Asked stream state time) = IfSome state IsUtf8 × (time ≤ LAST_NUMBER)

-- a stream of a client, with the rules' issuer and an audience of texts
pub record IsOurStream (issuer : List ℕ) (s : Stream) : Type 0 where
  pub client : is_client_name s.client ≡ true
  pub iss : s.conf.iss ≡ issuer
  pub aud : All IsUtf8 s.conf.aud

-- what the token of a stream and number says
pub record IsOurs (issuer store_id stream : List ℕ) (number : ℕ) (claims : Claims) : Type 0 where
  pub iss : claims.iss ≡ issuer
  pub jti : claims.jti ≡ jti_of store_id stream number
  pub proper : IsProperClaims claims

abbrev pub IsOurToken : List ℕ → List ℕ → Made → Type 0
IsOurToken issuer store_id t = IsOurs issuer store_id t.stream t.number t.claims

-- a token of this stream, among these
abbrev pub IsMadeFor : List Made → List ℕ → Made → Type 0
IsMadeFor tokens name t = Contains tokens t × (t.stream ≡ name)

-- a history came to this sum, and made these tokens
pub record IsKept (issuer store_id : List ℕ) (sum : Sum) (tokens : List Made) : Type 0 where
  pub stored : sum.parts.store_id ≡ store_id
  pub whole : IsWhole sum
  pub streams : All (IsOurStream issuer) sum.parts.streams
  pub made : All (IsOurToken issuer store_id) tokens
  pub owed : (name : List ℕ) → All (IsMadeFor tokens name) (owed_by sum name)
