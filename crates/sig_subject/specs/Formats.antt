-- The formats of subject identifiers (RFC 9493, section 3.2; OpenID Shared Signals Framework 1.0, section 4).
use Rattle.std.specs.Prelude.{ℕ, List, [], ◌∷◌, bytes_eq, codes, find, option_map, unwrap_or}
use Rattle.sig_subject.specs.declared.format.Format.{Format}
use Rattle.sig_subject.specs.declared.format.Format.TheVariants.{Plain, Aliases, Complex}
use Rattle.sig_subject.specs.declared.format.PlainFormat.{PlainFormat}
use Rattle.sig_subject.specs.declared.format.PlainFormat.TheVariants.{Account, Email, IssSub, Opaque, Phone, Did, Uri, JwtId, Saml, Unknown}

-- the names of the formats: RFC 9493, sections 3.2.1 (account), 3.2.2 (email), 3.2.3 (iss_sub), 3.2.4 (opaque), 3.2.5 (phone_number),
-- 3.2.6 (did), 3.2.7 (uri) and 3.2.8 (aliases); Shared Signals Framework 1.0, section 4 (jwt_id, saml_assertion_id, complex)
abbrev pub formats : List (List ℕ × Format)
formats =
    (codes "account", Plain Account)
    ∷ (codes "email", Plain Email)
    ∷ (codes "iss_sub", Plain IssSub)
    ∷ (codes "opaque", Plain Opaque)
    ∷ (codes "phone_number", Plain Phone)
    ∷ (codes "did", Plain Did)
    ∷ (codes "uri", Plain Uri)
    ∷ (codes "jwt_id", Plain JwtId)
    ∷ (codes "saml_assertion_id", Plain Saml)
    ∷ (codes "aliases", Aliases)
    ∷ (codes "complex", Complex)
    ∷ []

-- the format of a name; any other name is an unknown format
abbrev pub format_in : List ℕ → List (List ℕ × Format) → Format
format_in name table = unwrap_or (option_map (λ (f : List ℕ × Format). f.1) (find (λ (f : List ℕ × Format). bytes_eq name f.0) table)) (Plain Unknown)

-- a required text, and what it begins with
pub record Field : Type 0 where
  pub name : List ℕ
  pub prefix : List ℕ

abbrev pub field : List ℕ → List ℕ → Field
field name prefix = record { name = name; prefix = prefix }

-- the required texts of a format, in the order of the standard
abbrev pub fields_of : PlainFormat → List Field
-- account (RFC 9493, section 3.2.1)
fields_of Account = field (codes "uri") (codes "acct:") ∷ []
-- email (section 3.2.2)
fields_of Email = field (codes "email") [] ∷ []
-- iss_sub (section 3.2.3)
fields_of IssSub = field (codes "iss") [] ∷ field (codes "sub") [] ∷ []
-- opaque (section 3.2.4)
fields_of Opaque = field (codes "id") [] ∷ []
-- phone_number (section 3.2.5)
fields_of Phone = field (codes "phone_number") [] ∷ []
-- did (section 3.2.6)
fields_of Did = field (codes "url") (codes "did:") ∷ []
-- uri (section 3.2.7)
fields_of Uri = field (codes "uri") [] ∷ []
-- jwt_id (Shared Signals Framework 1.0, section 4)
fields_of JwtId = field (codes "iss") [] ∷ field (codes "jti") [] ∷ []
-- saml_assertion_id (Shared Signals Framework 1.0, section 4)
fields_of Saml = field (codes "issuer") [] ∷ field (codes "assertion_id") [] ∷ []
-- any other is kept whole
fields_of Unknown = []

-- the parts of which a complex subject has at least one (Shared Signals Framework 1.0, section 4)
abbrev pub part_names : List (List ℕ)
part_names = codes "user" ∷ codes "device" ∷ codes "session" ∷ codes "application" ∷ codes "tenant" ∷ codes "org_unit" ∷ codes "group" ∷ []
