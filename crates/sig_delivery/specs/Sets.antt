-- A poll response (RFC 8936, section 2.5): the tokens that are handed out, each under its identifier, and whether there are more.
use Rattle.std.specs.Prelude.{ℕ, List, [], ◌∷◌, Bool, false, Option, option_and_then, option_map, unwrap_or, Result, codes}
use Rattle.serde_json.specs.Data.{Data, boolean, string, object, Members, no_members, member}
use Rattle.serde_json.specs.Find.{as_bool, as_object, as_str}
use Rattle.serde_json.specs.Written.{compact_text}
use Rattle.sig_json.specs.Checks.{Check, decided, first_failing}
use Rattle.sig_json.specs.Json.{json_of, member_of}
use Rattle.sig_jws.specs.declared.key.Key.{Key}
use Rattle.sig_set.specs.Written.{token_text}
use Rattle.sig_terms.specs.declared.token.Token.{Token}
use Rattle.sig_delivery.specs.declared.fault.BodyFault.{BodyFault}
use Rattle.sig_delivery.specs.declared.sets.Listed.{Listed}
use Rattle.sig_delivery.specs.declared.sets.Sets.{Sets}
use Rattle.sig_delivery.specs.Bodies.{body_by, members_read, or_missing, read_at}
use Rattle.sig_delivery.specs.Named.{by_name}

-- ---- as it is read

-- a token's text under an identifier
abbrev pub listed_as : List ℕ → List ℕ → Listed
listed_as jti text = record { jti = jti; text = text }

abbrev pub listed_at : List ℕ → Data → Option Listed
listed_at jti d = option_map (listed_as jti) (as_str d)

-- the members of `sets`, where each is a text
abbrev pub listed_of : Members → Option (List Listed)
listed_of ms = members_read listed_at ms

-- `sets`: an object of texts, which has to be there
abbrev pub listed_in : Data → Option (List Listed)
listed_in d = option_and_then listed_of (option_and_then as_object (member_of (codes "sets") d))

-- `moreAvailable`: a boolean, no where it is missing
abbrev pub more_in : Data → Option Bool
more_in d = or_missing false as_bool (member_of (codes "moreAvailable") d)

-- the members in the order in which they are checked
abbrev pub sets_checks : Data → List (Check BodyFault)
sets_checks d = read_at (codes "sets") (listed_in d) ∷ read_at (codes "moreAvailable") (more_in d) ∷ []

-- what an object hands out
abbrev pub sets_by : Data → Sets
sets_by d = record { tokens = unwrap_or (listed_in d) []; more = unwrap_or (more_in d) false }

unfoldable pub sets_in : Data → Result Sets BodyFault
sets_in d = decided (first_failing (sets_checks d)) (sets_by d)

-- what a body hands out, or the first member that is wrong
abbrev pub sets_of : List ℕ → Result Sets BodyFault
sets_of body = body_by sets_in (json_of body)

-- ---- as it is written

-- a token's identifier and its signed text
abbrev pub signed_as : Key → Token → Listed
signed_as key token = listed_as token.claims.jti (token_text token.claims key)

abbrev pub jti_of : Listed → List ℕ
jti_of l = l.jti

-- the tokens, each signed
abbrev pub all_signed : Key → List Token → List Listed
all_signed key [] = []
all_signed key (t ∷ ts) = signed_as key t ∷ all_signed key ts

-- in byte order of identifiers, and of several tokens of one identifier the first
abbrev pub listed : Key → List Token → List Listed
listed key tokens = by_name jti_of (all_signed key tokens)

-- texts under their identifiers
abbrev pub listed_members : List Listed → Members
listed_members [] = no_members
listed_members (l ∷ ls) = member l.jti (string l.text) (listed_members ls)

-- the object that is written
abbrev pub sets_data : Bool → List Listed → Data
sets_data more ls = object (member (codes "moreAvailable") (boolean more) (member (codes "sets") (object (listed_members ls)) no_members))

abbrev pub sets_text : List Token → Bool → Key → List ℕ
sets_text tokens more key = compact_text (sets_data more (listed key tokens))
