-- A poll request (RFC 8936, section 2.4): what it acknowledges, what it reports as faulty, and how many tokens it takes.
use Rattle.std.specs.Prelude.{ℕ, List, [], ◌∷◌, map, Bool, true, Option, Some, None, option_and_then, option_map, unwrap_or, Result, codes}
use Rattle.serde_json.specs.Data.{Data, boolean, number, unsigned, string, array, object, Members, no_members, member}
use Rattle.serde_json.specs.Find.{as_array, as_bool, as_number, as_object, as_u64}
use Rattle.serde_json.specs.View.{items_of}
use Rattle.serde_json.specs.Written.{compact_text}
use Rattle.sig_json.specs.Checks.{Check, decided, first_failing}
use Rattle.sig_json.specs.Json.{json_of, member_of, text_member}
use Rattle.sig_terms.specs.declared.call.PollAsk.{PollAsk}
use Rattle.sig_terms.specs.declared.call.Reported.{Reported}
use Rattle.sig_delivery.specs.declared.fault.BodyFault.{BodyFault}
use Rattle.sig_delivery.specs.Bodies.{body_by, members_read, or_missing, read_at, texts_of}
use Rattle.sig_delivery.specs.Named.{by_name}

-- ---- as it is read

-- `ack`: a list of texts, the identifiers of tokens that were taken
abbrev pub acks_at : Data → Option (List (List ℕ))
acks_at d = option_and_then texts_of (as_array d)

abbrev pub acks_in : Data → Option (List (List ℕ))
acks_in d = or_missing [] acks_at (member_of (codes "ack") d)

-- `maxEvents`: a whole number from 0
abbrev pub max_at : Data → Option (Option ℕ)
max_at d = option_map (λ n. Some n) (option_and_then as_u64 (as_number d))

abbrev pub max_in : Data → Option (Option ℕ)
max_in d = or_missing None max_at (member_of (codes "maxEvents") d)

-- `returnImmediately`: a boolean, on which nothing rests
abbrev pub immediately_in : Data → Option Bool
immediately_in d = or_missing true as_bool (member_of (codes "returnImmediately") d)

-- `setErrs`: an object, under each token's identifier an object with the text `err`
abbrev pub reported_as : List ℕ → List ℕ → Reported
reported_as jti code = record { jti = jti; code = code }

abbrev pub error_at : List ℕ → Data → Option Reported
error_at jti d = option_map (reported_as jti) (text_member (codes "err") d)

abbrev pub errors_of : Members → Option (List Reported)
errors_of ms = members_read error_at ms

abbrev pub errors_at : Data → Option (List Reported)
errors_at d = option_and_then errors_of (as_object d)

abbrev pub errors_in : Data → Option (List Reported)
errors_in d = or_missing [] errors_at (member_of (codes "setErrs") d)

-- the members in the order in which they are checked
abbrev pub ask_checks : Data → List (Check BodyFault)
ask_checks d =
    read_at (codes "ack") (acks_in d)
    ∷ read_at (codes "maxEvents") (max_in d)
    ∷ read_at (codes "returnImmediately") (immediately_in d)
    ∷ read_at (codes "setErrs") (errors_in d)
    ∷ []

-- what an object asks
abbrev pub ask_by : Data → PollAsk
ask_by d = record { max = unwrap_or (max_in d) None; acks = unwrap_or (acks_in d) []; errors = unwrap_or (errors_in d) [] }

unfoldable pub ask_in : Data → Result PollAsk BodyFault
ask_in d = decided (first_failing (ask_checks d)) (ask_by d)

-- an empty body is an object without members
abbrev pub ask_value : List ℕ → Option Data
ask_value [] = Some (object no_members)
ask_value (b ∷ bytes) = json_of (b ∷ bytes)

-- what a body asks, or the first member that is wrong
abbrev pub ask_of : List ℕ → Result PollAsk BodyFault
ask_of body = body_by ask_in (ask_value body)

-- ---- as it is written

-- the error of a token (RFC 8936, section 2.6)
abbrev pub error_data : List ℕ → Data
error_data code = object (member (codes "description") (string code) (member (codes "err") (string code) no_members))

-- errors under their tokens' identifiers
abbrev pub error_members : List Reported → Members
error_members [] = no_members
error_members (r ∷ rs) = member r.jti (error_data r.code) (error_members rs)

abbrev pub errors_data : List Reported → Data
errors_data errors = object (error_members errors)

-- errors in byte order of identifiers; of several for one token the first counts
abbrev pub jti_of : Reported → List ℕ
jti_of r = r.jti

abbrev pub errors_by_name : List Reported → List Reported
errors_by_name errors = by_name jti_of errors

abbrev pub texts_data : List (List ℕ) → Data
texts_data texts = array (items_of (map (λ t. string t) texts))

-- how many it takes, and then other members
abbrev pub with_max : Option ℕ → Members → Members
with_max None ms = ms
with_max (Some n) ms = member (codes "maxEvents") (number (unsigned n)) ms

-- the object that is written. It asks to be answered at once, since some transmitters would hold it open (RFC 8936, section 2.4)
abbrev pub ask_data : PollAsk → Data
ask_data ask = object
    (member (codes "ack") (texts_data ask.acks)
    (with_max ask.max
    (member (codes "returnImmediately") (boolean true)
    (member (codes "setErrs") (errors_data (errors_by_name ask.errors)) no_members))))

abbrev pub ask_text : PollAsk → List ℕ
ask_text ask = compact_text (ask_data ask)

-- what is read of it: the same, with its errors in byte order of identifiers
abbrev pub ask_read : PollAsk → PollAsk
ask_read ask = record { max = ask.max; acks = ask.acks; errors = errors_by_name ask.errors }
