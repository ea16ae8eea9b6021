-- What the transmitter tells in JSON (OpenID Shared Signals Framework 1.0, sections 7.1 and 8.1).
use Rattle.std.specs.Prelude.{ℕ, List, [], ◌∷◌, ◌++◌, ◌==◌, map, Option, None, Some, option_map, codes, decimal, if◌then◌else◌}
use Rattle.serde_json.specs.Data.{Data, string, array, object, number, unsigned, Members, no_members, member, put}
use Rattle.serde_json.specs.View.{items_of}
use Rattle.uuid.specs.Text.{hyphenated_text, lower}
use Rattle.sig_event.specs.Status.{status_text}
use Rattle.sig_event.specs.declared.status.Status.{Status}
use Rattle.sig_terms.specs.declared.configuration.StreamConf.{StreamConf}
use Rattle.sig_terms.specs.declared.refused_token.RefusedToken.{RefusedToken}
use Rattle.sig_terms.specs.declared.rules.Rules.{Rules}
use Rattle.sig_terms.specs.declared.standing.Standing.{Standing}
use Rattle.sig_terms.specs.declared.token.Issued.{Issued}
use Rattle.sig_terms.specs.declared.want.Defaults.{Defaults}
use Rattle.sig_terms.specs.declared.want.Defaults.TheVariants as defaults
use Rattle.sig_stream.specs.Configurations.{conf_data, put_given, texts_data}
use Rattle.sig_stream.specs.Wants.{poll_method, push_method}
use Rattle.sig_txroutes.specs.Routes.{row_of}
use Rattle.sig_txroutes.specs.declared.told_stream.Pushed.{Pushed}
use Rattle.sig_txroutes.specs.declared.told_stream.ToldStream.{ToldStream}
use Rattle.sig_txroutes.specs.declared.route.Route.{Route}
use Rattle.sig_txroutes.specs.declared.route.Route.TheVariants as route
use Rattle.sig_txroutes.specs.declared.route.BodyCall.TheVariants as body

-- ---- the metadata (section 7.1)

-- which subjects a new stream has
abbrev pub defaults_text : Defaults → List ℕ
defaults_text defaults.All = codes "ALL"
defaults_text defaults.None = codes "NONE"

-- the address of a route
abbrev pub endpoint : List ℕ → Route → Data
endpoint base r = string (base ++ (row_of r).path)

-- the members that name addresses
abbrev pub addresses : List ℕ → Members
addresses base =
    member (codes "add_subject_endpoint") (endpoint base (route.Body body.Add))
    (member (codes "configuration_endpoint") (endpoint base (route.Body body.Create))
    (member (codes "remove_subject_endpoint") (endpoint base (route.Body body.Remove))
    (member (codes "status_endpoint") (endpoint base (route.Body body.SetStatus))
    (member (codes "verification_endpoint") (endpoint base (route.Body body.Verify)) no_members))))

-- push and poll (RFC 8935, RFC 8936)
abbrev pub methods_data : Data
methods_data = texts_data (push_method ∷ poll_method ∷ [])

-- what the transmitter offers
abbrev pub metadata : Rules → Data
metadata rules = object
    (put (codes "spec_version") (string (codes "1_0"))
    (put (codes "issuer") (string rules.issuer)
    (put (codes "delivery_methods_supported") methods_data
    (put (codes "default_subjects") (string (defaults_text rules.defaults)) (addresses rules.base)))))

-- ---- streams (section 8.1.1 and 8.1.2)

-- the configurations of all streams of a client
abbrev pub confs_data : List StreamConf → List ℕ → Data
confs_data confs base = array (items_of (map (λ conf. conf_data conf base) confs))

-- the status of a stream, with the reason that stands
abbrev pub status_data : List ℕ → Status → Option (List ℕ) → Data
status_data stream status reason = object
    (put_given (codes "reason") (option_map (λ t. string t) reason)
    (member (codes "status") (string (status_text status))
    (member (codes "stream_id") (string stream) no_members)))

-- ---- publications

-- the identifier of a token: the store's, the stream's name and its number, with dots between
abbrev pub token_id : List ℕ → Issued → List ℕ
token_id store_id token = hyphenated_text lower store_id ++ codes "." ++ token.stream ++ codes "." ++ decimal token.number

abbrev pub token_data : List ℕ → Issued → Data
token_data store_id token = object
    (member (codes "jti") (string (token_id store_id token))
    (member (codes "stream_id") (string token.stream) no_members))

abbrev pub tokens_data : List ℕ → List Issued → Data
tokens_data store_id tokens = array (items_of (map (token_data store_id) tokens))

-- the tokens that a publication made
abbrev pub published_data : List ℕ → List Issued → Data
published_data store_id tokens = object (member (codes "tokens") (tokens_data store_id tokens) no_members)

-- ---- how streams stand, for the operator

-- a stream's name and status, how many tokens it owes, how many were made, and where it owes one when the first was made
abbrev pub standing_members : Standing → Members
standing_members s =
    put_given (codes "oldest") (option_map (λ t. number (unsigned t)) s.oldest)
    (member (codes "made") (number (unsigned s.made))
    (member (codes "owed") (number (unsigned s.owed))
    (member (codes "status") (string (status_text s.status))
    (member (codes "stream_id") (string s.stream) no_members))))

abbrev pub standing_data : Standing → Data
standing_data s = object (standing_members s)

abbrev pub streams_data : List Standing → Data
streams_data standings = array (items_of (map standing_data standings))

-- a page of them, with the place behind it
abbrev pub standings_data : ℕ → List Standing → Data
standings_data next standings = object
    (member (codes "next") (number (unsigned next))
    (member (codes "streams") (streams_data standings) no_members))

-- when a stream was last tried, how many attempts were late in a row since a good one, and where some were when it is tried again
abbrev pub due_of : Pushed → Option Data
due_of p = if p.late == 0 then None else Some (number (unsigned p.due))

abbrev pub pushed_data : Pushed → Data
pushed_data p = object
    (put_given (codes "due") (due_of p)
    (member (codes "at") (number (unsigned p.at))
    (member (codes "late") (number (unsigned p.late)) no_members)))

-- a stream with that, where it was tried
abbrev pub told_data : ToldStream → Data
told_data t = object (put_given (codes "push") (option_map pushed_data t.push) (standing_members t.standing))

abbrev pub told_streams_data : List ToldStream → Data
told_streams_data streams = array (items_of (map told_data streams))

-- a page of them, with the place behind it
abbrev pub told_page_data : ℕ → List ToldStream → Data
told_page_data next streams = object
    (member (codes "next") (number (unsigned next))
    (member (codes "streams") (told_streams_data streams) no_members))

-- ---- tokens that were reported as faulty, for the operator

-- a token's stream and number, when it was made, and where they are known the name of its publication and the code
abbrev pub refused_token_data : RefusedToken → Data
refused_token_data t = object
    (put_given (codes "code") (option_map (λ text. string text) t.code)
    (put_given (codes "publish_id") (option_map (λ text. string text) t.id)
    (member (codes "number") (number (unsigned t.number))
    (member (codes "stream_id") (string t.stream)
    (member (codes "time") (number (unsigned t.time)) no_members)))))

abbrev pub reported_data : List RefusedToken → Data
reported_data tokens = array (items_of (map refused_token_data tokens))

-- a page of them, with the place behind it
abbrev pub refused_data : ℕ → List RefusedToken → Data
refused_data next tokens = object
    (member (codes "next") (number (unsigned next))
    (member (codes "refused") (reported_data tokens) no_members))
