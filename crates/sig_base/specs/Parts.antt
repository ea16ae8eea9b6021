-- The parts of a transmitter's snapshot: how each is spelled, and how it is read. Each list has a count of eight bytes.
--
--     client          the name as a text, and how many streams it ever made
--     stream          the configuration as a record has it, the status, maybe the reason, the subjects on its list, maybe when a verification
--                     was last asked for, how many tokens were made for it, and those that it owes
--     token           its number, when it was made, and what it tells: subject, URI and payload
--     publication     the id as a text, what it said, and the tokens that it made: the stream as a text, and the number
--     refusals        how many were left out before them, and those that are kept: the stream as a text, the number, maybe the id of the
--                     publication, maybe the code, and when it was made
use Rattle.std.specs.Prelude.{ℕ, List, ◌++◌, Result}
use Rattle.sig_json.specs.declared.limits.TheConstants.{LAST_NUMBER}
use Rattle.sig_fields.specs.Kinds as kinds
use Rattle.sig_fields.specs.Reading.{given, ◌>>=◌}
use Rattle.sig_terms.specs.declared.refused_token.RefusedToken.{RefusedToken}
use Rattle.sig_terms.specs.declared.token.Issued.{Issued}
use Rattle.sig_entry.specs.Parts as parts
use Rattle.sig_base.specs.declared.base.BasePublication.{BasePublication}
use Rattle.sig_base.specs.declared.base.BaseRefusals.{BaseRefusals}
use Rattle.sig_base.specs.declared.base.BaseStream.{BaseStream}
use Rattle.sig_base.specs.declared.base.BaseToken.{BaseToken}
use Rattle.sig_base.specs.declared.base.ClientCount.{ClientCount}
use Rattle.sig_base.specs.Lists as lists

-- a time, at most 2^62
abbrev pub time : List ℕ → Result (ℕ × List ℕ) (List ℕ)
time = kinds.number_up_to LAST_NUMBER

-- ---- clients

abbrev pub client_bytes : ClientCount → List ℕ
client_bytes c = kinds.text_bytes c.client ++ kinds.number_bytes c.created

abbrev pub client : List ℕ → Result (ClientCount × List ℕ) (List ℕ)
client = do
  name ← kinds.text
  created ← kinds.number
  given (record { client = name; created = created })

-- ---- streams

abbrev pub token_bytes : BaseToken → List ℕ
token_bytes t = kinds.number_bytes t.number ++ kinds.number_bytes t.iat ++ parts.news_bytes t.news

abbrev pub token : List ℕ → Result (BaseToken × List ℕ) (List ℕ)
token = do
  number ← kinds.number
  iat ← time
  news ← parts.any_news
  given (record { number = number; iat = iat; news = news })

abbrev pub stream_bytes : BaseStream → List ℕ
stream_bytes s =
    parts.conf_bytes s.conf ++ parts.status_bytes s.status ++ kinds.maybe_bytes kinds.text_bytes s.reason ++ lists.list_bytes parts.subject_bytes s.listed
    ++ kinds.maybe_bytes kinds.number_bytes s.asked ++ kinds.number_bytes s.made ++ lists.list_bytes token_bytes s.owed

abbrev pub stream : List ℕ → Result (BaseStream × List ℕ) (List ℕ)
stream = do
  conf ← parts.configuration
  status ← parts.status
  reason ← kinds.maybe kinds.text
  listed ← lists.list parts.subject
  asked ← kinds.maybe time
  made ← kinds.number
  owed ← lists.list token
  given (record {
    conf = conf;
    status = status;
    reason = reason;
    listed = listed;
    asked = asked;
    made = made;
    owed = owed;
  })

-- ---- publications

abbrev pub issued_bytes : Issued → List ℕ
issued_bytes i = kinds.text_bytes i.stream ++ kinds.number_bytes i.number

abbrev pub issued : List ℕ → Result (Issued × List ℕ) (List ℕ)
issued = do
  name ← kinds.text
  number ← kinds.number
  given (record { stream = name; number = number })

abbrev pub publication_bytes : BasePublication → List ℕ
publication_bytes p = kinds.text_bytes p.id ++ parts.news_bytes p.news ++ lists.list_bytes issued_bytes p.tokens

abbrev pub publication : List ℕ → Result (BasePublication × List ℕ) (List ℕ)
publication = do
  id ← kinds.text
  news ← parts.told_news
  tokens ← lists.list issued
  given (record { id = id; news = news; tokens = tokens })

-- ---- tokens that were reported as faulty

abbrev pub refused_bytes : RefusedToken → List ℕ
refused_bytes t =
    kinds.text_bytes t.stream ++ kinds.number_bytes t.number ++ kinds.maybe_bytes kinds.text_bytes t.id ++ kinds.maybe_bytes kinds.text_bytes t.code
    ++ kinds.number_bytes t.time

abbrev pub refused : List ℕ → Result (RefusedToken × List ℕ) (List ℕ)
refused = do
  name ← kinds.text
  number ← kinds.number
  id ← kinds.maybe kinds.text
  code ← kinds.maybe kinds.text
  at ← time
  given (record { stream = name; number = number; id = id; code = code; time = at })

abbrev pub refusals_bytes : BaseRefusals → List ℕ
refusals_bytes r = kinds.number_bytes r.before ++ lists.list_bytes refused_bytes r.kept

abbrev pub refusals : List ℕ → Result (BaseRefusals × List ℕ) (List ℕ)
refusals = do
  before ← kinds.number
  kept ← lists.list refused
  given (record { before = before; kept = kept })
