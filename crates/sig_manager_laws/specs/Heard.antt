-- What a manager hears of the streams that the transmitter lists (OpenID Shared Signals Framework 1.0, section 8.1.1.2).
use Rattle.std.specs.Prelude.{◌≡◌, ◌<◌, ◌^◌, ℕ, List, map, filter, bytes_eq, true, Some, IsUtf8, All, Ok}
use Rattle.sig_terms.specs.declared.answer.Answer.TheVariants as answer
use Rattle.sig_terms.specs.declared.call.Call.TheVariants as call
use Rattle.sig_terms.specs.declared.configuration.StreamConf.{StreamConf}
use Rattle.sig_terms.specs.declared.rules.Rules.{Rules}
use Rattle.sig_history.specs.Owed.{Sum}
use Rattle.sig_history.specs.Streams.{Stream}
use Rattle.sig_calls.specs.Table.{answer_of}
use Rattle.sig_txroutes.specs.Answers.{reply}
use Rattle.sig_manager.specs.Listing.{listed_in}
use Rattle.sig_manager.specs.declared.listed.Listed.{Listed}
use Rattle.sig_manager_laws.specs.Configured.{IsTaken, set_in}
use Rattle.sig_manager_laws.specs.Written.{AreTexts, IsWritten}

-- a configuration that can be told: its delivery was read of a request, its texts are in UTF-8, and its interval has 64 bits
pub record IsTold (conf : StreamConf) : Type 0 where
  pub stream : IsUtf8 conf.stream
  pub iss : IsUtf8 conf.iss
  pub aud : AreTexts conf.aud
  pub written : IsWritten (set_in conf)
  pub interval : conf.interval < 2 ^ 64
  pub taken : IsTaken true conf.delivery

-- a stream as it is listed: by its name, with its description and its want
abbrev pub listed_for : StreamConf → Listed
listed_for conf = record { id = conf.stream; description = conf.description; want = Some (set_in conf) }

-- the configurations that a response tells are heard one by one, in their order
abbrev pub ConfigurationsAreHeard : Type 0
ConfigurationsAreHeard = (rules : Rules) (confs : List StreamConf) → IsUtf8 rules.base → All IsTold confs
    → listed_in (reply (answer.Confs confs) rules) ≡ Ok (map listed_for confs)

-- the streams of a client, in the order of the history: those of one client by number
abbrev pub streams_of : List ℕ → Sum → List Stream
streams_of client sum = filter (λ (s : Stream). bytes_eq s.client client) sum.parts.streams

abbrev pub CanBeTold : Stream → Type 0
CanBeTold s = IsTold s.conf

-- a client that asks for its streams hears of each of them, and of no other
abbrev pub StreamsAreHeard : Type 0
StreamsAreHeard = (rules : Rules) (sum : Sum) (client : List ℕ) (now : ℕ) → IsUtf8 rules.base → All CanBeTold (streams_of client sum)
    → listed_in (reply (answer_of rules sum (call.ReadAll client) now) rules) ≡ Ok (map (λ (s : Stream). listed_for s.conf) (streams_of client sum))
