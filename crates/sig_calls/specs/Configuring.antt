-- How a client reads, changes and deletes streams (Shared Signals Framework 1.0, sections 8.1.1.2 to 8.1.1.5).
use Rattle.std.specs.Prelude.{ℕ, List, Option, None, Some, bytes_eq, filter, map, unwrap_or, if◌then◌else◌}
use Rattle.std.specs.Option.{option_or}
use Rattle.sig_terms.specs.declared.want.Want.{Want}
use Rattle.sig_terms.specs.declared.want.Delivery.TheVariants as delivery
use Rattle.sig_terms.specs.declared.configuration.StreamConf.{StreamConf}
use Rattle.sig_terms.specs.declared.answer.Answer.TheVariants as answer
use Rattle.sig_terms.specs.declared.fact.Fact.{Fact}
use Rattle.sig_terms.specs.declared.fact.Fact.TheVariants as fact
use Rattle.sig_history.specs.Streams.{Parts, Stream}
use Rattle.sig_history.specs.Facts.{configured}
use Rattle.sig_calls.specs.Equality.{same_settings}
use Rattle.sig_calls.specs.Found.{client_stream, told_by}
use Rattle.sig_calls.specs.Told.{Told, only, with_change}

-- the configurations of a client's streams, in order of number
abbrev pub confs_of : List ℕ → List Stream → List StreamConf
confs_of client streams = map (λ (s : Stream). s.conf) (filter (λ (s : Stream). bytes_eq s.client client) streams)

-- what a client that reads its streams is told
abbrev pub reading_all : Parts → List ℕ → Told
reading_all parts client = only (answer.Confs (confs_of client parts.streams))

-- what a client that reads a stream is told
abbrev pub reading : Parts → List ℕ → List ℕ → Told
reading parts client stream = told_by (λ (s : Stream). only (answer.Conf s.conf)) (client_stream client stream parts.streams)

-- a configuration with what is wanted; what isn't wanted stays
abbrev pub patched : Want → StreamConf → StreamConf
patched want c =
    configured (option_or want.requested c.requested) (unwrap_or want.delivery c.delivery) (option_or want.description c.description) c

-- a configuration with what is wanted; what isn't wanted takes the default
abbrev pub replaced : Want → StreamConf → StreamConf
replaced want c = configured want.requested (unwrap_or want.delivery delivery.Poll) want.description c

-- the fact that makes of one configuration another, where something differs
abbrev pub configured_change : List ℕ → StreamConf → StreamConf → Option Fact
configured_change stream old new =
    if same_settings old new then None else Some (fact.Configured stream new.requested new.delivery new.description)

-- the stream stands afterwards as the answer says
abbrev pub reconfigured : List ℕ → (StreamConf → StreamConf) → Stream → Told
reconfigured stream anew s = with_change (answer.Conf (anew s.conf)) (configured_change stream s.conf (anew s.conf))

-- what a client that changes a part of a configuration is told
abbrev pub patching : Parts → List ℕ → List ℕ → Want → Told
patching parts client stream want = told_by (reconfigured stream (patched want)) (client_stream client stream parts.streams)

-- what a client that replaces a configuration is told
abbrev pub putting : Parts → List ℕ → List ℕ → Want → Told
putting parts client stream want = told_by (reconfigured stream (replaced want)) (client_stream client stream parts.streams)

-- what a client that deletes a stream is told
abbrev pub deleting : Parts → List ℕ → List ℕ → Told
deleting parts client stream =
    told_by (λ (s : Stream). with_change answer.Gone (Some (fact.Deleted stream))) (client_stream client stream parts.streams)
