-- How a client adds subjects to a stream and removes them (Shared Signals Framework 1.0, section 8.1.3). A stream that has all
-- subjects by default lists those that were removed, one that has none those that were added.
use Rattle.std.specs.Prelude.{ℕ, List, Bool, Option, None, Some, if◌then◌else◌}
use Rattle.std.specs.List.{list_any}
use Rattle.sig_subject.specs.Matching.{is_identical}
use Rattle.sig_subject.specs.declared.subject.Subject.{Subject}
use Rattle.sig_terms.specs.declared.answer.Answer.TheVariants as answer
use Rattle.sig_terms.specs.declared.fact.Fact.{Fact}
use Rattle.sig_terms.specs.declared.fact.Fact.TheVariants as fact
use Rattle.sig_terms.specs.declared.want.Defaults.{Defaults}
use Rattle.sig_terms.specs.declared.want.Defaults.TheVariants as defaults
use Rattle.sig_history.specs.Streams.{Parts, Stream}
use Rattle.sig_calls.specs.Found.{client_stream, told_by}
use Rattle.sig_calls.specs.Told.{Told, with_change}

-- whether an identical subject is on the stream's list
abbrev pub is_listed : Subject → Stream → Bool
is_listed subject s = list_any (is_identical subject) s.listed

-- the fact that puts a subject on the list, unless it is there, and the one that takes it off, where it is there
abbrev pub listed_change : List ℕ → Subject → Stream → Option Fact
listed_change stream subject s = if is_listed subject s then None else Some (fact.Listed stream subject)

abbrev pub unlisted_change : List ℕ → Subject → Stream → Option Fact
unlisted_change stream subject s = if is_listed subject s then Some (fact.Unlisted stream subject) else None

-- the fact that adds a subject, by the stream's default subjects, and the one that removes it
abbrev pub added_change : Defaults → List ℕ → Subject → Stream → Option Fact
added_change defaults.All stream subject s = unlisted_change stream subject s
added_change defaults.None stream subject s = listed_change stream subject s

abbrev pub removed_change : Defaults → List ℕ → Subject → Stream → Option Fact
removed_change defaults.All stream subject s = listed_change stream subject s
removed_change defaults.None stream subject s = unlisted_change stream subject s

-- what a client that adds a subject is told
abbrev pub adding : Parts → List ℕ → List ℕ → Subject → Told
adding parts client stream subject =
    told_by (λ (s : Stream). with_change answer.Added (added_change s.conf.defaults stream subject s)) (client_stream client stream parts.streams)

-- what a client that removes a subject is told
abbrev pub removing : Parts → List ℕ → List ℕ → Subject → Told
removing parts client stream subject =
    told_by (λ (s : Stream). with_change answer.Removed (removed_change s.conf.defaults stream subject s)) (client_stream client stream parts.streams)
