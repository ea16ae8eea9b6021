-- How the operator reads how the streams of all clients stand and which tokens were reported as faulty, and deletes a stream.
use Rattle.std.specs.Prelude.{◌+◌, ◌-◌, ℕ, List, [], ◌∷◌, Option, None, Some, drop, length, map, max, min, take}
use Rattle.sig_terms.specs.declared.answer.Answer.TheVariants as answer
use Rattle.sig_terms.specs.declared.fact.Fact.TheVariants as fact
use Rattle.sig_terms.specs.declared.standing.Standing.{Standing}
use Rattle.sig_history.specs.Streams.{Made, Parts, Stream}
use Rattle.sig_history.specs.Owed.{Sum, owed_by, stream_named}
use Rattle.sig_calls.specs.Found.{told_by}
use Rattle.sig_calls.specs.Told.{Told, only, with_change}
use Rattle.sig_calls.specs.declared.limits.TheConstants.{REFUSED_PER_PAGE, STREAMS_PER_PAGE}

-- when the first of some tokens was made
abbrev pub first_made : List Made → Option ℕ
first_made [] = None
first_made (t ∷ ts) = Some t.claims.iat

-- how a stream stands that owes these tokens
abbrev pub standing_with : Stream → List Made → Standing
standing_with s owed = record {
  stream = s.conf.stream;
  status = s.status;
  owed = length owed;
  oldest = first_made owed;
  made = s.made;
}

-- how each stream stands, with what it owes by its name, in order of client name and number
abbrev pub standings_of : Sum → List Standing
standings_of sum = map (λ (s : Stream). standing_with s (owed_by sum s.conf.stream)) sum.parts.streams

-- what the operator that reads a page of them is told: those at the places from one on, and the place behind them
abbrev pub listing : Sum → ℕ → Told
listing sum from =
    only (answer.Standings (min (from + STREAMS_PER_PAGE) (length sum.parts.streams)) (take STREAMS_PER_PAGE (drop from (standings_of sum))))

-- what the operator that reads a page of the reported tokens is told: those at the places from one on among all that were ever
-- reported, and the place behind them; a place before the first one that is kept gives the first ones that are
abbrev pub refusing : Sum → ℕ → Told
refusing sum from =
    only (answer.Refused (min (max from sum.refused.before + REFUSED_PER_PAGE) (sum.refused.before + length sum.refused.kept))
    (take REFUSED_PER_PAGE (drop (from - sum.refused.before) sum.refused.kept)))

-- what the operator that reads the figures of the transmitter is told
abbrev pub figuring : Sum → Told
figuring sum = only (answer.Figures (length sum.parts.published) (standings_of sum))

-- what the operator that deletes a stream is told, whoever's it is
abbrev pub dropping : Parts → List ℕ → Told
dropping parts stream =
    told_by (λ (s : Stream). with_change answer.Gone (Some (fact.Deleted stream))) (stream_named stream parts.streams)
