-- How the streams of all clients stand, as the operator reads it.
use Rattle.std.proofs.Common.{◌≡◌, ◌∙◌, ap, sym, subst, ℕ, ◌+◌, ◌-◌, ◌<◌, ◌≤◌, List, [], ◌∷◌, ◌++◌, length, map, take, drop, None, refl, arith}
use Rattle.std.specs.Prelude.{min, option_map}
use Rattle.std.specs.List.{slice_get}
use Rattle.std.proofs.lemmas.List.{drop-map, length-drop, length-take, take-append-drop, take-map}
use Rattle.sig_terms.specs.declared.call.Call.TheVariants.{Streams, Refused}
use Rattle.sig_terms.specs.declared.standing.Standing.{Standing}
use Rattle.sig_history.specs.Owed.{Sum, owed_by}
use Rattle.sig_history.specs.Streams.{Made, Stream}
use Rattle.sig_calls.specs.Overseeing.{first_made, standing_with, standings_of}
use Rattle.sig_calls.specs.declared.limits.TheConstants.{STREAMS_PER_PAGE}
use Rattle.sig_answer_laws.specs.Given.{SaysStandings, TellsOfEach}

oldest_is : (ts : List Made) → first_made ts ≡ option_map (λ (t : Made). t.claims.iat) (slice_get ts 0)
oldest_is [] = refl
oldest_is (t ∷ ts) = refl

-- how a stream stands, by what it owes under its name
abbrev standing_in : Sum → Stream → Standing
standing_in sum s = standing_with s (owed_by sum s.conf.stream)

pub each_told : (sum : Sum) (ss : List Stream) → TellsOfEach sum ss (map (standing_in sum) ss)
each_told sum [] = tt
each_told sum (s ∷ ss) = (
  record { name = refl; status = refl; owed = refl; oldest = oldest_is (owed_by sum s.conf.stream); made = refl },
  each_told sum ss,
)

-- a page of them
pub standings_say : (sum : Sum) (from : ℕ)
    → SaysStandings sum (Streams from) None (min (from + STREAMS_PER_PAGE) (length sum.parts.streams)) (take STREAMS_PER_PAGE (drop from (standings_of sum)))
standings_say sum from =
    let ss : List Stream = sum.parts.streams in
    let behind : List Stream = drop from ss in
    let first : length (take from ss) ≡ min from (length ss) = length-take from ss in
    let left : length behind ≡ length ss - from = length-drop from ss in
    let page : length (take STREAMS_PER_PAGE behind) ≡ min STREAMS_PER_PAGE (length behind) = length-take STREAMS_PER_PAGE behind in
    let more : length (drop STREAMS_PER_PAGE behind) ≡ length behind - STREAMS_PER_PAGE = length-drop STREAMS_PER_PAGE behind in
    let paged : take STREAMS_PER_PAGE (drop from (map (standing_in sum) ss)) ≡ map (standing_in sum) (take STREAMS_PER_PAGE behind) =
    ap (take STREAMS_PER_PAGE) (drop-map (standing_in sum) from ss) ∙ take-map (standing_in sum) STREAMS_PER_PAGE behind in
    record {
      from = from;
      before = take from ss;
      listed = take STREAMS_PER_PAGE behind;
      rest = drop STREAMS_PER_PAGE behind;
      asked = refl;
      same = refl;
      all = ap (λ l. take from ss ++ l) (take-append-drop STREAMS_PER_PAGE behind) ∙ take-append-drop from ss;
      first = first;
      last = omega arith;
      each = subst (TellsOfEach sum (take STREAMS_PER_PAGE behind)) (sym paged) (each_told sum (take STREAMS_PER_PAGE behind));
      within = omega arith;
      full = λ some. omega arith;
    }
