-- Streams beside what each owes, and what one more fact makes of each.
use Rattle.std.specs.Prelude.{ℕ, List, [], ◌∷◌, ◌++◌, Option, None, Some, not, map, filter, if◌then◌else◌}
use Rattle.sig_terms.specs.declared.fact.Fact.{Fact}
use Rattle.sig_history.specs.Streams.{Stream, Count, Publication, Made, is_before, is_named}
use Rattle.sig_history.specs.Facts.{stream_after, token_for}
use Rattle.sig_history.specs.Owed.{Sum, takes_off}
use Rattle.sig_history.specs.Refused.{Refusals}

-- a stream that stands, and the tokens that it owes
pub record Standing : Type 0 where
  pub stream : Stream
  pub owed : List Made

abbrev pub stream_in : Standing → Stream
stream_in s = s.stream

abbrev pub owed_in_standing : Standing → List Made
owed_in_standing s = s.owed

-- what streams, counts, publications and reported tokens come to
abbrev pub sum_with : List ℕ → List Standing → List Count → List Publication → Refusals → Sum
sum_with store_id standings created published refused = record {
  parts = record { store_id = store_id; streams = map stream_in standings; created = created; published = published };
  owed = map owed_in_standing standings;
  refused = refused;
}

-- a stream after a fact: its old tokens without those that the fact takes off, and then the one that the fact makes
abbrev pub standing_after : List ℕ → Fact → Standing → Standing
standing_after store_id f s = record {
  stream = stream_after f s.stream;
  owed = filter (λ t. not (takes_off s.stream.conf.stream f t)) s.owed ++ token_for store_id f s.stream;
}

-- one that is brought owes nothing, and stands in its place
abbrev pub put_standing : Standing → List Standing → List Standing
put_standing s [] = s ∷ []
put_standing s (t ∷ ts) = if is_before t.stream s.stream then t ∷ put_standing s ts else s ∷ t ∷ ts

abbrev pub placed_standing : Option Stream → List Standing → List Standing
placed_standing None standings = standings
placed_standing (Some s) standings = put_standing (record { stream = s; owed = [] }) standings

-- one that is taken away is gone with all that it owes
abbrev pub without_standing : Option (List ℕ) → List Standing → List Standing
without_standing None standings = standings
without_standing (Some name) standings = filter (λ (s : Standing). not (is_named name s.stream)) standings
