-- What streams owe: of all the tokens made, those that no later fact takes off; and beside that those that were reported as
-- faulty.
use Rattle.std.specs.Prelude.{ℕ, List, [], ◌∷◌, ◌++◌, ◌==◌, Bool, false, not, ◌&&◌, ◌||◌, bytes_eq, map, filter, length, Option, None, Some, if◌then◌else◌}
use Rattle.std.specs.List.{list_any}
use Rattle.std.specs.Option.{option_map_or}
use Rattle.sig_event.specs.declared.status.Status.{Status}
use Rattle.sig_terms.specs.declared.fact.Fact.{Fact}
use Rattle.sig_terms.specs.declared.fact.Fact.TheVariants.{Created, Configured, StatusSet, Listed, Unlisted, Deleted, Published, Settled, Asked}
use Rattle.sig_terms.specs.declared.fact.SettledItem.{SettledItem}
use Rattle.sig_terms.specs.declared.refused_token.RefusedToken.{RefusedToken}
use Rattle.sig_history.specs.Streams.{Stream, Parts, Made, is_disabled, is_enabled, is_named, is_notice, stands}
use Rattle.sig_history.specs.Facts.{made_by, parts_after, parts_of}
use Rattle.sig_history.specs.Refused.{Refusals, no_refusals, refused_in, with_refused}

-- what a history comes to: its parts, beside each stream the tokens that it owes, in order of number, and the tokens that were
-- reported as faulty
pub record Sum : Type 0 where
  pub parts : Parts
  pub owed : List (List Made)
  pub refused : Refusals

-- a token of this stream
abbrev pub is_of : List ℕ → Made → Bool
is_of name t = bytes_eq t.stream name

-- whether items name a number
abbrev pub names_number : ℕ → List SettledItem → Bool
names_number number items = list_any (λ (i : SettledItem). i.number == number) items

-- whether a later fact takes a stream's token off: it was settled, or the stream was disabled or deleted
abbrev pub takes_off : List ℕ → Fact → Made → Bool
takes_off name (Created conf time) t = false
takes_off name (Configured stream requested delivery description) t = false
takes_off name (StatusSet stream status reason operator time) t = bytes_eq stream name && is_disabled status
takes_off name (Listed stream subject) t = false
takes_off name (Unlisted stream subject) t = false
takes_off name (Deleted stream) t = bytes_eq stream name
takes_off name (Published id news time) t = false
takes_off name (Settled stream items) t = bytes_eq stream name && names_number t.number items
takes_off name (Asked stream state time) t = false

-- the stream stands throughout, and no later fact takes the token off
abbrev pub survives : List ℕ → Parts → List Fact → Made → Bool
survives name parts [] t = stands name parts.streams
survives name parts (f ∷ fs) t =
    stands name parts.streams && (not (takes_off name f t) && survives name (parts_after parts f) fs t)

-- of the tokens that the facts make for a stream, those that survive the later facts
abbrev pub owed_of : List ℕ → Parts → List Fact → List Made
owed_of name parts [] = []
owed_of name parts (f ∷ fs) =
    filter (survives name (parts_after parts f) fs) (filter (is_of name) (made_by parts f))
    ++ owed_of name (parts_after parts f) fs

-- what stands beside the stream of a name
abbrev pub owed_in : List ℕ → List Stream → List (List Made) → List Made
owed_in name [] owed = []
owed_in name (s ∷ ss) [] = []
owed_in name (s ∷ ss) (o ∷ os) = if is_named name s then o else owed_in name ss os

-- what a stream owes after facts over a base
abbrev pub owed_after : Sum → List Fact → List ℕ → List Made
owed_after base facts name =
    filter (survives name base.parts facts) (owed_in name base.parts.streams base.owed) ++ owed_of name base.parts facts

-- the tokens that a fact says were reported as faulty, over what the facts before it came to
abbrev pub refused_by : Sum → Fact → List RefusedToken
refused_by sum (Created conf time) = []
refused_by sum (Configured stream requested delivery description) = []
refused_by sum (StatusSet stream status reason operator time) = []
refused_by sum (Listed stream subject) = []
refused_by sum (Unlisted stream subject) = []
refused_by sum (Deleted stream) = []
refused_by sum (Published id news time) = []
refused_by sum (Settled stream items) = refused_in sum.parts.published (owed_in stream sum.parts.streams sum.owed) items
refused_by sum (Asked stream state time) = []

-- what one fact more comes to
abbrev pub sum_after : Sum → Fact → Sum
sum_after base f = record {
  parts = parts_after base.parts f;
  owed = map (λ (s : Stream). owed_after base (f ∷ []) s.conf.stream) (parts_after base.parts f).streams;
  refused = with_refused base.refused (refused_by base f);
}

-- what is kept of tokens that were reported as faulty, after facts over a base: a deletion of their stream leaves them
abbrev pub refused_of : Sum → List Fact → Refusals
refused_of base [] = base.refused
refused_of base (f ∷ fs) = refused_of (sum_after base f) fs

-- what a history comes to
abbrev pub sum_of : Sum → List Fact → Sum
sum_of base facts = record {
  parts = parts_of base.parts facts;
  owed = map (λ (s : Stream). owed_after base facts s.conf.stream) (parts_of base.parts facts).streams;
  refused = refused_of base facts;
}

-- a new store
abbrev pub empty_sum : List ℕ → Sum
empty_sum store_id = record {
  parts = record { store_id = store_id; streams = []; created = []; published = [] };
  owed = [];
  refused = no_refusals;
}

-- what the stream of a name owes
abbrev pub owed_by : Sum → List ℕ → List Made
owed_by sum name = owed_in name sum.parts.streams sum.owed

-- the stream of a name, where it stands
abbrev pub stream_named : List ℕ → List Stream → Option Stream
stream_named name [] = None
stream_named name (s ∷ ss) = if is_named name s then Some s else stream_named name ss

-- whether a stream of this status offers a token that it owes: one that isn't enabled offers what tells of its status alone
abbrev pub offers : Status → Made → Bool
offers status t = is_enabled status || is_notice t

-- what the stream of a name offers
abbrev pub offered_by : Sum → List ℕ → List Made
offered_by sum name =
    option_map_or (λ (s : Stream). filter (offers s.status) (owed_by sum name)) (stream_named name sum.parts.streams) []

-- how many tokens the stream of a name owes, where it stands
abbrev pub owed_count : Sum → List ℕ → Option ℕ
owed_count sum name = if stands name sum.parts.streams then Some (length (owed_by sum name)) else None

-- a token that was made, with the parts just after it and the facts that came later
pub record Along : Type 0 where
  pub token : Made
  pub after : Parts
  pub later : List Fact

abbrev pub token_in : Along → Made
token_in a = a.token

-- all tokens that facts make, in order, each with what came later
abbrev pub made_along : Parts → List Fact → List Along
made_along parts [] = []
made_along parts (f ∷ fs) =
    map (λ (t : Made). record { token = t; after = parts_after parts f; later = fs }) (made_by parts f)
    ++ made_along (parts_after parts f) fs

-- it is a stream's, and no later fact took it off
abbrev pub is_left : List ℕ → Along → Bool
is_left name a = is_of name a.token && survives name a.after a.later a.token
