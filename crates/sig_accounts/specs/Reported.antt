-- Tokens that were reported as faulty, in small, and what they come to over what was published.
use Rattle.std.specs.Prelude.{◌≡◌, ℕ, ◌+◌, ◌-◌, ◌<◌, ◌==◌, List, [], ◌∷◌, ◌++◌, Bool, Option, None, Some, IfSome, drop, flat_map, length, map, min, option_and_then, ⊤}
use Rattle.std.specs.List.{AllByRecursion, find, slice_get}
use Rattle.sig_json.specs.declared.limits.TheConstants.{LAST_NUMBER}
use Rattle.sig_terms.specs.declared.fact.Fact.{Fact}
use Rattle.sig_terms.specs.declared.fact.Fact.TheVariants.{Created, Configured, StatusSet, Listed, Unlisted, Deleted, Published, Settled, Asked}
use Rattle.sig_terms.specs.declared.fact.SettledItem.{SettledItem}
use Rattle.sig_terms.specs.declared.refused_token.RefusedToken.{RefusedToken}
use Rattle.sig_history.specs.declared.limits.TheConstants.{REFUSED_KEPT}
use Rattle.sig_history.specs.Refused.{Refusals, kept_code, publisher_of}
use Rattle.sig_history.specs.Streams.{Publication}
use Rattle.sig_accounts.specs.declared.debt.Debt.{Debt}
use Rattle.sig_accounts.specs.declared.debt.Said.{Said}
use Rattle.sig_accounts.specs.declared.debt.Said.TheVariants as said
use Rattle.sig_accounts.specs.declared.kept_refusal.KeptRefusal.{KeptRefusal}
use Rattle.sig_accounts.specs.Owings.{Owing}

-- those that are kept, in the order in which they were reported, and how many were left out before them
pub record Reported : Type 0 where
  pub before : ℕ
  pub kept : List KeptRefusal

abbrev pub none_reported : Reported
none_reported = record { before = 0; kept = [] }

-- with for how many further ones there is room
pub record ReportedRoom : Type 0 where
  pub reported : Reported
  pub room : ℕ

-- with further ones, of which the last stay
abbrev pub last_reported : ℕ → List KeptRefusal → Reported
last_reported before all = record {
  before = min (before + (length all - REFUSED_KEPT)) LAST_NUMBER;
  kept = drop (length all - REFUSED_KEPT) all;
}

abbrev pub with_reported : Reported → List KeptRefusal → Reported
with_reported r [] = r
with_reported r (k ∷ ks) = last_reported r.before (r.kept ++ k ∷ ks)

-- the place of the publication that a token tells, where it tells one
abbrev pub place_said : Said → Option ℕ
place_said (said.Published place) = Some place
place_said (said.Verified state) = None
place_said (said.Updated status reason) = None

-- the name of the publication at a place
abbrev pub id_of : Publication → List ℕ
id_of p = p.id

abbrev pub id_at : List Publication → ℕ → Option (List ℕ)
id_at published place = slice_get (map id_of published) place

abbrev pub id_in : List Publication → Option ℕ → Option (List ℕ)
id_in published place = option_and_then (id_at published) place

-- what they come to
abbrev pub refused_at : List Publication → KeptRefusal → RefusedToken
refused_at published k = record { stream = k.stream; number = k.number; id = id_in published k.place; code = k.code; time = k.time }

abbrev pub refusals_at : List Publication → Reported → Refusals
refusals_at published r = record { before = r.before; kept = map (refused_at published) r.kept }

-- the place is one of a publication that there is
abbrev pub IsKnownPlace : ℕ → KeptRefusal → Type 0
IsKnownPlace places k = IfSome k.place (λ place. place < places)

-- whether a debt has this number
abbrev pub is_number : ℕ → Debt → Bool
is_number number d = d.number == number

-- what is kept of a debt of a stream that was reported with a code
abbrev pub reported_as : List ℕ → List ℕ → Debt → KeptRefusal
reported_as stream code d = record { stream = stream; number = d.number; place = place_said d.said; code = kept_code code; time = d.time }

abbrev pub reported_by : List ℕ → Option Debt → Option (List ℕ) → List KeptRefusal
reported_by stream debt None = []
reported_by stream None (Some code) = []
reported_by stream (Some d) (Some code) = reported_as stream code d ∷ []

-- what is kept of items, over what their stream owes
abbrev pub reported_in : List ℕ → List Debt → List SettledItem → List KeptRefusal
reported_in stream owed items = flat_map (λ (i : SettledItem). reported_by stream (find (is_number i.number) owed) i.code) items

-- the publication of a debt's place is the first that made a token of its stream and number; where it has none, no publication did
abbrev pub IsPublishedAs : List Publication → List ℕ → Debt → Type 0
IsPublishedAs published stream d = publisher_of stream d.number published ≡ id_in published (place_said d.said)

abbrev pub ArePublishedAs : List Publication → Owing → Type 0
ArePublishedAs published o = AllByRecursion (IsPublishedAs published o.stream.conf.stream) o.owed

-- all that are kept are about publications that there are
abbrev pub AreKnownPlaces : ℕ → Reported → Type 0
AreKnownPlaces places r = AllByRecursion (IsKnownPlace places) r.kept

-- what a token that a fact makes says is about the publication that the fact makes, and about none where it makes none
abbrev pub IsSaidBy : List Publication → Fact → Said → Type 0
IsSaidBy published (Created conf time) w = ⊤
IsSaidBy published (Configured stream requested delivery description) w = ⊤
IsSaidBy published (StatusSet stream status reason operator time) w = place_said w ≡ None
IsSaidBy published (Listed stream subject) w = ⊤
IsSaidBy published (Unlisted stream subject) w = ⊤
IsSaidBy published (Deleted stream) w = ⊤
IsSaidBy published (Published id news time) w = place_said w ≡ Some (length published)
IsSaidBy published (Settled stream items) w = ⊤
IsSaidBy published (Asked stream state time) w = place_said w ≡ None
