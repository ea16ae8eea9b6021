-- What holds of histories, whatever they say.
use Rattle.std.specs.Prelude.{◌≡◌, ℕ, List, [], ◌∷◌, ◌++◌, Bool, not, ◌&&◌, Option, bytes_eq, map, filter, flat_map, true, false, if◌then◌else◌}
use Rattle.std.specs.List.{IsDistinct}
use Rattle.std.specs.Option.{option_map_or}
use Rattle.sig_event.specs.declared.news.News.{News}
use Rattle.sig_event.specs.declared.status.Status.{Status}
use Rattle.sig_terms.specs.declared.fact.Fact.{Fact}
use Rattle.sig_terms.specs.declared.fact.Fact.TheVariants.{Created, Configured, StatusSet, Listed, Unlisted, Deleted, Published, Settled, Asked}
use Rattle.sig_terms.specs.declared.fact.SettledItem.{SettledItem}
use Rattle.sig_history.specs.Streams.{Stream, Made, is_disabled, is_due, next_token, stands}
use Rattle.sig_history.specs.Facts.{tokens_of, updated_news, verified_news}
use Rattle.sig_history.specs.Owed.{Sum, sum_of, empty_sum, names_number, owed_by, made_along, stream_named, token_in, is_left}
use Rattle.sig_history.specs.Sound.{Fits, is_sound}
use Rattle.sig_history.specs.Whole.{AreSorted, IsRising, IsWhole}

-- a history may be taken up where an earlier part of it ended: the sum of both parts is that of the second over that of the
-- first
abbrev pub HistoriesJoin : Type 0
HistoriesJoin = (base : Sum) (first second : List Fact) → sum_of base (first ++ second) ≡ sum_of (sum_of base first) second

-- two sound parts make a sound history
abbrev pub SoundHistoriesJoin : Type 0
SoundHistoriesJoin = (base : Sum) (first second : List Fact)
    → is_sound base (first ++ second) ≡ (is_sound base first && is_sound (sum_of base first) second)

-- of all tokens that facts make over a new store, a stream owes those of its own that no later fact takes off
abbrev pub OwesWhatIsLeft : Type 0
OwesWhatIsLeft = (store_id : List ℕ) (facts : List Fact) (name : List ℕ) →
    (map token_in (made_along (empty_sum store_id).parts facts) ≡ tokens_of (empty_sum store_id).parts facts)
    × (owed_by (sum_of (empty_sum store_id) facts) name ≡ map token_in (filter (is_left name) (made_along (empty_sum store_id).parts facts)))

-- what is whole stays whole under each fact that fits, and so under each sound history
abbrev pub SoundHistoriesAreWhole : Type 0
SoundHistoriesAreWhole = (base : Sum) (facts : List Fact) → IsWhole base → is_sound base facts ≡ true → IsWhole (sum_of base facts)

-- what that says of a history over a new store: its streams stand in order, and the numbers that each owes rise
abbrev pub StreamsAreSorted : Type 0
StreamsAreSorted = (store_id : List ℕ) (facts : List Fact) → is_sound (empty_sum store_id) facts ≡ true
    → AreSorted (sum_of (empty_sum store_id) facts).parts.streams

abbrev pub OwedNumbersRise : Type 0
OwedNumbersRise = (store_id : List ℕ) (facts : List Fact) (name : List ℕ) → is_sound (empty_sum store_id) facts ≡ true
    → (most : ℕ) × IsRising 0 (owed_by (sum_of (empty_sum store_id) facts) name) most

-- ---- names are used once

-- the name of the stream that a fact makes, where it makes one
abbrev pub name_made : Fact → List (List ℕ)
name_made (Created conf time) = conf.stream ∷ []
name_made (Configured stream requested delivery description) = []
name_made (StatusSet stream status reason operator time) = []
name_made (Listed stream subject) = []
name_made (Unlisted stream subject) = []
name_made (Deleted stream) = []
name_made (Published id news time) = []
name_made (Settled stream items) = []
name_made (Asked stream state time) = []

abbrev pub names_made : List Fact → List (List ℕ)
names_made facts = flat_map name_made facts

-- the names of all streams that a sound history makes differ, whatever it deletes between: the number of a stream that was
-- deleted is never given again
abbrev pub NamesAreUsedOnce : Type 0
NamesAreUsedOnce = (base : Sum) (facts : List Fact) → is_sound base facts ≡ true → IsDistinct bytes_eq (names_made facts)

-- ---- what a stream owes after each fact that makes tokens or takes them off

-- the next token of the stream of a name, which tells it news
abbrev pub token_to : Sum → List ℕ → News → ℕ → List Made
token_to sum stream news time =
    option_map_or (λ (s : Stream). next_token sum.parts.store_id news time s ∷ []) (stream_named stream sum.parts.streams) []

-- where news are due on a stream that stands, it owes what it owed before and then the token that tells them; any other owes
-- what it owed before
abbrev pub PublishingAddsWhereDue : Type 0
PublishingAddsWhereDue =
    (sum : Sum) (id : List ℕ) (news : News) (time : ℕ) (stream : List ℕ) → IsWhole sum → stands stream sum.parts.streams ≡ true
    → owed_by (sum_of sum (Published id news time ∷ [])) stream
    ≡ owed_by sum stream
    ++ (if option_map_or (is_due news) (stream_named stream sum.parts.streams) false then token_to sum stream news time else [])

-- a stream of which a verification was asked owes what it owed before, and then the verification
abbrev pub AskingAddsAVerification : Type 0
AskingAddsAVerification =
    (sum : Sum) (stream : List ℕ) (state : Option (List ℕ)) (time : ℕ) → IsWhole sum → Fits sum (Asked stream state time)
    → owed_by (sum_of sum (Asked stream state time ∷ [])) stream
    ≡ owed_by sum stream ++ token_to sum stream (verified_news stream state) time

-- a stream of which tokens were settled owes the others
abbrev pub SettlingTakesOffTheNamed : Type 0
SettlingTakesOffTheNamed =
    (sum : Sum) (stream : List ℕ) (items : List SettledItem) → IsWhole sum → Fits sum (Settled stream items)
    → owed_by (sum_of sum (Settled stream items ∷ [])) stream
    ≡ filter (λ (t : Made). not (names_number t.number items)) (owed_by sum stream)

-- the token that tells the stream of a name its new status, where the operator set it
abbrev pub notice_for : Sum → List ℕ → Status → Option (List ℕ) → Bool → ℕ → List Made
notice_for sum stream status reason operator time =
    if operator then token_to sum stream (updated_news stream status reason) time else []

-- a stream that is paused or enabled owes what it owed before, and then the notice
abbrev pub PausingKeepsWhatIsOwed : Type 0
PausingKeepsWhatIsOwed =
    (sum : Sum) (stream : List ℕ) (status : Status) (reason : Option (List ℕ)) (operator : Bool) (time : ℕ)
    → IsWhole sum → Fits sum (StatusSet stream status reason operator time) → is_disabled status ≡ false
    → owed_by (sum_of sum (StatusSet stream status reason operator time ∷ [])) stream
    ≡ owed_by sum stream ++ notice_for sum stream status reason operator time

-- one that is disabled owes the notice alone
abbrev pub DisablingLeavesItsOwnNotice : Type 0
DisablingLeavesItsOwnNotice =
    (sum : Sum) (stream : List ℕ) (status : Status) (reason : Option (List ℕ)) (operator : Bool) (time : ℕ)
    → IsWhole sum → Fits sum (StatusSet stream status reason operator time) → is_disabled status ≡ true
    → owed_by (sum_of sum (StatusSet stream status reason operator time ∷ [])) stream
    ≡ notice_for sum stream status reason operator time

-- the name of one that is deleted stands no more and owes nothing
abbrev pub DeletingLeavesNothing : Type 0
DeletingLeavesNothing = (sum : Sum) (stream : List ℕ) →
    (stands stream (sum_of sum (Deleted stream ∷ [])).parts.streams ≡ false) × (owed_by (sum_of sum (Deleted stream ∷ [])) stream ≡ [])
