-- Streams with what they owe in small: how they are found, what a fact leaves of each, and the tokens that are owed.
use Rattle.std.specs.Prelude.{◌≡◌, ◌^◌, true, nat_eq, ℕ, List, [], ◌∷◌, ◌++◌, ◌+◌, ◌<◌, ◌==◌, ◌&&◌, Bool, not, Option, None, Some, bytes_eq, map, filter, slice_index_or, if◌then◌else◌, All, ⊤}
use Rattle.sig_subject.specs.declared.plain.Plain.TheVariants as plain
use Rattle.sig_subject.specs.declared.simple.Simple.TheVariants as simple
use Rattle.sig_subject.specs.declared.subject.Subject.{Subject}
use Rattle.sig_subject.specs.declared.subject.Subject.TheVariants as subject
use Rattle.sig_event.specs.declared.event.Event.TheVariants as event
use Rattle.sig_event.specs.declared.claims.Claims.{Claims}
use Rattle.sig_event.specs.declared.news.News.{News}
use Rattle.sig_event.specs.declared.status.Status.{Status}
use Rattle.sig_terms.specs.declared.fact.Fact.{Fact}
use Rattle.std.specs.List.{list_any}
use Rattle.sig_terms.specs.declared.fact.SettledItem.{SettledItem}
use Rattle.sig_terms.specs.declared.token.Issued.{Issued}
use Rattle.sig_history.specs.Streams.{Stream, Publication, Made, claims_for, hyphen, is_before, is_disabled, is_due, is_named, with_asked, with_made, with_status}
use Rattle.sig_history.specs.Facts.{is_told, stream_after, time_of, updated_news, verified_news}
use Rattle.sig_history.specs.Owed.{names_number, takes_off}
use Rattle.sig_history.specs.Standings.{Standing}
use Rattle.sig_accounts.specs.declared.debt.Debt.{Debt}
use Rattle.sig_accounts.specs.declared.debt.Notice.{Notice}
use Rattle.sig_accounts.specs.declared.debt.Said.{Said}
use Rattle.sig_accounts.specs.declared.debt.Said.TheVariants as said

-- the byte of `-`, after which a stream's name has its number
abbrev pub is_hyphen : ℕ → Bool
is_hyphen b = b == hyphen

-- a stream and the tokens that it owes
pub record Owing : Type 0 where
  pub stream : Stream
  pub owed : List Debt

-- with the numbers of further tokens and of further subjects for which there is room
pub record Balance : Type 0 where
  pub owing : Owing
  pub room : ℕ
  pub subjects : ℕ

abbrev pub owing_in : Balance → Owing
owing_in b = b.owing

abbrev pub room_in : Balance → ℕ
room_in b = b.room

abbrev pub subjects_in : Balance → ℕ
subjects_in b = b.subjects

abbrev pub stream_in : Owing → Stream
stream_in o = o.stream

-- the subjects that a stream lists
abbrev pub list_of : Owing → List Subject
list_of o = o.stream.listed

-- about nobody, and nothing that is read: what stands where no publication does
abbrev pub no_news : News
no_news = record { subject = subject.Simple (simple.Plain (plain.Opaque [])); event = event.Other [] }

-- what a token says of which only the number counts
abbrev pub no_claims : Claims
no_claims = record { iss = []; jti = []; iat = 0; aud = []; subject = no_news.subject; events = [] }

-- the news of the publication at a place
abbrev pub news_at : List Publication → ℕ → News
news_at published place = slice_index_or (map (λ (p : Publication). p.news) published) place no_news

-- the news of a debt of a stream
abbrev pub news_of : List Publication → List ℕ → Said → News
news_of published stream (said.Published place) = news_at published place
news_of published stream (said.Verified state) = verified_news stream state
news_of published stream (said.Updated status reason) = updated_news stream status reason

-- the token that is owed
abbrev pub made_of : List ℕ → List Publication → Stream → Debt → Made
made_of store_id published s d = record {
  stream = s.conf.stream;
  number = d.number;
  claims = claims_for store_id s.conf d.number d.time (news_of published s.conf.stream d.said);
}

-- what a debt of a stream comes to: its number, when it was made, and what it tells
pub record Told : Type 0 where
  pub number : ℕ
  pub time : ℕ
  pub news : News

abbrev pub told_by : List Publication → List ℕ → Debt → Told
told_by published stream d = record { number = d.number; time = d.time; news = news_of published stream d.said }

-- what a stream comes to
pub record Telling : Type 0 where
  pub stream : Stream
  pub told : List Told

abbrev pub telling_of : List Publication → Owing → Telling
telling_of published o = record { stream = o.stream; told = map (told_by published o.stream.conf.stream) o.owed }

-- a stream beside the tokens that it owes
abbrev pub standing_of : List ℕ → List Publication → Owing → Standing
standing_of store_id published o = record { stream = o.stream; owed = map (made_of store_id published o.stream) o.owed }

-- what it says is about a publication that there is, or about its stream
abbrev pub IsPlaced : ℕ → Said → Type 0
IsPlaced places (said.Published place) = place < places
IsPlaced places (said.Verified state) = ⊤
IsPlaced places (said.Updated status reason) = ⊤

abbrev pub ArePlaced : ℕ → Owing → Type 0
ArePlaced places o = All (λ (d : Debt). IsPlaced places d.said) o.owed

-- whether a fact takes a debt of a stream off: by its number, or by the stream's name
abbrev pub debt_off : Fact → List ℕ → Debt → Bool
debt_off f name d = takes_off name f (record { stream = name; number = d.number; claims = no_claims })

-- the first of a name
abbrev pub owing_named : List ℕ → List Owing → Option Owing
owing_named name [] = None
owing_named name (o ∷ os) = if is_named name o.stream then Some o else owing_named name os

-- whether a stream that is held has this name
abbrev pub has_name : List ℕ → Balance → Bool
has_name name b = is_named name b.owing.stream

-- the tokens that a fact makes, by stream and number
abbrev pub issued_by : Fact → List Stream → List Issued
issued_by f [] = []
issued_by f (s ∷ ss) = if is_told f s then record { stream = s.conf.stream; number = s.made + 1 } ∷ issued_by f ss else issued_by f ss

-- a stream that was just made
abbrev pub opened : Stream → Owing
opened s = record { stream = s; owed = [] }

abbrev pub opened_balance : Stream → Balance
opened_balance s = record { owing = opened s; room = 0; subjects = 0 }

-- the streams with this one in its place
abbrev pub put_owing : Owing → List Owing → List Owing
put_owing o [] = o ∷ []
put_owing o (p ∷ ps) = if is_before p.stream o.stream then p ∷ put_owing o ps else o ∷ p ∷ ps

abbrev pub put_balance : Balance → List Balance → List Balance
put_balance b [] = b ∷ []
put_balance b (c ∷ cs) = if is_before c.owing.stream b.owing.stream then c ∷ put_balance b cs else b ∷ c ∷ cs

-- the client's stream of a name
abbrev pub client_owing : List ℕ → List ℕ → List Owing → Option Owing
client_owing client name [] = None
client_owing client name (o ∷ os) =
    if bytes_eq o.stream.client client && is_named name o.stream then Some o else client_owing client name os

-- a debt that is made of a stream, with what it says
abbrev pub next_debt : ℕ → Said → Stream → Debt
next_debt time said s = record { number = s.made + 1; time = time; said = said }

-- a stream with one more token, with another part, and with a status: where that disables it, it owes nothing
abbrev pub owing_told : ℕ → Said → Owing → Owing
owing_told time said o = record { stream = with_made (o.stream.made + 1) o.stream; owed = o.owed ++ next_debt time said o.stream ∷ [] }

abbrev pub owing_with : Stream → Owing → Owing
owing_with s o = record { stream = s; owed = o.owed }

abbrev pub owing_set : Status → Option (List ℕ) → Owing → Owing
owing_set status reason o = record {
  stream = with_status status reason o.stream;
  owed = if is_disabled status then [] else o.owed;
}

-- without the tokens of these numbers
abbrev pub owing_settled : (ℕ → Bool) → Owing → Owing
owing_settled is_settled o = record { stream = o.stream; owed = filter (λ (d : Debt). not (is_settled d.number)) o.owed }

-- with one more token: where there is a notice, where the publication at a place is due, and where a verification was asked for
abbrev pub owing_noted : Option Notice → Owing → Owing
owing_noted None o = o
owing_noted (Some n) o = owing_told n.time n.said o

abbrev pub owing_heard : News → ℕ → ℕ → Owing → Owing
owing_heard n time place o = if is_due n o.stream then owing_told time (said.Published place) o else o

abbrev pub owing_asked : Option (List ℕ) → ℕ → Owing → Owing
owing_asked state time o = owing_told time (said.Verified state) (owing_with (with_asked time o.stream) o)

-- what tells of a status that the operator set
abbrev pub notice_for : Status → Option (List ℕ) → Bool → ℕ → Option Notice
notice_for status reason operator time =
    if operator then Some (record { time = time; said = said.Updated status reason }) else None

-- the first of a name changed
abbrev pub first_changed : List ℕ → (Owing → Owing) → List Owing → List Owing
first_changed name change [] = []
first_changed name change (o ∷ os) = if is_named name o.stream then change o ∷ os else o ∷ first_changed name change os

-- what is left of what a stream owes after a fact, before what the fact makes
abbrev pub left_by : Fact → Stream → List Debt → List Debt
left_by f s owed = filter (λ (d : Debt). not (debt_off f s.conf.stream d)) owed

-- a stream after a fact that says so, where it tells the stream
abbrev pub owing_after : Fact → Said → Owing → Owing
owing_after f said o = record {
  stream = stream_after f o.stream;
  owed = left_by f o.stream o.owed ++ (if is_told f o.stream then next_debt (time_of f) said o.stream ∷ [] else []);
}

-- a stream of a kind has this room
abbrev pub HasRoomFor : (Stream → Bool) → (Balance → ℕ) → Balance → Type 0
HasRoomFor test room b = test b.owing.stream ≡ true → 0 < room b

-- one more number of its tokens is one that is held
abbrev pub IsBelowTop : Balance → Type 0
IsBelowTop b = b.owing.stream.made + 1 < 2 ^ 64

-- the numbers are those that are settled
abbrev pub AreNumbers : List ℕ → List SettledItem → Type 0
AreNumbers numbers items = (n : ℕ) → list_any (nat_eq n) numbers ≡ names_number n items
