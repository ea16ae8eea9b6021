-- For what a ledger has room, and what a fact needs to be taken in without memory.
use Rattle.std.specs.Prelude.{◌≡◌, ℕ, ◌<◌, ◌≤◌, List, [], ◌∷◌, Bool, true, Option, Some, length, map}
use Rattle.std.specs.List.{AllByRecursion}
use Rattle.sig_terms.specs.declared.fact.Fact.{Fact}
use Rattle.sig_terms.specs.declared.fact.Fact.TheVariants.{Created, Configured, StatusSet, Listed, Unlisted, Deleted, Published, Settled, Asked}
use Rattle.sig_terms.specs.declared.token.Issued.{Issued}
use Rattle.sig_history.specs.Streams.{Stream, Parts, client_in, is_named, issued_of}
use Rattle.sig_history.specs.Facts.{is_told, made_by}
use Rattle.sig_accounts.specs.Listening.{Listening, room_for}
use Rattle.sig_history.specs.Owed.{Sum, refused_by}
use Rattle.sig_accounts.specs.declared.kept_refusal.KeptRefusal.{KeptRefusal}
use Rattle.sig_accounts.specs.Owings.{AreNumbers}
use Rattle.sig_accounts.specs.Reported.{IsKnownPlace, refused_at}
use Rattle.sig_accounts.specs.Telling.{Addressed, IsAddressed}
use Rattle.sig_ledger.specs.Books.{Books}

-- for how many further items there is room: streams, counts of clients, publications, their places in the index, tokens
-- and subjects of each stream, reported tokens, and streams and their subjects in the index of who lists them
pub record Rooms : Type 0 where
  pub streams : ℕ
  pub created : ℕ
  pub published : ℕ
  pub ids : ℕ
  pub tokens : List ℕ
  pub subjects : List ℕ
  pub refused : ℕ
  pub listeners : Listening

-- a ledger as contracts see it: its books, and its room
pub record Held : Type 0 where
  pub books : Books
  pub room : Rooms

-- what is kept of a fact beside itself: the client's name for its count, and a new stream's for its tokens to share; a publication's
-- id as it is kept, and the tokens that it makes; a mark for each stream, in order, that says whether the fact tells it; the numbers
-- that are settled, for look-ups; the reason of a status, for the token that tells it; and what is kept of tokens that were reported
pub record Spare : Type 0 where
  pub client : List ℕ
  pub name : Option (List ℕ)
  pub id : Option (List ℕ)
  pub issued : List Issued
  pub told : List Bool
  pub numbers : List ℕ
  pub reason : Option (List ℕ)
  pub reported : List KeptRefusal

-- a fact with the marks of exactly those of these streams that it tells
abbrev pub IsAddressedIn : Parts → Addressed → Type 0
IsAddressedIn parts a = IsAddressed parts.streams a

-- the same with these marks
abbrev pub with_told : List Bool → Spare → Spare
with_told told s = record { client = s.client; name = s.name; id = s.id; issued = s.issued; told = told; numbers = s.numbers; reason = s.reason; reported = s.reported }

-- a fact, with what is kept beside it
pub record Ready : Type 0 where
  pub fact : Fact
  pub spare : Spare

-- each stream of a kind has room
abbrev pub HaveRoom : (Stream → Bool) → List Stream → List ℕ → Type 0
HaveRoom test [] rooms = Unit {0}
HaveRoom test (s ∷ ss) [] = ⊥
HaveRoom test (s ∷ ss) (room ∷ rooms) = (test s ≡ true → 0 < room) × HaveRoom test ss rooms

-- they come to the tokens that the fact says were reported, and each is about a publication that there is
pub record AreReported (sum : Sum) (f : Fact) (ks : List KeptRefusal) : Type 0 where
  pub same : map (refused_at sum.parts.published) ks ≡ refused_by sum f
  pub known : AllByRecursion (IsKnownPlace (length sum.parts.published)) ks

-- what stands beside the fact is what is kept of it
abbrev pub IsSpare : Sum → Fact → Spare → Type 0
IsSpare sum (Created conf time) spare = (spare.client ≡ client_in conf.stream) × (spare.name ≡ Some conf.stream)
IsSpare sum (Configured stream requested delivery description) spare = Unit {0}
IsSpare sum (StatusSet stream status reason operator time) spare = spare.reason ≡ reason
IsSpare sum (Listed stream subject) spare = Unit {0}
IsSpare sum (Unlisted stream subject) spare = Unit {0}
IsSpare sum (Deleted stream) spare = Unit {0}
IsSpare sum (Published id news time) spare = (spare.id ≡ Some id) × (spare.issued ≡ map issued_of (made_by sum.parts (Published id news time)))
IsSpare sum (Settled stream items) spare =
    AreNumbers spare.numbers items × AreReported sum (Settled stream items) spare.reported
IsSpare sum (Asked stream state time) spare = Unit {0}

-- there is room for what the fact brings beside tokens
abbrev pub HasOwnSpace : Parts → Rooms → Fact → Type 0
HasOwnSpace parts room (Created conf time) = (0 < room.streams) × (0 < room.created) × (0 < room.listeners.room)
HasOwnSpace parts room (Configured stream requested delivery description) = Unit {0}
HasOwnSpace parts room (StatusSet stream status reason operator time) = Unit {0}
HasOwnSpace parts room (Listed stream subject) = HaveRoom (is_named stream) parts.streams room.subjects × (0 < room_for subject room.listeners.lists)
HasOwnSpace parts room (Unlisted stream subject) = Unit {0}
HasOwnSpace parts room (Deleted stream) = Unit {0}
HasOwnSpace parts room (Published id news time) = (0 < room.published) × (0 < room.ids)
HasOwnSpace parts room (Settled stream items) = Unit {0}
HasOwnSpace parts room (Asked stream state time) = Unit {0}

-- a fact may be taken in without memory: what is kept beside it is there, and the marks of exactly the streams that it tells, each
-- of which has room for a token, and there is room for the rest
pub record HasRoom (sum : Sum) (room : Rooms) (r : Ready) : Type 0 where
  pub spare : IsSpare sum r.fact r.spare
  pub told : r.spare.told ≡ map (is_told r.fact) sum.parts.streams
  pub tokens : HaveRoom (is_told r.fact) sum.parts.streams room.tokens
  pub space : HasOwnSpace sum.parts room r.fact
  pub refused : length r.spare.reported ≤ room.refused
