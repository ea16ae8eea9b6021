-- Tokens of publications that no stream makes once more: the stream was made, and where it stands it has made as many.
use Rattle.std.specs.Prelude.{◌≡◌, ◌≤◌, ℕ, List, Option, Some}
use Rattle.std.specs.List.{AllByRecursion}
use Rattle.sig_json.specs.declared.limits.TheConstants.{LAST_NUMBER}
use Rattle.sig_terms.specs.declared.token.Issued.{Issued}
use Rattle.sig_history.specs.Streams.{Count, Parts, Publication, Stream, client_in, created_by, stream_name}
use Rattle.sig_history.specs.Owed.{stream_named}

-- a stream's name that its client's count has reached
pub record IsCounted (created : List Count) (name : List ℕ) : Type 0 where
  pub number : ℕ
  pub is : name ≡ stream_name (client_in name) number
  pub top : number ≤ LAST_NUMBER
  pub reached : number ≤ created_by (client_in name) created

pub record IsPassed (p : Parts) (i : Issued) : Type 0 where
  pub counted : IsCounted p.created i.stream
  pub passed : (s : Stream) → stream_named i.stream p.streams ≡ Some s → i.number ≤ s.made

-- each token of a publication, and of all of them
abbrev pub IsPassedEach : Parts → Publication → Type 0
IsPassedEach p publication = AllByRecursion (IsPassed p) publication.issued

abbrev pub ArePassed : Parts → Type 0
ArePassed p = AllByRecursion (IsPassedEach p) p.published
