-- The books of a ledger, and what they come to.
use Rattle.std.specs.Prelude.{ℕ, List, map, length, All}
use Rattle.std.specs.List.{AllByRecursion}
use Rattle.sig_history.specs.Streams.{Count, Publication}
use Rattle.sig_history.specs.Owed.{Sum}
use Rattle.sig_history.specs.Standings.{sum_with}
use Rattle.sig_history.specs.Whole.{IsWhole}
use Rattle.sig_history.specs.Spent.{ArePassed}
use Rattle.sig_accounts.specs.Owings.{ArePlaced, Owing, standing_of}
use Rattle.sig_accounts.specs.Reported.{AreKnownPlaces, ArePublishedAs, Reported, refusals_at}

-- all that a ledger holds but for its room: its store, the streams in order, how many each client ever made, all that was
-- published, and the tokens that were reported as faulty
pub record Books : Type 0 where
  pub store_id : List ℕ
  pub owings : List Owing
  pub created : List Count
  pub published : List Publication
  pub refused : Reported

-- what the books come to
abbrev pub sum_in : Books → Sum
sum_in b = sum_with b.store_id (map (standing_of b.store_id b.published) b.owings) b.created b.published (refusals_at b.published b.refused)

-- what holds of a ledger's books at each moment: what they come to is whole, each debt is about a publication that there is, which
-- is the first that made its token, no stream makes once more what a publication made, and each reported token is about a
-- publication that there is
pub record AreKept (b : Books) : Type 0 where
  pub whole : IsWhole (sum_in b)
  pub placed : All (ArePlaced (length b.published)) b.owings
  pub named : AllByRecursion (ArePublishedAs b.published) b.owings
  pub passed : ArePassed (sum_in b).parts
  pub reported : AreKnownPlaces (length b.published) b.refused
