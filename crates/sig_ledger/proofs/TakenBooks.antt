-- What one fact more leaves in the books, whatever the fact.
use Rattle.std.proofs.Common.{◌≡◌, ◌∙◌, ap, sym, subst, ℕ, ◌-◌, ◌≤◌, List, [], ◌∷◌, ◌++◌, map, length, Option, Some, arith, refl}
use Rattle.std.specs.List.{AllByRecursion}
use Rattle.std.proofs.lemmas.List.{length-append}
use Rattle.sig_terms.specs.declared.fact.Fact.{Fact}
use Rattle.sig_terms.specs.declared.refused_token.RefusedToken.{RefusedToken}
use Rattle.sig_history.specs.declared.limits.TheConstants.{REFUSED_KEPT}
use Rattle.sig_history.specs.Streams.{Stream, Count, Publication, Parts}
use Rattle.sig_history.specs.Facts.{brought_by, counted, published_by, removed_by}
use Rattle.sig_history.specs.Owed.{Sum, refused_by, stream_named, sum_of}
use Rattle.sig_history.specs.Refused.{Refusals, with_refused}
use Rattle.sig_history.specs.Sound.{Fits}
use Rattle.sig_history.specs.Spent.{ArePassed}
use Rattle.sig_history.specs.Standings.{Standing, owed_in_standing, placed_standing, standing_after, stream_in, sum_with, without_standing}
use Rattle.sig_history.specs.Whole.{AreWhole, IsWhole}
use Rattle.sig_history.proofs.SpentLemmas.{all_append, all_both, all_weaker, each_named, passed_after}
use Rattle.sig_history.proofs.StepLemmas.{stepped_sum}
use Rattle.sig_history.proofs.WholeLemmas.{fits_brings, whole_after, whole_distinct, whole_fresh}
use Rattle.sig_accounts.specs.declared.debt.Debt.{Debt}
use Rattle.sig_accounts.specs.declared.debt.Said.{Said}
use Rattle.sig_accounts.specs.declared.kept_refusal.KeptRefusal.{KeptRefusal}
use Rattle.sig_accounts.specs.Owings.{IsPlaced, Owing, owing_after, standing_of}
use Rattle.sig_accounts.specs.Owings as books
use Rattle.sig_accounts.specs.Reported.{AreKnownPlaces, IsKnownPlace, IsSaidBy, Reported, refusals_at, refused_at, with_reported}
use Rattle.sig_accounts.proofs.FoundLemmas.{book_streams}
use Rattle.sig_accounts.proofs.NamedLemmas.{IsKnownOwing, all_dropped, all_named_after, brought_named, debts_low, further_known, refused_kept, without_named}
use Rattle.sig_accounts.proofs.ReportedLemmas.{refusals_with}
use Rattle.sig_accounts.proofs.StandingLemmas.{Says, after_standings, all_after, all_brought, all_without, placed_owing, placed_standings, without_owing, without_standings}
use Rattle.sig_ledger.specs.Books.{AreKept, Books, sum_in}
use Rattle.sig_ledger.specs.Room.{AreReported}

-- ---- the books

-- the books after a fact whose token says so, and of whose reported tokens these are kept
abbrev pub taken_with : Books → Fact → Said → List KeptRefusal → Books
taken_with b f w ks = record {
  store_id = b.store_id;
  owings = placed_owing (brought_by (sum_in b).parts f) (without_owing (removed_by f) (map (owing_after f w) b.owings));
  created = counted (brought_by (sum_in b).parts f) b.created;
  published = b.published ++ published_by (sum_in b).parts f;
  refused = with_reported b.refused ks;
}

-- where none are
abbrev pub taken : Books → Fact → Said → Books
taken b f w = taken_with b f w []

-- what it takes for that to be what the history comes to
pub record MayTakeWith (b : Books) (f : Fact) (w : Said) (ks : List KeptRefusal) : Type 0 where
  pub kept : AreKept b
  pub fits : Fits (sum_in b) f
  pub says : Says (b.published ++ published_by (sum_in b).parts f) f w
  pub placed : IsPlaced (length (b.published ++ published_by (sum_in b).parts f)) w
  pub by : IsSaidBy b.published f w
  pub reported : AreReported (sum_in b) f ks

abbrev pub MayTake : Books → Fact → Said → Type 0
MayTake b f w = MayTakeWith b f w []

-- ---- reported tokens

-- what was published keeps its name
abbrev AreAlike : List Publication → List Publication → List KeptRefusal → Type 0
AreAlike published more ks = map (refused_at (published ++ more)) ks ≡ map (refused_at published) ks

known_alike : (published more : List Publication) (ks : List KeptRefusal) → AllByRecursion (IsKnownPlace (length published)) ks → AreAlike published more ks
known_alike published more [] known = refl
known_alike published more (k ∷ ks) known =
    ap (λ (t : RefusedToken). t ∷ map (refused_at (published ++ more)) ks) (refused_kept published more k known.0)
    ∙ ap (λ l. refused_at published k ∷ l) (known_alike published more ks known.1)

-- what they come to after a fact
refused_after : (b : Books) (f : Fact) (w : Said) (ks : List KeptRefusal) → MayTakeWith b f w ks
    → refusals_at (b.published ++ published_by (sum_in b).parts f) (with_reported b.refused ks)
    ≡ with_refused (refusals_at b.published b.refused) (refused_by (sum_in b) f)
refused_after b f w ks may =
    let more : List Publication = published_by (sum_in b).parts f in
    let all : List Publication = b.published ++ more in
    refusals_with all b.refused ks
    ∙ ap (λ (l : List RefusedToken). with_refused (record { before = b.refused.before; kept = l }) (map (refused_at all) ks))
    (known_alike b.published more b.refused.kept may.kept.reported)
    ∙ ap (with_refused (refusals_at b.published b.refused)) (known_alike b.published more ks may.reported.known ∙ may.reported.same)

further_all : (places more : ℕ) (ks : List KeptRefusal) → places ≤ more → AllByRecursion (IsKnownPlace places) ks → AllByRecursion (IsKnownPlace more) ks
further_all places more ks le known = all_weaker (IsKnownPlace places) (IsKnownPlace more) (λ k is. further_known places more k le is) ks known

with_known : (places : ℕ) (r : Reported) (ks : List KeptRefusal) → AreKnownPlaces places r → AllByRecursion (IsKnownPlace places) ks
    → AreKnownPlaces places (with_reported r ks)
with_known places r [] old new = old
with_known places r (k ∷ ks) old new =
    all_dropped (IsKnownPlace places) (length (r.kept ++ k ∷ ks) - REFUSED_KEPT) (r.kept ++ k ∷ ks)
    (all_append (IsKnownPlace places) r.kept (k ∷ ks) old new)

-- ---- the publications of debts

all_of : {X Y : Type 0} (P : Y → Type 0) (f : X → Y) (xs : List X) → AllByRecursion P (map f xs) → AllByRecursion (λ (x : X). P (f x)) xs
all_of P f [] all = tt
all_of P f (x ∷ xs) all = (all.0, all_of P f xs all.1)

lows : (sid : List ℕ) (published : List Publication) (created : List Count) (os : List Owing)
    → AreWhole sid created (map stream_in (map (standing_of sid published) os)) (map owed_in_standing (map (standing_of sid published) os))
    → AllByRecursion (λ (o : Owing). AllByRecursion (λ (d : Debt). d.number ≤ o.stream.made) o.owed) os
lows sid published created [] whole = tt
lows sid published created (o ∷ os) whole =
    (debts_low sid published o.stream 0 o.owed whole.0.rising, lows sid published created os whole.3)

pub known_in : (b : Books) → AreKept b → AllByRecursion (IsKnownOwing (sum_in b)) b.owings
known_in b kept =
    let ss : List Stream = (sum_in b).parts.streams in
    let same : ss ≡ map books.stream_in b.owings = book_streams b.store_id b.published b.owings in
    let here : AllByRecursion (λ (s : Stream). stream_named s.conf.stream ss ≡ Some s) (map books.stream_in b.owings) =
    subst (AllByRecursion (λ (s : Stream). stream_named s.conf.stream ss ≡ Some s)) same
    (each_named ss (whole_distinct b.store_id b.created ss (sum_in b).owed kept.whole)) in
    all_both (λ (o : Owing). stream_named o.stream.conf.stream ss ≡ Some o.stream)
    (λ (o : Owing). AllByRecursion (λ (d : Debt). d.number ≤ o.stream.made) o.owed) (IsKnownOwing (sum_in b))
    (λ o named low. record { here = named; low = low }) b.owings
    (all_of (λ (s : Stream). stream_named s.conf.stream ss ≡ Some s) books.stream_in b.owings here)
    (lows b.store_id b.published b.created b.owings kept.whole)

-- ---- what they come to

pub taken_with_sum : (b : Books) (f : Fact) (w : Said) (ks : List KeptRefusal) → MayTakeWith b f w ks
    → sum_in (taken_with b f w ks) ≡ sum_of (sum_in b) (f ∷ [])
taken_with_sum b f w ks may =
    let p : Parts = (sum_in b).parts in
    let brought : Option Stream = brought_by p f in
    let more : List Publication = published_by p f in
    let ss : List Standing = map (standing_of b.store_id b.published) b.owings in
    let os : List Owing = map (owing_after f w) b.owings in
    let told : Refusals = refusals_at b.published b.refused in
    let next : Refusals = refusals_at (b.published ++ more) (with_reported b.refused ks) in
    let after : List Standing = placed_standing brought (without_standing (removed_by f) (map (standing_after b.store_id f) ss)) in
    ap (λ l. sum_with b.store_id l (counted brought b.created) (b.published ++ more) next)
    (placed_standings b.store_id (b.published ++ more) brought (without_owing (removed_by f) os)
    ∙ ap (placed_standing brought)
    (without_standings b.store_id (b.published ++ more) (removed_by f) os
    ∙ ap (without_standing (removed_by f)) (after_standings b.store_id b.published more f w b.owings may.says may.kept.placed)))
    ∙ ap (sum_with b.store_id after (counted brought b.created) (b.published ++ more)) (refused_after b f w ks may)
    ∙ sym (stepped_sum b.store_id ss b.created b.published told f (whole_distinct b.store_id b.created _ _ may.kept.whole)
    (whole_fresh b.store_id b.created brought _ _ (fits_brings (sum_in b) f may.fits) may.kept.whole))

pub taken_sum : (b : Books) (f : Fact) (w : Said) → MayTake b f w → sum_in (taken b f w) ≡ sum_of (sum_in b) (f ∷ [])
taken_sum b f w may = taken_with_sum b f w [] may

-- ---- they are kept

pub taken_with_kept : (b : Books) (f : Fact) (w : Said) (ks : List KeptRefusal) → MayTakeWith b f w ks → AreKept (taken_with b f w ks)
taken_with_kept b f w ks may =
    let brought : Option Stream = brought_by (sum_in b).parts f in
    let more : List Publication = published_by (sum_in b).parts f in
    let all : List Publication = b.published ++ more in
    let places : ℕ = length all in
    let longer : length b.published ≤ places = omega (arith, length-append b.published more) in
    let os : List Owing = map (owing_after f w) b.owings in
    record {
      whole = subst IsWhole (sym (taken_with_sum b f w ks may)) (whole_after (sum_in b) f may.kept.whole may.fits);
      placed = all_brought places brought (without_owing (removed_by f) os)
          (all_without places (removed_by f) os
          (all_after (length b.published) places f w b.owings longer may.placed may.kept.placed));
      named = brought_named all brought (without_owing (removed_by f) os)
          (without_named all (removed_by f) os
          (all_named_after (sum_in b) f w b.owings (record { whole = may.kept.whole; passed = may.kept.passed }) (known_in b may.kept)
          may.by may.kept.placed may.kept.named));
      passed = subst (λ (s : Sum). ArePassed s.parts) (sym (taken_with_sum b f w ks may)) (passed_after (sum_in b) f may.kept.whole may.fits may.kept.passed);
      reported = with_known places b.refused ks (further_all (length b.published) places b.refused.kept longer may.kept.reported)
          (further_all (length b.published) places ks longer may.reported.known);
    }

pub taken_kept : (b : Books) (f : Fact) (w : Said) → MayTake b f w → AreKept (taken b f w)
taken_kept b f w may = taken_with_kept b f w [] may
