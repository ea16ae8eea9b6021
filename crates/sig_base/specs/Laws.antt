-- What holds of the bytes of bases.
use Rattle.std.specs.Prelude.{◌≡◌, ℕ, List, true}
use Rattle.sig_fields.specs.Whole.{IsExact}
use Rattle.sig_terms.specs.declared.fact.Fact.{Fact}
use Rattle.sig_history.specs.Owed.{Sum, empty_sum, sum_of}
use Rattle.sig_history.specs.Sound.{is_sound}
use Rattle.sig_base.specs.declared.base.Base.{Base}
use Rattle.sig_base.specs.Proper.{IsProperBase}
use Rattle.sig_base.specs.Snapshot.{decoded, spelling_of}
use Rattle.sig_base.specs.Sums.{IsMade, base_of}

-- a proper base is decoded of its spelling; what is decoded is proper, and the bytes are its spelling; and no spelling begins with another
abbrev pub BasesAreExact : Type 0
BasesAreExact = IsExact IsProperBase spelling_of decoded

-- proper bases of one spelling are one base
abbrev pub SpellingsDiffer : Type 0
SpellingsDiffer = (one other : Base) → IsProperBase one → IsProperBase other → spelling_of one ≡ spelling_of other → one ≡ other

-- histories of one store with one base came to the same: a base forgets nothing
abbrev pub NothingIsForgotten : Type 0
NothingIsForgotten = (one other : Sum) → IsMade one → IsMade other → one.parts.store_id ≡ other.parts.store_id → base_of one ≡ base_of other → one ≡ other

-- a new store is such a history, and what follows one by facts that fit is one
abbrev pub NewStoresAreMade : Type 0
NewStoresAreMade = (store_id : List ℕ) → IsMade (empty_sum store_id)

abbrev pub HistoriesAreMade : Type 0
HistoriesAreMade = (sum : Sum) (facts : List Fact) → IsMade sum → is_sound sum facts ≡ true → IsMade (sum_of sum facts)
