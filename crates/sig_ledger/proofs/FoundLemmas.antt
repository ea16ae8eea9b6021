-- The stream of a name, in the books and in what they come to.
use Rattle.std.proofs.Common.{◌≡◌, ◌∙◌, ap, sym, ℕ, ◌&&◌, Bool, List, [], length, map, true, false, None, Some, refl}
use Rattle.std.specs.Prelude.{Option, is_some, option_map}
use Rattle.std.specs.List.{list_all}
use Rattle.sig_terms.specs.declared.fact.SettledItem.{SettledItem}
use Rattle.sig_history.specs.Sound.{are_owed, each_once}
use Rattle.sig_history.specs.Streams.{stands}
use Rattle.sig_history.specs.Owed.{owed_by, owed_count}
use Rattle.sig_accounts.specs.Owings.{Owing, made_of, owing_named}
use Rattle.sig_ledger.specs.Books.{Books, sum_in}
use Rattle.sig_accounts.proofs.SettleLemmas.{items_owed, owes}
use Rattle.sig_accounts.proofs.FoundLemmas.{counted_in, found_in, missing_in, named_stands, none_in, stands_in}

pub found_owed : (b : Books) (name : List ℕ) (o : Owing) → owing_named name b.owings ≡ Some o
    → owed_by (sum_in b) name ≡ map (made_of b.store_id b.published o.stream) o.owed
found_owed b name o found = found_in b.store_id b.published name b.owings o found

pub found_stands : (b : Books) (name : List ℕ) (o : Owing) → owing_named name b.owings ≡ Some o → stands name (sum_in b).parts.streams ≡ true
found_stands b name o found = stands_in b.store_id b.published name b.owings o found

-- where it doesn't, nothing is found and nothing is owed
pub missing_stands : (b : Books) (name : List ℕ) → owing_named name b.owings ≡ None → stands name (sum_in b).parts.streams ≡ false
missing_stands b name missing = missing_in b.store_id b.published name b.owings missing

pub missing_owed : (b : Books) (name : List ℕ) → owing_named name b.owings ≡ None → owed_by (sum_in b) name ≡ []
missing_owed b name missing = none_in b.store_id b.published name b.owings missing

pub counted_of : (b : Books) (name : List ℕ) → owed_count (sum_in b) name ≡ option_map (λ (o : Owing). length o.owed) (owing_named name b.owings)
counted_of b name = counted_in b.store_id b.published name b.owings

-- items may be settled exactly where the stream that is found owes each and each is named once
pub settled_apt : (b : Books) (name : List ℕ) (items : List SettledItem) (o : Owing) (each once : Bool) → owing_named name b.owings ≡ Some o
    → each ≡ list_all (λ (i : SettledItem). owes i.number o.owed) items → once ≡ each_once items
    → (each && once) ≡ (stands name (sum_in b).parts.streams && are_owed items (owed_by (sum_in b) name) && each_once items)
settled_apt b name items o each once found are one =
    let owed : are_owed items (owed_by (sum_in b) name) ≡ each =
    ap (are_owed items) (found_owed b name o found) ∙ items_owed b.store_id b.published o.stream o.owed items ∙ sym are in
    ap (λ x. each && x) one
    ∙ ap (λ x. x && each_once items) (sym owed)
    ∙ ap (λ x. x && are_owed items (owed_by (sum_in b) name) && each_once items) (sym (found_stands b name o found))

mapped_some : {X Y : Type 0} (f : X → Y) (o : Option X) → is_some o ≡ is_some (option_map f o)
mapped_some f None = refl
mapped_some f (Some x) = refl

-- the stream of a name stands where it is found
pub stands_found : {X : Type 0} (b : Books) (name : List ℕ) (f : X → Owing) (found : Option X) → option_map f found ≡ owing_named name b.owings
    → is_some found ≡ stands name (sum_in b).parts.streams
stands_found b name f found is = mapped_some f found ∙ ap is_some is ∙ named_stands b.store_id b.published name b.owings
