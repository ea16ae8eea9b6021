-- Numbers that are settled, among those that are owed.
use Rattle.std.proofs.Common.{◌≡◌, ◌∙◌, ap, ℕ, ◌==◌, List, [], ◌∷◌, map, Bool, ◌&&◌, ◌||◌, refl}
use Rattle.std.specs.List.{list_any, list_all}
use Rattle.std.specs.Cmp.{partial_equiv_from_equiv}
use Rattle.std.proofs.lemmas.Cmp.{nat_eq_equiv}
use Rattle.sig_accounts.specs.declared.debt.Debt.{Debt}
use Rattle.sig_terms.specs.declared.fact.SettledItem.{SettledItem}
use Rattle.sig_history.specs.Sound.{are_owed, has_number}
use Rattle.sig_history.specs.Streams.{Publication, Stream}
use Rattle.sig_accounts.specs.Owings.{made_of}

abbrev pub owes : ℕ → List Debt → Bool
owes n ds = list_any (λ (d : Debt). d.number == n) ds

pub turned_number : (a b : ℕ) → (a == b) ≡ (b == a)
turned_number a b = (partial_equiv_from_equiv nat_eq_equiv).symm a b

number_owed : (sid : List ℕ) (published : List Publication) (s : Stream) (n : ℕ) (ds : List Debt)
    → has_number n (map (made_of sid published s) ds) ≡ owes n ds
number_owed sid published s n [] = refl
number_owed sid published s n (d ∷ ds) = ap (λ b. (d.number == n) || b) (number_owed sid published s n ds)

-- each item is owed exactly where a debt has its number
pub items_owed : (sid : List ℕ) (published : List Publication) (s : Stream) (ds : List Debt) (items : List SettledItem)
    → are_owed items (map (made_of sid published s) ds) ≡ list_all (λ (i : SettledItem). owes i.number ds) items
items_owed sid published s ds [] = refl
items_owed sid published s ds (i ∷ items) =
    ap (λ b. b && are_owed items (map (made_of sid published s) ds)) (number_owed sid published s i.number ds)
    ∙ ap (λ b. owes i.number ds && b) (items_owed sid published s ds items)
