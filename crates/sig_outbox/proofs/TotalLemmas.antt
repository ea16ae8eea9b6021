-- What all streams owe together, in the accounts of a ledger and in what its books come to.
use Rattle.std.proofs.Common.{◌≡◌, ◌∙◌, ap, sym, refl, ℕ, ◌+◌, List, [], ◌∷◌, length, map}
use Rattle.std.specs.List.{sum_by}
use Rattle.std.proofs.lemmas.List.{length-map}
use Rattle.std.proofs.lemmas.List.Sums.{sum_by-cons}
use Rattle.sig_history.specs.Streams.{Publication}
use Rattle.sig_history.specs.Standings.{Standing, owed_in_standing}
use Rattle.sig_accounts.specs.Owings.{Balance, Owing, made_of, owing_in, standing_of}
use Rattle.sig_ledger.specs.Books.{Books, sum_in}
use Rattle.sig_outbox.specs.Totals.{owed_in_all}

abbrev owed_of : Balance → ℕ
owed_of b = length b.owing.owed

abbrev standings : List ℕ → List Publication → List Balance → List Standing
standings sid published bs = map (standing_of sid published) (map owing_in bs)

owed_by : (sid : List ℕ) (published : List Publication) (bs : List Balance)
    → sum_by length (map owed_in_standing (standings sid published bs)) ≡ sum_by owed_of bs
owed_by sid published [] = refl
owed_by sid published (b ∷ bs) =
    let rest = map owed_in_standing (standings sid published bs) in
    sum_by-cons length (map (made_of sid published b.owing.stream) b.owing.owed) rest
    ∙ ap (λ n. n + sum_by length rest) (length-map b.owing.owed (made_of sid published b.owing.stream))
    ∙ ap (λ n. length b.owing.owed + n) (owed_by sid published bs)
    ∙ sym (sum_by-cons owed_of b bs)

-- the tokens that the accounts of the books owe are those that the books come to
pub owed_is : (b : Books) (bs : List Balance) → map owing_in bs ≡ b.owings
    → sum_by (λ (b : Balance). length b.owing.owed) bs ≡ owed_in_all (sum_in b)
owed_is b bs are =
    sym (owed_by b.store_id b.published bs)
    ∙ ap (λ (os : List Owing). sum_by length (map owed_in_standing (map (standing_of b.store_id b.published) os))) are
