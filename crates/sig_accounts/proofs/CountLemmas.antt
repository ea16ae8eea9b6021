-- How the counts of streams change.
use Rattle.std.proofs.Common.{◌≡◌, ◌∙◌, ap, sym, ℕ, ◌+◌, ◌<◌, List, ◌∷◌, ◌++◌, length, take, drop, get_or, bytes_eq, true, add-one}
use Rattle.std.proofs.lemmas.List.{take-append-drop, take-set, drop-set}
use Rattle.std.proofs.lemmas.Slice.Eq.{bytes_eq-Decides}
use Rattle.std.proofs.Math.ListN.{set}
use Rattle.std.proofs.Math.Seq.{drop-cons}
use Rattle.sig_history.specs.Streams.{Count, count_one}

raised_first : (client : List ℕ) (x : Count) (more : List Count) → bytes_eq x.client client ≡ true
    → record { client = x.client; count = x.count + 1 } ∷ more ≡ count_one client (x ∷ more)
raised_first client x more found =
    rw found (ap (λ (name : List ℕ). record { client = name; count = x.count + 1 } ∷ more) ((bytes_eq-Decides x.client client).0 found))

-- the count that is found is raised
pub counted_at : (client : List ℕ) (old now : List Count) (i : ℕ) (r new : Count) → i < length now → now ≡ old
    → bytes_eq (get_or now i r).client client ≡ true
    → new ≡ record { client = (get_or now i r).client; count = (get_or now i r).count + 1 }
    → count_one client old ≡ take i old ++ count_one client (drop i old)
    → set now i new ≡ count_one client old
counted_at client old now i r new within same found is rest =
    let x : Count = get_or now i r in
    let more : List Count = drop (i + 1) now in
    let parts : drop i now ≡ x ∷ more = drop-cons now i r within ∙ ap (λ k. x ∷ drop k now) (sym (add-one i)) in
    let raised : new ∷ more ≡ count_one client (drop i now) =
    ap (λ y. y ∷ more) is ∙ raised_first client x more found ∙ ap (count_one client) (sym parts) in
    sym (take-append-drop i (set now i new))
    ∙ ap (λ l. l ++ drop i (set now i new)) (take-set now i new)
    ∙ ap (λ l. take i now ++ l) (drop-set now i new within ∙ raised)
    ∙ ap (λ l. take i l ++ count_one client (drop i l)) same
    ∙ sym rest
