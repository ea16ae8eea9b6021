-- The tokens that a fact makes, by stream and number.
use Rattle.std.proofs.Common.{◌≡◌, ◌∙◌, ap, sym, ℕ, ◌+◌, List, [], ◌∷◌, ◌++◌, map, flat_map, Bool, true, false, ◌&&◌, Some, None, if◌then◌else◌, refl}
use Rattle.std.proofs.lemmas.List.{map-append}
use Rattle.sig_event.specs.declared.news.News.{News}
use Rattle.sig_terms.specs.declared.fact.Fact.{Fact}
use Rattle.sig_terms.specs.declared.fact.Fact.TheVariants.{Created, Configured, StatusSet, Listed, Unlisted, Deleted, Published, Settled, Asked}
use Rattle.sig_terms.specs.declared.token.Issued.{Issued}
use Rattle.sig_history.specs.Streams.{Stream, is_due, is_named, issued_of}
use Rattle.sig_history.specs.Facts.{is_told, token_by, token_for}
use Rattle.sig_accounts.specs.Owings.{issued_by}

abbrev next_issued : Stream → Issued
next_issued s = record { stream = s.conf.stream; number = s.made + 1 }

one_issued : (sid : List ℕ) (time : ℕ) (s : Stream) (n : News) (b : Bool)
    → map issued_of (token_by sid time s (if b then Some n else None)) ≡ (if b then next_issued s ∷ [] else [])
one_issued sid time s n true = refl
one_issued sid time s n false = refl

issued_for : (sid : List ℕ) (f : Fact) (s : Stream) → map issued_of (token_for sid f s) ≡ (if is_told f s then next_issued s ∷ [] else [])
issued_for sid (Created conf time) s = refl
issued_for sid (Configured stream requested delivery description) s = refl
issued_for sid (StatusSet stream status reason operator time) s = one_issued sid time s _ (operator && is_named stream s)
issued_for sid (Listed stream subject) s = refl
issued_for sid (Unlisted stream subject) s = refl
issued_for sid (Deleted stream) s = refl
issued_for sid (Published id news time) s = one_issued sid time s news (is_due news s)
issued_for sid (Settled stream items) s = refl
issued_for sid (Asked stream state time) s = one_issued sid time s _ (is_named stream s)

pub issued_all : (sid : List ℕ) (f : Fact) (ss : List Stream) → issued_by f ss ≡ map issued_of (flat_map (token_for sid f) ss)
issued_all sid f [] = refl
issued_all sid f (s ∷ ss) =
    elim (is_told f s) as (λ b. (if b then next_issued s ∷ issued_by f ss else issued_by f ss) ≡ (if b then next_issued s ∷ [] else []) ++ issued_by f ss) [
      | true ↦ refl
      | false ↦ refl
    ]
    ∙ ap (λ l. l ++ issued_by f ss) (sym (issued_for sid f s))
    ∙ ap (λ l. map issued_of (token_for sid f s) ++ l) (issued_all sid f ss)
    ∙ sym (map-append issued_of (token_for sid f s) (flat_map (token_for sid f) ss))
