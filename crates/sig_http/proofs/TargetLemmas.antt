-- What is stripped of a text.
use Rattle.std.proofs.Common.{◌≡◌, ◌≢◌, ℕ, Bor, List, [], ◌∷◌, Option, Some, None, option_map, refl, ap, sym, if◌then◌else◌}
use Rattle.std.specs.Prelude.{MatchOption}
use Rattle.std.proofs.lemmas.Bool.{ne_eqb}
use Rattle.sig_http.specs.Targets.{after_slash, slash}

-- a slash at the start, or none
pub slash_stripped : (text : List ℕ) (r : Option (Bor (List ℕ))) → MatchOption r ((rest : List ℕ) → text ≢ slash ∷ rest) (λ x. text ≡ slash ∷ x.now)
    → option_map (λ v. v.now) r ≡ after_slash text
slash_stripped text (Some x) is = ap after_slash (sym is)
slash_stripped [] None none = refl
slash_stripped (b ∷ text) None none = sym (ap (λ k. if k then Some text else None) (ne_eqb b slash (λ e. none text (ap (λ c. c ∷ text) e))))
