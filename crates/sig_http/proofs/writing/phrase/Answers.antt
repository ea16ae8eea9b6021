use Rattle.std.proofs.Common.{◌≡◌, ℕ, ◌<◌, ◌≤◌, inl, inr, false, ◌&&◌, nat_le, nat_lt, List, [], Option, Some, None, sym, ap, ◌∙◌, if◌then◌else◌}
use Rattle.std.specs.Prelude.{unwrap_or}
use Rattle.std.proofs.lemmas.Bool.{cases_lt, and_from, and_left, and_right, le-leb, lt-leb, le-ltb, lt-ltb}
use Rattle.http.specs.StatusCode.{reason_phrase}
use Rattle.sig_http.specs.Spelling.{phrase}
use Rattle.sig_http.proofs.writing.phrase.Goals as goal

-- of a status of three digits it is the one that the standard names
of_status : (status code : ℕ) (reason : Option (List ℕ)) → (100 ≤ status) × (status < 1000) → code ≡ status → reason ≡ reason_phrase code → unwrap_or reason [] ≡ phrase status
of_status status code reason known is e =
    ap (λ r. unwrap_or r []) (e ∙ ap reason_phrase is) ∙ ap (λ b. if b then unwrap_or (reason_phrase status) [] else []) (sym (and_from _ _ (le-leb 100 status known.0) (lt-ltb status 1000 known.1)))

outside : (status : ℕ) → ((100 ≤ status) × (status < 1000) → ⊥) → (nat_le 100 status && nat_lt status 1000) ≡ false
outside status other = elim (cases_lt status 100) [
  | inl below ↦ and_left _ _ (lt-leb 100 status below)
  | inr above ↦ elim (cases_lt status 1000) [ inl fits ↦ absurd (other (above, fits)) | inr past ↦ and_right _ _ (le-ltb status 1000 past) ]
]

-- any other number has none
no_status : (status : ℕ) → ((100 ≤ status) × (status < 1000) → ⊥) → [] ≡ phrase status
no_status status other = ap (λ b. if b then unwrap_or (reason_phrase status) [] else []) (sym (outside status other))

pub returns-in-None : goal.returns-in-None
returns-in-None c = of_status c.args.status c.in-Ok.code None c.in-Ok.ensures.0 c.in-Ok.ensures.1 c.in-None.ensures.value

pub returns-in-Some : goal.returns-in-Some
returns-in-Some c = of_status c.args.status c.in-Ok.code (Some c.in-Some.phrase.now) c.in-Ok.ensures.0 c.in-Ok.ensures.1 c.in-Some.ensures.value

pub returns-in-Err : goal.returns-in-Err
returns-in-Err c = no_status c.args.status c.in-Err.ensures
