-- The parts of the judgement, and of the reading without one, in their order.
use Rattle.std.proofs.Common.{◌≡◌, ℕ, List, [], ◌∷◌, ◌++◌, true, false, Option, Some, None, option_map, unwrap_or, refl, sym, subst, ap, ◌∙◌, inl, inr}
use Rattle.std.specs.Prelude.{Result, Ok, Err, is_some}
use Rattle.serde_json.specs.Data.{Data}
use Rattle.sig_json.specs.Answers.{Answers}
use Rattle.sig_json.specs.Checks.{Check, first_failing}
use Rattle.sig_jws.specs.declared.compact.Compact.{Compact}
use Rattle.sig_event.specs.declared.claims.Claims.{Claims}
use Rattle.sig_set.specs.declared.reading.ClaimsFault.TheVariants as fault
use Rattle.sig_set.specs.declared.refusal.Code.{Code}
use Rattle.sig_set.specs.declared.refusal.Code.TheVariants.{AuthenticationFailed, InvalidAudience}
use Rattle.sig_set.specs.declared.refusal.Refusal.{Refusal}
use Rattle.sig_set.specs.declared.refusal.Refusal.TheVariants.{Coded, Memory}
use Rattle.sig_set.specs.declared.refusal.Spot.{Spot}
use Rattle.sig_set.specs.declared.refusal.Spot.TheVariants as spot
use Rattle.sig_set.specs.declared.trust.Issuer.{Issuer}
use Rattle.sig_set.specs.declared.trust.Trust.{Trust}
use Rattle.sig_set.specs.Checks.{Fault, passed, refused_unless, unless_refused}
use Rattle.sig_set.specs.Claims.{audience_in, claims_in, content_checks}
use Rattle.sig_set.specs.Judgement.{audience_checks, bearer_checks, issuer_checks, issuer_in, judged_by, key_checks, keys_in, public_keys_in, result_of, trust_checks}
use Rattle.sig_set.specs.Reading.{read_by}
use Rattle.sig_set.proofs.Chains.{behind_part, one_failed, one_held, part_refused, rest_left}

-- ---- how the first failing check is told

pub as_judged : (o : Option Fault) (claims : Claims) → unless_refused o claims ≡ result_of (judged_by o claims)
as_judged None claims = refl
as_judged (Some fault) claims = refl

pub as_read : (o : Option Fault) (claims told : Claims) → unless_refused o claims ≡ Ok told → read_by o claims ≡ Ok told
as_read None claims told h = cc
as_read (Some fault) claims told h = cc

pub as_bad : (o : Option Fault) (claims : Claims) (code : Code) (at : Spot) → unless_refused o claims ≡ Err (Coded code at) → read_by o claims ≡ Err (fault.Bad at)
as_bad None claims code at h = cc
as_bad (Some fault) claims code at h = cc

pub as_refused : (o : Option Fault) (claims : Claims) (code : Code) (at : Spot) → Answers {T = Claims} Memory (Err (Coded code at)) (unless_refused o claims)
    → Answers {T = Claims} fault.Memory (Err (fault.Bad at)) (read_by o claims)
as_refused o claims code at (inl is) = cc
as_refused o claims code at (inr is) = inr (as_bad o claims code at is)

-- ---- the parts after an opened form

-- the checks of trust by what was opened
trust_alike : (trust : Trust) (principal : Option (List ℕ)) (token : Option Compact) (header payload : Option Data) (t : Compact) (h p : Data)
    → token ≡ Some t → header ≡ Some h → payload ≡ Some p → trust_checks trust principal token header payload ≡ trust_checks trust principal (Some t) (Some h) (Some p)
trust_alike trust principal token header payload t h p is heads pays =
    ap (λ x. trust_checks trust principal x header payload) is
    ∙ ap (λ x. trust_checks trust principal (Some t) x payload) heads
    ∙ ap (λ x. trust_checks trust principal (Some t) (Some h) x) pays

pub trust_refused : (trust : Trust) (principal named : Option (List ℕ)) (token : Option Compact) (header payload : Option Data) (t : Compact) (h p : Data) (e : Refusal) (r : Result Claims Refusal)
    → token ≡ Some t → header ≡ Some h → payload ≡ Some p → r ≡ Err e → Err e ≡ passed (trust_checks trust principal (Some t) (Some h) (Some p))
    → Answers Memory r (unless_refused (first_failing (trust_checks trust principal token header payload ++ content_checks named payload)) (claims_in payload))
trust_refused trust principal named token header payload t h p e r is heads pays told refused =
    let checks = trust_checks trust principal token header payload in
    rw told (inr (part_refused checks (content_checks named payload) tt (claims_in payload) e (ap passed (trust_alike trust principal token header payload t h p is heads pays) ∙ sym refused)))

pub trusted : (trust : Trust) (principal named : Option (List ℕ)) (token : Option Compact) (header payload : Option Data) (t : Compact) (h p : Data) (r : Result Claims Refusal)
    → token ≡ Some t → header ≡ Some h → payload ≡ Some p → Ok tt ≡ passed (trust_checks trust principal (Some t) (Some h) (Some p))
    → Answers Memory r (unless_refused (first_failing (content_checks named (Some p))) (claims_in (Some p)))
    → Answers Memory r (unless_refused (first_failing (trust_checks trust principal token header payload ++ content_checks named payload)) (claims_in payload))
trusted trust principal named token header payload t h p r is heads pays told content =
    behind_part (trust_checks trust principal token header payload) (content_checks named payload) tt tt (claims_in payload) r
    (ap passed (trust_alike trust principal token header payload t h p is heads pays) ∙ sym told)
    (subst (λ (x : Option Data). Answers Memory r (unless_refused (first_failing (content_checks named x)) (claims_in x))) (sym pays) content)

-- the checks of keys by the issuer that is there
keys_alike : (issuers : List Issuer) (issuer : Issuer) (token : Option Compact) (header payload : Option Data) → issuer_in issuers payload ≡ Some issuer
    → key_checks token header (keys_in issuers payload) (public_keys_in issuers payload) ≡ key_checks token header issuer.keys issuer.public_keys
keys_alike issuers issuer token header payload is =
    ap (λ o. key_checks token header (unwrap_or (option_map (λ (i : Issuer). i.keys) o) []) (unwrap_or (option_map (λ (i : Issuer). i.public_keys) o) [])) is

-- a key that didn't sign it
pub verify_refused : (issuers given : List Issuer) (issuer : Issuer) (principal : Option (List ℕ)) (audience : List ℕ) (t : Compact) (h p : Data) (e : Refusal) (r : Result (Unit {0}) Refusal)
    → given ≡ issuers → issuer_in given (Some p) ≡ Some issuer → Ok tt ≡ passed (issuer_checks given principal (Some p)) → r ≡ Err e
    → Err e ≡ passed (key_checks (Some t) (Some h) issuer.keys issuer.public_keys)
    → r ≡ passed (issuer_checks issuers principal (Some p) ++ (key_checks (Some t) (Some h) (keys_in issuers (Some p)) (public_keys_in issuers (Some p)) ++ audience_checks audience (Some p)))
verify_refused issuers given issuer principal audience t h p e r same there before told refused =
    let first = issuer_checks issuers principal (Some p) in
    let key = key_checks (Some t) (Some h) (keys_in issuers (Some p)) (public_keys_in issuers (Some p)) in
    let behind = audience_checks audience (Some p) in
    let checked : Ok tt ≡ passed first = before ∙ ap (λ g. passed (issuer_checks g principal (Some p))) same in
    let known : issuer_in issuers (Some p) ≡ Some issuer = sym (ap (λ g. issuer_in g (Some p)) same) ∙ there in
    let all : Err e ≡ passed key = refused ∙ sym (ap passed (keys_alike issuers issuer (Some t) (Some h) (Some p) known)) in
    told ∙ sym (rest_left first (key ++ behind) tt tt tt (sym checked) ∙ part_refused key behind tt tt e (sym all))

-- ---- the judgement

pub bearer_refused : (principal : Option (List ℕ)) (rest : List (Check Fault)) (claims : Claims) (r : Result Claims Refusal) → r ≡ Err (Coded AuthenticationFailed spot.Bearer) → is_some principal ≡ false
    → Answers Memory r (unless_refused (first_failing (bearer_checks principal ++ rest)) claims)
bearer_refused principal rest claims r is nobody = one_failed AuthenticationFailed spot.Bearer (is_some principal) rest claims r is nobody

pub brought : (principal : Option (List ℕ)) (rest : List (Check Fault)) (claims : Claims) (r : Result Claims Refusal) → is_some principal ≡ true
    → Answers Memory r (unless_refused (first_failing rest) claims) → Answers Memory r (result_of (judged_by (first_failing (bearer_checks principal ++ rest)) claims))
brought principal rest claims r somebody told =
    subst (λ (s : Result Claims Refusal). Answers Memory r s) (as_judged (first_failing (bearer_checks principal ++ rest)) claims)
    (one_held AuthenticationFailed spot.Bearer (is_some principal) rest claims r somebody told)

-- ---- the reading without a judgement

abbrev pub spoken_checks : Option Data → List (Check Fault)
spoken_checks payload = refused_unless InvalidAudience spot.Aud (is_some (audience_in payload)) ∷ content_checks None payload

pub audience_refused : (form : List (Check Fault)) (payload : Option Data) (p : Data) (r : Result Claims Refusal) → payload ≡ Some p → passed form ≡ Ok tt → is_some (audience_in (Some p)) ≡ false
    → r ≡ Err (Coded InvalidAudience spot.Aud) → Answers Memory r (unless_refused (first_failing (form ++ spoken_checks payload)) (claims_in payload))
audience_refused form payload p r pays formed missing is =
    behind_part form (spoken_checks payload) tt tt (claims_in payload) r formed
    (one_failed InvalidAudience spot.Aud (is_some (audience_in payload)) (content_checks None payload) (claims_in payload) r is (ap (λ x. is_some (audience_in x)) pays ∙ missing))

pub spoken : (form : List (Check Fault)) (payload : Option Data) (p : Data) (r : Result Claims Refusal) → payload ≡ Some p → passed form ≡ Ok tt → is_some (audience_in (Some p)) ≡ true
    → Answers Memory r (unless_refused (first_failing (content_checks None (Some p))) (claims_in (Some p)))
    → Answers Memory r (unless_refused (first_failing (form ++ spoken_checks payload)) (claims_in payload))
spoken form payload p r pays formed there content =
    behind_part form (spoken_checks payload) tt tt (claims_in payload) r formed
    (one_held InvalidAudience spot.Aud (is_some (audience_in payload)) (content_checks None payload) (claims_in payload) r (ap (λ x. is_some (audience_in x)) pays ∙ there)
    (subst (λ (x : Option Data). Answers Memory r (unless_refused (first_failing (content_checks None x)) (claims_in x))) (sym pays) content))
