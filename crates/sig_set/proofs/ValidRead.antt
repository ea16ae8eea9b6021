-- The claims of a token that is valid are read of its text.
use Rattle.std.proofs.Common.{◌≡◌, ◌++◌, ℕ, List, ◌∷◌, Bool, true, false, bytes_eq, codes, is_some, Option, Some, None, refl, ap, ◌∙◌}
use Rattle.std.specs.Prelude.{Ok}
use Rattle.std.specs.List.{list_any}
use Rattle.std.proofs.lemmas.Bool.{and_parts}
use Rattle.serde_json.specs.Data.{Data}
use Rattle.sig_jws.specs.declared.compact.Compact.{Compact}
use Rattle.sig_subject.proofs.Passing.{Passes, passes_append, passes_back, passes_cons, passes_front}
use Rattle.sig_event.specs.declared.claims.Claims.{Claims}
use Rattle.sig_set.specs.declared.refusal.Code.TheVariants.{InvalidAudience}
use Rattle.sig_set.specs.declared.refusal.Spot.TheVariants as spot
use Rattle.sig_set.specs.declared.trust.Trust.{Trust}
use Rattle.sig_set.specs.Checks.{Fault, refused_unless}
use Rattle.sig_set.specs.Claims.{audience_in, content_checks, text_in}
use Rattle.sig_set.specs.Judgement.{Valid, audience_checks, bearer_checks, checks, claims_of, form_checks, header_in, issuer_checks, judged_by, key_checks, keys_in, payload_in, public_keys_in, token_in, trust_checks}
use Rattle.sig_set.specs.Laws.{AreRead}
use Rattle.sig_set.specs.Reading.{read_by, reading_checks}
use Rattle.sig_set.specs.Tests.{is_filled, is_filled_and_wanted, is_text, where_there}
use Rattle.sig_set.proofs.ReadsClaims.{all_hold, content_holds, content_passes}

false_is_true : {P : Type 0} → false ≡ true → P
false_is_true h = cc

pub valid_parts : (o : Option Fault) (read claims : Claims) → judged_by o read ≡ Valid claims → (o ≡ None) × (read ≡ claims)
valid_parts None read claims h = (refl, cc h)
valid_parts (Some fault) read claims h = cc h

filled_text : (named text : Option (List ℕ)) → is_filled_and_wanted named text ≡ true → is_filled text ≡ true
filled_text None text h = h
filled_text (Some wanted) text h = (and_parts (is_filled text) (is_text wanted text) h).0

there : {A : Type 0} (test : A → Bool) (o : Option A) → where_there test o ≡ true → is_some o ≡ true
there test None h = false_is_true h
there test (Some a) h = refl

-- with no name wanted the last checks hold too
pub nameless : (named : Option (List ℕ)) (v : Option Data) → Passes (content_checks named v) → Passes (content_checks None v)
nameless named v h =
    let all = content_holds named v h in
    content_passes None v (record {
      jti = filled_text named (text_in (codes "jti") v) all.jti;
      iat = all.iat;
      lasting = all.lasting;
      apart = all.apart;
      subject = all.subject;
      events = all.events;
      each = all.each;
    })

aimed : (trust : Trust) (principal : Option (List ℕ)) (token : Option Compact) (header v : Option Data) → Passes (trust_checks trust principal token header v) → is_some (audience_in v) ≡ true
aimed trust principal token header v h =
    let keys = key_checks token header (keys_in trust.issuers v) (public_keys_in trust.issuers v) in
    let behind = passes_back (issuer_checks trust.issuers principal v) (keys ++ audience_checks trust.audience v) h in
    let last = passes_back keys (audience_checks trust.audience v) behind in
    there (list_any (bytes_eq trust.audience)) (audience_in v) (all_hold (audience_checks trust.audience v) last).0

reads : (trust : Trust) (principal named : Option (List ℕ)) (text : List ℕ) → Passes (checks trust principal named text) → Passes (reading_checks text)
reads trust principal named text h =
    let token = token_in text in
    let v = payload_in token in
    let trusted = trust_checks trust principal token (header_in token) v in
    let content = content_checks named v in
    let known = passes_back (bearer_checks principal) (form_checks text ++ (trusted ++ content)) h in
    let rest = passes_back (form_checks text) (trusted ++ content) known in
    let aud = refused_unless InvalidAudience spot.Aud (is_some (audience_in v)) in
    passes_append (form_checks text) (aud ∷ content_checks None v) (passes_front (form_checks text) (trusted ++ content) known)
    (passes_cons aud (content_checks None v) (aimed trust principal token (header_in token) v (passes_front trusted content rest)) (nameless named v (passes_back trusted content rest)))

pub valid_read : AreRead
valid_read trust principal named text claims h =
    let parts = valid_parts _ (claims_of text) claims h in
    ap (λ o. read_by o (claims_of text)) (reads trust principal named text parts.0) ∙ ap Ok parts.1
