-- What is written of proper claims is judged valid: it is split into what was signed, and each check holds of that.
use Rattle.std.proofs.Common.{◌≡◌, ◌≢◌, ◌∙◌, ap, sym, subst, ℕ, ◌<◌, ◌≤◌, ◌&&◌, ◌++◌, List, [], ◌∷◌, Bool, true, false, Option, Some, None, Contains, option_and_then, option_map, unwrap_or, IfSome, IsUtf8, refl, arith}
use Rattle.std.specs.Prelude.{bytes_eq, codes, length, nat_le, if◌then◌else◌, Ok, Err}
use Rattle.std.specs.List.{list_any}
use Rattle.std.specs.Result.{result_ok}
use Rattle.std.specs.Str.{is_utf8}
use Rattle.std.proofs.lemmas.Str.{IsUtf8-from_is_utf8}
use Rattle.std.proofs.lemmas.Bool.{lt-ltb}
use Rattle.std.proofs.lemmas.List.Folds.{list_any_at}
use Rattle.serde_json.specs.Data.{Data, null, boolean, number, string, array, object, depth}
use Rattle.serde_json.specs.Read.{max_depth, read}
use Rattle.sig_json.specs.Canon.{IsCanonical}
use Rattle.sig_json.specs.Json.{json_of, text_member}
use Rattle.sig_json.specs.Members.{is_object}
use Rattle.sig_json.specs.declared.limits.TheConstants.{TOKEN_BYTES}
use Rattle.sig_json.proofs.CanonTexts.{compact_utf8}
use Rattle.sig_json.proofs.ReadBack.{canon_reads}
use Rattle.sig_jws.specs.Compact.{input_of, split_of}
use Rattle.sig_jws.specs.Hmac.{hmac_of}
use Rattle.sig_jws.specs.declared.compact.Compact.{Compact}
use Rattle.sig_jws.specs.declared.key.Key.{Key}
use Rattle.sig_jws.proofs.SignedLemmas.{gives_back}
use Rattle.sig_rs256.specs.Keys.{PublicKey}
use Rattle.sig_subject.proofs.Passing.{Passes, passes_append}
use Rattle.sig_event.specs.declared.claims.Claims.{Claims}
use Rattle.sig_set.specs.declared.trust.Issuer.{Issuer}
use Rattle.sig_set.specs.declared.trust.Trust.{Trust}
use Rattle.sig_set.specs.declared.writing.WriteFault.TheVariants.{TooLong}
use Rattle.sig_set.specs.Claims.{ClaimsAre, claims_in, content_checks}
use Rattle.sig_set.specs.Header.{has_candidate, has_mac, is_candidate, is_verified, kid_in, secret_name}
use Rattle.sig_set.specs.Judgement.{Valid, audience_checks, bearer_checks, checks, claims_of, form_checks, header_in, issuer_checks, issuer_in, issuer_named, judged, judged_by, key_checks, keys_in, payload_in, public_keys_in, token_in, trust_checks}
use Rattle.sig_set.specs.Laws.{AreJudgedValid, IsNameOr, IsTrusted}
use Rattle.sig_set.specs.Tests.{is_filled_and_wanted}
use Rattle.sig_set.specs.Written.{IsProperClaims, header_of, header_text_of, payload_text_of, token_text}
use Rattle.sig_set.proofs.ByteLemmas.{IsBytes-utf8}
use Rattle.sig_set.proofs.ProperClaims.{ascii, bytes_same}
use Rattle.sig_set.proofs.ReadsClaims.{content_passes, said_holds, said_read}

none_is_some : {A P : Type 0} {a : A} → None ≡ Some a → P
none_is_some h = cc

-- ---- the header

header_canonical : (kid : Option (List ℕ)) → IfSome kid IsUtf8 → IsCanonical (header_of kid)
header_canonical None h = (ascii _ refl, ascii _ refl, (refl, tt), (ascii _ refl, ascii _ refl, tt, tt))
header_canonical (Some kid) h =
    (ascii _ refl, ascii _ refl, (refl, (refl, tt)), (ascii _ refl, h, (refl, tt), (ascii _ refl, ascii _ refl, tt, tt)))

header_shallow : (kid : Option (List ℕ)) → depth (header_of kid) ≤ max_depth
header_shallow None = omega arith
header_shallow (Some kid) = omega arith

header_spelled : (kid : Option (List ℕ)) → IfSome kid IsUtf8 → json_of (header_text_of kid) ≡ Some (header_of kid)
header_spelled kid h = canon_reads (header_of kid) (header_canonical kid h) (header_shallow kid)

-- ---- texts that spell a value

text_if : (b : Bool) (o : Option Data) (d : Data) → (if b then o else None) ≡ Some d → b ≡ true
text_if true o d h = refl
text_if false o d h = cc h

spelled_utf8 : (bytes : List ℕ) (d : Data) → json_of bytes ≡ Some d → IsUtf8 bytes
spelled_utf8 bytes d h = IsUtf8-from_is_utf8 bytes (text_if (is_utf8 bytes) (read bytes) d h)

filled : (b : ℕ) (bytes : List ℕ) → (b ∷ bytes) ≢ []
filled b bytes h = cc h

-- ---- what is written

small_text : (b : Bool) (token text : List ℕ) (n : ℕ) → (if b then Ok token else Err (TooLong n)) ≡ Ok text → (b ≡ true) × (token ≡ text)
small_text true token text n h = (refl, cc h)
small_text false token text n h = cc h

-- what a signed text holds
abbrev held : Claims → Key → Compact
held claims key = record {
  header = header_text_of key.kid;
  payload = payload_text_of claims;
  mac = hmac_of key.bytes (input_of (header_text_of key.kid) (payload_text_of claims));
  input = input_of (header_text_of key.kid) (payload_text_of claims);
}

token_split : (claims : Claims) (key : Key) → IsProperClaims claims → IfSome key.kid IsUtf8 → split_of (token_text claims key) ≡ Ok (held claims key)
token_split claims key proper kid =
    gives_back (header_text_of key.kid) (payload_text_of claims) key.bytes
    (IsBytes-utf8 _ (compact_utf8 (header_of key.kid) (header_canonical key.kid kid)))
    (IsBytes-utf8 _ (spelled_utf8 _ proper.value proper.spelled))
    (filled _ _) (filled _ _)

-- ---- the checks

-- a test that an element passes finds one
finds : {A : Type 0} (test : A → Bool) (xs : List A) (x : A) → Contains xs x → test x ≡ true → list_any test xs ≡ true
finds test xs x (i, small, is) h = list_any_at test xs i x small (ap test is ∙ h)

object_there : (name : List ℕ) (v : Data) (text : List ℕ) → text_member name v ≡ Some text → is_object v ≡ true
object_there name null text h = none_is_some h
object_there name (boolean b) text h = none_is_some h
object_there name (number n) text h = none_is_some h
object_there name (string s) text h = none_is_some h
object_there name (array ds) text h = none_is_some h
object_there name (object ms) text h = refl

-- what a payload names that says claims of a trusted issuer
issuer_there : (trust : Trust) (claims : Claims) (key : Key) (v : Data) → ClaimsAre claims v → (t : IsTrusted trust claims key) → issuer_in trust.issuers (Some v) ≡ Some t.issuer
issuer_there trust claims key v says t = ap (option_and_then (λ iss. issuer_named iss trust.issuers)) says.iss ∙ t.known

keys_there : (trust : Trust) (claims : Claims) (key : Key) (v : Data) → ClaimsAre claims v → (t : IsTrusted trust claims key) → keys_in trust.issuers (Some v) ≡ t.issuer.keys
keys_there trust claims key v says t = ap (λ o. unwrap_or (option_map (λ (i : Issuer). i.keys) o) []) (issuer_there trust claims key v says t)

issuer_passes : (trust : Trust) (claims : Claims) (key : Key) (v : Data) → ClaimsAre claims v → IsTrusted trust claims key → Passes (issuer_checks trust.issuers (Some claims.iss) (Some v))
issuer_passes trust claims key v says t = rw (issuer_there trust claims key v says t, says.iss, bytes_same claims.iss) refl

fits_kid : (key : Key) (kid : Option (List ℕ)) → key.kid ≡ kid → is_candidate (kid_in (Some (header_of kid))) key.kid ≡ true
fits_kid key None is = refl
fits_kid key (Some kid) is = rw is (bytes_same kid)

key_passes : (claims : Claims) (key : Key) (keys : List Key) (public_keys : List PublicKey) → Contains keys key
    → Passes (key_checks (Some (held claims key)) (Some (header_of key.kid)) keys public_keys)
key_passes claims key keys public_keys among =
    let kid = kid_in (Some (header_of key.kid)) in
    let fits = fits_kid key key.kid refl in
    let signs : is_candidate kid key.kid && has_mac (Some (held claims key)) key ≡ true = rw fits (bytes_same (held claims key).mac) in
    let candidate : has_candidate secret_name kid keys ≡ true = finds (λ (k : Key). is_candidate kid k.kid) keys key among fits in
    let verified : is_verified secret_name (has_mac (Some (held claims key))) kid keys ≡ true =
    finds (λ (k : Key). is_candidate kid k.kid && has_mac (Some (held claims key)) k) keys key among signs in
    rw (candidate, verified) refl

audience_passes : (trust : Trust) (claims : Claims) (key : Key) (v : Data) → ClaimsAre claims v → IsTrusted trust claims key → Passes (audience_checks trust.audience (Some v))
audience_passes trust claims key v says t =
    let listed = finds (bytes_eq trust.audience) claims.aud trust.audience t.audience (bytes_same trust.audience) in
    rw (says.aud, listed) refl

wanted_there : (named : Option (List ℕ)) (text : List ℕ) → IsNameOr named text → 0 < length text → is_filled_and_wanted named (Some text) ≡ true
wanted_there None text h filled = lt-ltb 0 (length text) filled
wanted_there (Some name) text h filled = rw (lt-ltb 0 (length text) filled, h name refl, bytes_same text) refl

content_passes_for : (named : Option (List ℕ)) (claims : Claims) (v : Data) → ClaimsAre claims v → IsNameOr named claims.jti → Passes (content_checks named (Some v))
content_passes_for named claims v says name =
    let h = said_holds claims v says in
    let jti = ap (is_filled_and_wanted named) says.jti ∙ wanted_there named claims.jti name says.identified in
    content_passes named (Some v) (record {
      jti = jti;
      iat = h.iat;
      lasting = h.lasting;
      apart = h.apart;
      subject = h.subject;
      events = h.events;
      each = h.each;
    })

trust_passes : (trust : Trust) (claims : Claims) (key : Key) (v : Data) → ClaimsAre claims v → IsTrusted trust claims key
    → Passes (trust_checks trust (Some claims.iss) (Some (held claims key)) (Some (header_of key.kid)) (Some v))
trust_passes trust claims key v says t =
    let keys = keys_in trust.issuers (Some v) in
    let public_keys = public_keys_in trust.issuers (Some v) in
    let among : Contains keys key = subst (λ (ks : List Key). Contains ks key) (sym (keys_there trust claims key v says t)) t.keys in
    let signs = key_checks (Some (held claims key)) (Some (header_of key.kid)) keys public_keys in
    let aims = audience_checks trust.audience (Some v) in
    passes_append (issuer_checks trust.issuers (Some claims.iss) (Some v)) (signs ++ aims) (issuer_passes trust claims key v says t)
    (passes_append signs aims (key_passes claims key keys public_keys among) (audience_passes trust claims key v says t))

-- ---- the judgement of a text with these parts

record Holds (bytes : List ℕ) (token : Compact) (head v : Data) : Type 0 where
  pub splits : split_of bytes ≡ Ok token
  pub header : header_in (Some token) ≡ Some head
  pub payload : payload_in (Some token) ≡ Some v

form_passes : (claims : Claims) (kid : Option (List ℕ)) (bytes : List ℕ) (token : Compact) (v : Data) → ClaimsAre claims v → Holds bytes token (header_of kid) v
    → nat_le (length bytes) TOKEN_BYTES ≡ true → Passes (form_checks bytes)
form_passes claims None bytes token v says h small =
    rw (small, h.splits, h.header, h.payload, object_there (codes "iss") v claims.iss says.iss, says.iss) refl
form_passes claims (Some kid) bytes token v says h small =
    rw (small, h.splits, h.header, h.payload, object_there (codes "iss") v claims.iss says.iss, says.iss) refl

all_pass : (trust : Trust) (principal named : Option (List ℕ)) (iss bytes : List ℕ) (token : Compact) (header v : Data) → Holds bytes token header v → principal ≡ Some iss
    → Passes (form_checks bytes) → Passes (trust_checks trust principal (Some token) (Some header) (Some v)) → Passes (content_checks named (Some v))
    → Passes (checks trust principal named bytes)
all_pass trust principal named iss bytes token header v h somebody form trusted content =
    let parts : Passes (trust_checks trust principal (token_in bytes) (header_in (token_in bytes)) (payload_in (token_in bytes))) =
    rw (h.splits, h.header, h.payload) trusted in
    let last : Passes (content_checks named (payload_in (token_in bytes))) = rw (h.splits, h.payload) content in
    let trusts = trust_checks trust principal (token_in bytes) (header_in (token_in bytes)) (payload_in (token_in bytes)) in
    let contents = content_checks named (payload_in (token_in bytes)) in
    passes_append (bearer_checks principal) (form_checks bytes ++ (trusts ++ contents)) (rw somebody refl)
    (passes_append (form_checks bytes) (trusts ++ contents) form (passes_append trusts contents parts last))

token_holds : (claims : Claims) (key : Key) (proper : IsProperClaims claims) → IfSome key.kid IsUtf8 → Holds (token_text claims key) (held claims key) (header_of key.kid) proper.value
token_holds claims key proper kid = record {
  splits = token_split claims key proper kid;
  header = header_spelled key.kid kid;
  payload = proper.spelled;
}

-- what is written has the claims that it was written of
pub written_claims : (claims : Claims) (key : Key) → IsProperClaims claims → IfSome key.kid IsUtf8 → claims_of (token_text claims key) ≡ claims
written_claims claims key proper kid =
    ap (λ r. claims_in (payload_in (result_ok r))) (token_split claims key proper kid) ∙ ap claims_in proper.spelled ∙ said_read claims proper.value proper.says

judged_token : (trust : Trust) (named : Option (List ℕ)) (claims : Claims) (key : Key) → IsProperClaims claims → IfSome key.kid IsUtf8 → IsTrusted trust claims key → IsNameOr named claims.jti
    → nat_le (length (token_text claims key)) TOKEN_BYTES ≡ true → judged trust (Some claims.iss) named (token_text claims key) ≡ Valid claims
judged_token trust named claims key proper kid trusted name small =
    let holds = token_holds claims key proper kid in
    let form = form_passes claims key.kid (token_text claims key) (held claims key) proper.value proper.says holds small in
    let pass : Passes (checks trust (Some claims.iss) named (token_text claims key)) =
    all_pass trust (Some claims.iss) named claims.iss (token_text claims key) (held claims key) (header_of key.kid) proper.value holds refl form
    (trust_passes trust claims key proper.value proper.says trusted) (content_passes_for named claims proper.value proper.says name) in
    ap (λ o. judged_by o (claims_of (token_text claims key))) pass ∙ ap Valid (written_claims claims key proper kid)

pub judged_valid : AreJudgedValid
judged_valid trust named claims key text proper kid trusted name written =
    let is = small_text (nat_le (length (token_text claims key)) TOKEN_BYTES) (token_text claims key) text (length (token_text claims key)) written in
    subst (λ (t : List ℕ). judged trust (Some claims.iss) named t ≡ Valid claims) is.1 (judged_token trust named claims key proper kid trusted name is.0)
