-- What is judged valid is the signing of what it says, by a key that is trusted.
use Rattle.std.proofs.Common.{◌≡◌, ◌∙◌, ◌≤◌, ◌++◌, ◌&&◌, ◌||◌, ℕ, suc, List, [], ◌∷◌, Bool, true, false, Contains, Option, Some, None, get_or, inl, inr, not, is_some, option_and_then, option_map, unwrap_or, refl, ap, sym, subst, arith}
use Rattle.std.specs.Prelude.{Ok, Err, Result, bytes_eq, codes, if◌then◌else◌, is_ok, length}
use Rattle.std.specs.List.{list_any}
use Rattle.std.specs.Result.{result_ok}
use Rattle.std.proofs.lemmas.Bool.{and_parts, leb-true}
use Rattle.std.proofs.lemmas.Map.Views.{Contains-from_any}
use Rattle.std.proofs.lemmas.Slice.Eq.{bytes_eq-Decides}
use Rattle.base64.specs.GeneralPurpose.{IsBytes}
use Rattle.serde_json.specs.Data.{Data}
use Rattle.sig_json.specs.Checks.{Check}
use Rattle.sig_json.specs.Json.{json_of, member_of, text_member}
use Rattle.sig_json.specs.Members.{is_object}
use Rattle.sig_json.specs.declared.limits.TheConstants.{TOKEN_BYTES}
use Rattle.sig_jws.specs.Compact.{base64url, dot, split_of}
use Rattle.sig_jws.specs.Hmac.{hmac_of}
use Rattle.sig_jws.specs.declared.compact.Compact.{Compact}
use Rattle.sig_jws.specs.declared.compact.SplitFault.{SplitFault}
use Rattle.sig_jws.specs.declared.key.Key.{Key}
use Rattle.sig_jws.proofs.SpellingLemmas.{signed_where_verified, spelled}
use Rattle.sig_rs256.specs.Keys.{PublicKey}
use Rattle.sig_rs256.specs.Signatures.{IsSignature}
use Rattle.sig_rs256.proofs.SignatureLemmas.{decides_signatures}
use Rattle.sig_event.specs.declared.claims.Claims.{Claims}
use Rattle.sig_set.specs.declared.header.Algorithm.{Algorithm}
use Rattle.sig_set.specs.declared.header.Algorithm.TheVariants.{Hs256, Rs256}
use Rattle.sig_set.specs.declared.trust.Issuer.{Issuer}
use Rattle.sig_set.specs.declared.trust.Trust.{Trust}
use Rattle.sig_set.specs.Checks.{Fault}
use Rattle.sig_set.specs.Claims.{ClaimsAre, audience_in, claims_in, content_checks}
use Rattle.sig_set.specs.Header.{algorithm_in, algorithm_named, has_mac, has_signature, is_candidate, is_signed, kid_in}
use Rattle.sig_set.specs.Judgement.{Valid, bearer_checks, checks, claims_of, form_checks, header_checks, header_in, issuer_in, issuer_named, judged, keys_in, payload_checks, payload_in, public_keys_in, speaks_for, token_in, trust_checks}
use Rattle.sig_set.specs.Laws.{AreUnderTheirAlgorithm, IsNameOr, IsUnderItsAlgorithm, IsValidWhereJudged, SaysAlgorithm, SignedBy, UnderPublicKey, UnderSecret}
use Rattle.sig_set.specs.Tests.{is_filled, is_filled_and_wanted, is_text, where_there}
use Rattle.sig_subject.proofs.Passing.{Passes, passes_back}
use Rattle.sig_set.proofs.ReadsClaims.{AllHold, all_hold, reads_claims}
use Rattle.sig_set.proofs.ValidRead.{nameless, valid_parts}

-- ---- what a test that holds tells

none_is_some : {A P : Type 0} {a : A} → None ≡ Some a → P
none_is_some h = cc

false_is_true : {P : Type 0} → false ≡ true → P
false_is_true h = cc

tested : {A : Type 0} (test : A → Bool) (o : Option A) → where_there test o ≡ true → (a : A) × (o ≡ Some a) × (test a ≡ true)
tested test None h = false_is_true h
tested test (Some a) h = (a, refl, h)

given : {A : Type 0} (o : Option A) → is_some o ≡ true → (a : A) × (o ≡ Some a)
given None h = false_is_true h
given (Some a) h = (a, refl)

absent : {A : Type 0} (o : Option A) → not (is_some o) ≡ true → o ≡ None
absent None h = refl
absent (Some a) h = false_is_true h

split : (r : Result Compact SplitFault) → is_ok r ≡ true → (c : Compact) × (r ≡ Ok c)
split (Ok c) h = (c, refl)
split (Err fault) h = false_is_true h

same_text : (wanted : List ℕ) (o : Option (List ℕ)) → is_text wanted o ≡ true → o ≡ Some wanted
same_text wanted None h = false_is_true h
same_text wanted (Some text) h = ap Some ((bytes_eq-Decides text wanted).0 h)

-- a test that finds one tells which
found : {A : Type 0} (test : A → Bool) (xs : List A) → list_any test xs ≡ true → (x : A) × Contains xs x × (test x ≡ true)
found test [] h = false_is_true h
found {A = A} test (x ∷ xs) h = at (test x) refl h (found test xs)
  where
    later : (y : A) × Contains xs y × (test y ≡ true) → (y : A) × Contains (x ∷ xs) y × (test y ≡ true)
    later (y, (k, small, is), holds) = (y, (suc k, omega arith, is), holds)

    at : (b : Bool) → test x ≡ b → (b || list_any test xs) ≡ true → (list_any test xs ≡ true → (y : A) × Contains xs y × (test y ≡ true))
        → (y : A) × Contains (x ∷ xs) y × (test y ≡ true)
    at true is h more = (x, (0, omega arith, refl), is)
    at false is h more = later (more h)

name_given : (named : Option (List ℕ)) (text : List ℕ) → is_filled_and_wanted named (Some text) ≡ true → IsNameOr named text
name_given None text h name is = none_is_some is
name_given (Some wanted) text h name is =
    let parts = and_parts (is_filled (Some text)) (is_text wanted (Some text)) h in
    let same : wanted ≡ name = cc is in
    sym same ∙ sym ((bytes_eq-Decides text wanted).0 parts.1)

-- ---- by which key a token was signed

abbrev name_of : Algorithm → List ℕ
name_of Hs256 = codes "HS256"
name_of Rs256 = codes "RS256"

algorithm_tells : (o : Option (List ℕ)) (a : Algorithm) → option_and_then algorithm_named o ≡ Some a → o ≡ Some (name_of a)
algorithm_tells None a h = none_is_some h
algorithm_tells (Some name) a h = at (bytes_eq name (codes "HS256")) refl (bytes_eq name (codes "RS256")) refl h
  where
    at : (b : Bool) → bytes_eq name (codes "HS256") ≡ b → (c : Bool) → bytes_eq name (codes "RS256") ≡ c
        → (if b then Some Hs256 else if c then Some Rs256 else None) ≡ Some a → Some name ≡ Some (name_of a)
    at true first c second told =
        let which : Hs256 ≡ a = cc told in
        ap Some ((bytes_eq-Decides name (codes "HS256")).0 first) ∙ ap (λ x. Some (name_of x)) which
    at false first true second told =
        let which : Rs256 ≡ a = cc told in
        ap Some ((bytes_eq-Decides name (codes "RS256")).0 second) ∙ ap (λ x. Some (name_of x)) which
    at false first false second told = none_is_some told

-- the key of an issuer by which a token was signed
data Signer (issuer : Issuer) (token : Compact) (head : Data) : Type 0 where
  secret : SaysAlgorithm head (codes "HS256") → (key : Key) → Contains issuer.keys key → is_candidate (member_of (codes "kid") head) key.kid ≡ true
      → token.mac ≡ hmac_of key.bytes token.input → Signer issuer token head
  public_key : SaysAlgorithm head (codes "RS256") → (key : PublicKey) → Contains issuer.public_keys key → is_candidate (member_of (codes "kid") head) key.kid ≡ true
      → IsSignature key token.input token.mac → Signer issuer token head

signer_there : (issuer : Issuer) (token : Compact) (head : Data) (o : Option Algorithm) → algorithm_in (Some head) ≡ o
    → is_signed o (Some token) (kid_in (Some head)) issuer.keys issuer.public_keys ≡ true → Signer issuer token head
signer_there issuer token head None is h = false_is_true h
signer_there issuer token head (Some Hs256) is h =
    let kid = kid_in (Some head) in
    let key = found (λ (k : Key). is_candidate kid k.kid && has_mac (Some token) k) issuer.keys h in
    let both = and_parts (is_candidate kid key.0.kid) (has_mac (Some token) key.0) key.2 in
    secret (algorithm_tells (text_member (codes "alg") head) Hs256 is) key.0 key.1 both.0 ((bytes_eq-Decides token.mac (hmac_of key.0.bytes token.input)).0 both.1)
signer_there issuer token head (Some Rs256) is h =
    let kid = kid_in (Some head) in
    let key = found (λ (k : PublicKey). is_candidate kid k.kid && has_signature (Some token) k) issuer.public_keys h in
    let both = and_parts (is_candidate kid key.0.kid) (has_signature (Some token) key.0) key.2 in
    public_key (algorithm_tells (text_member (codes "alg") head) Rs256 is) key.0 key.1 both.0 ((decides_signatures key.0 token.input token.mac).0 both.1)

-- what it signed is the text
signed_by : (issuer : Issuer) (token : Compact) (head : Data) (text : List ℕ) → IsBytes text → split_of text ≡ Ok token → Signer issuer token head
    → SignedBy issuer head token.header token.payload text
signed_by issuer token head text bytes splits (secret says key among fits right) =
    UnderSecret (record { algorithm = says; key = key; keys = among; candidate = fits; signing = signed_where_verified text key.bytes token bytes splits right })
signed_by issuer token head text bytes splits (public_key says key among fits right) =
    let is = spelled text token bytes splits in
    UnderPublicKey (record {
      algorithm = says;
      key = key;
      keys = among;
      candidate = fits;
      signature = token.mac;
      signing = subst (λ (input : List ℕ). IsSignature key input token.mac) is.0 right;
      spelled = is.1 ∙ ap (λ input. input ++ dot ∷ base64url token.mac) is.0;
    })

-- no header says both algorithms
one_algorithm : {P : Type 0} (head : Data) → SaysAlgorithm head (codes "HS256") → SaysAlgorithm head (codes "RS256") → P
one_algorithm head one other =
    let same : 72 ≡ 82 = ap (λ o. get_or (unwrap_or o []) 0 0) (sym one ∙ other) in
    absurd (omega (arith, same))

none_among : {A P : Type 0} (xs : List A) (x : A) → xs ≡ [] → Contains xs x → P
none_among xs x none (i, small, is) =
    let few : length xs ≡ 0 = ap length none in
    absurd (omega arith)

apart : (issuer : Issuer) (token : Compact) (head : Data) → Signer issuer token head → IsUnderItsAlgorithm issuer token head
apart issuer token head (secret says key among fits right) = record {
  known = inl says;
  secret = λ _. (key, among, right);
  public_key = λ other. one_algorithm head says other;
  no_secret = λ none _. none_among issuer.keys key none among;
  no_public_key = λ _ other. one_algorithm head says other;
}
apart issuer token head (public_key says key among fits right) = record {
  known = inr says;
  secret = λ other. one_algorithm head other says;
  public_key = λ _. (key, among, right);
  no_secret = λ _ other. one_algorithm head other says;
  no_public_key = λ none _. none_among issuer.public_keys key none among;
}

-- ---- the checks after those of the text, by what the text holds

abbrev later_checks : Trust → Option (List ℕ) → Option (List ℕ) → Option Compact → Option Data → Option Data → List (Check Fault)
later_checks trust principal named token header payload =
    header_checks header ++ (payload_checks payload ++ (trust_checks trust principal token header payload ++ content_checks named payload))

-- a text that is judged valid with these claims, by its parts
record IsOpened (trust : Trust) (principal named : Option (List ℕ)) (text : List ℕ) (claims : Claims) : Type 0 where
  short : length text ≤ TOKEN_BYTES
  token : Compact
  splits : split_of text ≡ Ok token
  head : Data
  header : json_of token.header ≡ Some head
  body : Data
  payload : json_of token.payload ≡ Some body
  same : claims_in (Some body) ≡ claims
  content : Passes (content_checks named (Some body))
  all : AllHold (later_checks trust principal named (Some token) (Some head) (Some body))

last_pass : (trust : Trust) (principal named : Option (List ℕ)) (text : List ℕ) → Passes (checks trust principal named text) → Passes (content_checks named (payload_in (token_in text)))
last_pass trust principal named text h =
    let token = token_in text in
    let trusted = trust_checks trust principal token (header_in token) (payload_in token) in
    let content = content_checks named (payload_in token) in
    passes_back trusted content (passes_back (form_checks text) (trusted ++ content) (passes_back (bearer_checks principal) (form_checks text ++ (trusted ++ content)) h))

opened : (trust : Trust) (principal named : Option (List ℕ)) (text : List ℕ) (claims : Claims) → judged trust principal named text ≡ Valid claims
    → IsOpened trust principal named text claims
opened trust principal named text claims h =
    let parts = valid_parts _ (claims_of text) claims h in
    let all = all_hold (checks trust principal named text) parts.0 in
    let compact = split (split_of text) all.1.1.0 in
    let token = compact.0 in
    let is : token_in text ≡ Some token = ap result_ok compact.1 in
    let rest : AllHold (later_checks trust principal named (Some token) (json_of token.header) (json_of token.payload)) =
    subst (λ t. AllHold (later_checks trust principal named t (header_in t) (payload_in t))) is all.1.1.1 in
    let head = tested is_object (json_of token.header) rest.0 in
    let body = tested is_object (json_of token.payload) rest.1.1.1.0 in
    let first : AllHold (later_checks trust principal named (Some token) (Some head.0) (json_of token.payload)) =
    subst (λ d. AllHold (later_checks trust principal named (Some token) d (json_of token.payload))) head.1 rest in
    let last : AllHold (later_checks trust principal named (Some token) (Some head.0) (Some body.0)) =
    subst (λ d. AllHold (later_checks trust principal named (Some token) (Some head.0) d)) body.1 first in
    let payload : payload_in (token_in text) ≡ Some body.0 = ap payload_in is ∙ body.1 in
    record {
      short = leb-true (length text) TOKEN_BYTES all.1.0;
      token = token;
      splits = compact.1;
      head = head.0;
      header = head.1;
      body = body.0;
      payload = body.1;
      same = sym (ap claims_in payload) ∙ parts.1;
      content = subst (λ d. Passes (content_checks named d)) payload (last_pass trust principal named text parts.0);
      all = last;
    }

-- ---- what its parts tell

abbrev Aimed : Trust → Data → Type 0
Aimed trust v = (texts : List (List ℕ)) × (audience_in (Some v) ≡ Some texts) × (list_any (bytes_eq trust.audience) texts ≡ true)

aimed : (trust : Trust) (principal named : Option (List ℕ)) (text : List ℕ) (claims : Claims) (o : IsOpened trust principal named text claims) → Aimed trust o.body
aimed trust principal named text claims o = tested (list_any (bytes_eq trust.audience)) (audience_in (Some o.body)) o.all.1.1.1.1.1.1.1.1.1.1.0

said : (trust : Trust) (principal named : Option (List ℕ)) (text : List ℕ) (claims : Claims) (o : IsOpened trust principal named text claims) → ClaimsAre claims o.body
said trust principal named text claims o =
    (reads_claims claims o.body).1 (o.all.1.1.1.1.0, ap is_some (aimed trust principal named text claims o).1, nameless named (Some o.body) o.content, o.same)

issuer_there : (trust : Trust) (principal named : Option (List ℕ)) (text : List ℕ) (claims : Claims) (o : IsOpened trust principal named text claims)
    → (issuer : Issuer) × (issuer_in trust.issuers (Some o.body) ≡ Some issuer)
issuer_there trust principal named text claims o = given (issuer_in trust.issuers (Some o.body)) o.all.1.1.1.1.1.0

signer : (trust : Trust) (principal named : Option (List ℕ)) (text : List ℕ) (claims : Claims) (o : IsOpened trust principal named text claims) (issuer : Issuer)
    → issuer_in trust.issuers (Some o.body) ≡ Some issuer → Signer issuer o.token o.head
signer trust principal named text claims o issuer is =
    let alg = algorithm_in (Some o.head) in
    let kid = kid_in (Some o.head) in
    let keys : is_signed alg (Some o.token) kid (keys_in trust.issuers (Some o.body)) (public_keys_in trust.issuers (Some o.body))
    ≡ is_signed alg (Some o.token) kid issuer.keys issuer.public_keys =
    ap (λ i. is_signed alg (Some o.token) kid (unwrap_or (option_map (λ (i : Issuer). i.keys) i) []) (unwrap_or (option_map (λ (i : Issuer). i.public_keys) i) [])) is in
    signer_there issuer o.token o.head alg refl (sym keys ∙ o.all.1.1.1.1.1.1.1.1.1.0)

-- ---- the judgement

pub valid_where_judged : IsValidWhereJudged
valid_where_judged trust principal named text claims bytes h =
    let o = opened trust principal named text claims h in
    let says = said trust principal named text claims o in
    let issuer = issuer_there trust principal named text claims o in
    record {
      short = o.short;
      header = o.token.header;
      payload = o.token.payload;
      head = o.head;
      header_spells = o.header;
      typed = o.all.1.0;
      extended = absent (member_of (codes "crit") o.head) o.all.1.1.0;
      issuer = issuer.0;
      known = sym (ap (option_and_then (λ iss. issuer_named iss trust.issuers)) says.iss) ∙ issuer.1;
      signer = signed_by issuer.0 o.token o.head text bytes o.splits (signer trust principal named text claims o issuer.0 issuer.1);
      speaks = same_text claims.iss principal (sym (ap (speaks_for principal) says.iss) ∙ o.all.1.1.1.1.1.1.0);
      audience = Contains-from_any {eq = bytes_eq} (λ x y. (bytes_eq-Decides x y).0) trust.audience claims.aud
          (sym (ap (where_there (list_any (bytes_eq trust.audience))) says.aud) ∙ o.all.1.1.1.1.1.1.1.1.1.1.0);
      body = o.body;
      payload_spells = o.payload;
      says = says;
      name = name_given named claims.jti (sym (ap (is_filled_and_wanted named) says.jti) ∙ o.all.1.1.1.1.1.1.1.1.1.1.1.0);
    }

pub under_their_algorithm : AreUnderTheirAlgorithm
under_their_algorithm trust principal named text claims issuer token head known splits spells h =
    let o = opened trust principal named text claims h in
    let says = said trust principal named text claims o in
    let there : issuer_in trust.issuers (Some o.body) ≡ Some issuer =
    ap (option_and_then (λ iss. issuer_named iss trust.issuers)) says.iss ∙ known in
    let same : o.token ≡ token = cc (sym o.splits ∙ splits) in
    let heads : o.head ≡ head = cc (sym o.header ∙ ap (λ (t : Compact). json_of t.header) same ∙ spells) in
    apart issuer token head
    (subst (λ (d : Data). Signer issuer token d) heads (subst (λ (t : Compact). Signer issuer t o.head) same (signer trust principal named text claims o issuer there)))
