-- A push to an endpoint that is wanted is read back.
use Rattle.std.proofs.Common.{◌≡◌, ◌∙◌, ap, sym, subst, ℕ, suc, ◌+◌, ◌<◌, ◌≤◌, ◌^◌, List, [], ◌∷◌, ◌++◌, length, take, Bool, true, false, not, ◌&&◌, ◌==◌, Option, Some, None, IfSome, IsUtf8, codes, decimal, refl, inl, inr, arith, append-nil, append_assoc, length-append}
use Rattle.std.specs.Prelude.{cond, nat_le, nat_lt}
use Rattle.std.specs.List.{after_first, before_first, list_all, list_any, prefix_len}
use Rattle.std.proofs.lemmas.Bool.{and_from, and_parts, le-leb, leb-true, lt-ltb, ne_eqb, not_from_false, or_from, or_right}
use Rattle.std.proofs.lemmas.Fmt.{length-decimal-le}
use Rattle.std.proofs.lemmas.List.Sums.{AllPass-from_list_all}
use Rattle.httparse.specs.Grammar.{AllPass, is_token_byte, is_uri_byte, is_value_byte}
use Rattle.json.proofs.Printed.Utf8.{IsUtf8-are_ascii, are_ascii}
use Rattle.sig_json.specs.declared.limits.TheConstants.{HEAD_BYTES, REQUEST_BODY_BYTES}
use Rattle.sig_jws.specs.declared.key.Key.{Key}
use Rattle.sig_http.specs.Message.{is_question_mark}
use Rattle.sig_http.specs.Spelling.{authorization as authorization_line, query_part, request_line, request_spelling}
use Rattle.sig_http.specs.Targets.{after_scheme, has_fragment}
use Rattle.sig_http.specs.Written.{IsReadableRequest, target_of}
use Rattle.sig_http.specs.declared.message.Request.{Request}
use Rattle.sig_http.proofs.WrittenRequest.{request_read_back}
use Rattle.sig_outside.specs.declared.place.Place.{Place}
use Rattle.sig_terms.specs.declared.endpoint.Endpoint.{Endpoint}
use Rattle.sig_terms.specs.declared.token.Token.{Token}
use Rattle.sig_stream.specs.Endpoints.{Spells, SpellsPath, scheme_of}
use Rattle.sig_stream.proofs.EndpointReading.{reads_endpoints}
use Rattle.sig_delivery.specs.Pushes.{path_in, push_kind, push_of}
use Rattle.sig_push_laws.specs.Heads.{IsPushTo, IsSafe, IsShort, IsWhole, WantedHeadsFit, WantedPushesAreReadBack, at_endpoint, is_inline, is_visible}
use Rattle.sig_push_laws.proofs.SafeLemmas.{all_weaker, read_safe, read_short}
use Rattle.sig_push_laws.proofs.WantedLemmas.{IsRead, wanted_read}

-- ---- bytes of each class

visible_uri : (b : ℕ) → is_visible b ≡ true → is_uri_byte b ≡ true
visible_uri b h =
    let both = and_parts (nat_le 33 b) (nat_le b 126) h in
    let low : 33 ≤ b = leb-true 33 b both.0 in
    let high : b ≤ 126 = leb-true b 126 both.1 in
    and_from (nat_lt 32 b) (not (b == 127)) (lt-ltb 32 b (omega arith)) (not_from_false (b == 127) (ne_eqb b 127 (λ e. omega arith)))

inline_value : (b : ℕ) → is_inline b ≡ true → is_value_byte b ≡ true
inline_value b h =
    let both = and_parts (nat_le 32 b) (nat_le b 126) h in
    let high : b ≤ 126 = leb-true b 126 both.1 in
    or_right (b == 9) (nat_le 32 b && not (b == 127)) (and_from (nat_le 32 b) (not (b == 127)) both.0 (not_from_false (b == 127) (ne_eqb b 127 (λ e. omega arith))))

visible_value : (b : ℕ) → is_visible b ≡ true → is_value_byte b ≡ true
visible_value b h =
    let both = and_parts (nat_le 33 b) (nat_le b 126) h in
    let low : 33 ≤ b = leb-true 33 b both.0 in
    let high : b ≤ 126 = leb-true b 126 both.1 in
    or_right (b == 9) (nat_le 32 b && not (b == 127))
    (and_from (nat_le 32 b) (not (b == 127)) (le-leb 32 b (omega arith)) (not_from_false (b == 127) (ne_eqb b 127 (λ e. omega arith))))

ascii_visible : (bs : List ℕ) → list_all is_visible bs ≡ true → are_ascii bs ≡ true
ascii_visible [] h = refl
ascii_visible (b ∷ bs) h =
    let both = and_parts (is_visible b) (list_all is_visible bs) h in
    let parts = and_parts (nat_le 33 b) (nat_le b 126) both.0 in
    let high : b ≤ 126 = leb-true b 126 parts.1 in
    and_from (nat_lt b 128) (are_ascii bs) (lt-ltb b 128 (omega arith)) (ascii_visible bs both.1)

-- ---- what stands before the first of a byte

first_kept : (p : ℕ → Bool) (x : ℕ) (xs : List ℕ) → p x ≡ false → before_first p (x ∷ xs) ≡ x ∷ before_first p xs
first_kept p x xs fails =
    let n : ℕ = prefix_len (λ b. not (p b)) xs in
    let one : 1 + n ≡ suc n = omega arith in
    ap (λ b. take (cond (not b) (1 + n) 0) (x ∷ xs)) fails ∙ ap (λ m. take m (x ∷ xs)) one

none_before : (p : ℕ → Bool) (xs : List ℕ) → list_any p (before_first p xs) ≡ false
none_before p [] = refl
none_before p (x ∷ xs) = none_at p x xs (p x) refl (none_before p xs)
  where
    none_at : (p : ℕ → Bool) (x : ℕ) (xs : List ℕ) (b : Bool) → p x ≡ b → list_any p (before_first p xs) ≡ false → list_any p (before_first p (x ∷ xs)) ≡ false
    none_at p x xs true passes rest = ap (λ b. list_any p (take (cond (not b) (1 + prefix_len (λ c. not (p c)) xs) 0) (x ∷ xs))) passes
    none_at p x xs false fails rest = ap (list_any p) (first_kept p x xs fails) ∙ or_from (p x) (list_any p (before_first p xs)) fails rest

-- a path that begins with a slash is in no absolute form
rooted_origin : (rest : List ℕ) → after_scheme (47 ∷ rest) ≡ None
rooted_origin rest = rw (first_kept (λ b. b == 58) 47 rest refl) refl

path_origin : (path rest : List ℕ) → path ≡ 47 ∷ rest → after_scheme (before_first is_question_mark path) ≡ None
path_origin path rest is =
    ap (λ p. after_scheme (before_first is_question_mark p)) is
    ∙ ap after_scheme (first_kept is_question_mark 47 rest refl)
    ∙ rooted_origin (before_first is_question_mark rest)

-- ---- sizes

path_short : (path text : List ℕ) → SpellsPath path text → length path ≤ length text + 1
path_short path text (inl none) = let one : length path ≡ 1 = ap length none.1 in omega arith
path_short path text (inr some) = let same : length text ≡ length path = ap length some.0 in omega arith

-- the host and the path of a URL are no longer than it, but for a slash
record IsWithin (n : ℕ) (endpoint : Endpoint) : Type 0 where
  host : length endpoint.place.host ≤ n
  path : length endpoint.path ≤ n + 1

spelled_within : (endpoint : Endpoint) (url : List ℕ) → Spells endpoint url → IsWithin (length url) endpoint
spelled_within endpoint url spells =
    let path : length endpoint.path ≤ length spells.path + 1 = path_short endpoint.path spells.path spells.spells_path in
    let all : length url ≡ length (scheme_of endpoint.secure) + length endpoint.place.host + length spells.port + length spells.path =
    ap length spells.is ∙ simp length-append in
    record { host = omega arith; path = omega arith }

line_short : (o : Option (List ℕ)) → IfSome o (λ text. length text ≤ 8192) → length (authorization_line o) ≤ 8192 + 17
line_short None h = omega arith
line_short (Some text) h = simp length-append (omega arith)

spelling_short : (place : Place) (request : Request) → length place.host ≤ 2048 → place.port < 2 ^ 16 → length (target_of request) ≤ 2049
    → request.method ≡ codes "POST" → IfSome request.bearer (λ text. length text ≤ 8192) → length request.body ≤ REQUEST_BODY_BYTES
    → length (request_spelling place request push_kind false) ≤ HEAD_BYTES + length request.body
unfolding request_spelling request_line
spelling_short place request host port target method shown body =
    let line : length (authorization_line request.bearer) ≤ 8192 + 17 = line_short request.bearer shown in
    let digits : length (decimal place.port) ≤ 5 = length-decimal-le 5 place.port (omega arith) (omega arith) (omega arith) in
    let figures : length (decimal (length request.body)) ≤ 5 = length-decimal-le 5 (length request.body) (omega arith) (omega arith) (omega arith) in
    let word : length request.method ≡ 4 = ap length method in
    let both : length (target_of request) ≡ length request.path + length (query_part request.query) = length-append request.path (query_part request.query) in
    simp length-append (omega arith)

-- ---- the push

-- it is written alike where its path is cut into path and query
same_line : (request : Request) (before query path : List ℕ) → before ++ query_part query ≡ path
    → request_line (record request { path = path; query = [] }) ≡ request_line (record request { path = before; query = query })
unfolding request_line
same_line request before query path is =
    let front : List ℕ = request.method ++ codes " " in
    ap (λ l. l ++ codes " HTTP/1.1\r\n")
    (append-nil (front ++ path) ∙ ap (λ p. front ++ p) (sym is) ∙ sym (append_assoc front before (query_part query)))

same_spelling : (place : Place) (request : Request) (before query path : List ℕ) → before ++ query_part query ≡ path
    → request_spelling place (record request { path = path; query = [] }) push_kind false
    ≡ request_spelling place (record request { path = before; query = query }) push_kind false
unfolding request_spelling
same_spelling place request before query path is = rw (same_line request before query path is) refl

post_token : AllPass is_token_byte (codes "POST")
unfolding is_token_byte
post_token = AllPass-from_list_all is_token_byte (codes "POST") refl

readable : (endpoint : Endpoint) (url : List ℕ) (authorization : Option (List ℕ)) (token : Token) (key : Key) → IsSafe endpoint authorization
    → IsWithin (length url) endpoint → IsShort url authorization → IsWhole endpoint.path → IsPushTo endpoint authorization token key
    → IsReadableRequest endpoint.place (at_endpoint endpoint (push_of token key)) push_kind false
readable endpoint url authorization token key safe small short entire push =
    let request : Request = at_endpoint endpoint (push_of token key) in
    let (rest, rooted) = safe.rooted in
    let url_short : length url ≤ 2048 = short.url_bytes in
    let host_short : length endpoint.place.host ≤ length url = small.host in
    let path_low : length endpoint.path ≤ length url + 1 = small.path in
    let whole : target_of request ≡ endpoint.path = entire in
    record {
      method = (omega arith, post_token);
      target = subst (λ t. (0 < length t) × AllPass is_uri_byte t) (sym whole) (
        let long : length endpoint.path ≡ length (codes "/" ++ rest) = ap length rooted in omega arith,
        AllPass-from_list_all is_uri_byte endpoint.path (all_weaker is_visible is_uri_byte visible_uri endpoint.path safe.path),
      );
      text = subst IsUtf8 (sym whole) (IsUtf8-are_ascii endpoint.path (ascii_visible endpoint.path safe.path));
      path = none_before is_question_mark endpoint.path;
      origin = path_origin endpoint.path rest rooted;
      plain = ap has_fragment whole ∙ safe.plain;
      host = AllPass-from_list_all is_value_byte endpoint.place.host (all_weaker is_visible is_value_byte visible_value endpoint.place.host safe.host);
      port = safe.most;
      bearer = subst (λ o. IfSome o (AllPass is_value_byte)) (sym push.shows) (values authorization safe.shown);
      kind = AllPass-from_list_all is_value_byte push_kind refl;
      head = spelling_short endpoint.place request (omega arith) safe.most
          (let same : length (target_of request) ≡ length endpoint.path = ap length whole in omega arith) refl
          (subst (λ o. IfSome o (λ text. length text ≤ 8192)) (sym push.shows) short.shown_bytes) push.fits;
      body = push.fits;
    }
  where
    values : (o : Option (List ℕ)) → IfSome o (λ text. list_all is_inline text ≡ true) → IfSome o (AllPass is_value_byte)
    values None h = tt
    values (Some text) h = AllPass-from_list_all is_value_byte text (all_weaker is_inline is_value_byte inline_value text h)

pub heads_fit : WantedHeadsFit
heads_fit gateway body endpoint url authorization token key wants push =
    let read : IsRead endpoint url authorization = wanted_read gateway body endpoint url authorization wants in
    let safe : IsSafe endpoint authorization = read_safe endpoint url authorization read in
    let short : IsShort url authorization = read_short endpoint url authorization read in
    let small : IsWithin (length url) endpoint = spelled_within endpoint url ((reads_endpoints url endpoint).1 read.spelled) in
    let url_short : length url ≤ 2048 = short.url_bytes in
    let host_short : length endpoint.place.host ≤ length url = small.host in
    let path_low : length endpoint.path ≤ length url + 1 = small.path in
    let same : length (target_of (push_of token key)) ≡ length endpoint.path =
    ap length (append-nil (push_of token key).path ∙ ap path_in push.leads) in
    spelling_short endpoint.place (push_of token key) (omega arith) safe.most (omega arith) refl
    (subst (λ o. IfSome o (λ text. length text ≤ 8192)) (sym push.shows) short.shown_bytes) push.fits

pub pushes_read_back : WantedPushesAreReadBack
pushes_read_back gateway body endpoint url authorization token key rest wants whole push =
    let read : IsRead endpoint url authorization = wanted_read gateway body endpoint url authorization wants in
    let safe : IsSafe endpoint authorization = read_safe endpoint url authorization read in
    let short : IsShort url authorization = read_short endpoint url authorization read in
    let small : IsWithin (length url) endpoint = spelled_within endpoint url ((reads_endpoints url endpoint).1 read.spelled) in
    let request : Request = at_endpoint endpoint (push_of token key) in
    let written : request_spelling endpoint.place (push_of token key) push_kind false ≡ request_spelling endpoint.place request push_kind false =
    ap (λ p. request_spelling endpoint.place (record (push_of token key) { path = p }) push_kind false) (ap path_in push.leads)
    ∙ same_spelling endpoint.place (push_of token key) (before_first is_question_mark endpoint.path) (after_first is_question_mark endpoint.path) endpoint.path whole in
    rw written (request_read_back endpoint.place request push_kind false rest (readable endpoint url authorization token key safe small short whole push))
