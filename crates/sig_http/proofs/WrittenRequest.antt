-- A request that is written is read back.
use Rattle.std.proofs.Common.{◌≡◌, ◌≤◌, ◌<◌, ℕ, suc, ◌+◌, ◌^◌, Bool, true, false, IsTrue, List, [], ◌∷◌, ◌++◌, length, map, take, drop, Option, Some, None, option_map, refl, sym, ◌∙◌, ap, subst, append_assoc, append-nil, length-append, arith, if◌then◌else◌}
use Rattle.std.specs.Prelude.{◌&&◌, ◌||◌, nat_lt, nat_le, not, cond, All, IfSome, codes, decimal}
use Rattle.std.specs.List.{flat_map, list_all, list_any, before_first, after_first, position_or_len}
use Rattle.std.proofs.Math.Seq.{take-append_seam, drop-append_seam}
use Rattle.std.proofs.lemmas.Bool.{le-leb, ltb-true}
use Rattle.std.proofs.lemmas.List.{length-map}
use Rattle.std.proofs.lemmas.Slice.Eq.{bytes_eq-Decides}
use Rattle.std.proofs.lemmas.List.Elements.{All-head, All-tail, All-cons, All-nil, All-append, All-weaker}
use Rattle.std.proofs.lemmas.List.Sums.{AllPass-from_list_all}
use Rattle.sig_json.specs.Checks.{check, first_failing}
use Rattle.sig_json.specs.declared.limits.TheConstants.{HEAD_BYTES, HEADER_FIELDS, REQUEST_BODY_BYTES, RESPONSE_BODY_BYTES}
use Rattle.httparse.specs.Grammar.{AllPass, IsToken, is_token, is_token_byte, is_value_byte, is_uri_byte, Field, IsField, crlf, print_field, print_section, RequestHead, IsRequestHead, print_request, trim_ows}
use Rattle.httparse.specs.Spans.{name_and_value}
use Rattle.httparse.proofs.GrammarLemmas.{print_request-append}
use Rattle.sig_outside.specs.declared.place.Place.{Place}
use Rattle.sig_http.specs.Section.{start, section_from}
use Rattle.sig_http.specs.Spelling.{field_line, authorization, line_if, length_and_body, place_text, query_part, request_line, request_spelling}
use Rattle.sig_http.specs.Values.{is_number, is_same_number, number_of, skip_zeros}
use Rattle.sig_http.specs.Fields.{closes, first_value}
use Rattle.sig_http.specs.Targets.{after_scheme, has_fragment, path_after, path_in}
use Rattle.sig_http.specs.Framing.{request_fault, request_framing}
use Rattle.sig_http.specs.Message.{Outcome, Whole, Unfinished, DecidesBy, DecidesRequest, FindsRequest, requests, request_fields, request_of, after_section, after_head, as_body, body_of, bearer_of, is_question_mark}
use Rattle.sig_http.specs.Written.{IsReadableRequest, request_read, target_of}
use Rattle.sig_http.specs.declared.message.Request.{Request}
use Rattle.sig_http.specs.declared.section.Section.TheVariants.{Ended}
use Rattle.sig_http.specs.declared.fault.HttpFault.TheVariants as faults
use Rattle.sig_http.specs.declared.framing.Framing.TheVariants as framings
use Rattle.sig_http.proofs.NumberLemmas.{decimal_values, decimal_trimmed, decimal_number, decimal_read}
use Rattle.sig_http.proofs.WrittenLemmas.{field_is, pair_line, pair_lines, IsPair, is_other, token_other, uri_other, token_no_feed, token_no_return, section_of_lines}

-- ---- the head

-- its fields by name and value
abbrev authorized : Option (List ℕ) → List (List ℕ × List ℕ)
authorized None = []
authorized (Some value) = (codes "authorization", value) ∷ []

abbrev in_english : Bool → List (List ℕ × List ℕ)
in_english true = (codes "content-language", codes "en") ∷ []
in_english false = []

abbrev last_pairs : List ℕ → List (List ℕ × List ℕ)
last_pairs count = (codes "accept", codes "application/json") ∷ (codes "connection", codes "close") ∷ (codes "content-length", count) ∷ []

abbrev pairs_of : List ℕ → Option (List ℕ) → List ℕ → Bool → List ℕ → List (List ℕ × List ℕ)
pairs_of host bearer kind language count =
    (codes "host", host) ∷ (authorized bearer ++ ((codes "content-type", kind) ∷ (in_english language ++ last_pairs count)))

abbrev pub field_of : List ℕ × List ℕ → Field
field_of p = record { name = p.0; raw = 32 ∷ p.1; end = crlf }

-- fields are written as their pairs are
pub fields_lines : (pairs : List (List ℕ × List ℕ)) → flat_map print_field (map field_of pairs) ≡ pair_lines pairs
fields_lines [] = refl
fields_lines (p ∷ ps) = ap (λ l. pair_line p ++ l) (fields_lines ps)

pub fields_valid : (pairs : List (List ℕ × List ℕ)) → All IsPair pairs → All IsField (map field_of pairs)
fields_valid [] ok = All-nil IsField
fields_valid (p ∷ ps) ok =
    let first = All-head IsPair p ps ok in
    All-cons IsField (field_of p) (map field_of ps)
    (record { name = first.0; raw = All-cons (λ b. IsTrue (is_value_byte b)) 32 p.1 refl first.1 })
    (fields_valid ps (All-tail IsPair p ps ok))

pub section_lines : (pairs : List (List ℕ × List ℕ)) (rest : List ℕ) → print_section (map field_of pairs) crlf ++ rest ≡ pair_lines pairs ++ 13 ∷ 10 ∷ rest
section_lines pairs rest = ap (λ l. (l ++ 13 ∷ 10 ∷ []) ++ rest) (fields_lines pairs) ∙ append_assoc (pair_lines pairs) (13 ∷ 10 ∷ []) rest

abbrev head_with : List ℕ → List ℕ → List (List ℕ × List ℕ) → RequestHead
head_with method target pairs = record {
  blank = [];
  method = method;
  target = target;
  minor = 1;
  line_end = crlf;
  fields = map field_of pairs;
  last = crlf;
}

-- the bytes of a head with these parts, and what follows it
abbrev head_text : List ℕ → List ℕ → List (List ℕ × List ℕ) → List ℕ → List ℕ
head_text method target pairs rest = method ++ 32 ∷ (target ++ (codes " HTTP/1.1\r\n" ++ (pair_lines pairs ++ 13 ∷ 10 ∷ rest)))

head_printed : (method target : List ℕ) (pairs : List (List ℕ × List ℕ)) (rest : List ℕ) → print_request (head_with method target pairs) ++ rest ≡ head_text method target pairs rest
head_printed method target pairs rest =
    print_request-append (head_with method target pairs) rest
    ∙ ap (λ l. method ++ 32 ∷ (target ++ (codes " HTTP/1.1\r\n" ++ l))) (section_lines pairs rest)

-- the bytes of a request are its head and its body
parts : (m s p q v l1 l2 l3 l4 l5 l6 l7 e b rest : List ℕ)
    → (((m ++ s) ++ p ++ q ++ v) ++ l1 ++ l2 ++ l3 ++ l4 ++ l5 ++ l6 ++ (l7 ++ e ++ b)) ++ rest
    ≡ m ++ (s ++ ((p ++ q) ++ (v ++ ((l1 ++ (l2 ++ (l3 ++ (l4 ++ (l5 ++ (l6 ++ (l7 ++ []))))))) ++ (e ++ (b ++ rest))))))
parts m s p q v l1 l2 l3 l4 l5 l6 l7 e b rest = simp (append_assoc, append-nil)

abbrev spelled_of : List ℕ → List ℕ → List ℕ → List ℕ → Option (List ℕ) → List ℕ → Bool → List ℕ → List ℕ
spelled_of m p q host bearer kind language body =
    (m ++ codes " " ++ p ++ q ++ codes " HTTP/1.1\r\n")
    ++ field_line (codes "host") host
    ++ authorization bearer
    ++ field_line (codes "content-type") kind
    ++ line_if language (codes "content-language") (codes "en")
    ++ field_line (codes "accept") (codes "application/json")
    ++ field_line (codes "connection") (codes "close")
    ++ length_and_body body

abbrev pub written_lines : List (List ℕ × List ℕ) → List ℕ
written_lines pairs = flat_map (λ p. field_line p.0 p.1) pairs

pub lines_are : (pairs : List (List ℕ × List ℕ)) → written_lines pairs ≡ pair_lines pairs
lines_are [] = refl
lines_are (p ∷ ps) = ap (λ l. l ++ written_lines ps) (field_is p.0 p.1) ∙ ap (λ l. pair_line p ++ l) (lines_are ps)

-- the same with its field lines as they are written
abbrev written_text : List ℕ → List ℕ → List (List ℕ × List ℕ) → List ℕ → List ℕ
written_text method target pairs rest = method ++ 32 ∷ (target ++ (codes " HTTP/1.1\r\n" ++ (written_lines pairs ++ 13 ∷ 10 ∷ rest)))

by_parts : (m p q host : List ℕ) (bearer : Option (List ℕ)) (kind : List ℕ) (language : Bool) (body rest : List ℕ)
    → spelled_of m p q host bearer kind language body ++ rest ≡ written_text m (p ++ q) (pairs_of host bearer kind language (decimal (length body))) (body ++ rest)
by_parts m p q host None kind true body rest =
    parts m (codes " ") p q (codes " HTTP/1.1\r\n") (field_line (codes "host") host) [] (field_line (codes "content-type") kind) (field_line (codes "content-language") (codes "en"))
    (field_line (codes "accept") (codes "application/json")) (field_line (codes "connection") (codes "close")) (field_line (codes "content-length") (decimal (length body))) (codes "\r\n") body rest
by_parts m p q host None kind false body rest =
    parts m (codes " ") p q (codes " HTTP/1.1\r\n") (field_line (codes "host") host) [] (field_line (codes "content-type") kind) []
    (field_line (codes "accept") (codes "application/json")) (field_line (codes "connection") (codes "close")) (field_line (codes "content-length") (decimal (length body))) (codes "\r\n") body rest
by_parts m p q host (Some bearer) kind true body rest =
    parts m (codes " ") p q (codes " HTTP/1.1\r\n") (field_line (codes "host") host) (field_line (codes "authorization") bearer) (field_line (codes "content-type") kind) (field_line (codes "content-language") (codes "en"))
    (field_line (codes "accept") (codes "application/json")) (field_line (codes "connection") (codes "close")) (field_line (codes "content-length") (decimal (length body))) (codes "\r\n") body rest
by_parts m p q host (Some bearer) kind false body rest =
    parts m (codes " ") p q (codes " HTTP/1.1\r\n") (field_line (codes "host") host) (field_line (codes "authorization") bearer) (field_line (codes "content-type") kind) []
    (field_line (codes "accept") (codes "application/json")) (field_line (codes "connection") (codes "close")) (field_line (codes "content-length") (decimal (length body))) (codes "\r\n") body rest

-- ---- its section

start_line : (m t v rest : List ℕ) → m ++ 32 ∷ (t ++ (v ++ rest)) ≡ (m ++ 32 ∷ (t ++ v)) ++ rest
start_line m t v rest = simp append_assoc

start_other : (m t : List ℕ) → AllPass is_token_byte m → AllPass is_uri_byte t → AllPass is_other (m ++ 32 ∷ (t ++ codes " HTTP/1.1"))
start_other m t token target =
    let P = λ (b : ℕ). IsTrue (is_other b) in
    All-append P m (32 ∷ (t ++ codes " HTTP/1.1")) (All-weaker (λ b. IsTrue (is_token_byte b)) P token_other m token)
    (All-cons P 32 (t ++ codes " HTTP/1.1") refl
    (All-append P t (codes " HTTP/1.1") (All-weaker (λ b. IsTrue (is_uri_byte b)) P uri_other t target) (AllPass-from_list_all is_other (codes " HTTP/1.1") refl)))

head_section : (method target : List ℕ) (pairs : List (List ℕ × List ℕ)) (rest : List ℕ) → IsToken method → AllPass is_uri_byte target → All IsPair pairs
    → length (print_request (head_with method target pairs)) ≤ HEAD_BYTES → length pairs ≤ HEADER_FIELDS
    → section_from start (head_text method target pairs rest) ≡ Ended (length (print_request (head_with method target pairs)))
head_section [] target pairs rest token uri ok few lines = absurd (omega (arith, token.0))
head_section (x ∷ m) target pairs rest token uri ok few lines =
    let P = λ (b : ℕ). IsTrue (is_token_byte b) in
    let first = All-head P x m token.1 in
    let c = m ++ 32 ∷ (target ++ codes " HTTP/1.1") in
    let printed = print_request (head_with (x ∷ m) target pairs) in
    let all : printed ++ [] ≡ x ∷ (c ++ 13 ∷ 10 ∷ (pair_lines pairs ++ 13 ∷ 10 ∷ [])) =
    head_printed (x ∷ m) target pairs [] ∙ ap (λ l. x ∷ l) (start_line m target (codes " HTTP/1.1") (13 ∷ 10 ∷ (pair_lines pairs ++ 13 ∷ 10 ∷ []))) in
    let size : length (x ∷ c) + 2 + length (pair_lines pairs) + 2 ≡ length printed =
    omega (arith, ap length all, length-append printed [], length-append c (13 ∷ 10 ∷ (pair_lines pairs ++ 13 ∷ 10 ∷ [])), length-append (pair_lines pairs) (13 ∷ 10 ∷ [])) in
    ap (λ l. section_from start (x ∷ l)) (start_line m target (codes " HTTP/1.1") (13 ∷ 10 ∷ (pair_lines pairs ++ 13 ∷ 10 ∷ rest)))
    ∙ section_of_lines x c pairs rest (token_no_feed x first) (token_no_return x first) (start_other m target (All-tail P x m token.1) uri) ok (omega (arith, size, few)) lines
    ∙ ap Ended size

-- ---- what its fields say

abbrev pub fields_of : List (List ℕ × List ℕ) → List (List ℕ × List ℕ)
fields_of pairs = map name_and_value (map field_of pairs)

checks_pass : (h a b : Bool) → h ≡ false → a ≡ true → b ≡ true
    → first_failing (check faults.Head (not h) ∷ check faults.Host true ∷ check faults.Expect true ∷ check faults.Coding true ∷ check faults.Length ((not (not a) && true) && true) ∷ check faults.BodyLong b ∷ []) ≡ None
checks_pass true a b h e f = cc h
checks_pass false true true h e f = refl
checks_pass false true false h e f = cc f
checks_pass false false b h e f = cc e

abbrev pub says_length : List ℕ → Bool
says_length value = is_number value && is_same_number value value

no_fault : (target host : List ℕ) (bearer : Option (List ℕ)) (kind : List ℕ) (language : Bool) (count : List ℕ) → has_fragment target ≡ false → says_length (trim_ows (32 ∷ count)) ≡ true
    → nat_le (number_of (trim_ows (32 ∷ count))) REQUEST_BODY_BYTES ≡ true → request_fault 1 target (fields_of (pairs_of host bearer kind language count)) ≡ None
no_fault target host None kind true count h e f = checks_pass (has_fragment target) (says_length (trim_ows (32 ∷ count))) (nat_le (number_of (trim_ows (32 ∷ count))) REQUEST_BODY_BYTES) h e f
no_fault target host None kind false count h e f = checks_pass (has_fragment target) (says_length (trim_ows (32 ∷ count))) (nat_le (number_of (trim_ows (32 ∷ count))) REQUEST_BODY_BYTES) h e f
no_fault target host (Some bearer) kind true count h e f = checks_pass (has_fragment target) (says_length (trim_ows (32 ∷ count))) (nat_le (number_of (trim_ows (32 ∷ count))) REQUEST_BODY_BYTES) h e f
no_fault target host (Some bearer) kind false count h e f = checks_pass (has_fragment target) (says_length (trim_ows (32 ∷ count))) (nat_le (number_of (trim_ows (32 ∷ count))) REQUEST_BODY_BYTES) h e f

framed_by : (host : List ℕ) (bearer : Option (List ℕ)) (kind : List ℕ) (language : Bool) (count : List ℕ)
    → request_framing (fields_of (pairs_of host bearer kind language count)) ≡ framings.Length (number_of (trim_ows (32 ∷ count)))
framed_by host None kind true count = refl
framed_by host None kind false count = refl
framed_by host (Some bearer) kind true count = refl
framed_by host (Some bearer) kind false count = refl

closing : (host : List ℕ) (bearer : Option (List ℕ)) (kind : List ℕ) (language : Bool) (count : List ℕ) → closes (fields_of (pairs_of host bearer kind language count)) ≡ true
unfolding trim_ows
closing host None kind true count = refl
closing host None kind false count = refl
closing host (Some bearer) kind true count = refl
closing host (Some bearer) kind false count = refl

bearing : (host : List ℕ) (bearer : Option (List ℕ)) (kind : List ℕ) (language : Bool) (count : List ℕ)
    → first_value (codes "authorization") (fields_of (pairs_of host bearer kind language count)) ≡ option_map trim_ows bearer
unfolding trim_ows
bearing host None kind true count = refl
bearing host None kind false count = refl
bearing host (Some bearer) kind true count = refl
bearing host (Some bearer) kind false count = refl

-- ---- the path and the query of a target

is_path : ℕ → Bool
is_path b = not (is_question_mark b)

path_query : (p q : List ℕ) → list_any is_question_mark p ≡ false
    → (before_first is_question_mark (p ++ query_part q) ≡ p) × (after_first is_question_mark (p ++ query_part q) ≡ q)
path_query [] [] none = (refl, refl)
path_query [] (b ∷ q) none = (refl, refl)
path_query (b ∷ p) q none =
    let whole = p ++ query_part q in
    let later = path_query p q (tail_none (is_question_mark b) none) in
    let first = head_none (is_question_mark b) none in
    let k = position_or_len is_question_mark whole in
    let e : 1 + k ≡ suc k = omega arith in (
      ap (λ t. take (cond (not t) (1 + k) 0) (b ∷ whole)) first ∙ ap (λ n. take n (b ∷ whole)) e ∙ ap (λ l. b ∷ l) later.0,
      ap (λ t. drop (cond (not t) (1 + k) 0 + 1) (b ∷ whole)) first
          ∙ ap (λ k. drop k (b ∷ whole)) (one_later k) ∙ later.1,
    )
  where
    tail_none : (t : Bool) → (t || list_any is_question_mark p) ≡ false → list_any is_question_mark p ≡ false
    tail_none false e = e
    tail_none true e = cc e

    head_none : (t : Bool) → (t || list_any is_question_mark p) ≡ false → t ≡ false
    head_none false e = refl
    head_none true e = cc e

    one_later : (k : ℕ) → 1 + k + 1 ≡ suc (k + 1)
    one_later k = omega arith

-- ---- the whole

decided : (method target : List ℕ) (pairs : List (List ℕ × List ℕ)) (tail : List ℕ) (outcome : Outcome Request) → IsRequestHead (head_with method target pairs)
    → section_from start (head_text method target pairs tail) ≡ Ended (length (print_request (head_with method target pairs)))
    → length (map field_of pairs) ≤ HEADER_FIELDS → outcome ≡ after_section requests (Some (head_with method target pairs)) tail → DecidesRequest (head_text method target pairs tail) outcome
decided method target pairs tail outcome valid section few is =
    let head = head_with method target pairs in
    let printed = print_request head in
    let text = head_printed method target pairs tail in
    let front : take (length printed) (head_text method target pairs tail) ≡ printed ++ [] =
    ap (take (length printed)) (sym text) ∙ take-append_seam printed tail ∙ sym (append-nil printed) in
    let after : drop (length printed) (head_text method target pairs tail) ≡ tail = ap (drop (length printed)) (sym text) ∙ drop-append_seam printed tail in
    subst (λ s. DecidesBy FindsRequest requests (head_text method target pairs tail) outcome s) (sym section)
    (Some head, (([], (valid, front)), few), is ∙ ap (after_section requests (Some head)) (sym after))

pub body_taken : (limit n : ℕ) (body rest : List ℕ) → n ≡ length body → body_of limit (framings.Length n) (body ++ rest) ≡ Whole body rest
body_taken limit n body rest e =
    let within : length body ≤ length (body ++ rest) = omega (arith, length-append body rest) in
    ap (λ k. body_of limit (framings.Length k) (body ++ rest)) e
    ∙ ap (λ b. if b then Whole (take (length body) (body ++ rest)) (drop (length body) (body ++ rest)) else Unfinished) (le-leb (length body) (length (body ++ rest)) within)
    ∙ ap (λ c. Whole c (drop (length body) (body ++ rest))) (take-append_seam body rest)
    ∙ ap (Whole body) (drop-append_seam body rest)

-- the request that is read of such a head
message_is : (request : Request) (host kind : List ℕ) (language : Bool) (count : List ℕ) → list_any is_question_mark request.path ≡ false → after_scheme request.path ≡ None
    → request_of (head_with request.method (target_of request) (pairs_of host request.bearer kind language count)) request.body ≡ request_read request
message_is request host kind language count plain origin =
    let parts = path_query request.path request.query plain in
    let target = target_of request in
    let fields = fields_of (pairs_of host request.bearer kind language count) in
    ap (λ p. record { method = request.method; path = path_in p; query = after_first is_question_mark target; bearer = bearer_of (first_value (codes "authorization") fields); close = closes fields; body = request.body }) parts.0
    ∙ ap (λ o. record { method = request.method; path = path_after request.path o; query = after_first is_question_mark target; bearer = bearer_of (first_value (codes "authorization") fields); close = closes fields; body = request.body }) origin
    ∙ ap (λ q. record { method = request.method; path = request.path; query = q; bearer = bearer_of (first_value (codes "authorization") fields); close = closes fields; body = request.body }) parts.1
    ∙ ap (λ b. record { method = request.method; path = request.path; query = request.query; bearer = bearer_of b; close = closes fields; body = request.body }) (bearing host request.bearer kind language count)
    ∙ ap (λ c. record { method = request.method; path = request.path; query = request.query; bearer = bearer_of (option_map trim_ows request.bearer); close = c; body = request.body }) (closing host request.bearer kind language count)

pub same_number : (ds : List ℕ) → is_same_number ds ds ≡ true
same_number ds = (bytes_eq-Decides (skip_zeros ds) (skip_zeros ds)).1 refl

pub token_from : (a b : Bool) (name : List ℕ) → nat_lt 0 (length name) ≡ a → list_all is_token_byte name ≡ b → (a && b) ≡ true → IsToken name
token_from true true name e f g = (ltb-true 0 (length name) e, AllPass-from_list_all is_token_byte name f)
token_from true false name e f g = cc g
token_from false b name e f g = cc g

pairs_valid : (host : List ℕ) (bearer : Option (List ℕ)) (kind : List ℕ) (language : Bool) (count : List ℕ) → AllPass is_value_byte host → IfSome bearer (AllPass is_value_byte)
    → AllPass is_value_byte kind → AllPass is_value_byte count → All IsPair (pairs_of host bearer kind language count)
unfolding is_token_byte
pairs_valid host bearer kind language count host_ok bearer_ok kind_ok count_ok =
    let last = (codes "content-length", count) ∷ [] in
    let closed = (codes "connection", codes "close") ∷ last in
    let tail = in_english language ++ last_pairs count in
    let typed = (codes "content-type", kind) ∷ tail in
    All-cons IsPair (codes "host", host) (authorized bearer ++ typed) (token (codes "host") refl, host_ok)
    (All-append IsPair (authorized bearer) typed (by_bearer bearer bearer_ok)
    (All-cons IsPair (codes "content-type", kind) tail (token (codes "content-type") refl, kind_ok)
    (All-append IsPair (in_english language) (last_pairs count) (by_language language)
    (All-cons IsPair (codes "accept", codes "application/json") closed (token (codes "accept") refl, value (codes "application/json") refl)
    (All-cons IsPair (codes "connection", codes "close") last (token (codes "connection") refl, value (codes "close") refl)
    (All-cons IsPair (codes "content-length", count) [] (token (codes "content-length") refl, count_ok) (All-nil IsPair)))))))
  where
    token : (name : List ℕ) → is_token name ≡ true → IsToken name
    token name e = token_from (nat_lt 0 (length name)) (list_all is_token_byte name) name refl refl e

    value : (text : List ℕ) → list_all is_value_byte text ≡ true → AllPass is_value_byte text
    value text e = AllPass-from_list_all is_value_byte text e

    by_bearer : (b : Option (List ℕ)) → IfSome b (AllPass is_value_byte) → All IsPair (authorized b)
    by_bearer None h = All-nil IsPair
    by_bearer (Some v) h = All-cons IsPair (codes "authorization", v) [] (token (codes "authorization") refl, h) (All-nil IsPair)

    by_language : (l : Bool) → All IsPair (in_english l)
    by_language true = All-cons IsPair (codes "content-language", codes "en") [] (token (codes "content-language") refl, value (codes "en") refl) (All-nil IsPair)
    by_language false = All-nil IsPair

pairs_few : (host : List ℕ) (bearer : Option (List ℕ)) (kind : List ℕ) (language : Bool) (count : List ℕ) → length (pairs_of host bearer kind language count) ≤ 7
pairs_few host None kind true count = omega arith
pairs_few host None kind false count = omega arith
pairs_few host (Some bearer) kind true count = omega arith
pairs_few host (Some bearer) kind false count = omega arith

place_values : (place : Place) → AllPass is_value_byte place.host → place.port < 2 ^ 16 → AllPass is_value_byte (place_text place)
place_values place host port =
    let P = λ (b : ℕ). IsTrue (is_value_byte b) in
    All-append P (place.host ++ codes ":") (decimal place.port) (All-append P place.host (codes ":") host (All-cons P 58 [] refl (All-nil P)))
    (decimal_values place.port (omega (arith, port)))

spelled : (place : Place) (request : Request) (kind : List ℕ) (language : Bool) (rest : List ℕ) → request_spelling place request kind language ++ rest
    ≡ head_text request.method (target_of request) (pairs_of (place_text place) request.bearer kind language (decimal (length request.body))) (request.body ++ rest)
unfolding request_spelling request_line
spelled place request kind language rest =
    let pairs = pairs_of (place_text place) request.bearer kind language (decimal (length request.body)) in
    by_parts request.method request.path (query_part request.query) (place_text place) request.bearer kind language request.body rest
    ∙ ap (λ l. request.method ++ 32 ∷ (target_of request ++ (codes " HTTP/1.1\r\n" ++ (l ++ 13 ∷ 10 ∷ (request.body ++ rest))))) (lines_are pairs)

after_it : (host : List ℕ) (request : Request) (kind : List ℕ) (language : Bool) (rest : List ℕ) → length request.body ≤ REQUEST_BODY_BYTES → list_any is_question_mark request.path ≡ false
    → after_scheme request.path ≡ None → has_fragment (target_of request) ≡ false → Whole (request_read request) rest
    ≡ after_section requests (Some (head_with request.method (target_of request) (pairs_of host request.bearer kind language (decimal (length request.body))))) (request.body ++ rest)
after_it host request kind language rest few plain origin whole =
    let n = length request.body in
    let limit : REQUEST_BODY_BYTES ≡ 65536 = refl in
    let greatest : RESPONSE_BODY_BYTES ≡ 524288 = refl in
    let small : n < 2 ^ 64 = omega (arith, few, limit) in
    let count = decimal n in
    let trimmed = decimal_trimmed n small in
    let head = head_with request.method (target_of request) (pairs_of host request.bearer kind language count) in
    let number : number_of (trim_ows (32 ∷ count)) ≡ n = ap number_of trimmed ∙ decimal_read n (omega (arith, few, limit, greatest)) in
    let says : says_length (trim_ows (32 ∷ count)) ≡ true =
    ap says_length trimmed ∙ ap (λ t. t && is_same_number count count) (decimal_number n small) ∙ same_number count in
    let within : nat_le (number_of (trim_ows (32 ∷ count))) REQUEST_BODY_BYTES ≡ true = ap (λ k. nat_le k REQUEST_BODY_BYTES) number ∙ le-leb n REQUEST_BODY_BYTES few in
    sym (
    ap (λ f. after_head f REQUEST_BODY_BYTES (request_framing (request_fields head)) (request_of head) (request.body ++ rest)) (no_fault (target_of request) host request.bearer kind language count whole says within)
    ∙ ap (λ f. as_body (request_of head) (body_of REQUEST_BODY_BYTES f (request.body ++ rest))) (framed_by host request.bearer kind language count)
    ∙ ap (as_body (request_of head)) (body_taken REQUEST_BODY_BYTES (number_of (trim_ows (32 ∷ count))) request.body rest number)
    ∙ ap (λ m. Whole m rest) (message_is request host kind language count plain origin)
    )

-- a request that is written is read back
pub request_read_back : (place : Place) (request : Request) (kind : List ℕ) (language : Bool) (rest : List ℕ) → IsReadableRequest place request kind language
    → DecidesRequest (request_spelling place request kind language ++ rest) (Whole (request_read request) rest)
request_read_back place request kind language rest ok =
    let host = place_text place in
    let n = length request.body in
    let limit : REQUEST_BODY_BYTES ≡ 65536 = refl in
    let fields : HEADER_FIELDS ≡ 64 = refl in
    let count = decimal n in
    let pairs = pairs_of host request.bearer kind language count in
    let target = target_of request in
    let head = head_with request.method target pairs in
    let printed = print_request head in
    let valid = pairs_valid host request.bearer kind language count (place_values place ok.host ok.port) ok.bearer ok.kind (decimal_values n (omega (arith, ok.body, limit))) in
    let few = pairs_few host request.bearer kind language count in
    let whole : request_spelling place request kind language ++ [] ≡ printed ++ (request.body ++ []) =
    spelled place request kind language [] ∙ sym (head_printed request.method target pairs (request.body ++ [])) in
    let within : length printed ≤ HEAD_BYTES = omega (arith, ap length whole, length-append (request_spelling place request kind language) [], length-append printed (request.body ++ []), length-append request.body [], ok.head) in
    let lines : length pairs ≤ HEADER_FIELDS = omega (arith, few, fields) in
    let head_ok : IsRequestHead head = record { method = ok.method; target = ok.target; target_text = ok.text; minor = omega arith; fields = fields_valid pairs valid } in
    subst (λ bytes. DecidesRequest bytes (Whole (request_read request) rest)) (sym (spelled place request kind language rest))
    (decided request.method target pairs (request.body ++ rest) (Whole (request_read request) rest) head_ok
    (head_section request.method target pairs (request.body ++ rest) ok.method ok.target.1 valid within lines)
    (omega (arith, length-map pairs field_of, lines)) (after_it host request kind language rest ok.body ok.path ok.origin ok.plain))
