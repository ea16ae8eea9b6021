-- A response that is written is read back.
use Rattle.std.proofs.Common.{◌≡◌, ◌≤◌, ◌<◌, ℕ, zero, suc, ◌+◌, ◌^◌, Bool, true, false, IsTrue, List, [], ◌∷◌, ◌++◌, length, map, take, drop, Some, None, refl, sym, ◌∙◌, ap, subst, append_assoc, append-nil, length-append, arith, if◌then◌else◌}
use Rattle.std.specs.Prelude.{◌==◌, ◌&&◌, ◌||◌, nat_lt, not, cond, unwrap_or, All, codes, decimal}
use Rattle.std.specs.List.{list_all}
use Rattle.std.specs.Char.{is_ascii_digit}
use Rattle.std.specs.Str.{str_eq_ignore_ascii_case}
use Rattle.std.proofs.Math.Seq.{take-append_seam, drop-append_seam}
use Rattle.std.proofs.lemmas.Bool.{le-leb, lt-ltb}
use Rattle.std.proofs.lemmas.Bool.Decides.{Decides-below_and}
use Rattle.std.proofs.lemmas.List.{length-map}
use Rattle.std.proofs.lemmas.Grind.{flat_map-append}
use Rattle.std.specs.Str.Parse.{digits_value}
use Rattle.std.proofs.lemmas.Fmt.{decimal_is_IsNumeral, length-decimal-le}
use Rattle.std.proofs.lemmas.Int.Digits.{digits_value-lt}
use Rattle.std.proofs.lemmas.List.Elements.{All-head, All-tail, All-cons, All-nil, All-append, All-weaker}
use Rattle.std.proofs.lemmas.List.Sums.{AllPass-from_list_all, sum_by-cons}
use Rattle.sig_json.specs.Checks.{check, first_failing}
use Rattle.sig_json.specs.declared.limits.TheConstants.{HEAD_BYTES, HEADER_FIELDS, RESPONSE_BODY_BYTES}
use Rattle.http.specs.StatusCode.{reason_phrase}
use Rattle.httparse.specs.Grammar.{AllPass, IsToken, is_token, is_token_byte, is_value_byte, crlf, ResponseHead, IsResponseHead, print_response, status_code, trim_ows}
use Rattle.httparse.proofs.GrammarLemmas.{print_response-append}
use Rattle.sig_http.specs.Section.{start, section_from}
use Rattle.sig_http.specs.Spelling.{field_line, field_lines, line_if, phrase, status_line, rest_of, response_spelling}
use Rattle.sig_http.specs.Values.{is_number, is_same_number, number_of, says_close}
use Rattle.sig_http.specs.Fields.{is_named, first_value, lengths_are, closes}
use Rattle.sig_http.specs.Framing.{count_named, length_field, length_in, is_chunked_alone, is_framed, framing_fault, is_bodiless, is_informational, response_fault, response_framing}
use Rattle.sig_http.specs.Message.{Outcome, Whole, DecidesBy, DecidesResponse, FindsResponse, responses, response_of, after_section, after_head, as_body, body_of}
use Rattle.sig_http.specs.Written.{IsReadableHeader, IsReadableResponse, response_read, is_reserved}
use Rattle.sig_http.specs.declared.message.Header.{Header}
use Rattle.sig_http.specs.declared.message.Response.{Response}
use Rattle.sig_http.specs.declared.section.Section.TheVariants.{Ended}
use Rattle.sig_http.specs.declared.fault.HttpFault.TheVariants as faults
use Rattle.sig_http.specs.declared.framing.Framing.TheVariants as framings
use Rattle.sig_http.proofs.NumberLemmas.{digits_are_digits, decimal_values, decimal_trimmed, decimal_number, decimal_read}
use Rattle.sig_http.proofs.WrittenLemmas.{pair_lines, IsPair, is_other, value_other, section_of_lines}
use Rattle.sig_http.proofs.WrittenRequest.{field_of, fields_of, fields_valid, section_lines, says_length, same_number, body_taken, token_from, written_lines, lines_are}

-- ---- the status line

-- each phrase has bytes of values alone
abbrev has_values : ℕ → Bool
has_values n = list_all is_value_byte (unwrap_or (reason_phrase n) [])

abbrev values_below : ℕ → Bool
values_below zero = true
values_below (suc n) = has_values n && values_below n

phrase_told : (n : ℕ) → n < 1000 → has_values n ≡ true
phrase_told n h = (Decides-below_and has_values (λ k. has_values k ≡ true) values_below (λ k. (λ x. x, λ x. x)) refl (λ _. refl) 1000).0 refl n h

phrase_passes : (n : ℕ) → 100 ≤ n → n < 1000 → AllPass is_value_byte (phrase n)
phrase_passes n low high =
    let is : phrase n ≡ unwrap_or (reason_phrase n) [] =
    ap (λ t. if t && nat_lt n 1000 then unwrap_or (reason_phrase n) [] else []) (le-leb 100 n low)
    ∙ ap (λ t. if t then unwrap_or (reason_phrase n) [] else []) (lt-ltb n 1000 high) in
    subst (AllPass is_value_byte) (sym is) (AllPass-from_list_all is_value_byte (unwrap_or (reason_phrase n) []) (phrase_told n high))

-- a status has three digits
three_of : (ds : List ℕ) → 100 ≤ digits_value 10 ds → digits_value 10 ds < 10 ^ length ds → length ds ≤ 3 → length ds ≡ 3
three_of [] low high most = absurd (omega (arith, low, high))
three_of (a ∷ []) low high most = absurd (omega (arith, low, high))
three_of (a ∷ b ∷ []) low high most = absurd (omega (arith, low, high))
three_of (a ∷ b ∷ c ∷ []) low high most = omega arith
three_of (a ∷ b ∷ c ∷ d ∷ ds) low high most = absurd (omega (arith, most))

three_digits : (n : ℕ) → 100 ≤ n → n < 1000 → length (decimal n) ≡ 3
three_digits n low high =
    let d = decimal_is_IsNumeral n (omega (arith, high)) in
    three_of (decimal n) (omega (arith, d.1, low)) (digits_value-lt 10 (decimal n) d.0.1) (length-decimal-le 3 n (omega arith) (omega (arith, high)) (omega (arith, high)))

-- ---- the head

abbrev pair_of : Header → List ℕ × List ℕ
pair_of header = (header.name, header.value)

abbrev closed : Bool → List (List ℕ × List ℕ)
closed true = (codes "connection", codes "close") ∷ []
closed false = []

abbrev counted : Bool → List ℕ → List (List ℕ × List ℕ)
counted true count = []
counted false count = (codes "content-length", count) ∷ []

abbrev pairs_of : List Header → Bool → Bool → List ℕ → List (List ℕ × List ℕ)
pairs_of headers close lengthless count = map pair_of headers ++ (closed close ++ counted lengthless count)

abbrev head_with : ℕ → List (List ℕ × List ℕ) → ResponseHead
head_with status pairs = record {
  blank = [];
  minor = 1;
  digits = decimal status;
  reason = Some (phrase status);
  line_end = crlf;
  fields = map field_of pairs;
  last = crlf;
}

abbrev line_of : ℕ → List ℕ
line_of status = codes "TTP/1.1 " ++ (decimal status ++ 32 ∷ phrase status)

abbrev head_text : ℕ → List (List ℕ × List ℕ) → List ℕ → List ℕ
head_text status pairs rest = 72 ∷ (line_of status ++ 13 ∷ 10 ∷ (pair_lines pairs ++ 13 ∷ 10 ∷ rest))

line_parts : (a d p rest : List ℕ) → a ++ (d ++ (p ++ rest)) ≡ (a ++ (d ++ p)) ++ rest
line_parts a d p rest = simp append_assoc

head_printed : (status : ℕ) (pairs : List (List ℕ × List ℕ)) (rest : List ℕ) → print_response (head_with status pairs) ++ rest ≡ head_text status pairs rest
head_printed status pairs rest =
    print_response-append (head_with status pairs) rest
    ∙ ap (λ l. codes "HTTP/1.1 " ++ (decimal status ++ (32 ∷ phrase status ++ 13 ∷ 10 ∷ l))) (section_lines pairs rest)
    ∙ line_parts (codes "HTTP/1.1 ") (decimal status) (32 ∷ phrase status) (13 ∷ 10 ∷ (pair_lines pairs ++ 13 ∷ 10 ∷ rest))

-- the bytes of a response are its head and its body
abbrev written_text : ℕ → List ℕ → List ℕ → List ℕ
written_text status lines rest = 72 ∷ (line_of status ++ 13 ∷ 10 ∷ (lines ++ 13 ∷ 10 ∷ rest))

parts : (a d s p e f c l rest : List ℕ) → ((a ++ d ++ s ++ p ++ e) ++ f ++ c ++ l) ++ rest ≡ (a ++ (d ++ (s ++ p))) ++ (e ++ ((f ++ c) ++ (l ++ rest)))
parts a d s p e f c l rest = simp append_assoc

with_length : (f c l e b rest : List ℕ) → (f ++ c) ++ ((l ++ e ++ b) ++ rest) ≡ (f ++ (c ++ (l ++ []))) ++ (e ++ (b ++ rest))
with_length f c l e b rest = simp (append_assoc, append-nil)

abbrev line_written : ℕ → List ℕ → List ℕ
line_written status rest = (codes "HTTP/1.1 " ++ (decimal status ++ (codes " " ++ phrase status))) ++ (codes "\r\n" ++ rest)

by_parts : (status : ℕ) (headers : List Header) (close lengthless : Bool) (body rest : List ℕ) → (status == 204) ≡ lengthless → (lengthless ≡ true → body ≡ [])
    → (status_line status ++ field_lines headers ++ line_if close (codes "connection") (codes "close") ++ rest_of status body) ++ rest
    ≡ written_text status (written_lines (pairs_of headers close lengthless (decimal (length body)))) (body ++ rest)
by_parts status headers close lengthless body rest e bodiless =
    parts (codes "HTTP/1.1 ") (decimal status) (codes " ") (phrase status) (codes "\r\n") (field_lines headers) (line_if close (codes "connection") (codes "close")) (rest_of status body) rest
    ∙ ap (line_written status) (lines close lengthless e bodiless ∙ ap (λ l. l ++ 13 ∷ 10 ∷ (body ++ rest)) (sym (flat_map-append (λ p. field_line p.0 p.1) (map pair_of headers) (closed close ++ counted lengthless (decimal (length body))))))
  where
    count : List ℕ
    count = decimal (length body)

    written : (hs : List Header) → field_lines hs ≡ written_lines (map pair_of hs)
    written [] = refl
    written (h ∷ hs) = ap (λ l. field_line h.name h.value ++ l) (written hs)

    none : (f c : List ℕ) → body ≡ [] → (f ++ c) ++ (13 ∷ 10 ∷ rest) ≡ (f ++ (c ++ [])) ++ 13 ∷ 10 ∷ (body ++ rest)
    none f c empty = ap (λ l. l ++ 13 ∷ 10 ∷ rest) (ap (λ l. f ++ l) (sym (append-nil c))) ∙ ap (λ b. (f ++ (c ++ [])) ++ 13 ∷ 10 ∷ (b ++ rest)) (sym empty)

    lines : (close lengthless : Bool) → (status == 204) ≡ lengthless → (lengthless ≡ true → body ≡ [])
        → (field_lines headers ++ line_if close (codes "connection") (codes "close")) ++ (rest_of status body ++ rest)
        ≡ (written_lines (map pair_of headers) ++ written_lines (closed close ++ counted lengthless (decimal (length body)))) ++ 13 ∷ 10 ∷ (body ++ rest)
    lines true true e empty =
        ap (λ t. (field_lines headers ++ field_line (codes "connection") (codes "close")) ++ ((if t then codes "\r\n" else (field_line (codes "content-length") (decimal (length body)) ++ codes "\r\n" ++ body)) ++ rest)) e
        ∙ none (field_lines headers) (field_line (codes "connection") (codes "close")) (empty refl)
        ∙ ap (λ f. (f ++ (field_line (codes "connection") (codes "close") ++ [])) ++ 13 ∷ 10 ∷ (body ++ rest)) (written headers)
    lines false true e empty =
        ap (λ t. (field_lines headers ++ []) ++ ((if t then codes "\r\n" else (field_line (codes "content-length") (decimal (length body)) ++ codes "\r\n" ++ body)) ++ rest)) e
        ∙ none (field_lines headers) [] (empty refl)
        ∙ ap (λ f. (f ++ []) ++ 13 ∷ 10 ∷ (body ++ rest)) (written headers)
    lines true false e empty =
        ap (λ t. (field_lines headers ++ field_line (codes "connection") (codes "close")) ++ ((if t then codes "\r\n" else (field_line (codes "content-length") (decimal (length body)) ++ codes "\r\n" ++ body)) ++ rest)) e
        ∙ with_length (field_lines headers) (field_line (codes "connection") (codes "close")) (field_line (codes "content-length") (decimal (length body))) (codes "\r\n") body rest
        ∙ ap (λ f. (f ++ (field_line (codes "connection") (codes "close") ++ (field_line (codes "content-length") (decimal (length body)) ++ []))) ++ 13 ∷ 10 ∷ (body ++ rest)) (written headers)
    lines false false e empty =
        ap (λ t. (field_lines headers ++ []) ++ ((if t then codes "\r\n" else (field_line (codes "content-length") (decimal (length body)) ++ codes "\r\n" ++ body)) ++ rest)) e
        ∙ with_length (field_lines headers) [] (field_line (codes "content-length") (decimal (length body))) (codes "\r\n") body rest
        ∙ ap (λ f. (f ++ (field_line (codes "content-length") (decimal (length body)) ++ [])) ++ 13 ∷ 10 ∷ (body ++ rest)) (written headers)

-- ---- its section

line_other : (status : ℕ) → 100 ≤ status → status < 1000 → AllPass is_other (line_of status)
line_other status low few =
    let P = λ (b : ℕ). IsTrue (is_other b) in
    let V = λ (b : ℕ). IsTrue (is_value_byte b) in
    All-append P (codes "TTP/1.1 ") (decimal status ++ 32 ∷ phrase status) (AllPass-from_list_all is_other (codes "TTP/1.1 ") refl)
    (All-append P (decimal status) (32 ∷ phrase status) (All-weaker V P value_other (decimal status) (decimal_values status (omega (arith, few))))
    (All-cons P 32 (phrase status) refl (All-weaker V P value_other (phrase status) (phrase_passes status low few))))

head_section : (status : ℕ) (pairs : List (List ℕ × List ℕ)) (rest : List ℕ) → 100 ≤ status → status < 1000 → All IsPair pairs
    → length (print_response (head_with status pairs)) ≤ HEAD_BYTES → length pairs ≤ HEADER_FIELDS
    → section_from start (head_text status pairs rest) ≡ Ended (length (print_response (head_with status pairs)))
head_section status pairs rest low high ok few lines =
    let c = line_of status in
    let printed = print_response (head_with status pairs) in
    let size : length (72 ∷ c) + 2 + length (pair_lines pairs) + 2 ≡ length printed =
    omega (arith, ap length (head_printed status pairs []), length-append printed [], length-append c (13 ∷ 10 ∷ (pair_lines pairs ++ 13 ∷ 10 ∷ [])), length-append (pair_lines pairs) (13 ∷ 10 ∷ [])) in
    section_of_lines 72 c pairs rest refl refl (line_other status low high) ok (omega (arith, size, few)) lines ∙ ap Ended size

-- ---- what its fields say

three_or : (a b c : Bool) → (a || (b || (c || false))) ≡ false → (a ≡ false) × (b ≡ false) × (c ≡ false)
three_or false false false e = (refl, refl, refl)
three_or false false true e = cc e
three_or false true c e = cc e
three_or true b c e = cc e

-- the field is none by which a reader learns how a body ends or whether the link closes
abbrev IsPlain : List ℕ → Type 0
IsPlain name = (str_eq_ignore_ascii_case name (codes "connection") ≡ false) × (str_eq_ignore_ascii_case name (codes "content-length") ≡ false) × (str_eq_ignore_ascii_case name (codes "transfer-encoding") ≡ false)

plain_name : (name : List ℕ) → is_reserved name ≡ false → IsPlain name
plain_name name e =
    three_or (str_eq_ignore_ascii_case name (codes "connection")) (str_eq_ignore_ascii_case name (codes "content-length")) (str_eq_ignore_ascii_case name (codes "transfer-encoding")) e

abbrev ArePlain : List Header → Type 0
ArePlain headers = All (λ h. is_reserved h.name ≡ false) headers

abbrev Pairs : Type 0
Pairs = List (List ℕ × List ℕ)

first_plain : (h : Header) (hs : List Header) → ArePlain (h ∷ hs) → IsPlain h.name
first_plain h hs ok = plain_name h.name (All-head (λ x. is_reserved x.name ≡ false) h hs ok)

rest_plain : (h : Header) (hs : List Header) → ArePlain (h ∷ hs) → ArePlain hs
rest_plain h hs ok = All-tail (λ x. is_reserved x.name ≡ false) h hs ok

counts_on : (t : Bool) (n : ℕ) → t ≡ false → cond t 1 0 + n ≡ n
counts_on false n e = omega arith
counts_on true n e = cc e

codings_of : (hs : List Header) (tail : Pairs) → ArePlain hs → count_named (codes "transfer-encoding") (fields_of (map pair_of hs ++ tail)) ≡ count_named (codes "transfer-encoding") (fields_of tail)
codings_of [] tail ok = refl
codings_of (h ∷ hs) tail ok =
    sum_by-cons (λ f. cond (is_named (codes "transfer-encoding") f) 1 0) (h.name, trim_ows (32 ∷ h.value)) (fields_of (map pair_of hs ++ tail))
    ∙ counts_on (str_eq_ignore_ascii_case h.name (codes "transfer-encoding")) (count_named (codes "transfer-encoding") (fields_of (map pair_of hs ++ tail))) (first_plain h hs ok).2
    ∙ codings_of hs tail (rest_plain h hs ok)

lengths_of : (hs : List Header) (tail : Pairs) → ArePlain hs → count_named (codes "content-length") (fields_of (map pair_of hs ++ tail)) ≡ count_named (codes "content-length") (fields_of tail)
lengths_of [] tail ok = refl
lengths_of (h ∷ hs) tail ok =
    sum_by-cons (λ f. cond (is_named (codes "content-length") f) 1 0) (h.name, trim_ows (32 ∷ h.value)) (fields_of (map pair_of hs ++ tail))
    ∙ counts_on (str_eq_ignore_ascii_case h.name (codes "content-length")) (count_named (codes "content-length") (fields_of (map pair_of hs ++ tail))) (first_plain h hs ok).1
    ∙ lengths_of hs tail (rest_plain h hs ok)

first_of : (hs : List Header) (tail : Pairs) → ArePlain hs → first_value (codes "content-length") (fields_of (map pair_of hs ++ tail)) ≡ first_value (codes "content-length") (fields_of tail)
first_of [] tail ok = refl
first_of (h ∷ hs) tail ok =
    ap (λ t. if t then Some (trim_ows (32 ∷ h.value)) else first_value (codes "content-length") (fields_of (map pair_of hs ++ tail))) (first_plain h hs ok).1
    ∙ first_of hs tail (rest_plain h hs ok)

agree_of : (first : List ℕ) (hs : List Header) (tail : Pairs) → ArePlain hs → lengths_are first (fields_of (map pair_of hs ++ tail)) ≡ lengths_are first (fields_of tail)
agree_of first [] tail ok = refl
agree_of first (h ∷ hs) tail ok =
    ap (λ t. not (t && not (is_number (trim_ows (32 ∷ h.value)) && is_same_number (trim_ows (32 ∷ h.value)) first)) && lengths_are first (fields_of (map pair_of hs ++ tail))) (first_plain h hs ok).1
    ∙ agree_of first hs tail (rest_plain h hs ok)

closes_of : (hs : List Header) (tail : Pairs) → ArePlain hs → closes (fields_of (map pair_of hs ++ tail)) ≡ closes (fields_of tail)
closes_of [] tail ok = refl
closes_of (h ∷ hs) tail ok =
    ap (λ t. (t && says_close (trim_ows (32 ∷ h.value))) || closes (fields_of (map pair_of hs ++ tail))) (first_plain h hs ok).0
    ∙ closes_of hs tail (rest_plain h hs ok)

-- ---- how it ends

abbrev last_pairs : Bool → Bool → List ℕ → Pairs
last_pairs close lengthless count = closed close ++ counted lengthless count

tail_codings : (close lengthless : Bool) (count : List ℕ) → count_named (codes "transfer-encoding") (fields_of (last_pairs close lengthless count)) ≡ 0
tail_codings true true count = refl
tail_codings true false count = refl
tail_codings false true count = refl
tail_codings false false count = refl

tail_lengths : (close : Bool) (count : List ℕ) → count_named (codes "content-length") (fields_of (last_pairs close false count)) ≡ 1
tail_lengths true count = refl
tail_lengths false count = refl

tail_first : (close : Bool) (count : List ℕ) → first_value (codes "content-length") (fields_of (last_pairs close false count)) ≡ Some (trim_ows (32 ∷ count))
tail_first true count = refl
tail_first false count = refl

agrees : (a : Bool) → a ≡ true → (not (not a) && true) ≡ true
agrees true e = refl
agrees false e = e

tail_agree : (close lengthless : Bool) (count : List ℕ) → says_length (trim_ows (32 ∷ count)) ≡ true
    → lengths_are (length_field (fields_of (last_pairs close lengthless count))) (fields_of (last_pairs close lengthless count)) ≡ true
tail_agree true true count e = refl
tail_agree true false count e = agrees (says_length (trim_ows (32 ∷ count))) e
tail_agree false true count e = refl
tail_agree false false count e = agrees (says_length (trim_ows (32 ∷ count))) e

tail_closes : (close lengthless : Bool) (count : List ℕ) → closes (fields_of (last_pairs close lengthless count)) ≡ close
unfolding trim_ows
tail_closes true true count = refl
tail_closes true false count = refl
tail_closes false true count = refl
tail_closes false false count = refl

framed : (hs : List Header) (close lengthless : Bool) (count : List ℕ) → ArePlain hs → says_length (trim_ows (32 ∷ count)) ≡ true
    → is_framed (fields_of (pairs_of hs close lengthless count)) ≡ true
framed hs close lengthless count plain e =
    let tail = last_pairs close lengthless count in
    let fields = fields_of (map pair_of hs ++ tail) in
    ap (λ f. lengths_are (unwrap_or f []) fields && ((count_named (codes "transfer-encoding") fields == 0) || is_chunked_alone fields)) (first_of hs tail plain)
    ∙ ap (λ t. t && ((count_named (codes "transfer-encoding") fields == 0) || is_chunked_alone fields))
    (agree_of (length_field (fields_of tail)) hs tail plain ∙ tail_agree close lengthless count e)
    ∙ ap (λ n. (n == 0) || is_chunked_alone fields) (codings_of hs tail plain ∙ tail_codings close lengthless count)

-- a response with a length is framed by it
framed_by : (status : ℕ) (hs : List Header) (close : Bool) (count : List ℕ) → ArePlain hs → is_bodiless status ≡ false
    → response_framing status (fields_of (pairs_of hs close false count)) ≡ framings.Length (number_of (trim_ows (32 ∷ count)))
framed_by status hs close count plain bodied =
    let tail = last_pairs close false count in
    let fields = fields_of (map pair_of hs ++ tail) in
    ap (λ t. if t then framings.Length 0 else (if nat_lt 0 (count_named (codes "transfer-encoding") fields) then framings.Chunks
    else (if nat_lt 0 (count_named (codes "content-length") fields) then framings.Length (length_in fields) else framings.End))) bodied
    ∙ ap (λ n. if nat_lt 0 n then framings.Chunks else (if nat_lt 0 (count_named (codes "content-length") fields) then framings.Length (length_in fields) else framings.End))
    (codings_of hs tail plain ∙ tail_codings close false count)
    ∙ ap (λ n. if nat_lt 0 n then framings.Length (length_in fields) else framings.End) (lengths_of hs tail plain ∙ tail_lengths close count)
    ∙ ap (λ f. framings.Length (number_of (unwrap_or f []))) (first_of hs tail plain ∙ tail_first close count)

framed_by_status : (status : ℕ) (fields : Pairs) → is_bodiless status ≡ true → response_framing status fields ≡ framings.Length 0
framed_by_status status fields bodiless =
    ap (λ t. if t then framings.Length 0 else (if nat_lt 0 (count_named (codes "transfer-encoding") fields) then framings.Chunks
    else (if nat_lt 0 (count_named (codes "content-length") fields) then framings.Length (length_in fields) else framings.End))) bodiless

lengthless_bodiless : (status : ℕ) → (status == 204) ≡ true → is_bodiless status ≡ true
lengthless_bodiless status e = ap (λ t. (t || (status == 304)) || is_informational status) e

-- however it is said, it ends after as many bytes as its body has
ends_after : (status : ℕ) (hs : List Header) (close lengthless : Bool) (body : List ℕ) → ArePlain hs → (status == 204) ≡ lengthless → (is_bodiless status ≡ true → body ≡ [])
    → length body ≤ RESPONSE_BODY_BYTES → response_framing status (fields_of (pairs_of hs close lengthless (decimal (length body)))) ≡ framings.Length (length body)
ends_after status hs close lengthless body plain e empty few = by_status lengthless e (is_bodiless status) refl
  where
    number : number_of (trim_ows (32 ∷ decimal (length body))) ≡ length body
    number =
        let greatest : RESPONSE_BODY_BYTES ≡ 524288 = refl in
        ap number_of (decimal_trimmed (length body) (omega (arith, few, greatest))) ∙ decimal_read (length body) few

    by_status : (l : Bool) → (status == 204) ≡ l → (b : Bool) → is_bodiless status ≡ b
        → response_framing status (fields_of (pairs_of hs close l (decimal (length body)))) ≡ framings.Length (length body)
    by_status l is true bodiless =
        framed_by_status status (fields_of (pairs_of hs close l (decimal (length body)))) bodiless ∙ ap (λ x. framings.Length (length x)) (sym (empty bodiless))
    by_status true is false bodied = cc (sym (lengthless_bodiless status is) ∙ bodied)
    by_status false is false bodied = framed_by status hs close (decimal (length body)) plain bodied ∙ ap framings.Length number

-- ---- the whole

decided : (status : ℕ) (pairs : Pairs) (tail : List ℕ) (outcome : Outcome Response) → IsResponseHead (head_with status pairs)
    → section_from start (head_text status pairs tail) ≡ Ended (length (print_response (head_with status pairs)))
    → length (map field_of pairs) ≤ HEADER_FIELDS → outcome ≡ after_section responses (Some (head_with status pairs)) tail → DecidesResponse (head_text status pairs tail) outcome
decided status pairs tail outcome valid section few is =
    let head = head_with status pairs in
    let printed = print_response head in
    let text = head_printed status pairs tail in
    let front : take (length printed) (head_text status pairs tail) ≡ printed ++ [] =
    ap (take (length printed)) (sym text) ∙ take-append_seam printed tail ∙ sym (append-nil printed) in
    let after : drop (length printed) (head_text status pairs tail) ≡ tail = ap (drop (length printed)) (sym text) ∙ drop-append_seam printed tail in
    subst (λ s. DecidesBy FindsResponse responses (head_text status pairs tail) outcome s) (sym section)
    (Some head, (([], (valid, front)), few), is ∙ ap (after_section responses (Some head)) (sym after))

header_pairs : (hs : List Header) → All IsReadableHeader hs → All IsPair (map pair_of hs)
header_pairs [] ok = All-nil IsPair
header_pairs (h ∷ hs) ok =
    let first = All-head IsReadableHeader h hs ok in
    All-cons IsPair (pair_of h) (map pair_of hs) (first.name, first.value) (header_pairs hs (All-tail IsReadableHeader h hs ok))

last_valid : (close lengthless : Bool) (count : List ℕ) → AllPass is_value_byte count → All IsPair (last_pairs close lengthless count)
unfolding is_token_byte
last_valid close lengthless count ok = All-append IsPair (closed close) (counted lengthless count) (by_close close) (by_length lengthless)
  where
    token : (name : List ℕ) → is_token name ≡ true → IsToken name
    token name e = token_from (nat_lt 0 (length name)) (list_all is_token_byte name) name refl refl e

    by_close : (c : Bool) → All IsPair (closed c)
    by_close true = All-cons IsPair (codes "connection", codes "close") [] (token (codes "connection") refl, AllPass-from_list_all is_value_byte (codes "close") refl) (All-nil IsPair)
    by_close false = All-nil IsPair

    by_length : (l : Bool) → All IsPair (counted l count)
    by_length true = All-nil IsPair
    by_length false = All-cons IsPair (codes "content-length", count) [] (token (codes "content-length") refl, ok) (All-nil IsPair)

last_few : (close lengthless : Bool) (count : List ℕ) → length (last_pairs close lengthless count) ≡ (if close then 1 else 0) + (if lengthless then 0 else 1)
last_few true true count = refl
last_few true false count = refl
last_few false true count = refl
last_few false false count = refl

spelled : (response : Response) (lengthless : Bool) (rest : List ℕ) → (response.status == 204) ≡ lengthless → (is_bodiless response.status ≡ true → response.body ≡ [])
    → response_spelling response ++ rest ≡ head_text response.status (pairs_of response.headers response.close lengthless (decimal (length response.body))) (response.body ++ rest)
unfolding response_spelling
spelled response lengthless rest e empty =
    by_parts response.status response.headers response.close lengthless response.body rest e (λ l. empty (lengthless_bodiless response.status (e ∙ l)))
    ∙ ap (λ l. written_text response.status l (response.body ++ rest)) (lines_are (pairs_of response.headers response.close lengthless (decimal (length response.body))))

status_is : (status : ℕ) (pairs : Pairs) → status < 1000 → status_code (head_with status pairs) ≡ status
status_is status pairs few = (decimal_is_IsNumeral status (omega (arith, few))).1

message_is : (response : Response) (lengthless : Bool) (count : List ℕ) → response.status < 1000 → ArePlain response.headers
    → response_of (head_with response.status (pairs_of response.headers response.close lengthless count)) response.body ≡ response_read response
message_is response lengthless count few plain =
    let pairs = pairs_of response.headers response.close lengthless count in
    ap (λ s. record { status = s; headers = []; close = closes (fields_of pairs); body = response.body }) (status_is response.status pairs few)
    ∙ ap (λ c. record { status = response.status; headers = []; close = c; body = response.body })
    (closes_of response.headers (last_pairs response.close lengthless count) plain ∙ tail_closes response.close lengthless count)

after_it : (response : Response) (lengthless : Bool) (rest : List ℕ) → (response.status == 204) ≡ lengthless → IsReadableResponse response → ArePlain response.headers
    → Whole (response_read response) rest
    ≡ after_section responses (Some (head_with response.status (pairs_of response.headers response.close lengthless (decimal (length response.body))))) (response.body ++ rest)
after_it response lengthless rest e ok plain =
    let n = length response.body in
    let greatest : RESPONSE_BODY_BYTES ≡ 524288 = refl in
    let small : n < 2 ^ 64 = omega (arith, ok.body, greatest) in
    let count = decimal n in
    let pairs = pairs_of response.headers response.close lengthless count in
    let fields = fields_of pairs in
    let head = head_with response.status pairs in
    let says : says_length (trim_ows (32 ∷ count)) ≡ true =
    ap says_length (decimal_trimmed n small) ∙ ap (λ t. t && is_same_number count count) (decimal_number n small) ∙ same_number count in
    let status = status_is response.status pairs ok.status.1 in
    let framing : response_framing response.status fields ≡ framings.Length n = ends_after response.status response.headers response.close lengthless response.body plain e ok.bodiless ok.body in
    let fault : response_fault response.status fields ≡ None =
    ap (λ t. framing_fault t RESPONSE_BODY_BYTES (response_framing response.status fields)) (framed response.headers response.close lengthless count plain says)
    ∙ ap (framing_fault true RESPONSE_BODY_BYTES) framing
    ∙ ap (λ t. first_failing (check faults.Length true ∷ check faults.BodyLong t ∷ [])) (le-leb n RESPONSE_BODY_BYTES ok.body) in
    sym (
    ap (λ s. after_head (response_fault s fields) RESPONSE_BODY_BYTES (response_framing s fields) (response_of head) (response.body ++ rest)) status
    ∙ ap (λ f. after_head f RESPONSE_BODY_BYTES (response_framing response.status fields) (response_of head) (response.body ++ rest)) fault
    ∙ ap (λ f. as_body (response_of head) (body_of RESPONSE_BODY_BYTES f (response.body ++ rest))) framing
    ∙ ap (as_body (response_of head)) (body_taken RESPONSE_BODY_BYTES n response.body rest refl)
    ∙ ap (λ m. Whole m rest) (message_is response lengthless count ok.status.1 plain)
    )

-- a response that is written is read back
pub response_read_back : (response : Response) (rest : List ℕ) → IsReadableResponse response → DecidesResponse (response_spelling response ++ rest) (Whole (response_read response) rest)
response_read_back response rest ok =
    let lengthless = response.status == 204 in
    let n = length response.body in
    let greatest : RESPONSE_BODY_BYTES ≡ 524288 = refl in
    let count = decimal n in
    let tail = last_pairs response.close lengthless count in
    let pairs = pairs_of response.headers response.close lengthless count in
    let head = head_with response.status pairs in
    let printed = print_response head in
    let plain : ArePlain response.headers = All-weaker IsReadableHeader (λ h. is_reserved h.name ≡ false) (λ h r. r.plain) response.headers ok.headers in
    let valid : All IsPair pairs =
    All-append IsPair (map pair_of response.headers) tail (header_pairs response.headers ok.headers)
    (last_valid response.close lengthless count (decimal_values n (omega (arith, ok.body, greatest)))) in
    let lines : length pairs ≤ HEADER_FIELDS =
    omega (arith, length-append (map pair_of response.headers) tail, length-map response.headers pair_of, last_few response.close lengthless count, ok.few) in
    let whole : response_spelling response ++ [] ≡ printed ++ (response.body ++ []) =
    spelled response lengthless [] refl ok.bodiless ∙ sym (head_printed response.status pairs (response.body ++ [])) in
    let within : length printed ≤ HEAD_BYTES = omega (arith, ap length whole, length-append (response_spelling response) [], length-append printed (response.body ++ []), length-append response.body [], ok.head) in
    let numeral = decimal_is_IsNumeral response.status (omega (arith, ok.status.1)) in
    let head_ok : IsResponseHead head = record {
      minor = omega arith;
      digits = (three_digits response.status ok.status.0 ok.status.1, AllPass-from_list_all is_ascii_digit (decimal response.status) (digits_are_digits (decimal response.status) numeral.0.1));
      reason = phrase_passes response.status ok.status.0 ok.status.1;
      fields = fields_valid pairs valid;
    } in
    subst (λ bytes. DecidesResponse bytes (Whole (response_read response) rest)) (sym (spelled response lengthless rest refl ok.bodiless))
    (decided response.status pairs (response.body ++ rest) (Whole (response_read response) rest) head_ok
    (head_section response.status pairs (response.body ++ rest) ok.status.0 ok.status.1 valid within lines)
    (omega (arith, length-map pairs field_of, lines)) (after_it response lengthless rest refl ok plain))
