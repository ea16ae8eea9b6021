-- Sizes of texts, of numbers and of payloads.
use Rattle.std.proofs.Common.{◌≡◌, ◌∙◌, ap, sym, ℕ, suc, zero, ◌+◌, ◌*◌, ◌^◌, ◌/◌, ◌%◌, ◌<◌, ◌≤◌, max, List, [], ◌∷◌, ◌++◌, length, map, Bool, true, false, Option, None, Some, if◌then◌else◌, codes, refl, arith, length-append}
use Rattle.std.specs.Prelude.{All}
use Rattle.std.specs.Fmt.{decimal}
use Rattle.std.proofs.lemmas.Fmt.{decimal_by_steps, decimal_digit, decimal_nonempty, decimal_step}
use Rattle.std.proofs.lemmas.Grind.{flat_map-append}
use Rattle.std.proofs.lemmas.List.Elements.{All-head, All-tail}
use Rattle.uuid.specs.Text.{hyphenated_text, lower}
use Rattle.json.specs.Print.{escape, escape_byte, quoted}
use Rattle.serde_json.specs.Data as tree
use Rattle.serde_json.specs.Data.{Data, Members, array, object, string, member, no_members}
use Rattle.serde_json.specs.View.{items_of}
use Rattle.serde_json.specs.Written.{comma_if, compact_text, items_text, members_text}
use Rattle.sig_json.specs.Canon.{without_fraction}
use Rattle.sig_json.specs.declared.limits.TheConstants.{LAST_NUMBER}
use Rattle.sig_subject.specs.Written.{subject_data}
use Rattle.sig_set.specs.Written.{audience_data, payload_text_of, put_events}
use Rattle.sig_event.specs.declared.news.News.{News}
use Rattle.sig_terms.specs.declared.configuration.StreamConf.{StreamConf}
use Rattle.sig_terms.specs.declared.fact.Fact.{Fact}
use Rattle.sig_history.specs.Facts.{is_told, said_by, time_of, token_by, token_for}
use Rattle.sig_history.specs.Sound.{largest}
use Rattle.sig_history.specs.Streams.{Made, Stream, claims_for, jti_of}
use Rattle.sig_accounts.specs.Owings.{Balance}
use Rattle.sig_token_calls.specs.Sizes.{audience_bytes, escaped_bytes, most_on, own_bytes, shared_bytes, size_on, texts_bytes}
use Rattle.sig_token_calls.specs.Tokens.{IsNumbered, stream_of, tokens_on}

-- ---- texts and numbers

-- a text's size in quotes
quoted_bytes : (s : List ℕ) → length (quoted s) ≡ escaped_bytes s + 2
quoted_bytes s = let e : length (escape s ++ 34 ∷ []) ≡ length (escape s) + 1 = length-append (escape s) (34 ∷ []) in omega (arith, e)

-- the digits of a number between two powers of ten
pub digits_bytes : (k n : ℕ) → 10 ^ k ≤ n → n < 10 * 10 ^ k → n < 2 ^ 64 → length (decimal n) ≡ k + 1
digits_bytes zero n low high small = ap length (decimal_digit n (omega arith))
digits_bytes (suc k) n low high small =
    let above : 10 ≤ n = omega arith in
    let step : length (decimal (n / 10) ++ (48 + n % 10) ∷ []) ≡ length (decimal (n / 10)) + 1 = length-append (decimal (n / 10)) ((48 + n % 10) ∷ []) in
    let before : length (decimal (n / 10)) ≡ k + 1 = digits_bytes k (n / 10) (omega arith) (omega arith) (omega arith) in
    ap length (decimal_step n above small) ∙ omega (arith, step, before)

-- digits need no escape
plain_digit : (d : ℕ) → d < 10 → length (escape_byte (48 + d)) ≡ 1
unfolding escape_byte
plain_digit d small = grind arith

-- texts one after another
pub escaped_append : (s t : List ℕ) → escaped_bytes (s ++ t) ≡ escaped_bytes s + escaped_bytes t
escaped_append s t = ap length (flat_map-append escape_byte s t) ∙ length-append (escape s) (escape t)

pub escaped_decimal : (n : ℕ) → n < 2 ^ 64 → escaped_bytes (decimal n) ≡ length (decimal n)
escaped_decimal n small = decimal_by_steps (λ _ ds. escaped_bytes ds ≡ length ds) one more n small
  where
    one : (n : ℕ) → n < 10 → escaped_bytes ((48 + n) ∷ []) ≡ 1
    one n low = length-append (escape_byte (48 + n)) [] ∙ ap (λ k. k + 0) (plain_digit n low)

    more : (n : ℕ) (ds : List ℕ) → 10 ≤ n → escaped_bytes ds ≡ length ds → escaped_bytes (ds ++ (48 + n % 10) ∷ []) ≡ length (ds ++ (48 + n % 10) ∷ [])
    more n ds above before =
        escaped_append ds ((48 + n % 10) ∷ [])
        ∙ (let last : escaped_bytes ((48 + n % 10) ∷ []) ≡ 1 = one (n % 10) (omega arith) in omega (arith, before, last))
        ∙ sym (length-append ds ((48 + n % 10) ∷ []))

-- ---- audiences

-- texts after the first, and the bracket
items_bytes : (texts : List (List ℕ)) → length (items_text true (items_of (map string texts))) ≡ texts_bytes texts
items_bytes [] = refl
items_bytes (t ∷ ts) =
    let quotes : length (quoted t) ≡ escaped_bytes t + 2 = quoted_bytes t in
    let rest : length (items_text true (items_of (map string ts))) ≡ texts_bytes ts = items_bytes ts in
    let joined : length (quoted t ++ items_text true (items_of (map string ts))) ≡ length (quoted t) + length (items_text true (items_of (map string ts))) = length-append (quoted t) (items_text true (items_of (map string ts))) in
    omega (arith, quotes, rest, joined)

-- several texts are a list
pub audience_list : (aud : List (List ℕ)) → 2 ≤ length aud → texts_bytes aud ≡ audience_bytes aud
audience_list [] many = omega arith
audience_list (t ∷ []) many = omega arith
audience_list (t ∷ u ∷ us) many =
    let quotes : length (quoted t) ≡ escaped_bytes t + 2 = quoted_bytes t in
    let rest : length (items_text true (items_of (map string (u ∷ us)))) ≡ texts_bytes (u ∷ us) = items_bytes (u ∷ us) in
    let joined : length (quoted t ++ items_text true (items_of (map string (u ∷ us)))) ≡ length (quoted t) + length (items_text true (items_of (map string (u ∷ us)))) = length-append (quoted t) (items_text true (items_of (map string (u ∷ us)))) in
    omega (arith, quotes, rest, joined)

pub audience_one : (t : List ℕ) → escaped_bytes t + 2 ≡ audience_bytes (t ∷ [])
audience_one t = sym (quoted_bytes t)

audience_least : (aud : List (List ℕ)) → 2 ≤ audience_bytes aud
audience_least [] = omega arith
audience_least (t ∷ []) = let one : escaped_bytes t + 2 ≡ audience_bytes (t ∷ []) = audience_one t in omega (arith, one)
audience_least (t ∷ u ∷ us) = let list : texts_bytes (t ∷ u ∷ us) ≡ audience_bytes (t ∷ u ∷ us) = audience_list (t ∷ u ∷ us) (omega arith) in omega (arith, list)

-- what a stream adds is no less than what stands in its place
pub own_least : (aud : List (List ℕ)) (texts number : ℕ) → number < 2 ^ 64 → 3 ≤ audience_bytes aud + texts + length (decimal number)
own_least aud texts number small =
    let list : 2 ≤ audience_bytes aud = audience_least aud in
    let digits : 0 < length (decimal number) = decimal_nonempty number small in
    omega (arith, list, digits)

-- ---- payloads

-- a member's size: its name and its value, with a colon between
member_bytes : (later : Bool) (k : List ℕ) (d : Data) (ms : Members)
    → length (members_text later (member k d ms)) ≡ length (comma_if later) + length (quoted k) + 1 + length (compact_text d) + length (members_text true ms)
member_bytes later k d ms =
    let a : length (comma_if later ++ (quoted k ++ 58 ∷ (compact_text d ++ members_text true ms))) ≡ length (comma_if later) + length (quoted k ++ 58 ∷ (compact_text d ++ members_text true ms)) = length-append (comma_if later) (quoted k ++ 58 ∷ (compact_text d ++ members_text true ms)) in
    let b : length (quoted k ++ 58 ∷ (compact_text d ++ members_text true ms)) ≡ length (quoted k) + length (58 ∷ (compact_text d ++ members_text true ms)) = length-append (quoted k) (58 ∷ (compact_text d ++ members_text true ms)) in
    let c : length (compact_text d ++ members_text true ms) ≡ length (compact_text d) + length (members_text true ms) = length-append (compact_text d) (members_text true ms) in
    omega (arith, a, b, c)

-- one member of two objects that goes on alike
member_grows : (later : Bool) (k : List ℕ) (d e : Data) (ms ns : Members)
    → length (members_text later (member k d ms)) + length (compact_text e) + length (members_text true ns)
    ≡ length (members_text later (member k e ns)) + length (compact_text d) + length (members_text true ms)
member_grows later k d e ms ns =
    let one : length (members_text later (member k d ms)) ≡ length (comma_if later) + length (quoted k) + 1 + length (compact_text d) + length (members_text true ms) = member_bytes later k d ms in
    let two : length (members_text later (member k e ns)) ≡ length (comma_if later) + length (quoted k) + 1 + length (compact_text e) + length (members_text true ns) = member_bytes later k e ns in
    omega (arith, one, two)

-- an object with the members of a payload
abbrev six : Data → Data → Data → List ℕ → List ℕ → Data → Data
six aud events iat iss jti subject = object
    (member (codes "aud") aud
    (member (codes "events") events
    (member (codes "iat") iat
    (member (codes "iss") (string iss)
    (member (codes "jti") (string jti)
    (member (codes "sub_id") subject no_members))))))

-- a payload's size, from that of one with another audience, issuer and identifier
six_bytes : (a b events iat subject : Data) (i j k : List ℕ)
    → length (compact_text (six a events iat i j subject)) + length (compact_text b) + escaped_bytes k
    ≡ length (compact_text (six b events iat [] k subject)) + length (compact_text a) + escaped_bytes i + escaped_bytes j
six_bytes a b events iat subject i j k =
    let last : Members = member (codes "sub_id") subject no_members in
    let jti : List ℕ → Members = λ t. member (codes "jti") (string t) last in
    let iss : List ℕ → List ℕ → Members = λ s t. member (codes "iss") (string s) (jti t) in
    let time : List ℕ → List ℕ → Members = λ s t. member (codes "iat") iat (iss s t) in
    let said : List ℕ → List ℕ → Members = λ s t. member (codes "events") events (time s t) in
    let at_jti : length (members_text true (jti j)) + length (quoted k) + length (members_text true last) ≡ length (members_text true (jti k)) + length (quoted j) + length (members_text true last) = member_grows true (codes "jti") (string j) (string k) last last in
    let at_iss : length (members_text true (iss i j)) + length (quoted []) + length (members_text true (jti k)) ≡ length (members_text true (iss [] k)) + length (quoted i) + length (members_text true (jti j)) = member_grows true (codes "iss") (string i) (string []) (jti j) (jti k) in
    let at_time : length (members_text true (time i j)) + length (compact_text iat) + length (members_text true (iss [] k)) ≡ length (members_text true (time [] k)) + length (compact_text iat) + length (members_text true (iss i j)) = member_grows true (codes "iat") iat iat (iss i j) (iss [] k) in
    let at_events : length (members_text true (said i j)) + length (compact_text events) + length (members_text true (time [] k)) ≡ length (members_text true (said [] k)) + length (compact_text events) + length (members_text true (time i j)) = member_grows true (codes "events") events events (time i j) (time [] k) in
    let at_aud : length (members_text false (member (codes "aud") a (said i j))) + length (compact_text b) + length (members_text true (said [] k)) ≡ length (members_text false (member (codes "aud") b (said [] k))) + length (compact_text a) + length (members_text true (said i j)) = member_grows false (codes "aud") a b (said i j) (said [] k) in
    let qi : length (quoted i) ≡ escaped_bytes i + 2 = quoted_bytes i in
    let qj : length (quoted j) ≡ escaped_bytes j + 2 = quoted_bytes j in
    let qk : length (quoted k) ≡ escaped_bytes k + 2 = quoted_bytes k in
    omega (arith, at_jti, at_iss, at_time, at_events, at_aud, qi, qj, qk)

-- an identifier's size: the store and two dots, the stream's name and the number
jti_bytes : (sid stream : List ℕ) (n : ℕ) → n < 2 ^ 64
    → escaped_bytes (jti_of sid stream n)
    ≡ escaped_bytes (hyphenated_text lower sid) + escaped_bytes (codes ".") + escaped_bytes stream + escaped_bytes (codes ".") + length (decimal n)
jti_bytes sid stream n small =
    let store : List ℕ = hyphenated_text lower sid in
    let a : escaped_bytes (jti_of sid stream n) ≡ escaped_bytes (store ++ codes "." ++ stream ++ codes ".") + escaped_bytes (decimal n) = escaped_append (store ++ codes "." ++ stream ++ codes ".") (decimal n) in
    let b : escaped_bytes (store ++ codes "." ++ stream ++ codes ".") ≡ escaped_bytes (store ++ codes "." ++ stream) + escaped_bytes (codes ".") = escaped_append (store ++ codes "." ++ stream) (codes ".") in
    let c : escaped_bytes (store ++ codes "." ++ stream) ≡ escaped_bytes (store ++ codes ".") + escaped_bytes stream = escaped_append (store ++ codes ".") stream in
    let d : escaped_bytes (store ++ codes ".") ≡ escaped_bytes store + escaped_bytes (codes ".") = escaped_append store (codes ".") in
    let e : escaped_bytes (decimal n) ≡ length (decimal n) = escaped_decimal n small in
    omega (arith, a, b, c, d, e)

-- of a token: what all tokens of the fact say alike, and what its stream adds
payload_bytes : (sid : List ℕ) (conf : StreamConf) (k time : ℕ) (n : News) → k < 2 ^ 64
    → length (payload_text_of (claims_for sid conf k time n)) ≡ shared_bytes sid time n + own_bytes conf k
payload_bytes sid conf k time n small =
    let whole : length (payload_text_of (claims_for sid conf k time n)) + 2 + escaped_bytes (jti_of sid [] 0) ≡ shared_bytes sid time n + audience_bytes conf.aud + escaped_bytes conf.iss + escaped_bytes (jti_of sid conf.stream k) = six_bytes (audience_data conf.aud) (audience_data []) (object (put_events (n.event ∷ []) no_members)) (tree.number (tree.unsigned time)) (without_fraction (subject_data n.subject)) conf.iss (jti_of sid conf.stream k) (jti_of sid [] 0) in
    let none : escaped_bytes (jti_of sid [] 0) ≡ escaped_bytes (hyphenated_text lower sid) + escaped_bytes (codes ".") + 0 + escaped_bytes (codes ".") + length (decimal 0) = jti_bytes sid [] 0 (omega arith) in
    let zero_digit : length (decimal 0) ≡ 1 = ap length (decimal_digit 0 (omega arith)) in
    let own : escaped_bytes (jti_of sid conf.stream k) ≡ escaped_bytes (hyphenated_text lower sid) + escaped_bytes (codes ".") + escaped_bytes conf.stream + escaped_bytes (codes ".") + length (decimal k) = jti_bytes sid conf.stream k small in
    let least : 3 ≤ audience_bytes conf.aud + (escaped_bytes conf.iss + escaped_bytes conf.stream) + length (decimal k) = own_least conf.aud (escaped_bytes conf.iss + escaped_bytes conf.stream) k small in
    omega (arith, whole, none, zero_digit, own, least)

-- ---- the largest of several

largest_join : (xs ys : List Made) → largest (xs ++ ys) ≡ max (largest xs) (largest ys)
largest_join [] ys = omega arith
largest_join (x ∷ xs) ys = let rest : largest (xs ++ ys) ≡ max (largest xs) (largest ys) = largest_join xs ys in omega arith

-- the payload that a stream's token has
one_size : (sid : List ℕ) (f : Fact) (n : News) (shared : ℕ) (s : Stream) → said_by f ≡ Some n → shared ≡ shared_bytes sid (time_of f) n → s.made ≤ LAST_NUMBER
    → size_on shared f s ≡ largest (token_for sid f s)
one_size sid f n shared s says is low = by_told (is_told f s)
  where
    size : length (payload_text_of (claims_for sid s.conf (s.made + 1) (time_of f) n)) ≡ shared_bytes sid (time_of f) n + own_bytes s.conf (s.made + 1)
    size = payload_bytes sid s.conf (s.made + 1) (time_of f) n (omega arith)

    by_told : (told : Bool) → (if told then shared + own_bytes s.conf (s.made + 1) else 0) ≡ largest (token_by sid (time_of f) s (if told then said_by f else None))
    by_told true =
        ap (λ k. k + own_bytes s.conf (s.made + 1)) is ∙ sym size
        ∙ (let alone : max (length (payload_text_of (claims_for sid s.conf (s.made + 1) (time_of f) n))) 0 ≡ length (payload_text_of (claims_for sid s.conf (s.made + 1) (time_of f) n)) = omega arith in sym alone)
        ∙ ap (λ (o : Option News). largest (token_by sid (time_of f) s o)) (sym says)
    by_told false = refl

-- the largest of these is that of the tokens that tell news on the streams
pub most_is : (sid : List ℕ) (f : Fact) (n : News) (shared : ℕ) (bs : List Balance) → said_by f ≡ Some n → shared ≡ shared_bytes sid (time_of f) n → All IsNumbered bs
    → most_on shared f (map stream_of bs) ≡ largest (tokens_on sid f (map stream_of bs))
most_is sid f n shared [] says is low = refl
most_is sid f n shared (b ∷ bs) says is low =
    let one : size_on shared f b.owing.stream ≡ largest (token_for sid f b.owing.stream) = one_size sid f n shared b.owing.stream says is (All-head IsNumbered b bs low) in
    let rest : most_on shared f (map stream_of bs) ≡ largest (tokens_on sid f (map stream_of bs)) = most_is sid f n shared bs says is (All-tail IsNumbered b bs low) in
    ap (λ k. max k (most_on shared f (map stream_of bs))) one
    ∙ ap (max (largest (token_for sid f b.owing.stream))) rest
    ∙ sym (largest_join (token_for sid f b.owing.stream) (tokens_on sid f (map stream_of bs)))
