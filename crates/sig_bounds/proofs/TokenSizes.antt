-- The strings among the tokens of a text are no larger than the text.
use Rattle.std.proofs.Common.{◌≡◌, ◌∙◌, ℕ, ◌+◌, ◌-◌, ◌≤◌, Bool, true, false, cond, ◌&&◌, ◌==◌, nat_lt, nat_eq, List, [], ◌∷◌, ◌++◌, length, take, drop, Option, Some, None, option_and_then, refl, sym, ap, arith, length-append}
use Rattle.std.specs.Prelude.{⊤}
use Rattle.std.specs.Char.{is_digit, encode_utf8}
use Rattle.std.specs.List.{starts_with}
use Rattle.std.proofs.lemmas.Bool.{false≢true, eqb-true, and_parts}
use Rattle.json.specs.Ascii as ascii
use Rattle.json.specs.Lex.{Lexeme, token, comma, colon, Class, quote, backslash, operator, space, other, class, operator_lexeme, string_token, Mode, between, in_word, in_string, in_escape, lex_byte, lex, Place, fresh, after_value, after_comma, after_key, begins_colon, may_begin, may_close, if_allowed, place_token, punctuate, tokens}
use Rattle.json.specs.Text.{code_unit, short_escape, is_high_surrogate, is_low_surrogate, surrogate_pair, Within, plain, after_backslash, after_u, after_high, prepend, content}
use Rattle.json.specs.Token.{Token}
use Rattle.json.specs.Word.{head, ends_word, word, number_before, after_number, is_operator, is_space}

-- ---- sizes

abbrev pub token_size : Token → ℕ
token_size Token.begin_object = 0
token_size Token.end_object = 0
token_size Token.begin_array = 0
token_size Token.end_array = 0
token_size (Token.key s) = 0
token_size (Token.string s) = length s + 1
token_size (Token.number s) = 0
token_size (Token.boolean b) = 0
token_size Token.null = 0
token_size Token.bad = 0

abbrev pub tokens_size : List Token → ℕ
tokens_size [] = 0
tokens_size (t ∷ ts) = token_size t + tokens_size ts

abbrev lexeme_size : Lexeme → ℕ
lexeme_size (token t) = token_size t
lexeme_size comma = 0
lexeme_size colon = 0

abbrev lexemes_size : List Lexeme → ℕ
lexemes_size [] = 0
lexemes_size (l ∷ ls) = lexeme_size l + lexemes_size ls

-- ---- words and operators have no string

word_none : (t : List ℕ) → token_size (word t) ≡ 0
unfolding word
word_none t = four (head t == ascii.lower_t) (head t == ascii.lower_f) (head t == ascii.lower_n) _ _ _ _
    (or_bad (starts_with nat_eq t ascii.true_text && ends_word (drop 4 t)) (Token.boolean true) refl)
    (or_bad (starts_with nat_eq t ascii.false_text && ends_word (drop 5 t)) (Token.boolean false) refl)
    (or_bad (starts_with nat_eq t ascii.null_text && ends_word (drop 4 t)) Token.null refl)
    (numbered t (after_number t))
  where
    or_bad : (b : Bool) (t : Token) → token_size t ≡ 0 → token_size (cond b t Token.bad) ≡ 0
    or_bad true t h = h
    or_bad false t h = refl

    four : (a b c : Bool) (x y z w : Token) → token_size x ≡ 0 → token_size y ≡ 0 → token_size z ≡ 0 → token_size w ≡ 0
        → token_size (cond a x (cond b y (cond c z w))) ≡ 0
    four true b c x y z w h i j k = h
    four false true c x y z w h i j k = i
    four false false true x y z w h i j k = j
    four false false false x y z w h i j k = k

    numbered : (t : List ℕ) (o : Option (List ℕ)) → token_size (number_before t o) ≡ 0
    numbered t None = refl
    numbered t (Some rest) = or_bad (ends_word rest) (Token.number (take (length t - length rest) t)) refl

operator_none : (x : ℕ) → lexeme_size (operator_lexeme x) ≡ 0
operator_none x = by (x == ascii.open_brace) (x == ascii.close_brace) (x == ascii.open_bracket) (x == ascii.close_bracket) (x == ascii.comma)
  where
    by : (a b c d e : Bool)
        → lexeme_size (cond a (token Token.begin_object) (cond b (token Token.end_object) (cond c (token Token.begin_array) (cond d (token Token.end_array) (cond e comma colon)))))
        ≡ 0
    by true b c d e = refl
    by false true c d e = refl
    by false false true d e = refl
    by false false false true e = refl
    by false false false false true = refl
    by false false false false false = refl

-- ---- what the lexer finds behind a byte of a string

abbrev found : Mode → List ℕ → ℕ
found m xs = lexemes_size (lex m xs)

found_quote : (x : ℕ) (xs : List ℕ) → (x == 34) ≡ true → found in_string (x ∷ xs) ≡ found between xs
unfolding lex
found_quote x xs q = ap (λ y. found in_string (y ∷ xs)) (eqb-true x 34 q)

found_backslash : (x : ℕ) (xs : List ℕ) → (x == 92) ≡ true → found in_string (x ∷ xs) ≡ found in_escape xs
unfolding lex
found_backslash x xs b = ap (λ y. found in_string (y ∷ xs)) (eqb-true x 92 b)

found_escape : (x : ℕ) (xs : List ℕ) → found in_escape (x ∷ xs) ≡ found in_string xs
unfolding lex
found_escape x xs = refl

passes : (o s : Bool) (x : ℕ) (xs : List ℕ) (k : Mode → List Lexeme)
    → lex_byte in_string (cond o operator (cond s space other)) x xs k ≡ k in_string
passes true s x xs k = refl
passes false true x xs k = refl
passes false false x xs k = refl

found_plain : (x : ℕ) (xs : List ℕ) → (x == 34) ≡ false → (x == 92) ≡ false → found in_string (x ∷ xs) ≡ found in_string xs
unfolding lex
found_plain x xs q b =
    (λ i. lexemes_size (lex_byte in_string (cond (q i) quote (cond (b i) backslash (cond (is_operator x) operator (cond (is_space x) space other)))) x xs (λ n. lex n xs)))
    ∙ ap lexemes_size (passes (is_operator x) (is_space x) x xs (λ n. lex n xs))

not_this : (c x : ℕ) (t : Bool) → (t ≡ true → x ≡ c) → is_digit c 16 ≡ false → is_digit x 16 ≡ true → t ≡ false
not_this c x false e never h = refl
not_this c x true e never h = absurd (false≢true (sym never ∙ ap (λ y. is_digit y 16) (sym (e refl)) ∙ h))

found_hex : (x : ℕ) (xs : List ℕ) → is_digit x 16 ≡ true → found in_string (x ∷ xs) ≡ found in_string xs
found_hex x xs h =
    found_plain x xs (not_this 34 x (x == 34) (eqb-true x 34) refl h) (not_this 92 x (x == 92) (eqb-true x 92) refl h)

abbrev is_there : Option ℕ → Bool
is_there None = false
is_there (Some u) = true

all_hex : (b : Bool) (u : ℕ) → is_there (cond b (Some u) None) ≡ true → b ≡ true
all_hex true u h = refl
all_hex false u h = h

found_unit : (a b c d : ℕ) (xs : List ℕ) → is_there (code_unit a b c d) ≡ true → found in_string (a ∷ b ∷ c ∷ d ∷ xs) ≡ found in_string xs
unfolding code_unit
found_unit a b c d xs h =
    let p = and_parts (is_digit a 16 && is_digit b 16 && is_digit c 16) (is_digit d 16) (all_hex _ _ h) in
    let q = and_parts (is_digit a 16 && is_digit b 16) (is_digit c 16) p.0 in
    let r = and_parts (is_digit a 16) (is_digit b 16) q.0 in
    found_hex a (b ∷ c ∷ d ∷ xs) r.0 ∙ found_hex b (c ∷ d ∷ xs) r.1 ∙ found_hex c (d ∷ xs) q.1 ∙ found_hex d xs p.1

-- ---- a string's content, beside what is found behind it

abbrev Beside : ℕ → ℕ → Option (List ℕ) → Type 0
Beside rest most None = ⊤
Beside rest most (Some s) = length s + rest ≤ most

abbrev mode : Within → Mode
mode plain = in_string
mode after_backslash = in_escape
mode after_u = in_string
mode (after_high h) = in_string

both : (rest most : ℕ) (b : Bool) (x y : Option (List ℕ)) → (b ≡ true → Beside rest most x) → (b ≡ false → Beside rest most y)
    → Beside rest most (cond b x y)
both rest most true x y f g = f refl
both rest most false x y f g = g refl

then : (rest most : ℕ) (f : ℕ → Option (List ℕ)) (o : Option ℕ) → (is_there o ≡ true → (u : ℕ) → Beside rest most (f u))
    → Beside rest most (option_and_then f o)
then rest most f None h = tt
then rest most f (Some u) h = h refl u

more : (rest most old few : ℕ) (o : Option (List ℕ)) → Beside old few o → rest ≡ old → few ≤ most → Beside rest most o
more rest most old few None h same le = tt
more rest most old few (Some s) h same le = omega arith

longer : (rest most old few : ℕ) (bytes : List ℕ) (o : Option (List ℕ)) → Beside old few o → rest ≡ old → length bytes + few ≤ most
    → Beside rest most (prepend bytes o)
longer rest most old few bytes None h same le = tt
longer rest most old few bytes (Some s) h same le = omega (arith, length-append bytes s)

length-encode : (u : ℕ) → length (encode_utf8 u) ≤ 4
unfolding encode_utf8
length-encode u = grind arith

read_string : (o : Option (List ℕ)) (rest most : ℕ) → Beside rest most o → rest ≤ most → token_size (string_token o) + rest ≤ most + 1
read_string None rest most h le = omega arith
read_string (Some s) rest most h le = omega arith

byte_small : (m : Mode) (c : Class) (x : ℕ) (xs : List ℕ) (k : Mode → List Lexeme) → ((next : Mode) → lexemes_size (k next) ≤ length xs)
    → Beside (lexemes_size (k in_string)) (length xs) (content plain xs) → lexemes_size (lex_byte m c x xs k) ≤ length xs + 1
byte_small between quote x xs k each inside =
    read_string (content plain xs) (lexemes_size (k in_string)) (length xs) inside (each in_string)
byte_small between backslash x xs k each inside = omega (arith, each in_word)
byte_small between operator x xs k each inside = omega (arith, operator_none x, each between)
byte_small between space x xs k each inside = omega (arith, each between)
byte_small between other x xs k each inside = omega (arith, word_none (x ∷ xs), each in_word)
byte_small in_word quote x xs k each inside = omega (arith, each in_word)
byte_small in_word backslash x xs k each inside = omega (arith, each in_word)
byte_small in_word operator x xs k each inside = omega (arith, operator_none x, each between)
byte_small in_word space x xs k each inside = omega (arith, each between)
byte_small in_word other x xs k each inside = omega (arith, each in_word)
byte_small in_string quote x xs k each inside = omega (arith, each between)
byte_small in_string backslash x xs k each inside = omega (arith, each in_escape)
byte_small in_string operator x xs k each inside = omega (arith, each in_string)
byte_small in_string space x xs k each inside = omega (arith, each in_string)
byte_small in_string other x xs k each inside = omega (arith, each in_string)
byte_small in_escape c x xs k each inside = omega (arith, each in_string)

lex_step : (m : Mode) (x : ℕ) (xs : List ℕ) → ((next : Mode) → found next xs ≤ length xs)
    → Beside (found in_string xs) (length xs) (content plain xs) → found m (x ∷ xs) ≤ length xs + 1
unfolding lex
lex_step m x xs each inside = byte_small m (class x) x xs (λ next. lex next xs) each inside

lex_none : (m : Mode) → found m [] ≤ 0
unfolding lex
lex_none m = omega arith

mutual
  unfolding content

  lex_small : (m : Mode) (xs : List ℕ) → found m xs ≤ length xs
  lex_small m [] = lex_none m
  lex_small m (x ∷ xs) = let h = lex_step m x xs (λ next. lex_small next xs) (content_small plain xs) in omega arith

  content_small : (w : Within) (xs : List ℕ) → Beside (found (mode w) xs) (length xs) (content w xs)
  content_small plain [] = tt
  content_small plain (x ∷ xs) =
      let rest = found in_string (x ∷ xs) in
      let most = length (x ∷ xs) in
      both rest most (x == 34) _ _ (λ q. omega (arith, found_quote x xs q, lex_small between xs)) (λ q.
      both rest most (x == 92) _ _ (λ b. more rest most _ _ _ (content_small after_backslash xs) (found_backslash x xs b) (omega arith)) (λ b.
      both rest most (nat_lt x 32) _ _ (λ l. tt) (λ l. longer rest most _ _ (x ∷ []) _ (content_small plain xs) (found_plain x xs q b) (omega arith))))
  content_small after_backslash [] = tt
  content_small after_backslash (x ∷ xs) =
      let rest = found in_escape (x ∷ xs) in
      let most = length (x ∷ xs) in
      both rest most (x == 117) _ _ (λ u. more rest most _ _ _ (content_small after_u xs) (found_escape x xs) (omega arith))
      (λ u. then rest most _ (short_escape x) (λ f c. longer rest most _ _ (c ∷ []) _ (content_small plain xs) (found_escape x xs) (omega arith)))
  content_small after_u [] = tt
  content_small after_u (a ∷ []) = tt
  content_small after_u (a ∷ b ∷ []) = tt
  content_small after_u (a ∷ b ∷ c ∷ []) = tt
  content_small after_u (a ∷ b ∷ c ∷ d ∷ xs) =
      let rest = found in_string (a ∷ b ∷ c ∷ d ∷ xs) in
      let most = length (a ∷ b ∷ c ∷ d ∷ xs) in
      then rest most _ (code_unit a b c d) (λ f u.
      both rest most (is_high_surrogate u) _ _ (λ h. more rest most _ _ _ (content_small (after_high u) xs) (found_unit a b c d xs f) (omega arith)) (λ h.
      both rest most (is_low_surrogate u) _ _ (λ l. tt)
      (λ l. longer rest most _ _ (encode_utf8 u) _ (content_small plain xs) (found_unit a b c d xs f) (omega (arith, length-encode u)))))
  content_small (after_high h) [] = tt
  content_small (after_high h) (s ∷ []) = tt
  content_small (after_high h) (s ∷ u ∷ []) = tt
  content_small (after_high h) (s ∷ u ∷ a ∷ []) = tt
  content_small (after_high h) (s ∷ u ∷ a ∷ b ∷ []) = tt
  content_small (after_high h) (s ∷ u ∷ a ∷ b ∷ c ∷ []) = tt
  content_small (after_high h) (s ∷ u ∷ a ∷ b ∷ c ∷ d ∷ xs) =
      let rest = found in_string (s ∷ u ∷ a ∷ b ∷ c ∷ d ∷ xs) in
      let most = length (s ∷ u ∷ a ∷ b ∷ c ∷ d ∷ xs) in
      both rest most ((s == 92) && (u == 117)) _ _ (λ e. then rest most _ (code_unit a b c d) (λ f l.
      both rest most (is_low_surrogate l) _ _
      (λ y. longer rest most _ _ (encode_utf8 (surrogate_pair h l)) _ (content_small plain xs)
      (found_backslash s (u ∷ a ∷ b ∷ c ∷ d ∷ xs) (and_parts _ _ e).0 ∙ found_escape u (a ∷ b ∷ c ∷ d ∷ xs) ∙ found_unit a b c d xs f)
      (omega (arith, length-encode (surrogate_pair h l))))
      (λ y. tt))) (λ e. tt)

-- ---- commas and colons take nothing away from that

allowed_small : (b : Bool) (t : Token) (k : Place → List Token) (next : Place) (n : ℕ) → tokens_size (k next) ≤ n
    → tokens_size (if_allowed b t k next) ≤ token_size t + n
allowed_small true t k next n le = omega arith
allowed_small false t k next n le = omega arith

placed_small : (p : Place) (t : Token) (before_colon : Bool) (k : Place → List Token) (n : ℕ) → ((next : Place) → tokens_size (k next) ≤ n)
    → tokens_size (place_token p t before_colon k) ≤ token_size t + n
placed_small p Token.begin_object b k n each = allowed_small (may_begin p) Token.begin_object k fresh n (each fresh)
placed_small p Token.end_object b k n each = allowed_small (may_close p) Token.end_object k after_value n (each after_value)
placed_small p Token.begin_array b k n each = allowed_small (may_begin p) Token.begin_array k fresh n (each fresh)
placed_small p Token.end_array b k n each = allowed_small (may_close p) Token.end_array k after_value n (each after_value)
placed_small p (Token.key s) b k n each = omega arith
placed_small p (Token.string s) true k n each = let h = allowed_small (may_begin p) (Token.key s) k after_key n (each after_key) in omega arith
placed_small p (Token.string s) false k n each = allowed_small (may_begin p) (Token.string s) k after_value n (each after_value)
placed_small p (Token.number s) b k n each = allowed_small (may_begin p) (Token.number s) k after_value n (each after_value)
placed_small p (Token.boolean c) b k n each = allowed_small (may_begin p) (Token.boolean c) k after_value n (each after_value)
placed_small p Token.null b k n each = allowed_small (may_begin p) Token.null k after_value n (each after_value)
placed_small p Token.bad b k n each = omega arith

punctuated_small : (ls : List Lexeme) (p : Place) → tokens_size (punctuate p ls) ≤ lexemes_size ls
unfolding punctuate
punctuated_small [] fresh = omega arith
punctuated_small [] after_value = omega arith
punctuated_small [] after_comma = omega arith
punctuated_small [] after_key = omega arith
punctuated_small (token t ∷ ls) fresh = placed_small fresh t (begins_colon ls) _ (lexemes_size ls) (λ next. punctuated_small ls next)
punctuated_small (token t ∷ ls) after_value = placed_small after_value t (begins_colon ls) _ (lexemes_size ls) (λ next. punctuated_small ls next)
punctuated_small (token t ∷ ls) after_comma = placed_small after_comma t (begins_colon ls) _ (lexemes_size ls) (λ next. punctuated_small ls next)
punctuated_small (token t ∷ ls) after_key = placed_small after_key t (begins_colon ls) _ (lexemes_size ls) (λ next. punctuated_small ls next)
punctuated_small (comma ∷ ls) fresh = omega arith
punctuated_small (comma ∷ ls) after_value = let h = punctuated_small ls after_comma in omega arith
punctuated_small (comma ∷ ls) after_comma = omega arith
punctuated_small (comma ∷ ls) after_key = omega arith
punctuated_small (colon ∷ ls) fresh = omega arith
punctuated_small (colon ∷ ls) after_value = omega arith
punctuated_small (colon ∷ ls) after_comma = omega arith
punctuated_small (colon ∷ ls) after_key = let h = punctuated_small ls fresh in omega arith

pub tokens_small : (text : List ℕ) → tokens_size (tokens text) ≤ length text
tokens_small text =
    let one = punctuated_small (lex between text) fresh in
    let two = lex_small between text in
    omega arith

pub tokens_size-append : (ts us : List Token) → tokens_size (ts ++ us) ≡ tokens_size ts + tokens_size us
tokens_size-append [] us = omega arith
tokens_size-append (t ∷ ts) us = let h = tokens_size-append ts us in omega arith
