-- The texts that a text in UTF-8 spells are UTF-8.
use Rattle.std.proofs.Common.{◌≡◌, ℕ, ◌+◌, ◌-◌, ◌<◌, ◌≤◌, Bool, true, false, cond, ◌&&◌, ◌||◌, ◌==◌, nat_lt, nat_le, List, [], ◌∷◌, ◌++◌, length, take, drop, Option, Some, None, IfSome, option_and_then, IsUtf8, refl, sym, subst, arith, append_assoc, append-nil, length-append, ◌⊎◌, inl, inr}
use Rattle.std.specs.Prelude.{⊤}
use Rattle.std.specs.Char.{digit_value, is_digit, encode_utf8}
use Rattle.std.proofs.lemmas.Bool.{eqb-true, ltb-true, ltb-false, leb-true, leb-false, lt-ltb, le-leb, le-ltb, and_parts, cases_lt}
use Rattle.std.proofs.lemmas.Str.{IsUtf8-append, IsUtf8-encode, IsUtf8-take, IsUtf8-drop, IsCharBoundary-before_ascii, IsCharBoundary-after_ascii, encode_ascii}
use Rattle.std.proofs.Math.Seq.{drop-append-add, take-append_seam, get_or-append_seam}
use Rattle.std.specs.Prelude.{nat_eq}
use Rattle.std.specs.List.{starts_with}
use lib.Utf8.{scalar, low_scalar}
use Rattle.json.specs.Ascii as ascii
use Rattle.json.specs.Json as json
use Rattle.json.specs.Lex.{Lexeme, token, comma, colon, Class, quote, backslash, operator, space, other, class, operator_lexeme, string_token, Mode, between, in_word, in_string, in_escape, lex_byte, lex, Place, fresh, after_value, after_comma, after_key, begins_colon, may_begin, may_close, if_allowed, place_token, punctuate, tokens}
use Rattle.json.specs.Text.{code_unit, short_escape, is_high_surrogate, is_low_surrogate, surrogate_pair, content, plain, after_backslash, after_u, after_high, prepend}
use Rattle.json.specs.Token.{Token}
use Rattle.json.specs.Tree.{json_tokens, items_tokens, members_tokens}
use Rattle.json.proofs.Unique.Spelling.{value-json_tokens_back}
use Rattle.json.specs.Word.{head, ends_word, word, literal, number_before, after_number, is_operator, is_space}

-- ---- cutting a text at an ASCII byte

before_ascii : (front xs : List ℕ) (x : ℕ) → x < 128 → IsUtf8 (front ++ x ∷ xs) → IsUtf8 front
before_ascii front xs x small u =
    subst IsUtf8 (take-append_seam front (x ∷ xs))
    (IsUtf8-take _ (length front) u (IsCharBoundary-before_ascii _ (length front) (omega (arith, length-append front (x ∷ xs))) (omega (arith, get_or-append_seam front x xs 0))))

after_ascii : (front xs : List ℕ) (x : ℕ) → x < 128 → IsUtf8 (front ++ x ∷ xs) → IsUtf8 xs
after_ascii front xs x small u =
    subst IsUtf8 (drop-append-add front (x ∷ xs) 1)
    (IsUtf8-drop _ (length front + 1) u (IsCharBoundary-after_ascii _ (length front) u (omega (arith, length-append front (x ∷ xs))) (omega (arith, get_or-append_seam front x xs 0))))

one_ascii : (x : ℕ) → x < 128 → IsUtf8 (x ∷ [])
one_ascii x small = subst IsUtf8 (encode_ascii x small) (IsUtf8-encode x (low_scalar x (omega arith)))

-- ---- the content of a string

choose : {A : Type 0} (b : Bool) (x y : Option A) (P : A → Type 0) → (b ≡ true → IfSome x P) → (b ≡ false → IfSome y P) → IfSome (cond b x y) P
choose true x y P h k = h refl
choose false x y P h k = k refl

weaker : {A : Type 0} (o : Option A) (P Q : A → Type 0) → ((a : A) → P a → Q a) → IfSome o P → IfSome o Q
weaker None P Q f h = tt
weaker (Some a) P Q f h = f a h

prepended : (bytes : List ℕ) (o : Option (List ℕ)) (P : List ℕ → Type 0) → IfSome o (λ s. P (bytes ++ s)) → IfSome (prepend bytes o) P
prepended bytes None P h = tt
prepended bytes (Some s) P h = h

then_some : {A B : Type 0} (o : Option A) (f : A → Option B) (P : A → Type 0) (Q : B → Type 0) → IfSome o P → ((a : A) → P a → IfSome (f a) Q) → IfSome (option_and_then f o) Q
then_some None f P Q h k = tt
then_some (Some a) f P Q h k = k a h

digit_small : (a : ℕ) → is_digit a 16 ≡ true → (a < 128) × (digit_value a ≤ 15)
digit_small a h = elim (cases_lt a 123) [
  | inl small ↦ (omega arith, omega (arith, ltb-true (digit_value a) 16 h))
  | inr big ↦ absurd (omega (arith, ltb-true (digit_value a) 16 h, top a big))
]
  where
    top : (a : ℕ) → 123 ≤ a → digit_value a ≡ 36
    top a big = rw (le-ltb a 48 (omega arith), le-ltb a 58 (omega arith), le-ltb a 65 (omega arith), le-ltb a 91 (omega arith), le-ltb a 97 (omega arith), le-ltb a 123 (omega arith)) refl

record Unit16 (a b c d u : ℕ) : Type 0 where
  pub last : d < 128
  pub fits : u < 65536

unit_small : (a b c d : ℕ) → IfSome (code_unit a b c d) (λ u. Unit16 a b c d u)
unfolding code_unit
unit_small a b c d = choose (is_digit a 16 && is_digit b 16 && is_digit c 16 && is_digit d 16) _ None _
    (λ e.
    let p = and_parts _ _ e in
    let q = and_parts _ _ p.0 in
    let r = and_parts _ _ q.0 in
    let da = digit_small a r.0 in
    let db = digit_small b r.1 in
    let dc = digit_small c q.1 in
    let dd = digit_small d p.1 in
    record { last = dd.0; fits = omega (arith, da.1, db.1, dc.1, dd.1) })
    (λ e. tt)

either : (a b : Bool) → a || b ≡ true → (a ≡ true) ⊎ (b ≡ true)
either true b e = inl refl
either false b e = inr e

slash_small : (x : ℕ) → (x == 34) || (x == 92) || (x == 47) ≡ true → x < 128
slash_small x e = elim (either ((x == 34) || (x == 92)) (x == 47) e) [
  | inl h ↦ elim (either (x == 34) (x == 92) h) [ inl k ↦ omega (arith, eqb-true x 34 k) | inr k ↦ omega (arith, eqb-true x 92 k) ]
  | inr h ↦ omega (arith, eqb-true x 47 h)
]

escape_small : (x : ℕ) → IfSome (short_escape x) (λ c. (c < 128) × (x < 128))
unfolding short_escape
escape_small x =
    choose ((x == 34) || (x == 92) || (x == 47)) (Some x) _ _ (λ e. (slash_small x e, slash_small x e)) (λ _.
    choose (x == 98) (Some 8) _ _ (λ e. (omega arith, omega (arith, eqb-true x 98 e))) (λ _.
    choose (x == 102) (Some 12) _ _ (λ e. (omega arith, omega (arith, eqb-true x 102 e))) (λ _.
    choose (x == 110) (Some 10) _ _ (λ e. (omega arith, omega (arith, eqb-true x 110 e))) (λ _.
    choose (x == 114) (Some 13) _ _ (λ e. (omega arith, omega (arith, eqb-true x 114 e))) (λ _.
    choose (x == 116) (Some 9) None _ (λ e. (omega arith, omega (arith, eqb-true x 116 e))) (λ _. tt))))))

neither : (a b : Bool) → a && b ≡ false → (a ≡ false) ⊎ (b ≡ false)
neither true b e = inr e
neither false b e = inl refl

scalar_high : (u : ℕ) → 57344 ≤ u → u < 1114112 → scalar u ≡ true
scalar_high u low high = rw (le-ltb u 55296 (omega arith), le-leb 57344 u low, lt-ltb u 1114112 high) refl

scalar_low : (u : ℕ) → u < 65536 → is_high_surrogate u ≡ false → is_low_surrogate u ≡ false → scalar u ≡ true
scalar_low u small high low = elim (cases_lt u 55296) [
  | inl h ↦ low_scalar u h
  | inr h ↦ elim (neither (nat_le 55296 u) (nat_lt u 56320) high) [
    | inl k ↦ absurd (omega (arith, leb-false 55296 u k))
    | inr k ↦ elim (neither (nat_le 56320 u) (nat_lt u 57344) low) [
      | inl j ↦ absurd (omega (arith, ltb-false u 56320 k, leb-false 56320 u j))
      | inr j ↦ scalar_high u (ltb-false u 57344 j) (omega arith)
    ]
  ]
]

scalar_pair : (h l : ℕ) → is_high_surrogate h ≡ true → is_low_surrogate l ≡ true → scalar (surrogate_pair h l) ≡ true
scalar_pair h l high low =
    let p = and_parts (nat_le 55296 h) (nat_lt h 56320) high in
    let q = and_parts (nat_le 56320 l) (nat_lt l 57344) low in
    let a : 55296 ≤ h = leb-true 55296 h p.0 in
    let b : h < 56320 = ltb-true h 56320 p.1 in
    let c : 56320 ≤ l = leb-true 56320 l q.0 in
    let d : l < 57344 = ltb-true l 57344 q.1 in
    scalar_high (surrogate_pair h l) (omega arith) (omega arith)

ascii_then : (x : ℕ) (text : List ℕ) → x < 128 → IsUtf8 text → IsUtf8 (x ∷ text)
ascii_then x text small u = IsUtf8-append (x ∷ []) text (one_ascii x small) u

mutual
  unfolding content

  -- front is what stands before, cut at any byte
  pub plain_utf8 : (xs front : List ℕ) → IsUtf8 (front ++ xs) → IfSome (content plain xs) (λ s. IsUtf8 (front ++ s))
  plain_utf8 [] front u = tt
  plain_utf8 (x ∷ xs) front u =
      choose (x == 34) (Some []) _ _ (λ e. subst IsUtf8 (sym (append-nil front)) (before_ascii front xs x (omega (arith, eqb-true x 34 e)) u)) (λ _.
      choose (x == 92) (content after_backslash xs) _ _
      (λ e.
      let small : x < 128 = omega (arith, eqb-true x 92 e) in
      weaker (content after_backslash xs) IsUtf8 _ (λ s h. IsUtf8-append front s (before_ascii front xs x small u) h) (escaped_utf8 xs (after_ascii front xs x small u)))
      (λ _.
      choose (nat_lt x 32) None _ _ (λ _. tt)
      (λ _. prepended (x ∷ []) (content plain xs) _ (weaker (content plain xs) _ _ (λ s h. subst IsUtf8 (append_assoc front (x ∷ []) s) h) (plain_utf8 xs (front ++ x ∷ []) (subst IsUtf8 (sym (append_assoc front (x ∷ []) xs)) u))))))

  escaped_utf8 : (xs : List ℕ) → IsUtf8 xs → IfSome (content after_backslash xs) IsUtf8
  escaped_utf8 [] u = tt
  escaped_utf8 (x ∷ xs) u =
      choose (x == 117) (content after_u xs) _ _ (λ e. unit_utf8 xs (after_ascii [] xs x (omega (arith, eqb-true x 117 e)) u))
      (λ _. then_some (short_escape x) _ _ IsUtf8 (escape_small x)
      (λ c small. prepended (c ∷ []) (content plain xs) IsUtf8 (weaker (content plain xs) _ _ (λ s h. ascii_then c s small.0 h) (plain_utf8 xs [] (after_ascii [] xs x small.1 u)))))

  unit_utf8 : (xs : List ℕ) → IsUtf8 xs → IfSome (content after_u xs) IsUtf8
  unit_utf8 [] u = tt
  unit_utf8 (a ∷ []) u = tt
  unit_utf8 (a ∷ b ∷ []) u = tt
  unit_utf8 (a ∷ b ∷ c ∷ []) u = tt
  unit_utf8 (a ∷ b ∷ c ∷ d ∷ xs) u =
      then_some (code_unit a b c d) _ _ IsUtf8 (unit_small a b c d)
      (λ v small.
      let rest = after_ascii (a ∷ b ∷ c ∷ []) xs d small.last u in
      choose (is_high_surrogate v) (content (after_high v) xs) _ IsUtf8 (λ e. pair_utf8 v xs e rest)
      (λ high. choose (is_low_surrogate v) None _ IsUtf8 (λ _. tt)
      (λ low. prepended (encode_utf8 v) (content plain xs) IsUtf8
      (weaker (content plain xs) _ _ (λ s h. IsUtf8-append (encode_utf8 v) s (IsUtf8-encode v (scalar_low v small.fits high low)) h) (plain_utf8 xs [] rest)))))

  pair_utf8 : (high : ℕ) (xs : List ℕ) → is_high_surrogate high ≡ true → IsUtf8 xs → IfSome (content (after_high high) xs) IsUtf8
  pair_utf8 high [] e u = tt
  pair_utf8 high (s ∷ []) e u = tt
  pair_utf8 high (s ∷ t ∷ []) e u = tt
  pair_utf8 high (s ∷ t ∷ a ∷ []) e u = tt
  pair_utf8 high (s ∷ t ∷ a ∷ b ∷ []) e u = tt
  pair_utf8 high (s ∷ t ∷ a ∷ b ∷ c ∷ []) e u = tt
  pair_utf8 high (s ∷ t ∷ a ∷ b ∷ c ∷ d ∷ xs) e u =
      choose ((s == 92) && (t == 117)) _ None IsUtf8
      (λ _. then_some (code_unit a b c d) _ _ IsUtf8 (unit_small a b c d)
      (λ v small. choose (is_low_surrogate v) _ None IsUtf8
      (λ low. prepended (encode_utf8 (surrogate_pair high v)) (content plain xs) IsUtf8
      (weaker (content plain xs) _ _ (λ w h. IsUtf8-append (encode_utf8 (surrogate_pair high v)) w (IsUtf8-encode _ (scalar_pair high v e low)) h)
      (plain_utf8 xs [] (after_ascii (s ∷ t ∷ a ∷ b ∷ c ∷ []) xs d small.last u))))
      (λ _. tt)))
      (λ _. tt)

-- ---- tokens

abbrev pub TokenHasText : Token → Type 0
TokenHasText Token.begin_object = ⊤
TokenHasText Token.end_object = ⊤
TokenHasText Token.begin_array = ⊤
TokenHasText Token.end_array = ⊤
TokenHasText (Token.key s) = IsUtf8 s
TokenHasText (Token.string s) = IsUtf8 s
TokenHasText (Token.number s) = ⊤
TokenHasText (Token.boolean b) = ⊤
TokenHasText Token.null = ⊤
TokenHasText Token.bad = ⊤

abbrev pub TokensHaveText : List Token → Type 0
TokensHaveText [] = ⊤
TokensHaveText (t ∷ ts) = TokenHasText t × TokensHaveText ts

abbrev LexemeHasText : Lexeme → Type 0
LexemeHasText (token t) = TokenHasText t
LexemeHasText comma = ⊤
LexemeHasText colon = ⊤

abbrev LexemesHaveText : List Lexeme → Type 0
LexemesHaveText [] = ⊤
LexemesHaveText (l ∷ ls) = LexemeHasText l × LexemesHaveText ls

or_bad : (b : Bool) (t : Token) → TokenHasText t → TokenHasText (cond b t Token.bad)
or_bad true t h = h
or_bad false t h = tt

first_of_four : (a b c : Bool) (x y z w : Token) → TokenHasText x → TokenHasText y → TokenHasText z → TokenHasText w → TokenHasText (cond a x (cond b y (cond c z w)))
first_of_four true b c x y z w h i j k = h
first_of_four false true c x y z w h i j k = i
first_of_four false false true x y z w h i j k = j
first_of_four false false false x y z w h i j k = k

string_has : (xs : List ℕ) → IsUtf8 xs → TokenHasText (string_token (content plain xs))
string_has xs u = elim (content plain xs) as (λ o. IfSome o IsUtf8 → TokenHasText (string_token o)) [ None ↦ λ h. tt | Some s ↦ λ h. h ] (plain_utf8 xs [] u)

number_has : (t : List ℕ) (o : Option (List ℕ)) → TokenHasText (number_before t o)
number_has t None = tt
number_has t (Some rest) = or_bad (ends_word rest) (Token.number (take (length t - length rest) t)) tt

word_has : (t : List ℕ) → TokenHasText (word t)
unfolding word
word_has t =
    first_of_four (head t == ascii.lower_t) (head t == ascii.lower_f) (head t == ascii.lower_n) (literal ascii.true_text (Token.boolean true) t) (literal ascii.false_text (Token.boolean false) t)
    (literal ascii.null_text Token.null t) (number_before t (after_number t)) (or_bad (starts_with nat_eq t ascii.true_text && ends_word (drop 4 t)) (Token.boolean true) tt)
    (or_bad (starts_with nat_eq t ascii.false_text && ends_word (drop 5 t)) (Token.boolean false) tt) (or_bad (starts_with nat_eq t ascii.null_text && ends_word (drop 4 t)) Token.null tt)
    (number_has t (after_number t))

operators_have : (a b c d e : Bool)
    → LexemeHasText (cond a (token Token.begin_object) (cond b (token Token.end_object) (cond c (token Token.begin_array) (cond d (token Token.end_array) (cond e comma colon)))))
operators_have true b c d e = tt
operators_have false true c d e = tt
operators_have false false true d e = tt
operators_have false false false true e = tt
operators_have false false false false true = tt
operators_have false false false false false = tt

operator_has : (x : ℕ) → LexemeHasText (operator_lexeme x)
operator_has x = operators_have (x == ascii.open_brace) (x == ascii.close_brace) (x == ascii.open_bracket) (x == ascii.close_bracket) (x == ascii.comma)

no_quote : (a b c : Bool) → cond a backslash (cond b operator (cond c space other)) ≡ quote → ⊥
no_quote true b c e = cc
no_quote false true c e = cc
no_quote false false true e = cc
no_quote false false false e = cc

quote_by : (b : Bool) (x : ℕ) → x == 34 ≡ b → class x ≡ quote → x < 128
quote_by true x is e = omega (arith, eqb-true x 34 is)
quote_by false x is e = absurd (no_quote (x == 92) (is_operator x) (is_space x) (rw is at e))

byte_has : (m : Mode) (c : Class) (x : ℕ) (xs front : List ℕ) (k : Mode → List Lexeme) → class x ≡ c → IsUtf8 (front ++ x ∷ xs) → ((next : Mode) → LexemesHaveText (k next))
    → LexemesHaveText (lex_byte m c x xs k)
byte_has between quote x xs front k is u more = (string_has xs (after_ascii front xs x (quote_by (x == 34) x refl is) u), more in_string)
byte_has between backslash x xs front k is u more = (tt, more in_word)
byte_has between operator x xs front k is u more = (operator_has x, more between)
byte_has between space x xs front k is u more = more between
byte_has between other x xs front k is u more = (word_has (x ∷ xs), more in_word)
byte_has in_word quote x xs front k is u more = more in_word
byte_has in_word backslash x xs front k is u more = more in_word
byte_has in_word operator x xs front k is u more = (operator_has x, more between)
byte_has in_word space x xs front k is u more = more between
byte_has in_word other x xs front k is u more = more in_word
byte_has in_string quote x xs front k is u more = more between
byte_has in_string backslash x xs front k is u more = more in_escape
byte_has in_string operator x xs front k is u more = more in_string
byte_has in_string space x xs front k is u more = more in_string
byte_has in_string other x xs front k is u more = more in_string
byte_has in_escape c x xs front k is u more = more in_string

lex_has : (xs front : List ℕ) (m : Mode) → IsUtf8 (front ++ xs) → LexemesHaveText (lex m xs)
unfolding lex
lex_has [] front m u = tt
lex_has (x ∷ xs) front m u =
    byte_has m (class x) x xs front _ refl u (λ next. lex_has xs (front ++ x ∷ []) next (subst IsUtf8 (sym (append_assoc front (x ∷ []) xs)) u))

allowed_has : (b : Bool) (t : Token) (k : Place → List Token) (next : Place) → TokenHasText t → TokensHaveText (k next) → TokensHaveText (if_allowed b t k next)
allowed_has true t k next h more = (h, more)
allowed_has false t k next h more = (tt, tt)

placed_has : (p : Place) (t : Token) (before_colon : Bool) (k : Place → List Token) → TokenHasText t → ((next : Place) → TokensHaveText (k next)) → TokensHaveText (place_token p t before_colon k)
placed_has p Token.begin_object b k h more = allowed_has (may_begin p) _ k fresh tt (more fresh)
placed_has p Token.end_object b k h more = allowed_has (may_close p) _ k after_value tt (more after_value)
placed_has p Token.begin_array b k h more = allowed_has (may_begin p) _ k fresh tt (more fresh)
placed_has p Token.end_array b k h more = allowed_has (may_close p) _ k after_value tt (more after_value)
placed_has p (Token.key s) b k h more = (tt, tt)
placed_has p (Token.string s) true k h more = allowed_has (may_begin p) (Token.key s) k after_key h (more after_key)
placed_has p (Token.string s) false k h more = allowed_has (may_begin p) (Token.string s) k after_value h (more after_value)
placed_has p (Token.number s) b k h more = allowed_has (may_begin p) _ k after_value tt (more after_value)
placed_has p (Token.boolean c) b k h more = allowed_has (may_begin p) _ k after_value tt (more after_value)
placed_has p Token.null b k h more = allowed_has (may_begin p) _ k after_value tt (more after_value)
placed_has p Token.bad b k h more = (tt, tt)

punctuated_has : (ls : List Lexeme) (p : Place) → LexemesHaveText ls → TokensHaveText (punctuate p ls)
unfolding punctuate
punctuated_has [] fresh h = tt
punctuated_has [] after_value h = tt
punctuated_has [] after_comma h = (tt, tt)
punctuated_has [] after_key h = (tt, tt)
punctuated_has (token t ∷ ls) fresh h = placed_has fresh t (begins_colon ls) _ h.0 (λ next. punctuated_has ls next h.1)
punctuated_has (token t ∷ ls) after_value h = placed_has after_value t (begins_colon ls) _ h.0 (λ next. punctuated_has ls next h.1)
punctuated_has (token t ∷ ls) after_comma h = placed_has after_comma t (begins_colon ls) _ h.0 (λ next. punctuated_has ls next h.1)
punctuated_has (token t ∷ ls) after_key h = placed_has after_key t (begins_colon ls) _ h.0 (λ next. punctuated_has ls next h.1)
punctuated_has (comma ∷ ls) fresh h = (tt, tt)
punctuated_has (comma ∷ ls) after_value h = punctuated_has ls after_comma h.1
punctuated_has (comma ∷ ls) after_comma h = (tt, tt)
punctuated_has (comma ∷ ls) after_key h = (tt, tt)
punctuated_has (colon ∷ ls) fresh h = (tt, tt)
punctuated_has (colon ∷ ls) after_value h = (tt, tt)
punctuated_has (colon ∷ ls) after_comma h = (tt, tt)
punctuated_has (colon ∷ ls) after_key h = punctuated_has ls fresh h.1

pub tokens_have : (text : List ℕ) → IsUtf8 text → TokensHaveText (tokens text)
tokens_have text u = punctuated_has (lex between text) fresh (lex_has text [] between u)

-- ---- values

abbrev mutual
  pub HasTexts : json.Json → Type 0
  HasTexts json.null = ⊤
  HasTexts (json.boolean b) = ⊤
  HasTexts (json.number s) = ⊤
  HasTexts (json.string s) = IsUtf8 s
  HasTexts (json.array js) = ItemsHaveTexts js
  HasTexts (json.object ms) = MembersHaveTexts ms

  pub ItemsHaveTexts : json.Items → Type 0
  ItemsHaveTexts json.no_items = ⊤
  ItemsHaveTexts (json.item j js) = HasTexts j × ItemsHaveTexts js

  pub MembersHaveTexts : json.Members → Type 0
  MembersHaveTexts json.no_members = ⊤
  MembersHaveTexts (json.member k j ms) = IsUtf8 k × HasTexts j × MembersHaveTexts ms

parts_have : (ts us : List Token) → TokensHaveText (ts ++ us) → TokensHaveText ts × TokensHaveText us
parts_have [] us h = (tt, h)
parts_have (t ∷ ts) us h = let p = parts_have ts us h.1 in ((h.0, p.0), p.1)

mutual
  value_has : (j : json.Json) → TokensHaveText (json_tokens j) → HasTexts j
  value_has json.null h = tt
  value_has (json.boolean b) h = tt
  value_has (json.number s) h = tt
  value_has (json.string s) h = h.0
  value_has (json.array js) h = items_have js h.1
  value_has (json.object ms) h = members_have ms h.1

  items_have : (js : json.Items) → TokensHaveText (items_tokens js) → ItemsHaveTexts js
  items_have json.no_items h = tt
  items_have (json.item j js) h = let p = parts_have (json_tokens j) (items_tokens js) h in (value_has j p.0, items_have js p.1)

  members_have : (ms : json.Members) → TokensHaveText (members_tokens ms) → MembersHaveTexts ms
  members_have json.no_members h = tt
  members_have (json.member k j ms) h = let p = parts_have (json_tokens j) (members_tokens ms) h.1 in (h.0, value_has j p.0, members_have ms p.1)

-- the texts of the value that the tokens of a text in UTF-8 begin with
pub read_has : (text : List ℕ) (d : ℕ) (j : json.Json) (rest : List Token) → IsUtf8 text → json.value d (tokens text) ≡ Some (j, rest) → HasTexts j
read_has text d j rest u e = value_has j (parts_have (json_tokens j) rest (subst TokensHaveText (value-json_tokens_back d (tokens text) rest j e) (tokens_have text u))).0
