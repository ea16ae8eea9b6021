-- A head that the grammar writes is a head section.
use Rattle.std.proofs.Common.{◌≡◌, ◌≤◌, ◌<◌, ℕ, ◌+◌, Bool, true, false, IsTrue, List, [], ◌∷◌, ◌++◌, length, refl, sym, ◌∙◌, ap, append_assoc, length-append, arith, if◌then◌else◌}
use Rattle.std.specs.Prelude.{◌==◌, not, All}
use Rattle.std.specs.List.{flat_map}
use Rattle.std.proofs.lemmas.Bool.{lt-leb, le-ltb, eqb-true}
use Rattle.std.proofs.lemmas.List.Elements.{All-head, All-tail, All-cons, All-append, All-weaker}
use Rattle.sig_json.specs.declared.limits.TheConstants.{HEAD_BYTES, HEADER_FIELDS}
use Rattle.httparse.specs.Grammar.{AllPass, is_token_byte, is_value_byte, is_uri_byte, IsToken}
use Rattle.sig_http.specs.Spelling.{field_line}
use Rattle.sig_http.specs.Section.{start, section_from, after_line, one_more, begun_with, line_feed}
use Rattle.sig_http.specs.declared.section.Scan.{Scan}
use Rattle.sig_http.specs.declared.section.Begun.{Begun}
use Rattle.sig_http.specs.declared.section.Begun.TheVariants.{Nothing, Return, Filled}
use Rattle.sig_http.specs.declared.section.Section.{Section}
use Rattle.sig_http.specs.declared.section.Section.TheVariants.{Open, Ended, Long}

-- ---- a line that isn't empty

-- a section with so many bytes and lines, in this line
abbrev at : ℕ → ℕ → Begun → Scan
at bytes lines begun = record { bytes = bytes; lines = lines; begun = begun }

-- the byte doesn't end a line
abbrev pub is_other : ℕ → Bool
is_other b = not (b == line_feed)

pub differs : (a b : ℕ) → (a ≡ b → ⊥) → (a == b) ≡ false
differs a b other = by_test (a == b) refl
  where
    by_test : (t : Bool) → (a == b) ≡ t → t ≡ false
    by_test false e = refl
    by_test true e = absurd (other (eqb-true a b e))

-- a test that fails at a byte fails to pass it
pub excludes : (test : ℕ → Bool) (k : ℕ) → test k ≡ false → (b : ℕ) → IsTrue (test b) → (b == k) ≡ false
excludes test k fails b passes = by_test (b == k) refl
  where
    by_test : (t : Bool) → (b == k) ≡ t → t ≡ false
    by_test false e = refl
    by_test true e = sym passes ∙ ap test (eqb-true b k e) ∙ fails

-- what bytes say after the first
abbrev go : List ℕ → Section → Section
go more s = elim s [ Open next ↦ section_from next more | Ended n ↦ Ended n | Long ↦ Long ]

step : (n l b : ℕ) (begun : Begun) (more : List ℕ) → n < HEAD_BYTES → (b == line_feed) ≡ false
    → section_from (at n l begun) (b ∷ more) ≡ section_from (at (n + 1) l (begun_with begun b)) more
step n l b begun more room other =
    ap (λ c. go more (if c then Long else (if b == line_feed then after_line (at n l begun) else one_more (at n l begun) l (begun_with begun b)))) (lt-leb HEAD_BYTES n room)
    ∙ ap (λ c. go more (if c then after_line (at n l begun) else one_more (at n l begun) l (begun_with begun b))) other

feed : (n l : ℕ) (more : List ℕ) → n < HEAD_BYTES → l ≤ HEADER_FIELDS
    → section_from (at n l Filled) (10 ∷ more) ≡ section_from (at (n + 1) (l + 1) Nothing) more
feed n l more room few =
    ap (λ c. go more (if c then Long else after_line (at n l Filled))) (lt-leb HEAD_BYTES n room)
    ∙ ap (λ c. go more (if c then Long else one_more (at n l Filled) (l + 1) Nothing)) (le-ltb HEADER_FIELDS l few)

-- bytes within a line
run : (n l : ℕ) (c more : List ℕ) → AllPass is_other c → n + length c ≤ HEAD_BYTES
    → section_from (at n l Filled) (c ++ more) ≡ section_from (at (n + length c) l Filled) more
run n l [] more pass few = let e : n ≡ n + 0 = omega arith in ap (λ k. section_from (at k l Filled) more) e
run n l (b ∷ c) more pass few =
    let e : n + 1 + length c ≡ n + length (b ∷ c) = omega arith in
    step n l b Filled (c ++ more) (omega arith) (other (b == line_feed) (All-head (λ x. IsTrue (is_other x)) b c pass))
    ∙ run (n + 1) l c more (All-tail (λ x. IsTrue (is_other x)) b c pass) (omega arith)
    ∙ ap (λ k. section_from (at k l Filled) more) e
  where
    other : (t : Bool) → IsTrue (not t) → t ≡ false
    other false h = refl
    other true h = sym h

-- a line with its end
line : (n l x : ℕ) (c more : List ℕ) → (x == line_feed) ≡ false → (x == 13) ≡ false → AllPass is_other c → n + length (x ∷ c) + 2 ≤ HEAD_BYTES → l ≤ HEADER_FIELDS
    → section_from (at n l Nothing) (x ∷ (c ++ 13 ∷ 10 ∷ more)) ≡ section_from (at (n + length (x ∷ c) + 2) (l + 1) Nothing) more
line n l x c more other filled pass few lines =
    let e : n + 1 + length c + 1 + 1 ≡ n + length (x ∷ c) + 2 = omega arith in
    step n l x Nothing (c ++ 13 ∷ 10 ∷ more) (omega arith) other
    ∙ ap (λ t. section_from (at (n + 1) l (if t then Return else Filled)) (c ++ 13 ∷ 10 ∷ more)) filled
    ∙ run (n + 1) l c (13 ∷ 10 ∷ more) pass (omega arith)
    ∙ step (n + 1 + length c) l 13 Filled (10 ∷ more) (omega arith) refl
    ∙ feed (n + 1 + length c + 1) l more (omega arith) lines
    ∙ ap (λ k. section_from (at k (l + 1) Nothing) more) e

-- ---- field lines

-- tokens and values have no line feed, and a token has no CR
pub token_no_feed : (b : ℕ) → IsTrue (is_token_byte b) → (b == line_feed) ≡ false
unfolding is_token_byte
token_no_feed b h = excludes is_token_byte line_feed refl b h

pub token_no_return : (b : ℕ) → IsTrue (is_token_byte b) → (b == 13) ≡ false
unfolding is_token_byte
token_no_return b h = excludes is_token_byte 13 refl b h

pub token_other : (b : ℕ) → IsTrue (is_token_byte b) → IsTrue (is_other b)
token_other b h = ap not (token_no_feed b h)

pub value_other : (b : ℕ) → IsTrue (is_value_byte b) → IsTrue (is_other b)
value_other b h = ap not (excludes is_value_byte line_feed refl b h)

pub uri_other : (b : ℕ) → IsTrue (is_uri_byte b) → IsTrue (is_other b)
uri_other b h = ap not (excludes is_uri_byte line_feed refl b h)

-- a field by its name and its value, as the grammar writes it
abbrev pub pair_line : List ℕ × List ℕ → List ℕ
pair_line p = (p.0 ++ 58 ∷ 32 ∷ p.1) ++ 13 ∷ 10 ∷ []

-- it is written so
pub field_is : (name value : List ℕ) → field_line name value ≡ pair_line (name, value)
field_is name value = ap (λ l. l ++ 13 ∷ 10 ∷ []) (append_assoc name (58 ∷ 32 ∷ []) value)

abbrev pub pair_lines : List (List ℕ × List ℕ) → List ℕ
pair_lines pairs = flat_map pair_line pairs

-- a name and a value that make a field
abbrev pub IsPair : List ℕ × List ℕ → Type 0
IsPair p = IsToken p.0 × AllPass is_value_byte p.1

pair_length : (x : ℕ) (c value : List ℕ) → length (pair_line (x ∷ c, value)) ≡ length (x ∷ (c ++ 58 ∷ 32 ∷ value)) + 2
pair_length x c value = omega (arith, length-append (c ++ 58 ∷ 32 ∷ value) (13 ∷ 10 ∷ []))

pair_other : (c value : List ℕ) → AllPass is_token_byte c → AllPass is_value_byte value → AllPass is_other (c ++ 58 ∷ 32 ∷ value)
pair_other c value token values =
    let P = λ (b : ℕ). IsTrue (is_other b) in
    All-append P c (58 ∷ 32 ∷ value) (All-weaker (λ b. IsTrue (is_token_byte b)) P token_other c token)
    (All-cons P 58 (32 ∷ value) refl (All-cons P 32 value refl (All-weaker (λ b. IsTrue (is_value_byte b)) P value_other value values)))

pair_run : (n l : ℕ) (name value more : List ℕ) → IsToken name → AllPass is_value_byte value → n + length (pair_line (name, value)) ≤ HEAD_BYTES → l ≤ HEADER_FIELDS
    → section_from (at n l Nothing) (pair_line (name, value) ++ more) ≡ section_from (at (n + length (pair_line (name, value))) (l + 1) Nothing) more
pair_run n l [] value more token values few lines = absurd (omega (arith, token.0))
pair_run n l (x ∷ c) value more token values few lines =
    let P = λ (b : ℕ). IsTrue (is_token_byte b) in
    let first = All-head P x c token.1 in
    let size = pair_length x c value in
    let e : n + length (x ∷ (c ++ 58 ∷ 32 ∷ value)) + 2 ≡ n + length (pair_line (x ∷ c, value)) = omega (arith, size) in
    ap (λ t. section_from (at n l Nothing) (x ∷ t)) (append_assoc (c ++ 58 ∷ 32 ∷ value) (13 ∷ 10 ∷ []) more)
    ∙ line n l x (c ++ 58 ∷ 32 ∷ value) more (token_no_feed x first) (token_no_return x first) (pair_other c value (All-tail P x c token.1) values) (omega (arith, size)) lines
    ∙ ap (λ k. section_from (at k (l + 1) Nothing) more) e

pairs_run : (pairs : List (List ℕ × List ℕ)) (n l : ℕ) (more : List ℕ) → All IsPair pairs → n + length (pair_lines pairs) ≤ HEAD_BYTES → l + length pairs ≤ HEADER_FIELDS + 1
    → section_from (at n l Nothing) (pair_lines pairs ++ more) ≡ section_from (at (n + length (pair_lines pairs)) (l + length pairs) Nothing) more
pairs_run [] n l more ok few lines =
    let e : n ≡ n + 0 = omega arith in
    let f : l ≡ l + 0 = omega arith in
    ap (λ k. section_from (at k l Nothing) more) e ∙ ap (λ k. section_from (at (n + 0) k Nothing) more) f
pairs_run (p ∷ ps) n l more ok few lines =
    let first = All-head IsPair p ps ok in
    let size = length-append (pair_line p) (pair_lines ps) in
    let e : n + length (pair_line p) + length (pair_lines ps) ≡ n + length (pair_lines (p ∷ ps)) = omega (arith, size) in
    let f : l + 1 + length ps ≡ l + length (p ∷ ps) = omega arith in
    ap (section_from (at n l Nothing)) (append_assoc (pair_line p) (pair_lines ps) more)
    ∙ pair_run n l p.0 p.1 (pair_lines ps ++ more) first.0 first.1 (omega (arith, size)) (omega arith)
    ∙ pairs_run ps (n + length (pair_line p)) (l + 1) more (All-tail IsPair p ps ok) (omega (arith, size)) (omega arith)
    ∙ ap (λ k. section_from (at k (l + 1 + length ps) Nothing) more) e
    ∙ ap (λ k. section_from (at (n + length (pair_lines (p ∷ ps))) k Nothing) more) f

-- ---- the empty line

ends : (n l : ℕ) (more : List ℕ) → n + 2 ≤ HEAD_BYTES → 0 < l → section_from (at n l Nothing) (13 ∷ 10 ∷ more) ≡ Ended (n + 2)
ends n l more room some =
    let e : n + 1 + 1 ≡ n + 2 = omega arith in
    step n l 13 Nothing (10 ∷ more) (omega arith) refl
    ∙ ap (λ c. go more (if c then Long else after_line (at (n + 1) l Return))) (lt-leb HEAD_BYTES (n + 1) (omega arith))
    ∙ ap (λ c. go more (if c then one_more (at (n + 1) l Return) 0 Nothing else Ended (n + 1 + 1))) (differs l 0 (λ e. omega (arith, e, some)))
    ∙ ap Ended e

-- a line, field lines and an empty line are a section
pub section_of_lines : (x : ℕ) (c : List ℕ) (pairs : List (List ℕ × List ℕ)) (more : List ℕ) → (x == line_feed) ≡ false → (x == 13) ≡ false → AllPass is_other c → All IsPair pairs
    → length (x ∷ c) + 2 + length (pair_lines pairs) + 2 ≤ HEAD_BYTES → length pairs ≤ HEADER_FIELDS
    → section_from start (x ∷ (c ++ 13 ∷ 10 ∷ (pair_lines pairs ++ 13 ∷ 10 ∷ more))) ≡ Ended (length (x ∷ c) + 2 + length (pair_lines pairs) + 2)
section_of_lines x c pairs more other filled pass ok few lines =
    let e : 0 + length (x ∷ c) + 2 ≡ length (x ∷ c) + 2 = omega arith in
    line 0 0 x c (pair_lines pairs ++ 13 ∷ 10 ∷ more) other filled pass (omega arith) (omega arith)
    ∙ ap (λ k. section_from (at k 1 Nothing) (pair_lines pairs ++ 13 ∷ 10 ∷ more)) e
    ∙ pairs_run pairs (length (x ∷ c) + 2) 1 (13 ∷ 10 ∷ more) ok (omega arith) (omega arith)
    ∙ ends (length (x ∷ c) + 2 + length (pair_lines pairs)) (1 + length pairs) more few (omega arith)
