-- No byte of an endpoint or an authorization that is wanted ends a line.
use Rattle.std.proofs.Common.{◌≡◌, sym, subst, ℕ, ◌<◌, ◌≤◌, ◌^◌, List, [], ◌∷◌, ◌++◌, Bool, true, false, ◌&&◌, ◌||◌, ◌==◌, ap, ◌∙◌, not, length, Option, Some, None, IfSome, codes, refl, inl, inr, arith}
use Rattle.std.specs.Prelude.{nat_le}
use Rattle.std.specs.Char.{is_ascii_graphic}
use Rattle.std.specs.List.{list_all, list_any}
use Rattle.std.proofs.lemmas.Bool.{and_from, and_parts, eqb-true, le-leb, leb-true, or_cases}
use Rattle.std.proofs.lemmas.List.Folds.{list_any-append}
use Rattle.sig_http.specs.Targets.{has_fragment, is_hash}
use Rattle.sig_terms.specs.declared.endpoint.Endpoint.{Endpoint}
use Rattle.sig_stream.specs.Endpoints.{Spells, SpellsPath, SpellsPort, default_port, is_host_byte, scheme_of}
use Rattle.sig_stream.specs.declared.limits.TheConstants.{AUTHORIZATION_BYTES, ENDPOINT_URL_BYTES}
use Rattle.sig_stream.specs.Wants.{is_field, is_field_byte}
use Rattle.sig_stream.proofs.EndpointReading.{reads_endpoints}
use Rattle.sig_push_laws.specs.Heads.{IsSafe, IsShort, WantedPushesAreSafe, WantedPushesAreShort, is_inline, is_visible}
use Rattle.sig_push_laws.proofs.WantedLemmas.{IsRead, wanted_read}

-- what passes one test passes another
pub all_weaker : (p q : ℕ → Bool) → ((b : ℕ) → p b ≡ true → q b ≡ true) → (bs : List ℕ) → list_all p bs ≡ true → list_all q bs ≡ true
all_weaker p q implies [] h = refl
all_weaker p q implies (b ∷ bs) h =
    let both = and_parts (p b) (list_all p bs) h in
    and_from (q b) (list_all q bs) (implies b both.0) (all_weaker p q implies bs both.1)

visible : (b : ℕ) → 33 ≤ b → b ≤ 126 → is_visible b ≡ true
visible b low high = and_from (nat_le 33 b) (nat_le b 126) (le-leb 33 b low) (le-leb b 126 high)

graphic_visible : (b : ℕ) → is_ascii_graphic b ≡ true → is_visible b ≡ true
graphic_visible b h = h

within : (low high b : ℕ) → 33 ≤ low → high ≤ 126 → (nat_le low b && nat_le b high) ≡ true → is_visible b ≡ true
within low high b least most h =
    let both = and_parts (nat_le low b) (nat_le b high) h in
    let above : low ≤ b = leb-true low b both.0 in
    let below : b ≤ high = leb-true b high both.1 in
    visible b (omega arith) (omega arith)

host_visible : (b : ℕ) → is_host_byte b ≡ true → is_visible b ≡ true
host_visible b h = elim (or_cases _ (b == 45) h) [
  | inl word ↦ elim (or_cases _ (b == 46) word) [
    | inl letter ↦ elim (or_cases _ _ letter) [
      | inl more ↦ elim (or_cases _ _ more) [
        | inl digit ↦ within 48 57 b (omega arith) (omega arith) digit
        | inr upper ↦ within 65 90 b (omega arith) (omega arith) upper
      ]
      | inr lower ↦ within 97 122 b (omega arith) (omega arith) lower
    ]
    | inr dot ↦ let is : b ≡ 46 = eqb-true b 46 dot in visible b (omega arith) (omega arith)
  ]
  | inr dash ↦ let is : b ≡ 45 = eqb-true b 45 dash in visible b (omega arith) (omega arith)
]

field_inline : (b : ℕ) → is_field_byte b ≡ true → is_inline b ≡ true
field_inline b h = elim (or_cases (is_ascii_graphic b) (b == 32) h) [
  | inl seen ↦ let both = and_parts (nat_le 33 b) (nat_le b 126) seen in
      let above : 33 ≤ b = leb-true 33 b both.0 in
      and_from (nat_le 32 b) (nat_le b 126) (le-leb 32 b (omega arith)) both.1
  | inr space ↦ let is : b ≡ 32 = eqb-true b 32 space in
      and_from (nat_le 32 b) (nat_le b 126) (le-leb 32 b (omega arith)) (le-leb b 126 (omega arith))
]

port_least : (secure : Bool) → (1 ≤ default_port secure) × (default_port secure < 2 ^ 16)
port_least true = (omega arith, omega arith)
port_least false = (omega arith, omega arith)

port_within : (secure : Bool) (port : ℕ) (text : List ℕ) → SpellsPort secure port text → (1 ≤ port) × (port < 2 ^ 16)
port_within secure port text (inl none) =
    let given = port_least secure in
    let least : 1 ≤ default_port secure = given.0 in
    let most : default_port secure < 2 ^ 16 = given.1 in
    let is : port ≡ default_port secure = none.1 in (omega arith, omega arith)
port_within secure port text (inr some) = (some.1, some.2)

-- a path begins with a slash, and is visible
record IsPath (path : List ℕ) : Type 0 where
  visible : list_all is_visible path ≡ true
  rooted : (rest : List ℕ) × (path ≡ codes "/" ++ rest)

path_safe : (path text : List ℕ) → SpellsPath path text → IsPath path
path_safe path text (inl none) = subst IsPath (sym none.1) (record { visible = refl; rooted = ([], refl) })
path_safe path text (inr some) =
    let (rest, is, seen) = some.1 in
    subst IsPath (sym is) (record { visible = all_weaker is_ascii_graphic is_visible graphic_visible rest seen; rooted = (rest, refl) })

shown_inline : (o : Option (List ℕ)) → IfSome o (λ text. is_field text ≡ true) → IfSome o (λ text. list_all is_inline text ≡ true)
shown_inline None h = tt
shown_inline (Some text) h =
    let both = and_parts (nat_le (length text) AUTHORIZATION_BYTES) (list_all is_field_byte text) h in
    all_weaker is_field_byte is_inline field_inline text both.1

shown_short : (o : Option (List ℕ)) → IfSome o (λ text. is_field text ≡ true) → IfSome o (λ text. length text ≤ 8192)
shown_short None h = tt
shown_short (Some text) h =
    let both = and_parts (nat_le (length text) AUTHORIZATION_BYTES) (list_all is_field_byte text) h in
    leb-true (length text) AUTHORIZATION_BYTES both.0

-- a URL without `#` has a path without

last_fails : (a b : Bool) → (a || b) ≡ false → b ≡ false
last_fails true b h = cc
last_fails false b h = h

not_so : (b : Bool) → not b ≡ true → b ≡ false
not_so true h = cc
not_so false h = refl

path_plain : (path text : List ℕ) → SpellsPath path text → list_any is_hash text ≡ false → has_fragment path ≡ false
path_plain path text (inl none) h = ap has_fragment none.1
path_plain path text (inr some) h = ap has_fragment (sym some.0) ∙ h

spelled_plain : (endpoint : Endpoint) (url : List ℕ) → Spells endpoint url → list_any is_hash url ≡ false → has_fragment endpoint.path ≡ false
spelled_plain endpoint url spells h =
    let front : List ℕ = scheme_of endpoint.secure ++ endpoint.place.host ++ spells.port in
    path_plain endpoint.path spells.path spells.spells_path
    (last_fails (list_any is_hash front) (list_any is_hash spells.path)
    (sym (list_any-append is_hash front spells.path) ∙ ap (list_any is_hash) (sym spells.is) ∙ h))

-- the two tests of a URL
record IsTaken (url : List ℕ) : Type 0 where
  short : length url ≤ 2048
  plain : list_any is_hash url ≡ false

url_taken : (endpoint : Endpoint) (url : List ℕ) (authorization : Option (List ℕ)) → IsRead endpoint url authorization → IsTaken url
url_taken endpoint url authorization read =
    let both = and_parts (nat_le (length url) ENDPOINT_URL_BYTES) (not (list_any is_hash url)) read.taken in
    record { short = leb-true (length url) ENDPOINT_URL_BYTES both.0; plain = not_so (list_any is_hash url) both.1 }

pub read_safe : (endpoint : Endpoint) (url : List ℕ) (authorization : Option (List ℕ)) → IsRead endpoint url authorization → IsSafe endpoint authorization
read_safe endpoint url authorization read =
    let spells : Spells endpoint url = (reads_endpoints url endpoint).1 read.spelled in
    let path : IsPath endpoint.path = path_safe endpoint.path spells.path spells.spells_path in
    let port = port_within endpoint.secure endpoint.place.port spells.port spells.spells_port in
    record {
      host = all_weaker is_host_byte is_visible host_visible endpoint.place.host spells.host.1;
      least = port.0;
      most = port.1;
      path = path.visible;
      rooted = path.rooted;
      plain = spelled_plain endpoint url spells (url_taken endpoint url authorization read).plain;
      shown = shown_inline authorization read.shown;
    }

pub pushes_safe : WantedPushesAreSafe
pushes_safe gateway body endpoint url authorization wants =
    read_safe endpoint url authorization (wanted_read gateway body endpoint url authorization wants)

pub read_short : (endpoint : Endpoint) (url : List ℕ) (authorization : Option (List ℕ)) → IsRead endpoint url authorization → IsShort url authorization
read_short endpoint url authorization read =
    record { url_bytes = (url_taken endpoint url authorization read).short; shown_bytes = shown_short authorization read.shown }

pub pushes_short : WantedPushesAreShort
pushes_short gateway body endpoint url authorization wants =
    read_short endpoint url authorization (wanted_read gateway body endpoint url authorization wants)
