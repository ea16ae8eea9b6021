-- A text spells a place exactly where that place is read of it.
use Rattle.std.proofs.Common.{◌≡◌, ◌∙◌, ap, sym, ℕ, List, [], ◌∷◌, ◌++◌, append-nil, append_assoc, Bool, true, false, Option, Some, None, refl, inl, inr, arith, true≢false, drop, decimal, length}
use Rattle.std.specs.Prelude.{◌&&◌, ◌||◌, ◌==◌, ◌⊎◌, not, codes, option_map, slice_index, if◌then◌else◌}
use Rattle.std.specs.List.{list_all, list_any}
use Rattle.std.specs.Str.{all_ascii_digits}
use Rattle.std.proofs.lemmas.Bool.{and_parts}
use Rattle.std.proofs.lemmas.Bool.Decides.{eqb_tells}
use Rattle.std.proofs.lemmas.Fmt.{digits_decimal}
use Rattle.std.proofs.lemmas.List.Folds.{list_any-append}
use Rattle.sig_outside.specs.declared.place.Place.{Place}
use Rattle.sig_terms.specs.declared.endpoint.Endpoint.{Endpoint}
use Rattle.sig_stream.specs.Endpoints.{IsHost, Spells, SpellsPath, SpellsPort, endpoint_of, is_colon, is_host_byte, is_slash, scheme_of}
use Rattle.sig_stream.proofs.EndpointReading.{reads_endpoints}
use Rattle.sig_stream.proofs.Ports.{own}
use Rattle.sig_settings.specs.Places.{ReadsPlaces, SpellsPlace, names_port, place_in, place_of}

-- ---- a byte in a text

-- a byte that fails a test is none of those that pass it
none_in : (c : ℕ) (test : ℕ → Bool) → test c ≡ false → (xs : List ℕ) → list_all test xs ≡ true → list_any (λ b. b == c) xs ≡ false
none_in c test none [] h = refl
none_in c test none (x ∷ xs) h =
    let p = and_parts (test x) (list_all test xs) h in
    elim (eqb_tells x c) [
      | inl q ↦ absurd (true≢false (sym p.0 ∙ ap test q.1 ∙ none))
      | inr q ↦ rw (q.0, none_in c test none xs p.1) refl
    ]

no_digit : (c : ℕ) → all_ascii_digits (c ∷ []) ≡ false → (xs : List ℕ) → all_ascii_digits xs ≡ true → list_any (λ b. b == c) xs ≡ false
no_digit c none [] h = refl
no_digit c none (x ∷ xs) h =
    let p = and_parts _ (all_ascii_digits xs) h in
    elim (eqb_tells x c) [
      | inl q ↦ absurd (true≢false (sym (ap (λ t. t && true) p.0) ∙ ap (λ b. all_ascii_digits (b ∷ [])) q.1 ∙ none))
      | inr q ↦ rw (q.0, no_digit c none xs p.1) refl
    ]

or_true : (a : Bool) → (a || true) ≡ true
or_true true = refl
or_true false = refl

-- a text with a byte in its middle has it
any_middle : (c : ℕ) → (c == c) ≡ true → (xs ys : List ℕ) → list_any (λ b. b == c) (xs ++ c ∷ ys) ≡ true
any_middle c same [] ys = ap (λ t. t || list_any (λ b. b == c) ys) same
any_middle c same (x ∷ xs) ys = ap (λ t. (x == c) || t) (any_middle c same xs ys) ∙ or_true (x == c)

-- ---- what is spelled is read

endpoint_at : Place → Endpoint
endpoint_at place = record { secure = false; place = place; path = codes "/" }

named : (place : Place) (text : List ℕ) → SpellsPlace place text → names_port text ≡ true
named place text s =
    let colon : list_any is_colon text ≡ true = ap (list_any is_colon) s.is ∙ ap (list_any is_colon) (append_assoc place.host (codes ":") (decimal place.port)) ∙ any_middle 58 refl place.host (decimal place.port) in
    let slash : list_any is_slash text ≡ false =
    ap (list_any is_slash) (s.is ∙ append_assoc place.host (codes ":") (decimal place.port))
    ∙ list_any-append is_slash place.host (58 ∷ decimal place.port)
    ∙ ap (λ t. t || list_any is_slash (58 ∷ decimal place.port)) (none_in 47 is_host_byte refl place.host s.host.1)
    ∙ no_digit 47 refl (decimal place.port) (digits_decimal own place.port (omega (arith, s.high))) in
    rw (colon, slash) refl

spelled : (text : List ℕ) (place : Place) → SpellsPlace place text → place_of text ≡ Some place
unfolding endpoint_at
spelled text place s =
    let spells : Spells (endpoint_at place) (codes "http://" ++ text) = record {
      port = codes ":" ++ decimal place.port;
      path = [];
      is = ap (λ t. codes "http://" ++ t) (s.is ∙ append_assoc place.host (codes ":") (decimal place.port)) ∙ sym (append-nil _);
      host = s.host;
      spells_port = inr (refl, s.low, s.high);
      spells_path = inl (refl, refl);
    } in
    ap (λ t. if t then option_map place_in (endpoint_of (codes "http://" ++ text)) else None) (named place text s)
    ∙ ap (option_map place_in) ((reads_endpoints (codes "http://" ++ text) (endpoint_at place)).0 spells)

-- ---- what is read is spelled

-- the scheme is `http`
insecure : (secure : Bool) (rest text : List ℕ) → scheme_of secure ++ rest ≡ codes "http://" ++ text → secure ≡ false
insecure true rest text h = absurd (omega (arith, ap (λ t. slice_index t 4) h))
insecure false rest text h = refl

-- no path stands in a text without a slash
no_path : (path text front : List ℕ) → SpellsPath path text → list_any is_slash (front ++ text) ≡ false → text ≡ []
no_path path text front (inl h) none = h.0
no_path path text front (inr h) none =
    absurd (true≢false (sym (any_middle 47 refl front h.1.0) ∙ ap (λ t. list_any is_slash (front ++ t)) (sym (h.0 ∙ h.1.1)) ∙ none))

-- a port stands in an authority with a colon
port_there : (host : List ℕ) (port : ℕ) (text : List ℕ) → IsHost host → SpellsPort false port text → list_any is_colon (host ++ text) ≡ true → SpellsPlace (record { host = host; port = port }) (host ++ text)
port_there host port text hosts (inl h) colon =
    absurd (true≢false (sym colon ∙ ap (λ t. list_any is_colon (host ++ t)) h.0 ∙ ap (list_any is_colon) (append-nil host) ∙ none_in 58 is_host_byte refl host hosts.1))
port_there host port text hosts (inr h) colon =
    record { is = ap (λ t. host ++ t) h.0 ∙ sym (append_assoc host (codes ":") (decimal port)); host = hosts; low = h.1; high = h.2 }

authority : (e : Endpoint) (text : List ℕ) (s : Spells e (codes "http://" ++ text)) → (text ≡ e.place.host ++ s.port ++ s.path) × (e.secure ≡ false)
authority e text s =
    let rest = e.place.host ++ s.port ++ s.path in
    let whole : codes "http://" ++ text ≡ scheme_of e.secure ++ rest =
    s.is ∙ ap (λ t. t ++ s.path) (append_assoc (scheme_of e.secure) e.place.host s.port) ∙ append_assoc (scheme_of e.secure) (e.place.host ++ s.port) s.path in
    let plain : e.secure ≡ false = insecure e.secure rest text (sym whole) in
    (ap (drop 7) (whole ∙ ap (λ b. scheme_of b ++ rest) plain), plain)

at_endpoint : (e : Endpoint) (text : List ℕ) → names_port text ≡ true → Spells e (codes "http://" ++ text) → SpellsPlace e.place text
at_endpoint e text names s =
    let p = and_parts (list_any is_colon text) (not (list_any is_slash text)) names in
    let cut = authority e text s in
    let slash : list_any is_slash text ≡ false = not_true (list_any is_slash text) p.1 in
    let path : s.path ≡ [] = no_path e.path s.path (e.place.host ++ s.port) s.spells_path (ap (list_any is_slash) (sym cut.0) ∙ slash) in
    let whole : text ≡ e.place.host ++ s.port = cut.0 ∙ ap (λ t. e.place.host ++ s.port ++ t) path ∙ append-nil (e.place.host ++ s.port) in
    let spells = port_there e.place.host e.place.port s.port s.host (insecure_port e.secure cut.1 s.spells_port) (ap (list_any is_colon) (sym whole) ∙ p.0) in
    record { is = whole ∙ spells.is; host = spells.host; low = spells.low; high = spells.high }
  where
    not_true : (b : Bool) → not b ≡ true → b ≡ false
    not_true true h = sym h
    not_true false h = refl

    insecure_port : (secure : Bool) → secure ≡ false → SpellsPort secure e.place.port s.port → SpellsPort false e.place.port s.port
    insecure_port true h spells = absurd (true≢false h)
    insecure_port false h spells = spells

read : (text : List ℕ) (place : Place) → place_of text ≡ Some place → SpellsPlace place text
read text place h = at (names_port text) refl h
  where
    moved : (one other : Place) → one ≡ other → SpellsPlace one text → SpellsPlace other text
    moved one other same spells =
        record {
          is = spells.is ∙ ap (λ (p : Place). p.host ++ codes ":" ++ decimal p.port) same;
          host = (omega (arith, spells.host.0, ap (λ (p : Place). length p.host) same), ap (λ (p : Place). list_all is_host_byte p.host) (sym same) ∙ spells.host.1);
          low = omega (arith, spells.low, ap (λ (p : Place). p.port) same);
          high = omega (arith, spells.high, ap (λ (p : Place). p.port) same);
        }

    found : (o : Option Endpoint) → endpoint_of (codes "http://" ++ text) ≡ o → names_port text ≡ true → option_map place_in o ≡ Some place → SpellsPlace place text
    found None is names h = cc
    found (Some e) is names h =
        let same : e.place ≡ place = cc in
        let spells = at_endpoint e text names ((reads_endpoints (codes "http://" ++ text) e).1 is) in
        moved e.place place same spells

    at : (t : Bool) → names_port text ≡ t → ◌≡◌ {A = Option Place} (if t then option_map place_in (endpoint_of (codes "http://" ++ text)) else None) (Some place) → SpellsPlace place text
    at true is h = found (endpoint_of (codes "http://" ++ text)) refl is h
    at false is h = cc

pub reads_places : ReadsPlaces
reads_places text place = (spelled text place, read text place)
