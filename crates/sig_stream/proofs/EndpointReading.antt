-- A URL spells an endpoint exactly where that endpoint is read of it.
use Rattle.std.proofs.Common.{◌≡◌, ◌∙◌, ap, sym, subst, ℕ, suc, ◌+◌, List, [], ◌∷◌, ◌++◌, Bool, true, false, Option, Some, None, refl, inl, inr, arith, true≢false, length, length-append, take, drop, append-nil, append_assoc, decimal}
use Rattle.std.specs.Prelude.{not, ◌&&◌, ◌==◌, ◌⊎◌, nat_lt, nat_eq, if◌then◌else◌, option_map, option_and_then}
use Rattle.std.specs.Char.{is_ascii_graphic}
use Rattle.std.specs.List.{list_all, position_or_len, before_first, after_first, starts_with}
use Rattle.std.specs.Str.{all_ascii_digits}
use Rattle.std.proofs.lemmas.Bool.{and_parts, ltb-true, lt-ltb}
use Rattle.std.proofs.lemmas.Bool.Decides.{Decides-eqb, eqb_tells}
use Rattle.std.proofs.lemmas.Fmt.{digits_decimal}
use Rattle.std.proofs.lemmas.List.{take-append-drop}
use Rattle.std.proofs.Math.Seq.{take-append_seam}
use Rattle.std.proofs.lemmas.List.Sums.{prefix_len-le-length}
use Rattle.std.proofs.lemmas.Slice.Eq.{starts_is}
use Rattle.sig_terms.specs.declared.endpoint.Endpoint.{Endpoint}
use Rattle.sig_stream.specs.Endpoints.{IsHost, ReadsEndpoints, Spells, SpellsPath, SpellsPort, default_port, endpoint_at, endpoint_behind, endpoint_of, from_slash, is_colon, is_host, is_host_byte, is_slash, number_in, path_in, port_in, scheme_in, scheme_of}
use Rattle.sig_stream.proofs.Cuts.{drop_all, drop_seam, from_place, lacks, past_end, place_at, place_none}
use Rattle.sig_stream.proofs.Ports.{decimal_number, number_decimal, own}

abbrev endpoint : Bool → List ℕ → ℕ → List ℕ → Endpoint
endpoint secure host port path = record { secure = secure; place = record { host = host; port = port }; path = path }

same_some : {T : Type 0} (x y : T) → Some x ≡ Some y → x ≡ y
same_some x y h = cc

-- ---- what is spelled is read

host_lacks : (c : ℕ) → is_host_byte c ≡ false → (xs : List ℕ) → list_all is_host_byte xs ≡ true → lacks c xs ≡ true
host_lacks c none [] h = refl
host_lacks c none (x ∷ xs) h =
    let p = and_parts (is_host_byte x) (list_all is_host_byte xs) h in
    elim (eqb_tells x c) [
      | inl q ↦ absurd (true≢false (sym p.0 ∙ ap is_host_byte q.1 ∙ none))
      | inr q ↦ rw (q.0, host_lacks c none xs p.1) refl
    ]

digits_lack : (c : ℕ) → all_ascii_digits (c ∷ []) ≡ false → (xs : List ℕ) → all_ascii_digits xs ≡ true → lacks c xs ≡ true
digits_lack c none [] h = refl
digits_lack c none (x ∷ xs) h =
    let p = and_parts _ (all_ascii_digits xs) h in
    elim (eqb_tells x c) [
      | inl q ↦ absurd (true≢false (sym (ap (λ t. t && true) p.0) ∙ ap (λ b. all_ascii_digits (b ∷ [])) q.1 ∙ none))
      | inr q ↦ rw (q.0, digits_lack c none xs p.1) refl
    ]

lacks_both : (c : ℕ) (xs ys : List ℕ) → lacks c xs ≡ true → lacks c ys ≡ true → lacks c (xs ++ ys) ≡ true
lacks_both c [] ys h k = k
lacks_both c (x ∷ xs) ys h k = let p = and_parts (not (x == c)) (lacks c xs) h in rw (p.0, lacks_both c xs ys p.1 k) refl

port_lacks : (secure : Bool) (port : ℕ) (text : List ℕ) → SpellsPort secure port text → lacks 47 text ≡ true
port_lacks secure port text (inl h) = ap (lacks 47) h.0
port_lacks secure port text (inr h) = ap (lacks 47) h.0 ∙ digits_lack 47 refl (decimal port) (digits_decimal own port (omega (arith, h.2)))

-- the authority, cut at its colon
host_cut : (secure : Bool) (host : List ℕ) (port : ℕ) (text : List ℕ) → lacks 58 host ≡ true → SpellsPort secure port text
    → (before_first is_colon (host ++ text) ≡ host) × (port_in secure (host ++ text) ≡ Some port)
host_cut secure host port text lack (inl h) =
    let place : position_or_len is_colon (host ++ text) ≡ length host = ap (λ t. position_or_len is_colon (host ++ t)) h.0 ∙ ap (position_or_len is_colon) (append-nil host) ∙ place_none 58 host lack in
    let whole : host ++ text ≡ host = ap (λ t. host ++ t) h.0 ∙ append-nil host in
    let past : nat_lt (position_or_len is_colon (host ++ text)) (length (host ++ text)) ≡ false =
    ap (λ n. nat_lt n (length (host ++ text))) place ∙ ap (λ t. nat_lt (length host) (length t)) whole ∙ irreflexive (length host) in (
      ap (λ n. take n (host ++ text)) place ∙ take-append_seam host text,
      ap (λ t. if t then number_in (after_first is_colon (host ++ text)) else Some (default_port secure)) past ∙ ap Some (sym h.1),
    )
  where
    irreflexive : (n : ℕ) → nat_lt n n ≡ false
    irreflexive n = grind arith
host_cut secure host port text lack (inr h) =
    let whole : host ++ text ≡ host ++ 58 ∷ decimal port = ap (λ t. host ++ t) h.0 in
    let place : position_or_len is_colon (host ++ text) ≡ length host = ap (position_or_len is_colon) whole ∙ place_at 58 host (decimal port) lack in
    let within : nat_lt (position_or_len is_colon (host ++ text)) (length (host ++ text)) ≡ true =
    ap (λ n. nat_lt n (length (host ++ text))) place ∙ ap (λ t. nat_lt (length host) (length t)) whole ∙ longer host (decimal port) in
    let behind : after_first is_colon (host ++ text) ≡ decimal port =
    ap (λ n. drop (n + 1) (host ++ text)) place ∙ ap (drop (length host + 1)) whole ∙ behind_seam host (decimal port) in (
      ap (λ n. take n (host ++ text)) place ∙ take-append_seam host text,
      ap (λ t. if t then number_in (after_first is_colon (host ++ text)) else Some (default_port secure)) within ∙ ap number_in behind ∙ number_decimal port h.1 h.2,
    )
  where
    longer : (xs ys : List ℕ) → nat_lt (length xs) (length (xs ++ 58 ∷ ys)) ≡ true
    longer xs ys = lt-ltb (length xs) (length (xs ++ 58 ∷ ys)) (omega (arith, length-append xs (58 ∷ ys)))

    behind_seam : (xs ys : List ℕ) → drop (length xs + 1) (xs ++ 58 ∷ ys) ≡ ys
    behind_seam [] ys = refl
    behind_seam (x ∷ xs) ys =
        let one : suc (length xs) + 1 ≡ suc (length xs + 1) = omega arith in
        ap (λ m. drop m (x ∷ (xs ++ 58 ∷ ys))) one ∙ behind_seam xs ys

-- a path text begins with a slash, and is visible
path_read : (path text : List ℕ) → SpellsPath path text → (path_in text ≡ path) × (list_all is_ascii_graphic text ≡ true)
path_read path text (inl h) = (ap path_in h.0 ∙ sym h.1, ap (list_all is_ascii_graphic) h.0)
path_read path text (inr h) =
    let slash : text ≡ 47 ∷ h.1.0 = h.0 ∙ h.1.1 in
    (ap path_in slash ∙ sym h.1.1, ap (list_all is_ascii_graphic) slash ∙ h.1.2)

path_place : (xs path text : List ℕ) → lacks 47 xs ≡ true → SpellsPath path text → position_or_len is_slash (xs ++ text) ≡ length xs
path_place xs path text lack (inl h) = ap (λ t. position_or_len is_slash (xs ++ t)) h.0 ∙ ap (position_or_len is_slash) (append-nil xs) ∙ place_none 47 xs lack
path_place xs path text lack (inr h) = ap (λ t. position_or_len is_slash (xs ++ t)) (h.0 ∙ h.1.1) ∙ place_at 47 xs h.1.0 lack

behind_spelled : (secure : Bool) (host : List ℕ) (port : ℕ) (path port_text path_text : List ℕ) → IsHost host → SpellsPort secure port port_text → SpellsPath path path_text
    → endpoint_behind (secure, host ++ port_text ++ path_text) ≡ Some (endpoint secure host port path)
behind_spelled secure host port path port_text path_text hosts spells_port spells_path =
    let lack : lacks 47 (host ++ port_text) ≡ true = lacks_both 47 host port_text (host_lacks 47 refl host hosts.1) (port_lacks secure port port_text spells_port) in
    let place = path_place (host ++ port_text) path path_text lack spells_path in
    let before : before_first is_slash (host ++ port_text ++ path_text) ≡ host ++ port_text = ap (λ n. take n (host ++ port_text ++ path_text)) place ∙ take-append_seam (host ++ port_text) path_text in
    let from : from_slash (host ++ port_text ++ path_text) ≡ path_text = ap (λ n. drop n (host ++ port_text ++ path_text)) place ∙ drop_seam (host ++ port_text) path_text in
    let cut = host_cut secure host port port_text (host_lacks 58 refl host hosts.1) spells_port in
    let read = path_read path path_text spells_path in
    ap (λ a. endpoint_at secure a (from_slash (host ++ port_text ++ path_text))) before ∙ ap (endpoint_at secure (host ++ port_text)) from
    ∙ at (before_first is_colon (host ++ port_text)) cut.0 (port_in secure (host ++ port_text)) cut.1 read.0 read.1
  where
    at : (h : List ℕ) → h ≡ host → (p : Option ℕ) → p ≡ Some port → path_in path_text ≡ path → list_all is_ascii_graphic path_text ≡ true
        → ◌≡◌ {A = Option Endpoint} (if is_host h && list_all is_ascii_graphic path_text then option_map (λ port. endpoint secure h port (path_in path_text)) p else None) (Some (endpoint secure host port path))
    at h same p found path_is visible =
        rw (same, found, path_is, visible, lt-ltb 0 (length host) hosts.0, hosts.1) refl

scheme_spelled : (secure : Bool) (rest : List ℕ) → scheme_in (scheme_of secure ++ rest) ≡ Some (secure, rest)
scheme_spelled true rest = refl
scheme_spelled false rest = refl

spelled : (url : List ℕ) (e : Endpoint) → Spells e url → endpoint_of url ≡ Some e
unfolding endpoint_of
spelled url e s =
    let rest = e.place.host ++ s.port ++ s.path in
    let whole : url ≡ scheme_of e.secure ++ rest =
    s.is ∙ ap (λ t. t ++ s.path) (append_assoc (scheme_of e.secure) e.place.host s.port) ∙ append_assoc (scheme_of e.secure) (e.place.host ++ s.port) s.path in
    ap (λ t. option_and_then endpoint_behind (scheme_in t)) whole ∙ ap (option_and_then endpoint_behind) (scheme_spelled e.secure rest)
    ∙ behind_spelled e.secure e.place.host e.place.port e.path s.port s.path s.host s.spells_port s.spells_path

-- ---- what is read is spelled

begins : (url prefix : List ℕ) → starts_with nat_eq url prefix ≡ true → url ≡ prefix ++ drop (length prefix) url
begins url prefix h = (starts_is Decides-eqb url prefix (starts_with nat_eq url prefix) refl).0 h

scheme_read : (url : List ℕ) (s : Bool × List ℕ) → scheme_in url ≡ Some s → url ≡ scheme_of s.0 ++ s.1
scheme_read url s h = at (starts_with nat_eq url (scheme_of true)) refl (starts_with nat_eq url (scheme_of false)) refl h
  where
    at : (a : Bool) → starts_with nat_eq url (scheme_of true) ≡ a → (b : Bool) → starts_with nat_eq url (scheme_of false) ≡ b
        → ◌≡◌ {A = Option (Bool × List ℕ)} (if a then Some (true, drop (length (scheme_of true)) url) else if b then Some (false, drop (length (scheme_of false)) url) else None) (Some s)
        → url ≡ scheme_of s.0 ++ s.1
    at true is b other h = begins url (scheme_of true) is ∙ ap (λ (p : Bool × List ℕ). scheme_of p.0 ++ p.1) (same_some _ _ h)
    at false is true other h = begins url (scheme_of false) other ∙ ap (λ (p : Bool × List ℕ). scheme_of p.0 ++ p.1) (same_some _ _ h)
    at false is false other h = cc

-- where an endpoint is made, its parts hold
made : (a b : Bool) (f : ℕ → Endpoint) (o : Option ℕ) (e : Endpoint) → ◌≡◌ {A = Option Endpoint} (if a && b then option_map f o else None) (Some e)
    → (a ≡ true) × (b ≡ true) × ((port : ℕ) × (o ≡ Some port) × (f port ≡ e))
made false b f o e h = cc
made true false f o e h = cc
made true true f None e h = cc
made true true f (Some port) e h = (refl, refl, (port, refl, same_some (f port) e h))

port_read : (secure : Bool) (authority : List ℕ) (port : ℕ) → port_in secure authority ≡ Some port → SpellsPort secure port (drop (position_or_len is_colon authority) authority)
port_read secure authority port h = at (nat_lt (position_or_len is_colon authority) (length authority)) refl h
  where
    at : (t : Bool) → nat_lt (position_or_len is_colon authority) (length authority) ≡ t
        → (if t then number_in (after_first is_colon authority) else Some (default_port secure)) ≡ Some port
        → SpellsPort secure port (drop (position_or_len is_colon authority) authority)
    at true is h =
        let number = decimal_number (after_first is_colon authority) port h in
        inr (from_place 58 authority (ltb-true _ _ is) ∙ ap (λ t. 58 ∷ t) number.0, number.1, number.2)
    at false is h =
        let last : position_or_len is_colon authority ≡ length authority = past_end (position_or_len is_colon authority) (length authority) (prefix_len-le-length (λ b. not (is_colon b)) authority) is in
        inl (ap (λ n. drop n authority) last ∙ drop_all authority, sym (same_some (default_port secure) port h))

path_spelled : (text : List ℕ) → (text ≡ []) ⊎ ((rest : List ℕ) × (text ≡ 47 ∷ rest)) → list_all is_ascii_graphic text ≡ true → SpellsPath (path_in text) text
path_spelled text (inl h) visible = inl (h, ap path_in h)
path_spelled text (inr h) visible =
    inr (h.1 ∙ sym (ap path_in h.1), (h.0, ap path_in h.1, (and_parts (is_ascii_graphic 47) (list_all is_ascii_graphic h.0) (ap (list_all is_ascii_graphic) (sym h.1) ∙ visible)).1))

from_slash_begins : (rest : List ℕ) → (from_slash rest ≡ []) ⊎ ((t : List ℕ) × (from_slash rest ≡ 47 ∷ t))
from_slash_begins rest = at (nat_lt (position_or_len is_slash rest) (length rest)) refl
  where
    at : (t : Bool) → nat_lt (position_or_len is_slash rest) (length rest) ≡ t → (from_slash rest ≡ []) ⊎ ((t : List ℕ) × (from_slash rest ≡ 47 ∷ t))
    at true is = inr (after_first is_slash rest, from_place 47 rest (ltb-true _ _ is))
    at false is = inl (ap (λ n. drop n rest) (past_end (position_or_len is_slash rest) (length rest) (prefix_len-le-length (λ b. not (is_slash b)) rest) is) ∙ drop_all rest)

at_read : (secure : Bool) (authority path : List ℕ) (e : Endpoint) → (path ≡ []) ⊎ ((rest : List ℕ) × (path ≡ 47 ∷ rest)) → endpoint_at secure authority path ≡ Some e
    → Spells e (scheme_of secure ++ (authority ++ path))
at_read secure authority path e begins h =
    let m = made (is_host (before_first is_colon authority)) (list_all is_ascii_graphic path) (λ port. endpoint secure (before_first is_colon authority) port (path_in path)) (port_in secure authority) e h in
    let host = before_first is_colon authority in
    let port_text = drop (position_or_len is_colon authority) authority in
    let hosts = and_parts (nat_lt 0 (length host)) (list_all is_host_byte host) m.0 in
    let whole : scheme_of secure ++ (authority ++ path) ≡ scheme_of secure ++ host ++ port_text ++ path =
    ap (λ t. scheme_of secure ++ (t ++ path)) (sym (take-append-drop (position_or_len is_colon authority) authority))
    ∙ sym (append_assoc (scheme_of secure) (host ++ port_text) path) ∙ ap (λ t. t ++ path) (sym (append_assoc (scheme_of secure) host port_text)) in
    subst (λ e. Spells e (scheme_of secure ++ (authority ++ path))) m.2.2 (record {
      port = port_text;
      path = path;
      is = whole;
      host = (ltb-true _ _ hosts.0, hosts.1);
      spells_port = port_read secure authority m.2.0 m.2.1;
      spells_path = path_spelled path begins m.1;
    })

read : (url : List ℕ) (e : Endpoint) → endpoint_of url ≡ Some e → Spells e url
unfolding endpoint_of
read url e h = at (scheme_in url) refl h
  where
    at : (o : Option (Bool × List ℕ)) → scheme_in url ≡ o → option_and_then endpoint_behind o ≡ Some e → Spells e url
    at None is h = cc
    at (Some s) is h =
        let whole : url ≡ scheme_of s.0 ++ (before_first is_slash s.1 ++ from_slash s.1) =
        scheme_read url s is ∙ ap (λ t. scheme_of s.0 ++ t) (sym (take-append-drop (position_or_len is_slash s.1) s.1)) in
        subst (Spells e) (sym whole) (at_read s.0 (before_first is_slash s.1) (from_slash s.1) e (from_slash_begins s.1) h)

pub reads_endpoints : ReadsEndpoints
reads_endpoints url e = (spelled url e, read url e)
