-- The fields of a head, as names and values in order (RFC 9110, section 5). Names are compared in any case of their letters.
use Rattle.std.specs.Prelude.{ℕ, Bool, ◌&&◌, not, List, [], ◌∷◌, map, if◌then◌else◌, Option, Some, None, codes}
use Rattle.std.specs.List.{list_any, list_all}
use Rattle.std.specs.Str.{str_eq_ignore_ascii_case}
use Rattle.httparse.specs.declared.spans.HeaderSpan.{HeaderSpan}
use Rattle.httparse.specs.Spans.{header_bytes}
use Rattle.sig_http.specs.Values.{is_number, is_same_number, says_close}

-- the fields that spans cover
abbrev pub fields_at : List ℕ → List HeaderSpan → List (List ℕ × List ℕ)
fields_at bytes headers = map (header_bytes bytes) headers

-- the field has this name
abbrev pub is_named : List ℕ → List ℕ × List ℕ → Bool
is_named name field = str_eq_ignore_ascii_case field.0 name

-- the value of the first field of this name
abbrev pub first_value : List ℕ → List (List ℕ × List ℕ) → Option (List ℕ)
first_value name [] = None
first_value name (field ∷ fields) = if is_named name field then Some field.1 else first_value name fields

-- each field of this name has this word as its value
abbrev pub all_say : List ℕ → List ℕ → List (List ℕ × List ℕ) → Bool
all_say name word fields = list_all (λ field. not (is_named name field && not (str_eq_ignore_ascii_case field.1 word))) fields

-- each field `content-length` has a number, and the same as this one (RFC 9112, section 6.3)
abbrev pub lengths_are : List ℕ → List (List ℕ × List ℕ) → Bool
lengths_are first fields =
    list_all (λ field. not (is_named (codes "content-length") field && not (is_number field.1 && is_same_number field.1 first))) fields

-- a field `connection` says `close` (RFC 9112, section 9.6)
abbrev pub closes : List (List ℕ × List ℕ) → Bool
closes fields = list_any (λ field. is_named (codes "connection") field && says_close field.1) fields
