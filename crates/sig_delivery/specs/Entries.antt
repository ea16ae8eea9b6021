-- How bodies are put together: tokens of a poll response by their payloads in an ordered map, and the members of a poll request.
use Rattle.std.specs.Prelude.{ℕ, List, [], ◌∷◌, ◌++◌, Bool, Option, Some, None, codes, if◌then◌else◌}
use Rattle.std.specs.BTreeMap.{insert_entry}
use Rattle.std.specs.Ordering.{nat_cmp}
use Rattle.std.specs.Cmp.Lexicographic.{slice_cmp}
use Rattle.json.specs.Print.{quoted}
use Rattle.serde_json.specs.Data.{Members, number, unsigned, put}
use Rattle.serde_json.specs.Written.{comma_if}
use Rattle.sig_jws.specs.Compact.{signed}
use Rattle.sig_set.specs.Written.{payload_text_of}
use Rattle.sig_terms.specs.declared.token.Token.{Token}
use Rattle.sig_delivery.specs.declared.sets.Listed.{Listed}
use Rattle.sig_delivery.specs.Sets.{listed_as}

-- the payloads of tokens under their identifiers, and of several tokens of one identifier the first
abbrev pub payload_entries : List Token → List (List ℕ × List ℕ)
payload_entries [] = []
payload_entries (t ∷ ts) = insert_entry (slice_cmp nat_cmp) (payload_entries ts) t.claims.jti (payload_text_of t.claims)

-- the tokens of these payloads, with this header and under this key
abbrev pub signed_entries : List ℕ → List ℕ → List (List ℕ × List ℕ) → List Listed
signed_entries header key [] = []
signed_entries header key (e ∷ es) = listed_as e.0 (signed header e.1 key) ∷ signed_entries header key es

-- how the text begins
abbrev pub start_of : Bool → List ℕ
start_of more = if more then codes "{\"moreAvailable\":true,\"sets\":{" else codes "{\"moreAvailable\":false,\"sets\":{"

-- an identifier as the name of a member, after a comma where members stand before it
abbrev pub name_text : Bool → List ℕ → List ℕ
name_text later name = comma_if later ++ (quoted name ++ 58 ∷ [])

-- the members, with `maxEvents` where there is one
abbrev pub put_max : Option ℕ → Members → Members
put_max None ms = ms
put_max (Some n) ms = put (codes "maxEvents") (number (unsigned n)) ms
