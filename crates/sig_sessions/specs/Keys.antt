-- The keys under which a row stands, by its subject, and those under which the rows are that cover a subject.
use Rattle.std.specs.Prelude.{◌≡◌, ℕ, suc, List, [], ◌∷◌, ◌++◌, ◌||◌, Bool, true, not, Option, Some, None, bytes_eq, codes, find, map, nat_eq, slice_get}
use Rattle.std.specs.List.{list_any}
use Rattle.sig_json.specs.Checks.{or_else}
use Rattle.sig_places.specs.declared.entry.Entry.{Entry}
use Rattle.sig_subject.specs.declared.member.Member.{Member}
use Rattle.sig_subject.specs.declared.simple.Simple.{Simple}
use Rattle.sig_subject.specs.declared.subject.Subject.{Subject}
use Rattle.sig_subject.specs.declared.subject.Subject.TheVariants as subject
use Rattle.sig_sessions.specs.Fingerprint.{of_simple, with_byte}
use Rattle.sig_sessions.specs.declared.keys.TheConstants.{COMPLEX, NO_PART}

-- the key of a simple subject
abbrev pub own_key : Simple → ℕ
own_key s = with_byte (of_simple s) 0

-- the key of complex subjects that have this part
abbrev pub part_key : Simple → ℕ
part_key s = with_byte (of_simple s) 1

-- the key of complex subjects whose anchor this part is
abbrev pub anchor_key : Simple → ℕ
anchor_key s = with_byte (of_simple s) 2

-- whether many subjects are likely to share a part of this name
abbrev pub is_shared : List ℕ → Bool
is_shared name = bytes_eq name (codes "application") || bytes_eq name (codes "group") || bytes_eq name (codes "org_unit") || bytes_eq name (codes "tenant")

-- the first part that isn't likely to be shared, else the first
abbrev pub anchor : List Member → Option Member
anchor parts = or_else (find (λ (m : Member). not (is_shared m.name)) parts) (slice_get parts 0)

abbrev pub key_of_anchor : Option Member → ℕ
key_of_anchor None = NO_PART
key_of_anchor (Some m) = anchor_key m.simple

-- the keys of a row of the subject
abbrev pub keys_of : Subject → List ℕ
keys_of (subject.Simple s) = own_key s ∷ []
keys_of (subject.Complex parts) = COMPLEX ∷ key_of_anchor (anchor parts) ∷ map (λ (m : Member). part_key m.simple) parts

-- a row's entries
abbrev pub entries_at : ℕ → List ℕ → List Entry
entries_at place keys = map (λ k. record { key = k; place = place }) keys

-- the entries of rows of these subjects, from this place on
abbrev pub entries_from : ℕ → List Subject → List Entry
entries_from place [] = []
entries_from place (s ∷ ss) = entries_at place (keys_of s) ++ entries_from (suc place) ss

-- whether the key is one of them
abbrev pub has_key : ℕ → List ℕ → Bool
has_key key keys = list_any (nat_eq key) keys

-- the keys under which rows of simple subjects are that are one of the parts, and of complex ones whose anchor is
abbrev pub keys_of_parts : List Member → List ℕ
keys_of_parts [] = []
keys_of_parts (m ∷ parts) = own_key m.simple ∷ anchor_key m.simple ∷ keys_of_parts parts

-- the keys under which the rows are that cover the subject, and its own
abbrev pub covering_keys : Subject → List ℕ
covering_keys (subject.Simple s) = own_key s ∷ []
covering_keys (subject.Complex parts) = NO_PART ∷ keys_of_parts parts

-- each row of a complex subject that has all of these parts stands under the key
abbrev pub IsKeyOfAll : List Member → ℕ → Type 0
IsKeyOfAll [] key = key ≡ COMPLEX
IsKeyOfAll parts key = (list_any (λ (m : Member). nat_eq (part_key m.simple) key) parts) ≡ true

-- under one of these keys each row stands that the subject covers, and its own
abbrev pub AreCoveredKeys : Subject → ℕ × Option ℕ → Type 0
AreCoveredKeys (subject.Simple s) keys = (keys.0 ≡ own_key s) × (keys.1 ≡ Some (part_key s))
AreCoveredKeys (subject.Complex parts) keys = IsKeyOfAll parts keys.0 × (keys.1 ≡ None)
