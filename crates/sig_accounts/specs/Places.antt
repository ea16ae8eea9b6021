-- Where the first publication of each id stands.
use Rattle.std.specs.Prelude.{◌≡◌, ℕ, suc, ◌<◌, List, [], ◌∷◌, All, Bool, false, Option, None, Some, bytes_eq, find, if◌then◌else◌, length, nat_eq, option_map}
use Rattle.std.specs.List.{slice_get}
use Rattle.std.specs.Map.{lookup}
use Rattle.sig_history.specs.Streams.{Publication}
use Rattle.sig_accounts.specs.PublishIds.{digest_of}

-- the first place of an id
abbrev pub first_place : List ℕ → List Publication → Option ℕ
first_place id [] = None
first_place id (p ∷ ps) = if bytes_eq p.id id then Some 0 else option_map suc (first_place id ps)

-- an index: places by digest, and the places of ids whose digest is that of another, too
pub record Index : Type 0 where
  pub given : List (ℕ × ℕ)
  pub others : List ℕ

-- an index as contracts see it: what it gives, and for how many further ids there is room
pub record Held : Type 0 where
  pub index : Index
  pub room : ℕ

-- whether a publication, if there is one, has this id
abbrev pub has_id : List ℕ → Option Publication → Bool
has_id id None = false
has_id id (Some p) = bytes_eq p.id id

-- whether the publication at a place has this id
abbrev pub stands_at : List ℕ → List Publication → ℕ → Bool
stands_at id ps place = has_id id (slice_get ps place)

-- a place, if there is one, before others
abbrev pub led_by : Option ℕ → List ℕ → List ℕ
led_by None others = others
led_by (Some place) others = place ∷ others

-- the places that an index has for an id, of which some may be those of other ids
abbrev pub candidates : Index → List ℕ → List ℕ
candidates index id = led_by (lookup (nat_eq (digest_of id)) index.given) index.others

-- the place that an index gives for an id
abbrev pub place_in : Index → List Publication → List ℕ → Option ℕ
place_in index ps id = find (stands_at id ps) (candidates index id)

-- an index of what was published: it names no place that there isn't, and gives the first place of each id and nothing else
pub record IsIndex (index : Index) (ps : List Publication) : Type 0 where
  pub given : (digest place : ℕ) → lookup (nat_eq digest) index.given ≡ Some place → place < length ps
  pub others : All (λ place. place < length ps) index.others
  pub first : (id : List ℕ) → place_in index ps id ≡ first_place id ps
