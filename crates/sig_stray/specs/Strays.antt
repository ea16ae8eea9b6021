-- The members of settings that nothing is taken of, over the tree of a text: the tree has an object's members in their order, and all
-- of them (RFC 8259, section 4).
use Rattle.std.specs.Prelude.{ℕ, ◌+◌, List, [], ◌∷◌, ◌++◌, map, Bool, bytes_eq, Option, Some, None, if◌then◌else◌}
use Rattle.std.specs.List.{list_any}
use Rattle.std.specs.Str.{is_utf8}
use Rattle.json.specs.Json.{Json, null, boolean, number, string, array, object, Items, no_items, item, Members, no_members, member, document}
use Rattle.sig_settings.specs.declared.path.Step.{Step}
use Rattle.sig_settings.specs.declared.path.Step.TheVariants.{Member, Place}
use Rattle.sig_stray.specs.declared.stray.Stray.{Stray}
use Rattle.sig_stray.specs.declared.stray.StrayKind.{StrayKind}
use Rattle.sig_stray.specs.declared.stray.StrayKind.TheVariants.{Unknown, Twice}
use Rattle.sig_stray.specs.declared.table.ObjectKind.{ObjectKind}
use Rattle.sig_stray.specs.declared.table.Holds.{Holds}
use Rattle.sig_stray.specs.declared.table.Holds.TheVariants as holds
use Rattle.sig_stray.specs.Table.{held}

-- the value itself is stray
abbrev pub itself : StrayKind → Stray
itself kind = record { kind = kind; path = [] }

-- a stray of the value at a step
abbrev pub deeper : Step → Stray → Stray
deeper step stray = record { kind = stray.kind; path = step ∷ stray.path }

abbrev pub under : Step → List Stray → List Stray
under step strays = map (deeper step) strays

-- one of these names is this one
abbrev pub is_named : List ℕ → List (List ℕ) → Bool
is_named name names = list_any (λ other. bytes_eq other name) names

-- the value itself, where it is stray
abbrev pub strays_if : Bool → StrayKind → List Stray
strays_if is kind = if is then itself kind ∷ [] else []

-- what is said of a kind, where a list of it or an object of it is held
abbrev pub where_list : Holds → (ObjectKind → List Stray) → List Stray
where_list holds.Value strays = []
where_list (holds.Object kind) strays = []
where_list (holds.List kind) strays = strays kind

abbrev pub where_object : Holds → (ObjectKind → List Stray) → List Stray
where_object holds.Value strays = []
where_object (holds.Object kind) strays = strays kind
where_object (holds.List kind) strays = []

-- The strays of a member, by what it holds where it is known, by whether one of its name stands before it, and by those in what it
-- holds. What an unknown member holds isn't looked at.
abbrev pub known_strays : Option Holds → Bool → (Holds → List Stray) → List Stray
known_strays None again inside = itself Unknown ∷ []
known_strays (Some h) again inside = strays_if again Twice ++ inside h

-- The strays in what is held, in the order in which they stand: a member comes before what stands in it. A value of another kind
-- has none.
abbrev mutual
  pub held_strays : Holds → Json → List Stray
  held_strays h null = []
  held_strays h (boolean b) = []
  held_strays h (number s) = []
  held_strays h (string s) = []
  held_strays h (array js) = where_list h (λ kind. item_strays kind 0 js)
  held_strays h (object ms) = where_object h (λ kind. member_strays kind [] ms)

  -- of the items from this place on
  pub item_strays : ObjectKind → ℕ → Items → List Stray
  item_strays kind n no_items = []
  item_strays kind n (item j js) = under (Place n) (held_strays (holds.Object kind) j) ++ item_strays kind (n + 1) js

  -- of the members that stand after members of those names
  pub member_strays : ObjectKind → List (List ℕ) → Members → List Stray
  member_strays kind before no_members = []
  member_strays kind before (member name j ms) =
      under (Member name) (known_strays (held kind name) (is_named name before) (λ h. held_strays h j))
      ++ member_strays kind (before ++ name ∷ []) ms

-- the tree that bytes spell
abbrev pub tree_of : List ℕ → Option Json
tree_of bytes = if is_utf8 bytes then document bytes else None

abbrev pub where_tree : ObjectKind → Option Json → List Stray
where_tree kind None = []
where_tree kind (Some j) = held_strays (holds.Object kind) j

-- the strays of settings of a kind, where the bytes spell such a tree
abbrev pub strays_of : ObjectKind → List ℕ → List Stray
strays_of kind bytes = where_tree kind (tree_of bytes)
