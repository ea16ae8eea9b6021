-- How the entries of a key lead from one to the one before it.
use Rattle.std.specs.Prelude.{◌≡◌, ◌<◌, ◌≤◌, ◌+◌, ◌-◌, ℕ, List, Option, length, take, slice_index_or, unwrap_or}
use Rattle.sig_places.specs.declared.entry.Entry.{Entry}
use Rattle.sig_places.specs.declared.entry.Link.{Link}
use Rattle.sig_places.specs.Places.{places_of}

-- the number is 0, or that of an entry of the key, counted from 1
abbrev pub IsOwn : ℕ → ℕ → List Entry → Type 0
IsOwn key number entries = 0 < number → (d : Entry) → (slice_index_or entries (number - 1) d).key ≡ key

-- the number of the newest entry of a key among the first so many, counted from 1, or 0 where it has none
pub record IsNewest (key number many : ℕ) (entries : List Entry) : Type 0 where
  pub within : number ≤ many
  pub all : places_of key (take many entries) ≡ places_of key (take number entries)
  pub own : IsOwn key number entries

-- each entry has its link, and this leads to the newest one of its key before it, and counts those of its key up to it
pub record AreLinked (entries : List Entry) (links : List Link) : Type 0 where
  pub each : length links ≡ length entries
  pub previous : (i : ℕ) (d : Entry) (l : Link) → i < length entries → IsNewest (slice_index_or entries i d).key (slice_index_or links i l).previous i entries
  pub count : (i : ℕ) (d : Entry) (l : Link) → i < length entries → (slice_index_or links i l).count ≡ length (places_of (slice_index_or entries i d).key (take (i + 1) entries))

-- each key leads to its newest entry
pub record IsChained (newest : ℕ → Option ℕ) (entries : List Entry) (links : List Link) : Type 0 where
  pub linked : AreLinked entries links
  pub heads : (key : ℕ) → IsNewest key (unwrap_or (newest key) 0) (length entries) entries

-- from this number on the entries of the key lead to one another
pub record IsChain (key number : ℕ) (entries : List Entry) (links : List Link) : Type 0 where
  pub linked : AreLinked entries links
  pub within : number ≤ length entries
  pub own : IsOwn key number entries
