-- Which streams list a subject, as it is kept: each stream that stands has a seat, a number that no other one has and that never
-- changes, and each subject has the seats of those that list it.
use Rattle.std.specs.Prelude.{◌≡◌, ◌<◌, ℕ, List, [], ◌∷◌, Bool, false, true, ◌&&◌, ◌||◌, ⊤, length, nat_eq}
use Rattle.std.specs.List.{list_any}
use Rattle.std.specs.Map.{lookup}
use Rattle.std.specs.Option.{option_map_or}
use Rattle.sig_subject.specs.declared.subject.Subject.{Subject}
use Rattle.sig_subject.specs.declared.subject.Subject.TheVariants as subject
use Rattle.sig_subject.specs.Matching.{is_identical}
use Rattle.sig_terms.specs.declared.want.Defaults.{Defaults}
use Rattle.sig_terms.specs.declared.want.Defaults.TheVariants as defaults

-- seats, and for how many further ones there is room
pub record Seating : Type 0 where
  pub seats : List ℕ
  pub room : ℕ

-- at each place the seat of its stream, the seat that the next one gets, the seats of those that list each subject, and for how
-- many further streams there is room
pub record Listening : Type 0 where
  pub seats : List ℕ
  pub next : ℕ
  pub lists : List (Subject × Seating)
  pub room : ℕ

-- the seats of those that list a subject, and for how many further ones there is room
abbrev pub seats_for : Subject → List (Subject × Seating) → List ℕ
seats_for s lists = option_map_or (λ (a : Seating). a.seats) (lookup (is_identical s) lists) []

abbrev pub room_for : Subject → List (Subject × Seating) → ℕ
room_for s lists = option_map_or (λ (a : Seating). a.room) (lookup (is_identical s) lists) 0

-- whether a seat is among those of a subject
abbrev pub is_among : Subject → ℕ → List (Subject × Seating) → Bool
is_among s seat lists = list_any (nat_eq seat) (seats_for s lists)

-- whether a subject is simple
abbrev pub is_simple : Subject → Bool
is_simple (subject.Simple s) = true
is_simple (subject.Complex parts) = false

-- whether default subjects are all
abbrev pub hears_all : Defaults → Bool
hears_all defaults.All = true
hears_all defaults.None = false

-- whether a seat is that of a stream which lists an identical subject; the lists of the streams stand in their order
abbrev pub is_listed_at : Subject → ℕ → List ℕ → List (List Subject) → Bool
is_listed_at s seat [] ls = false
is_listed_at s seat (k ∷ ks) [] = false
is_listed_at s seat (k ∷ ks) (l ∷ ls) = (nat_eq seat k && list_any (is_identical s) l) || is_listed_at s seat ks ls

-- no seat stands twice, and each is below a number
abbrev pub AreApart : List ℕ → Type 0
AreApart [] = ⊤
AreApart (k ∷ ks) = (list_any (nat_eq k) ks ≡ false) × AreApart ks

abbrev pub AreBelow : ℕ → List ℕ → Type 0
AreBelow n [] = ⊤
AreBelow n (k ∷ ks) = (k < n) × AreBelow n ks

-- each stream has its seat, and a seat is among those of a subject exactly where its stream lists an identical one
pub record AreListening (seats : List ℕ) (next : ℕ) (under : List (Subject × Seating)) (lists : List (List Subject)) : Type 0 where
  pub long : length seats ≡ length lists
  pub apart : AreApart seats
  pub below : AreBelow next seats
  pub exact : (s : Subject) (seat : ℕ) → is_among s seat under ≡ is_listed_at s seat seats lists

abbrev pub IsListening : Listening → List (List Subject) → Type 0
IsListening i lists = AreListening i.seats i.next i.lists lists
