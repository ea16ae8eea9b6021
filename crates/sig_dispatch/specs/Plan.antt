-- Which streams wait to be tried, which are being tried, and that none that was told of is lost.
use Rattle.std.specs.Prelude.{◌≡◌, ◌⊎◌, ◌&&◌, ℕ, nat_le, nat_lt, List, [], ◌∷◌, map, Bool, true, false, not, bytes_eq, unwrap_or, is_some}
use Rattle.std.specs.List.{list_any}
use Rattle.std.specs.Map.{lookup}
use Rattle.sig_dispatch.specs.declared.dispatch.Dispatch.{Dispatch}
use Rattle.sig_dispatch.specs.declared.place.TheConstants.{ERRANDS_AT_ONCE}
use Rattle.sig_dispatch.specs.declared.place.Mark.{Mark}
use Rattle.sig_dispatch.specs.declared.place.Place.{Place}
use Rattle.sig_dispatch.specs.declared.place.Trier.{Trier}
use Rattle.sig_dispatch.specs.declared.place.Trier.TheVariants.{Nobody, Errand, Round}

-- the streams that wait, in order
abbrev pub names_in : List (Place × List ℕ) → List (List ℕ)
names_in queue = map (λ (e : Place × List ℕ). e.1) queue

abbrev pub told : Dispatch → List (List ℕ)
told d = names_in d.queue.entries

-- a stream waits
abbrev pub waits_in : List (Place × List ℕ) → List ℕ → Bool
waits_in queue stream = list_any (bytes_eq stream) (names_in queue)

abbrev pub waits : Dispatch → List ℕ → Bool
waits d stream = waits_in d.queue.entries stream

-- ---- who tries a stream

-- what is kept of a stream of which nothing is known
abbrev pub untouched : Mark
untouched = record { place = record { due = 0; turn = 0 }; by = Nobody; again = false }

abbrev pub mark_in : List (List ℕ × Mark) → List ℕ → Mark
mark_in marks stream = unwrap_or (lookup (bytes_eq stream) marks) untouched

abbrev pub trier : Dispatch → List ℕ → Trier
trier d stream = (mark_in d.marks.entries stream).by

abbrev pub is_trying : Trier → Bool
is_trying Nobody = false
is_trying Errand = true
is_trying Round = true

-- whether a stream is being tried
abbrev pub is_tried : Dispatch → List ℕ → Bool
is_tried d stream = is_trying (trier d stream)

-- how many errands more or less there are where one of this kind ends
abbrev pub errands_of : Trier → ℕ
errands_of Nobody = 0
errands_of Errand = 1
errands_of Round = 0

-- ---- what is lost of no stream

-- a stream is being tried, and is looked at again once it is released
abbrev pub is_again : Dispatch → List ℕ → Bool
is_again d stream = is_tried d stream && (mark_in d.marks.entries stream).again

-- a stream that was told of isn't lost: it waits, or is looked at again once it is released, or a listing is wanted
abbrev pub IsRemembered : Dispatch → List ℕ → Type 0
IsRemembered d stream = (waits d stream ≡ true) ⊎ (is_again d stream ≡ true) ⊎ (d.wanted ≡ true)

-- none is lost
abbrev pub LosesNone : Dispatch → Dispatch → Type 0
LosesNone old new = (stream : List ℕ) → IsRemembered old stream → IsRemembered new stream

-- none is lost but this one, which somebody tries from now on
abbrev pub LosesNoOther : List ℕ → Dispatch → Dispatch → Type 0
LosesNoOther own old new = (stream : List ℕ) → bytes_eq own stream ≡ false → IsRemembered old stream → IsRemembered new stream

-- ---- what stays

-- each stream is tried by whom it was
abbrev pub KeepsTriers : Dispatch → Dispatch → Type 0
KeepsTriers old new = (stream : List ℕ) → trier new stream ≡ trier old stream

-- each other stream is
abbrev pub KeepsOtherTriers : List ℕ → Dispatch → Dispatch → Type 0
KeepsOtherTriers own old new = (stream : List ℕ) → bytes_eq own stream ≡ false → trier new stream ≡ trier old stream

-- something is kept of a stream
abbrev pub is_marked : Dispatch → List ℕ → Bool
is_marked d stream = is_some (lookup (bytes_eq stream) d.marks.entries)

-- each other stream is marked as it was
abbrev pub KeepsOtherMarks : List ℕ → Dispatch → Dispatch → Type 0
KeepsOtherMarks own old new = (stream : List ℕ) → bytes_eq own stream ≡ false → mark_in new.marks.entries stream ≡ mark_in old.marks.entries stream

-- each stream is tried by whom it was, and looked at again where it was to be
abbrev pub KeepsTrials : Dispatch → Dispatch → Type 0
KeepsTrials old new = (stream : List ℕ) → (trier new stream ≡ trier old stream) × (is_again new stream ≡ is_again old stream)

-- each other stream is
abbrev pub KeepsOtherTrials : List ℕ → Dispatch → Dispatch → Type 0
KeepsOtherTrials own old new = (stream : List ℕ) → bytes_eq own stream ≡ false → (trier new stream ≡ trier old stream) × (is_again new stream ≡ is_again old stream)

-- nobody began to try a stream, or ended, nor did a listing
abbrev pub StaysCounted : Dispatch → Dispatch → Type 0
StaysCounted old new = (new.errands ≡ old.errands) × (new.wanted ≡ old.wanted) × (new.listing ≡ old.listing)

-- but for the marks nothing changed
abbrev pub StaysBut : Dispatch → Dispatch → Type 0
StaysBut old new = (new.queue.entries ≡ old.queue.entries) × (new.schedule ≡ old.schedule) × StaysCounted old new

-- but for the queue nothing changed that is promised
abbrev pub StaysButQueue : Dispatch → Dispatch → Type 0
StaysButQueue old new = (new.marks.entries ≡ old.marks.entries) × (new.schedule ≡ old.schedule) × StaysCounted old new

-- but for the queue, and whether a listing is wanted, nothing changed that is promised
abbrev pub StaysButFound : Dispatch → Dispatch → Type 0
StaysButFound old new = (new.marks.entries ≡ old.marks.entries) × (new.schedule ≡ old.schedule) × (new.errands ≡ old.errands) × (new.listing ≡ old.listing)

-- but for listings nothing changed
abbrev pub StaysButListing : Dispatch → Dispatch → Type 0
StaysButListing old new = (new.queue.entries ≡ old.queue.entries) × (new.marks.entries ≡ old.marks.entries) × (new.schedule ≡ old.schedule) × (new.errands ≡ old.errands)

-- what waited waits
abbrev pub StayWaiting : Dispatch → Dispatch → Type 0
StayWaiting old new = (stream : List ℕ) → waits old stream ≡ true → waits new stream ≡ true

-- ---- what may be claimed

-- the first that waits is due
abbrev pub is_first_due : List (Place × List ℕ) → ℕ → Bool
is_first_due [] now = false
is_first_due (first ∷ rest) now = nat_le first.0.due now

-- an errand may take the first that waits
abbrev pub is_ready : Dispatch → ℕ → Bool
is_ready d now = nat_lt d.errands ERRANDS_AT_ONCE && is_first_due d.queue.entries now

-- a listing is wanted, and none is under way
abbrev pub wants_listing : Dispatch → Bool
wants_listing d = d.wanted && not d.listing
