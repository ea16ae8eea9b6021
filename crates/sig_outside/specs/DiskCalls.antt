-- What a file in memory is after the calls made of it, and what a crash may leave of it.
use Rattle.std.specs.Prelude.{◌≡◌, ℕ, ◌+◌, ◌≤◌, List, [], ◌∷◌, length, take}
use Rattle.sig_outside.specs.declared.disk_call.DiskCall.{DiskCall}
use Rattle.sig_outside.specs.declared.disk_call.DiskCall.TheVariants.{Wrote, Cut, Synced}
use Rattle.sig_outside.specs.Disk as disk

-- the file after these calls
abbrev pub content : List ℕ → List DiskCall → List ℕ
content seen [] = seen
content seen (Wrote at bytes ∷ calls) = content (disk.with_bytes at bytes seen) calls
content seen (Cut size ∷ calls) = content (take size seen) calls
content seen (Synced ∷ calls) = content seen calls

-- from a file that reads as seen and might be left as from, a crash after these calls may leave this image: each call may have been made in part, and a sync leaves what is read
abbrev pub Leaves : List ℕ → List ℕ → List DiskCall → List ℕ → Type 0
Leaves seen from [] image = image ≡ from
Leaves seen from (Wrote at bytes ∷ calls) image =
    (torn : List ℕ) × disk.Torn at (length bytes) from torn × Leaves (disk.with_bytes at bytes seen) torn calls image
Leaves seen from (Cut size ∷ calls) image =
    (part : List ℕ) × disk.Cut size from part × Leaves (take size seen) part calls image
Leaves seen from (Synced ∷ calls) image = Leaves seen seen calls image

-- what the file rests with where each byte written since the last sync is the fill
abbrev pub resting : ℕ → List ℕ → List ℕ → List DiskCall → List ℕ
resting fill seen image [] = image
resting fill seen image (Wrote at bytes ∷ calls) =
    resting fill (disk.with_bytes at bytes seen) (disk.rests_written at (length bytes) fill seen image) calls
resting fill seen image (Cut size ∷ calls) = resting fill (take size seen) (disk.rests_cut size fill seen image) calls
resting fill seen image (Synced ∷ calls) = resting fill seen (disk.rests_synced fill seen image) calls
