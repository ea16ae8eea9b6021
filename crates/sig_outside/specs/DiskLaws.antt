-- A disk in memory keeps the laws of a disk: what it reads and what it rests with are images, and time goes with its calls.
use Rattle.std.specs.Prelude.{◌≡◌, ℕ, zero, suc, ◌+◌, ◌-◌, ◌≤◌, min, List, [], ◌∷◌, ◌++◌, length, take, drop, replicate, Bool, true, false, Option, Some, None, IfSome, refl}
use Rattle.std.proofs.Common.{sym, ◌∙◌, ap, subst, arith, length-append, length-take, length-drop, append_assoc}
use Rattle.std.proofs.lemmas.List.{take_at, drop_at, take_all, length-replicate}
use Rattle.std.proofs.Math.Seq.{take-length}
use Rattle.sig_outside.specs.declared.disk_call.DiskCall.{DiskCall}
use Rattle.sig_outside.specs.declared.disk_call.DiskCall.TheVariants.{Wrote, Cut, Synced}
use Rattle.sig_outside.specs.declared.disk_call.Standstill.{Standstill}
use Rattle.sig_outside.specs.Disk as disk
use Rattle.sig_outside.specs.DiskCalls.{content, Leaves, resting}
use Rattle.sig_outside.specs.KeptDisk.{Kept, seen, may_leave, left_since, tells_stop, stop_at, stop_told, stop_of}

-- the bytes up to the end of what is written
before_end : ℕ → List ℕ → List ℕ → List ℕ
before_end at bytes old = take at old ++ replicate (at - length old) 0 ++ bytes

length-before_end : (at : ℕ) (bytes old : List ℕ) → length (before_end at bytes old) ≡ at + length bytes
unfolding before_end
length-before_end at bytes old =
    omega (arith, length-append (take at old ++ replicate (at - length old) 0) bytes, length-append (take at old) (replicate (at - length old) 0), length-take at old, length-replicate {A = ℕ} (at - length old) 0)

-- a whole write is a torn one
pub torn_whole : (at : ℕ) (bytes old : List ℕ) → disk.Torn at (length bytes) old (disk.with_bytes at bytes old)
unfolding before_end
torn_whole at bytes old = record {
  before = ap (λ l. take (min at (length old)) l) (append_assoc (take at old ++ replicate (at - length old) 0) bytes (drop (at + length bytes) old) ∙ append_assoc (take at old) (replicate (at - length old) 0) (bytes ++ drop (at + length bytes) old))
      ∙ take_at (take at old) _ (min at (length old)) (length-take at old);
  after = drop_at (before_end at bytes old) (drop (at + length bytes) old) (at + length bytes) (length-before_end at bytes old);
  no_shorter = omega (arith, length-append (before_end at bytes old) (drop (at + length bytes) old), length-before_end at bytes old, length-drop (at + length bytes) old);
  no_longer = omega (arith, length-append (before_end at bytes old) (drop (at + length bytes) old), length-before_end at bytes old, length-drop (at + length bytes) old);
}

-- as many bytes of it as a part has are the part
pub take_own : (n : ℕ) (xs : List ℕ) → take (length (take n xs)) xs ≡ take n xs
take_own zero xs = refl
take_own (suc n) [] = refl
take_own (suc n) (x ∷ xs) = ap (λ (l : List ℕ). x ∷ l) (take_own n xs)

-- a whole cut is one that a crash may leave
pub cut_whole : (size : ℕ) (old : List ℕ) → disk.Cut size old (take size old)
cut_whole size old = record {
  no_shorter = omega (arith, length-take size old);
  same = take_own size old;
}

-- what is read is an image
pub leaves_content : (seen : List ℕ) (calls : List DiskCall) → Leaves seen seen calls (content seen calls)
leaves_content seen [] = refl
leaves_content seen (Wrote at bytes ∷ calls) = (disk.with_bytes at bytes seen, torn_whole at bytes seen, leaves_content (disk.with_bytes at bytes seen) calls)
leaves_content seen (Cut size ∷ calls) = (take size seen, cut_whole size seen, leaves_content (take size seen) calls)
leaves_content seen (Synced ∷ calls) = leaves_content seen calls

-- what the file rests with is an image
pub leaves_resting : (fill : ℕ) (seen image : List ℕ) (calls : List DiskCall) → Leaves seen image calls (resting fill seen image calls)
leaves_resting fill seen image [] = refl
leaves_resting fill seen image (Wrote at bytes ∷ calls) =
    let torn = disk.rests_written at (length bytes) fill seen image in
    (torn, subst (λ (n : ℕ). disk.Torn at n image torn) (length-replicate {A = ℕ} (length bytes) fill) (torn_whole at (replicate (length bytes) fill) image), leaves_resting fill (disk.with_bytes at bytes seen) torn calls)
leaves_resting fill seen image (Cut size ∷ calls) = (take size image, cut_whole size image, leaves_resting fill (take size seen) (take size image) calls)
leaves_resting fill seen image (Synced ∷ calls) = leaves_resting fill seen seen calls

pub reads_kept : (disk : Kept) → may_leave disk (seen disk)
reads_kept disk = leaves_content disk.first disk.calls

rests_at : (first : List ℕ) (calls : List DiskCall) (still : Option Standstill) → IfSome (stop_at first calls still) (λ stop. Leaves first first calls stop.image)
rests_at first calls None = tt
rests_at first calls (Some still) = leaves_resting still.fill first first calls

rests_told : (tells : Bool) (first : List ℕ) (calls : List DiskCall) (still : Option Standstill) → IfSome (stop_told tells first calls still) (λ stop. Leaves first first calls stop.image)
rests_told true first calls still = rests_at first calls still
rests_told false first calls still = tt

pub rests_kept : (disk : Kept) → IfSome (stop_of disk) (λ stop. may_leave disk stop.image)
rests_kept disk = rests_told (tells_stop disk.failing) disk.first disk.calls disk.stop

pub counts_kept : (disk : Kept) (t : ℕ) (image : List ℕ) → t ≤ length disk.calls → may_leave disk image → left_since disk t image
counts_kept disk t image le now =
    (length disk.calls, le, omega arith, subst (λ (l : List DiskCall). Leaves disk.first disk.first l image) (sym (take-length disk.calls)) now)

pub only_kept : (disk : Kept) (image : List ℕ) → left_since disk (length disk.calls) image → may_leave disk image
only_kept disk image left =
    subst (λ (l : List DiskCall). Leaves disk.first disk.first l image) (take_all left.0 disk.calls left.1) left.3
