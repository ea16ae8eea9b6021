-- What further calls add to what a disk in memory reads, leaves and rests with.
use Rattle.std.proofs.Common.{◌≡◌, ◌⊎◌, inl, inr, ℕ, zero, suc, ◌+◌, ◌-◌, ◌≤◌, min, max, List, [], ◌∷◌, ◌++◌, length, take, drop, replicate, refl, sym, ◌∙◌, ap, subst, arith, length-append}
use Rattle.std.proofs.lemmas.List.{append-nil, take-replicate, drop-replicate, take-append-le, take_all}
use Rattle.std.proofs.lemmas.Bool.{cases_lt}
use Rattle.sig_outside.specs.declared.disk_call.DiskCall.{DiskCall}
use Rattle.sig_outside.specs.declared.disk_call.DiskCall.TheVariants.{Wrote, Cut, Synced}
use Rattle.sig_outside.specs.Disk as disk
use Rattle.sig_outside.specs.DiskCalls.{content, Leaves, resting}

pub content-append : (seen : List ℕ) (calls more : List DiskCall) → content seen (calls ++ more) ≡ content (content seen calls) more
content-append seen [] more = refl
content-append seen (Wrote at bytes ∷ calls) more = content-append (disk.with_bytes at bytes seen) calls more
content-append seen (Cut size ∷ calls) more = content-append (take size seen) calls more
content-append seen (Synced ∷ calls) more = content-append seen calls more

pub resting-append : (fill : ℕ) (seen image : List ℕ) (calls more : List DiskCall) → resting fill seen image (calls ++ more) ≡ resting fill (content seen calls) (resting fill seen image calls) more
resting-append fill seen image [] more = refl
resting-append fill seen image (Wrote at bytes ∷ calls) more =
    resting-append fill (disk.with_bytes at bytes seen) (disk.rests_written at (length bytes) fill seen image) calls more
resting-append fill seen image (Cut size ∷ calls) more = resting-append fill (take size seen) (take size image) calls more
resting-append fill seen image (Synced ∷ calls) more = resting-append fill seen seen calls more

-- what further calls leave was left by them of what was left before
pub leaves_split : (seen from image : List ℕ) (calls more : List DiskCall) → Leaves seen from (calls ++ more) image → (mid : List ℕ) × Leaves seen from calls mid × Leaves (content seen calls) mid more image
leaves_split seen from image [] more h = (from, refl, h)
leaves_split seen from image (Wrote at bytes ∷ calls) more h =
    let rest = leaves_split (disk.with_bytes at bytes seen) h.0 image calls more h.2 in
    (rest.0, (h.0, h.1, rest.1), rest.2)
leaves_split seen from image (Cut size ∷ calls) more h =
    let rest = leaves_split (take size seen) h.0 image calls more h.2 in
    (rest.0, (h.0, h.1, rest.1), rest.2)
leaves_split seen from image (Synced ∷ calls) more h = leaves_split seen seen image calls more h

-- what a crash might have left after the call t or a later one
abbrev Since : List ℕ → List DiskCall → ℕ → List ℕ → Type 0
Since first calls t image = (n : ℕ) × (t ≤ n) × (n ≤ length calls) × Leaves first first (take n calls) image

-- a call more: what was left before, or what is left now
pub elapses_one : (first : List ℕ) (calls : List DiskCall) (call : DiskCall)
    → disk.Elapses (length calls) (length (calls ++ call ∷ [])) (Since first calls) (Since first (calls ++ call ∷ [])) (Leaves first first (calls ++ call ∷ []))
elapses_one first calls call = record {
  later = omega (arith, length-append calls (call ∷ []));
  nothing_else = λ t image le since. elim (cases_lt (length calls) since.0) [
    | inr within ↦ inl (since.0, since.1, within, subst (λ (l : List DiskCall). Leaves first first l image) (take-append-le since.0 calls (call ∷ []) within) since.3)
    | inl past ↦ inr (subst (λ (l : List DiskCall). Leaves first first l image) (take_all since.0 (calls ++ call ∷ []) (omega (arith, length-append calls (call ∷ [])))) since.3)
  ];
  keeps = λ t image le since.
      (since.0, since.1, omega (arith, since.2, length-append calls (call ∷ [])), subst (λ (l : List DiskCall). Leaves first first l image) (sym (take-append-le since.0 calls (call ∷ []) since.2)) since.3);
}

pub elapses_none : (first : List ℕ) (calls : List DiskCall) → disk.Elapses (length calls) (length calls) (Since first calls) (Since first calls) (Leaves first first calls)
elapses_none first calls = record { later = omega arith; nothing_else = λ t image le since. inl since; keeps = λ t image le since. since }

-- a torn write may have changed nothing, and so may a cut
pub torn_same : (at n : ℕ) (image : List ℕ) → disk.Torn at n image image
torn_same at n image = record { before = take_shorter at image; after = refl; no_shorter = omega arith; no_longer = omega arith }
  where
    take_shorter : (n : ℕ) (xs : List ℕ) → take (min n (length xs)) xs ≡ take n xs
    take_shorter zero [] = let e : min 0 (length {A = ℕ} []) ≡ 0 = omega arith in ap (λ (k : ℕ). take {A = ℕ} k []) e
    take_shorter (suc n) [] = let e : min (suc n) (length {A = ℕ} []) ≡ 0 = omega arith in ap (λ (k : ℕ). take {A = ℕ} k []) e
    take_shorter zero (x ∷ xs) = let e : min 0 (length (x ∷ xs)) ≡ 0 = omega arith in ap (λ (k : ℕ). take k (x ∷ xs)) e
    take_shorter (suc n) (x ∷ xs) =
        let e : min (suc n) (length (x ∷ xs)) ≡ suc (min n (length xs)) = omega arith in
        ap (λ (k : ℕ). take k (x ∷ xs)) e ∙ ap (λ (l : List ℕ). x ∷ l) (take_shorter n xs)

pub cut_same : (size : ℕ) (image : List ℕ) → disk.Cut size image image
cut_same size image = record { no_shorter = omega arith; same = take_all (length image) image (omega arith) }

take-append : (n : ℕ) (xs ys : List ℕ) → take n (xs ++ ys) ≡ take n xs ++ take (n - length xs) ys
take-append zero xs ys = let e : 0 - length xs ≡ 0 = omega arith in ap (λ (k : ℕ). take k ys) (sym e)
take-append (suc n) [] ys = let e : suc n - length {A = ℕ} [] ≡ suc n = omega arith in ap (λ (k : ℕ). take k ys) (sym e)
take-append (suc n) (x ∷ xs) ys =
    let e : suc n - length (x ∷ xs) ≡ n - length xs = omega arith in
    ap (λ (l : List ℕ). x ∷ l) (take-append n xs ys ∙ ap (λ (k : ℕ). take n xs ++ take k ys) (sym e))

drop-append : (n : ℕ) (xs ys : List ℕ) → drop n (xs ++ ys) ≡ drop n xs ++ drop (n - length xs) ys
drop-append zero xs ys = let e : 0 - length xs ≡ 0 = omega arith in ap (λ (k : ℕ). xs ++ drop k ys) (sym e)
drop-append (suc n) [] ys = let e : suc n - length {A = ℕ} [] ≡ suc n = omega arith in ap (λ (k : ℕ). drop k ys) (sym e)
drop-append (suc n) (x ∷ xs) ys =
    let e : suc n - length (x ∷ xs) ≡ n - length xs = omega arith in
    drop-append n xs ys ∙ ap (λ (k : ℕ). drop n xs ++ drop k ys) (sym e)

-- bytes that are put over a file that was first made long enough are written at their offset
pub put_over : (at : ℕ) (bytes old grown : List ℕ) → grown ≡ old ++ replicate (max (length old) (at + length bytes) - length old) 0
    → take at grown ++ bytes ++ drop (at + length bytes) grown ≡ disk.with_bytes at bytes old
put_over at bytes old grown is =
    let more = max (length old) (at + length bytes) - length old in
    let front : take at grown ≡ take at old ++ replicate (at - length old) 0 =
    ap (λ (l : List ℕ). take at l) is ∙ take-append at old (replicate more 0) ∙ ap (λ (l : List ℕ). take at old ++ l) (take-replicate (at - length old) more 0 (omega arith)) in
    let past : more - (at + length bytes - length old) ≡ 0 = omega arith in
    let back : drop (at + length bytes) grown ≡ drop (at + length bytes) old =
    ap (λ (l : List ℕ). drop (at + length bytes) l) is ∙ drop-append (at + length bytes) old (replicate more 0)
    ∙ ap (λ (l : List ℕ). drop (at + length bytes) old ++ l) (drop-replicate (at + length bytes - length old) more 0 ∙ ap (λ (k : ℕ). replicate k 0) past)
    ∙ append-nil (drop (at + length bytes) old) in
    ap (λ (l : List ℕ). l ++ bytes ++ drop (at + length bytes) grown) front
    ∙ ap (λ (l : List ℕ). take at old ++ replicate (at - length old) 0 ++ bytes ++ l) back
