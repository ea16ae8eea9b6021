-- Lists are read as they are spelled, item by item.
use Rattle.std.proofs.Common.{◌≡◌, ◌<◌, ◌^◌, ◌∙◌, ap, sym, refl, subst, ℕ, zero, suc, List, [], ◌∷◌, ◌++◌, length}
use Rattle.std.specs.Prelude.{All, Result, Ok, Err, flat_map}
use Rattle.std.proofs.lemmas.List.Elements.{All-cons, All-head, All-nil, All-tail}
use Rattle.sig_fields.specs.Agreeing.{Agrees, AreBytes}
use Rattle.sig_fields.specs.Kinds as kinds
use Rattle.sig_fields.specs.Reading.{given, next_after}
use Rattle.sig_fields.proofs.Agreeing.{given_same, joined_spelling, then_reads, then_spells, whole_numbers}
use Rattle.sig_base.specs.Lists as lists
use Rattle.sig_base.specs.Lists.{IsProperLong}

items_read : {T : Type 0} (P : T → Type 0) (spelled : T → List ℕ) (read : List ℕ → Result (T × List ℕ) (List ℕ)) → Agrees P spelled read
    → (xs : List T) (rest : List ℕ) → All P xs → kinds.items read (length xs) (flat_map spelled xs ++ rest) ≡ Ok (xs, rest)
items_read P spelled read agree [] rest h = refl
items_read P spelled read agree (x ∷ xs) rest h =
    then_reads P spelled read agree x (All-head P x xs h) (λ y bytes. next_after (kinds.items read (length xs) bytes) (λ ys. given (y ∷ ys))) (flat_map spelled xs) rest
    ∙ ap (λ r. next_after r (λ ys. given (x ∷ ys))) (items_read P spelled read agree xs rest (All-tail P x xs h))

record ItemsSpelled {T : Type 0} (P : T → Type 0) (spelled : T → List ℕ) (n : ℕ) (bytes : List ℕ) (xs : List T) (rest : List ℕ) : Type 0 where
  each : All P xs
  size : length xs ≡ n
  is : bytes ≡ flat_map spelled xs ++ rest

items_spelled : {T : Type 0} (P : T → Type 0) (spelled : T → List ℕ) (read : List ℕ → Result (T × List ℕ) (List ℕ)) → Agrees P spelled read
    → (n : ℕ) (bytes : List ℕ) (xs : List T) (rest : List ℕ) → AreBytes bytes → kinds.items read n bytes ≡ Ok (xs, rest) → ItemsSpelled P spelled n bytes xs rest
items_spelled {T = T} P spelled read agree zero bytes xs rest are h =
    let s = given_same [] xs bytes rest h in
    record { each = subst (All P) s.0 (All-nil P); size = ap (λ (l : List T). length l) (sym s.0); is = (λ i. flat_map spelled (s.0 i) ++ s.1 i) }
items_spelled {T = T} P spelled read agree (suc n) bytes xs rest are h =
    let t = then_spells P spelled read agree (λ y bytes. next_after (kinds.items read n bytes) (λ ys. given (y ∷ ys))) bytes xs rest are h in
    at t.value t.mid (λ ys end is. items_spelled P spelled read agree n t.mid ys end t.are is) t.proper t.spelt (kinds.items read n t.mid) refl t.then
  where
    at : (x : T) (mid : List ℕ) → ((ys : List T) (end : List ℕ) → kinds.items read n mid ≡ Ok (ys, end) → ItemsSpelled P spelled n mid ys end) → P x → bytes ≡ spelled x ++ mid → (r : Result (List T × List ℕ) (List ℕ)) → kinds.items read n mid ≡ r
        → next_after r (λ ys. given (x ∷ ys)) ≡ Ok (xs, rest) → ItemsSpelled P spelled (suc n) bytes xs rest
    at x mid after proper spelt (Err from) is h = cc
    at x mid after proper spelt (Ok (ys, end)) is h =
        let more = after ys end is in
        let s = given_same (x ∷ ys) xs end rest h in
        record {
          each = subst (All P) s.0 (All-cons P x ys proper more.each);
          size = ap (λ (l : List T). length l) (sym s.0) ∙ ap suc more.size;
          is = joined_spelling bytes (spelled x) mid (flat_map spelled ys) end spelt more.is ∙ (λ i. flat_map spelled (s.0 i) ++ s.1 i);
        }

pub longs_agree : {T : Type 0} (P : T → Type 0) (spelled : T → List ℕ) (read : List ℕ → Result (T × List ℕ) (List ℕ))
    → Agrees P spelled read → Agrees (IsProperLong P) (lists.list_bytes spelled) (lists.list read)
longs_agree {T = T} P spelled read agree = record { reads = reads; spells = spells }
  where
    reads : (xs : List T) (rest : List ℕ) → IsProperLong P xs → lists.list read (lists.list_bytes spelled xs ++ rest) ≡ Ok (xs, rest)
    reads xs rest proper =
        then_reads (λ n. n < 2 ^ 64) kinds.number_bytes kinds.number whole_numbers (length xs) proper.short (kinds.items read) (flat_map spelled xs) rest
        ∙ items_read P spelled read agree xs rest proper.each

    spells : (bytes : List ℕ) (xs : List T) (rest : List ℕ) → AreBytes bytes → lists.list read bytes ≡ Ok (xs, rest) → IsProperLong P xs × (bytes ≡ lists.list_bytes spelled xs ++ rest)
    spells bytes xs rest are h =
        let t = then_spells (λ n. n < 2 ^ 64) kinds.number_bytes kinds.number whole_numbers (kinds.items read) bytes xs rest are h in
        let more = items_spelled P spelled read agree t.value t.mid xs rest t.are t.then in
        let head : kinds.number_bytes t.value ≡ kinds.number_bytes (length xs) = ap kinds.number_bytes (sym more.size) in (
          record { each = more.each; short = subst (λ k. k < 2 ^ 64) (sym more.size) t.proper },
          joined_spelling bytes (kinds.number_bytes (length xs)) t.mid (flat_map spelled xs) rest (t.spelt ∙ ap (λ (l : List ℕ). l ++ t.mid) head) more.is,
        )
