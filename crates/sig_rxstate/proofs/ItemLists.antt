-- Lists are read as they are spelled, item by item.
use Rattle.std.proofs.Common.{◌≡◌, ◌<◌, ◌^◌, ◌∙◌, ap, sym, refl, subst, ℕ, zero, suc, List, [], ◌∷◌, ◌++◌, length, Bool, true, false, cond, Some, None, append-nil, append_assoc}
use Rattle.std.specs.Prelude.{All, Result, Ok, Err, flat_map}
use Rattle.std.proofs.lemmas.List.Elements.{All-cons, All-head, All-nil, All-tail}
use Rattle.std.proofs.Math.Seq.{drop-append_seam}
use Rattle.sig_fields.specs.Agreeing.{Agrees, AreBytes}
use Rattle.sig_fields.specs.Kinds as kinds
use Rattle.sig_fields.specs.Reading.{Takes, given, next_after, ruled}
use Rattle.sig_fields.specs.declared.fault.PartFault.{PartFault}
use Rattle.sig_fields.specs.declared.fault.PartFault.TheVariants as fault
use Rattle.sig_fields.proofs.Agreeing.{HasRule, are_dropped, given_same, joined_spelling, ruled_agrees, then_reads, then_spells, whole_numbers}
use Rattle.sig_rxstate.specs.Lists as lists
use Rattle.sig_rxstate.proofs.Once.{AreNew}

-- ---- while they are read

pub more_begin : {T : Type 0} (is_known : T → List T → Bool) (read : List ℕ → Result (T × List ℕ) (List ℕ)) (n left : ℕ) (before : List T) (bytes : List ℕ)
    → left ≡ n → before ≡ [] → lists.with_more is_known read n [] bytes ≡ lists.with_more is_known read left before bytes
more_begin is_known read n left before bytes is none = λ i. lists.with_more is_known read (sym is i) (sym none i) bytes

-- one more item is read
pub more_step : {T : Type 0} (is_known : T → List T → Bool) (read : List ℕ → Result (T × List ℕ) (List ℕ)) (left n : ℕ) (before longer : List T) (bytes rest : List ℕ)
    → left ≡ suc n → lists.with_one is_known read before bytes ≡ Ok (longer, rest)
    → lists.with_more is_known read left before bytes ≡ lists.with_more is_known read n longer rest
more_step is_known read left n before longer bytes rest is one =
    ap (λ m. lists.with_more is_known read m before bytes) is ∙ ap (λ r. next_after r (lists.with_more is_known read n)) one

-- an item can't be read, or is there already
more_stop : {T : Type 0} (is_known : T → List T → Bool) (read : List ℕ → Result (T × List ℕ) (List ℕ)) (left n : ℕ) (before : List T) (bytes from : List ℕ)
    → left ≡ suc n → lists.with_one is_known read before bytes ≡ Err from → lists.with_more is_known read left before bytes ≡ Err from
more_stop is_known read left n before bytes from is bad =
    ap (λ m. lists.with_more is_known read m before bytes) is ∙ ap (λ r. next_after r (lists.with_more is_known read n)) bad

pub more_refused : {T : Type 0} (is_known : T → List T → Bool) (read : List ℕ → Result (T × List ℕ) (List ℕ)) (left n : ℕ) (before : List T) (bytes : List ℕ)
    (whole : Result (List T × List ℕ) (List ℕ)) (e : PartFault) (rest : List ℕ)
    → left ≡ suc n → whole ≡ lists.with_more is_known read left before bytes → Takes {T = List T} (lists.with_one is_known read before bytes) (Err e) rest
    → Takes {T = List T} whole (Err e) rest
more_refused is_known read left n before bytes whole fault.Bad rest is so_far bad = so_far ∙ more_stop is_known read left n before bytes rest is bad
more_refused is_known read left n before bytes whole fault.Memory rest is so_far bad = tt

pub more_end : {T : Type 0} (is_known : T → List T → Bool) (read : List ℕ → Result (T × List ℕ) (List ℕ)) (left : ℕ) (before : List T) (bytes : List ℕ)
    → left ≡ 0 → lists.with_more is_known read left before bytes ≡ Ok (before, bytes)
more_end is_known read left before bytes is = ap (λ m. lists.with_more is_known read m before bytes) is

-- ---- an item that is new

new_rule : {T : Type 0} (P : T → Type 0) (is_known : T → List T → Bool) (before : List T)
    → HasRule P (λ x. P x × (is_known x before ≡ false)) (lists.new_to is_known before) (λ x. x)
new_rule {T = T} P is_known before = record { sound = sound; complete = complete }
  where
    sound : (y : T) → P y × (is_known y before ≡ false) → P y × (lists.new_to is_known before y ≡ Some y)
    sound y proper = (proper.0, ap (λ b. cond b None (Some y)) proper.1)

    complete : (x y : T) → P x → lists.new_to is_known before x ≡ Some y → (P y × (is_known y before ≡ false)) × (x ≡ y)
    complete x y proper h = at (is_known x before) refl h
      where
        at : (b : Bool) → is_known x before ≡ b → cond b None (Some x) ≡ Some y → (P y × (is_known y before ≡ false)) × (x ≡ y)
        at true is h = cc
        at false is h = let same : x ≡ y = cc in ((subst P same proper, ap (λ z. is_known z before) (sym same) ∙ is), same)

new_agrees : {T : Type 0} (P : T → Type 0) (spelled : T → List ℕ) (read : List ℕ → Result (T × List ℕ) (List ℕ)) (is_known : T → List T → Bool) (before : List T)
    → Agrees P spelled read → Agrees (λ x. P x × (is_known x before ≡ false)) spelled (ruled (lists.new_to is_known before) read)
new_agrees P spelled read is_known before agree =
    ruled_agrees P (λ x. P x × (is_known x before ≡ false)) spelled read (lists.new_to is_known before) (λ x. x) agree (new_rule P is_known before)

-- ---- so many items

more_read : {T : Type 0} (P : T → Type 0) (spelled : T → List ℕ) (read : List ℕ → Result (T × List ℕ) (List ℕ)) (is_known : T → List T → Bool) → Agrees P spelled read
    → (before xs : List T) (rest : List ℕ) → All P xs → AreNew is_known before xs
    → lists.with_more is_known read (length xs) before (flat_map spelled xs ++ rest) ≡ Ok (before ++ xs, rest)
more_read P spelled read is_known agree before [] rest each news = ap (λ l. Ok (l, rest)) (sym (append-nil before))
more_read P spelled read is_known agree before (x ∷ xs) rest each news =
    ap (λ r. next_after r (lists.with_more is_known read (length xs)))
    (then_reads (λ y. P y × (is_known y before ≡ false)) spelled (ruled (lists.new_to is_known before) read) (new_agrees P spelled read is_known before agree)
    x (All-head P x xs each, news.0) (λ y. given (before ++ y ∷ [])) (flat_map spelled xs) rest)
    ∙ more_read P spelled read is_known agree (before ++ x ∷ []) xs rest (All-tail P x xs each) news.1
    ∙ ap (λ l. Ok (l, rest)) (append_assoc before (x ∷ []) xs)

record MoreSpelled {T : Type 0} (P : T → Type 0) (spelled : T → List ℕ) (is_known : T → List T → Bool) (n : ℕ) (before : List T) (bytes : List ℕ) (ys : List T) (rest : List ℕ) : Type 0 where
  items : List T
  each : All P items
  size : length items ≡ n
  news : AreNew is_known before items
  all : ys ≡ before ++ items
  is : bytes ≡ flat_map spelled items ++ rest

are_after : (first rest : List ℕ) → AreBytes (first ++ rest) → AreBytes rest
are_after first rest are = subst AreBytes (drop-append_seam first rest) (are_dropped (length first) (first ++ rest) are)

more_spelled : {T : Type 0} (P : T → Type 0) (spelled : T → List ℕ) (read : List ℕ → Result (T × List ℕ) (List ℕ)) (is_known : T → List T → Bool) → Agrees P spelled read
    → (n : ℕ) (before : List T) (bytes : List ℕ) (ys : List T) (rest : List ℕ) → AreBytes bytes → lists.with_more is_known read n before bytes ≡ Ok (ys, rest)
    → MoreSpelled P spelled is_known n before bytes ys rest
more_spelled P spelled read is_known agree zero before bytes ys rest are h =
    let s = given_same before ys bytes rest h in
    record { items = []; each = All-nil P; size = refl; news = tt; all = sym s.0 ∙ sym (append-nil before); is = s.1 }
more_spelled {T = T} P spelled read is_known agree (suc n) before bytes ys rest are h =
    at (ruled (lists.new_to is_known before) read bytes) refl h
    (λ x mid small is. more_spelled P spelled read is_known agree n (before ++ x ∷ []) mid ys rest small is)
  where
    at : (r : Result (T × List ℕ) (List ℕ)) → ruled (lists.new_to is_known before) read bytes ≡ r
        → next_after (next_after r (λ y. given (before ++ y ∷ []))) (lists.with_more is_known read n) ≡ Ok (ys, rest)
        → ((x : T) (mid : List ℕ) → AreBytes mid → lists.with_more is_known read n (before ++ x ∷ []) mid ≡ Ok (ys, rest) → MoreSpelled P spelled is_known n (before ++ x ∷ []) mid ys rest)
        → MoreSpelled P spelled is_known (suc n) before bytes ys rest
    at (Err from) is h after = cc
    at (Ok (x, mid)) is h after =
        let one = (new_agrees P spelled read is_known before agree).spells bytes x mid are is in
        let more = after x mid (are_after (spelled x) mid (subst AreBytes one.1 are)) h in
        record {
          items = x ∷ more.items;
          each = All-cons P x more.items one.0.0 more.each;
          size = ap suc more.size;
          news = (one.0.1, more.news);
          all = more.all ∙ append_assoc before (x ∷ []) more.items;
          is = joined_spelling bytes (spelled x) mid (flat_map spelled more.items) rest one.1 more.is;
        }

-- ---- lists

-- fewer than 2^64 items, each none of those before it
pub record IsNewList {T : Type 0} (P : T → Type 0) (is_known : T → List T → Bool) (xs : List T) : Type 0 where
  pub each : All P xs
  pub short : length xs < 2 ^ 64
  pub news : AreNew is_known [] xs

pub lists_agree : {T : Type 0} (P : T → Type 0) (spelled : T → List ℕ) (read : List ℕ → Result (T × List ℕ) (List ℕ)) (is_known : T → List T → Bool)
    → Agrees P spelled read → Agrees (IsNewList P is_known) (lists.list_bytes spelled) (lists.list is_known read)
lists_agree {T = T} P spelled read is_known agree = record { reads = reads; spells = spells }
  where
    reads : (xs : List T) (rest : List ℕ) → IsNewList P is_known xs → lists.list is_known read (lists.list_bytes spelled xs ++ rest) ≡ Ok (xs, rest)
    reads xs rest proper =
        then_reads (λ n. n < 2 ^ 64) kinds.number_bytes kinds.number whole_numbers (length xs) proper.short (λ n. lists.with_more is_known read n []) (flat_map spelled xs) rest
        ∙ more_read P spelled read is_known agree [] xs rest proper.each proper.news

    spells : (bytes : List ℕ) (xs : List T) (rest : List ℕ) → AreBytes bytes → lists.list is_known read bytes ≡ Ok (xs, rest) → IsNewList P is_known xs × (bytes ≡ lists.list_bytes spelled xs ++ rest)
    spells bytes xs rest are h =
        let t = then_spells (λ n. n < 2 ^ 64) kinds.number_bytes kinds.number whole_numbers (λ n. lists.with_more is_known read n []) bytes xs rest are h in
        told t.value t.mid t.proper t.spelt (more_spelled P spelled read is_known agree t.value [] t.mid xs rest t.are t.then)
      where
        told : (n : ℕ) (mid : List ℕ) → n < 2 ^ 64 → bytes ≡ kinds.number_bytes n ++ mid → MoreSpelled P spelled is_known n [] mid xs rest
            → IsNewList P is_known xs × (bytes ≡ lists.list_bytes spelled xs ++ rest)
        told n mid short spelt more =
            let size : length xs ≡ n = ap (λ (l : List T). length l) more.all ∙ more.size in (
              record {
                each = subst (All P) (sym more.all) more.each;
                short = subst (λ k. k < 2 ^ 64) (sym size) short;
                news = subst (AreNew is_known []) (sym more.all) more.news;
              },
              joined_spelling bytes (kinds.number_bytes n) mid (flat_map spelled more.items) rest spelt more.is
                  ∙ (λ i. (kinds.number_bytes (sym size i) ++ flat_map spelled (sym more.all i)) ++ rest),
            )
