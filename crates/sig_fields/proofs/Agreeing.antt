-- The kinds of fields are read as they are spelled.
use Rattle.std.proofs.Common.{◌≡◌, ◌<◌, ◌≤◌, ◌+◌, ◌^◌, ◌&&◌, ap, sym, ◌∙◌, refl, subst, ℕ, zero, suc, List, [], ◌∷◌, ◌++◌, length, take, drop, get_or, Bool, true, false, nat_le, nat_lt, cond, Option, Some, None, arith, append_assoc, length-append, length-take, take-append-drop}
use Rattle.std.specs.Prelude.{All, Result, Ok, Err, flat_map, ⊤}
use Rattle.std.specs.Int.{from_be_bytes, to_be_bytes, w32, w64}
use Rattle.std.specs.Str.{is_utf8}
use Rattle.std.proofs.lemmas.Bool.{ltb-true, ltb-false}
use Rattle.std.proofs.lemmas.Bool.Decides.{nat_tests}
use Rattle.std.proofs.lemmas.List.Elements.{All-cons, All-nil}
use Rattle.std.proofs.lemmas.List.{get_or-drop, get_or-take, get_or_past}
use Rattle.std.proofs.Math.Nat.{mod-eq_of_lt}
use Rattle.std.proofs.lemmas.Nat.{be_bytes_4, be_bytes_8, from_be_bytes-to_be_bytes_4, from_be_bytes-to_be_bytes_8}
use Rattle.std.proofs.lemmas.Str.{is_utf8-from_IsUtf8, IsUtf8-from_is_utf8}
use Rattle.std.proofs.Math.Seq.{take-append_seam, drop-append_seam}
use Rattle.sig_fields.specs.Agreeing.{Agrees, AreBytes, FlagsAgree, IsProperList, IsProperMaybe, IsProperText, NumbersAgree, TextsAgree}
use Rattle.sig_fields.specs.Kinds as kinds
use Rattle.sig_fields.specs.Reading.{given, next_after, ruled, ruled_after, where_begun, ◌>>=◌}

-- ---- bytes, and parts of them

pub are_dropped : (n : ℕ) (bytes : List ℕ) → AreBytes bytes → AreBytes (drop n bytes)
are_dropped n bytes are i = subst (λ b. b < 256) (sym (get_or-drop n bytes i 0)) (are (n + i))

are_after : (first rest : List ℕ) → AreBytes (first ++ rest) → AreBytes rest
are_after first rest are = subst AreBytes (drop-append_seam first rest) (are_dropped (length first) (first ++ rest) are)

are_taken : (n : ℕ) (bytes : List ℕ) → n ≤ length bytes → AreBytes bytes → AreBytes (take n bytes)
are_taken n bytes le are i = at (nat_lt i n) refl
  where
    at : (t : Bool) → nat_lt i n ≡ t → get_or (take n bytes) i 0 < 256
    at true is = subst (λ b. b < 256) (sym (get_or-take n bytes i 0 (ltb-true i n is))) (are i)
    at false is = subst (λ b. b < 256) (sym (get_or_past (take n bytes) i 0 (omega (arith, length-take n bytes, ltb-false i n is)))) (omega arith)

record Front (n : ℕ) (first rest : List ℕ) : Type 0 where
  fits : nat_le n (length (first ++ rest)) ≡ true
  front : take n (first ++ rest) ≡ first
  back : drop n (first ++ rest) ≡ rest

front_of : (n : ℕ) (first rest : List ℕ) → length first ≡ n → Front n first rest
front_of n first rest is = record {
  fits = grind (arith, nat_tests, length-append first rest, is);
  front = subst (λ m. take m (first ++ rest) ≡ first) is (take-append_seam first rest);
  back = subst (λ m. drop m (first ++ rest) ≡ rest) is (drop-append_seam first rest);
}

pub given_same : {T : Type 0} (x y : T) (one two : List ℕ) → ◌≡◌ {A = Result (T × List ℕ) (List ℕ)} (Ok (x, one)) (Ok (y, two)) → (x ≡ y) × (one ≡ two)
given_same {T = T} x y one two h =
    let p : ◌≡◌ {A = T × List ℕ} (x, one) (y, two) = cc in
    (ap (λ (z : T × List ℕ). z.0) p, ap (λ (z : T × List ℕ). z.1) p)

-- a test that was met, where something was read
met : {T : Type 0} (test : Bool) (x y : T) (one two from : List ℕ) → ◌≡◌ {A = Result (T × List ℕ) (List ℕ)} (cond test (Ok (x, one)) (Err from)) (Ok (y, two)) → (test ≡ true) × (x ≡ y) × (one ≡ two)
met true x y one two from h = let s = given_same x y one two h in (refl, s.0, s.1)
met false x y one two from h = cc

-- what is read where the test is met
made : {T : Type 0} (test : Bool) (x y : T) (one two from : List ℕ) → test ≡ true → x ≡ y → one ≡ two → ◌≡◌ {A = Result (T × List ℕ) (List ℕ)} (cond test (Ok (x, one)) (Err from)) (Ok (y, two))
made test x y one two from is first second = ap (λ t. cond t (Ok (x, one)) (Err from)) is ∙ (λ i. Ok (first i, second i))

le_is : (n m : ℕ) → n ≤ m → nat_le n m ≡ true
le_is n m h = grind (arith, nat_tests)

le_of : (n m : ℕ) → nat_le n m ≡ true → n ≤ m
le_of n m h = grind (arith, nat_tests)

-- ---- numbers

numbers_read : (n : ℕ) (rest : List ℕ) → n < 2 ^ 64 → kinds.number (kinds.number_bytes n ++ rest) ≡ Ok (n, rest)
numbers_read n rest fits =
    let f = front_of 8 (kinds.number_bytes n) rest refl in
    made (nat_le 8 (length (kinds.number_bytes n ++ rest))) (from_be_bytes w64 (take 8 (kinds.number_bytes n ++ rest))) n (drop 8 (kinds.number_bytes n ++ rest)) rest (kinds.number_bytes n ++ rest)
    f.fits (ap (from_be_bytes w64) f.front ∙ from_be_bytes-to_be_bytes_8 n fits) f.back

numbers_spelled : (bytes : List ℕ) (n : ℕ) (rest : List ℕ) → AreBytes bytes → kinds.number bytes ≡ Ok (n, rest) → bytes ≡ kinds.number_bytes n ++ rest
numbers_spelled bytes n rest are h =
    let m = met (nat_le 8 (length bytes)) (from_be_bytes w64 (take 8 bytes)) n (drop 8 bytes) rest bytes h in
    let le = le_of 8 (length bytes) m.0 in
    let back = be_bytes_8 (take 8 bytes) n (omega (arith, length-take 8 bytes, le)) (are_taken 8 bytes le are) (sym m.1) in
    sym (ap (λ (l : List ℕ). l ++ rest) back ∙ ap (λ (l : List ℕ). take 8 bytes ++ l) (sym m.2) ∙ take-append-drop 8 bytes)

below_8 : (bytes : List ℕ) → AreBytes bytes → from_be_bytes w64 bytes < 2 ^ 64
below_8 bytes are = omega (arith, are 0, are 1, are 2, are 3, are 4, are 5, are 6, are 7)

counts_read : (n : ℕ) (rest : List ℕ) → n < 2 ^ 32 → kinds.count (kinds.count_bytes n ++ rest) ≡ Ok (n, rest)
counts_read n rest fits =
    let f = front_of 4 (kinds.count_bytes n) rest refl in
    made (nat_le 4 (length (kinds.count_bytes n ++ rest))) (from_be_bytes w32 (take 4 (kinds.count_bytes n ++ rest))) n (drop 4 (kinds.count_bytes n ++ rest)) rest (kinds.count_bytes n ++ rest)
    f.fits (ap (from_be_bytes w32) f.front ∙ ap (λ m. from_be_bytes w32 (to_be_bytes w32 m)) (mod-eq_of_lt fits) ∙ from_be_bytes-to_be_bytes_4 n fits) f.back

below : (bytes : List ℕ) → AreBytes bytes → from_be_bytes w32 bytes < 2 ^ 32
below bytes are = omega (arith, are 0, are 1, are 2, are 3)

counts_spelled : (bytes : List ℕ) (n : ℕ) (rest : List ℕ) → AreBytes bytes → kinds.count bytes ≡ Ok (n, rest) → (n < 2 ^ 32) × (bytes ≡ kinds.count_bytes n ++ rest)
counts_spelled bytes n rest are h =
    let m = met (nat_le 4 (length bytes)) (from_be_bytes w32 (take 4 bytes)) n (drop 4 bytes) rest bytes h in
    let le = le_of 4 (length bytes) m.0 in
    let small = are_taken 4 bytes le are in
    let fits : n < 2 ^ 32 = subst (λ k. k < 2 ^ 32) m.1 (below (take 4 bytes) small) in
    let back = ap (to_be_bytes w32) (mod-eq_of_lt fits) ∙ be_bytes_4 (take 4 bytes) n (omega (arith, length-take 4 bytes, le)) small (sym m.1) in
    (fits, sym (ap (λ (l : List ℕ). l ++ rest) back ∙ ap (λ (l : List ℕ). take 4 bytes ++ l) (sym m.2) ∙ take-append-drop 4 bytes))

-- ---- parts with a rule

pub record HasRule {A B : Type 0} (P : A → Type 0) (Q : B → Type 0) (rule : A → Option B) (back : B → A) : Type 0 where
  pub sound : (y : B) → Q y → P (back y) × (rule (back y) ≡ Some y)
  pub complete : (x : A) (y : B) → P x → rule x ≡ Some y → Q y × (x ≡ back y)

record Ruled {A B : Type 0} (rule : A → Option B) (read : List ℕ → Result (A × List ℕ) (List ℕ)) (bytes : List ℕ) (y : B) (rest : List ℕ) : Type 0 where
  value : A
  was : read bytes ≡ Ok (value, rest)
  is : rule value ≡ Some y

begun_is : {B : Type 0} (o : Option B) (bytes mid : List ℕ) (y : B) (rest : List ℕ) → where_begun bytes mid o ≡ Ok (y, rest) → (o ≡ Some y) × (mid ≡ rest)
begun_is (Some z) bytes mid y rest h = let s = given_same z y mid rest h in (ap Some s.0, s.1)
begun_is None bytes mid y rest h = cc

ruled_is : {A B : Type 0} (rule : A → Option B) (read : List ℕ → Result (A × List ℕ) (List ℕ)) (bytes : List ℕ) (r : Result (A × List ℕ) (List ℕ)) (y : B) (rest : List ℕ)
    → read bytes ≡ r → ruled_after rule bytes r ≡ Ok (y, rest) → Ruled rule read bytes y rest
ruled_is rule read bytes (Ok (x, mid)) y rest is h =
    let b = begun_is (rule x) bytes mid y rest h in
    record { value = x; was = is ∙ ap (λ (l : List ℕ). Ok (x, l)) b.1; is = b.0 }
ruled_is rule read bytes (Err from) y rest is h = cc

pub ruled_agrees : {A B : Type 0} (P : A → Type 0) (Q : B → Type 0) (spelled : A → List ℕ) (read : List ℕ → Result (A × List ℕ) (List ℕ)) (rule : A → Option B) (back : B → A)
    → Agrees P spelled read → HasRule P Q rule back → Agrees Q (λ y. spelled (back y)) (ruled rule read)
ruled_agrees {A = A} {B = B} P Q spelled read rule back agree has = record { reads = reads; spells = spells }
  where
    reads : (y : B) (rest : List ℕ) → Q y → ruled rule read (spelled (back y) ++ rest) ≡ Ok (y, rest)
    reads y rest proper =
        let s = has.sound y proper in
        ap (ruled_after rule (spelled (back y) ++ rest)) (agree.reads (back y) rest s.0) ∙ ap (where_begun (spelled (back y) ++ rest) rest) s.1

    spells : (bytes : List ℕ) (y : B) (rest : List ℕ) → AreBytes bytes → ruled rule read bytes ≡ Ok (y, rest) → Q y × (bytes ≡ spelled (back y) ++ rest)
    spells bytes y rest are h =
        let r = ruled_is rule read bytes (read bytes) y rest refl h in
        let one = agree.spells bytes r.value rest are r.was in
        let two = has.complete r.value y one.0 r.is in
        (two.0, one.1 ∙ ap (λ x. spelled x ++ rest) two.1)

-- ---- one part after another

pub then_reads : {A B : Type 0} (P : A → Type 0) (spelled : A → List ℕ) (read : List ℕ → Result (A × List ℕ) (List ℕ)) → Agrees P spelled read
    → (x : A) → P x → (next : A → List ℕ → Result (B × List ℕ) (List ℕ)) (more rest : List ℕ) → (read >>= next) ((spelled x ++ more) ++ rest) ≡ next x (more ++ rest)
then_reads P spelled read agree x proper next more rest =
    ap (read >>= next) (append_assoc (spelled x) more rest) ∙ ap (λ r. next_after r next) (agree.reads x (more ++ rest) proper)

-- what was read first, and what is left for the rest
pub record Step {A B : Type 0} (P : A → Type 0) (spelled : A → List ℕ) (next : A → List ℕ → Result (B × List ℕ) (List ℕ)) (bytes : List ℕ) (y : B) (rest : List ℕ) : Type 0 where
  pub value : A
  pub mid : List ℕ
  pub proper : P value
  pub spelt : bytes ≡ spelled value ++ mid
  pub are : AreBytes mid
  pub then : next value mid ≡ Ok (y, rest)

pub then_spells : {A B : Type 0} (P : A → Type 0) (spelled : A → List ℕ) (read : List ℕ → Result (A × List ℕ) (List ℕ)) → Agrees P spelled read
    → (next : A → List ℕ → Result (B × List ℕ) (List ℕ)) (bytes : List ℕ) (y : B) (rest : List ℕ) → AreBytes bytes → (read >>= next) bytes ≡ Ok (y, rest) → Step P spelled next bytes y rest
then_spells {A = A} {B = B} P spelled read agree next bytes y rest are h = at (read bytes) refl h
  where
    at : (r : Result (A × List ℕ) (List ℕ)) → read bytes ≡ r → next_after r next ≡ Ok (y, rest) → Step P spelled next bytes y rest
    at (Ok (x, mid)) is h =
        let one = agree.spells bytes x mid are is in
        record { value = x; mid = mid; proper = one.0; spelt = one.1; are = are_after (spelled x) mid (subst AreBytes one.1 are); then = h }
    at (Err from) is h = cc

pub joined_spelling : (bytes first mid more rest : List ℕ) → bytes ≡ first ++ mid → mid ≡ more ++ rest → bytes ≡ (first ++ more) ++ rest
joined_spelling bytes first mid more rest one two = one ∙ ap (λ (l : List ℕ). first ++ l) two ∙ sym (append_assoc first more rest)

-- ---- bytes and flags

pub bytes_agree : Agrees (λ (b : ℕ). ⊤) kinds.byte_bytes kinds.byte
bytes_agree = record { reads = λ x rest _. refl; spells = spells }
  where
    spells : (bytes : List ℕ) (x : ℕ) (rest : List ℕ) → AreBytes bytes → kinds.byte bytes ≡ Ok (x, rest) → ⊤ × (bytes ≡ kinds.byte_bytes x ++ rest)
    spells [] x rest are h = cc
    spells (b ∷ bs) x rest are h = let s = given_same b x bs rest h in (tt, λ i. s.0 i ∷ s.1 i)

flag_rule : HasRule (λ (b : ℕ). ⊤) (λ (b : Bool). ⊤) kinds.flag_in kinds.flag_byte
flag_rule = record { sound = sound; complete = complete }
  where
    sound : (y : Bool) → ⊤ → ⊤ × (kinds.flag_in (kinds.flag_byte y) ≡ Some y)
    sound true _ = (tt, refl)
    sound false _ = (tt, refl)

    complete : (x : ℕ) (y : Bool) → ⊤ → kinds.flag_in x ≡ Some y → ⊤ × (x ≡ kinds.flag_byte y)
    complete x true _ h = (tt, grind (arith, nat_tests))
    complete x false _ h = (tt, grind (arith, nat_tests))

pub flags_agree : FlagsAgree
flags_agree = ruled_agrees (λ b. ⊤) (λ b. ⊤) kinds.byte_bytes kinds.byte kinds.flag_in kinds.flag_byte bytes_agree flag_rule

-- ---- numbers with a bound

pub whole_numbers : Agrees (λ n. n < 2 ^ 64) kinds.number_bytes kinds.number
whole_numbers = record { reads = numbers_read; spells = spells }
  where
    spells : (bytes : List ℕ) (n : ℕ) (rest : List ℕ) → AreBytes bytes → kinds.number bytes ≡ Ok (n, rest) → (n < 2 ^ 64) × (bytes ≡ kinds.number_bytes n ++ rest)
    spells bytes n rest are h =
        let m = met (nat_le 8 (length bytes)) (from_be_bytes w64 (take 8 bytes)) n (drop 8 bytes) rest bytes h in
        let small = are_taken 8 bytes (le_of 8 (length bytes) m.0) are in
        (subst (λ k. k < 2 ^ 64) m.1 (below_8 (take 8 bytes) small), numbers_spelled bytes n rest are h)

most_rule : (most : ℕ) → most < 2 ^ 64 → HasRule (λ n. n < 2 ^ 64) (λ n. n ≤ most) (kinds.at_most most) (λ n. n)
most_rule most fits = record { sound = sound; complete = complete }
  where
    sound : (y : ℕ) → y ≤ most → (y < 2 ^ 64) × (kinds.at_most most y ≡ Some y)
    sound y le = (omega arith, ap (λ t. cond t (Some y) None) (le_is y most le))

    complete : (x y : ℕ) → x < 2 ^ 64 → kinds.at_most most x ≡ Some y → (y ≤ most) × (x ≡ y)
    complete x y small h = at (nat_le x most) refl h
      where
        at : (t : Bool) → nat_le x most ≡ t → cond t (Some x) None ≡ Some y → (y ≤ most) × (x ≡ y)
        at true is h = let same : x ≡ y = cc in (subst (λ k. k ≤ most) same (le_of x most is), same)
        at false is h = cc

pub numbers_agree : NumbersAgree
numbers_agree most fits = ruled_agrees (λ n. n < 2 ^ 64) (λ n. n ≤ most) kinds.number_bytes kinds.number (kinds.at_most most) (λ n. n) whole_numbers (most_rule most fits)

-- ---- texts

sized_read : (x rest : List ℕ) → length x < 2 ^ 32 → kinds.sized (kinds.text_bytes x ++ rest) ≡ Ok (x, rest)
sized_read x rest short =
    let head = kinds.count_bytes (length x) in
    let split : kinds.text_bytes x ++ rest ≡ head ++ (x ++ rest) = append_assoc head x rest in
    let f = front_of 4 head (x ++ rest) refl in
    let b = front_of (length x) x rest refl in
    let size : kinds.size_in (head ++ (x ++ rest)) ≡ length x =
    ap (from_be_bytes w32) f.front ∙ ap (λ m. from_be_bytes w32 (to_be_bytes w32 m)) (mod-eq_of_lt short) ∙ from_be_bytes-to_be_bytes_4 (length x) short in
    ap kinds.sized split ∙ rw (size, f.fits, f.back, b.fits, b.front, b.back) refl

both_true : (a b : Bool) → a && b ≡ true → (a ≡ true) × (b ≡ true)
both_true true b h = (refl, h)
both_true false b h = cc

sized_spelled : (bytes x rest : List ℕ) → AreBytes bytes → kinds.sized bytes ≡ Ok (x, rest) → (length x < 2 ^ 32) × (bytes ≡ kinds.text_bytes x ++ rest)
sized_spelled bytes x rest are h =
    let n = kinds.size_in bytes in
    let after = drop 4 bytes in
    let m = met (nat_le 4 (length bytes) && nat_le n (length after)) (take n after) x (drop n after) rest bytes h in
    let t = both_true (nat_le 4 (length bytes)) (nat_le n (length after)) m.0 in
    let le = le_of 4 (length bytes) t.0 in
    let more = le_of n (length after) t.1 in
    let small = are_taken 4 bytes le are in
    let fits : n < 2 ^ 32 = below (take 4 bytes) small in
    let size : length x ≡ n = ap (λ (l : List ℕ). length l) (sym m.1) ∙ omega (arith, length-take n after, more) in
    let head : kinds.count_bytes (length x) ≡ take 4 bytes =
    ap kinds.count_bytes size ∙ ap (to_be_bytes w32) (mod-eq_of_lt fits) ∙ be_bytes_4 (take 4 bytes) n (omega (arith, length-take 4 bytes, le)) small refl in
    let back : x ++ rest ≡ after = sym (λ i. m.1 i ++ m.2 i) ∙ take-append-drop n after in
    let whole : kinds.text_bytes x ++ rest ≡ bytes =
    append_assoc (kinds.count_bytes (length x)) x rest ∙ (λ i. head i ++ back i) ∙ take-append-drop 4 bytes in
    (subst (λ k. k < 2 ^ 32) (sym size) fits, sym whole)

pub sized_agrees : Agrees (λ (x : List ℕ). length x < 2 ^ 32) kinds.text_bytes kinds.sized
sized_agrees = record { reads = sized_read; spells = sized_spelled }

text_rule : HasRule (λ (x : List ℕ). length x < 2 ^ 32) IsProperText kinds.utf8_in (λ x. x)
text_rule = record { sound = sound; complete = complete }
  where
    sound : (y : List ℕ) → IsProperText y → (length y < 2 ^ 32) × (kinds.utf8_in y ≡ Some y)
    sound y proper = (proper.short, ap (λ t. cond t (Some y) None) (is_utf8-from_IsUtf8 y proper.utf8))

    complete : (x y : List ℕ) → length x < 2 ^ 32 → kinds.utf8_in x ≡ Some y → IsProperText y × (x ≡ y)
    complete x y short h = at (is_utf8 x) refl h
      where
        at : (t : Bool) → is_utf8 x ≡ t → cond t (Some x) None ≡ Some y → IsProperText y × (x ≡ y)
        at true is h = let same : x ≡ y = cc in (subst IsProperText same (record { utf8 = IsUtf8-from_is_utf8 x is; short = short }), same)
        at false is h = cc

pub texts_agree : TextsAgree
texts_agree = ruled_agrees (λ (x : List ℕ). length x < 2 ^ 32) IsProperText kinds.text_bytes kinds.sized kinds.utf8_in (λ x. x) sized_agrees text_rule

-- ---- what may be there

pub maybes_agree : {T : Type 0} (P : T → Type 0) (spelled : T → List ℕ) (read : List ℕ → Result (T × List ℕ) (List ℕ))
    → Agrees P spelled read → Agrees (IsProperMaybe P) (kinds.maybe_bytes spelled) (kinds.maybe read)
maybes_agree {T = T} P spelled read agree = record { reads = reads; spells = spells }
  where
    reads : (o : Option T) (rest : List ℕ) → IsProperMaybe P o → kinds.maybe read (kinds.maybe_bytes spelled o ++ rest) ≡ Ok (o, rest)
    reads None rest proper = refl
    reads (Some x) rest proper = ap (λ r. next_after r (λ y. given (Some y))) (agree.reads x rest proper)

    spells : (bytes : List ℕ) (o : Option T) (rest : List ℕ) → AreBytes bytes → kinds.maybe read bytes ≡ Ok (o, rest) → IsProperMaybe P o × (bytes ≡ kinds.maybe_bytes spelled o ++ rest)
    spells bytes o rest are h =
        let s = then_spells (λ b. ⊤) kinds.flag_bytes kinds.flag flags_agree (kinds.maybe_after read) bytes o rest are h in
        at s.value s.mid s.are s.spelt s.then
      where
        at : (there : Bool) (mid : List ℕ) → AreBytes mid → bytes ≡ kinds.flag_bytes there ++ mid → kinds.maybe_after read there mid ≡ Ok (o, rest)
            → IsProperMaybe P o × (bytes ≡ kinds.maybe_bytes spelled o ++ rest)
        at false mid are spelt h =
            let s = given_same None o mid rest h in
            (subst (IsProperMaybe P) s.0 tt, spelt ∙ (λ i. kinds.maybe_bytes spelled (s.0 i) ++ s.1 i))
        at true mid are spelt h =
            let t = then_spells P spelled read agree (λ x. given (Some x)) mid o rest are h in
            let s = given_same (Some t.value) o t.mid rest t.then in (
              subst (IsProperMaybe P) s.0 t.proper,
              joined_spelling bytes (kinds.flag_bytes true) mid (spelled t.value) t.mid spelt t.spelt ∙ (λ i. kinds.maybe_bytes spelled (s.0 i) ++ s.1 i),
            )

-- ---- lists

counts_agree : Agrees (λ n. n < 2 ^ 32) kinds.count_bytes kinds.count
counts_agree = record { reads = counts_read; spells = counts_spelled }

all_first : {T : Type 0} (P : T → Type 0) (x : T) (xs : List T) → All P (x ∷ xs) → P x
all_first P x xs h = h 0 x (omega arith)

all_rest : {T : Type 0} (P : T → Type 0) (x : T) (xs : List T) → All P (x ∷ xs) → All P xs
all_rest P x xs h = λ k d lt. h (suc k) d (omega arith)

items_read : {T : Type 0} (P : T → Type 0) (spelled : T → List ℕ) (read : List ℕ → Result (T × List ℕ) (List ℕ)) → Agrees P spelled read
    → (xs : List T) (rest : List ℕ) → All P xs → kinds.items read (length xs) (flat_map spelled xs ++ rest) ≡ Ok (xs, rest)
items_read P spelled read agree [] rest h = refl
items_read P spelled read agree (x ∷ xs) rest h =
    then_reads P spelled read agree x (all_first P x xs h) (λ y bytes. next_after (kinds.items read (length xs) bytes) (λ ys. given (y ∷ ys))) (flat_map spelled xs) rest
    ∙ ap (λ r. next_after r (λ ys. given (x ∷ ys))) (items_read P spelled read agree xs rest (all_rest P x xs h))

record ItemsSpelled {T : Type 0} (P : T → Type 0) (spelled : T → List ℕ) (n : ℕ) (bytes : List ℕ) (xs : List T) (rest : List ℕ) : Type 0 where
  each : All P xs
  size : length xs ≡ n
  is : bytes ≡ flat_map spelled xs ++ rest

items_spelled : {T : Type 0} (P : T → Type 0) (spelled : T → List ℕ) (read : List ℕ → Result (T × List ℕ) (List ℕ)) → Agrees P spelled read
    → (n : ℕ) (bytes : List ℕ) (xs : List T) (rest : List ℕ) → AreBytes bytes → kinds.items read n bytes ≡ Ok (xs, rest) → ItemsSpelled P spelled n bytes xs rest
items_spelled {T = T} P spelled read agree zero bytes xs rest are h =
    let s = given_same [] xs bytes rest h in
    record { each = subst (All P) s.0 (All-nil P); size = ap (λ (l : List T). length l) (sym s.0); is = (λ i. flat_map spelled (s.0 i) ++ s.1 i) }
items_spelled {T = T} P spelled read agree (suc n) bytes xs rest are h =
    let t = then_spells P spelled read agree (λ y bytes. next_after (kinds.items read n bytes) (λ ys. given (y ∷ ys))) bytes xs rest are h in
    at t.value t.mid (λ ys end is. items_spelled P spelled read agree n t.mid ys end t.are is) t.proper t.spelt (kinds.items read n t.mid) refl t.then
  where
    at : (x : T) (mid : List ℕ) → ((ys : List T) (end : List ℕ) → kinds.items read n mid ≡ Ok (ys, end) → ItemsSpelled P spelled n mid ys end) → P x → bytes ≡ spelled x ++ mid → (r : Result (List T × List ℕ) (List ℕ)) → kinds.items read n mid ≡ r
        → next_after r (λ ys. given (x ∷ ys)) ≡ Ok (xs, rest) → ItemsSpelled P spelled (suc n) bytes xs rest
    at x mid after proper spelt (Err from) is h = cc
    at x mid after proper spelt (Ok (ys, end)) is h =
        let more = after ys end is in
        let s = given_same (x ∷ ys) xs end rest h in
        record {
          each = subst (All P) s.0 (All-cons P x ys proper more.each);
          size = ap (λ (l : List T). length l) (sym s.0) ∙ ap suc more.size;
          is = joined_spelling bytes (spelled x) mid (flat_map spelled ys) end spelt more.is ∙ (λ i. flat_map spelled (s.0 i) ++ s.1 i);
        }

pub lists_agree : {T : Type 0} (P : T → Type 0) (spelled : T → List ℕ) (read : List ℕ → Result (T × List ℕ) (List ℕ))
    → Agrees P spelled read → Agrees (IsProperList P) (kinds.list_bytes spelled) (kinds.list read)
lists_agree {T = T} P spelled read agree = record { reads = reads; spells = spells }
  where
    reads : (xs : List T) (rest : List ℕ) → IsProperList P xs → kinds.list read (kinds.list_bytes spelled xs ++ rest) ≡ Ok (xs, rest)
    reads xs rest proper =
        then_reads (λ n. n < 2 ^ 32) kinds.count_bytes kinds.count counts_agree (length xs) proper.short (kinds.items read) (flat_map spelled xs) rest
        ∙ items_read P spelled read agree xs rest proper.each

    spells : (bytes : List ℕ) (xs : List T) (rest : List ℕ) → AreBytes bytes → kinds.list read bytes ≡ Ok (xs, rest) → IsProperList P xs × (bytes ≡ kinds.list_bytes spelled xs ++ rest)
    spells bytes xs rest are h =
        let t = then_spells (λ n. n < 2 ^ 32) kinds.count_bytes kinds.count counts_agree (kinds.items read) bytes xs rest are h in
        let more = items_spelled P spelled read agree t.value t.mid xs rest t.are t.then in
        let head : kinds.count_bytes t.value ≡ kinds.count_bytes (length xs) = ap kinds.count_bytes (sym more.size) in (
          record { each = more.each; short = subst (λ k. k < 2 ^ 32) (sym more.size) t.proper },
          joined_spelling bytes (kinds.count_bytes (length xs)) t.mid (flat_map spelled xs) rest (t.spelt ∙ ap (λ (l : List ℕ). l ++ t.mid) head) more.is,
        )
