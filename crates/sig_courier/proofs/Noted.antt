-- One more attempt, in the log and in what is kept.
use Rattle.std.proofs.Common.{◌≡◌, ◌∙◌, ap, sym, subst, refl, ℕ, zero, suc, ◌+◌, ◌*◌, ◌^◌, ◌<◌, min, pow_pos, List, [], ◌∷◌, ◌++◌, Bool, true, false, reverse, filter, bytes_eq, if◌then◌else◌, arith}
use Rattle.std.proofs.Math.Nat.{pow-succ'}
use Rattle.std.proofs.lemmas.List.{reverse-append}
use Rattle.std.proofs.lemmas.List.Elements.{filter-append}
use Rattle.std.proofs.lemmas.Slice.Eq.{bytes_eq-Decides}
use Rattle.sig_courier.specs.declared.attempt.Attempt.{Attempt}
use Rattle.sig_courier.specs.declared.late.Late.{Late}
use Rattle.sig_courier.specs.Waits.{after, counted, next_wait, wait_after}
use Rattle.sig_courier.specs.Schedule.{IsLogged, Kept, attempts_of, late_after, late_in, lates}

-- ---- the log

added : (stream : List ℕ) (log : List Attempt) (a : Attempt) (b : Bool) → bytes_eq a.stream stream ≡ b
    → attempts_of stream (log ++ a ∷ []) ≡ (if b then a ∷ attempts_of stream log else attempts_of stream log)
added stream log a b is =
    ap reverse (filter-append (λ (x : Attempt). bytes_eq x.stream stream) log (a ∷ []))
    ∙ reverse-append (filter (λ (x : Attempt). bytes_eq x.stream stream) log) (filter (λ (x : Attempt). bytes_eq x.stream stream) (a ∷ []))
    ∙ ap (λ (c : Bool). reverse (if c then a ∷ [] else []) ++ attempts_of stream log) is
    ∙ by b
  where
    by : (c : Bool) → reverse (if c then a ∷ [] else []) ++ attempts_of stream log ≡ (if c then a ∷ attempts_of stream log else attempts_of stream log)
    by true = refl
    by false = refl

-- ---- waits

waits_on : (n : ℕ) → next_wait (wait_after n) ≡ wait_after (suc n)
waits_on zero = refl
waits_on (suc n) = by (2 ^ n) (wait_after (suc n)) (pow_pos n) refl ∙ ap (λ m. min 3600 (30 * m)) (sym (pow-succ' 2 n))
  where
    by : (p w : ℕ) → 0 < p → w ≡ min 3600 (30 * p) → next_wait w ≡ min 3600 (30 * (2 * p))
    by p zero some is = omega (arith, some, is)
    by p (suc w) some is = omega (arith, is)

counted_on : (n : ℕ) → counted (suc n) ≡ counted (counted n + 1)
counted_on n = omega arith

late_on : (a : Attempt) (attempts : List Attempt) → late_after (a ∷ attempts) ≡ after (late_after attempts) a.at a.good
late_on a attempts = by a.good refl
  where
    by : (b : Bool) → a.good ≡ b → late_after (a ∷ attempts) ≡ after (late_after attempts) a.at b
    by true is = rw is refl
    by false is =
        rw is (ap (λ w. record { due = a.at + w; wait = w; row = counted (suc (lates attempts)); at = a.at }) (sym (waits_on (lates attempts)))
        ∙ ap (λ n. record { due = a.at + next_wait (wait_after (lates attempts)); wait = next_wait (wait_after (lates attempts)); row = n; at = a.at })
        (counted_on (lates attempts)))

-- ---- both

pub noted : (old new : Kept) (a : Attempt) → late_in new a.stream ≡ after (late_in old a.stream) a.at a.good
    → ((other : List ℕ) → bytes_eq a.stream other ≡ false → late_in new other ≡ late_in old other)
    → (log : List Attempt) → IsLogged old log → IsLogged new (log ++ a ∷ [])
noted old new a own others log kept stream = by (bytes_eq a.stream stream) refl
  where
    by : (b : Bool) → bytes_eq a.stream stream ≡ b → late_in new stream ≡ late_after (attempts_of stream (log ++ a ∷ []))
    by true is =
        let same : a.stream ≡ stream = (bytes_eq-Decides a.stream stream).0 is in
        subst (λ (n : List ℕ). late_in new n ≡ after (late_in old n) a.at a.good) same own
        ∙ ap (λ (l : Late). after l a.at a.good) (kept stream)
        ∙ sym (late_on a (attempts_of stream log))
        ∙ ap late_after (sym (added stream log a true is))
    by false is = others stream is ∙ kept stream ∙ ap late_after (sym (added stream log a false is))
