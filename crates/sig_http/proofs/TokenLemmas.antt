-- The words of a list between commas.
use Rattle.std.proofs.Common.{◌≡◌, ℕ, ◌+◌, ◌<◌, nat_lt, cond, not, List, length, take, drop, get_or, Bool, true, false, Some, None, refl, ap, ◌∙◌, arith}
use Rattle.std.specs.Prelude.{◌||◌}
use Rattle.std.specs.List.{position, position_or_len, list_any}
use Rattle.std.proofs.lemmas.Bool.{ltb-true, ltb-false, not-true}
use Rattle.std.proofs.lemmas.List.Sums.{prefix_len_passes}
use Rattle.std.proofs.lemmas.List.Splits.{slice_split_none, slice_split_first}
use Rattle.sig_http.specs.Values.{is_comma, is_close, says_close}

-- what the test of `position` says
is_Some : (b : Bool) (n at : ℕ) → cond b (Some n) None ≡ Some at → (b ≡ true) × (n ≡ at)
is_Some true n at found = (refl, cc found)
is_Some false n at found = cc found

is_None : (b : Bool) (n : ℕ) → cond b (Some n) None ≡ None → b ≡ false
is_None true n none = cc none
is_None false n none = refl

-- a place lies in the list
pub within_text : (value : List ℕ) (at : ℕ) → position is_comma value ≡ Some at → at < length value
within_text value at found =
    let place = is_Some (nat_lt (position_or_len is_comma value) (length value)) (position_or_len is_comma value) at found in
    rw place.1 at (ltb-true _ _ place.0)

-- the first word stands before the first comma
pub closes_first : (value : List ℕ) (at : ℕ) → position is_comma value ≡ Some at → says_close value ≡ (is_close (take at value) || says_close (drop (at + 1) value))
closes_first value at found =
    let place = is_Some (nat_lt (position_or_len is_comma value) (length value)) (position_or_len is_comma value) at found in
    ap (list_any is_close) (rw place.1 at (slice_split_first is_comma value 0 (ltb-true _ _ place.0)))

or_false : (b : Bool) → (b || false) ≡ b
or_false true = refl
or_false false = refl

-- where there is no comma, there is one word
pub closes_last : (value : List ℕ) → position is_comma value ≡ None → says_close value ≡ is_close value
closes_last value none =
    let past = ltb-false _ _ (is_None (nat_lt (position_or_len is_comma value) (length value)) (position_or_len is_comma value) none) in
    ap (list_any is_close) (slice_split_none is_comma value
    (λ k d lt. not-true (is_comma (get_or value k d)) (prefix_len_passes (λ b. not (is_comma b)) value k d (omega (arith, past)))))
    ∙ or_false (is_close value)
