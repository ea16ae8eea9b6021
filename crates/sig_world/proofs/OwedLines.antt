-- What is printed of streams, one after another.
use Rattle.std.proofs.Common.{◌≡◌, ◌∙◌, ap, sym, ℕ, zero, suc, ◌+◌, List, [], ◌∷◌, ◌++◌, map, drop, None, Some, refl, arith}
use Rattle.std.specs.List.{slice_get}
use Rattle.sig_history.specs.Streams.{Stream}
use Rattle.sig_history.specs.Owed.{Sum}
use Rattle.sig_schedules.specs.Replay.{owed_line, owed_text}

-- the line of the stream at a place, and then those behind it
pub owed-next : (sum : Sum) (ss : List Stream) (place : ℕ) (name : List ℕ) → Some name ≡ slice_get (map (λ (s : Stream). s.conf.stream) ss) place
    → owed_text sum (drop place ss) ≡ owed_line sum name ++ owed_text sum (drop (place + 1) ss)
owed-next sum [] place name h = cc h
owed-next sum (s ∷ ss) zero name h =
    let same : s.conf.stream ≡ name = cc h in
    ap (λ n. owed_line sum n ++ owed_text sum ss) same
owed-next sum (s ∷ ss) (suc place) name h =
    let one : suc (place + 1) ≡ suc place + 1 = omega arith in
    owed-next sum ss place name h ∙ ap (λ k. owed_line sum name ++ owed_text sum (drop k (s ∷ ss))) one

abbrev no_streams : List Stream
no_streams = []

none_left : (n : ℕ) → drop n no_streams ≡ no_streams
none_left zero = refl
none_left (suc n) = refl

-- there is none past the last
pub owed-past : (sum : Sum) (ss : List Stream) (place : ℕ) → None ≡ slice_get (map (λ (s : Stream). s.conf.stream) ss) place
    → owed_text sum (drop (place + 1) ss) ≡ owed_text sum (drop place ss)
owed-past sum [] place h = ap (owed_text sum) (none_left (place + 1) ∙ sym (none_left place))
owed-past sum (s ∷ ss) zero h = cc h
owed-past sum (s ∷ ss) (suc place) h =
    let one : suc place + 1 ≡ suc (place + 1) = omega arith in
    ap (λ k. owed_text sum (drop k (s ∷ ss))) one ∙ owed-past sum ss place h
