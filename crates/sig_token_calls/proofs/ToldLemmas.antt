-- Loops over streams of which the fact tells those that are marked.
use Rattle.std.proofs.Common.{◌≡◌, ◌∙◌, ap, sym, ℕ, ◌+◌, ◌<◌, ◌≤◌, max, List, length, map, drop, get_or, Bool, true, false, ◌&&◌, ◌||◌, nat_lt, if◌then◌else◌, arith}
use Rattle.std.specs.List.{list_any}
use Rattle.std.proofs.lemmas.Bool.{le-ltb, lt-ltb}
use Rattle.std.proofs.lemmas.List.{drop_more}
use Rattle.sig_json.specs.declared.limits.TheConstants.{LAST_NUMBER}
use Rattle.sig_history.specs.Facts.{is_told}
use Rattle.sig_accounts.specs.Owings.{Balance, owing_in, stream_in}
use Rattle.sig_accounts.specs.Telling.{Addressed, IsAddressed}
use Rattle.sig_accounts.proofs.TellingLemmas.{told_at}
use Rattle.sig_token_calls.specs.Sizes.{most_on, own_bytes, size_on}
use Rattle.sig_token_calls.specs.Tokens.{is_full, stream_of}

-- the mark at a place is that of the stream there
told_here : (a : Addressed) (bs : List Balance) (i : ℕ) (x : Balance) → IsAddressed (map stream_in (map owing_in bs)) a → i < length bs
    → x ≡ get_or bs i x → get_or a.told i false ≡ is_told a.fact x.owing.stream
told_here a bs i x is within read =
    told_at (is_told a.fact) bs a.told i x is within ∙ ap (λ (b : Balance). is_told a.fact b.owing.stream) (sym read)

-- a loop that looks for a stream that is full
full_more : (a : Addressed) (bs : List Balance) (i : ℕ) (x : Balance) (all told : Bool) → IsAddressed (map stream_in (map owing_in bs)) a → i < length bs
    → x ≡ get_or bs i x → get_or a.told i false ≡ told → all ≡ list_any (is_full a.fact) (map stream_of (drop i bs))
    → all ≡ ((told && nat_lt LAST_NUMBER (x.owing.stream.made + 1)) || list_any (is_full a.fact) (map stream_of (drop (i + 1) bs)))
full_more a bs i x all told is within read mark so_far =
    let later : Bool = list_any (is_full a.fact) (map stream_of (drop (i + 1) bs)) in
    so_far
    ∙ ap (λ (l : List Balance). list_any (is_full a.fact) (map stream_of l)) (drop_more bs i x within)
    ∙ ap (λ (b : Balance). is_full a.fact b.owing.stream || later) (sym read)
    ∙ ap (λ t. (t && nat_lt LAST_NUMBER (x.owing.stream.made + 1)) || later) (sym (told_here a bs i x is within read) ∙ mark)

pub full_found : (a : Addressed) (bs : List Balance) (i : ℕ) (x : Balance) (all : Bool) → IsAddressed (map stream_in (map owing_in bs)) a → i < length bs
    → x ≡ get_or bs i x → get_or a.told i false ≡ true → LAST_NUMBER ≤ x.owing.stream.made → all ≡ list_any (is_full a.fact) (map stream_of (drop i bs))
    → true ≡ all
full_found a bs i x all is within read mark great so_far =
    sym (full_more a bs i x all true is within read mark so_far
    ∙ ap (λ t. t || list_any (is_full a.fact) (map stream_of (drop (i + 1) bs))) (lt-ltb LAST_NUMBER (x.owing.stream.made + 1) (omega arith)))

pub full_below : (a : Addressed) (bs : List Balance) (i : ℕ) (x : Balance) (all : Bool) → IsAddressed (map stream_in (map owing_in bs)) a → i < length bs
    → x ≡ get_or bs i x → get_or a.told i false ≡ true → x.owing.stream.made < LAST_NUMBER → all ≡ list_any (is_full a.fact) (map stream_of (drop i bs))
    → all ≡ list_any (is_full a.fact) (map stream_of (drop (i + 1) bs))
full_below a bs i x all is within read mark low so_far =
    full_more a bs i x all true is within read mark so_far
    ∙ ap (λ t. t || list_any (is_full a.fact) (map stream_of (drop (i + 1) bs))) (le-ltb LAST_NUMBER (x.owing.stream.made + 1) (omega arith))

pub full_untold : (a : Addressed) (bs : List Balance) (i : ℕ) (x : Balance) (all : Bool) → IsAddressed (map stream_in (map owing_in bs)) a → i < length bs
    → x ≡ get_or bs i x → get_or a.told i false ≡ false → all ≡ list_any (is_full a.fact) (map stream_of (drop i bs))
    → all ≡ list_any (is_full a.fact) (map stream_of (drop (i + 1) bs))
full_untold a bs i x all is within read mark so_far = full_more a bs i x all false is within read mark so_far

-- one that measures the payloads of those that are told
most_more : (a : Addressed) (bs : List Balance) (shared i : ℕ) (x : Balance) (told : Bool) → IsAddressed (map stream_in (map owing_in bs)) a → i < length bs
    → x ≡ get_or bs i x → get_or a.told i false ≡ told
    → most_on shared a.fact (map stream_of (drop i bs))
    ≡ max (if told then shared + own_bytes x.owing.stream.conf (x.owing.stream.made + 1) else 0) (most_on shared a.fact (map stream_of (drop (i + 1) bs)))
most_more a bs shared i x told is within read mark =
    let later : ℕ = most_on shared a.fact (map stream_of (drop (i + 1) bs)) in
    ap (λ (l : List Balance). most_on shared a.fact (map stream_of l)) (drop_more bs i x within)
    ∙ ap (λ (b : Balance). max (size_on shared a.fact b.owing.stream) later) (sym read)
    ∙ ap (λ t. max (if t then shared + own_bytes x.owing.stream.conf (x.owing.stream.made + 1) else 0) later) (sym (told_here a bs i x is within read) ∙ mark)

pub most_told : (a : Addressed) (bs : List Balance) (shared i : ℕ) (x : Balance) (all before size : ℕ) → IsAddressed (map stream_in (map owing_in bs)) a
    → i < length bs → x ≡ get_or bs i x → get_or a.told i false ≡ true → size ≡ shared + own_bytes x.owing.stream.conf (x.owing.stream.made + 1)
    → max before (most_on shared a.fact (map stream_of (drop i bs))) ≡ all → max (max before size) (most_on shared a.fact (map stream_of (drop (i + 1) bs))) ≡ all
most_told a bs shared i x all before size is within read mark sized so_far =
    let one : most_on shared a.fact (map stream_of (drop i bs)) ≡ max (shared + own_bytes x.owing.stream.conf (x.owing.stream.made + 1)) (most_on shared a.fact (map stream_of (drop (i + 1) bs))) = most_more a bs shared i x true is within read mark in
    omega (arith, one, sized, so_far)

pub most_untold : (a : Addressed) (bs : List Balance) (shared i : ℕ) (x : Balance) (all before : ℕ) → IsAddressed (map stream_in (map owing_in bs)) a
    → i < length bs → x ≡ get_or bs i x → get_or a.told i false ≡ false
    → max before (most_on shared a.fact (map stream_of (drop i bs))) ≡ all → max before (most_on shared a.fact (map stream_of (drop (i + 1) bs))) ≡ all
most_untold a bs shared i x all before is within read mark so_far =
    let one : most_on shared a.fact (map stream_of (drop i bs)) ≡ max 0 (most_on shared a.fact (map stream_of (drop (i + 1) bs))) = most_more a bs shared i x false is within read mark in
    omega (arith, one, so_far)
