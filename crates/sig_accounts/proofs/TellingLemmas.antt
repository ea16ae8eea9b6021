-- The marks of the streams that are told, and what is made on those.
use Rattle.std.proofs.Common.{◌≡◌, ◌≢◌, ◌∙◌, ap, sym, ℕ, zero, suc, ◌+◌, ◌<◌, ◌≤◌, List, [], ◌∷◌, ◌++◌, length, map, drop, get_or, get_or-set_other, Bool, true, false, if◌then◌else◌, refl, arith, All, append_assoc}
use Rattle.std.proofs.lemmas.Bool.{false≢true}
use Rattle.std.proofs.lemmas.List.{drop_more}
use Rattle.std.proofs.lemmas.List.Elements.{All-get_or}
use Rattle.std.proofs.Math.ListN.{set}
use Rattle.sig_event.specs.declared.news.News.{News}
use Rattle.sig_terms.specs.declared.fact.Fact.{Fact}
use Rattle.sig_terms.specs.declared.token.Issued.{Issued}
use Rattle.sig_history.specs.Facts.{is_told}
use Rattle.sig_history.specs.Streams.{Stream, is_due}
use Rattle.sig_accounts.specs.declared.debt.Said.TheVariants as said
use Rattle.sig_accounts.specs.Owings.{Balance, HasRoomFor, issued_by, owing_heard, owing_in, owing_told, room_in, stream_in}

-- ---- marks

marked : (test : Stream → Bool) (bs : List Balance) (i : ℕ) (d : Balance) → i < length bs
    → get_or (map test (map stream_in (map owing_in bs))) i false ≡ test (get_or bs i d).owing.stream
marked test [] i d within = absurd (omega arith)
marked test (b ∷ bs) zero d within = refl
marked test (b ∷ bs) (suc i) d within = marked test bs i d (omega arith)

-- the mark at a place is that of the stream there
pub told_at : (test : Stream → Bool) (bs : List Balance) (marks : List Bool) (i : ℕ) (d : Balance) → marks ≡ map test (map stream_in (map owing_in bs))
    → i < length bs → get_or marks i false ≡ test (get_or bs i d).owing.stream
told_at test bs marks i d is within = ap (λ l. get_or l i false) is ∙ marked test bs i d within

-- ---- room

-- a stream that is marked has room
pub told_room : (test : Stream → Bool) (bs : List Balance) (marks : List Bool) (i : ℕ) (d : Balance) → marks ≡ map test (map stream_in (map owing_in bs))
    → i < length bs → All (HasRoomFor test room_in) bs → get_or marks i false ≡ true → 0 < (get_or bs i d).room
told_room test bs marks i d is within rooms told =
    All-get_or (HasRoomFor test room_in) bs i d within rooms (sym (told_at test bs marks i d is within) ∙ told)

-- one that isn't needs none
pub untold_room : (test : Stream → Bool) (old bs : List Balance) (marks : List Bool) (i : ℕ) → marks ≡ map test (map stream_in (map owing_in old))
    → map owing_in bs ≡ map owing_in old → i < length bs → get_or marks i false ≡ false → (d : Balance) → HasRoomFor test room_in (get_or bs i d)
untold_room test old bs marks i is same within untold d = λ told.
    let marks_now : marks ≡ map test (map stream_in (map owing_in bs)) = is ∙ ap (λ os. map test (map stream_in os)) (sym same) in
    let wrong : false ≡ true = sym untold ∙ told_at test bs marks i d marks_now within ∙ told in
    absurd (false≢true wrong)

-- ---- tokens

abbrev pub issued_from : Fact → List Balance → List Issued
issued_from f bs = issued_by f (map stream_in (map owing_in bs))

abbrev next_issued : Stream → Issued
next_issued s = record { stream = s.conf.stream; number = s.made + 1 }

issued_more : (f : Fact) (bs : List Balance) (i : ℕ) (d : Balance) (b : Bool) → i < length bs → is_told f (get_or bs i d).owing.stream ≡ b
    → issued_from f (drop i bs) ≡ (if b then next_issued (get_or bs i d).owing.stream ∷ issued_from f (drop (i + 1) bs) else issued_from f (drop (i + 1) bs))
issued_more f bs i d b within is =
    ap (issued_from f) (drop_more bs i d within)
    ∙ ap (λ t. if t then next_issued (get_or bs i d).owing.stream ∷ issued_from f (drop (i + 1) bs) else issued_from f (drop (i + 1) bs)) is

-- a loop that issues the token of a stream that is marked, and none of one that isn't
pub issued_told : (f : Fact) (bs : List Balance) (marks : List Bool) (i : ℕ) (d : Balance) (all before after : List Issued)
    → marks ≡ map (is_told f) (map stream_in (map owing_in bs)) → i < length bs → get_or marks i false ≡ true
    → all ≡ before ++ issued_from f (drop i bs) → after ≡ before ++ next_issued (get_or bs i d).owing.stream ∷ []
    → all ≡ after ++ issued_from f (drop (i + 1) bs)
issued_told f bs marks i d all before after is within told so_far more =
    so_far
    ∙ ap (λ l. before ++ l) (issued_more f bs i d true within (sym (told_at (is_told f) bs marks i d is within) ∙ told))
    ∙ sym (append_assoc before (next_issued (get_or bs i d).owing.stream ∷ []) (issued_from f (drop (i + 1) bs)))
    ∙ ap (λ l. l ++ issued_from f (drop (i + 1) bs)) (sym more)

pub issued_untold : (f : Fact) (bs : List Balance) (marks : List Bool) (i : ℕ) (d : Balance) (all before : List Issued)
    → marks ≡ map (is_told f) (map stream_in (map owing_in bs)) → i < length bs → get_or marks i false ≡ false
    → all ≡ before ++ issued_from f (drop i bs) → all ≡ before ++ issued_from f (drop (i + 1) bs)
issued_untold f bs marks i d all before is within untold so_far =
    so_far ∙ ap (λ l. before ++ l) (issued_more f bs i d false within (sym (told_at (is_told f) bs marks i d is within) ∙ untold))

-- ---- what is owed then

-- what a publication makes of what a stream owes, by the stream's mark
pub heard_told : (n : News) (time place : ℕ) (old now : List Balance) (marks : List Bool) (i : ℕ) (d : Balance) (b : Bool)
    → marks ≡ map (is_due n) (map stream_in (map owing_in old)) → i < length old → ((k : ℕ) (e : Balance) → i ≤ k → get_or now k e ≡ get_or old k e)
    → get_or marks i false ≡ b
    → (if b then owing_told time (said.Published place) (get_or now i d).owing else (get_or now i d).owing) ≡ owing_heard n time place (get_or now i d).owing
heard_told n time place old now marks i d b is within rest told =
    ap (λ t. if t then owing_told time (said.Published place) (get_or now i d).owing else (get_or now i d).owing)
    (sym told ∙ told_at (is_due n) old marks i d is within ∙ ap (λ (y : Balance). is_due n y.owing.stream) (sym (rest i d (omega arith))))

-- one that writes at a place leaves what stands later
pub rest_more : (old now : List Balance) (i : ℕ) (new : Balance) → ((k : ℕ) (d : Balance) → i ≤ k → get_or now k d ≡ get_or old k d)
    → (k : ℕ) (d : Balance) → i + 1 ≤ k → get_or (set now i new) k d ≡ get_or old k d
rest_more old now i new rest k d h =
    let ne : k ≢ i = omega arith in
    get_or-set_other now i k new d ne ∙ rest k d (omega arith)
