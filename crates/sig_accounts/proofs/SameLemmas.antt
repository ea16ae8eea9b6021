-- Lists whose items come to the same.
use Rattle.std.proofs.Common.{◌≡◌, ◌∙◌, ap, sym, subst, All, ℕ, zero, suc, ◌+◌, ◌<◌, ◌≤◌, arith, List, [], ◌∷◌, ◌++◌, map, take, get_or, length, refl}
use Rattle.std.proofs.lemmas.List.{get_or_default, length-map, map-append, take_more}
use Rattle.std.proofs.lemmas.List.Elements.{All-get_or}
use Rattle.std.proofs.Math.ListN.{get_or-map}
use Rattle.sig_event.specs.declared.event.Event.{Event}
use Rattle.sig_history.specs.Standings.{Standing, owed_in_standing, stream_in}
use Rattle.sig_history.specs.Streams.{Made, Publication, Stream, claims_for}
use Rattle.sig_accounts.specs.declared.debt.Debt.{Debt}
use Rattle.sig_accounts.specs.Owings.{ArePlaced, Balance, Owing, Telling, Told, made_of, no_news, owing_in, standing_of, telling_of, told_by}

pub alike_length : {X Y : Type 0} (f : X → Y) (a b : List X) → map f a ≡ map f b → length a ≡ length b
alike_length f a b same = sym (length-map a f) ∙ ap length same ∙ length-map b f

-- items at one place of lists that come to the same
pub alike_at : {X Y : Type 0} (f : X → Y) (a b : List X) (i : ℕ) (x y : X) → i < length b → x ≡ get_or a i x → y ≡ get_or b i y
    → map f a ≡ map f b → f x ≡ f y
alike_at f a b i x y inside read found same =
    ap f read ∙ sym (get_or-map f a i x) ∙ ap (λ l. get_or l i (f x)) same ∙ get_or-map f b i x
    ∙ ap f (get_or_default b i x y inside ∙ sym found)

take_whole : {X : Type 0} (xs : List X) (i : ℕ) → length xs ≤ i → take i xs ≡ xs
take_whole [] zero past = refl
take_whole [] (suc i) past = refl
take_whole (x ∷ xs) zero past = absurd (omega (arith, past))
take_whole (x ∷ xs) (suc i) past = ap (λ l. x ∷ l) (take_whole xs i (omega (arith, past)))

-- lists whose items were all compared
pub alike_all : {X Y : Type 0} (f : X → Y) (a b : List X) (i : ℕ) → length a ≤ i → length a ≡ length b
    → map f (take i a) ≡ map f (take i b) → map f a ≡ map f b
alike_all f a b i past same so_far =
    ap (map f) (sym (take_whole a i past)) ∙ so_far ∙ ap (map f) (take_whole b i (omega (arith, same)))

-- one more copy
pub copied_more : {X Y : Type 0} (f : X → Y) (list copies : List X) (i : ℕ) (c d : X) → i < length list → d ≡ get_or list i d
    → map f copies ≡ map f (take i list) → f c ≡ f d → map f (copies ++ c ∷ []) ≡ map f (take (i + 1) list)
copied_more f list copies i c d within read so_far same =
    map-append f copies (c ∷ []) ∙ ap (λ l. l ++ f c ∷ []) so_far ∙ ap (λ y. map f (take i list) ++ y ∷ []) same
    ∙ sym (map-append f (take i list) (d ∷ []))
    ∙ ap (map f) (ap (λ x. take i list ++ x ∷ []) read ∙ sym (take_more list i d within))

-- what holds of each stream holds of the one at a place
pub placed_at : (places : ℕ) (bs : List Balance) (i : ℕ) (b : Balance) → i < length bs → b ≡ get_or bs i b
    → All (ArePlaced places) (map owing_in bs) → ArePlaced places b.owing
placed_at places bs i b within read all =
    subst (ArePlaced places) (get_or-map owing_in bs i b ∙ ap owing_in (sym read))
    (All-get_or (ArePlaced places) (map owing_in bs) i b.owing (omega (arith, length-map bs owing_in)) all)

pub told_twice : (published : List Publication) (bs : List Balance)
    → map (telling_of published) (map owing_in bs) ≡ map (λ (b : Balance). telling_of published b.owing) bs
told_twice published [] = refl
told_twice published (b ∷ bs) = ap (λ l. telling_of published b.owing ∷ l) (told_twice published bs)

-- ---- what streams come to

abbrev made_from : List ℕ → Stream → Told → Made
made_from sid s t = record { stream = s.conf.stream; number = t.number; claims = claims_for sid s.conf t.number t.time t.news }

abbrev standing_from : List ℕ → Telling → Standing
standing_from sid t = record { stream = t.stream; owed = map (made_from sid t.stream) t.told }

made_again : (sid : List ℕ) (published : List Publication) (s : Stream) (ds : List Debt)
    → map (made_of sid published s) ds ≡ map (made_from sid s) (map (told_by published s.conf.stream) ds)
made_again sid published s [] = refl
made_again sid published s (d ∷ ds) = ap (λ l. made_of sid published s d ∷ l) (made_again sid published s ds)

standings_again : (sid : List ℕ) (published : List Publication) (os : List Owing)
    → map (standing_of sid published) os ≡ map (standing_from sid) (map (telling_of published) os)
standings_again sid published [] = refl
standings_again sid published (o ∷ os) =
    ap (λ l. record { stream = o.stream; owed = l } ∷ map (standing_of sid published) os) (made_again sid published o.stream o.owed)
    ∙ ap (λ l. standing_from sid (telling_of published o) ∷ l) (standings_again sid published os)

-- streams that tell the same stand beside the same tokens
pub same_standings : (sid : List ℕ) (published : List Publication) (a b : List Owing)
    → map (telling_of published) a ≡ map (telling_of published) b → map (standing_of sid published) a ≡ map (standing_of sid published) b
same_standings sid published a b same =
    standings_again sid published a ∙ ap (map (standing_from sid)) same ∙ sym (standings_again sid published b)

abbrev first_event : List Event → Event
first_event [] = no_news.event
first_event (e ∷ es) = e

abbrev told_back : Made → Told
told_back m = record {
  number = m.number;
  time = m.claims.iat;
  news = record { subject = m.claims.subject; event = first_event m.claims.events };
}

abbrev telling_back : Standing → Telling
telling_back s = record { stream = s.stream; told = map told_back s.owed }

told_again : (sid : List ℕ) (published : List Publication) (s : Stream) (ds : List Debt)
    → map told_back (map (made_of sid published s) ds) ≡ map (told_by published s.conf.stream) ds
told_again sid published s [] = refl
told_again sid published s (d ∷ ds) = ap (λ l. told_by published s.conf.stream d ∷ l) (told_again sid published s ds)

tellings_again : (sid : List ℕ) (published : List Publication) (os : List Owing)
    → map telling_back (map (standing_of sid published) os) ≡ map (telling_of published) os
tellings_again sid published [] = refl
tellings_again sid published (o ∷ os) =
    ap (λ l. record { stream = o.stream; told = l } ∷ map telling_back (map (standing_of sid published) os)) (told_again sid published o.stream o.owed)
    ∙ ap (λ l. telling_of published o ∷ l) (tellings_again sid published os)

-- and the other way round
pub same_tellings : (sid : List ℕ) (published : List Publication) (a b : List Owing)
    → map (standing_of sid published) a ≡ map (standing_of sid published) b → map (telling_of published) a ≡ map (telling_of published) b
same_tellings sid published a b same =
    sym (tellings_again sid published a) ∙ ap (map telling_back) same ∙ tellings_again sid published b

abbrev joined : List Stream → List (List Made) → List Standing
joined [] owed = []
joined (s ∷ ss) [] = []
joined (s ∷ ss) (o ∷ os) = record { stream = s; owed = o } ∷ joined ss os

rejoined : (standings : List Standing) → joined (map stream_in standings) (map owed_in_standing standings) ≡ standings
rejoined [] = refl
rejoined (s ∷ ss) = ap (λ l. s ∷ l) (rejoined ss)

-- standings are told by their streams and by what these owe
pub standings_told : (some others : List Standing) → map stream_in some ≡ map stream_in others
    → map owed_in_standing some ≡ map owed_in_standing others → some ≡ others
standings_told some others streams owed =
    sym (rejoined some) ∙ ap (λ l. joined l (map owed_in_standing some)) streams
    ∙ ap (joined (map stream_in others)) owed ∙ rejoined others
