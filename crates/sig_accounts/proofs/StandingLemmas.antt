-- What one fact more leaves of streams and of what they owe, whatever the fact.
use Rattle.std.proofs.Common.{◌≡◌, ◌∙◌, ap, sym, ℕ, ◌<◌, ◌≤◌, List, [], ◌∷◌, ◌++◌, map, filter, length, get_or, Bool, true, false, not, ◌&&◌, Option, Some, None, if◌then◌else◌, refl, arith}
use Rattle.std.specs.Prelude.{All, IfSome}
use Rattle.std.proofs.lemmas.List.{length-map, map-append}
use Rattle.std.proofs.lemmas.List.Elements.{All-append, All-cons, All-filter, All-head, All-nil, All-tail}
use Rattle.std.proofs.Math.ListN.{get_or-append}
use Rattle.std.proofs.Math.Seq.{get_or-append_seam}
use Rattle.sig_event.specs.declared.news.News.{News}
use Rattle.sig_terms.specs.declared.fact.Fact.{Fact}
use Rattle.sig_terms.specs.declared.fact.Fact.TheVariants.{Created, Configured, StatusSet, Listed, Unlisted, Deleted, Published, Settled, Asked}
use Rattle.sig_history.specs.Streams.{Stream, Publication, Made, claims_for, is_before, is_due, is_named, list_added, list_removed, with_asked, with_conf, with_listed, with_status}
use Rattle.sig_history.specs.Facts.{changed_by, configured, is_told, of_named, said_by, stream_after, tells, time_of, told_one, token_by, token_for, updated_news, verified_news}
use Rattle.sig_history.specs.Owed.{takes_off}
use Rattle.sig_history.specs.Standings.{Standing, placed_standing, put_standing, standing_after, without_standing}
use Rattle.sig_accounts.specs.declared.debt.Debt.{Debt}
use Rattle.sig_accounts.specs.declared.debt.Said.{Said}
use Rattle.sig_accounts.specs.declared.debt.Said.TheVariants as said
use Rattle.sig_accounts.specs.Owings.{ArePlaced, IsPlaced, Owing, debt_off, left_by, made_of, news_at, news_of, next_debt, no_news, opened, owing_after, put_owing, standing_of}
use Rattle.sig_accounts.proofs.TextLemmas.{filter_alike, filter_mapped, map_alike}

-- ---- a token that was made says what it said

told_same : (sid : List ℕ) (published : List Publication) (d : Debt) (t : Stream) (o : Option News)
    → made_of sid published (told_one o t) d ≡ made_of sid published t d
told_same sid published d t None = refl
told_same sid published d t (Some n) = refl

named_same : (sid : List ℕ) (published : List Publication) (d : Debt) (name : List ℕ) (change : Stream → Stream) (s : Stream)
    → made_of sid published (change s) d ≡ made_of sid published s d
    → made_of sid published (of_named name change s) d ≡ made_of sid published s d
named_same sid published d name change s same =
    elim (is_named name s) as (λ b. made_of sid published (if b then change s else s) d ≡ made_of sid published s d) [
      | true ↦ same
      | false ↦ refl
    ]

changed_same : (sid : List ℕ) (published : List Publication) (d : Debt) (f : Fact) (s : Stream)
    → made_of sid published (changed_by f s) d ≡ made_of sid published s d
changed_same sid published d (Created conf time) s = refl
changed_same sid published d (Configured stream requested delivery description) s =
    named_same sid published d stream (λ (t : Stream). with_conf (configured requested delivery description t.conf) t) s refl
changed_same sid published d (StatusSet stream status reason operator time) s = named_same sid published d stream (with_status status reason) s refl
changed_same sid published d (Listed stream subject) s =
    named_same sid published d stream (λ (t : Stream). with_listed (list_added subject t.listed) t) s refl
changed_same sid published d (Unlisted stream subject) s =
    named_same sid published d stream (λ (t : Stream). with_listed (list_removed subject t.listed) t) s refl
changed_same sid published d (Deleted stream) s = refl
changed_same sid published d (Published id news time) s = refl
changed_same sid published d (Settled stream items) s = refl
changed_same sid published d (Asked stream state time) s = named_same sid published d stream (with_asked time) s refl

made_same : (sid : List ℕ) (published : List Publication) (f : Fact) (s : Stream) (d : Debt)
    → made_of sid published (stream_after f s) d ≡ made_of sid published s d
made_same sid published f s d = told_same sid published d (changed_by f s) (tells f s) ∙ changed_same sid published d f s

-- what was published keeps its place
earlier : (published more : List Publication) (place : ℕ) → place < length published → news_at (published ++ more) place ≡ news_at published place
earlier published more place within =
    ap (λ l. get_or l place no_news) (map-append (λ (p : Publication). p.news) published more)
    ∙ get_or-append (map (λ (p : Publication). p.news) published) (map (λ (p : Publication). p.news) more) no_news place
    (omega (arith, length-map published (λ (p : Publication). p.news)))

pub last_news : (published : List Publication) (p : Publication) → news_at (published ++ p ∷ []) (length published) ≡ p.news
last_news published p =
    ap (λ l. get_or l (length published) no_news) (map-append (λ (q : Publication). q.news) published (p ∷ []))
    ∙ ap (λ n. get_or (map (λ (q : Publication). q.news) published ++ p.news ∷ []) n no_news) (sym (length-map published (λ (q : Publication). q.news)))
    ∙ get_or-append_seam (map (λ (q : Publication). q.news) published) p.news [] no_news

said_same : (published more : List Publication) (name : List ℕ) (w : Said) → IsPlaced (length published) w
    → news_of (published ++ more) name w ≡ news_of published name w
said_same published more name (said.Published place) placed = earlier published more place placed
said_same published more name (said.Verified state) placed = refl
said_same published more name (said.Updated status reason) placed = refl

abbrev made_about : List ℕ → Stream → Debt → News → Made
made_about sid s d n = record { stream = s.conf.stream; number = d.number; claims = claims_for sid s.conf d.number d.time n }

same_tokens : (sid : List ℕ) (published more : List Publication) (s : Stream) (ds : List Debt)
    → All (λ (d : Debt). IsPlaced (length published) d.said) ds
    → map (made_of sid (published ++ more) s) ds ≡ map (made_of sid published s) ds
same_tokens sid published more s [] placed = refl
same_tokens sid published more s (d ∷ ds) placed =
    ap (λ (n : News). made_about sid s d n ∷ map (made_of sid (published ++ more) s) ds)
    (said_same published more s.conf.stream d.said (All-head (λ (e : Debt). IsPlaced (length published) e.said) d ds placed))
    ∙ ap (λ l. made_of sid published s d ∷ l)
    (same_tokens sid published more s ds (All-tail (λ (e : Debt). IsPlaced (length published) e.said) d ds placed))

-- ---- what is taken off

off_same : (sid : List ℕ) (published : List Publication) (s : Stream) (f : Fact) (name : List ℕ) (d : Debt)
    → takes_off name f (made_of sid published s d) ≡ debt_off f name d
off_same sid published s (Created conf time) name d = refl
off_same sid published s (Configured stream requested delivery description) name d = refl
off_same sid published s (StatusSet stream status reason operator time) name d = refl
off_same sid published s (Listed stream subject) name d = refl
off_same sid published s (Unlisted stream subject) name d = refl
off_same sid published s (Deleted stream) name d = refl
off_same sid published s (Published id news time) name d = refl
off_same sid published s (Settled stream items) name d = refl
off_same sid published s (Asked stream state time) name d = refl

left_tokens : (sid : List ℕ) (published : List Publication) (f : Fact) (s : Stream) (ds : List Debt)
    → filter (λ (t : Made). not (takes_off s.conf.stream f t)) (map (made_of sid published s) ds) ≡ map (made_of sid published s) (left_by f s ds)
left_tokens sid published f s ds =
    filter_mapped (λ (t : Made). not (takes_off s.conf.stream f t)) (made_of sid published s) ds
    ∙ ap (map (made_of sid published s))
    (filter_alike (λ (d : Debt). not (takes_off s.conf.stream f (made_of sid published s d))) (λ (d : Debt). not (debt_off f s.conf.stream d))
    (λ (d : Debt). ap not (off_same sid published s f s.conf.stream d)) ds)

-- ---- the token that is made

-- a token that says so tells the news of the fact
abbrev pub Says : List Publication → Fact → Said → Type 0
Says published f w = (s : Stream) → is_told f s ≡ true → IfSome (said_by f) (λ (n : News). news_of published s.conf.stream w ≡ n)

told_token : (sid : List ℕ) (published : List Publication) (s after : Stream) (time : ℕ) (w : Said) (n : News) (b : Bool)
    → made_of sid published after (next_debt time w s) ≡ made_of sid published s (next_debt time w s)
    → (b ≡ true → news_of published s.conf.stream w ≡ n)
    → map (made_of sid published after) (if b then next_debt time w s ∷ [] else []) ≡ token_by sid time s (if b then Some n else None)
told_token sid published s after time w n true same says =
    ap (λ t. t ∷ []) (same ∙ ap (made_about sid s (next_debt time w s)) (says refl))
told_token sid published s after time w n false same says = refl

new_token : (sid : List ℕ) (published : List Publication) (f : Fact) (w : Said) (s : Stream) → Says published f w
    → map (made_of sid published (stream_after f s)) (if is_told f s then next_debt (time_of f) w s ∷ [] else []) ≡ token_for sid f s
new_token sid published (Created conf time) w s says = refl
new_token sid published (Configured stream requested delivery description) w s says = refl
new_token sid published (StatusSet stream status reason operator time) w s says =
    told_token sid published s (stream_after (StatusSet stream status reason operator time) s) time w (updated_news stream status reason) (operator && is_named stream s)
    (made_same sid published (StatusSet stream status reason operator time) s (next_debt time w s)) (says s)
new_token sid published (Listed stream subject) w s says = refl
new_token sid published (Unlisted stream subject) w s says = refl
new_token sid published (Deleted stream) w s says = refl
new_token sid published (Published id news time) w s says =
    told_token sid published s (stream_after (Published id news time) s) time w news (is_due news s)
    (made_same sid published (Published id news time) s (next_debt time w s)) (says s)
new_token sid published (Settled stream items) w s says = refl
new_token sid published (Asked stream state time) w s says =
    told_token sid published s (stream_after (Asked stream state time) s) time w (verified_news stream state) (is_named stream s)
    (made_same sid published (Asked stream state time) s (next_debt time w s)) (says s)

-- ---- streams beside what they owe

after_standing : (sid : List ℕ) (published more : List Publication) (f : Fact) (w : Said) (o : Owing) → Says (published ++ more) f w
    → ArePlaced (length published) o
    → standing_of sid (published ++ more) (owing_after f w o) ≡ standing_after sid f (standing_of sid published o)
after_standing sid published more f w o says placed =
    let s : Stream = o.stream in
    let all : List Publication = published ++ more in
    let new : List Debt = if is_told f s then next_debt (time_of f) w s ∷ [] else [] in
    let now : Debt → Made = made_of sid all (stream_after f s) in
    let left : List Debt = left_by f s o.owed in
    ap (λ l. record { stream = stream_after f s; owed = l })
    (map-append now left new
    ∙ ap (λ l. l ++ map now new)
    (map_alike now (made_of sid all s) (made_same sid all f s) left
    ∙ same_tokens sid published more s left (All-filter (λ (d : Debt). not (debt_off f s.conf.stream d)) (λ (d : Debt). IsPlaced (length published) d.said) o.owed placed)
    ∙ sym (left_tokens sid published f s o.owed))
    ∙ ap (λ l. filter (λ (t : Made). not (takes_off s.conf.stream f t)) (map (made_of sid published s) o.owed) ++ l) (new_token sid all f w s says))

pub after_standings : (sid : List ℕ) (published more : List Publication) (f : Fact) (w : Said) (os : List Owing) → Says (published ++ more) f w
    → All (ArePlaced (length published)) os
    → map (standing_of sid (published ++ more)) (map (owing_after f w) os) ≡ map (standing_after sid f) (map (standing_of sid published) os)
after_standings sid published more f w [] says placed = refl
after_standings sid published more f w (o ∷ os) says placed =
    ap (λ s. s ∷ map (standing_of sid (published ++ more)) (map (owing_after f w) os))
    (after_standing sid published more f w o says (All-head (ArePlaced (length published)) o os placed))
    ∙ ap (λ l. standing_after sid f (standing_of sid published o) ∷ l)
    (after_standings sid published more f w os says (All-tail (ArePlaced (length published)) o os placed))

-- one that is put stands in the same place beside its tokens
put_standings : (sid : List ℕ) (published : List Publication) (o : Owing) (os : List Owing)
    → map (standing_of sid published) (put_owing o os) ≡ put_standing (standing_of sid published o) (map (standing_of sid published) os)
put_standings sid published o [] = refl
put_standings sid published o (p ∷ ps) =
    elim (is_before p.stream o.stream) as (λ b. map (standing_of sid published) (if b then p ∷ put_owing o ps else o ∷ p ∷ ps)
    ≡ (if b then standing_of sid published p ∷ put_standing (standing_of sid published o) (map (standing_of sid published) ps)
    else standing_of sid published o ∷ standing_of sid published p ∷ map (standing_of sid published) ps)) [
      | true ↦ ap (λ l. standing_of sid published p ∷ l) (put_standings sid published o ps)
      | false ↦ refl
    ]

abbrev pub placed_owing : Option Stream → List Owing → List Owing
placed_owing None os = os
placed_owing (Some s) os = put_owing (opened s) os

abbrev pub without_owing : Option (List ℕ) → List Owing → List Owing
without_owing None os = os
without_owing (Some name) os = filter (λ (o : Owing). not (is_named name o.stream)) os

pub placed_standings : (sid : List ℕ) (published : List Publication) (brought : Option Stream) (os : List Owing)
    → map (standing_of sid published) (placed_owing brought os) ≡ placed_standing brought (map (standing_of sid published) os)
placed_standings sid published None os = refl
placed_standings sid published (Some s) os = put_standings sid published (opened s) os

pub without_standings : (sid : List ℕ) (published : List Publication) (removed : Option (List ℕ)) (os : List Owing)
    → map (standing_of sid published) (without_owing removed os) ≡ without_standing removed (map (standing_of sid published) os)
without_standings sid published None os = refl
without_standings sid published (Some name) os =
    sym (filter_mapped (λ (s : Standing). not (is_named name s.stream)) (standing_of sid published) os)

-- ---- what is owed is about what was published

further : (places more : ℕ) (w : Said) → places ≤ more → IsPlaced places w → IsPlaced more w
further places more (said.Published place) le placed = omega arith
further places more (said.Verified state) le placed = tt
further places more (said.Updated status reason) le placed = tt

all_further : (places more : ℕ) (ds : List Debt) → places ≤ more → All (λ (d : Debt). IsPlaced places d.said) ds → All (λ (d : Debt). IsPlaced more d.said) ds
all_further places more [] le all = All-nil (λ (d : Debt). IsPlaced more d.said)
all_further places more (d ∷ ds) le all =
    All-cons (λ (e : Debt). IsPlaced more e.said) d ds (further places more d.said le (All-head (λ (e : Debt). IsPlaced places e.said) d ds all))
    (all_further places more ds le (All-tail (λ (e : Debt). IsPlaced places e.said) d ds all))

new_placed : (places : ℕ) (d : Debt) (b : Bool) → IsPlaced places d.said → All (λ (e : Debt). IsPlaced places e.said) (if b then d ∷ [] else [])
new_placed places d true placed = All-cons (λ (e : Debt). IsPlaced places e.said) d [] placed (All-nil (λ (e : Debt). IsPlaced places e.said))
new_placed places d false placed = All-nil (λ (e : Debt). IsPlaced places e.said)

pub all_after : (places more : ℕ) (f : Fact) (w : Said) (os : List Owing) → places ≤ more → IsPlaced more w → All (ArePlaced places) os
    → All (ArePlaced more) (map (owing_after f w) os)
all_after places more f w [] le new all = All-nil (ArePlaced more)
all_after places more f w (o ∷ os) le new all =
    let left : List Debt = left_by f o.stream o.owed in
    All-cons (ArePlaced more) (owing_after f w o) (map (owing_after f w) os)
    (All-append (λ (d : Debt). IsPlaced more d.said) left (if is_told f o.stream then next_debt (time_of f) w o.stream ∷ [] else [])
    (all_further places more left le
    (All-filter (λ (d : Debt). not (debt_off f o.stream.conf.stream d)) (λ (d : Debt). IsPlaced places d.said) o.owed (All-head (ArePlaced places) o os all)))
    (new_placed more (next_debt (time_of f) w o.stream) (is_told f o.stream) new))
    (all_after places more f w os le new (All-tail (ArePlaced places) o os all))

all_put : (P : Owing → Type 0) (o : Owing) (os : List Owing) → P o → All P os → All P (put_owing o os)
all_put P o [] p all = All-cons P o [] p (All-nil P)
all_put P o (q ∷ qs) p all =
    elim (is_before q.stream o.stream) as (λ b. All P (if b then q ∷ put_owing o qs else o ∷ q ∷ qs)) [
      | true ↦ All-cons P q (put_owing o qs) (All-head P q qs all) (all_put P o qs p (All-tail P q qs all))
      | false ↦ All-cons P o (q ∷ qs) p all
    ]

pub all_brought : (places : ℕ) (brought : Option Stream) (os : List Owing) → All (ArePlaced places) os → All (ArePlaced places) (placed_owing brought os)
all_brought places None os all = all
all_brought places (Some s) os all = all_put (ArePlaced places) (opened s) os (All-nil (λ (d : Debt). IsPlaced places d.said)) all

pub all_without : (places : ℕ) (removed : Option (List ℕ)) (os : List Owing) → All (ArePlaced places) os → All (ArePlaced places) (without_owing removed os)
all_without places None os all = all
all_without places (Some name) os all = All-filter (λ (o : Owing). not (is_named name o.stream)) (ArePlaced places) os all
