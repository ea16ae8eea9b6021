-- Which publication made a token: one token of a stream is made by one publication at most.
use Rattle.std.proofs.Common.{◌≡◌, ◌∙◌, ap, sym, subst, ℕ, ◌+◌, ◌<◌, ◌≤◌, ◌==◌, List, [], ◌∷◌, ◌++◌, map, flat_map, Bool, true, false, ◌&&◌, ◌||◌, bytes_eq, Option, Some, None, if◌then◌else◌, refl, arith}
use Rattle.std.specs.Option.{option_or}
use Rattle.std.specs.List.{AllByRecursion, list_any}
use Rattle.std.proofs.Common.{eq-eqb}
use Rattle.std.proofs.lemmas.Bool.{ne_eqb, or_right}
use Rattle.std.proofs.lemmas.List.Folds.{list_any-append}
use Rattle.sig_event.specs.declared.news.News.{News}
use Rattle.sig_terms.specs.declared.fact.Fact.{Fact}
use Rattle.sig_terms.specs.declared.fact.Fact.TheVariants.{Created, Configured, StatusSet, Listed, Unlisted, Deleted, Published, Settled, Asked}
use Rattle.sig_terms.specs.declared.token.Issued.{Issued}
use Rattle.sig_history.specs.Streams.{Made, Parts, Publication, Stream, is_named, issued_of, next_token}
use Rattle.sig_history.specs.Facts.{made_by, published_by, tells, time_of, token_by, token_for}
use Rattle.sig_history.specs.Owed.{Sum, stream_named}
use Rattle.sig_history.specs.Refused.{has_made, is_token, publisher_of}
use Rattle.sig_history.specs.Spent.{ArePassed, IsPassed, IsPassedEach}
use Rattle.sig_history.specs.Whole.{IsWhole}
use Rattle.sig_history.proofs.SpentLemmas.{IsMade, all_made}
use Rattle.sig_history.proofs.StreamLemmas.{same_text, text_itself}

-- ---- among publications

pub publisher_behind : (stream : List ℕ) (number : ℕ) (ps qs : List Publication)
    → publisher_of stream number (ps ++ qs) ≡ option_or (publisher_of stream number ps) (publisher_of stream number qs)
publisher_behind stream number [] qs = refl
publisher_behind stream number (p ∷ ps) qs =
    elim (has_made stream number p) as (λ b. (if b then Some p.id else publisher_of stream number (ps ++ qs))
    ≡ option_or (if b then Some p.id else publisher_of stream number ps) (publisher_of stream number qs)) [
      | true ↦ refl
      | false ↦ publisher_behind stream number ps qs
    ]

-- a token that differs by its stream or its number
abbrev IsApart : List ℕ → ℕ → Issued → Type 0
IsApart stream number i = is_token stream number i ≡ false

apart_by : (stream : List ℕ) (number : ℕ) (i : Issued) → (i.stream ≡ stream → i.number ≡ number → ⊥) → IsApart stream number i
apart_by stream number i differs =
    elim (bytes_eq i.stream stream) as (λ b. bytes_eq i.stream stream ≡ b → (b && i.number == number) ≡ false) [
      | true ↦ λ named. ne_eqb i.number number (λ same. differs (same_text i.stream stream named) same)
      | false ↦ λ other. refl
    ] refl

none_any : (stream : List ℕ) (number : ℕ) (is : List Issued) → AllByRecursion (IsApart stream number) is → list_any (is_token stream number) is ≡ false
none_any stream number [] apart = refl
none_any stream number (i ∷ is) apart = ap (λ b. b || list_any (is_token stream number) is) apart.0 ∙ none_any stream number is apart.1

none_published : (stream : List ℕ) (number : ℕ) (ps : List Publication) → AllByRecursion (λ (p : Publication). AllByRecursion (IsApart stream number) p.issued) ps
    → publisher_of stream number ps ≡ None
none_published stream number [] apart = refl
none_published stream number (p ∷ ps) apart =
    ap (λ b. if b then Some p.id else publisher_of stream number ps) (none_any stream number p.issued apart.0)
    ∙ none_published stream number ps apart.1

-- ---- a number that wasn't made yet

each_apart : (p : Parts) (s : Stream) (number : ℕ) → stream_named s.conf.stream p.streams ≡ Some s → s.made < number
    → (is : List Issued) → AllByRecursion (IsPassed p) is → AllByRecursion (IsApart s.conf.stream number) is
each_apart p s number here above [] passed = tt
each_apart p s number here above (i ∷ is) passed = (
  apart_by s.conf.stream number i (λ named same.
      let most : i.number ≤ s.made = passed.0.passed s (ap (λ n. stream_named n p.streams) named ∙ here) in
      omega arith),
  each_apart p s number here above is passed.1,
)

all_apart : (p : Parts) (s : Stream) (number : ℕ) → stream_named s.conf.stream p.streams ≡ Some s → s.made < number
    → (ps : List Publication) → AllByRecursion (IsPassedEach p) ps
    → AllByRecursion (λ (q : Publication). AllByRecursion (IsApart s.conf.stream number) q.issued) ps
all_apart p s number here above [] passed = tt
all_apart p s number here above (q ∷ qs) passed =
    (each_apart p s number here above q.issued passed.0, all_apart p s number here above qs passed.1)

-- no publication made a token of a stream with a number that it hasn't made yet
pub none_yet : (p : Parts) (s : Stream) (number : ℕ) → stream_named s.conf.stream p.streams ≡ Some s → s.made < number → ArePassed p
    → publisher_of s.conf.stream number p.published ≡ None
none_yet p s number here above passed =
    none_published s.conf.stream number p.published (all_apart p s number here above p.published passed)

-- ---- a number that was made before

made_apart : (p : Parts) (f : Fact) (s : Stream) (number : ℕ) → stream_named s.conf.stream p.streams ≡ Some s → number ≤ s.made
    → (ts : List Made) → AllByRecursion (IsMade p f) ts → AllByRecursion (IsApart s.conf.stream number) (map issued_of ts)
made_apart p f s number here most [] made = tt
made_apart p f s number here most (t ∷ ts) made = (
  subst (λ (u : Made). IsApart s.conf.stream number (issued_of u)) made.0.is
      (apart_by s.conf.stream number (issued_of (next_token p.store_id made.0.news (time_of f) made.0.stream)) (λ named same.
      let both : Some made.0.stream ≡ Some s = sym made.0.named ∙ ap (λ n. stream_named n p.streams) named ∙ here in
      let one : made.0.stream ≡ s = cc in
      let many : made.0.stream.made ≡ s.made = ap (λ (w : Stream). w.made) one in
      omega arith)),
  made_apart p f s number here most ts made.1,
)

-- a fact publishes no token of a stream with a number that the stream has made
pub none_anew : (sum : Sum) (f : Fact) (s : Stream) (number : ℕ) → IsWhole sum → stream_named s.conf.stream sum.parts.streams ≡ Some s → number ≤ s.made
    → publisher_of s.conf.stream number (published_by sum.parts f) ≡ None
none_anew sum (Created conf time) s number whole here most = refl
none_anew sum (Configured stream requested delivery description) s number whole here most = refl
none_anew sum (StatusSet stream status reason operator time) s number whole here most = refl
none_anew sum (Listed stream subject) s number whole here most = refl
none_anew sum (Unlisted stream subject) s number whole here most = refl
none_anew sum (Deleted stream) s number whole here most = refl
none_anew sum (Published id news time) s number whole here most =
    none_published s.conf.stream number (published_by sum.parts (Published id news time))
    (made_apart sum.parts (Published id news time) s number here most (made_by sum.parts (Published id news time)) (all_made sum (Published id news time) whole), tt)
none_anew sum (Settled stream items) s number whole here most = refl
none_anew sum (Asked stream state time) s number whole here most = refl

-- ---- the number that a publication makes

own_token_is : (sid : List ℕ) (f : Fact) (s : Stream) (n : News) → tells f s ≡ Some n
    → list_any (is_token s.conf.stream (s.made + 1)) (map issued_of (token_for sid f s)) ≡ true
own_token_is sid f s n told =
    ap (λ o. list_any (is_token s.conf.stream (s.made + 1)) (map issued_of (token_by sid (time_of f) s o))) told
    ∙ ap (λ b. (b && (s.made + 1) == (s.made + 1)) || false) (text_itself s.conf.stream s.conf.stream refl)
    ∙ ap (λ b. b || false) (eq-eqb (s.made + 1) (s.made + 1) refl)

issued-append : (ts us : List Made) → map issued_of (ts ++ us) ≡ map issued_of ts ++ map issued_of us
issued-append [] us = refl
issued-append (t ∷ ts) us = ap (λ l. issued_of t ∷ l) (issued-append ts us)

among : (sid : List ℕ) (f : Fact) (s : Stream) (n : News) → tells f s ≡ Some n → (ss : List Stream) → stream_named s.conf.stream ss ≡ Some s
    → list_any (is_token s.conf.stream (s.made + 1)) (map issued_of (flat_map (token_for sid f) ss)) ≡ true
among sid f s n told [] here = cc here
among sid f s n told (t ∷ ts) here =
    let test : Issued → Bool = is_token s.conf.stream (s.made + 1) in
    let first : List Issued = map issued_of (token_for sid f t) in
    let rest : List Issued = map issued_of (flat_map (token_for sid f) ts) in
    ap (list_any test) (issued-append (token_for sid f t) (flat_map (token_for sid f) ts))
    ∙ list_any-append test first rest
    ∙ elim (is_named s.conf.stream t) as (λ b. (if b then Some t else stream_named s.conf.stream ts) ≡ Some s → (list_any test first || list_any test rest) ≡ true) [
      | true ↦ λ this. (let same : t ≡ s = cc this in
          ap (λ b. b || list_any test rest) (ap (λ (u : Stream). list_any test (map issued_of (token_for sid f u))) same ∙ own_token_is sid f s n told))
      | false ↦ λ later. or_right (list_any test first) (list_any test rest) (among sid f s n told ts later)
    ] here

-- a publication that tells a stream made the next token of it
pub published_now : (p : Parts) (id : List ℕ) (n : News) (time : ℕ) (s : Stream) → stream_named s.conf.stream p.streams ≡ Some s
    → tells (Published id n time) s ≡ Some n
    → publisher_of s.conf.stream (s.made + 1) (published_by p (Published id n time)) ≡ Some id
published_now p id n time s here told =
    ap (λ b. if b then Some id else None) (among p.store_id (Published id n time) s n told p.streams here)
