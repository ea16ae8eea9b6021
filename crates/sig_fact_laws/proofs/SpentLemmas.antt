-- Tokens that were made are spent, and those that facts make next are ahead of them: they differ by their stream or their
-- number.
use Rattle.std.proofs.Common.{◌≡◌, ◌∙◌, ap, sym, subst, ◌⊎◌, inl, inr, ℕ, ◌+◌, ◌<◌, ◌≤◌, List, [], ◌∷◌, map, flat_map, true, false, not, bytes_eq, decimal, ◌++◌, Option, Some, None, if◌then◌else◌, refl, arith}
use Rattle.std.specs.Prelude.{option_map}
use Rattle.std.specs.List.{AllByRecursion, list_any}
use Rattle.std.proofs.lemmas.Bool.{false_from_ne_true, ltb-false, or_parts}
use Rattle.std.proofs.lemmas.Fmt.{decimal_injective}
use Rattle.std.proofs.lemmas.List.{append_cancel_left}
use Rattle.sig_json.specs.declared.limits.TheConstants.{LAST_NUMBER}
use Rattle.sig_event.specs.declared.news.News.{News}
use Rattle.sig_terms.specs.declared.fact.Fact.{Fact}
use Rattle.sig_history.specs.Streams.{Count, Made, Parts, Stream, client_in, created_by, hyphen, is_before, is_named, issued_of, jti_of, next_token, put_in_order, stands, stream_name}
use Rattle.sig_history.specs.Facts.{brought_by, changed_by, counted, made_by, parts_after, placed, removed_by, stream_after, tells, time_of, token_by, token_for, told_one, without}
use Rattle.sig_history.specs.Owed.{Sum, stream_named}
use Rattle.sig_history.specs.Sound.{Fits, is_past}
use Rattle.sig_history.specs.Whole.{AreWhole, IsOwnToken, IsRising, IsWhole, IsWholeStream}
use Rattle.sig_history.proofs.ChangeLemmas.{named_after, named_is}
use Rattle.sig_history.proofs.StepLemmas.{AreDistinct}
use Rattle.sig_history.proofs.StreamLemmas.{changed_made, counted_grow, other_text, same_text, text_itself}
use Rattle.sig_history.specs.Spent.{IsCounted, IsPassed}
use Rattle.sig_history.proofs.SpentLemmas.{IsMade, IsUncounted, all_both, brought_uncounted, counted_apart, each_low, each_known, each_made, found_after, made_passed, no_less, whole_counted}
use Rattle.sig_history.proofs.WholeLemmas.{BringsNext, IsNextStream, few_past, fits_brings, whole_distinct}
use Rattle.sig_fact_laws.proofs.JtiLemmas.{jti_says}

-- ---- tokens

-- it was made: its stream, if it stands, has made as many, and its stream's name is counted
pub record IsSpent (p : Parts) (t : Made) : Type 0 where
  jti : t.claims.jti ≡ jti_of p.store_id t.stream t.number
  low : t.number ≤ LAST_NUMBER
  counted : IsCounted p.created t.stream
  passed : (s : Stream) → stream_named t.stream p.streams ≡ Some s → t.number ≤ s.made

-- a stream stands that hasn't made as many yet
abbrev MayBeNext : Parts → Made → Type 0
MayBeNext p t = (s : Stream) × (stream_named t.stream p.streams ≡ Some s) × (s.made < t.number)

-- it may be made yet: by a stream that stands, or by one that isn't counted yet
pub record IsAhead (p : Parts) (t : Made) : Type 0 where
  jti : t.claims.jti ≡ jti_of p.store_id t.stream t.number
  low : t.number ≤ LAST_NUMBER
  place : MayBeNext p t ⊎ IsUncounted p.created t.stream

pub spent_apart : (p : Parts) (t u : Made) → IsSpent p t → IsAhead p u → bytes_eq t.claims.jti u.claims.jti ≡ false
spent_apart p t u spent ahead = false_from_ne_true (bytes_eq t.claims.jti u.claims.jti) (λ is.
    let says = jti_says p.store_id t.stream u.stream t.number u.number spent.low ahead.low (sym spent.jti ∙ same_text t.claims.jti u.claims.jti is ∙ ahead.jti) in
    elim ahead.place as (λ o. ⊥) [
      | inl next ↦ let (s, named, less) = next in
          let most : t.number ≤ s.made = spent.passed s (ap (λ n. stream_named n p.streams) says.0 ∙ named) in
          let same : t.number ≡ u.number = says.1 in
          omega arith
      | inr new ↦ counted_apart p.created u.stream (subst (IsCounted p.created) says.0 spent.counted) new
    ])

-- it is ahead of what was before the fact
made_ahead : (p : Parts) (f : Fact) (t : Made) → IsMade p f t → t.number ≤ LAST_NUMBER → IsAhead p t
made_ahead p f t made low =
    let next : Made = next_token p.store_id made.news (time_of f) made.stream in
    subst (λ (u : Made). u.number ≤ LAST_NUMBER → IsAhead p u) made.is
    (λ few. record { jti = refl; low = few; place = inl (made.stream, made.named, omega arith) }) low

-- and spent after it
made_spent : (sum : Sum) (f : Fact) (t : Made) → Fits sum f → IsMade sum.parts f t → t.number ≤ LAST_NUMBER → IsSpent (parts_after sum.parts f) t
made_spent sum f t fits made low =
    let passed : IsPassed (parts_after sum.parts f) (issued_of t) = made_passed sum f t fits made in
    record {
      jti = subst (λ (u : Made). u.claims.jti ≡ jti_of sum.parts.store_id u.stream u.number) made.is refl;
      low = low;
      counted = passed.counted;
      passed = passed.passed;
    }

pub all_ahead : (sum : Sum) (f : Fact) → IsWhole sum → Fits sum f → AllByRecursion (IsAhead sum.parts) (made_by sum.parts f)
all_ahead sum f whole fits =
    all_both (IsMade sum.parts f) (λ (t : Made). t.number ≤ LAST_NUMBER) (IsAhead sum.parts) (λ t made low. made_ahead sum.parts f t made low)
    (made_by sum.parts f) (each_made sum.parts f sum.parts.streams (each_known sum whole)) (each_low (made_by sum.parts f) (few_past sum f fits))

pub all_spent : (sum : Sum) (f : Fact) → IsWhole sum → Fits sum f → AllByRecursion (IsSpent (parts_after sum.parts f)) (made_by sum.parts f)
all_spent sum f whole fits =
    all_both (IsMade sum.parts f) (λ (t : Made). t.number ≤ LAST_NUMBER) (IsSpent (parts_after sum.parts f)) (λ t made low. made_spent sum f t fits made low)
    (made_by sum.parts f) (each_made sum.parts f sum.parts.streams (each_known sum whole)) (each_low (made_by sum.parts f) (few_past sum f fits))

-- what is ahead after a fact was ahead before it
pub ahead_before : (sum : Sum) (f : Fact) (t : Made) → Fits sum f → IsAhead (parts_after sum.parts f) t → IsAhead sum.parts t
ahead_before sum f t fits ahead = record {
  jti = ahead.jti;
  low = ahead.low;
  place = elim ahead.place [
    | inl next ↦ let (u, named, less) = next in
        elim (found_after sum.parts f t.stream u named) [
          | inl old ↦ let (s, was, is) = old in
              let grown : s.made ≤ u.made = subst (λ (w : Stream). s.made ≤ w.made) is (no_less f s) in
              inl (s, was, omega arith)
          | inr new ↦ inr (brought_uncounted sum f t.stream u fits named new)
        ]
    | inr new ↦ let grown : created_by (client_in t.stream) sum.parts.created ≤ created_by (client_in t.stream) (parts_after sum.parts f).created =
        counted_grow (brought_by sum.parts f) (client_in t.stream) sum.parts.created in
        let above : created_by (client_in t.stream) (parts_after sum.parts f).created < new.number = new.above in
        inr (record { number = new.number; is = new.is; top = new.top; above = omega arith })
  ];
}

-- ---- tokens that are owed

rising_within : (below most : ℕ) (ts : List Made) → IsRising below ts most → AllByRecursion (λ (t : Made). t.number ≤ most) ts
rising_within below most [] rising = tt
rising_within below most (t ∷ ts) rising = (ends t.number ts rising.1, rising_within t.number most ts rising.1)
  where
    ends : (low : ℕ) (us : List Made) → IsRising low us most → low ≤ most
    ends low [] rises = rises
    ends low (u ∷ us) rises =
        let more : u.number ≤ most = ends u.number us rises.1 in
        let less : low < u.number = rises.0 in omega arith

pub owed_within : (below most : ℕ) (ts : List Made) → IsRising below ts most → AllByRecursion (λ (t : Made). t.number ≤ most) ts
owed_within below most ts rising = rising_within below most ts rising

-- a token of a stream that stands is spent
pub own_spent : (sum : Sum) (s : Stream) (o : List Made) (t : Made) → stream_named s.conf.stream sum.parts.streams ≡ Some s
    → IsWholeStream sum.parts.store_id sum.parts.created s o → IsOwnToken sum.parts.store_id s.conf.stream t → t.number ≤ s.made
    → IsSpent sum.parts t
own_spent sum s o t named whole own most = record {
  jti = own.jti ∙ ap (λ n. jti_of sum.parts.store_id n t.number) (sym own.stream);
  low = (let low : s.made ≤ LAST_NUMBER = whole.made in omega arith);
  counted = subst (IsCounted sum.parts.created) (sym own.stream) (whole_counted sum.parts.store_id sum.parts.created s o whole);
  passed = λ u is. (
      let both : Some u ≡ Some s = sym is ∙ ap (λ n. stream_named n sum.parts.streams) own.stream ∙ named in
      let same : u ≡ s = cc in subst (λ (w : Stream). t.number ≤ w.made) (sym same) most);
}
