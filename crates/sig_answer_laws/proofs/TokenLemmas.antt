-- Tokens that a call makes are owed after it.
use Rattle.std.proofs.Common.{◌≡◌, ◌∙◌, ap, sym, subst, ℕ, ◌+◌, ◌<◌, ◌≤◌, List, [], ◌∷◌, ◌++◌, filter, Bool, true, false, not, Some, None, refl, arith}
use Rattle.std.specs.Prelude.{All, Contains, max, nat_le, nat_lt}
use Rattle.std.specs.Option.{option_map_or}
use Rattle.std.proofs.lemmas.Bool.{leb-false, leb-true, ltb-true}
use Rattle.std.proofs.lemmas.List.Elements.{All-cons, All-nil, All-weaker, Contains-append_right}
use Rattle.sig_json.specs.declared.limits.TheConstants.{PAYLOAD_BYTES}
use Rattle.sig_event.specs.declared.news.News.{News}
use Rattle.sig_terms.specs.declared.fact.Fact.{Fact}
use Rattle.sig_history.specs.Facts.{made_by, removed_by, tells, time_of, token_by, token_for}
use Rattle.sig_history.specs.Owed.{Sum, is_of, owed_by, stream_named, sum_of, takes_off}
use Rattle.sig_history.specs.Sound.{largest}
use Rattle.sig_history.specs.Streams.{Made, Stream, next_token, stands}
use Rattle.sig_history.specs.Whole.{IsWhole}
use Rattle.sig_history.proofs.ChangeLemmas.{named_is}
use Rattle.sig_history.proofs.StepLemmas.{none_for}
use Rattle.sig_history.proofs.StreamLemmas.{is_taken, same_text, text_itself}
use Rattle.sig_history.proofs.WholeLemmas.{whole_distinct}
use Rattle.sig_owing.proofs.OwedStepLemmas.{owed_one_more, tokens_named}
use Rattle.sig_fact_laws.proofs.MemberLemmas.{first_there, kept_there, later_there, none_there, there_before}
use Rattle.sig_answer_laws.specs.Refused.{payload_bytes}
use Rattle.sig_answer_laws.specs.Tokens.{OwesToken}

-- ---- what a fact makes

named_tokens : (sum : Sum) (f : Fact) (name : List ℕ) → IsWhole sum
    → filter (is_of name) (made_by sum.parts f) ≡ option_map_or (token_for sum.parts.store_id f) (stream_named name sum.parts.streams) []
named_tokens sum f name whole =
    tokens_named name sum.parts.store_id f sum.parts.streams (whole_distinct sum.parts.store_id sum.parts.created sum.parts.streams sum.owed whole)

-- a token that is made by a fact that takes no stream away is owed by its stream
pub made_owed : (sum : Sum) (f : Fact) (t : Made) → IsWhole sum → removed_by f ≡ None → Contains (made_by sum.parts f) t
    → Contains (owed_by (sum_of sum (f ∷ [])) t.stream) t
made_owed sum f t whole stays there = by (stands t.stream sum.parts.streams) refl
  where
    made : List Made
    made = filter (is_of t.stream) (made_by sum.parts f)

    own : Contains made t
    own = kept_there (is_of t.stream) (made_by sum.parts f) t there (text_itself t.stream t.stream refl)

    by : (b : Bool) → stands t.stream sum.parts.streams ≡ b → Contains (owed_by (sum_of sum (f ∷ [])) t.stream) t
    by true here =
        let old : List Made = filter (λ (u : Made). not (takes_off t.stream f u)) (owed_by sum t.stream) in
        let is : owed_by (sum_of sum (f ∷ [])) t.stream ≡ old ++ made =
        owed_one_more sum f t.stream whole here (ap (λ o. is_taken o t.stream) stays) ∙ ap (λ l. old ++ l) (sym (named_tokens sum f t.stream whole)) in
        subst (λ l. Contains l t) (sym is) (Contains-append_right old made t own)
    by false absent =
        absurd (none_there t (subst (λ l. Contains l t) (none_for t.stream sum.parts.store_id f sum.parts.streams absent) own))

-- the next token of a stream that a fact tells news
pub told_owed : (sum : Sum) (f : Fact) (name : List ℕ) (s : Stream) (n : News) → IsWhole sum → removed_by f ≡ None
    → stream_named name sum.parts.streams ≡ Some s → tells f s ≡ Some n → OwesToken (sum_of sum (f ∷ [])) name (s.made + 1) n.event
told_owed sum f name s n whole stays is told =
    let sid : List ℕ = sum.parts.store_id in
    let t : Made = next_token sid n (time_of f) s in
    let one : Contains (option_map_or (token_for sid f) (stream_named name sum.parts.streams) []) t =
    subst (λ o. Contains (option_map_or (token_for sid f) o []) t) (sym is)
    (subst (λ o. Contains (token_by sid (time_of f) s o) t) (sym told) (first_there t [])) in
    let there : Contains (made_by sum.parts f) t =
    there_before (is_of name) (made_by sum.parts f) t (subst (λ l. Contains l t) (sym (named_tokens sum f name whole)) one) in
    let named : s.conf.stream ≡ name = same_text s.conf.stream name (named_is name sum.parts.streams s is) in
    record {
      token = t;
      owed = subst (λ m. Contains (owed_by (sum_of sum (f ∷ [])) m) t) named (made_owed sum f t whole stays there);
      numbered = refl;
      tells = refl;
    }

-- ---- the largest of tokens

larger : (t : Made) (ts : List Made) → (0 < largest ts → (u : Made) × Contains ts u × (payload_bytes u ≡ largest ts)) → (b : Bool)
    → nat_le (largest ts) (payload_bytes t) ≡ b → (u : Made) × Contains (t ∷ ts) u × (payload_bytes u ≡ max (payload_bytes t) (largest ts))
larger t ts rest true is =
    let low : largest ts ≤ payload_bytes t = leb-true (largest ts) (payload_bytes t) is in
    (t, first_there t ts, omega arith)
larger t ts rest false is =
    let high : payload_bytes t < largest ts = leb-false (largest ts) (payload_bytes t) is in
    let (u, there, same) = rest (omega arith) in
    let size : payload_bytes u ≡ largest ts = same in
    (u, later_there t u ts there, omega arith)

-- one of them is as large
pub largest_there : (ts : List Made) → 0 < largest ts → (t : Made) × Contains ts t × (payload_bytes t ≡ largest ts)
largest_there [] some = absurd (omega arith)
largest_there (t ∷ ts) some = larger t ts (λ more. largest_there ts more) (nat_le (largest ts) (payload_bytes t)) refl

-- and none is larger
pub none_larger : (ts : List Made) → All (λ (t : Made). payload_bytes t ≤ largest ts) ts
none_larger [] = All-nil (λ (t : Made). payload_bytes t ≤ largest [])
none_larger (t ∷ ts) =
    All-cons (λ (u : Made). payload_bytes u ≤ largest (t ∷ ts)) t ts (omega arith)
    (All-weaker (λ (u : Made). payload_bytes u ≤ largest ts) (λ (u : Made). payload_bytes u ≤ largest (t ∷ ts)) (λ u low. omega arith) ts (none_larger ts))

pub long_above : (ts : List Made) → nat_lt PAYLOAD_BYTES (largest ts) ≡ true → PAYLOAD_BYTES < largest ts
long_above ts long = ltb-true PAYLOAD_BYTES (largest ts) long
