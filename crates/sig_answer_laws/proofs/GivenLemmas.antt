-- Pages of tokens, publications, and tokens that are settled.
use Rattle.std.proofs.Common.{◌≡◌, ◌∙◌, ap, sym, ℕ, ◌-◌, ◌<◌, List, [], ◌∷◌, ◌++◌, length, get_or, map, filter, flat_map, take, drop, Bool, true, false, not, ◌&&◌, ◌||◌, ◌==◌, Option, Some, None, option_to_list, if◌then◌else◌, refl, inl, inr, arith}
use Rattle.std.specs.Prelude.{All, Contains, min, nat_lt}
use Rattle.std.proofs.lemmas.Bool.{both_ways, eq-eqb, lt-ltb, ltb-true, ne_eqb, or_from}
use Rattle.std.proofs.lemmas.List.{length-drop, length-map, length-take, take-append-drop}
use Rattle.std.proofs.lemmas.List.Elements.{All-append, All-cons, All-contains_itself, All-map, All-nil}
use Rattle.sig_json.specs.declared.limits.TheConstants.{TOKENS_PER_PAGE}
use Rattle.sig_event.specs.declared.news.News.{News}
use Rattle.sig_terms.specs.declared.call.Call.TheVariants.{Hand, Poll, Settle}
use Rattle.sig_terms.specs.declared.call.Outcome.{Outcome}
use Rattle.sig_terms.specs.declared.call.Outcome.TheVariants.{Accepted, Reported, Keep}
use Rattle.sig_terms.specs.declared.call.PollAsk.{PollAsk}
use Rattle.sig_terms.specs.declared.fact.Fact.{Fact}
use Rattle.sig_terms.specs.declared.fact.Fact.TheVariants.{Published, Settled}
use Rattle.sig_terms.specs.declared.fact.SettledItem.{SettledItem}
use Rattle.sig_terms.specs.declared.token.Token.{Token}
use Rattle.sig_terms.specs.declared.want.Delivery.{Delivery}
use Rattle.sig_history.specs.Facts.{made_by, token_by, token_for}
use Rattle.sig_history.specs.Owed.{Sum, offered_by, owed_by, sum_of, takes_off}
use Rattle.sig_history.specs.Sound.{has_number}
use Rattle.sig_history.specs.Streams.{Made, Stream, is_due, issued_of, made_in, stands, token_of}
use Rattle.sig_history.specs.Whole.{IsWhole}
use Rattle.sig_history.proofs.JoinLemmas.{filter_same}
use Rattle.sig_history.proofs.StreamLemmas.{text_itself}
use Rattle.sig_calls.specs.Handing.{first_names, pushed_by}
use Rattle.sig_calls.specs.Polling.{page_size}
use Rattle.sig_calls.specs.Settling.{outcome_item, settled_fact}
use Rattle.sig_calls.proofs.ChangedLemmas.{left_owed}
use Rattle.sig_fact_laws.proofs.LeavesLemmas.{nothing_beside}
use Rattle.sig_answer_laws.specs.Given.{OwesIssued, SaysHanded, SaysSets, SaysSettled}
use Rattle.sig_answer_laws.specs.Tokens.{after}
use Rattle.sig_answer_laws.proofs.TokenLemmas.{made_owed}

-- ---- pages

handed_back : (d : Delivery) (ts : List Made) → map made_in (map (token_of d) ts) ≡ ts
handed_back d [] = refl
handed_back d (t ∷ ts) = ap (λ l. t ∷ l) (handed_back d ts)

pub sets_say : (sum : Sum) (client stream : List ℕ) (ask : PollAsk) (change : Option Fact) (d : Delivery)
    → SaysSets sum (Poll client stream ask) change (map (token_of d) (take (page_size ask) (offered_by (after sum change) stream)))
    (nat_lt (page_size ask) (length (offered_by (after sum change) stream)))
sets_say sum client stream ask change d =
    let offered : List Made = offered_by (after sum change) stream in
    let size : ℕ = page_size ask in
    let page : length (map (token_of d) (take size offered)) ≡ min size (length offered) = length-map (take size offered) (token_of d) ∙ length-take size offered in
    let left : length (drop size offered) ≡ length offered - size = length-drop size offered in
    record {
      client = client;
      stream = stream;
      ask = ask;
      rest = drop size offered;
      asked = refl;
      first = ap (λ l. l ++ drop size offered) (handed_back d (take size offered)) ∙ take-append-drop size offered;
      others = (
        λ more. (let above : size < length offered = ltb-true size (length offered) more in omega arith),
        λ some. lt-ltb size (length offered) (omega arith),
      );
      within = omega arith;
      full = λ more. (let above : size < length offered = ltb-true size (length offered) more in omega arith);
    }

pub handed_says : (sum : Sum) (streams : List (List ℕ))
    → SaysHanded sum (Hand streams) None (take TOKENS_PER_PAGE (flat_map (pushed_by sum) (first_names [] streams)))
handed_says sum streams =
    let all : List Token = flat_map (pushed_by sum) (first_names [] streams) in
    let page : length (take TOKENS_PER_PAGE all) ≡ min TOKENS_PER_PAGE (length all) = length-take TOKENS_PER_PAGE all in
    let left : length (drop TOKENS_PER_PAGE all) ≡ length all - TOKENS_PER_PAGE = length-drop TOKENS_PER_PAGE all in
    record {
      streams = streams;
      rest = drop TOKENS_PER_PAGE all;
      asked = refl;
      same = refl;
      first = take-append-drop TOKENS_PER_PAGE all;
      within = omega arith;
      full = λ some. omega arith;
    }

-- ---- publications

-- a token tells these news
abbrev TellsNews : News → Made → Type 0
TellsNews n t = t.claims.events ≡ n.event ∷ []

all_tell : (sid id : List ℕ) (n : News) (time : ℕ) (ss : List Stream) → All (TellsNews n) (flat_map (token_for sid (Published id n time)) ss)
all_tell sid id n time [] = All-nil (TellsNews n)
all_tell sid id n time (s ∷ ss) =
    All-append (TellsNews n) (token_for sid (Published id n time) s) (flat_map (token_for sid (Published id n time)) ss) (one (is_due n s)) (all_tell sid id n time ss)
  where
    one : (b : Bool) → All (TellsNews n) (token_by sid time s (if b then Some n else None))
    one true = All-cons (TellsNews n) _ [] refl (All-nil (TellsNews n))
    one false = All-nil (TellsNews n)

pub issued_owed : (sum : Sum) (id : List ℕ) (n : News) (now : ℕ) → IsWhole sum
    → All (OwesIssued (sum_of sum (Published id n now ∷ [])) n) (map issued_of (made_by sum.parts (Published id n now)))
issued_owed sum id n now whole =
    let f : Fact = Published id n now in
    let made : List Made = made_by sum.parts f in
    let there : All (Contains made) made = All-contains_itself made in
    let tell : All (TellsNews n) made = all_tell sum.parts.store_id id n now sum.parts.streams in
    All-map (OwesIssued (sum_of sum (f ∷ [])) n) issued_of made
    (λ k d low. record {
      token = get_or made k d;
      owed = made_owed sum f (get_or made k d) whole refl (there k d low);
      numbered = refl;
      tells = tell k d low;
    })

-- ---- tokens that are settled

flipped : (m n : ℕ) → (m == n) ≡ false → (n == m) ≡ false
flipped m n h = ne_eqb n m (λ e. both_ways (m == n) h (eq-eqb m n (sym e)))

gone_number : (n : ℕ) (ts : List Made) → has_number n (filter (λ (t : Made). not (n == t.number)) ts) ≡ false
gone_number n [] = refl
gone_number n (t ∷ ts) =
    let rest : List Made = filter (λ (u : Made). not (n == u.number)) ts in
    elim (n == t.number) as (λ b. (n == t.number) ≡ b → has_number n (if not b then t ∷ rest else rest) ≡ false) [
      | true ↦ λ same. gone_number n ts
      | false ↦ λ other. or_from (t.number == n) (has_number n rest) (flipped n t.number other) (gone_number n ts)
    ] refl

kept_of : (stream : List ℕ) (n : ℕ) (code : Option (List ℕ)) (t : Made)
    → not (takes_off stream (Settled stream (record { number = n; code = code } ∷ [])) t) ≡ not (n == t.number)
kept_of stream n code t =
    ap (λ b. not (b && ((n == t.number) || false))) (text_itself stream stream refl)
    ∙ (elim (n == t.number) as (λ c. not (c || false) ≡ not c) [ true ↦ refl | false ↦ refl ])

here_owed : (sum : Sum) (stream : List ℕ) (n : ℕ) → has_number n (owed_by sum stream) ≡ true → stands stream sum.parts.streams ≡ true
here_owed sum stream n has = by (stands stream sum.parts.streams) refl
  where
    by : (b : Bool) → stands stream sum.parts.streams ≡ b → b ≡ true
    by true here = refl
    by false absent = sym (ap (has_number n) (nothing_beside stream sum.parts.streams sum.owed absent)) ∙ has

settled_gone : (sum : Sum) (stream : List ℕ) (n : ℕ) (code : Option (List ℕ)) → has_number n (owed_by sum stream) ≡ true
    → has_number n (owed_by (sum_of sum (Settled stream (record { number = n; code = code } ∷ []) ∷ [])) stream) ≡ false
settled_gone sum stream n code has =
    let items : List SettledItem = record { number = n; code = code } ∷ [] in
    ap (has_number n) (left_owed sum stream items (here_owed sum stream n has))
    ∙ ap (has_number n) (filter_same (λ (t : Made). not (takes_off stream (Settled stream items) t)) (λ (t : Made). not (n == t.number)) (kept_of stream n code) (owed_by sum stream))
    ∙ gone_number n (owed_by sum stream)

pub settled_says : (sum : Sum) (stream : List ℕ) (n : ℕ) (said : Outcome) (b : Bool) → has_number n (owed_by sum stream) ≡ b
    → SaysSettled sum (Settle stream n said) (settled_fact stream (if b then option_to_list (outcome_item n said) else []))
    (length (if b then option_to_list (outcome_item n said) else []))
settled_says sum stream n Accepted true has =
    record { stream = stream; number = n; said = Accepted; asked = refl; settled = inl (refl, has, settled_gone sum stream n None has) }
settled_says sum stream n (Reported code) true has =
    record { stream = stream; number = n; said = Reported code; asked = refl; settled = inl (refl, has, settled_gone sum stream n (Some code) has) }
settled_says sum stream n Keep true has =
    record { stream = stream; number = n; said = Keep; asked = refl; settled = inr (refl, refl, inr refl) }
settled_says sum stream n said false hasnt =
    record { stream = stream; number = n; said = said; asked = refl; settled = inr (refl, refl, inl hasnt) }
