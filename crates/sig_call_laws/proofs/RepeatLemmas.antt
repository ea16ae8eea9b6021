-- What was published under a name stays published, and is what later publications of that name are held against.
use Rattle.std.proofs.Common.{◌≡◌, ◌∙◌, ap, sym, subst, ℕ, List, [], ◌∷◌, ◌++◌, map, Bool, true, false, ◌&&◌, bytes_eq, Option, Some, None, option_to_list, Ok, if◌then◌else◌, refl}
use Rattle.std.specs.List.{list_any}
use Rattle.std.proofs.lemmas.Bool.{and_from, and_parts, both_ways, false_from_ne_true}
use Rattle.sig_subject.specs.Matching.{is_identical}
use Rattle.sig_subject.proofs.Identity.{decides_identity}
use Rattle.sig_event.specs.Events.{event_text, uri_of}
use Rattle.sig_event.specs.News.{is_same_news}
use Rattle.sig_event.specs.declared.news.News.{News}
use Rattle.sig_terms.specs.Reply.{Reply}
use Rattle.sig_terms.specs.declared.answer.Answer.TheVariants as answer
use Rattle.sig_terms.specs.declared.call.Call.TheVariants.{Publish}
use Rattle.sig_terms.specs.declared.fact.Fact.{Fact}
use Rattle.sig_terms.specs.declared.fact.Fact.TheVariants.{Published}
use Rattle.sig_terms.specs.declared.rules.Rules.{Rules}
use Rattle.sig_terms.specs.declared.token.Issued.{Issued}
use Rattle.sig_history.specs.Facts.{made_by, parts_after, parts_of, published_by}
use Rattle.sig_history.specs.Owed.{Sum, sum_of}
use Rattle.sig_history.specs.Sound.{is_long, is_past, largest}
use Rattle.sig_history.specs.Streams.{Made, Parts, Publication, issued_of, publication_of}
use Rattle.sig_history.proofs.StreamLemmas.{same_text, text_itself}
use Rattle.sig_calls.specs.Publishing.{first_publication, published_after, publishing}
use Rattle.sig_calls.specs.Table.{prepared_of, told_of}
use Rattle.sig_calls.specs.Told.{Told, only, outcome}
use Rattle.sig_calls.proofs.ReplyLemmas.{IsReplyOf, reply_of, reply_with}
use Rattle.sig_call_laws.specs.Repeats.{OtherNewsConflict, RepeatsAreAnsweredAlike, WasPublished, later_sum, reply}

-- ---- news that are the same

record IsSame (a b : News) : Type 0 where
  subject : a.subject ≡ b.subject
  uri : uri_of a.event ≡ uri_of b.event
  text : event_text a.event ≡ event_text b.event

same_means : (a b : News) → is_same_news a b ≡ true → IsSame a b
same_means a b h =
    let two = and_parts (is_identical a.subject b.subject && bytes_eq (uri_of a.event) (uri_of b.event)) (bytes_eq (event_text a.event) (event_text b.event)) h in
    let one = and_parts (is_identical a.subject b.subject) (bytes_eq (uri_of a.event) (uri_of b.event)) two.0 in
    record {
      subject = (decides_identity a.subject b.subject).0 one.0;
      uri = same_text (uri_of a.event) (uri_of b.event) one.1;
      text = same_text (event_text a.event) (event_text b.event) two.1;
    }

same_where : (a b : News) → IsSame a b → is_same_news a b ≡ true
same_where a b same =
    and_from (is_identical a.subject b.subject && bytes_eq (uri_of a.event) (uri_of b.event)) (bytes_eq (event_text a.event) (event_text b.event))
    (and_from (is_identical a.subject b.subject) (bytes_eq (uri_of a.event) (uri_of b.event))
    ((decides_identity a.subject b.subject).1 same.subject) (text_itself (uri_of a.event) (uri_of b.event) same.uri))
    (text_itself (event_text a.event) (event_text b.event) same.text)

pub same_itself : (a : News) → is_same_news a a ≡ true
same_itself a = same_where a a (record { subject = refl; uri = refl; text = refl })

same_on : (a b c : News) → is_same_news a b ≡ true → is_same_news b c ≡ true → is_same_news a c ≡ true
same_on a b c first second =
    let one : IsSame a b = same_means a b first in
    let two : IsSame b c = same_means b c second in
    same_where a c (record { subject = one.subject ∙ two.subject; uri = one.uri ∙ two.uri; text = one.text ∙ two.text })

same_back : (a b : News) → is_same_news a b ≡ true → is_same_news b a ≡ true
same_back a b h =
    let one : IsSame a b = same_means a b h in
    same_where b a (record { subject = sym one.subject; uri = sym one.uri; text = sym one.text })

other_on : (a b c : News) → is_same_news a b ≡ true → is_same_news b c ≡ false → is_same_news a c ≡ false
other_on a b c first apart =
    false_from_ne_true (is_same_news a c) (λ same. both_ways (is_same_news b c) apart (same_on b a c (same_back a b first) same))

-- ---- what stays published

kept_first : (id : List ℕ) (ps qs : List Publication) (p : Publication) → publication_of id ps ≡ Some p → publication_of id (ps ++ qs) ≡ Some p
kept_first id [] qs p is = cc is
kept_first id (q ∷ ps) qs p is =
    elim (bytes_eq q.id id) as (λ b. (if b then Some q else publication_of id ps) ≡ Some p → (if b then Some q else publication_of id (ps ++ qs)) ≡ Some p) [
      | true ↦ λ this. this
      | false ↦ λ later. kept_first id ps qs p later
    ] is

pub new_last : (id : List ℕ) (ps : List Publication) (p : Publication) → publication_of id ps ≡ None → p.id ≡ id → publication_of id (ps ++ p ∷ []) ≡ Some p
new_last id [] p none is = ap (λ b. if b then Some p else None) (text_itself p.id id is)
new_last id (q ∷ ps) p none is =
    elim (bytes_eq q.id id) as (λ b. (if b then Some q else publication_of id ps) ≡ None → (if b then Some q else publication_of id (ps ++ p ∷ [])) ≡ Some p) [
      | true ↦ λ some. cc some
      | false ↦ λ later. new_last id ps p later is
    ] none

kept_later : (id : List ℕ) (facts : List Fact) (parts : Parts) (p : Publication) → publication_of id parts.published ≡ Some p
    → publication_of id (parts_of parts facts).published ≡ Some p
kept_later id [] parts p is = is
kept_later id (f ∷ facts) parts p is = kept_later id facts (parts_after parts f) p (kept_first id parts.published (published_by parts f) p is)

same_store : (facts : List Fact) (parts : Parts) → (parts_of parts facts).store_id ≡ parts.store_id
same_store [] parts = refl
same_store (f ∷ facts) parts = same_store facts (parts_after parts f)

-- ---- what an answer says of it

-- after the fact, if any, the name stands with the news and these tokens
record IsPublished (sum : Sum) (id : List ℕ) (n : News) (store_id : List ℕ) (tokens : List Issued) (change : Option Fact) : Type 0 where
  publication : Publication
  found : publication_of id (sum_of sum (option_to_list change)).parts.published ≡ Some publication
  same : is_same_news publication.news n ≡ true
  issued : publication.issued ≡ tokens
  store : sum.parts.store_id ≡ store_id

first_is : (sum : Sum) (id : List ℕ) (n : News) (now : ℕ) (store_id : List ℕ) (tokens : List Issued) (change : Option Fact)
    → publication_of id sum.parts.published ≡ None → reply_with (first_publication sum.parts id n now) ≡ reply (answer.Published store_id tokens) change
    → IsPublished sum id n store_id tokens change
first_is sum id n now store_id tokens change none is = by (is_long made) is
  where
    f : Fact
    f = Published id n now

    made : List Made
    made = made_by sum.parts f

    by : (b : Bool)
        → reply_with (if b then only (answer.Long (largest made)) else record { answer = answer.Published sum.parts.store_id (map issued_of made); change = Some f; over = list_any is_past made })
        ≡ reply (answer.Published store_id tokens) change
        → IsPublished sum id n store_id tokens change
    by true told = let long : answer.Long (largest made) ≡ answer.Published store_id tokens = ap (λ (r : Reply). r.answer) told in cc long
    by false told =
        let given : answer.Published sum.parts.store_id (map issued_of made) ≡ answer.Published store_id tokens = ap (λ (r : Reply). r.answer) told in
        let made_it : Some f ≡ change = ap (λ (r : Reply). r.change) told in
        subst (λ c. IsPublished sum id n store_id tokens c) made_it (record {
          publication = record { id = id; news = n; issued = map issued_of made };
          found = new_last id sum.parts.published (record { id = id; news = n; issued = map issued_of made }) none refl;
          same = same_itself n;
          issued = cc;
          store = cc;
        })

later_is : (sum : Sum) (id : List ℕ) (n : News) (p : Publication) (store_id : List ℕ) (tokens : List Issued) (change : Option Fact)
    → publication_of id sum.parts.published ≡ Some p
    → reply_with (if is_same_news p.news n then only (answer.Published sum.parts.store_id p.issued) else only answer.Conflict)
    ≡ reply (answer.Published store_id tokens) change
    → IsPublished sum id n store_id tokens change
later_is sum id n p store_id tokens change there is = by (is_same_news p.news n) refl is
  where
    by : (b : Bool) → is_same_news p.news n ≡ b
        → reply_with (if b then only (answer.Published sum.parts.store_id p.issued) else only answer.Conflict) ≡ reply (answer.Published store_id tokens) change
        → IsPublished sum id n store_id tokens change
    by true same told =
        let given : answer.Published sum.parts.store_id p.issued ≡ answer.Published store_id tokens = ap (λ (r : Reply). r.answer) told in
        let nothing : None ≡ change = ap (λ (r : Reply). r.change) told in
        subst (λ c. IsPublished sum id n store_id tokens c) nothing
        (record { publication = p; found = there; same = same; issued = cc; store = cc })
    by false other told = let conflict : answer.Conflict ≡ answer.Published store_id tokens = ap (λ (r : Reply). r.answer) told in cc conflict

published_is : (sum : Sum) (id : List ℕ) (n : News) (now : ℕ) (o : Option Publication) (store_id : List ℕ) (tokens : List Issued) (change : Option Fact)
    → publication_of id sum.parts.published ≡ o → reply_with (published_after sum.parts id n now o) ≡ reply (answer.Published store_id tokens) change
    → IsPublished sum id n store_id tokens change
published_is sum id n now None store_id tokens change none is = first_is sum id n now store_id tokens change none is
published_is sum id n now (Some p) store_id tokens change there is = later_is sum id n p store_id tokens change there is

was_published : (rules : Rules) (sum : Sum) (id : List ℕ) (n : News) (now : ℕ) (store_id : List ℕ) (tokens : List Issued) (change : Option Fact)
    → WasPublished rules sum id n now store_id tokens change → IsPublished sum id n store_id tokens change
unfolding told_of
was_published rules sum id n now store_id tokens change is =
    let told : Told = publishing sum.parts id n now in
    let replied : IsReplyOf told (reply (answer.Published store_id tokens) change) = reply_of told (reply (answer.Published store_id tokens) change) is in
    published_is sum id n now (publication_of id sum.parts.published) store_id tokens change refl replied.reply

-- ---- what comes later

answered_later : (rules : Rules) (sum : Sum) (id : List ℕ) (n other : News) (later : ℕ) (facts : List Fact) (store_id : List ℕ) (tokens : List Issued)
    (change : Option Fact) (b : Bool) → (is : IsPublished sum id n store_id tokens change) → is_same_news is.publication.news other ≡ b
    → prepared_of rules (later_sum sum change facts) (Publish id other) later
    ≡ Ok (reply (if b then answer.Published store_id tokens else answer.Conflict) None)
unfolding told_of
answered_later rules sum id n other later facts store_id tokens change b is same =
    let before : Sum = sum_of sum (option_to_list change) in
    let parts : Parts = parts_of before.parts facts in
    ap (λ o. outcome (published_after parts id other later o)) (kept_later id facts before.parts is.publication is.found)
    ∙ ap (λ c. outcome (if c then only (answer.Published parts.store_id is.publication.issued) else only answer.Conflict)) same
    ∙ by b
  where
    store : (parts_of (sum_of sum (option_to_list change)).parts facts).store_id ≡ store_id
    store = same_store facts (sum_of sum (option_to_list change)).parts ∙ same_store (option_to_list change) sum.parts ∙ is.store

    by : (c : Bool)
        → outcome (if c then only (answer.Published (parts_of (sum_of sum (option_to_list change)).parts facts).store_id is.publication.issued) else only answer.Conflict)
        ≡ Ok (reply (if c then answer.Published store_id tokens else answer.Conflict) None)
    by true = ap (λ s. Ok (reply (answer.Published s is.publication.issued) None)) store ∙ ap (λ l. Ok (reply (answer.Published store_id l) None)) is.issued
    by false = refl

pub repeats_alike : RepeatsAreAnsweredAlike
repeats_alike rules others sum id n again now later facts store_id tokens change was same =
    let is : IsPublished sum id n store_id tokens change = was_published rules sum id n now store_id tokens change was in
    answered_later others sum id n again later facts store_id tokens change true is (same_on is.publication.news n again is.same same)

pub others_conflict : OtherNewsConflict
others_conflict rules others sum id n other now later facts store_id tokens change was apart =
    let is : IsPublished sum id n store_id tokens change = was_published rules sum id n now store_id tokens change was in
    answered_later others sum id n other later facts store_id tokens change false is (other_on is.publication.news n other is.same apart)
