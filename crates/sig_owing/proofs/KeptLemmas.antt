-- One fact more that fits and that proper rules make: streams and tokens stay as those rules have them.
use Rattle.std.proofs.Common.{◌≡◌, ◌∙◌, ap, sym, subst, ℕ, ◌+◌, ◌<◌, ◌≤◌, List, [], ◌∷◌, ◌++◌, Bool, true, false, ◌&&◌, length, map, filter, flat_map, Option, Some, None, not, if◌then◌else◌, IsUtf8, refl, inl, inr, arith, length-append}
use Rattle.std.specs.Prelude.{All, Contains, codes, decimal, nat_le, nat_lt}
use Rattle.std.specs.List.{list_any, list_all}
use Rattle.std.specs.Str.{IsAscii}
use Rattle.std.proofs.lemmas.Bool.{and_parts, leb-true, ltb-false, or_cases, or_parts}
use Rattle.std.proofs.lemmas.Fmt.{IsAscii-decimal}
use Rattle.std.proofs.lemmas.List.Elements.{All-append, All-cons, All-contains_itself, All-filter, All-head, All-map, All-nil, All-tail, All-weaker, Contains-append_left, Contains-append_right, filter_passes}
use Rattle.std.proofs.lemmas.List.Folds.{list_any-append}
use Rattle.std.proofs.lemmas.Str.{IsUtf8-append, IsUtf8-from_ascii}
use Rattle.uuid.specs.Text.{hyphenated_text, lower}
use Rattle.uuid.proofs.TextLemmas.{hyphenated_ascii}
use Rattle.serde_json.specs.Data.{depth, items_depth, string}
use Rattle.serde_json.specs.Read.{max_depth}
use Rattle.serde_json.specs.View.{items_of}
use Rattle.sig_json.specs.declared.limits.TheConstants.{LAST_NUMBER}
use Rattle.sig_json.specs.Canon.{without_fraction}
use Rattle.sig_json.proofs.Fractions.{without_shallow}
use Rattle.sig_subject.specs.Written.{subject_data}
use Rattle.sig_event.specs.Events as events
use Rattle.sig_event.specs.News.{told_data}
use Rattle.sig_event.specs.declared.news.News.{News}
use Rattle.sig_set.specs.Written.{audience_data, payload_of}
use Rattle.sig_set.proofs.ProperClaims.{ascii, proper_by_parts}
use Rattle.sig_terms.specs.declared.configuration.StreamConf.{StreamConf}
use Rattle.sig_terms.specs.declared.fact.Fact.{Fact}
use Rattle.sig_terms.specs.declared.fact.Fact.TheVariants.{Created, Configured, StatusSet, Listed, Unlisted, Deleted, Published, Settled, Asked}
use Rattle.sig_history.specs.Streams.{Stream, Count, Parts, Made, claims_for, hyphen, is_before, is_due, is_named, jti_of, next_token, put_in_order, stands, stream_name}
use Rattle.sig_history.specs.Facts.{brought_by, made_by, parts_after, parts_of, placed, removed_by, stream_after, tells, time_of, token_by, token_for, updated_news, verified_news, without}
use Rattle.sig_history.specs.Owed.{Sum, empty_sum, is_of, owed_after, owed_by, sum_of, survives}
use Rattle.sig_history.specs.Ours.{IsKept, IsMadeFor, IsOurFact, IsOurStream, IsOurToken}
use Rattle.sig_history.specs.Sound.{Fits, is_client_name, is_name_character, is_past}
use Rattle.sig_history.specs.Whole.{AreWhole, IsWholeStream}
use Rattle.sig_history.proofs.JoinLemmas.{found, none_in}
use Rattle.sig_history.proofs.StreamLemmas.{IsSameStream, after_same, same_text}
use Rattle.sig_owing.proofs.StreamNews.{IsFilledText, IsProperTold, proper_updated, proper_verified, published_told}
use Rattle.sig_owing.proofs.UriTexts.{ascii_more, ascii_none}
use Rattle.sig_history.proofs.WholeLemmas.{BringsNext, few_past, fits_brings, whole_after}

-- ---- texts

name_character_low : (b : ℕ) → is_name_character b ≡ true → b < 128
name_character_low b h = elim (or_cases (nat_le 97 b && nat_le b 122) (nat_le 48 b && nat_le b 57) h) [
  | inl small ↦ let low : b ≤ 122 = leb-true b 122 (and_parts (nat_le 97 b) (nat_le b 122) small).1 in omega arith
  | inr digit ↦ let low : b ≤ 57 = leb-true b 57 (and_parts (nat_le 48 b) (nat_le b 57) digit).1 in omega arith
]

name_ascii : (name : List ℕ) → list_all is_name_character name ≡ true → IsAscii name
name_ascii [] h = ascii_none
name_ascii (b ∷ bs) h =
    let both = and_parts (is_name_character b) (list_all is_name_character bs) h in
    ascii_more b bs (name_character_low b both.0) (name_ascii bs both.1)

client_utf8 : (name : List ℕ) → is_client_name name ≡ true → IsUtf8 name
client_utf8 name h = IsUtf8-from_ascii name (name_ascii name (and_parts _ (list_all is_name_character name) h).1)

number_utf8 : (n : ℕ) → n ≤ LAST_NUMBER → IsUtf8 (decimal n)
number_utf8 n low = IsUtf8-from_ascii (decimal n) (IsAscii-decimal n (omega arith))

stream_utf8 : (client : List ℕ) (n : ℕ) → is_client_name client ≡ true → n ≤ LAST_NUMBER → IsUtf8 (stream_name client n)
stream_utf8 client n ok low =
    IsUtf8-append client (hyphen ∷ decimal n) (client_utf8 client ok)
    (IsUtf8-append (hyphen ∷ []) (decimal n) (ascii (hyphen ∷ []) refl) (number_utf8 n low))

stream_filled : (client : List ℕ) (n : ℕ) → stream_name client n ≡ [] → ⊥
stream_filled [] n is = cc is
stream_filled (b ∷ bs) n is = cc is

-- the name of a stream that stands
name_text : (issuer store_id : List ℕ) (created : List Count) (s : Stream) (o : List Made) → IsWholeStream store_id created s o → IsOurStream issuer s
    → IsFilledText s.conf.stream
name_text issuer store_id created s o whole ours =
    subst IsFilledText (sym whole.name)
    (record { utf8 = stream_utf8 s.client s.number ours.client whole.top; filled = stream_filled s.client s.number })

jti_utf8 : (store_id stream : List ℕ) (n : ℕ) → IsUtf8 stream → n ≤ LAST_NUMBER → IsUtf8 (jti_of store_id stream n)
jti_utf8 store_id stream n ok low =
    let dot : IsUtf8 (codes ".") = ascii (codes ".") refl in
    let front : IsUtf8 (hyphenated_text lower store_id) = IsUtf8-from_ascii _ (hyphenated_ascii lower store_id (inl refl)) in
    IsUtf8-append (hyphenated_text lower store_id ++ codes "." ++ stream ++ codes ".") (decimal n)
    (IsUtf8-append (hyphenated_text lower store_id ++ codes "." ++ stream) (codes ".")
    (IsUtf8-append (hyphenated_text lower store_id ++ codes ".") stream (IsUtf8-append (hyphenated_text lower store_id) (codes ".") front dot) ok) dot)
    (number_utf8 n low)

filled : (front back : List ℕ) → 0 < length (front ++ codes "." ++ back)
filled front back = simp length-append (omega arith)

-- ---- a token is as the rules have it

-- news that nest no deeper than is read make a payload that doesn't either
texts_flat : (texts : List (List ℕ)) → items_depth (items_of (map string texts)) ≡ 0
texts_flat [] = refl
texts_flat (text ∷ texts) = omega (arith, texts_flat texts)

audience_shallow : (texts : List (List ℕ)) → depth (audience_data texts) ≤ 1
audience_shallow [] = omega arith
audience_shallow (text ∷ []) = omega arith
audience_shallow (text ∷ other ∷ texts) = omega (arith, texts_flat texts)

token_shallow : (store_id : List ℕ) (conf : StreamConf) (number time : ℕ) (n : News) → IsProperTold n
    → depth (payload_of (claims_for store_id conf number time n)) ≤ max_depth
token_shallow store_id conf number time n proper =
    let told : depth (told_data n) ≤ max_depth = proper.nests in
    let aud : depth (audience_data conf.aud) ≤ 1 = audience_shallow conf.aud in
    let event : depth (without_fraction (events.payload_of n.event)) ≤ depth (events.payload_of n.event) = without_shallow (events.payload_of n.event) in
    let subject : depth (without_fraction (subject_data n.subject)) ≤ depth (subject_data n.subject) = without_shallow (subject_data n.subject) in
    omega arith

-- a stream's next token
next_ours : (issuer store_id : List ℕ) (created : List Count) (n : News) (time : ℕ) (s : Stream) (o : List Made) → IsUtf8 issuer
    → IsProperTold n → time ≤ LAST_NUMBER → IsWholeStream store_id created s o → IsOurStream issuer s → s.made + 1 ≤ LAST_NUMBER
    → IsOurToken issuer store_id (next_token store_id n time s)
next_ours issuer store_id created n time s o text proper early whole ours low =
    let name : IsUtf8 s.conf.stream = (name_text issuer store_id created s o whole ours).utf8 in
    record {
      iss = ours.iss;
      jti = refl;
      proper = proper_by_parts (claims_for store_id s.conf (s.made + 1) time n) n.event (record {
        iss = subst IsUtf8 (sym ours.iss) text;
        jti = jti_utf8 store_id s.conf.stream (s.made + 1) name low;
        identified = filled (hyphenated_text lower store_id ++ codes "." ++ s.conf.stream) (decimal (s.made + 1));
        taken = early;
        aud = ours.aud;
        subject = proper.subject;
        one = refl;
        uri = proper.uri;
        event = proper.event;
        nests = token_shallow store_id s.conf (s.made + 1) time n proper;
      });
    }

-- what facts of these rules tell
record IsTold (time : ℕ) (n : News) : Type 0 where
  proper : IsProperTold n
  early : time ≤ LAST_NUMBER

abbrev AreTold : ℕ → Option News → Type 0
AreTold time None = Unit {0}
AreTold time (Some n) = IsTold time n

-- news that are told only where a test holds
told_where : (time : ℕ) (n : News) (told : Bool) → (told ≡ true → IsTold time n) → AreTold time (if told then Some n else None)
told_where time n true proper = proper refl
told_where time n false proper = tt

tells_proper : (issuer : List ℕ) (f : Fact) (s : Stream) → IsFilledText s.conf.stream → IsOurFact issuer f → AreTold (time_of f) (tells f s)
tells_proper issuer (Created conf time) s text fact = tt
tells_proper issuer (Configured stream requested delivery description) s text fact = tt
tells_proper issuer (StatusSet stream status reason operator time) s text fact =
    told_where time (updated_news stream status reason) (operator && is_named stream s) (λ told.
    let name : s.conf.stream ≡ stream = same_text s.conf.stream stream (and_parts operator (is_named stream s) told).1 in
    record { proper = proper_updated stream status reason (subst IsFilledText name text) fact.0; early = fact.1 })
tells_proper issuer (Listed stream subject) s text fact = tt
tells_proper issuer (Unlisted stream subject) s text fact = tt
tells_proper issuer (Deleted stream) s text fact = tt
tells_proper issuer (Published id n time) s text fact =
    told_where time n (is_due n s) (λ told. record { proper = published_told n fact.0; early = fact.1 })
tells_proper issuer (Settled stream items) s text fact = tt
tells_proper issuer (Asked stream state time) s text fact =
    told_where time (verified_news stream state) (is_named stream s) (λ told.
    record { proper = proper_verified stream state (subst IsFilledText (same_text s.conf.stream stream told) text) fact.0; early = fact.1 })

told_ours : (issuer store_id : List ℕ) (created : List Count) (time : ℕ) (s : Stream) (o : List Made) (told : Option News) → IsUtf8 issuer
    → AreTold time told → IsWholeStream store_id created s o → IsOurStream issuer s → list_any is_past (token_by store_id time s told) ≡ false
    → All (IsOurToken issuer store_id) (token_by store_id time s told)
told_ours issuer store_id created time s o None text proper whole ours few = All-nil (IsOurToken issuer store_id)
told_ours issuer store_id created time s o (Some n) text proper whole ours few =
    let parts = or_parts (nat_lt LAST_NUMBER (s.made + 1)) false few in
    All-cons (IsOurToken issuer store_id) _ []
    (next_ours issuer store_id created n time s o text proper.proper proper.early whole ours (ltb-false LAST_NUMBER (s.made + 1) parts.0))
    (All-nil (IsOurToken issuer store_id))

made_ours : (issuer store_id : List ℕ) (created : List Count) (f : Fact) (ss : List Stream) (os : List (List Made)) → IsUtf8 issuer
    → IsOurFact issuer f → AreWhole store_id created ss os → All (IsOurStream issuer) ss
    → list_any is_past (flat_map (token_for store_id f) ss) ≡ false → All (IsOurToken issuer store_id) (flat_map (token_for store_id f) ss)
made_ours issuer store_id created f [] os text fact whole ours few = All-nil (IsOurToken issuer store_id)
made_ours issuer store_id created f (s ∷ ss) [] text fact whole ours few = absurd whole
made_ours issuer store_id created f (s ∷ ss) (o ∷ os) text fact whole ours few =
    let rest : List Made = flat_map (token_for store_id f) ss in
    let parts = or_parts (list_any is_past (token_for store_id f s)) (list_any is_past rest)
    (sym (list_any-append is_past (token_for store_id f s) rest) ∙ few) in
    All-append (IsOurToken issuer store_id) (token_for store_id f s) rest
    (told_ours issuer store_id created (time_of f) s o (tells f s) text
    (tells_proper issuer f s (name_text issuer store_id created s o whole.0 (All-head (IsOurStream issuer) s ss ours)) fact) whole.0
    (All-head (IsOurStream issuer) s ss ours) parts.0)
    (made_ours issuer store_id created f ss os text fact whole.3 (All-tail (IsOurStream issuer) s ss ours) parts.1)

-- ---- streams are as the rules have them

after_ours : (issuer : List ℕ) (f : Fact) (s : Stream) → IsOurStream issuer s → IsOurStream issuer (stream_after f s)
after_ours issuer f s ours =
    let same : IsSameStream s (stream_after f s) = after_same f s in
    record {
      client = ap is_client_name same.client ∙ ours.client;
      iss = same.iss ∙ ours.iss;
      aud = subst (All IsUtf8) (sym same.aud) ours.aud;
    }

put_ours : (issuer : List ℕ) (s : Stream) (ss : List Stream) → IsOurStream issuer s → All (IsOurStream issuer) ss → All (IsOurStream issuer) (put_in_order s ss)
put_ours issuer s [] new ours = All-cons (IsOurStream issuer) s [] new ours
put_ours issuer s (t ∷ ts) new ours =
    elim (is_before t s) as (λ b. All (IsOurStream issuer) (if b then t ∷ put_in_order s ts else s ∷ t ∷ ts)) [
      | true ↦ All-cons (IsOurStream issuer) t (put_in_order s ts) (All-head (IsOurStream issuer) t ts ours)
          (put_ours issuer s ts new (All-tail (IsOurStream issuer) t ts ours))
      | false ↦ All-cons (IsOurStream issuer) s (t ∷ ts) new ours
    ]

placed_ours : (issuer : List ℕ) (p : Parts) (f : Fact) (ss : List Stream) → BringsNext p.created (brought_by p f) → IsOurFact issuer f
    → All (IsOurStream issuer) ss → All (IsOurStream issuer) (placed (brought_by p f) ss)
placed_ours issuer p (Created conf time) ss next fact ours =
    put_ours issuer _ ss (record { client = next.proper; iss = fact.0; aud = fact.1 }) ours
placed_ours issuer p (Configured stream requested delivery description) ss next fact ours = ours
placed_ours issuer p (StatusSet stream status reason operator time) ss next fact ours = ours
placed_ours issuer p (Listed stream subject) ss next fact ours = ours
placed_ours issuer p (Unlisted stream subject) ss next fact ours = ours
placed_ours issuer p (Deleted stream) ss next fact ours = ours
placed_ours issuer p (Published id n time) ss next fact ours = ours
placed_ours issuer p (Settled stream items) ss next fact ours = ours
placed_ours issuer p (Asked stream state time) ss next fact ours = ours

without_ours : (issuer : List ℕ) (o : Option (List ℕ)) (ss : List Stream) → All (IsOurStream issuer) ss → All (IsOurStream issuer) (without o ss)
without_ours issuer None ss ours = ours
without_ours issuer (Some name) ss ours = All-filter (λ s. not (is_named name s)) (IsOurStream issuer) ss ours

streams_ours : (issuer : List ℕ) (sum : Sum) (f : Fact) → Fits sum f → IsOurFact issuer f → All (IsOurStream issuer) sum.parts.streams
    → All (IsOurStream issuer) (parts_after sum.parts f).streams
streams_ours issuer sum f fits fact ours =
    let after : List Stream = map (stream_after f) sum.parts.streams in
    placed_ours issuer sum.parts f (without (removed_by f) after) (fits_brings sum f fits) fact
    (without_ours issuer (removed_by f) after
    (All-map (IsOurStream issuer) (stream_after f) sum.parts.streams
    (All-weaker (IsOurStream issuer) (λ s. IsOurStream issuer (stream_after f s)) (after_ours issuer f) sum.parts.streams ours)))

-- ---- what is owed was made

-- what holds of nothing, and of what facts leave owed, holds of what a stream owes
pub owed_has : (Q : List Made → Type 0) (base : Sum) (facts : List Fact) (name : List ℕ)
    → Q [] → Q (owed_after base facts name) → Q (owed_by (sum_of base facts) name)
owed_has Q base facts name none some =
    let ss : List Stream = (parts_of base.parts facts).streams in
    elim (stands name ss) as (λ b. stands name ss ≡ b → Q (owed_by (sum_of base facts) name)) [
      | true ↦ λ here. subst Q (sym (found (owed_after base facts) name ss here)) some
      | false ↦ λ absent. subst Q (sym (none_in name ss (owed_after base facts) absent)) none
    ] refl

new_made : (tokens new : List Made) (name : List ℕ) (p : Made → Bool) → All (IsMadeFor (tokens ++ new) name) (filter p (filter (is_of name) new))
new_made tokens new name p =
    let own : List Made = filter (is_of name) new in
    let there : All (Contains (tokens ++ new)) own =
    All-filter (is_of name) (Contains (tokens ++ new)) new
    (All-weaker (Contains new) (Contains (tokens ++ new)) (λ t h. Contains-append_right tokens new t h) new (All-contains_itself new)) in
    let passed : All (λ (t : Made). is_of name t ≡ true) own = filter_passes (is_of name) new in
    All-filter p (IsMadeFor (tokens ++ new) name) own (λ k d h. (there k d h, same_text _ name (passed k d h)))

pub made_for_after : (sum : Sum) (tokens : List Made) (f : Fact) (name : List ℕ) → All (IsMadeFor tokens name) (owed_by sum name)
    → All (IsMadeFor (tokens ++ made_by sum.parts f) name) (owed_by (sum_of sum (f ∷ [])) name)
made_for_after sum tokens f name all =
    let new : List Made = made_by sum.parts f in
    let P : Made → Type 0 = IsMadeFor (tokens ++ new) name in
    owed_has (All P) sum (f ∷ []) name (All-nil P)
    (All-append P _ _
    (All-filter (survives name sum.parts (f ∷ [])) P (owed_by sum name)
    (All-weaker (IsMadeFor tokens name) P (λ t h. (Contains-append_left tokens new t h.0, h.1)) (owed_by sum name) all))
    (All-append P _ [] (new_made tokens new name (survives name (parts_after sum.parts f) [])) (All-nil P)))

-- ---- one fact more

pub kept_after : (issuer store_id : List ℕ) (sum : Sum) (tokens : List Made) (f : Fact) → IsUtf8 issuer
    → IsKept issuer store_id sum tokens → Fits sum f → IsOurFact issuer f
    → IsKept issuer store_id (sum_of sum (f ∷ [])) (tokens ++ made_by sum.parts f)
kept_after issuer store_id sum tokens f text kept fits fact = record {
  stored = kept.stored;
  whole = whole_after sum f kept.whole fits;
  streams = streams_ours issuer sum f fits fact kept.streams;
  made = All-append (IsOurToken issuer store_id) tokens (made_by sum.parts f) kept.made
      (subst (λ id. All (IsOurToken issuer id) (made_by sum.parts f)) kept.stored
      (made_ours issuer sum.parts.store_id sum.parts.created f sum.parts.streams sum.owed text fact kept.whole kept.streams (few_past sum f fits)));
  owed = λ name. made_for_after sum tokens f name (kept.owed name);
}

-- a new store
pub kept_new : (issuer store_id : List ℕ) → IsKept issuer store_id (empty_sum store_id) []
kept_new issuer store_id = record {
  stored = refl;
  whole = tt;
  streams = All-nil (IsOurStream issuer);
  made = All-nil (IsOurToken issuer store_id);
  owed = λ name. All-nil (IsMadeFor [] name);
}
