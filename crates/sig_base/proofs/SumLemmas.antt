-- A base forgets nothing of what a history came to.
use Rattle.std.proofs.Common.{◌≡◌, ◌∙◌, ap, sym, refl, subst, ℕ, ◌≤◌, List, [], ◌∷◌, decimal, map, arith}
use Rattle.std.specs.List.{AllByRecursion}
use Rattle.std.proofs.lemmas.Fmt.{decimal_injective}
use Rattle.std.proofs.lemmas.List.{append_cancel_left}
use Rattle.sig_json.specs.declared.limits.TheConstants.{LAST_NUMBER}
use Rattle.sig_terms.specs.declared.configuration.StreamConf.{StreamConf}
use Rattle.sig_history.specs.Streams.{Count, Made, Publication, Stream, client_in, hyphen, stream_name}
use Rattle.sig_history.specs.Refused.{Refusals}
use Rattle.sig_history.specs.Whole.{AreWhole, IsWholeStream}
use Rattle.sig_base.specs.declared.base.Base.{Base}
use Rattle.sig_base.specs.declared.base.BaseStream.{BaseStream}
use Rattle.sig_base.specs.Laws.{NothingIsForgotten}
use Rattle.sig_base.specs.Sums.{AreOwedTokens, IsOwedToken, base_client, base_publication, base_refusals, base_stream, base_streams, base_token, owed_token}

-- ---- lists

heads : {T : Type 0} (x y : T) (xs ys : List T) → x ∷ xs ≡ y ∷ ys → x ≡ y
heads x y xs ys h = cc

tails : {T : Type 0} (x y : T) (xs ys : List T) → x ∷ xs ≡ y ∷ ys → xs ≡ ys
tails x y xs ys h = cc

-- lists whose items are kept alike are one, where items that are kept alike are
maps_same : {A B : Type 0} (f : A → B) → ((x y : A) → f x ≡ f y → x ≡ y) → (xs ys : List A) → map f xs ≡ map f ys → xs ≡ ys
maps_same f same [] [] h = refl
maps_same f same [] (y ∷ ys) h = cc
maps_same f same (x ∷ xs) [] h = cc
maps_same f same (x ∷ xs) (y ∷ ys) h =
    λ i. same x y (heads (f x) (f y) (map f xs) (map f ys) h) i ∷ maps_same f same xs ys (tails (f x) (f y) (map f xs) (map f ys) h) i

-- ---- counts and publications

counts_same : (x y : Count) → base_client x ≡ base_client y → x ≡ y
counts_same x y h = λ i. record { client = (h i).client; count = (h i).created }

publications_same : (x y : Publication) → base_publication x ≡ base_publication y → x ≡ y
publications_same x y h = λ i. record { id = (h i).id; news = (h i).news; issued = (h i).tokens }

refusals_same : (x y : Refusals) → base_refusals x ≡ base_refusals y → x ≡ y
refusals_same x y h = λ i. record { before = (h i).before; kept = (h i).kept }

-- ---- tokens

tokens_same : (store_id : List ℕ) (conf : StreamConf) (xs ys : List Made) → AllByRecursion (IsOwedToken store_id conf) xs → AllByRecursion (IsOwedToken store_id conf) ys
    → map base_token xs ≡ map base_token ys → xs ≡ ys
tokens_same store_id conf [] [] ps qs h = refl
tokens_same store_id conf [] (y ∷ ys) ps qs h = cc
tokens_same store_id conf (x ∷ xs) [] ps qs h = cc
tokens_same store_id conf (x ∷ xs) (y ∷ ys) ps qs h =
    let first : x ≡ y =
    ps.0 ∙ ap (owed_token store_id conf) (heads (base_token x) (base_token y) (map base_token xs) (map base_token ys) h) ∙ sym qs.0 in
    let rest : xs ≡ ys = tokens_same store_id conf xs ys ps.1 qs.1 (tails (base_token x) (base_token y) (map base_token xs) (map base_token ys) h) in
    λ i. first i ∷ rest i

-- ---- streams

-- the numbers in one name are one number
numbers_same : (client : List ℕ) (n m : ℕ) → n ≤ LAST_NUMBER → m ≤ LAST_NUMBER → stream_name client n ≡ stream_name client m → n ≡ m
numbers_same client n m low_n low_m h =
    let rest : hyphen ∷ decimal n ≡ hyphen ∷ decimal m = append_cancel_left client (hyphen ∷ decimal n) (hyphen ∷ decimal m) h in
    decimal_injective n m (omega arith) (omega arith) (tails hyphen hyphen (decimal n) (decimal m) rest)

-- what a base has of two streams of one name
stream_same : (store_id : List ℕ) (one other : List Count) (s t : Stream) (o p : List Made) → IsWholeStream store_id one s o → IsWholeStream store_id other t p
    → base_stream s o ≡ base_stream t p → s ≡ t
stream_same store_id one other s t o p whole also h =
    let conf : s.conf ≡ t.conf = ap (λ (b : BaseStream). b.conf) h in
    let client : s.client ≡ t.client = sym whole.client ∙ ap (λ (c : StreamConf). client_in c.stream) conf ∙ also.client in
    let names : stream_name s.client s.number ≡ stream_name s.client t.number =
    sym whole.name ∙ ap (λ (c : StreamConf). c.stream) conf ∙ also.name ∙ ap (λ c. stream_name c t.number) (sym client) in
    let number : s.number ≡ t.number = numbers_same s.client s.number t.number whole.top also.top names in
    λ i. record {
      client = client i;
      number = number i;
      conf = (h i).conf;
      status = (h i).status;
      reason = (h i).reason;
      listed = (h i).listed;
      asked = (h i).asked;
      made = (h i).made;
    }

owed_same : (store_id : List ℕ) (s t : Stream) (o p : List Made) → AllByRecursion (IsOwedToken store_id s.conf) o → AllByRecursion (IsOwedToken store_id t.conf) p
    → base_stream s o ≡ base_stream t p → o ≡ p
owed_same store_id s t o p ps qs h =
    let conf : s.conf ≡ t.conf = ap (λ (b : BaseStream). b.conf) h in
    tokens_same store_id s.conf o p ps (subst (λ c. AllByRecursion (IsOwedToken store_id c) p) (sym conf) qs) (ap (λ (b : BaseStream). b.owed) h)

-- the same streams, and the same beside each
record AreSame (ss ts : List Stream) (os ps : List (List Made)) : Type 0 where
  streams : ss ≡ ts
  owed : os ≡ ps

streams_same : (store_id : List ℕ) (one other : List Count) (ss ts : List Stream) (os ps : List (List Made))
    → AreWhole store_id one ss os → AreWhole store_id other ts ps → AreOwedTokens store_id ss os → AreOwedTokens store_id ts ps
    → base_streams ss os ≡ base_streams ts ps → AreSame ss ts os ps
streams_same store_id one other [] [] [] [] whole also ms ns h = record { streams = refl; owed = refl }
streams_same store_id one other [] [] [] (p ∷ ps) whole also ms ns h = absurd also
streams_same store_id one other [] [] (o ∷ os) ps whole also ms ns h = absurd whole
streams_same store_id one other [] (t ∷ ts) [] (p ∷ ps) whole also ms ns h = cc
streams_same store_id one other [] (t ∷ ts) os [] whole also ms ns h = absurd also
streams_same store_id one other [] (t ∷ ts) (o ∷ os) (p ∷ ps) whole also ms ns h = absurd whole
streams_same store_id one other (s ∷ ss) ts [] ps whole also ms ns h = absurd whole
streams_same store_id one other (s ∷ ss) [] (o ∷ os) [] whole also ms ns h = cc
streams_same store_id one other (s ∷ ss) [] (o ∷ os) (p ∷ ps) whole also ms ns h = absurd also
streams_same store_id one other (s ∷ ss) (t ∷ ts) (o ∷ os) [] whole also ms ns h = absurd also
streams_same store_id one other (s ∷ ss) (t ∷ ts) (o ∷ os) (p ∷ ps) whole also ms ns h =
    let first = heads (base_stream s o) (base_stream t p) (base_streams ss os) (base_streams ts ps) h in
    let same : s ≡ t = stream_same store_id one other s t o p whole.0 also.0 first in
    let owed : o ≡ p = owed_same store_id s t o p ms.0 ns.0 first in
    let rest = streams_same store_id one other ss ts os ps whole.3 also.3 ms.1 ns.1 (tails (base_stream s o) (base_stream t p) (base_streams ss os) (base_streams ts ps) h) in
    record { streams = λ i. same i ∷ rest.streams i; owed = λ i. owed i ∷ rest.owed i }

-- ---- what histories came to

pub nothing_forgotten : NothingIsForgotten
nothing_forgotten one other made also store h =
    let moved = subst (λ sid. AreWhole sid other.parts.created other.parts.streams other.owed) (sym store) also.whole in
    let tokens = subst (λ sid. AreOwedTokens sid other.parts.streams other.owed) (sym store) also.tokens in
    let streams = streams_same one.parts.store_id one.parts.created other.parts.created one.parts.streams other.parts.streams one.owed other.owed made.whole moved made.tokens tokens (ap (λ (b : Base). b.streams) h) in
    let created = maps_same base_client counts_same one.parts.created other.parts.created (ap (λ (b : Base). b.clients) h) in
    let published = maps_same base_publication publications_same one.parts.published other.parts.published (ap (λ (b : Base). b.publications) h) in
    let refused = refusals_same one.refused other.refused (ap (λ (b : Base). b.refusals) h) in
    λ i. record {
      parts = record { store_id = store i; streams = streams.streams i; created = created i; published = published i };
      owed = streams.owed i;
      refused = refused i;
    }
