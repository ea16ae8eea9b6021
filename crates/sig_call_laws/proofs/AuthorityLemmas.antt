-- A client's call changes that client's streams alone.
use Rattle.std.proofs.Common.{◌≡◌, ◌∙◌, ap, sym, subst, ℕ, List, [], ◌∷◌, flat_map, ◌+◌, Bool, true, false, ◌&&◌, bytes_eq, Option, Some, None, if◌then◌else◌, refl}
use Rattle.std.specs.Prelude.{All}
use Rattle.std.specs.List.{AllByRecursion, list_all}
use Rattle.std.specs.Str.{is_utf8}
use Rattle.std.proofs.lemmas.Bool.{and_parts, both_ways, false_from_ne_true}
use Rattle.std.proofs.lemmas.List.Elements.{All-append, All-cons, All-nil}
use Rattle.sig_event.specs.declared.news.News.{News}
use Rattle.sig_terms.specs.declared.call.Call.{Call}
use Rattle.sig_terms.specs.declared.call.Call.TheVariants.{Metadata, Create, ReadAll, Read, Patch, Put, Delete, GetStatus, SetStatus, Add, Remove, Verify, Poll, Publish, OperatorStatus, OperatorDelete, Streams, Refused, Figures, Deliver, Hand, Settle}
use Rattle.sig_terms.specs.declared.fact.Fact.{Fact}
use Rattle.sig_terms.specs.declared.fact.Fact.TheVariants.{Created, Configured, StatusSet, Listed, Unlisted, Deleted, Published, Settled, Asked}
use Rattle.sig_terms.specs.declared.rules.Client.{Client}
use Rattle.sig_terms.specs.declared.rules.Rules.{Rules}
use Rattle.sig_terms.specs.declared.want.Want.{Want}
use Rattle.sig_history.specs.Changes.{stream_of}
use Rattle.sig_history.specs.Facts.{published_by, tells, time_of, token_by, token_for}
use Rattle.sig_history.specs.Owed.{Sum, stream_named}
use Rattle.sig_history.specs.Sound.{is_client_name}
use Rattle.sig_history.specs.Streams.{Count, Made, Stream, client_in, created_by, stream_name}
use Rattle.sig_history.specs.Whole.{AreWhole, IsWhole}
use Rattle.sig_history.proofs.StreamLemmas.{other_text, same_text, text_itself}
use Rattle.sig_history.proofs.WholeLemmas.{whole_distinct}
use Rattle.sig_owing.proofs.OthersLemmas.{facts_leave_others}
use Rattle.sig_calls.specs.Creating.{client_of, next_conf}
use Rattle.sig_calls.specs.Found.{client_stream}
use Rattle.sig_calls.specs.Proper.{IsProperRules, is_proper_client}
use Rattle.sig_calls.proofs.CreatingLemmas.{client_found, client_named, client_proper}
use Rattle.sig_isolation.specs.Isolation.{concerns, is_call_of}
use Rattle.sig_isolation.proofs.OthersLemmas.{tells_left}
use Rattle.sig_history.proofs.SpentLemmas.{each_named}
use Rattle.sig_call_laws.specs.Authority.{ClientsChangeTheirOwn, IsTokenOf, IsWithin}
use Rattle.sig_call_laws.proofs.ChangeLemmas.{FactOf, IsOnOwn, fact_is}

-- ---- a client's stream

-- it stands under its name, and is that client's
pub record IsStreamOf (sum : Sum) (client name : List ℕ) (s : Stream) : Type 0 where
  pub named : stream_named name sum.parts.streams ≡ Some s
  pub whose : s.client ≡ client
  pub own : client_in name ≡ client

-- what holds of each stream holds of one that is found
found_has : (P : Stream → Type 0) (client name : List ℕ) (ss : List Stream) (s : Stream) → AllByRecursion P ss → client_stream client name ss ≡ Some s
    → P s × (s.client ≡ client) × (s.conf.stream ≡ name)
found_has P client name [] s all is = cc is
found_has P client name (t ∷ ts) s all is =
    elim (bytes_eq t.client client && bytes_eq t.conf.stream name) as (λ b. (bytes_eq t.client client && bytes_eq t.conf.stream name) ≡ b
    → (if b then Some t else client_stream client name ts) ≡ Some s → P s × (s.client ≡ client) × (s.conf.stream ≡ name)) [
      | true ↦ λ both this. let one : t ≡ s = cc in
          let parts = and_parts (bytes_eq t.client client) (bytes_eq t.conf.stream name) both in
          subst (λ (u : Stream). P u × (u.client ≡ client) × (u.conf.stream ≡ name)) one
          (all.0, same_text t.client client parts.0, same_text t.conf.stream name parts.1)
      | false ↦ λ other later. found_has P client name ts s all.1 later
    ] refl is

each_of_client : (sid : List ℕ) (created : List Count) (ss : List Stream) (os : List (List Made)) → AreWhole sid created ss os
    → AllByRecursion (λ (s : Stream). client_in s.conf.stream ≡ s.client) ss
each_of_client sid created [] os whole = tt
each_of_client sid created (s ∷ ss) [] whole = absurd whole
each_of_client sid created (s ∷ ss) (o ∷ os) whole = (whole.0.client, each_of_client sid created ss os whole.3)

pub stream_of_client : (sum : Sum) (client name : List ℕ) (s : Stream) → IsWhole sum → client_stream client name sum.parts.streams ≡ Some s
    → IsStreamOf sum client name s
stream_of_client sum client name s whole is =
    let ss : List Stream = sum.parts.streams in
    let one = found_has (λ (t : Stream). stream_named t.conf.stream ss ≡ Some t) client name ss s
    (each_named ss (whole_distinct sum.parts.store_id sum.parts.created ss sum.owed whole)) is in
    let two = found_has (λ (t : Stream). client_in t.conf.stream ≡ t.client) client name ss s
    (each_of_client sum.parts.store_id sum.parts.created ss sum.owed whole) is in
    record {
      named = ap (λ n. stream_named n ss) (sym one.2) ∙ one.0;
      whose = one.1;
      own = ap client_in (sym two.2) ∙ two.0 ∙ two.1;
    }

-- ---- tokens

concerns_named : (f : Fact) (name client : List ℕ) → stream_of f ≡ Some name → concerns client f ≡ bytes_eq (client_in name) client
concerns_named (Created conf time) name client is = let same : conf.stream ≡ name = cc in ap (λ n. bytes_eq (client_in n) client) same
concerns_named (Configured stream requested delivery description) name client is = let same : stream ≡ name = cc in ap (λ n. bytes_eq (client_in n) client) same
concerns_named (StatusSet stream status reason operator time) name client is = let same : stream ≡ name = cc in ap (λ n. bytes_eq (client_in n) client) same
concerns_named (Listed stream subject) name client is = let same : stream ≡ name = cc in ap (λ n. bytes_eq (client_in n) client) same
concerns_named (Unlisted stream subject) name client is = let same : stream ≡ name = cc in ap (λ n. bytes_eq (client_in n) client) same
concerns_named (Deleted stream) name client is = let same : stream ≡ name = cc in ap (λ n. bytes_eq (client_in n) client) same
concerns_named (Published id news time) name client is = cc is
concerns_named (Settled stream items) name client is = let same : stream ≡ name = cc in ap (λ n. bytes_eq (client_in n) client) same
concerns_named (Asked stream state time) name client is = let same : stream ≡ name = cc in ap (λ n. bytes_eq (client_in n) client) same

token_own : (sid client : List ℕ) (time : ℕ) (s : Stream) (o : Option News) → client_in s.conf.stream ≡ client → All (IsTokenOf client) (token_by sid time s o)
token_own sid client time s None own = All-nil (IsTokenOf client)
token_own sid client time s (Some n) own = All-cons (IsTokenOf client) _ [] own (All-nil (IsTokenOf client))

stream_own : (sid name client : List ℕ) (f : Fact) (s : Stream) → stream_of f ≡ Some name → client_in name ≡ client → All (IsTokenOf client) (token_for sid f s)
stream_own sid name client f s is own = by (bytes_eq (client_in s.conf.stream) client) refl
  where
    by : (b : Bool) → bytes_eq (client_in s.conf.stream) client ≡ b → All (IsTokenOf client) (token_for sid f s)
    by true same = token_own sid client (time_of f) s (tells f s) (same_text (client_in s.conf.stream) client same)
    by false other =
        let of : List ℕ = client_in s.conf.stream in
        let silent : tells f s ≡ None =
        tells_left of f s (text_itself of of refl) (concerns_named f name of is ∙ ap (λ c. bytes_eq c of) own ∙ other_text of client other) in
        subst (λ o. All (IsTokenOf client) (token_by sid (time_of f) s o)) (sym silent) (All-nil (IsTokenOf client))

tokens_own : (sid name client : List ℕ) (f : Fact) (ss : List Stream) → stream_of f ≡ Some name → client_in name ≡ client
    → All (IsTokenOf client) (flat_map (token_for sid f) ss)
tokens_own sid name client f [] is own = All-nil (IsTokenOf client)
tokens_own sid name client f (s ∷ ss) is own =
    All-append (IsTokenOf client) (token_for sid f s) (flat_map (token_for sid f) ss) (stream_own sid name client f s is own) (tokens_own sid name client f ss is own)

-- ---- facts

within : (sum : Sum) (client name : List ℕ) (f : Fact) → IsWhole sum → stream_of f ≡ Some name → client_in name ≡ client → published_by sum.parts f ≡ []
    → IsWithin client sum f
within sum client name f whole is own silent = record {
  name = name;
  names = is;
  own = own;
  silent = silent;
  makes = tokens_own sum.parts.store_id name client f sum.parts.streams is own;
  leaves = λ other apart.
      let differs : bytes_eq name other ≡ false = false_from_ne_true (bytes_eq name other)
      (λ same. both_ways (bytes_eq (client_in other) client) apart
      (text_itself (client_in other) client (ap client_in (sym (same_text name other same)) ∙ own))) in
      let left = facts_leave_others sum f name other whole is differs in
      record { stream = left.0; owed = left.1 };
}

own_within : (sum : Sum) (called client stream : List ℕ) (f : Fact) → IsWhole sum → bytes_eq called client ≡ true → IsOnOwn sum called stream f → IsWithin client sum f
own_within sum called client stream f whole same own =
    within sum client stream f whole own.on.names
    ((stream_of_client sum called stream own.own whole own.found).own ∙ same_text called client same) own.on.silent

-- the client of a call that makes a stream has the name of that client
pub client_name : (rules : Rules) (name : List ℕ) (c : Client) (n : ℕ) → IsProperRules rules → client_of name rules.clients ≡ Some c
    → client_in (stream_name c.name n) ≡ name
client_name rules name c n proper is =
    let clients = (and_parts (is_utf8 rules.issuer) (list_all is_proper_client rules.clients) proper).1 in
    let one = and_parts (is_client_name c.name) (list_all is_utf8 c.aud) (client_proper name rules.clients c clients is) in
    client_found c.name n one.0 ∙ client_named name rules.clients c is

new_within : (rules : Rules) (sum : Sum) (called client : List ℕ) (want : Want) (now : ℕ) (f : Fact) → IsProperRules rules → IsWhole sum
    → bytes_eq called client ≡ true → FactOf rules sum (Create called want) now f → IsWithin client sum f
new_within rules sum called client want now f proper whole same of =
    let (c, is, made) = of in
    subst (IsWithin client sum) made
    (within sum client (next_conf rules sum.parts c want).stream (Created (next_conf rules sum.parts c want) now) whole refl
    (client_name rules called c (created_by c.name sum.parts.created + 1) proper is ∙ same_text called client same) refl)

pub own_changed : ClientsChangeTheirOwn
own_changed rules sum client call now f proper whole called is = by call called (fact_is rules sum call now f is)
  where
    by : (call : Call) → is_call_of client call ≡ true → FactOf rules sum call now f → IsWithin client sum f
    by Metadata same of = cc same
    by (Create c want) same of = new_within rules sum c client want now f proper whole same of
    by (ReadAll c) same of = absurd of
    by (Read c stream) same of = absurd of
    by (Patch c stream want) same of = own_within sum c client stream f whole same of
    by (Put c stream want) same of = own_within sum c client stream f whole same of
    by (Delete c stream) same of = own_within sum c client stream f whole same of
    by (GetStatus c stream) same of = absurd of
    by (SetStatus c stream status reason) same of = own_within sum c client stream f whole same of
    by (Add c stream subject) same of = own_within sum c client stream f whole same of
    by (Remove c stream subject) same of = own_within sum c client stream f whole same of
    by (Verify c stream state) same of = own_within sum c client stream f whole same of
    by (Poll c stream ask) same of = own_within sum c client stream f whole same of
    by (Publish id news) same of = cc same
    by (OperatorStatus stream status reason) same of = cc same
    by (OperatorDelete stream) same of = cc same
    by (Streams from) same of = cc same
    by (Refused from) same of = cc same
    by Figures same of = cc same
    by (Deliver stream) same of = cc same
    by (Hand streams) same of = cc same
    by (Settle stream number outcome) same of = cc same
