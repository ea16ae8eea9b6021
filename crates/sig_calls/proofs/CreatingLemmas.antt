-- A client that makes a stream.
use Rattle.std.proofs.Common.{◌≡◌, ◌∙◌, sym, subst, ℕ, ◌+◌, ◌<◌, ◌≤◌, List, [], ◌∷◌, Bool, true, false, ◌&&◌, ◌||◌, Option, Some, None, bytes_eq, IsUtf8, if◌then◌else◌, refl, ap, arith}
use Rattle.std.specs.Prelude.{All, length, nat_eq, nat_le, nat_lt}
use Rattle.std.specs.List.{list_all, list_any}
use Rattle.std.specs.Str.{is_utf8}
use Rattle.std.proofs.lemmas.Bool.{and_from, and_parts, false≢true, leb-false, leb-true, lt-ltb, ltb-true, ne_eqb}
use Rattle.std.proofs.lemmas.List.Elements.{All-cons, All-nil}
use Rattle.std.proofs.lemmas.Str.{IsUtf8-from_is_utf8}
use Rattle.sig_json.specs.declared.limits.TheConstants.{CLIENT_NAME_BYTES, LAST_NUMBER, STREAMS_PER_CLIENT}
use Rattle.sig_terms.specs.declared.want.Want.{Want}
use Rattle.sig_terms.specs.declared.rules.Client.{Client}
use Rattle.sig_terms.specs.declared.rules.Rules.{Rules}
use Rattle.sig_terms.specs.declared.answer.Answer.TheVariants as answer
use Rattle.sig_terms.specs.declared.call.Call.TheVariants.{Create}
use Rattle.sig_terms.specs.declared.fact.Fact.{Fact}
use Rattle.sig_terms.specs.declared.fact.Fact.TheVariants.{Created}
use Rattle.sig_history.specs.Streams.{Parts, client_in, created_by, hyphen, stream_name, streams_of}
use Rattle.sig_history.specs.Facts.{made_by}
use Rattle.sig_history.specs.Owed.{Sum}
use Rattle.sig_history.specs.Sound.{is_apt, is_client_name, is_name_character, is_next, is_past, may_be_made}
use Rattle.sig_calls.specs.Creating.{client_of, created_for, creating, next_conf, next_stream}
use Rattle.sig_calls.specs.Laws.{goes_past}
use Rattle.sig_calls.specs.Proper.{IsProperRules, is_proper_client}
use Rattle.sig_calls.specs.Regular.{IsOwedAfter}
use Rattle.sig_calls.specs.Told.{only}
use Rattle.sig_history.proofs.StreamLemmas.{same_text, text_itself}
use Rattle.sig_calls.proofs.SizeLemmas.{created_small}
use Rattle.sig_calls.proofs.SilentLemmas.{none_made, nothing_may_be_made}
use Rattle.sig_calls.proofs.ToldLemmas.{IsLawful, only_lawful}

-- ---- names

no_hyphen : (b : ℕ) → is_name_character b ≡ true → nat_eq b hyphen ≡ false
no_hyphen b h = ne_eqb b hyphen (λ e. false≢true (subst (λ c. is_name_character c ≡ true) e h))

client_read : (client : List ℕ) (n : ℕ) → list_all is_name_character client ≡ true → client_in (stream_name client n) ≡ client
client_read [] n h = refl
client_read (b ∷ bs) n h =
    let both = and_parts (is_name_character b) (list_all is_name_character bs) h in
    rw (no_hyphen b both.0) (ap (λ l. b ∷ l) (client_read bs n both.1))

pub client_found : (client : List ℕ) (n : ℕ) → is_client_name client ≡ true → client_in (stream_name client n) ≡ client
client_found client n h =
    client_read client n (and_parts (nat_lt 0 (length client) && nat_le (length client) CLIENT_NAME_BYTES) (list_all is_name_character client) h).1

-- the next name of a client may be used
next_may_be : (parts : Parts) (client : List ℕ) → is_client_name client ≡ true → nat_le STREAMS_PER_CLIENT (streams_of client parts.streams) ≡ false
    → nat_le LAST_NUMBER (created_by client parts.created) ≡ false
    → is_next parts (client_in (stream_name client (created_by client parts.created + 1))) (stream_name client (created_by client parts.created + 1)) ≡ true
next_may_be parts client ok few low =
    let name : List ℕ = stream_name client (created_by client parts.created + 1) in
    subst (λ c. is_next parts c name ≡ true) (sym (client_found client (created_by client parts.created + 1) ok))
    (and_from _ _ (and_from _ _ (and_from _ _ ok (text_itself name name refl)) (lt-ltb _ STREAMS_PER_CLIENT (leb-false STREAMS_PER_CLIENT _ few)))
    (lt-ltb _ LAST_NUMBER (leb-false LAST_NUMBER _ low)))

-- ---- clients

-- the client of a name has the name
pub client_named : (name : List ℕ) (cs : List Client) (c : Client) → client_of name cs ≡ Some c → c.name ≡ name
client_named name [] c is = cc is
client_named name (d ∷ ds) c is =
    elim (bytes_eq d.name name) as (λ b. bytes_eq d.name name ≡ b → (if b then Some d else client_of name ds) ≡ Some c → c.name ≡ name) [
      | true ↦ λ named this. let same : d ≡ c = cc in subst (λ (e : Client). e.name ≡ name) same (same_text d.name name named)
      | false ↦ λ other later. client_named name ds c later
    ] refl is

pub client_proper : (name : List ℕ) (cs : List Client) (c : Client) → list_all is_proper_client cs ≡ true → client_of name cs ≡ Some c → is_proper_client c ≡ true
client_proper name [] c h is = cc is
client_proper name (d ∷ ds) c h is =
    let both = and_parts (is_proper_client d) (list_all is_proper_client ds) h in
    elim (bytes_eq d.name name) as (λ b. (if b then Some d else client_of name ds) ≡ Some c → is_proper_client c ≡ true) [
      | true ↦ λ this. let same : d ≡ c = cc in subst (λ e. is_proper_client e ≡ true) same both.0
      | false ↦ λ later. client_proper name ds c both.1 later
    ] is

texts_utf8 : (texts : List (List ℕ)) → list_all is_utf8 texts ≡ true → All IsUtf8 texts
texts_utf8 [] h = All-nil IsUtf8
texts_utf8 (text ∷ texts) h =
    let both = and_parts (is_utf8 text) (list_all is_utf8 texts) h in
    All-cons IsUtf8 text texts (IsUtf8-from_is_utf8 text both.0) (texts_utf8 texts both.1)

-- ---- numbers

-- a number is at the top exactly where the next one is above it
next_above : (top n : ℕ) → nat_le top n ≡ nat_lt top (n + 1)
next_above top n =
    elim (nat_le top n) as (λ b. nat_le top n ≡ b → b ≡ nat_lt top (n + 1)) [
      | true ↦ λ is. let low : top ≤ n = leb-true top n is in sym (lt-ltb top (n + 1) (omega arith))
      | false ↦ λ is. let high : n < top = leb-false top n is in
          elim (nat_lt top (n + 1)) as (λ b. nat_lt top (n + 1) ≡ b → false ≡ b) [
            | true ↦ λ above. let more : top < n + 1 = ltb-true top (n + 1) above in absurd (omega arith)
            | false ↦ λ below. refl
          ] refl
    ] refl

or_none : (a : Bool) → a ≡ (a || false)
or_none true = refl
or_none false = refl

stream_exact : (rules : Rules) (parts : Parts) (want : Want) (now : ℕ) (c : Client) → is_client_name c.name ≡ true
    → nat_le LAST_NUMBER (created_by c.name parts.created) ≡ goes_past parts (Some (Created (next_conf rules parts c want) now))
stream_exact rules parts want now c ok =
    let name : List ℕ = stream_name c.name (created_by c.name parts.created + 1) in
    let made : made_by parts (Created (next_conf rules parts c want) now) ≡ [] = none_made parts (Created (next_conf rules parts c want) now) (λ s. refl) in
    next_above LAST_NUMBER (created_by c.name parts.created)
    ∙ ap (λ n. nat_lt LAST_NUMBER (created_by n parts.created + 1)) (sym (client_found c.name (created_by c.name parts.created + 1) ok))
    ∙ or_none (nat_lt LAST_NUMBER (created_by (client_in name) parts.created + 1))
    ∙ ap (λ l. nat_lt LAST_NUMBER (created_by (client_in name) parts.created + 1) || list_any is_past l) (sym made)

-- ---- the call

next_lawful : (rules : Rules) (sum : Sum) (name : List ℕ) (want : Want) (now : ℕ) (c : Client) → is_proper_client c ≡ true
    → nat_le STREAMS_PER_CLIENT (streams_of c.name sum.parts.streams) ≡ false
    → IsLawful rules sum (Create name want) now (next_stream rules sum.parts c want now)
next_lawful rules sum name want now c proper few =
    let both = and_parts (is_client_name c.name) (list_all is_utf8 c.aud) proper in
    let made : Fact = Created (next_conf rules sum.parts c want) now in
    record {
      exact = stream_exact rules sum.parts want now c both.0;
      regular = λ whole. record {
        fits = λ ok low. and_from (may_be_made (made_by sum.parts made)) (is_apt sum made) (nothing_may_be_made sum.parts made (λ s. refl))
            (and_from _ _ (next_may_be sum.parts c.name both.0 few low) (created_small want ok));
        ours = λ ok early. (refl, texts_utf8 c.aud both.1);
        hands = All-nil (IsOwedAfter sum (Some made));
        acked = λ m there no. cc no;
      };
    }

created_lawful : (rules : Rules) (sum : Sum) (name : List ℕ) (want : Want) (now : ℕ) (o : Option Client)
    → ((c : Client) → o ≡ Some c → is_proper_client c ≡ true) → IsLawful rules sum (Create name want) now (created_for rules sum.parts want now o)
created_lawful rules sum name want now None proper = only_lawful rules sum (Create name want) now answer.NotFound refl
created_lawful rules sum name want now (Some c) proper =
    elim (nat_le STREAMS_PER_CLIENT (streams_of c.name sum.parts.streams)) as (λ b. nat_le STREAMS_PER_CLIENT (streams_of c.name sum.parts.streams) ≡ b
    → IsLawful rules sum (Create name want) now (if b then only answer.TooMany else next_stream rules sum.parts c want now)) [
      | true ↦ λ many. only_lawful rules sum (Create name want) now answer.TooMany refl
      | false ↦ λ few. next_lawful rules sum name want now c (proper c refl) few
    ] refl

pub creating_lawful : (rules : Rules) (sum : Sum) (name : List ℕ) (want : Want) (now : ℕ) → IsProperRules rules
    → IsLawful rules sum (Create name want) now (creating rules sum.parts name want now)
creating_lawful rules sum name want now proper =
    created_lawful rules sum name want now (client_of name rules.clients)
    (λ c is. client_proper name rules.clients c (and_parts (is_utf8 rules.issuer) (list_all is_proper_client rules.clients) proper).1 is)
