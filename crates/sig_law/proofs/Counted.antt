-- What a call says was taken stands in the receiver's journal, and so does what its fact counts as acknowledged.
use Rattle.std.proofs.Common.{◌≡◌, ◌∙◌, ap, sym, subst, ℕ, List, [], ◌∷◌, map, Bool, true, false, ◌&&◌, bytes_eq, if◌then◌else◌, refl, inl, inr}
use Rattle.std.specs.Prelude.{All, Contains, is_none, ◌==◌}
use Rattle.std.specs.List.{list_any, list_all}
use Rattle.std.proofs.lemmas.Bool.{and_parts, eqb-true, or_cases}
use Rattle.std.proofs.lemmas.List.Elements.{All-contains, All-contains_itself, All-head, All-tail}
use Rattle.sig_event.specs.declared.claims.Claims.{Claims}
use Rattle.sig_inbox.specs.declared.pair.Pair.{Pair}
use Rattle.sig_inbox.specs.Pairs.{has_pair}
use Rattle.sig_receiver.specs.declared.heard.Heard.{Heard}
use Rattle.sig_receiver.specs.declared.heard.Heard.TheVariants.{Accepted, Seen, NotTaken}
use Rattle.sig_receiver.specs.Journal.{pair_of, pairs_of}
use Rattle.sig_set.specs.Spelled.{code_text}
use Rattle.sig_terms.specs.declared.call.Call.{Call}
use Rattle.sig_terms.specs.declared.call.Call.TheVariants.{Poll, Settle}
use Rattle.sig_terms.specs.declared.call.Outcome.TheVariants as outcome
use Rattle.sig_terms.specs.declared.call.PollAsk.{PollAsk}
use Rattle.sig_terms.specs.declared.fact.Fact.{Fact}
use Rattle.sig_terms.specs.declared.fact.Fact.TheVariants.{Settled}
use Rattle.sig_terms.specs.declared.fact.SettledItem.{SettledItem}
use Rattle.sig_terms.specs.declared.token.Token.{Token}
use Rattle.sig_history.specs.Streams.{Made, jti_of, made_in, stands}
use Rattle.sig_history.specs.Facts.{made_by}
use Rattle.sig_history.specs.Owed.{Sum, owed_by}
use Rattle.sig_history.specs.Sound.{Fits, are_owed, each_once, has_number, may_be_made}
use Rattle.sig_history.specs.Ours.{IsOurs, IsOurToken}
use Rattle.sig_history.proofs.StreamLemmas.{same_text}
use Rattle.sig_calls.specs.Regular.{acknowledges, acks, is_accepted}
use Rattle.sig_calls.specs.Settling.{keeps}
use Rattle.sig_law.specs.World.{Reply, is_taken, may_come, outcome_of, settle_call, tells_answers, was_answered}
use Rattle.sig_law.proofs.Held.{IsCounted, IsHeard, pair_at}

-- ---- the pair of a token

-- a message that was made says what its stream and number say
pub message_ours : (issuer store : List ℕ) (tokens : List Made) (m : Token) → All (IsOurToken issuer store) tokens
    → Contains tokens (made_in m) → IsOurs issuer store m.stream m.number m.claims
message_ours issuer store tokens m ours there = All-contains (IsOurToken issuer store) tokens (made_in m) ours there

pair_same : (a b : Pair) → a.iss ≡ b.iss → a.jti ≡ b.jti → a ≡ b
pair_same a b iss jti = ap (λ i. record { iss = i; jti = a.jti }) iss ∙ ap (λ j. record { iss = b.iss; jti = j }) jti

-- claims of this stream and number have their pair
pub pair_ours : (issuer store stream : List ℕ) (number : ℕ) (claims : Claims) (t : Made) → IsOurs issuer store stream number claims
    → stream ≡ t.stream → number ≡ t.number → pair_of claims ≡ pair_at issuer store t
pair_ours issuer store stream number claims t ours name same =
    pair_same (pair_of claims) (pair_at issuer store t) ours.iss
    (ours.jti ∙ ap (λ s. jti_of store s number) name ∙ ap (λ n. jti_of store t.stream n) same)

-- ---- what a call says was taken

-- each token that a call says was taken stands in the journal
abbrev pub IsTruthful : List ℕ → List ℕ → List (List ℕ) → Call → Type 0
IsTruthful issuer store journal call =
    (t : Made) → IsOurToken issuer store t → acks call t ≡ true → has_pair (pair_at issuer store t) (pairs_of journal) ≡ true

-- an answer that settles without a code took its token
accepted_taken : (heard : Heard) → is_accepted (outcome_of heard) ≡ true → is_taken heard ≡ true
accepted_taken Accepted is = refl
accepted_taken Seen is = refl
accepted_taken (NotTaken code spot) is =
    elim (keeps (code_text code)) as (λ b. is_accepted (if b then outcome.Keep else outcome.Reported (code_text code)) ≡ true → false ≡ true) [
      | true ↦ λ kept. kept
      | false ↦ λ reported. reported
    ] is

-- the call that brings an answer
pub answer_truthful : (issuer store : List ℕ) (tokens : List Made) (journal : List (List ℕ)) (r : Reply) → All (IsOurToken issuer store) tokens
    → IsHeard tokens journal r → IsTruthful issuer store journal (settle_call r)
answer_truthful issuer store tokens journal r ours heard t own is =
    let all = and_parts (bytes_eq r.message.stream t.stream && (r.message.number == t.number)) (is_accepted (outcome_of r.heard)) is in
    let named = and_parts (bytes_eq r.message.stream t.stream) (r.message.number == t.number) all.0 in
    subst (λ p. has_pair p (pairs_of journal) ≡ true)
    (pair_ours issuer store r.message.stream r.message.number r.message.claims t
    (message_ours issuer store tokens r.message ours heard.message)
    (same_text r.message.stream t.stream named.0) (eqb-true r.message.number t.number named.1))
    (heard.taken (accepted_taken r.heard all.1))

-- a token that was answered as taken has its pair in the journal
answered_pair : (issuer store jti : List ℕ) (tokens : List Made) (journal : List (List ℕ)) (replies : List Reply) → All (IsOurToken issuer store) tokens
    → All (IsHeard tokens journal) replies → was_answered is_taken jti replies ≡ true
    → has_pair (record { iss = issuer; jti = jti }) (pairs_of journal) ≡ true
answered_pair issuer store jti tokens journal [] ours heard h = cc h
answered_pair issuer store jti tokens journal (r ∷ rs) ours heard h =
    elim (or_cases (bytes_eq r.message.claims.jti jti && is_taken r.heard) (was_answered is_taken jti rs) h) [
      | inl this ↦
          let both = and_parts (bytes_eq r.message.claims.jti jti) (is_taken r.heard) this in
          let first : IsHeard tokens journal r = All-head (IsHeard tokens journal) r rs heard in
          let own : IsOurs issuer store r.message.stream r.message.number r.message.claims = message_ours issuer store tokens r.message ours first.message in
          subst (λ p. has_pair p (pairs_of journal) ≡ true)
          (pair_same (pair_of r.message.claims) (record { iss = issuer; jti = jti }) own.iss (same_text r.message.claims.jti jti both.0)) (first.taken both.1)
      | inr later ↦ answered_pair issuer store jti tokens journal rs ours (All-tail (IsHeard tokens journal) r rs heard) later
    ]

-- each acknowledgement was answered, so this one was
told_taken : (jti : List ℕ) (acks : List (List ℕ)) (replies : List Reply) → list_all (λ j. was_answered is_taken j replies) acks ≡ true
    → list_any (bytes_eq jti) acks ≡ true → was_answered is_taken jti replies ≡ true
told_taken jti [] replies all any = cc any
told_taken jti (ack ∷ acks) replies all any =
    let both = and_parts (was_answered is_taken ack replies) (list_all (λ j. was_answered is_taken j replies) acks) all in
    elim (or_cases (bytes_eq jti ack) (list_any (bytes_eq jti) acks) any) [
      | inl this ↦ subst (λ j. was_answered is_taken j replies ≡ true) (sym (same_text jti ack this)) both.0
      | inr later ↦ told_taken jti acks replies both.1 later
    ]

poll_truthful : (issuer store : List ℕ) (tokens : List Made) (journal : List (List ℕ)) (replies : List Reply) (client stream : List ℕ) (ask : PollAsk)
    → All (IsOurToken issuer store) tokens → All (IsHeard tokens journal) replies → tells_answers replies ask ≡ true
    → IsTruthful issuer store journal (Poll client stream ask)
poll_truthful issuer store tokens journal replies client stream ask ours heard tells t own is =
    let acked = and_parts (bytes_eq stream t.stream) (list_any (bytes_eq t.claims.jti) ask.acks) is in
    let taken : was_answered is_taken t.claims.jti replies ≡ true =
    told_taken t.claims.jti ask.acks replies (and_parts (list_all (λ j. was_answered is_taken j replies) ask.acks) _ tells).0 acked.1 in
    subst (λ j. has_pair (record { iss = issuer; jti = j }) (pairs_of journal) ≡ true) own.jti
    (answered_pair issuer store t.claims.jti tokens journal replies ours heard taken)

-- a call that may come says only what was answered
pub call_truthful : (issuer store : List ℕ) (tokens : List Made) (journal : List (List ℕ)) (replies : List Reply) (call : Call)
    → All (IsOurToken issuer store) tokens → All (IsHeard tokens journal) replies → may_come replies call ≡ true
    → IsTruthful issuer store journal call
call_truthful issuer store tokens journal replies (Poll client stream ask) ours heard may t own is =
    poll_truthful issuer store tokens journal replies client stream ask ours heard may t own is
call_truthful issuer store tokens journal replies (Settle stream number outcome) ours heard may t own is = cc may
call_truthful issuer store tokens journal replies other ours heard may t own is = cc is

-- ---- what a fact counts as acknowledged is owed

at_head : {X : Type 0} (x : X) (xs : List X) → Contains (x ∷ xs) x
at_head x xs = All-head (Contains (x ∷ xs)) x xs (All-contains_itself (x ∷ xs))

in_tail : {X : Type 0} (x : X) (xs : List X) (y : X) → Contains xs y → Contains (x ∷ xs) y
in_tail x xs y there = All-contains (Contains (x ∷ xs)) xs y (All-tail (Contains (x ∷ xs)) x xs (All-contains_itself (x ∷ xs))) there

-- some element passes
first_passing : {X : Type 0} (p : X → Bool) (xs : List X) → list_any p xs ≡ true → (x : X) × Contains xs x × (p x ≡ true)
first_passing p [] h = cc h
first_passing p (x ∷ xs) h = elim (or_cases (p x) (list_any p xs) h) [
  | inl this ↦ (x, at_head x xs, this)
  | inr later ↦ let found = first_passing p xs later in (found.0, in_tail x xs found.0 found.1, found.2)
]

-- the owed token of a number that items name without a code
named_owed : (number : ℕ) (items : List SettledItem) (owed : List Made) → are_owed items owed ≡ true
    → list_any (λ (i : SettledItem). (i.number == number) && is_none i.code) items ≡ true → has_number number owed ≡ true
named_owed number [] owed all any = cc any
named_owed number (i ∷ items) owed all any =
    let both = and_parts (has_number i.number owed) (are_owed items owed) all in
    elim (or_cases ((i.number == number) && is_none i.code) (list_any (λ (i : SettledItem). (i.number == number) && is_none i.code) items) any) [
      | inl this ↦ subst (λ n. has_number n owed ≡ true) (eqb-true i.number number (and_parts (i.number == number) (is_none i.code) this).0) both.0
      | inr later ↦ named_owed number items owed both.1 later
    ]

-- a token that stands for another one: of the same stream and number
pub record IsStandIn (sum : Sum) (t m : Made) : Type 0 where
  pub there : Contains (owed_by sum m.stream) m
  pub stream : m.stream ≡ t.stream
  pub number : m.number ≡ t.number

-- what a stream owes is its own
abbrev pub OwesItsOwn : Sum → Type 0
OwesItsOwn sum = (name : List ℕ) → All (λ (t : Made). t.stream ≡ name) (owed_by sum name)

-- a fact that fits counts only what is owed as acknowledged
counted_owed : (sum : Sum) (f : Fact) (t : Made) → OwesItsOwn sum → Fits sum f → acknowledges f t ≡ true
    → (m : Made) × IsStandIn sum t m
counted_owed sum (Settled stream items) t own fits is =
    let apt = (and_parts (may_be_made (made_by sum.parts (Settled stream items))) _ fits).1 in
    let owed = (and_parts (stands stream sum.parts.streams) (are_owed items (owed_by sum stream)) (and_parts _ (each_once items) apt).0).1 in
    let named = and_parts (bytes_eq stream t.stream) _ is in
    let found = first_passing (λ (u : Made). u.number == t.number) (owed_by sum stream) (named_owed t.number items (owed_by sum stream) owed named.1) in
    let same : found.0.stream ≡ stream = All-contains (λ (u : Made). u.stream ≡ stream) (owed_by sum stream) found.0 (own stream) found.1 in
    let stand : IsStandIn sum t found.0 = record {
      there = subst (λ name. Contains (owed_by sum name) found.0) (sym same) found.1;
      stream = same ∙ same_text stream t.stream named.0;
      number = eqb-true found.0.number t.number found.2;
    } in
    (found.0, stand)
counted_owed sum other t own fits is = cc is

-- a fact counts alike what has the same stream and number
alike : (f : Fact) (t m : Made) → m.stream ≡ t.stream → m.number ≡ t.number → acknowledges f t ≡ true → acknowledges f m ≡ true
alike (Settled name items) t m stream number is =
    subst (λ n. bytes_eq name m.stream && list_any (λ (i : SettledItem). (i.number == n) && is_none i.code) items ≡ true) (sym number)
    (subst (λ s. bytes_eq name s && list_any (λ (i : SettledItem). (i.number == t.number) && is_none i.code) items ≡ true) (sym stream) is)
alike other t m stream number is = is

-- so where the fact acknowledges only what the call says, and the call is truthful, what the fact counts stands in the journal
pub fact_counted : (issuer store : List ℕ) (sum : Sum) (journal : List (List ℕ)) (call : Call) (f : Fact)
    → OwesItsOwn sum → ((m : Made) → Contains (owed_by sum m.stream) m → IsOurToken issuer store m)
    → Fits sum f → ((m : Made) → Contains (owed_by sum m.stream) m → acknowledges f m ≡ true → acks call m ≡ true)
    → IsTruthful issuer store journal call → IsCounted issuer store journal f
fact_counted issuer store sum journal call f own ours fits acked truthful t is =
    let found = counted_owed sum f t own fits is in
    let m : Made = found.0 in
    let stand : IsStandIn sum t m = found.1 in
    subst (λ n. has_pair (record { iss = issuer; jti = jti_of store t.stream n }) (pairs_of journal) ≡ true) stand.number
    (subst (λ s. has_pair (record { iss = issuer; jti = jti_of store s m.number }) (pairs_of journal) ≡ true) stand.stream
    (truthful m (ours m stand.there) (acked m stand.there (alike f t m stand.stream stand.number is))))
