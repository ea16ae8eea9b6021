-- What holds of journal, messages and answers beside the tokens that were made, and how it goes on.
use Rattle.std.proofs.Common.{◌≡◌, ◌∙◌, ap, sym, subst, ℕ, List, [], ◌∷◌, ◌++◌, map, true, false, ◌||◌, Option, Some, None, if◌then◌else◌, refl, inl, inr}
use Rattle.std.specs.Prelude.{All, Contains}
use Rattle.std.proofs.lemmas.Bool.{and_from, or_cases, or_left, or_right}
use Rattle.std.proofs.lemmas.List.{map-append}
use Rattle.std.proofs.lemmas.List.Elements.{All-append, All-cons, All-contains, All-contains_itself, All-head, All-nil, All-push, All-tail, All-weaker, Contains-append_left}
use Rattle.std.proofs.lemmas.List.Folds.{list_any-append}
use Rattle.sig_event.specs.declared.claims.Claims.{Claims}
use Rattle.sig_inbox.specs.declared.pair.Pair.{Pair}
use Rattle.sig_inbox.specs.Pairs.{has_pair}
use Rattle.sig_set.specs.Checks.{Fault}
use Rattle.sig_set.specs.Judgement.{claims_of, judged_by}
use Rattle.sig_set.proofs.ProperClaims.{bytes_same}
use Rattle.sig_receiver.specs.declared.heard.Heard.TheVariants.{Accepted, Seen}
use Rattle.sig_receiver.specs.Journal.{pair_of, pairs_of, distinct, answer_by, journal_by}
use Rattle.sig_receiver.proofs.JournalLemmas.{distinct-more, pairs_of-more}
use Rattle.sig_terms.specs.declared.fact.Fact.{Fact}
use Rattle.sig_terms.specs.declared.token.Token.{Token}
use Rattle.sig_history.specs.Streams.{Made, jti_of, made_in}
use Rattle.sig_calls.specs.Regular.{acknowledges}
use Rattle.sig_law.specs.Law.{is_acknowledged}
use Rattle.sig_law.specs.World.{Reply, is_taken}

-- ---- lists

from_map : {X Y : Type 0} (P : Y → Type 0) (f : X → Y) (xs : List X) → All P (map f xs) → All (λ x. P (f x)) xs
from_map P f [] all = All-nil (λ x. P (f x))
from_map P f (x ∷ xs) all =
    All-cons (λ y. P (f y)) x xs (All-head P (f x) (map f xs) all) (from_map P f xs (All-tail P (f x) (map f xs) all))

-- what is among some is, by its image, among their images
pub image : {X Y : Type 0} (f : X → Y) (xs : List X) (x : X) → Contains xs x → Contains (map f xs) (f x)
image f xs x there =
    All-contains (λ y. Contains (map f xs) (f y)) xs x (from_map (Contains (map f xs)) f xs (All-contains_itself (map f xs))) there

among_more : {X Y : Type 0} (f : X → Y) (xs ys : List X) (y : Y) → Contains (map f xs) y → Contains (map f (xs ++ ys)) y
among_more f xs ys y there =
    subst (λ l. Contains l y) (sym (map-append f xs ys)) (Contains-append_left (map f xs) (map f ys) y there)

-- ---- what is held

abbrev pub claims_made : Made → Claims
claims_made t = t.claims

-- what a token of this issuer and store is known by
abbrev pub pair_at : List ℕ → List ℕ → Made → Pair
pair_at issuer store t = record { iss = issuer; jti = jti_of store t.stream t.number }

-- a message is a token that was made
abbrev pub IsMade : List Made → Token → Type 0
IsMade tokens m = Contains tokens (made_in m)

-- an answer is to a token that was made, which stands in the journal where it was taken
pub record IsHeard (tokens : List Made) (journal : List (List ℕ)) (r : Reply) : Type 0 where
  pub message : IsMade tokens r.message
  pub taken : is_taken r.heard ≡ true → has_pair (pair_of r.message.claims) (pairs_of journal) ≡ true

-- a text of the journal is of a token that was made
abbrev pub IsWritten : List Made → List ℕ → Type 0
IsWritten tokens text = Contains (map claims_made tokens) (claims_of text)

-- a token that a fact counts as acknowledged stands in the journal
abbrev pub IsCounted : List ℕ → List ℕ → List (List ℕ) → Fact → Type 0
IsCounted issuer store journal f = (t : Made) → acknowledges f t ≡ true → has_pair (pair_at issuer store t) (pairs_of journal) ≡ true

pub record IsHeld (issuer store : List ℕ) (tokens : List Made) (facts : List Fact) (journal : List (List ℕ)) (messages : List Token) (replies : List Reply) : Type 0 where
  pub handed : All (IsMade tokens) messages
  pub heard : All (IsHeard tokens journal) replies
  pub written : All (IsWritten tokens) journal
  pub once : distinct [] journal ≡ journal
  pub settled : (t : Made) → is_acknowledged facts t ≡ true → has_pair (pair_at issuer store t) (pairs_of journal) ≡ true

-- ---- a fact more

settled_by : (P : Type 0) (facts : List Fact) (f : Fact) (t : Made) → (is_acknowledged facts t ≡ true → P) → (acknowledges f t ≡ true → P)
    → is_acknowledged (facts ++ f ∷ []) t ≡ true → P
settled_by P facts f t before now is =
    elim (or_cases (is_acknowledged facts t) (acknowledges f t || false) (sym (list_any-append (λ g. acknowledges g t) facts (f ∷ [])) ∙ is)) [
      | inl earlier ↦ before earlier
      | inr later ↦ elim (or_cases (acknowledges f t) false later) [ inl here ↦ now here | inr none ↦ cc none ]
    ]

pub held_after : (issuer store : List ℕ) (tokens new : List Made) (facts : List Fact) (f : Fact) (journal : List (List ℕ)) (messages : List Token)
    (replies : List Reply) → IsHeld issuer store tokens facts journal messages replies → IsCounted issuer store journal f
    → IsHeld issuer store (tokens ++ new) (facts ++ f ∷ []) journal messages replies
held_after issuer store tokens new facts f journal messages replies held counts = record {
  handed = All-weaker (IsMade tokens) (IsMade (tokens ++ new))
      (λ m h. Contains-append_left tokens new (made_in m) h) messages held.handed;
  heard = All-weaker (IsHeard tokens journal) (IsHeard (tokens ++ new) journal)
      (λ r h. record { message = Contains-append_left tokens new (made_in r.message) h.message; taken = h.taken }) replies held.heard;
  written = All-weaker (IsWritten tokens) (IsWritten (tokens ++ new))
      (λ text h. among_more claims_made tokens new (claims_of text) h) journal held.written;
  once = held.once;
  settled = λ t is. settled_by _ facts f t (held.settled t) (counts t) is;
}

-- ---- messages more

pub held_handing : (issuer store : List ℕ) (tokens : List Made) (facts : List Fact) (journal : List (List ℕ)) (messages more : List Token)
    (replies : List Reply) → IsHeld issuer store tokens facts journal messages replies → All (IsMade tokens) more
    → IsHeld issuer store tokens facts journal (messages ++ more) replies
held_handing issuer store tokens facts journal messages more replies held all = record {
  handed = All-append (IsMade tokens) messages more held.handed all;
  heard = held.heard;
  written = held.written;
  once = held.once;
  settled = held.settled;
}

-- ---- an answer more

pub held_hearing : (issuer store : List ℕ) (tokens : List Made) (facts : List Fact) (journal : List (List ℕ)) (messages : List Token)
    (replies : List Reply) (r : Reply) → IsHeld issuer store tokens facts journal messages replies → IsHeard tokens journal r
    → IsHeld issuer store tokens facts journal messages (replies ++ r ∷ [])
held_hearing issuer store tokens facts journal messages replies r held heard = record {
  handed = held.handed;
  heard = All-push (IsHeard tokens journal) replies r held.heard heard;
  written = held.written;
  once = held.once;
  settled = held.settled;
}

-- ---- a text more

still_there : (pair : Pair) (journal : List (List ℕ)) (text : List ℕ) → has_pair pair (pairs_of journal) ≡ true
    → has_pair pair (pairs_of (journal ++ text ∷ [])) ≡ true
still_there pair journal text h =
    ap (has_pair pair) (pairs_of-more journal text)
    ∙ list_any-append _ (pairs_of journal) (pair_of (claims_of text) ∷ []) ∙ or_left _ _ h

now_there : (journal : List (List ℕ)) (text : List ℕ) → has_pair (pair_of (claims_of text)) (pairs_of (journal ++ text ∷ [])) ≡ true
now_there journal text =
    let claims : Claims = claims_of text in
    ap (has_pair (pair_of claims)) (pairs_of-more journal text)
    ∙ list_any-append _ (pairs_of journal) (pair_of claims ∷ [])
    ∙ or_right _ _ (or_left _ _ (and_from _ _ (bytes_same claims.iss) (bytes_same claims.jti)))

held_writing : (issuer store : List ℕ) (tokens : List Made) (facts : List Fact) (journal : List (List ℕ)) (messages : List Token)
    (replies : List Reply) (text : List ℕ) → IsHeld issuer store tokens facts journal messages replies
    → IsWritten tokens text → has_pair (pair_of (claims_of text)) (pairs_of journal) ≡ false
    → IsHeld issuer store tokens facts (journal ++ text ∷ []) messages replies
held_writing issuer store tokens facts journal messages replies text held written new = record {
  handed = held.handed;
  heard = All-weaker (IsHeard tokens journal) (IsHeard tokens (journal ++ text ∷ [])) (λ r h. record {
    message = h.message;
    taken = λ is. still_there (pair_of r.message.claims) journal text (h.taken is);
  }) replies held.heard;
  written = All-push (IsWritten tokens) journal text held.written written;
  once = distinct-more [] journal text (ap (λ l. has_pair (pair_of (claims_of text)) (pairs_of l)) held.once ∙ new) ∙ ap (λ l. l ++ text ∷ []) held.once;
  settled = λ t is. still_there (pair_at issuer store t) journal text (held.settled t is);
}

-- ---- a message is judged

-- what is kept of a text of a token that was made
pub held_judging : (issuer store : List ℕ) (tokens : List Made) (facts : List Fact) (journal : List (List ℕ)) (messages : List Token)
    (replies : List Reply) (text : List ℕ) (fault : Option Fault) → IsHeld issuer store tokens facts journal messages replies
    → IsWritten tokens text
    → IsHeld issuer store tokens facts (journal_by (answer_by [] (judged_by fault (claims_of text)) journal) journal text) messages replies
held_judging issuer store tokens facts journal messages replies text (Some fault) held written = held
held_judging issuer store tokens facts journal messages replies text None held written =
    elim (has_pair (pair_of (claims_of text)) (pairs_of journal)) as (λ b. has_pair (pair_of (claims_of text)) (pairs_of journal) ≡ b
    → IsHeld issuer store tokens facts (journal_by (if b then Seen else Accepted) journal text) messages replies) [
      | true ↦ λ there. held
      | false ↦ λ new. held_writing issuer store tokens facts journal messages replies text held written new
    ] refl

-- and where it is answered as taken, it stands in the journal after that
pub taken_there : (journal : List (List ℕ)) (text : List ℕ) (fault : Option Fault) → is_taken (answer_by [] (judged_by fault (claims_of text)) journal) ≡ true
    → has_pair (pair_of (claims_of text)) (pairs_of (journal_by (answer_by [] (judged_by fault (claims_of text)) journal) journal text)) ≡ true
taken_there journal text (Some fault) is = cc is
taken_there journal text None is =
    elim (has_pair (pair_of (claims_of text)) (pairs_of journal)) as (λ b. has_pair (pair_of (claims_of text)) (pairs_of journal) ≡ b
    → has_pair (pair_of (claims_of text)) (pairs_of (journal_by (if b then Seen else Accepted) journal text)) ≡ true) [
      | true ↦ λ there. there
      | false ↦ λ new. now_there journal text
    ] refl
