-- A receiver's journal: the token texts that it took, each pair of issuer and jti once (RFC 8417, section 2.2).
use Rattle.std.specs.Prelude.{ℕ, List, [], ◌∷◌, ◌++◌, Option, map, if◌then◌else◌}
use Rattle.sig_event.specs.declared.claims.Claims.{Claims}
use Rattle.sig_set.specs.declared.trust.Trust.{Trust}
use Rattle.sig_receiver.specs.declared.heard.Heard.{Heard}
use Rattle.sig_receiver.specs.declared.heard.Heard.TheVariants.{Accepted, Seen, NotTaken}
use Rattle.sig_inbox.specs.declared.pair.Pair.{Pair}
use Rattle.sig_inbox.specs.Pairs.{has_pair}
use Rattle.sig_set.specs.Judgement.{Judgement, Valid, Refused, claims_of, judged}

-- the pair of claims
abbrev pub pair_of : Claims → Pair
pair_of claims = record { iss = claims.iss; jti = claims.jti }

-- the pairs of texts, text by text
abbrev pub pairs_of : List (List ℕ) → List Pair
pairs_of texts = map (λ text. pair_of (claims_of text)) texts

-- of texts those whose pair is neither in the set nor that of an earlier one
abbrev pub distinct : List Pair → List (List ℕ) → List (List ℕ)
distinct pairs [] = []
distinct pairs (text ∷ texts) =
    if has_pair (pair_of (claims_of text)) pairs then distinct pairs texts
    else text ∷ distinct (pairs ++ pair_of (claims_of text) ∷ []) texts

-- over the pairs of the base and the journal so far
abbrev pub answer_by : List Pair → Judgement → List (List ℕ) → Heard
answer_by pairs (Valid claims) journal = if has_pair (pair_of claims) (pairs ++ pairs_of journal) then Seen else Accepted
answer_by pairs (Refused code spot) journal = NotTaken code spot

-- by trust, pairs of the base, principal, name, journal and text
abbrev pub answer_to : Trust → List Pair → Option (List ℕ) → Option (List ℕ) → List (List ℕ) → List ℕ → Heard
answer_to trust pairs principal named journal text = answer_by pairs (judged trust principal named text) journal

-- the journal after an answer: a text that was accepted stands last in it
abbrev pub journal_by : Heard → List (List ℕ) → List ℕ → List (List ℕ)
journal_by Accepted journal text = journal ++ text ∷ []
journal_by Seen journal text = journal
journal_by (NotTaken code spot) journal text = journal
