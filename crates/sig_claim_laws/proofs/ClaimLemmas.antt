-- That a pair in the journal is there by the claims that were made under it.
use Rattle.std.proofs.Common.{◌≡◌, ◌∙◌, ap, sym, subst, true≢false, ℕ, List, [], ◌∷◌, map, true, false, bytes_eq, inl, inr}
use Rattle.std.specs.Prelude.{All, Contains}
use Rattle.std.specs.List.{IsDistinct, AllByRecursion}
use Rattle.std.proofs.lemmas.Bool.{and_parts, or_cases}
use Rattle.std.proofs.lemmas.List.Elements.{All-contains, All-contains_itself, All-weaker}
use Rattle.std.proofs.lemmas.Map.Keys.{IsDistinct-head, IsDistinct-tail}
use Rattle.std.proofs.lemmas.Slice.Eq.{bytes_eq-Decides}
use Rattle.sig_event.specs.declared.claims.Claims.{Claims}
use Rattle.sig_inbox.specs.declared.pair.Pair.{Pair}
use Rattle.sig_inbox.specs.Pairs.{has_pair, pair_eq}
use Rattle.sig_receiver.specs.Journal.{pair_of, pairs_of}
use Rattle.sig_set.specs.Judgement.{claims_of}
use Rattle.sig_history.specs.Streams.{Made, made_in}
use Rattle.sig_history.specs.Owed.{empty_sum}
use Rattle.sig_fact_laws.specs.Identifiers.{jti_in}
use Rattle.sig_fact_laws.proofs.IdentifierLemmas.{identifiers_differ}
use Rattle.sig_fact_laws.proofs.MemberLemmas.{first_there, later_there, none_there, there_cases}
use Rattle.sig_law.proofs.Held.{IsHeard, image}
use Rattle.sig_law.proofs.Holding.{Holds}
use Rattle.sig_law.proofs.Schedules.{every_schedule, lawful, new_holds, run_holds}
use Rattle.sig_law.specs.Law.{IsLawful, is_acknowledged, is_journalled, tokens_in}
use Rattle.sig_law.specs.World.{Ends, Reply, World, is_taken, new_world, run}
use Rattle.sig_claim_laws.specs.Claims.{ClaimsStand, ClaimsStandOnEverySchedule, IsKept, TokensDifferOnEverySchedule}

-- ---- tokens by their identifiers

-- what holds of each image holds of the image of one
at_image : (P : List ℕ → Type 0) (ts : List Made) (t : Made) → AllByRecursion P (map jti_in ts) → Contains ts t → P (jti_in t)
at_image P [] t all there = absurd (none_there t there)
at_image P (x ∷ ts) t all there = elim (there_cases x t ts there) [
  | inl same ↦ subst (λ (y : Made). P (jti_in y)) same all.0
  | inr later ↦ at_image P ts t all.1 later
]

apart : (a b : Made) → bytes_eq (jti_in a) (jti_in b) ≡ true → bytes_eq (jti_in a) (jti_in b) ≡ false → ⊥
apart a b same not = true≢false (sym same ∙ not)

same_back : (a b : Made) → bytes_eq (jti_in a) (jti_in b) ≡ true → bytes_eq (jti_in b) (jti_in a) ≡ true
same_back a b same = (bytes_eq-Decides (jti_in b) (jti_in a)).1 (sym ((bytes_eq-Decides (jti_in a) (jti_in b)).0 same))

one_token : (ts : List Made) (a b : Made) → IsDistinct bytes_eq (map jti_in ts) → Contains ts a → Contains ts b
    → bytes_eq (jti_in a) (jti_in b) ≡ true → a ≡ b
one_token [] a b once there_a there_b same = absurd (none_there a there_a)
one_token (t ∷ ts) a b once there_a there_b same =
    let others = IsDistinct-head bytes_eq (jti_in t) (map jti_in ts) once in
    elim (there_cases t a ts there_a) [
      | inl is_a ↦ elim (there_cases t b ts there_b) [
        | inl is_b ↦ sym is_a ∙ is_b
        | inr later_b ↦ absurd (apart a b same
            (subst (λ (y : Made). bytes_eq (jti_in y) (jti_in b) ≡ false) is_a (at_image (λ j. bytes_eq (jti_in t) j ≡ false) ts b others later_b)))
      ]
      | inr later_a ↦ elim (there_cases t b ts there_b) [
        | inl is_b ↦ absurd (apart b a (same_back a b same)
            (subst (λ (y : Made). bytes_eq (jti_in y) (jti_in a) ≡ false) is_b (at_image (λ j. bytes_eq (jti_in t) j ≡ false) ts a others later_a)))
        | inr later_b ↦ one_token ts a b (IsDistinct-tail bytes_eq (jti_in t) (map jti_in ts) once) later_a later_b same
      ]
    ]

-- ---- the text by which a journal has a pair

text_with : (pair : Pair) (texts : List (List ℕ)) → has_pair pair (pairs_of texts) ≡ true
    → (text : List ℕ) × Contains texts text × (pair_eq pair (pair_of (claims_of text)) ≡ true)
text_with pair [] h = cc h
text_with pair (x ∷ xs) h = elim (or_cases (pair_eq pair (pair_of (claims_of x))) (has_pair pair (pairs_of xs)) h) [
  | inl this ↦ (x, first_there x xs, this)
  | inr later ↦ let found = text_with pair xs later in (found.0, later_there x found.0 xs found.1, found.2)
]

-- the token whose claims these are
token_with : (ts : List Made) (claims : Claims) → Contains (map (λ (t : Made). t.claims) ts) claims → (t : Made) × Contains ts t × (t.claims ≡ claims)
token_with [] claims there = absurd (no_claims claims there)
  where
    no_claims : (claims : Claims) → Contains [] claims → ⊥
    no_claims claims there = none_there claims there
token_with (t ∷ ts) claims there = elim (there_cases t.claims claims (map (λ (t : Made). t.claims) ts) there) [
  | inl is ↦ (t, first_there t ts, is)
  | inr later ↦ let found = token_with ts claims later in (found.0, later_there t found.0 ts found.1, found.2)
]

-- ---- what is acknowledged

-- a token that was made, and whose pair is in the journal, stands there with its claims
kept : (ends : Ends) (world : World) → IsLawful ends world → IsDistinct bytes_eq (map jti_in (tokens_in ends world)) → (t : Made)
    → Contains (tokens_in ends world) t → is_journalled world t.claims ≡ true → IsKept world t.claims
kept ends world lawful once t made is =
    let text = text_with (pair_of t.claims) world.journal is in
    let of = token_with (tokens_in ends world) (claims_of text.0) (All-contains (λ (x : List ℕ). Contains (map (λ (t : Made). t.claims) (tokens_in ends world)) (claims_of x)) world.journal text.0 lawful.journalled text.1) in
    let named = (and_parts (bytes_eq t.claims.iss (claims_of text.0).iss) (bytes_eq t.claims.jti (claims_of text.0).jti) text.2).1 in
    let same = one_token (tokens_in ends world) t of.0 once made of.1 (subst (λ (c : Claims). bytes_eq t.claims.jti c.jti ≡ true) (sym of.2) named) in
    subst (IsKept world) (sym (ap (λ (x : Made). x.claims) same ∙ of.2)) (image (λ (text : List ℕ). claims_of text) world.journal text.0 text.1)

differ : (ends : Ends) (world : World) → IsLawful ends world → IsDistinct bytes_eq (map jti_in (tokens_in ends world))
differ ends world lawful = identifiers_differ (empty_sum ends.store_id) world.facts tt lawful.sound

-- what holds of each that is among them
each : {X : Type 0} (Q : X → Type 0) (xs : List X) → ((x : X) → Contains xs x → Q x) → All Q xs
each Q xs f = All-weaker (Contains xs) Q f xs (All-contains_itself xs)

stand : (ends : Ends) (world : World) → Holds ends world → ClaimsStand ends world
stand ends world holds = record {
  replies = each (λ (r : Reply). is_taken r.heard ≡ true → IsKept world r.message.claims) world.replies (λ r there taken.
      let heard = All-contains (IsHeard (tokens_in ends world) world.journal) world.replies r holds.held.heard there in
      kept ends world law once (made_in r.message) heard.message (heard.taken taken));
  acknowledged = each (λ (t : Made). is_acknowledged world.facts t ≡ true → IsKept world t.claims) (tokens_in ends world) (λ t there counted.
      kept ends world law once t there
      (All-contains (λ (t : Made). is_acknowledged world.facts t ≡ true → is_journalled world t.claims ≡ true) (tokens_in ends world) t law.acknowledged there counted));
}
  where
    law : IsLawful ends world
    law = lawful ends world holds

    once : IsDistinct bytes_eq (map jti_in (tokens_in ends world))
    once = differ ends world law

pub claims_stand : ClaimsStandOnEverySchedule
claims_stand ends proper schedule events = stand ends (run ends new_world schedule) (run_holds ends new_world schedule proper events (new_holds ends))

pub tokens_differ : TokensDifferOnEverySchedule
tokens_differ ends proper schedule events = differ ends (run ends new_world schedule) (every_schedule ends proper schedule events)
