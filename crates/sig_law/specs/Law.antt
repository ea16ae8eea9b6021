-- What holds over every schedule.
use Rattle.std.specs.Prelude.{◌≡◌, ℕ, List, [], ◌++◌, Bool, true, Some, None, map, filter, All, Contains, IsUtf8}
use Rattle.std.specs.List.{list_any}
use Rattle.sig_event.specs.declared.claims.Claims.{Claims}
use Rattle.sig_receiver.specs.Journal.{pair_of, pairs_of, distinct}
use Rattle.sig_receiver.specs.Receiver.{nothing, received_of}
use Rattle.sig_receiver.specs.Rows.{fold_rows}
use Rattle.sig_inbox.specs.Pairs.{has_pair}
use Rattle.sig_set.specs.Judgement.{Valid, claims_of, judged}
use Rattle.sig_terms.specs.declared.fact.Fact.{Fact}
use Rattle.sig_history.specs.Streams.{Made, made_in}
use Rattle.sig_history.specs.Facts.{tokens_of}
use Rattle.sig_history.specs.Owed.{empty_sum, is_left, made_along, owed_by, token_in}
use Rattle.sig_history.specs.Sound.{is_sound}
use Rattle.sig_calls.specs.Proper.{IsProperCall, IsProperRules}
use Rattle.sig_calls.specs.Regular.{acknowledges}
use Rattle.sig_law.specs.World.{Ends, World, Reply, Act, Event, Acts, Crashed, Called, Delivered, Answered, Elapsed, new_world, is_taken, run, sum_in}

-- the tokens that the transmitter made
abbrev pub tokens_in : Ends → World → List Made
tokens_in ends world = tokens_of (empty_sum ends.store_id).parts world.facts

-- the receiver's journal has a token of this issuer and identifier
abbrev pub is_journalled : World → Claims → Bool
is_journalled world claims = has_pair (pair_of claims) (pairs_of world.journal)

-- the receiver judges the text as a valid token, which its own issuer brings
abbrev pub IsValidText : Ends → List ℕ → Type 0
IsValidText ends text = judged ends.trust (Some (claims_of text).iss) None text ≡ Valid (claims_of text)

-- the transmitter counts the token as acknowledged
abbrev pub is_acknowledged : List Fact → Made → Bool
is_acknowledged facts t = list_any (λ f. acknowledges f t) facts

-- the rules are those of a transmitter, and the key's name is a text
pub record AreProper (ends : Ends) : Type 0 where
  pub rules : IsProperRules ends.rules
  pub kid : (name : List ℕ) → ends.rules.key.kid ≡ Some name → IsUtf8 name

-- what holds of the world at each moment
pub record IsLawful (ends : Ends) (world : World) : Type 0 where
  -- each message is a token that the transmitter made, for that stream
  pub messages : All (λ m. Contains (tokens_in ends world) (made_in m)) world.messages
  -- each token that the receiver has acknowledged stands in its journal
  pub replies : All (λ (r : Reply). is_taken r.heard ≡ true → is_journalled world r.message.claims ≡ true) world.replies
  -- each token that the transmitter counts as acknowledged stands in the receiver's journal
  pub acknowledged :
      All (λ (t : Made). is_acknowledged world.facts t ≡ true → is_journalled world t.claims ≡ true) (tokens_in ends world)
  -- each token in the journal is one that was made, with the same claims
  pub journalled :
      All (λ text. Contains (map (λ (t : Made). t.claims) (tokens_in ends world)) (claims_of text)) world.journal
  -- each is valid, and stands there once
  pub valid : All (IsValidText ends) world.journal
  pub once : distinct [] world.journal ≡ world.journal
  -- so the session table is the fold of them, each once in journal order
  pub table : (received_of nothing world.journal).rows ≡ fold_rows [] world.journal
  -- each stream owes exactly the tokens that were made for it and that no later fact took off
  pub owed : (name : List ℕ)
      → owed_by (sum_in ends world) name ≡ map token_in (filter (is_left name) (made_along (empty_sum ends.store_id).parts world.facts))
  -- each fact fits what came before it
  pub sound : is_sound (empty_sum ends.store_id) world.facts ≡ true

-- an event that requests and scripts make: a call in it is proper
abbrev pub IsProperAct : Act → Type 0
IsProperAct (Called call) = IsProperCall call
IsProperAct (Delivered place) = Unit {0}
IsProperAct (Answered place) = Unit {0}

abbrev pub IsProperEvent : Event → Type 0
IsProperEvent (Acts act) = IsProperAct act
IsProperEvent (Crashed act kept) = IsProperAct act
IsProperEvent (Elapsed time) = Unit {0}

-- the law: it holds after every schedule of such events
abbrev pub HoldsOnEverySchedule : Type 0
HoldsOnEverySchedule =
    (ends : Ends) → AreProper ends → (schedule : List Event) → All IsProperEvent schedule → IsLawful ends (run ends new_world schedule)

-- a list goes on as another one
abbrev pub IsFrontOf : {T : Type 0} → List T → List T → Type 0
IsFrontOf {T = T} front whole = (rest : List T) × (whole ≡ front ++ rest)

-- facts, journal, messages and answers go on
pub record GoesOn (earlier later : World) : Type 0 where
  pub facts : IsFrontOf earlier.facts later.facts
  pub journal : IsFrontOf earlier.journal later.journal
  pub messages : IsFrontOf earlier.messages later.messages
  pub replies : IsFrontOf earlier.replies later.replies

-- whatever happens, histories only grow
abbrev pub OnlyGrows : Type 0
OnlyGrows = (ends : Ends) (world : World) (schedule : List Event) → GoesOn world (run ends world schedule)
