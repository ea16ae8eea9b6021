-- What holds of bodies that are written, and of bodies that are read.
use Rattle.std.specs.Prelude.{◌≡◌, ◌<◌, ◌^◌, ℕ, Bool, false, List, ◌++◌, All, IfSome, IsUtf8, Ok}
use Rattle.sig_http.specs.Message.{DecidesRequest, Whole}
use Rattle.sig_http.specs.Spelling.{request_spelling}
use Rattle.sig_http.specs.Written.{IsReadableRequest, response_read}
use Rattle.sig_jws.specs.declared.key.Key.{Key}
use Rattle.sig_outside.specs.declared.place.Place.{Place}
use Rattle.sig_set.specs.declared.refusal.Code.{Code}
use Rattle.sig_set.specs.declared.refusal.Spot.{Spot}
use Rattle.sig_terms.specs.declared.call.PollAsk.{PollAsk}
use Rattle.sig_terms.specs.declared.call.Reported.{Reported}
use Rattle.sig_terms.specs.declared.token.Token.{Token}
use Rattle.sig_delivery.specs.declared.sets.Sets.{Sets}
use Rattle.sig_delivery.specs.Asks as asks
use Rattle.sig_delivery.specs.Named.{IsByName, first_named}
use Rattle.sig_delivery.specs.Outcomes.{outcome_of, settled_by}
use Rattle.sig_delivery.specs.Pushes.{coded_of, push_kind, push_of, push_read}
use Rattle.sig_delivery.specs.Sets as sets

-- ---- asks

-- texts in UTF-8 and a number of 64 bits, as every value in a program has them
pub record HasTexts (ask : PollAsk) : Type 0 where
  pub acks : All IsUtf8 ask.acks
  pub jtis : All (λ (r : Reported). IsUtf8 r.jti) ask.errors
  pub codes : All (λ (r : Reported). IsUtf8 r.code) ask.errors
  pub max : IfSome ask.max (λ n. n < 2 ^ 64)

-- what is written of an ask is read as that ask, with its errors in byte order of identifiers
abbrev pub ReadsBackAsk : Type 0
ReadsBackAsk = (ask : PollAsk) → HasTexts ask → asks.ask_of (asks.ask_text ask) ≡ Ok (asks.ask_read ask)

-- the errors that are read of a body stand in byte order of identifiers, each identifier once
abbrev pub ReadsAsksInOrder : Type 0
ReadsAsksInOrder = (body : List ℕ) (ask : PollAsk) → asks.ask_of body ≡ Ok ask → IsByName asks.jti_of ask.errors

-- errors in byte order of identifiers have each identifier once, and under each the first; where they stand so already, they stay
pub record OrdersErrors (errors : List Reported) : Type 0 where
  pub ordered : IsByName asks.jti_of (asks.errors_by_name errors)
  pub firsts : (jti : List ℕ) → first_named asks.jti_of jti (asks.errors_by_name errors) ≡ first_named asks.jti_of jti errors
  pub stay : IsByName asks.jti_of errors → asks.errors_by_name errors ≡ errors

abbrev pub AreOrderedErrors : Type 0
AreOrderedErrors = (errors : List Reported) → OrdersErrors errors

-- ---- sets

-- what is written of tokens is read as their identifiers and their signed texts
abbrev pub ReadsBackSets : Type 0
ReadsBackSets =
    (tokens : List Token) (more : Bool) (key : Key) → All (λ (t : Token). IsUtf8 t.claims.jti) tokens
    → sets.sets_of (sets.sets_text tokens more key) ≡ Ok (record { tokens = sets.listed key tokens; more = more })

-- the tokens that are read of a body stand in byte order of identifiers, each identifier once
abbrev pub ReadsSetsInOrder : Type 0
ReadsSetsInOrder = (body : List ℕ) (s : Sets) → sets.sets_of body ≡ Ok s → IsByName sets.jti_of s.tokens

-- signed tokens in byte order of identifiers, likewise
pub record OrdersTokens (key : Key) (tokens : List Token) : Type 0 where
  pub ordered : IsByName sets.jti_of (sets.listed key tokens)
  pub firsts : (jti : List ℕ) → first_named sets.jti_of jti (sets.listed key tokens) ≡ first_named sets.jti_of jti (sets.all_signed key tokens)
  pub stay : IsByName sets.jti_of (sets.all_signed key tokens) → sets.listed key tokens ≡ sets.all_signed key tokens

abbrev pub AreOrderedTokens : Type 0
AreOrderedTokens = (key : Key) (tokens : List Token) → OrdersTokens key tokens

-- ---- pushes

-- the response that refuses a token settles it by its code, also where its fields were not kept
abbrev pub SettlesByCode : Type 0
SettlesByCode = (code : Code) (spot : Spot) → outcome_of (response_read (coded_of code spot)) ≡ settled_by code

-- the push that is written is read as that push, whatever follows it
abbrev pub ReadsBackPush : Type 0
ReadsBackPush =
    (place : Place) (token : Token) (key : Key) (rest : List ℕ) → IsReadableRequest place (push_of token key) push_kind false
    → DecidesRequest (request_spelling place (push_of token key) push_kind false ++ rest) (Whole (push_read token key) rest)
