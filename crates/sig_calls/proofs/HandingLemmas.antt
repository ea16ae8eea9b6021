-- A round of pushes, and the operator that asks for one.
use Rattle.std.proofs.Common.{◌≡◌, subst, ℕ, List, [], map, take, flat_map, true, false, Some, None, if◌then◌else◌, refl}
use Rattle.std.specs.Option.{option_map_or}
use Rattle.std.specs.Prelude.{All}
use Rattle.std.proofs.lemmas.List.Elements.{All-nil, All-take}
use Rattle.sig_json.specs.declared.limits.TheConstants.{TOKENS_PER_PAGE}
use Rattle.sig_terms.specs.Deliveries.{is_push}
use Rattle.sig_terms.specs.declared.rules.Rules.{Rules}
use Rattle.sig_terms.specs.declared.answer.Answer.TheVariants as answer
use Rattle.sig_terms.specs.declared.call.Call.TheVariants.{Deliver, Hand}
use Rattle.sig_terms.specs.declared.token.Token.{Token}
use Rattle.sig_history.specs.Streams.{Stream, stands, token_of}
use Rattle.sig_history.specs.Owed.{Sum, offered_by, stream_named}
use Rattle.sig_history.specs.Whole.{IsWhole}
use Rattle.sig_calls.specs.Handing.{delivering, first_names, handing, pushed_by}
use Rattle.sig_calls.specs.Regular.{IsOwedAfter}
use Rattle.sig_calls.specs.Told.{only}
use Rattle.sig_calls.proofs.ChangedLemmas.{same_owed}
use Rattle.sig_calls.proofs.FoundLemmas.{named_lawful, named_stands}
use Rattle.sig_calls.proofs.OfferedLemmas.{All-flat_map, IsOwedStill, handed_owed, offered_has, still_owed}
use Rattle.sig_calls.proofs.ToldLemmas.{IsLawful, answer_lawful, only_lawful}

pub delivering_lawful : (rules : Rules) (sum : Sum) (stream : List ℕ) (now : ℕ)
    → IsLawful rules sum (Deliver stream) now (delivering sum.parts stream)
delivering_lawful rules sum stream now =
    named_lawful rules sum (Deliver stream) now stream
    (λ (s : Stream). if is_push s.conf.delivery then only (answer.Delivering stream) else only answer.NotFound)
    (λ s here. elim (is_push s.conf.delivery) as (λ b. IsLawful rules sum (Deliver stream) now
    (if b then only (answer.Delivering stream) else only answer.NotFound)) [
      | true ↦ only_lawful rules sum (Deliver stream) now (answer.Delivering stream) refl
      | false ↦ only_lawful rules sum (Deliver stream) now answer.NotFound refl
    ])

-- what a stream that stands offers is owed still
offered_owed : (sum : Sum) (name : List ℕ) → IsWhole sum → stands name sum.parts.streams ≡ true → All (IsOwedStill sum []) (offered_by sum name)
offered_owed sum name whole here =
    offered_has (IsOwedStill sum []) sum name (subst (All (IsOwedStill sum [])) (same_owed sum name here) (still_owed sum [] name whole))

pushed_owed : (sum : Sum) → IsWhole sum → (name : List ℕ) → All (IsOwedAfter sum None) (pushed_by sum name)
pushed_owed sum whole name =
    elim (stream_named name sum.parts.streams) as (λ o. stream_named name sum.parts.streams ≡ o → All (IsOwedAfter sum None)
    (option_map_or (λ (s : Stream). if is_push s.conf.delivery then map (token_of s.conf.delivery) (offered_by sum name) else []) o [])) [
      | None ↦ λ absent. All-nil (IsOwedAfter sum None)
      | Some s ↦ λ is. elim (is_push s.conf.delivery) as (λ b. All (IsOwedAfter sum None) (if b then map (token_of s.conf.delivery) (offered_by sum name) else [])) [
        | true ↦ handed_owed sum None s.conf.delivery (offered_by sum name) (offered_owed sum name whole (named_stands name sum.parts.streams s is))
        | false ↦ All-nil (IsOwedAfter sum None)
      ]
    ] refl

pub handing_lawful : (rules : Rules) (sum : Sum) (names : List (List ℕ)) (now : ℕ) → IsLawful rules sum (Hand names) now (handing sum names)
handing_lawful rules sum names now =
    let tokens : List Token = flat_map (pushed_by sum) (first_names [] names) in
    answer_lawful rules sum (Hand names) now (answer.Handed (take TOKENS_PER_PAGE tokens))
    (λ whole. All-take (IsOwedAfter sum None) TOKENS_PER_PAGE tokens
    (All-flat_map (IsOwedAfter sum None) (pushed_by sum) (pushed_owed sum whole) (first_names [] names)))
