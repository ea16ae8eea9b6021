-- What is handed out is what a stream offers, and a stream offers what it owes.
use Rattle.std.proofs.Common.{option_to_list, sym, subst, ℕ, List, [], ◌∷◌, map, take, filter, flat_map, Option, Some, None, get_or}
use Rattle.std.specs.Option.{option_map_or}
use Rattle.std.specs.Prelude.{All, Contains}
use Rattle.std.proofs.lemmas.List.Elements.{All-append, All-contains_itself, All-filter, All-map, All-nil, All-take}
use Rattle.sig_terms.specs.declared.fact.Fact.{Fact}
use Rattle.sig_terms.specs.declared.want.Delivery.{Delivery}
use Rattle.sig_history.specs.Streams.{Made, Stream, token_of}
use Rattle.sig_history.specs.Owed.{Sum, offered_by, offers, owed_by, stream_named, sum_of}
use Rattle.sig_history.specs.Whole.{IsWhole}
use Rattle.sig_calls.specs.Regular.{IsOwedAfter}
use Rattle.sig_calls.proofs.OwedLemmas.{Carries, carries_after}

-- what holds of what a stream owes holds of what it offers
pub offered_has : (P : Made → Type 0) (sum : Sum) (name : List ℕ) → All P (owed_by sum name) → All P (offered_by sum name)
offered_has P sum name all =
    elim (stream_named name sum.parts.streams) as (λ o. All P (option_map_or (λ (s : Stream). filter (offers s.status) (owed_by sum name)) o [])) [
      | None ↦ All-nil P
      | Some s ↦ All-filter (offers s.status) P (owed_by sum name) all
    ]

-- a token that its stream owes after facts
abbrev pub IsOwedStill : Sum → List Fact → Made → Type 0
IsOwedStill sum facts t = Contains (owed_by (sum_of sum facts) t.stream) t

pub still_owed : (sum : Sum) (facts : List Fact) (name : List ℕ) → IsWhole sum → All (IsOwedStill sum facts) (owed_by (sum_of sum facts) name)
still_owed sum facts name whole =
    let owed : List Made = owed_by (sum_of sum facts) name in
    let there : All (Contains owed) owed = All-contains_itself owed in
    let named : All (Carries name) owed = carries_after sum facts name whole in
    λ k d h. subst (λ n. Contains (owed_by (sum_of sum facts) n) (get_or owed k d)) (sym (named k d h)) (there k d h)

-- as they are handed out
pub handed_owed : (sum : Sum) (change : Option Fact) (d : Delivery) (ts : List Made) → All (IsOwedStill sum (option_to_list change)) ts
    → All (IsOwedAfter sum change) (map (token_of d) ts)
handed_owed sum change d ts all = All-map (IsOwedAfter sum change) (token_of d) ts all

-- a page is of tokens that are owed after the call
pub page_owed : (sum : Sum) (name : List ℕ) (change : Option Fact) (d : Delivery) (size : ℕ) → IsWhole sum
    → All (IsOwedAfter sum change) (map (token_of d) (take size (offered_by (sum_of sum (option_to_list change)) name)))
page_owed sum name change d size whole =
    let facts : List Fact = option_to_list change in
    let offered : List Made = offered_by (sum_of sum facts) name in
    handed_owed sum change d (take size offered)
    (All-take (IsOwedStill sum facts) size offered (offered_has (IsOwedStill sum facts) (sum_of sum facts) name (still_owed sum facts name whole)))

pub All-flat_map : {X Y : Type 0} (P : Y → Type 0) (f : X → List Y) → ((x : X) → All P (f x)) → (xs : List X) → All P (flat_map f xs)
All-flat_map P f each [] = All-nil P
All-flat_map P f each (x ∷ xs) = All-append P (f x) (flat_map f xs) (each x) (All-flat_map P f each xs)
