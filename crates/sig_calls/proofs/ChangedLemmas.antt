-- What a stream owes once a poll has settled: what it owed, without what was settled.
use Rattle.std.proofs.Common.{option_to_list, ◌≡◌, ◌∙◌, ap, ℕ, List, [], ◌∷◌, ◌++◌, map, filter, true, false, not, ◌&&◌, Option, Some, None, refl, append-nil, Bool}
use Rattle.std.specs.Option.{option_map_or}
use Rattle.sig_terms.specs.declared.fact.Fact.{Fact}
use Rattle.sig_terms.specs.declared.fact.Fact.TheVariants.{Settled}
use Rattle.sig_terms.specs.declared.fact.SettledItem.{SettledItem}
use Rattle.sig_history.specs.Streams.{Stream, Made, Parts, stands}
use Rattle.sig_history.specs.Facts.{parts_after, stream_after}
use Rattle.sig_history.specs.Owed.{Sum, is_of, offered_by, offers, owed_after, owed_by, stream_named, sum_of, survives, takes_off}
use Rattle.sig_calls.specs.Settling.{settled_fact}
use Rattle.sig_history.proofs.JoinLemmas.{filter_same, found}
use Rattle.sig_history.proofs.StepLemmas.{filter_all}
use Rattle.sig_calls.proofs.SilentLemmas.{none_made}

-- tokens without those that a fact takes off
abbrev pub left_by : List ℕ → Option Fact → List Made → List Made
left_by name None ts = ts
left_by name (Some f) ts = filter (λ (t : Made). not (takes_off name f t)) ts

-- no settlement changes a stream
streams_same : (name : List ℕ) (items : List SettledItem) (ss : List Stream) → map (stream_after (Settled name items)) ss ≡ ss
streams_same name items [] = refl
streams_same name items (s ∷ ss) = ap (λ l. s ∷ l) (streams_same name items ss)

settled_owed : (sum : Sum) (name : List ℕ) (items : List SettledItem) → stands name sum.parts.streams ≡ true
    → owed_by (sum_of sum (Settled name items ∷ [])) name ≡ left_by name (Some (Settled name items)) (owed_by sum name)
settled_owed sum name items here =
    let f : Fact = Settled name items in
    let after : Parts = parts_after sum.parts f in
    let still : stands name after.streams ≡ true = ap (stands name) (streams_same name items sum.parts.streams) ∙ here in
    let made : owed_after sum (f ∷ []) name ≡ filter (survives name sum.parts (f ∷ [])) (owed_by sum name) ++ [] =
    ap (λ l. filter (survives name sum.parts (f ∷ [])) (owed_by sum name) ++ (filter (survives name after []) (filter (is_of name) l) ++ []))
    (none_made sum.parts f (λ s. refl)) in
    let left : (t : Made) → survives name sum.parts (f ∷ []) t ≡ not (takes_off name f t) =
    λ t. ap (λ b. b && (not (takes_off name f t) && stands name after.streams)) here ∙ ap (λ b. not (takes_off name f t) && b) still ∙ and_true (not (takes_off name f t)) in
    found (owed_after sum (f ∷ [])) name after.streams still ∙ made ∙ append-nil (filter (survives name sum.parts (f ∷ [])) (owed_by sum name))
    ∙ filter_same (survives name sum.parts (f ∷ [])) (λ (t : Made). not (takes_off name f t)) left (owed_by sum name)
  where
    and_true : (a : Bool) → (a && true) ≡ a
    and_true true = refl
    and_true false = refl

-- what a history comes to over no facts is owed as before
pub same_owed : (sum : Sum) (name : List ℕ) → stands name sum.parts.streams ≡ true → owed_by (sum_of sum []) name ≡ owed_by sum name
same_owed sum name here =
    found (owed_after sum []) name sum.parts.streams here ∙ append-nil (filter (survives name sum.parts []) (owed_by sum name))
    ∙ filter_all (survives name sum.parts []) (λ t. here) (owed_by sum name)

pub left_owed : (sum : Sum) (name : List ℕ) (items : List SettledItem) → stands name sum.parts.streams ≡ true
    → owed_by (sum_of sum (option_to_list (settled_fact name items))) name ≡ left_by name (settled_fact name items) (owed_by sum name)
left_owed sum name [] here = same_owed sum name here
left_owed sum name (i ∷ items) here = settled_owed sum name (i ∷ items) here

-- ---- what it offers

-- what a stream offers, where it is there, of what it owes
abbrev pub offered_from : Option Stream → List Made → List Made
offered_from o owed = option_map_or (λ (s : Stream). filter (offers s.status) owed) o []

pub left_offered : (sum : Sum) (name : List ℕ) (items : List SettledItem) → stands name sum.parts.streams ≡ true
    → offered_by (sum_of sum (option_to_list (settled_fact name items))) name
    ≡ offered_from (stream_named name sum.parts.streams) (left_by name (settled_fact name items) (owed_by sum name))
left_offered sum name [] here = ap (offered_from (stream_named name sum.parts.streams)) (left_owed sum name [] here)
left_offered sum name (i ∷ items) here =
    ap (λ ss. offered_from (stream_named name ss) (owed_by (sum_of sum (Settled name (i ∷ items) ∷ [])) name)) (streams_same name (i ∷ items) sum.parts.streams)
    ∙ ap (offered_from (stream_named name sum.parts.streams)) (left_owed sum name (i ∷ items) here)
