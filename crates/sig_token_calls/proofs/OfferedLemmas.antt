-- What a stream offers once a poll has settled, by what the ledger holds.
use Rattle.std.proofs.Common.{◌≡◌, ◌∙◌, ap, sym, ℕ, List, [], ◌∷◌, ◌++◌, map, filter, Bool, true, false, not, ◌&&◌, ◌||◌, Some, if◌then◌else◌, refl, append-nil}
use Rattle.std.specs.Prelude.{flat_map}
use Rattle.std.specs.Option.{option_map_or, option_to_list}
use Rattle.sig_terms.specs.declared.fact.Fact.{Fact}
use Rattle.sig_terms.specs.declared.fact.Fact.TheVariants.{Settled}
use Rattle.sig_terms.specs.declared.fact.SettledItem.{SettledItem}
use Rattle.sig_history.specs.Streams.{Stream, Publication, Made, Parts, is_enabled, is_update, stands}
use Rattle.sig_history.specs.Facts.{parts_after, stream_after, token_for}
use Rattle.sig_history.specs.Owed.{Sum, is_of, names_number, offered_by, offers, owed_after, owed_by, stream_named, sum_of, survives, takes_off}
use Rattle.sig_history.proofs.JoinLemmas.{filter_same, found}
use Rattle.sig_calls.specs.Settling.{settled_fact}
use Rattle.sig_accounts.specs.declared.debt.Debt.{Debt}
use Rattle.sig_accounts.specs.Owings.{Owing, made_of, news_of, owing_named}
use Rattle.sig_ledger.specs.Books.{Books, sum_in}
use Rattle.sig_ledger.proofs.FoundLemmas.{found_owed, found_stands}
use Rattle.sig_accounts.proofs.TextLemmas.{filter_all, text_itself}
use Rattle.sig_token_calls.specs.Offering as offering
use Rattle.sig_token_calls.specs.Offering.{open_debts}
use Rattle.sig_token_calls.proofs.FoundLemmas.{named_is}

-- ---- what a settlement leaves

-- it makes no token, and changes no stream
silent : (sid name : List ℕ) (items : List SettledItem) (ss : List Stream) → flat_map (token_for sid (Settled name items)) ss ≡ []
silent sid name items [] = refl
silent sid name items (s ∷ ss) = silent sid name items ss

streams_same : (name : List ℕ) (items : List SettledItem) (ss : List Stream) → map (stream_after (Settled name items)) ss ≡ ss
streams_same name items [] = refl
streams_same name items (s ∷ ss) = ap (λ l. s ∷ l) (streams_same name items ss)

and_true : (a : Bool) → (a && true) ≡ a
and_true true = refl
and_true false = refl

-- the tokens that these items don't name
abbrev unnamed : List SettledItem → Made → Bool
unnamed items t = not (names_number t.number items)

settled_owed : (sum : Sum) (name : List ℕ) (items : List SettledItem) → stands name sum.parts.streams ≡ true
    → owed_by (sum_of sum (Settled name items ∷ [])) name ≡ filter (unnamed items) (owed_by sum name)
settled_owed sum name items here =
    let f : Fact = Settled name items in
    let after : Parts = parts_after sum.parts f in
    let still : stands name after.streams ≡ true = ap (stands name) (streams_same name items sum.parts.streams) ∙ here in
    let made : owed_after sum (f ∷ []) name ≡ filter (survives name sum.parts (f ∷ [])) (owed_by sum name) ++ [] =
    ap (λ l. filter (survives name sum.parts (f ∷ [])) (owed_by sum name) ++ (filter (survives name after []) (filter (is_of name) l) ++ []))
    (silent sum.parts.store_id name items sum.parts.streams) in
    let left : (t : Made) → survives name sum.parts (f ∷ []) t ≡ unnamed items t =
    λ t. ap (λ b. b && (not (takes_off name f t) && stands name after.streams)) here ∙ ap (λ b. not (takes_off name f t) && b) still
    ∙ and_true (not (takes_off name f t)) ∙ ap (λ b. not (b && names_number t.number items)) (text_itself name) in
    found (owed_after sum (f ∷ [])) name after.streams still ∙ made ∙ append-nil (filter (survives name sum.parts (f ∷ [])) (owed_by sum name))
    ∙ filter_same (survives name sum.parts (f ∷ [])) (unnamed items) left (owed_by sum name)

same_owed : (sum : Sum) (name : List ℕ) → stands name sum.parts.streams ≡ true → owed_by (sum_of sum []) name ≡ owed_by sum name
same_owed sum name here =
    found (owed_after sum []) name sum.parts.streams here ∙ append-nil (filter (survives name sum.parts []) (owed_by sum name))
    ∙ filter_all (survives name sum.parts []) (λ t. here) (owed_by sum name)

left_owed : (sum : Sum) (name : List ℕ) (items : List SettledItem) → stands name sum.parts.streams ≡ true
    → owed_by (sum_of sum (option_to_list (settled_fact name items))) name ≡ filter (unnamed items) (owed_by sum name)
left_owed sum name [] here = same_owed sum name here ∙ sym (filter_all (unnamed []) (λ t. refl) (owed_by sum name))
left_owed sum name (i ∷ items) here = settled_owed sum name (i ∷ items) here

left_streams : (sum : Sum) (name : List ℕ) (items : List SettledItem)
    → (sum_of sum (option_to_list (settled_fact name items))).parts.streams ≡ sum.parts.streams
left_streams sum name [] = refl
left_streams sum name (i ∷ items) = streams_same name (i ∷ items) sum.parts.streams

-- ---- what is offered of it

or_false : (b : Bool) → (b || false) ≡ b
or_false true = refl
or_false false = refl

offers_same : (sid : List ℕ) (published : List Publication) (s : Stream) (d : Debt) → offers s.status (made_of sid published s d) ≡ offering.offers published s d
offers_same sid published s d = ap (λ b. is_enabled s.status || b) (or_false (is_update (news_of published s.conf.stream d.said).event))

open_tokens : (sid : List ℕ) (published : List Publication) (s : Stream) (items : List SettledItem) (ds : List Debt)
    → filter (offers s.status) (filter (unnamed items) (map (made_of sid published s) ds)) ≡ map (made_of sid published s) (open_debts published s items ds)
open_tokens sid published s items [] = refl
open_tokens sid published s items (d ∷ ds) =
    let m : Debt → Made = made_of sid published s in
    let rest : List Made = filter (unnamed items) (map m ds) in
    let more : filter (offers s.status) rest ≡ map m (open_debts published s items ds) = open_tokens sid published s items ds in
    elim (not (names_number d.number items)) as (λ b. filter (offers s.status) (if b then m d ∷ rest else rest)
    ≡ map m (if b && offering.offers published s d then d ∷ open_debts published s items ds else open_debts published s items ds)) [
      | true ↦ ap (λ b. if b then m d ∷ filter (offers s.status) rest else filter (offers s.status) rest) (offers_same sid published s d)
          ∙ (elim (offering.offers published s d) as (λ b. (if b then m d ∷ filter (offers s.status) rest else filter (offers s.status) rest)
          ≡ map m (if b then d ∷ open_debts published s items ds else open_debts published s items ds)) [
            | true ↦ ap (λ l. m d ∷ l) more
            | false ↦ more
          ])
      | false ↦ more
    ]

-- what a stream offers once these items are settled
pub offered_left : (b : Books) (name : List ℕ) (o : Owing) (items : List SettledItem) → Some o ≡ owing_named name b.owings
    → offered_by (sum_of (sum_in b) (option_to_list (settled_fact name items))) name
    ≡ map (made_of b.store_id b.published o.stream) (open_debts b.published o.stream items o.owed)
offered_left b name o items is =
    let after : Sum = sum_of (sum_in b) (option_to_list (settled_fact name items)) in
    ap (λ ss. option_map_or (λ (s : Stream). filter (offers s.status) (owed_by after name)) (stream_named name ss) []) (left_streams (sum_in b) name items)
    ∙ ap (λ found. option_map_or (λ (s : Stream). filter (offers s.status) (owed_by after name)) found []) (named_is b name (Some o) is)
    ∙ ap (filter (offers o.stream.status)) (left_owed (sum_in b) name items (found_stands b name o (sym is)))
    ∙ ap (λ l. filter (offers o.stream.status) (filter (unnamed items) l)) (found_owed b name o (sym is))
    ∙ open_tokens b.store_id b.published o.stream items o.owed

-- what it offers as it is
pub offered_all : (b : Books) (name : List ℕ) (o : Owing) → Some o ≡ owing_named name b.owings
    → offered_by (sum_in b) name ≡ map (made_of b.store_id b.published o.stream) (open_debts b.published o.stream [] o.owed)
offered_all b name o is =
    ap (λ found. option_map_or (λ (s : Stream). filter (offers s.status) (owed_by (sum_in b) name)) found []) (named_is b name (Some o) is)
    ∙ ap (filter (offers o.stream.status)) (sym (filter_all (unnamed []) (λ t. refl) (owed_by (sum_in b) name)))
    ∙ ap (λ l. filter (offers o.stream.status) (filter (unnamed []) l)) (found_owed b name o (sym is))
    ∙ open_tokens b.store_id b.published o.stream [] o.owed
