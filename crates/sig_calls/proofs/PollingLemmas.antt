-- A poll.
use Rattle.std.proofs.Common.{◌≡◌, ◌∙◌, ap, sym, subst, ℕ, List, [], ◌∷◌, true, false, ◌&&◌, ◌==◌, Option, Some, None, is_none, bytes_eq, if◌then◌else◌, refl, inl, inr}
use Rattle.std.specs.Prelude.{All, Contains, ◌⊎◌}
use Rattle.std.specs.List.{cons_option, list_any}
use Rattle.std.proofs.lemmas.Bool.{and_from, and_parts, eq-eqb, eqb-true, not_from_false, or_cases, or_from, or_left, or_parts, or_right}
use Rattle.std.proofs.lemmas.List.Elements.{All-contains, All-head, All-tail, All-weaker}
use Rattle.sig_terms.specs.Deliveries.{is_push}
use Rattle.sig_terms.specs.declared.rules.Rules.{Rules}
use Rattle.sig_terms.specs.declared.answer.Answer.TheVariants as answer
use Rattle.sig_terms.specs.declared.call.Call.TheVariants.{Poll}
use Rattle.sig_terms.specs.declared.call.PollAsk.{PollAsk}
use Rattle.sig_terms.specs.declared.fact.SettledItem.{SettledItem}
use Rattle.sig_history.specs.Streams.{Stream, Made, jti_of, stands}
use Rattle.sig_history.specs.Owed.{Sum, names_number, owed_by}
use Rattle.sig_history.specs.Sound.{are_owed, has_number}
use Rattle.sig_history.specs.Whole.{IsOwnToken, IsWhole}
use Rattle.sig_calls.specs.Polling.{page_size, polled, polled_answer, polled_change, polling, refused_as, refused_item, settled_item, settled_items}
use Rattle.sig_calls.specs.Regular.{acks}
use Rattle.sig_calls.specs.Settling.{keeps}
use Rattle.sig_calls.specs.Told.{only, with_change}
use Rattle.sig_history.proofs.StreamLemmas.{same_text}
use Rattle.sig_calls.proofs.FoundLemmas.{client_lawful}
use Rattle.sig_calls.proofs.OfferedLemmas.{page_owed}
use Rattle.sig_calls.proofs.OwedLemmas.{IsEachOnce, each_number_once, owns}
use Rattle.sig_calls.proofs.SettledLemmas.{AreOf, IsSettlement, is_clear, settled_acked, settled_fits, settled_lawful}
use Rattle.sig_calls.proofs.ToldLemmas.{IsLawful, only_lawful}

-- ---- items of tokens that are owed

-- the item of a token has its number, where there is one
abbrev IsItemOf : ℕ → Option SettledItem → Type 0
IsItemOf number o = (o ≡ None) ⊎ ((code : Option (List ℕ)) × (o ≡ Some (record { number = number; code = code })))

refused_of : (number : ℕ) (o : Option (List ℕ)) → IsItemOf number (refused_item number o)
refused_of number None = inl refl
refused_of number (Some code) =
    elim (keeps code) as (λ b. IsItemOf number (if b then None else Some (record { number = number; code = Some code }))) [
      | true ↦ inl refl
      | false ↦ inr (Some code, refl)
    ]

item_of : (ask : PollAsk) (t : Made) → IsItemOf t.number (settled_item ask t)
item_of ask t =
    elim (list_any (bytes_eq t.claims.jti) ask.acks) as (λ b. IsItemOf t.number
    (if b then Some (record { number = t.number; code = None }) else refused_item t.number (refused_as t.claims.jti ask.errors))) [
      | true ↦ inr (None, refl)
      | false ↦ refused_of t.number (refused_as t.claims.jti ask.errors)
    ]

unnamed : (ask : PollAsk) (n : ℕ) (ts : List Made) → has_number n ts ≡ false → names_number n (settled_items ask ts) ≡ false
unnamed ask n [] h = refl
unnamed ask n (t ∷ ts) h =
    let parts = or_parts (t.number == n) (has_number n ts) h in
    elim (item_of ask t) [
      | inl none ↦ rw none (unnamed ask n ts parts.1)
      | inr one ↦ rw one.1 (or_from (t.number == n) (names_number n (settled_items ask ts)) parts.0 (unnamed ask n ts parts.1))
    ]

more_owed : (t : Made) (ts : List Made) (items : List SettledItem) → are_owed items ts ≡ true → are_owed items (t ∷ ts) ≡ true
more_owed t ts [] h = refl
more_owed t ts (i ∷ items) h =
    let both = and_parts (has_number i.number ts) (are_owed items ts) h in
    and_from _ _ (or_right (t.number == i.number) (has_number i.number ts) both.0) (more_owed t ts items both.1)

polled_of : (ask : PollAsk) (ts : List Made) → IsEachOnce ts → AreOf ts (settled_items ask ts)
polled_of ask [] once = record { owed = refl; once = refl }
polled_of ask (t ∷ ts) once =
    let rest : AreOf ts (settled_items ask ts) = polled_of ask ts once.1 in
    let owed : are_owed (settled_items ask ts) (t ∷ ts) ≡ true = more_owed t ts (settled_items ask ts) rest.owed in
    elim (item_of ask t) [
      | inl none ↦ rw none (record { owed = owed; once = rest.once })
      | inr one ↦ rw one.1 (record {
        owed = and_from _ _ (or_left (t.number == t.number) (has_number t.number ts) (eq-eqb t.number t.number refl)) owed;
        once = and_from _ _ (not_from_false _ (unnamed ask t.number ts once.0)) rest.once;
      })
    ]

-- ---- what counts as acknowledged

item_clear : (number wanted : ℕ) (code : Option (List ℕ)) (items : List SettledItem)
    → list_any (is_clear wanted) (record { number = number; code = code } ∷ items) ≡ true
    → ((number ≡ wanted) × (is_none code ≡ true)) ⊎ (list_any (is_clear wanted) items ≡ true)
item_clear number wanted code items h = elim (or_cases ((number == wanted) && is_none code) (list_any (is_clear wanted) items) h) [
  | inl this ↦ let both = and_parts (number == wanted) (is_none code) this in inl (eqb-true number wanted both.0, both.1)
  | inr later ↦ inr later
]

refused_clear : (number wanted : ℕ) (o : Option (List ℕ)) (rest : List SettledItem)
    → list_any (is_clear wanted) (cons_option (refused_item number o) rest) ≡ true → list_any (is_clear wanted) rest ≡ true
refused_clear number wanted None rest h = h
refused_clear number wanted (Some code) rest h =
    elim (keeps code) as (λ b. list_any (is_clear wanted) (cons_option (if b then None else Some (record { number = number; code = Some code })) rest) ≡ true
    → list_any (is_clear wanted) rest ≡ true) [
      | true ↦ λ later. later
      | false ↦ λ this. elim (item_clear number wanted (Some code) rest this) [ inl e ↦ cc e.1 | inr later ↦ later ]
    ] h

-- what follows from a token of this number that was acknowledged
abbrev Follows : Type 0 → PollAsk → ℕ → Made → Type 0
Follows P ask number t = t.number ≡ number → list_any (bytes_eq t.claims.jti) ask.acks ≡ true → P

clear_polled : (P : Type 0) (ask : PollAsk) (number : ℕ) (ts : List Made) → All (Follows P ask number) ts
    → list_any (is_clear number) (settled_items ask ts) ≡ true → P
clear_polled P ask number [] all h = cc h
clear_polled P ask number (t ∷ ts) all h =
    let refused : Option (List ℕ) = refused_as t.claims.jti ask.errors in
    let rest : All (Follows P ask number) ts = All-tail (Follows P ask number) t ts all in
    elim (list_any (bytes_eq t.claims.jti) ask.acks) as (λ b. list_any (bytes_eq t.claims.jti) ask.acks ≡ b
    → list_any (is_clear number)
    (cons_option (if b then Some (record { number = t.number; code = None }) else refused_item t.number refused) (settled_items ask ts)) ≡ true
    → P) [
      | true ↦ λ acked this. elim (item_clear t.number number None (settled_items ask ts) this) [
        | inl e ↦ All-head (Follows P ask number) t ts all e.0 acked
        | inr later ↦ clear_polled P ask number ts rest later
      ]
      | false ↦ λ unacked this. clear_polled P ask number ts rest (refused_clear t.number number refused (settled_items ask ts) this)
    ] refl h

-- two tokens of a stream with one number have one identifier
same_jti : (store name : List ℕ) (a b : Made) → IsOwnToken store name a → IsOwnToken store name b → a.number ≡ b.number → a.claims.jti ≡ b.claims.jti
same_jti store name a b first second same = first.jti ∙ ap (jti_of store name) same ∙ sym second.jti

polled_acked : (sum : Sum) (client stream : List ℕ) (ask : PollAsk) (m : Made) → IsWhole sum → Contains (owed_by sum m.stream) m
    → bytes_eq stream m.stream ≡ true → list_any (is_clear m.number) (settled_items ask (owed_by sum stream)) ≡ true
    → acks (Poll client stream ask) m ≡ true
polled_acked sum client stream ask m whole there named counts =
    let same : stream ≡ m.stream = same_text stream m.stream named in
    let store : List ℕ = sum.parts.store_id in
    let own : IsOwnToken store stream m =
    subst (λ n. IsOwnToken store n m) (sym same) (All-contains (IsOwnToken store m.stream) (owed_by sum m.stream) m (owns sum m.stream whole) there) in
    clear_polled (acks (Poll client stream ask) m ≡ true) ask m.number (owed_by sum stream)
    (All-weaker (IsOwnToken store stream) (Follows (acks (Poll client stream ask) m ≡ true) ask m.number)
    (λ t h number acked. and_from _ _ named (subst (λ j. list_any (bytes_eq j) ask.acks ≡ true) (same_jti store stream t m h own number) acked))
    (owed_by sum stream) (owns sum stream whole))
    counts

-- ---- the call

polled_settles : (sum : Sum) (client stream : List ℕ) (ask : PollAsk) (s : Stream) → stands stream sum.parts.streams ≡ true → IsWhole sum
    → IsSettlement sum (Poll client stream ask) (polled_answer sum stream ask s) (polled_change sum stream ask)
polled_settles sum client stream ask s here whole =
    let items : List SettledItem = settled_items ask (owed_by sum stream) in
    record {
      fits = settled_fits sum stream items here (polled_of ask (owed_by sum stream) (each_number_once sum stream whole));
      hands = page_owed sum stream (polled_change sum stream ask) s.conf.delivery (page_size ask) whole;
      acked = settled_acked sum (Poll client stream ask) stream items (λ m there named counts. polled_acked sum client stream ask m whole there named counts);
    }

pub polling_lawful : (rules : Rules) (sum : Sum) (client stream : List ℕ) (ask : PollAsk) (now : ℕ)
    → IsLawful rules sum (Poll client stream ask) now (polling sum client stream ask)
polling_lawful rules sum client stream ask now =
    client_lawful rules sum (Poll client stream ask) now client stream (polled sum stream ask)
    (λ s here. elim (is_push s.conf.delivery) as (λ b. IsLawful rules sum (Poll client stream ask) now
    (if b then only answer.NotFound else with_change (polled_answer sum stream ask s) (polled_change sum stream ask))) [
      | true ↦ only_lawful rules sum (Poll client stream ask) now answer.NotFound refl
      | false ↦ settled_lawful rules sum (Poll client stream ask) now (polled_answer sum stream ask s) stream (settled_items ask (owed_by sum stream))
          (polled_settles sum client stream ask s here)
    ])
