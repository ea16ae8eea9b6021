-- Texts of ASCII characters, among them the URIs of events that are published.
use Rattle.std.proofs.Common.{◌≡◌, subst, ℕ, zero, suc, ◌<◌, Bool, true, false, List, [], ◌∷◌, Some, IsUtf8, bytes_eq, if◌then◌else◌, refl, arith}
use Rattle.std.specs.Prelude.{find, nat_lt}
use Rattle.std.specs.List.{list_all}
use Rattle.std.specs.Str.{IsAscii}
use Rattle.std.proofs.lemmas.Bool.{and_parts, ltb-true}
use Rattle.std.proofs.lemmas.Str.{IsUtf8-from_ascii}
use Rattle.sig_json.specs.Listed.{listed}
use Rattle.sig_event.specs.declared.event.Event.{Event}
use Rattle.sig_event.specs.declared.event.Event.TheVariants as event
use Rattle.sig_event.specs.declared.event_type.EventType.{EventType}
use Rattle.sig_event.specs.Events.{type_of_event, uri_of}
use Rattle.sig_event.specs.Types.{event_types, is_published, published_types, uri_of_type}
use Rattle.sig_event.proofs.ReadsEvents.{uri_found}

pub ascii_more : (b : ℕ) (bs : List ℕ) → b < 128 → IsAscii bs → IsAscii (b ∷ bs)
ascii_more b bs low rest zero = low
ascii_more b bs low rest (suc i) = rest i

pub ascii_none : IsAscii []
ascii_none i = omega arith

low_ascii : (text : List ℕ) → list_all (λ b. nat_lt b 128) text ≡ true → IsAscii text
low_ascii [] h = ascii_none
low_ascii (b ∷ bs) h =
    let both = and_parts (nat_lt b 128) (list_all (λ c. nat_lt c 128) bs) h in
    ascii_more b bs (ltb-true b 128 both.0) (low_ascii bs both.1)

-- ---- URIs

-- what is found among values that pass a test passes it
found_passes : {T : Type 0} (p q : T → Bool) (xs : List T) (x : T) → list_all q xs ≡ true → find p xs ≡ Some x → q x ≡ true
found_passes p q [] x all is = cc is
found_passes p q (y ∷ ys) x all is =
    let both = and_parts (q y) (list_all q ys) all in
    elim (p y) as (λ b. (if b then Some y else find p ys) ≡ Some x → q x ≡ true) [
      | true ↦ λ this. let same : y ≡ x = cc in subst (λ z. q z ≡ true) same both.0
      | false ↦ λ later. found_passes p q ys x both.1 later
    ] is

pub known_utf8 : (type : EventType) → IsUtf8 (uri_of_type type)
unfolding uri_of_type event_types published_types listed
known_utf8 type =
    let low : List ℕ → Bool = list_all (λ b. nat_lt b 128) in
    IsUtf8-from_ascii (uri_of_type type) (low_ascii (uri_of_type type)
    (found_passes (λ t. bytes_eq (uri_of_type type) (uri_of_type t)) (λ t. low (uri_of_type t)) event_types type refl (uri_found type)))

pub published_utf8 : (e : Event) → is_published (type_of_event e) ≡ true → IsUtf8 (uri_of e)
published_utf8 (event.Caep e) h = known_utf8 _
published_utf8 (event.Risc e) h = known_utf8 _
published_utf8 (event.Verification state) h = known_utf8 _
published_utf8 (event.StreamUpdated status reason) h = known_utf8 _
published_utf8 (event.Other uri) h = cc h
