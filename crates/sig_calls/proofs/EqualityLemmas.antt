-- Configurations with the same settings are one, where the rest is.
use Rattle.std.proofs.Common.{◌≡◌, ◌∙◌, ap, ℕ, List, Bool, true, false, Option, Some, None, bytes_eq, refl}
use Rattle.std.specs.Bool.{beq}
use Rattle.std.specs.Cmp.Lexicographic.{pointwise}
use Rattle.std.specs.Option.{option_eq}
use Rattle.std.proofs.lemmas.Bool.{and_parts, eqb-true}
use Rattle.std.proofs.lemmas.Slice.Eq.{bytes_eq-Decides, slice_eq-Decides}
use Rattle.sig_event.specs.declared.status.Status.{Status}
use Rattle.sig_event.specs.declared.status.Status.TheVariants.{Enabled, Paused, Disabled}
use Rattle.sig_terms.specs.declared.configuration.StreamConf.{StreamConf}
use Rattle.sig_terms.specs.declared.endpoint.Endpoint.{Endpoint}
use Rattle.sig_terms.specs.declared.want.Delivery.{Delivery}
use Rattle.sig_terms.specs.declared.want.Delivery.TheVariants.{Poll, Push}
use Rattle.sig_history.specs.Facts.{configured}
use Rattle.sig_calls.specs.Equality.{delivery_eq, endpoint_eq, same_settings, status_eq}

pub status_same : (a b : Status) → status_eq a b ≡ true → a ≡ b
status_same Enabled Enabled h = refl
status_same Enabled Paused h = cc h
status_same Enabled Disabled h = cc h
status_same Paused Enabled h = cc h
status_same Paused Paused h = refl
status_same Paused Disabled h = cc h
status_same Disabled Enabled h = cc h
status_same Disabled Paused h = cc h
status_same Disabled Disabled h = refl

beq_same : (a b : Bool) → beq a b ≡ true → a ≡ b
beq_same true true h = refl
beq_same true false h = cc h
beq_same false true h = cc h
beq_same false false h = refl

text_same : (a b : List ℕ) → bytes_eq a b ≡ true → a ≡ b
text_same a b h = (bytes_eq-Decides a b).0 h

texts_same : (a b : List (List ℕ)) → pointwise bytes_eq a b ≡ true → a ≡ b
texts_same a b h = (slice_eq-Decides bytes_eq-Decides a b (pointwise bytes_eq a b) refl).0 h

option_same : {T : Type 0} (E : T → T → Bool) (a b : Option T) → ((x y : T) → E x y ≡ true → x ≡ y) → option_eq E a b ≡ true → a ≡ b
option_same E None None each h = refl
option_same E None (Some y) each h = cc h
option_same E (Some x) None each h = cc h
option_same E (Some x) (Some y) each h = ap (λ z. Some z) (each x y h)

endpoint_same : (a b : Endpoint) → endpoint_eq a b ≡ true → a ≡ b
endpoint_same a b h =
    let three = and_parts _ _ h in
    let two = and_parts _ _ three.0 in
    let one = and_parts _ _ two.0 in
    let secure : a.secure ≡ b.secure = beq_same a.secure b.secure one.0 in
    let host : a.place.host ≡ b.place.host = text_same a.place.host b.place.host one.1 in
    let port : a.place.port ≡ b.place.port = eqb-true a.place.port b.place.port two.1 in
    let path : a.path ≡ b.path = text_same a.path b.path three.1 in
    ap (λ x. record { secure = x; place = a.place; path = a.path }) secure
    ∙ ap (λ x. record { secure = b.secure; place = record { host = x; port = a.place.port }; path = a.path }) host
    ∙ ap (λ x. record { secure = b.secure; place = record { host = b.place.host; port = x }; path = a.path }) port
    ∙ ap (λ x. record { secure = b.secure; place = b.place; path = x }) path

delivery_same : (a b : Delivery) → delivery_eq a b ≡ true → a ≡ b
delivery_same Poll Poll h = refl
delivery_same Poll (Push endpoint url authorization) h = cc h
delivery_same (Push endpoint url authorization) Poll h = cc h
delivery_same (Push e u t) (Push f v w) h =
    let two = and_parts _ _ h in
    let one = and_parts _ _ two.0 in
    ap (λ x. Push x u t) (endpoint_same e f one.0) ∙ ap (λ x. Push f x t) (text_same u v one.1)
    ∙ ap (λ x. Push f v x) (option_same bytes_eq t w text_same two.1)

-- a configuration that is set to what it has is as before
pub settings_same : (requested : Option (List (List ℕ))) (d : Delivery) (description : Option (List ℕ)) (c : StreamConf)
    → same_settings c (configured requested d description c) ≡ true → c ≡ configured requested d description c
settings_same requested d description c h =
    let two = and_parts _ _ h in
    let one = and_parts _ _ two.0 in
    ap (λ x. configured x c.delivery c.description c) (option_same (pointwise bytes_eq) c.requested requested texts_same one.0)
    ∙ ap (λ x. configured requested x c.description c) (delivery_same c.delivery d one.1)
    ∙ ap (λ x. configured requested d x c) (option_same bytes_eq c.description description text_same two.1)
