-- The endpoint of a want that was read is read of its URL, and its authorization is a field's text.
use Rattle.std.proofs.Common.{◌≡◌, ◌∙◌, ap, sym, subst, List, ℕ, Bool, true, false, not, ◌||◌, Option, Some, None, IfSome, Result, Ok, Err, if◌then◌else◌, refl}
use Rattle.std.specs.Prelude.{ok_or, option_and_then, codes}
use Rattle.serde_json.specs.Data.{Data}
use Rattle.serde_json.specs.Find.{as_str}
use Rattle.sig_json.specs.Answers.{result_map}
use Rattle.sig_json.specs.Json.{member_of, text_member}
use Rattle.sig_json.specs.Members.{is_object}
use Rattle.sig_terms.specs.declared.endpoint.Endpoint.{Endpoint}
use Rattle.sig_terms.specs.declared.want.Delivery.{Delivery}
use Rattle.sig_terms.specs.declared.want.Delivery.TheVariants.{Poll, Push}
use Rattle.sig_terms.specs.declared.want.Want.{Want}
use Rattle.sig_stream.specs.declared.want_fault.WantFault.{WantFault}
use Rattle.sig_stream.specs.declared.want_fault.WantFault.TheVariants as fault
use Rattle.sig_stream.specs.Steps.{◌>>=◌, where_given}
use Rattle.sig_stream.specs.Wants.{delivery_at, delivery_by, endpoint_in, field_at, field_of, if_reached, is_field, is_text, poll_method, push_method, push_of, reached, text_at, texts_at, want_by, want_of}

-- ---- steps that gave something

then_ok : {A B E : Type 0} (r : Result A E) (f : A → Result B E) (y : B) → (r >>= f) ≡ Ok y → (x : A) × (r ≡ Ok x) × (f x ≡ Ok y)
then_ok (Ok x) f y h = (x, refl, h)
then_ok (Err e) f y h = cc

or_some : {T E : Type 0} (o : Option T) (e : E) (x : T) → ok_or o e ≡ Ok x → o ≡ Some x
or_some None e x h = cc
or_some (Some y) e x h = cc

then_some : {A B : Type 0} (f : A → Option B) (o : Option A) (y : B) → option_and_then f o ≡ Some y → (x : A) × (o ≡ Some x) × (f x ≡ Some y)
then_some f None y h = cc
then_some f (Some x) y h = (x, refl, h)

same_ok : {T E : Type 0} (x y : T) → ◌≡◌ {A = Result T E} (Ok x) (Ok y) → x ≡ y
same_ok x y h = cc

given_ok : {T E : Type 0} (P : T → Type 0) (read : Data → Result T E) (o : Option Data) (x : Option T)
    → ((d : Data) (t : T) → read d ≡ Ok t → P t) → where_given read o ≡ Ok x → IfSome x P
given_ok {T = T} {E = E} P read None x each h = subst (λ (y : Option T). IfSome y P) (same_ok {T = Option T} {E = E} None x h) tt
given_ok {T = T} {E = E} P read (Some d) x each h = by (read d) refl h
  where
    by : (r : Result T E) → read d ≡ r → result_map (λ t. Some t) r ≡ Ok x → IfSome x P
    by (Ok t) is done = subst (λ (y : Option T). IfSome y P) (same_ok {T = Option T} {E = E} (Some t) x done) (each d t is)
    by (Err e) is done = cc

-- ---- the delivery

-- the URL spells the endpoint, which a gateway reaches, and the authorization is the text of a field
pub record IsRead (endpoint : Endpoint) (url : List ℕ) (authorization : Option (List ℕ)) : Type 0 where
  pub spelled : reached true url ≡ Some endpoint
  pub shown : IfSome authorization (λ text. is_field text ≡ true)

abbrev pub IsReadDelivery : Delivery → Type 0
IsReadDelivery Poll = Unit {0}
IsReadDelivery (Push endpoint url authorization) = IsRead endpoint url authorization

field_is : (t : Bool) (text s : List ℕ) → is_field text ≡ t → ◌≡◌ {A = Option (List ℕ)} (if t then Some text else None) (Some s) → is_field s ≡ true
field_is true text s passes h = let same : text ≡ s = cc in subst (λ u. is_field u ≡ true) same passes
field_is false text s passes h = cc h

field_read : (name : List ℕ) (d : Data) (s : List ℕ) → field_at name d ≡ Ok s → is_field s ≡ true
field_read name d s h =
    let (text, str, field) = then_some field_of (as_str d) s (or_some (option_and_then field_of (as_str d)) (fault.Member name) s h) in
    field_is (is_field text) text s refl field

reached_is : (t : Bool) (e f : Endpoint) → ◌≡◌ {A = Option Endpoint} (if t then Some e else None) (Some f) → e ≡ f
reached_is true e f h = cc
reached_is false e f h = cc

with_gateway : (e : Endpoint) → if_reached true e ≡ Some e
with_gateway e = by (not e.secure)
  where
    by : (b : Bool) → (if b || true then Some e else None) ≡ Some e
    by true = refl
    by false = refl

reached_too : (gateway : Bool) (url : List ℕ) (e : Endpoint) → reached gateway url ≡ Some e → reached true url ≡ Some e
reached_too gateway url e h =
    let (f, given, here) = then_some (if_reached gateway) (endpoint_in url) e h in
    ap (option_and_then (if_reached true)) given ∙ with_gateway f ∙ ap (λ (g : Endpoint). Some g) (reached_is (not f.secure || gateway) f e here)

push_read : (gateway : Bool) (d : Data) (delivery : Delivery) → push_of gateway d ≡ Ok delivery → IsReadDelivery delivery
push_read gateway d delivery h =
    let (url, at, rest) = then_ok (ok_or (text_member (codes "endpoint_url") d) fault.Endpoint) _ delivery h in
    let (endpoint, goes, last) = then_ok (ok_or (reached gateway url) fault.Endpoint) _ delivery rest in
    let (authorization, shown, made) = then_ok (where_given (field_at (codes "authorization_header")) (member_of (codes "authorization_header") d)) _ delivery last in
    subst IsReadDelivery (same_ok {T = Delivery} {E = WantFault} (Push endpoint url authorization) delivery made)
    (record {
      spelled = reached_too gateway url endpoint (or_some (reached gateway url) fault.Endpoint endpoint goes);
      shown = given_ok (λ text. is_field text ≡ true) (field_at (codes "authorization_header")) (member_of (codes "authorization_header") d) authorization
          (λ e s read. field_read (codes "authorization_header") e s read) shown;
    })

poll_read : (delivery : Delivery) → ◌≡◌ {A = Result Delivery WantFault} (Ok Poll) (Ok delivery) → IsReadDelivery delivery
poll_read delivery h = subst IsReadDelivery (same_ok {T = Delivery} {E = WantFault} Poll delivery h) tt

method_read : (gateway : Bool) (d : Data) (method : Option Data) (delivery : Delivery) → delivery_by gateway d method ≡ Ok delivery → IsReadDelivery delivery
method_read gateway d None delivery h = poll_read delivery h
method_read gateway d (Some method) delivery h = by (is_text push_method method) (is_text poll_method method) h
  where
    by : (push poll : Bool) → (if push then push_of gateway d else if poll then Ok Poll else Err fault.Method) ≡ Ok delivery → IsReadDelivery delivery
    by true poll is = push_read gateway d delivery is
    by false true is = poll_read delivery is
    by false false is = cc

delivery_read : (gateway : Bool) (d : Data) (delivery : Delivery) → delivery_at gateway d ≡ Ok delivery → IsReadDelivery delivery
delivery_read gateway d delivery h = by (is_object d) h
  where
    by : (t : Bool) → (if t then delivery_by gateway d (member_of (codes "method") d) else Err (fault.Member (codes "delivery"))) ≡ Ok delivery
        → IsReadDelivery delivery
    by true is = method_read gateway d (member_of (codes "method") d) delivery is
    by false is = cc

-- ---- the want

want_read : (gateway : Bool) (body : Data) (want : Want) → want_by gateway body ≡ Ok want → IfSome want.delivery IsReadDelivery
want_read gateway body want h =
    let sent : Option Data = member_of (codes "delivery") body in
    let said : Option Data = member_of (codes "description") body in
    let asked : Option Data = member_of (codes "events_requested") body in
    let (delivery, one, rest) = then_ok (where_given (delivery_at gateway) sent) _ want h in
    let (description, two, last) = then_ok (where_given (text_at (codes "description")) said) _ want rest in
    let (requested, three, made) = then_ok (where_given (texts_at (codes "events_requested")) asked) _ want last in
    subst (λ (w : Want). IfSome w.delivery IsReadDelivery)
    (same_ok {T = Want} {E = WantFault} (record { requested = requested; delivery = delivery; description = description }) want made)
    (given_ok IsReadDelivery (delivery_at gateway) sent delivery (λ d t read. delivery_read gateway d t read) one)

pub body_read : (gateway : Bool) (body : Data) (want : Want) → want_of gateway body ≡ Ok want → IfSome want.delivery IsReadDelivery
unfolding want_of
body_read gateway body want h = by (is_object body) h
  where
    by : (t : Bool) → (if t then want_by gateway body else Err (fault.Member (codes "body"))) ≡ Ok want → IfSome want.delivery IsReadDelivery
    by true is = want_read gateway body want is
    by false is = cc
