-- What is wanted in a text is no larger than a few times the text, and its endpoint is read of its url.
use Rattle.std.proofs.Common.{◌≡◌, ◌∙◌, ap, subst, List, ◌∷◌, ℕ, ◌+◌, ◌≤◌, Bool, true, false, not, ◌||◌, Option, Some, None, IfSome, Result, Ok, Err, length, if◌then◌else◌, refl, arith}
use Rattle.std.specs.Prelude.{ok_or, option_and_then, option_map, codes}
use Rattle.std.proofs.lemmas.List.Sums.{sum_by-cons}
use Rattle.serde_json.specs.Data.{Data, null, boolean, number, string, array, object, Items, no_items, item}
use Rattle.serde_json.specs.Find.{as_array, as_str}
use Rattle.sig_json.specs.Answers.{result_map}
use Rattle.sig_json.specs.Json.{member_of, text_member}
use Rattle.sig_json.specs.Members.{is_object}
use Rattle.sig_json.specs.declared.limits.TheConstants.{REQUEST_BODY_BYTES}
use Rattle.sig_terms.specs.declared.endpoint.Endpoint.{Endpoint}
use Rattle.sig_terms.specs.declared.want.Delivery.{Delivery}
use Rattle.sig_terms.specs.declared.want.Delivery.TheVariants.{Poll, Push}
use Rattle.sig_terms.specs.declared.want.Want.{Want}
use Rattle.sig_stream.specs.declared.want_fault.WantFault.{WantFault}
use Rattle.sig_stream.specs.declared.want_fault.WantFault.TheVariants as fault
use Rattle.sig_stream.specs.Endpoints.{endpoint_of}
use Rattle.sig_stream.specs.Steps.{◌>>=◌, where_given}
use Rattle.sig_stream.specs.Wants.{delivery_at, delivery_by, endpoint_in, field_at, field_of, if_reached, is_endpoint_url, is_field, is_text, poll_method, push_method, push_of, reached, text_at, text_before, texts_at, texts_of, want_by, want_of}
use Rattle.sig_history.specs.Sizes.{bytes_of, delivery_bytes, given_bytes, requested_bytes, requested_items}
use Rattle.sig_calls.specs.Proper.{IsProperWant, IsSpelled, wanted_bytes}
use Rattle.sig_bounds.specs.Sizes.{data_size, items_size}
use Rattle.sig_bounds.specs.Wants.{WantsAreProper}
use Rattle.sig_bounds.proofs.DataSizes.{found_small, texts_small}

-- ---- steps that gave something

then_ok : {A B E : Type 0} (r : Result A E) (f : A → Result B E) (y : B) → (r >>= f) ≡ Ok y → (x : A) × (r ≡ Ok x) × (f x ≡ Ok y)
then_ok (Ok x) f y h = (x, refl, h)
then_ok (Err e) f y h = cc

or_some : {T E : Type 0} (o : Option T) (e : E) (x : T) → ok_or o e ≡ Ok x → o ≡ Some x
or_some None e x h = cc
or_some (Some y) e x h = cc

then_some : {A B : Type 0} (f : A → Option B) (o : Option A) (y : B) → option_and_then f o ≡ Some y → (x : A) × (o ≡ Some x) × (f x ≡ Some y)
then_some f None y h = cc
then_some f (Some x) y h = (x, refl, h)

same_ok : {T E : Type 0} (x y : T) → ◌≡◌ {A = Result T E} (Ok x) (Ok y) → x ≡ y
same_ok x y h = cc

-- what is read of a member that is given, where it is
given_ok : {T E : Type 0} (P : T → Type 0) (read : Data → Result T E) (o : Option Data) (x : Option T)
    → ((d : Data) (t : T) → o ≡ Some d → read d ≡ Ok t → P t) → where_given read o ≡ Ok x → IfSome x P
given_ok {T = T} {E = E} P read None x each h = subst (λ (y : Option T). IfSome y P) (same_ok {T = Option T} {E = E} None x h) tt
given_ok {T = T} {E = E} P read (Some d) x each h = by (read d) refl h
  where
    by : (r : Result T E) → read d ≡ r → result_map (λ t. Some t) r ≡ Ok x → IfSome x P
    by (Ok t) is done = subst (λ (y : Option T). IfSome y P) (same_ok {T = Option T} {E = E} (Some t) x done) (each d t refl is)
    by (Err e) is done = cc

-- ---- sizes of what is read

text_small : (d : Data) (s : List ℕ) → as_str d ≡ Some s → length s + 1 ≤ data_size d
text_small null s h = cc
text_small (boolean b) s h = cc
text_small (number n) s h = cc
text_small (string t) s h = let same : t ≡ s = cc in subst (λ u. length u + 1 ≤ length t + 1) same (omega arith)
text_small (array ds) s h = cc
text_small (object ms) s h = cc

member_small : (name : List ℕ) (d e : Data) → member_of name d ≡ Some e → data_size e ≤ data_size d
member_small name d e is = subst (λ o. IfSome o (λ f. data_size f ≤ data_size d)) is (found_small name d)

-- the bytes and the number of the texts of a list
abbrev AreSmall : ℕ → List (List ℕ) → Type 0
AreSmall n texts = bytes_of texts + length texts ≤ n

list_small : (ds : Items) → IfSome (texts_of ds) (AreSmall (items_size ds))
list_small no_items = omega arith
list_small (item d ds) =
    elim (as_str d) as (λ o. as_str d ≡ o → IfSome (text_before o (texts_of ds)) (AreSmall (items_size (item d ds)))) [
      | None ↦ λ is. tt
      | Some s ↦ λ is. elim (texts_of ds) as (λ o. IfSome o (AreSmall (items_size ds)) → IfSome (option_map (λ ts. s ∷ ts) o) (AreSmall (items_size (item d ds)))) [
        | None ↦ λ h. tt
        | Some ts ↦ λ h. omega (arith, text_small d s is, sum_by-cons length s ts)
      ] (list_small ds)
    ] refl

array_small : (d : Data) (ds : Items) → as_array d ≡ Some ds → items_size ds ≤ data_size d
array_small null ds h = cc
array_small (boolean b) ds h = cc
array_small (number n) ds h = cc
array_small (string t) ds h = cc
array_small (array es) ds h = let same : es ≡ ds = cc in subst (λ fs. items_size fs ≤ items_size es) same (omega arith)
array_small (object ms) ds h = cc

text_read : (name : List ℕ) (d : Data) (s : List ℕ) → text_at name d ≡ Ok s → length s ≤ data_size d
text_read name d s h = omega (arith, text_small d s (or_some (as_str d) (fault.Member name) s h))

texts_read : (name : List ℕ) (d : Data) (ts : List (List ℕ)) → texts_at name d ≡ Ok ts → AreSmall (data_size d) ts
texts_read name d ts h =
    let (ds, listed, texts) = then_some texts_of (as_array d) ts (or_some (option_and_then texts_of (as_array d)) (fault.Member name) ts h) in
    let few : AreSmall (items_size ds) ts = subst (λ o. IfSome o (AreSmall (items_size ds))) texts (list_small ds) in
    omega (arith, array_small d ds listed)

field_is : (t : Bool) (text s : List ℕ) → ◌≡◌ {A = Option (List ℕ)} (if t then Some text else None) (Some s) → text ≡ s
field_is true text s h = cc
field_is false text s h = cc

field_read : (name : List ℕ) (d : Data) (s : List ℕ) → field_at name d ≡ Ok s → length s ≤ data_size d
field_read name d s h =
    let (text, str, field) = then_some field_of (as_str d) s (or_some (option_and_then field_of (as_str d)) (fault.Member name) s h) in
    let same : text ≡ s = field_is (is_field text) text s field in
    subst (λ t. length t ≤ data_size d) same (omega (arith, text_small d text str))

member_text_small : (name : List ℕ) (d : Data) (s : List ℕ) → text_member name d ≡ Some s → length s ≤ data_size d
member_text_small name d s h =
    let (e, member, str) = then_some as_str (member_of name d) s h in
    omega (arith, member_small name d e member, text_small e s str)

-- ---- the delivery

-- it is spelled, and has no more than these bytes twice
record IsRead (n : ℕ) (d : Delivery) : Type 0 where
  spelled : IsSpelled d
  small : delivery_bytes d ≤ n + n

reached_is : (t : Bool) (e f : Endpoint) → ◌≡◌ {A = Option Endpoint} (if t then Some e else None) (Some f) → e ≡ f
reached_is true e f h = cc
reached_is false e f h = cc

given_in : (t : Bool) (o : Option Endpoint) (e : Endpoint) → (if t then o else None) ≡ Some e → o ≡ Some e
given_in true o e h = h
given_in false o e h = cc

reached_spelled : (gateway : Bool) (url : List ℕ) (e : Endpoint) → reached gateway url ≡ Some e → endpoint_of url ≡ Some e
reached_spelled gateway url e h =
    let (f, given, here) = then_some (if_reached gateway) (endpoint_in url) e h in
    given_in (is_endpoint_url url) (endpoint_of url) f given ∙ ap (λ g. Some g) (reached_is (not f.secure || gateway) f e here)

given_small : (n : ℕ) (text : Option (List ℕ)) → IfSome text (λ s. length s ≤ n) → given_bytes text ≤ n
given_small n None h = omega arith
given_small n (Some s) h = h

push_read : (gateway : Bool) (d : Data) (delivery : Delivery) → push_of gateway d ≡ Ok delivery → IsRead (data_size d) delivery
push_read gateway d delivery h =
    let n : ℕ = data_size d in
    let (url, at, rest) = then_ok (ok_or (text_member (codes "endpoint_url") d) fault.Endpoint) _ delivery h in
    let (endpoint, goes, last) = then_ok (ok_or (reached gateway url) fault.Endpoint) _ delivery rest in
    let (authorization, shown, made) = then_ok (where_given (field_at (codes "authorization_header")) (member_of (codes "authorization_header") d)) _ delivery last in
    let few : given_bytes authorization ≤ n =
    given_small n authorization
    (given_ok (λ s. length s ≤ n) (field_at (codes "authorization_header")) (member_of (codes "authorization_header") d) authorization
    (λ e s is read. omega (arith, member_small (codes "authorization_header") d e is, field_read (codes "authorization_header") e s read)) shown) in
    let short : length url ≤ n = member_text_small (codes "endpoint_url") d url (or_some (text_member (codes "endpoint_url") d) fault.Endpoint url at) in
    subst (IsRead n) (same_ok {T = Delivery} {E = WantFault} (Push endpoint url authorization) delivery made)
    (record { spelled = reached_spelled gateway url endpoint (or_some (reached gateway url) fault.Endpoint endpoint goes); small = omega arith })

poll_read : (n : ℕ) (delivery : Delivery) → ◌≡◌ {A = Result Delivery WantFault} (Ok Poll) (Ok delivery) → IsRead n delivery
poll_read n delivery h = subst (IsRead n) (same_ok {T = Delivery} {E = WantFault} Poll delivery h) (record { spelled = tt; small = omega arith })

method_read : (gateway : Bool) (d : Data) (method : Option Data) (delivery : Delivery) → delivery_by gateway d method ≡ Ok delivery
    → IsRead (data_size d) delivery
method_read gateway d None delivery h = poll_read (data_size d) delivery h
method_read gateway d (Some method) delivery h = by (is_text push_method method) (is_text poll_method method) h
  where
    by : (push poll : Bool) → (if push then push_of gateway d else if poll then Ok Poll else Err fault.Method) ≡ Ok delivery → IsRead (data_size d) delivery
    by true poll is = push_read gateway d delivery is
    by false true is = poll_read (data_size d) delivery is
    by false false is = cc

delivery_read : (gateway : Bool) (d : Data) (delivery : Delivery) → delivery_at gateway d ≡ Ok delivery → IsRead (data_size d) delivery
delivery_read gateway d delivery h = by (is_object d) h
  where
    by : (t : Bool) → (if t then delivery_by gateway d (member_of (codes "method") d) else Err (fault.Member (codes "delivery"))) ≡ Ok delivery
        → IsRead (data_size d) delivery
    by true is = method_read gateway d (member_of (codes "method") d) delivery is
    by false is = cc

-- ---- the want

more_read : (m n : ℕ) (d : Delivery) → m ≤ n → IsRead m d → IsRead n d
more_read m n d le read = let few : delivery_bytes d ≤ m + m = read.small in record { spelled = read.spelled; small = omega arith }

wanted_spelled : (n : ℕ) (o : Option Delivery) → IfSome o (IsRead n) → IfSome o IsSpelled
wanted_spelled n None h = tt
wanted_spelled n (Some d) h = h.spelled

wanted_small : (n : ℕ) (o : Option Delivery) → IfSome o (IsRead n) → wanted_bytes o ≤ n + n
wanted_small n None h = omega arith
wanted_small n (Some d) h = h.small

requested_small : (n : ℕ) (o : Option (List (List ℕ))) → IfSome o (AreSmall n) → requested_bytes o + requested_items o ≤ n
requested_small n None h = omega arith
requested_small n (Some ts) h = h

record IsReadWant (n : ℕ) (want : Want) : Type 0 where
  delivery : IfSome want.delivery (IsRead n)
  description : IfSome want.description (λ s. length s ≤ n)
  requested : IfSome want.requested (AreSmall n)

want_read : (gateway : Bool) (body : Data) (want : Want) → want_by gateway body ≡ Ok want → IsReadWant (data_size body) want
want_read gateway body want h =
    let n : ℕ = data_size body in
    let sent : Option Data = member_of (codes "delivery") body in
    let said : Option Data = member_of (codes "description") body in
    let asked : Option Data = member_of (codes "events_requested") body in
    let (delivery, one, rest) = then_ok (where_given (delivery_at gateway) sent) _ want h in
    let (description, two, last) = then_ok (where_given (text_at (codes "description")) said) _ want rest in
    let (requested, three, made) = then_ok (where_given (texts_at (codes "events_requested")) asked) _ want last in
    subst (IsReadWant n) (same_ok {T = Want} {E = WantFault} (record { requested = requested; delivery = delivery; description = description }) want made) (record {
      delivery = given_ok (IsRead n) (delivery_at gateway) sent delivery
          (λ d t is read. more_read (data_size d) n t (member_small (codes "delivery") body d is) (delivery_read gateway d t read)) one;
      description = given_ok (λ s. length s ≤ n) (text_at (codes "description")) said description
          (λ d s is read. omega (arith, member_small (codes "description") body d is, text_read (codes "description") d s read)) two;
      requested = given_ok (AreSmall n) (texts_at (codes "events_requested")) asked requested
          (λ d ts is read. let few : AreSmall (data_size d) ts = texts_read (codes "events_requested") d ts read in
          omega (arith, member_small (codes "events_requested") body d is)) three;
    })

proper_read : (n : ℕ) (want : Want) → n ≤ REQUEST_BODY_BYTES → IsReadWant n want → IsProperWant want
proper_read n want few read =
    let sent : wanted_bytes want.delivery ≤ n + n = wanted_small n want.delivery read.delivery in
    let said : given_bytes want.description ≤ n = given_small n want.description read.description in
    let asked : requested_bytes want.requested + requested_items want.requested ≤ n = requested_small n want.requested read.requested in
    record {
      spelled = wanted_spelled n want.delivery read.delivery;
      bytes = omega arith;
      items = omega arith;
    }

pub wants_proper : WantsAreProper
unfolding want_of
wants_proper text body gateway want short spelled h = by (is_object body) h
  where
    by : (t : Bool) → (if t then want_by gateway body else Err (fault.Member (codes "body"))) ≡ Ok want → IsProperWant want
    by true is = proper_read (data_size body) want (let small = texts_small text body spelled in omega arith) (want_read gateway body want is)
    by false is = cc
