-- What it says of two settings that they are equal part by part.
use Rattle.std.proofs.Common.{◌≡◌, ◌∙◌, ap, refl, subst, sym, ℕ, List, Bool, true, false, ◌&&◌, bytes_eq, nat_eq, Option, None, Some}
use Rattle.std.specs.Bool.{Decides, beq}
use Rattle.std.specs.Cmp.{booleans_Decides}
use Rattle.std.specs.Cmp.Lexicographic.{pointwise}
use Rattle.std.specs.Option.{option_eq}
use Rattle.std.proofs.lemmas.Bool.{and_from, and_parts}
use Rattle.std.proofs.lemmas.Bool.Decides.{Decides-eqb}
use Rattle.std.proofs.lemmas.Slice.Eq.{bytes_eq-Decides, slice_eq-Decides}
use Rattle.sig_terms.specs.declared.endpoint.Endpoint.{Endpoint}
use Rattle.sig_terms.specs.declared.want.Delivery.{Delivery}
use Rattle.sig_terms.specs.declared.want.Delivery.TheVariants.{Poll, Push}
use Rattle.sig_calls.specs.Equality.{delivery_eq, endpoint_eq}

pub options_decide : {A : Type 0} {E : A → A → Bool} → ((a b : A) → Decides (E a b) (a ≡ b)) → (a b : Option A) → Decides (option_eq E a b) (a ≡ b)
options_decide d None None = (λ h. refl, λ h. refl)
options_decide d None (Some b) = (λ h. cc, λ h. cc)
options_decide d (Some a) None = (λ h. cc, λ h. cc)
options_decide d (Some a) (Some b) = (λ h. ap (λ x. Some x) ((d a b).0 h), λ h. (let same : a ≡ b = cc in (d a b).1 same))

pub texts_decide : (a b : List (List ℕ)) → Decides (pointwise bytes_eq a b) (a ≡ b)
texts_decide a b = slice_eq-Decides bytes_eq-Decides a b (pointwise bytes_eq a b) refl

numbers_decide : (a b : ℕ) → Decides (nat_eq a b) (a ≡ b)
numbers_decide a b = Decides-eqb a b

nat_same : (n : ℕ) → nat_eq n n ≡ true
nat_same n = (numbers_decide n n).1 refl

one_endpoint : (a b : Endpoint) → a.secure ≡ b.secure → a.place.host ≡ b.place.host → a.place.port ≡ b.place.port → a.path ≡ b.path → a ≡ b
one_endpoint a b secure host port path =
    ap (λ x. record { secure = x; place = a.place; path = a.path }) secure
    ∙ ap (λ x. record { secure = b.secure; place = record { host = x; port = a.place.port }; path = a.path }) host
    ∙ ap (λ x. record { secure = b.secure; place = record { host = b.place.host; port = x }; path = a.path }) port
    ∙ ap (λ x. record { secure = b.secure; place = b.place; path = x }) path

endpoint_same : (a : Endpoint) → endpoint_eq a a ≡ true
endpoint_same a =
    and_from _ _ (and_from _ _ (and_from _ _ ((booleans_Decides a.secure a.secure).1 refl) ((bytes_eq-Decides a.place.host a.place.host).1 refl))
    (nat_same a.place.port)) ((bytes_eq-Decides a.path a.path).1 refl)

endpoint_sound : (a b : Endpoint) → endpoint_eq a b ≡ true → a ≡ b
endpoint_sound a b h =
    let first = and_parts (beq a.secure b.secure && bytes_eq a.place.host b.place.host && nat_eq a.place.port b.place.port) (bytes_eq a.path b.path) h in
    let second = and_parts (beq a.secure b.secure && bytes_eq a.place.host b.place.host) (nat_eq a.place.port b.place.port) first.0 in
    let third = and_parts (beq a.secure b.secure) (bytes_eq a.place.host b.place.host) second.0 in
    one_endpoint a b ((booleans_Decides a.secure b.secure).0 third.0) ((bytes_eq-Decides a.place.host b.place.host).0 third.1)
    ((numbers_decide a.place.port b.place.port).0 second.1) ((bytes_eq-Decides a.path b.path).0 first.1)

endpoints_decide : (a b : Endpoint) → Decides (endpoint_eq a b) (a ≡ b)
endpoints_decide a b = (λ h. endpoint_sound a b h, λ h. subst (λ e. endpoint_eq a e ≡ true) h (endpoint_same a))

one_push : (e f : Endpoint) (u v : List ℕ) (x y : Option (List ℕ)) → e ≡ f → u ≡ v → x ≡ y → Push e u x ≡ Push f v y
one_push e f u v x y a b c = ap (λ i. Push i u x) a ∙ ap (λ i. Push f i x) b ∙ ap (λ i. Push f v i) c

push_same : (e : Endpoint) (u : List ℕ) (x : Option (List ℕ)) → delivery_eq (Push e u x) (Push e u x) ≡ true
push_same e u x =
    and_from _ _ (and_from _ _ (endpoint_same e) ((bytes_eq-Decides u u).1 refl)) ((options_decide bytes_eq-Decides x x).1 refl)

push_sound : (e f : Endpoint) (u v : List ℕ) (x y : Option (List ℕ)) → delivery_eq (Push e u x) (Push f v y) ≡ true → Push e u x ≡ Push f v y
push_sound e f u v x y h =
    let first = and_parts (endpoint_eq e f && bytes_eq u v) (option_eq bytes_eq x y) h in
    let second = and_parts (endpoint_eq e f) (bytes_eq u v) first.0 in
    one_push e f u v x y (endpoint_sound e f second.0) ((bytes_eq-Decides u v).0 second.1) ((options_decide bytes_eq-Decides x y).0 first.1)

pub deliveries_decide : (a b : Delivery) → Decides (delivery_eq a b) (a ≡ b)
deliveries_decide Poll Poll = (λ h. refl, λ h. refl)
deliveries_decide Poll (Push f v y) = (λ h. cc, λ h. cc)
deliveries_decide (Push e u x) Poll = (λ h. cc, λ h. cc)
deliveries_decide (Push e u x) (Push f v y) = (λ h. push_sound e f u v x y h, λ h. subst (λ d. delivery_eq (Push e u x) d ≡ true) h (push_same e u x))
