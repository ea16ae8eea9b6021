-- What settings say: streams that may be declared together, of a transmitter at the path `/` that can be reached.
use Rattle.std.proofs.Common.{◌≡◌, ◌∙◌, sym, subst, ℕ, ◌+◌, ◌<◌, List, [], ◌∷◌, Bool, true, false, Option, Some, None, refl, true≢false}
use Rattle.std.specs.Prelude.{Result, Ok, Err, IfOk, IsSome, is_some, not, ◌&&◌, ◌||◌, bytes_eq, codes, length, map, nat_le, unwrap_or, if◌then◌else◌}
use Rattle.std.specs.List.{All, AllByRecursion, IsDistinct}
use Rattle.std.proofs.lemmas.Bool.{leb-true, ltb-true}
use Rattle.std.proofs.lemmas.Cmp.{nat_list_eq_equiv}
use Rattle.std.proofs.lemmas.List.Elements.{All-cons, All-nil}
use Rattle.std.proofs.lemmas.Slice.Eq.{bytes_eq-Decides}
use Rattle.serde_json.specs.Data.{Data, null, boolean, number, string, array, object, Items, no_items, item}
use Rattle.serde_json.specs.Find.{as_str}
use Rattle.sig_json.specs.Answers.{Answers, result_map}
use Rattle.sig_json.specs.Json.{member_of}
use Rattle.sig_event.specs.declared.status.Status.{Status}
use Rattle.sig_outside.specs.declared.place.Place.{Place}
use Rattle.sig_terms.specs.declared.endpoint.Endpoint.{Endpoint}
use Rattle.sig_terms.specs.declared.want.Want.{Want}
use Rattle.sig_stream.specs.Endpoints.{endpoint_of}
use Rattle.sig_stream.specs.declared.want_fault.WantFault.{WantFault}
use Rattle.sig_stream.specs.Steps.{where_given}
use Rattle.sig_stream.specs.Wants.{want_of}
use Rattle.sig_settings.specs.declared.fault.SettingsFault.{SettingsFault}
use Rattle.sig_settings.specs.declared.fault.ValueFault.{ValueFault}
use Rattle.sig_settings.specs.Lists.{before, each_once, is_among, items_kept, kept_at, list_at}
use Rattle.sig_settings.specs.Members.{itself, needed, optional, where_there}
use Rattle.sig_settings.specs.Objects.{settings_of}
use Rattle.sig_settings.specs.Places.{place_at}
use Rattle.sig_settings.specs.Texts.{bearer_at, is_filled}
use Rattle.sig_settings.proofs.Steps.{found_is, needed_is, ok_same, optional_is, stepped, then_some, under_ok}
use Rattle.sig_declared.specs.declared.declared.Declared.{Declared}
use Rattle.sig_declared.specs.declared.limits.TheConstants.{STREAMS_DECLARED}
use Rattle.sig_declared.specs.declared.settings.ManageSettings.{ManageSettings}
use Rattle.sig_declared.specs.Declarations.{AreDeclared, IsDescribed, IsSaid, description_of}
use Rattle.sig_declared.specs.Providers.{HasItsGateway, endpoint_in, gives_gateway, is_reached, provider_of, root_at, root_of, where_root}
use Rattle.sig_declared.specs.Settings.{manage_settings_in, manage_settings_of}
use Rattle.sig_declared.specs.Streams.{are_apart, is_described, seen, status_in, stream_at, streams_at, want_at, where_apart}

-- ---- steps

-- what passes a test is what was tested
some_where : {T : Type 0} (t : Bool) (x y : T) → (if t then Some x else None) ≡ Some y → (t ≡ true) × (x ≡ y)
some_where true x y h = (refl, cc)
some_where false x y h = cc

ok_where : {T E : Type 0} (t : Bool) (x y : T) (fault : E) → ◌≡◌ {A = Result T E} (if t then Ok x else Err fault) (Ok y) → (t ≡ true) × (x ≡ y)
ok_where true x y fault h = (refl, cc)
ok_where false x y fault h = cc

both_true : (a b : Bool) → (a && b) ≡ true → (a ≡ true) × (b ≡ true)
both_true true true h = (refl, refl)
both_true true false h = absurd (true≢false (sym h))
both_true false b h = absurd (true≢false (sym h))

none_true : (a b : Bool) → (a || b) ≡ false → (a ≡ false) × (b ≡ false)
none_true false false h = (refl, refl)
none_true false true h = absurd (true≢false h)
none_true true b h = absurd (true≢false h)

-- a member that was read was there
there_is : {T : Type 0} (kind : Data → Result T ValueFault) (o : Option Data) (x : T) → where_there kind o ≡ Ok x → (v : Data) × (o ≡ Some v) × (kind v ≡ Ok x)
there_is kind None x h = cc
there_is kind (Some v) x h = (v, refl, h)

member_is : {T : Type 0} (kind : Data → Result T ValueFault) (name : List ℕ) (d : Data) (x : T) → needed kind name d ≡ Ok x → (v : Data) × (kind v ≡ Ok x)
member_is kind name d x h =
    let (v, there, is) = there_is kind (member_of name d) x (under_ok _ _ x (needed_is kind name d x h)) in
    (v, is)

-- ---- lists

before_is : {T : Type 0} (o : Result T ValueFault) (rest : Result (List T) ValueFault) (ys : List T) → before o rest ≡ Ok ys → (x : T) × (o ≡ Ok x) × ((xs : List T) × (rest ≡ Ok xs) × (x ∷ xs ≡ ys))
before_is (Err e) rest ys h = cc
before_is (Ok x) (Err e) ys h = cc
before_is (Ok x) (Ok xs) ys h = (x, refl, (xs, refl, cc))

-- what holds of all that a kind reads holds of each item of a list
abbrev Reads : {T : Type 0} → (Data → Result T ValueFault) → (T → Type 0) → Type 0
Reads {T} kind P = (d : Data) (x : T) → kind d ≡ Ok x → P x

items_are : {T : Type 0} (kind : Data → Result T ValueFault) (P : T → Type 0) → Reads kind P → (n : ℕ) (ds : Items) (xs : List T) → items_kept kind n ds ≡ Ok xs → All P xs
items_are {T} kind P each n no_items xs h = let same : [] ≡ xs = cc in subst (All P) same (All-nil P)
items_are {T} kind P each n (item d ds) xs h =
    let (y, said, (ys, rest, is)) = before_is (kept_at kind n d) (items_kept kind (n + 1) ds) xs h in
    subst (All P) is (All-cons P y ys (each d y (under_ok _ _ y said)) (items_are kind P each (n + 1) ds ys rest))

list_are : {T : Type 0} (kind : Data → Result T ValueFault) (P : T → Type 0) → Reads kind P → (d : Data) (xs : List T) → list_at kind d ≡ Ok xs → All P xs
list_are kind P each null xs h = cc
list_are kind P each (boolean b) xs h = cc
list_are kind P each (number n) xs h = cc
list_are kind P each (string s) xs h = cc
list_are kind P each (array ds) xs h = items_are kind P each 0 ds xs h
list_are kind P each (object ms) xs h = cc

-- texts of which none is among those after it are distinct
none_among : {T : Type 0} (text : T → List ℕ) (t : List ℕ) (xs : List T) → is_among text t xs ≡ false → AllByRecursion (λ y. bytes_eq t y ≡ false) (map text xs)
none_among text t [] h = tt
none_among text t (x ∷ xs) h =
    let p = none_true (bytes_eq (text x) t) (is_among text t xs) h in
    (nat_list_eq_equiv.symm t (text x) ∙ p.0, none_among text t xs p.1)

is_false : (b : Bool) → not b ≡ true → b ≡ false
is_false false h = refl
is_false true h = absurd (true≢false (sym h))

distinct : {T : Type 0} (text : T → List ℕ) (xs : List T) → each_once text xs ≡ true → IsDistinct bytes_eq (map text xs)
unfolding IsDistinct
distinct text [] h = tt
distinct text (x ∷ xs) h =
    let p = both_true (not (is_among text (text x) xs)) (each_once text xs) h in
    (none_among text (text x) xs (is_false (is_among text (text x) xs) p.0), distinct text xs p.1)

-- ---- streams

described : (want : Want) (status : Status) (u : Unit {0}) → is_described want ≡ Ok u → IsDescribed (record { want = want; status = status })
described want status u h = at want.description refl (ok_where (is_filled (unwrap_or want.description [])) tt u _ h).0
  where
    at : (o : Option (List ℕ)) → want.description ≡ o → is_filled (unwrap_or o []) ≡ true → (text : List ℕ) × (want.description ≡ Some text) × (0 < length text)
    at None is filled = absurd (true≢false (sym filled))
    at (Some text) is filled = (text, is, ltb-true 0 (length text) filled)

stream_described : Reads stream_at IsDescribed
stream_described d s h =
    let (want, has_want, h1) = stepped (want_at d) _ s h in
    let (taken, has_taken, h2) = stepped (is_described want) _ s h1 in
    let (status, has_status, h3) = stepped (status_in d) _ s h2 in
    subst IsDescribed (ok_same _ s h3) (described want status taken has_taken)

seen_is : (r : Result Want WantFault) (want : Want) → seen r ≡ Ok want → r ≡ Ok want
seen_is (Ok w) want h = cc
seen_is (Err fault) want h = cc

stream_said : Reads stream_at IsSaid
stream_said d s h =
    let (want, has_want, h1) = stepped (want_at d) _ s h in
    let (taken, has_taken, h2) = stepped (is_described want) _ s h1 in
    let (status, has_status, h3) = stepped (status_in d) _ s h2 in
    subst IsSaid (ok_same _ s h3) (d, seen_is (want_of true d) want has_want)

streams_said : (d : Data) (ss : List Declared) → streams_at d ≡ Ok ss → All IsSaid ss
streams_said d ss h =
    let (all, said, is) = stepped (list_at stream_at d) where_apart ss h in
    let same = ok_where (are_apart all) all ss itself is in
    subst (All IsSaid) same.1 (list_are stream_at IsSaid stream_said d all said)

streams_declared : (d : Data) (ss : List Declared) → streams_at d ≡ Ok ss → AreDeclared ss
streams_declared d ss h =
    let (all, said, is) = stepped (list_at stream_at d) where_apart ss h in
    let same = ok_where (are_apart all) all ss itself is in
    let p = both_true (nat_le (length all) STREAMS_DECLARED) (each_once description_of all) same.0 in
    subst AreDeclared same.1 (record {
      few = leb-true (length all) STREAMS_DECLARED p.0;
      described = list_are stream_at IsDescribed stream_described d all said;
      apart = distinct description_of all p.1;
    })

-- ---- the transmitter

root_path : (d : Data) (e : Endpoint) → root_at d ≡ Ok e → e.path ≡ codes "/"
root_path d e h =
    let (url, has_url, is) = then_some (as_str d) root_of e (found_is _ e h) in
    let (found, has_found, same) = then_some (endpoint_of url) where_root e is in
    let p = some_where (bytes_eq found.path (codes "/")) found e same in
    subst (λ (t : Endpoint). t.path ≡ codes "/") p.1 ((bytes_eq-Decides found.path (codes "/")).0 p.0)

-- one of `https` was taken only where there is a gateway
needs : (gateway : Bool) (e : Endpoint) (taken : Unit {0}) → is_reached gateway e ≡ Ok taken → e.secure ≡ true → gateway ≡ true
needs gateway e taken h is = at e.secure gateway _ is h
  where
    at : (secure has : Bool) (fault : SettingsFault) → secure ≡ true → ◌≡◌ {A = Result (Unit {0}) SettingsFault} (if secure && not has then Err fault else Ok tt) (Ok taken) → has ≡ true
    at true true fault is h = refl
    at true false fault is h = cc
    at false has fault is h = absurd (true≢false (sym is))

-- a member that is there and is read as something is there
given : {T : Type 0} (kind : Data → Result T ValueFault) (o : Option Data) (x : Option T) → is_some o ≡ true → where_given kind o ≡ Ok x → IsSome x
given kind None x there h = absurd (true≢false (sym there))
given {T} kind (Some d) x there h = at (kind d) h
  where
    at : (r : Result T ValueFault) → ◌≡◌ {A = Result (Option T) ValueFault} (result_map (λ y. Some y) r) (Ok x) → IsSome x
    at (Err e) h = cc
    at (Ok y) h = let same : Some y ≡ x = cc in subst IsSome same refl

behind : (bearer : List ℕ) (e : Endpoint) (gateway : Option Place) → (e.secure ≡ true → IsSome gateway) → HasItsGateway (provider_of bearer e gateway)
behind bearer e gateway there = at e.secure refl
  where
    at : (secure : Bool) → e.secure ≡ secure → e.secure ≡ true → IsSome (if secure then gateway else None)
    at true is h = there h
    at false is h = absurd (true≢false (sym h ∙ is))

record IsRight (e : Endpoint) (gateway : Bool) : Type 0 where
  path : e.path ≡ codes "/"
  reached : e.secure ≡ true → gateway ≡ true

endpoint_right : (d : Data) (e : Endpoint) → endpoint_in d ≡ Ok e → IsRight e (gives_gateway d)
unfolding endpoint_in
endpoint_right d e h =
    let (found, has_found, h1) = stepped (needed root_at (codes "url") d) _ e h in
    let (taken, has_taken, h2) = stepped (is_reached (gives_gateway d) found) _ e h1 in
    let (v, is) = member_is root_at (codes "url") d found has_found in
    subst (λ (t : Endpoint). IsRight t (gives_gateway d)) (ok_same found e h2) (record { path = root_path v found is; reached = needs (gives_gateway d) found taken has_taken })

-- ---- the whole

-- what settings promise
pub record AreRight (s : ManageSettings) : Type 0 where
  pub declared : AreDeclared s.declared
  pub said : All IsSaid s.declared
  pub reached : HasItsGateway s.provider
  pub path : s.provider.endpoint.path ≡ codes "/"

object_right : (d : Data) (s : ManageSettings) → manage_settings_in d ≡ Ok s → AreRight s
object_right d s h =
    let (bearer, has_bearer, h1) = stepped (needed bearer_at (codes "bearer") d) _ s h in
    let (endpoint, has_endpoint, h2) = stepped (endpoint_in d) _ s h1 in
    let (declared, has_declared, h3) = stepped (needed streams_at (codes "streams") d) _ s h2 in
    let (gateway, has_gateway, h4) = stepped (optional place_at (codes "tls_gateway") d) _ s h3 in
    let right = endpoint_right d endpoint has_endpoint in
    let (v, is) = member_is streams_at (codes "streams") d declared has_declared in
    subst AreRight (ok_same _ s h4) (record {
      declared = streams_declared v declared is;
      said = streams_said v declared is;
      reached = behind bearer endpoint gateway
          (λ secure. given place_at (member_of (codes "tls_gateway") d) gateway (right.reached secure)
          (under_ok _ _ gateway (optional_is place_at (codes "tls_gateway") d gateway has_gateway)));
      path = right.path;
    })

-- what bytes say
pub settings_right : (bytes : List ℕ) (s : ManageSettings) → manage_settings_of bytes ≡ Ok s → AreRight s
unfolding manage_settings_of
settings_right bytes s h =
    let (d, is, rest) = stepped (settings_of bytes) manage_settings_in s h in
    object_right d s rest

-- what is answered where an object was read
pub right_answer : (d : Data) (fault : SettingsFault) (r : Result ManageSettings SettingsFault) → Answers fault r (manage_settings_in d) → IfOk r AreRight
right_answer d fault (Ok s) h = object_right d s h
right_answer d fault (Err e) h = tt

pub where_right : (P : ManageSettings → Type 0) → ((s : ManageSettings) → AreRight s → P s) → (r : Result ManageSettings SettingsFault) → IfOk r AreRight → IfOk r P
where_right P each (Ok s) h = each s h
where_right P each (Err e) h = tt
