-- What a request asks, taken apart: who asks, and what was read.
use Rattle.std.proofs.Common.{◌≡◌, ◌∙◌, ap, sym, subst, ◌≤◌, ℕ, List, Bool, true, false, Option, Some, None, refl, find, codes, arith, true≢false}
use Rattle.std.specs.Prelude.{Result, Ok, Err, ok_or, option_and_then, option_map, IfSome, Contains, bytes_eq, nat_le, nat_lt, ◌&&◌, if◌then◌else◌, slice_index}
use Rattle.std.specs.Result.{result_ok}
use Rattle.std.specs.Str.{all_ascii_digits}
use Rattle.std.specs.Str.Parse.{digits_value}
use Rattle.std.proofs.lemmas.Bool.{leb-true}
use Rattle.std.proofs.lemmas.Slice.Eq.{bytes_eq-Decides}
use Rattle.serde_json.specs.Data.{Data, null, boolean, number, string, array, object}
use Rattle.sig_json.specs.Answers.{result_map}
use Rattle.sig_json.specs.Json.{json_of, object_itself}
use Rattle.sig_json.specs.declared.limits.TheConstants.{LAST_NUMBER}
use Rattle.sig_json.proofs.Spelled.{spells_in_order}
use Rattle.sig_http.specs.Query.{value_in}
use Rattle.sig_http.specs.declared.fault.HttpRefusal.{HttpRefusal}
use Rattle.sig_http.specs.declared.fault.HttpRefusal.TheVariants as refusal
use Rattle.sig_http.specs.declared.message.Request.{Request}
use Rattle.sig_subject.specs.Reading as subjects
use Rattle.sig_subject.specs.Written.{IsProperSubject}
use Rattle.sig_subject.specs.declared.subject.Subject.{Subject}
use Rattle.sig_subject.proofs.ProperRead.{reads_proper}
use Rattle.sig_rxnode.specs.declared.call.RxCall.{RxCall}
use Rattle.sig_rxnode.specs.declared.call.RxCall.TheVariants as call
use Rattle.sig_rxnode.specs.declared.rules.Principal.{Principal}
use Rattle.sig_rxnode.specs.declared.rules.RxRules.{RxRules}
use Rattle.sig_rxroutes.specs.Asked.{counted, number_in, place_of, subject_by, subject_in, within}
use Rattle.sig_rxroutes.specs.Calls.{by_route, call_of, for_reader, issuer_by, rows_call, shows, token_call, verdict_call}
use Rattle.sig_rxroutes.specs.Laws.{AreApart, BearersDecide, HasBearer, IsProperOf, MayMake, PrincipalsSpeakForThemselves, RequestsMakeProperCalls, SpeaksFor}
use Rattle.sig_rxroutes.specs.declared.route.RxRoute.{RxRoute}
use Rattle.sig_rxroutes.specs.declared.route.RxRoute.TheVariants as route
use Rattle.sig_rxroutes.proofs.RouteLemmas.{found_is, none_passes, routes_exactly, text_is}

mapped : {A B E : Type 0} (f : A → B) (r : Result A E) (y : B) → result_map f r ≡ Ok y → (x : A) × (r ≡ Ok x) × (f x ≡ y)
mapped f (Ok x) y h = (x, refl, cc)
mapped f (Err e) y h = cc

ok_same : {T E : Type 0} (x y : T) → ◌≡◌ {A = Result T E} (Ok x) (Ok y) → x ≡ y
ok_same x y h = cc

some_same : {T : Type 0} (x y : T) → ◌≡◌ {A = Option T} (Some x) (Some y) → x ≡ y
some_same x y h = cc

ok_or_some : {T E : Type 0} (o : Option T) (e : E) (x : T) → ok_or o e ≡ Ok x → o ≡ Some x
ok_or_some None e x h = cc
ok_or_some (Some y) e x h = cc

ok_some : {T E : Type 0} (r : Result T E) (x : T) → result_ok r ≡ Some x → r ≡ Ok x
ok_some (Ok y) x h = cc
ok_some (Err e) x h = cc

-- ---- bearers

is_shown : (shown : Option (List ℕ)) (bearer : List ℕ) → shows shown bearer ≡ true → shown ≡ Some bearer
is_shown None bearer h = cc
is_shown (Some text) bearer h = ap Some (text_is text bearer h)

has_bearer : (rules : RxRules) (shown : Option (List ℕ)) → IfSome (issuer_by rules.principals shown) (HasBearer rules shown)
has_bearer rules shown = at (find (λ (p : Principal). shows shown p.bearer) rules.principals) refl
  where
    at : (o : Option Principal) → find (λ (p : Principal). shows shown p.bearer) rules.principals ≡ o → IfSome (option_map (λ (p : Principal). p.iss) o) (HasBearer rules shown)
    at None is = tt
    at (Some p) is =
        let found = found_is (λ (p : Principal). shows shown p.bearer) rules.principals p is in
        (p, found.0, refl, is_shown shown p.bearer found.1)

-- the issuer of a principal's bearer, where each bearer is for one issuer
issuer_is : (rules : RxRules) (p : Principal) → AreApart rules → Contains rules.principals p → issuer_by rules.principals (Some p.bearer) ≡ Some p.iss
issuer_is rules p apart inside = at (find has rules.principals) refl
  where
    has : Principal → Bool
    has q = bytes_eq p.bearer q.bearer

    itself : has p ≡ true
    itself = (bytes_eq-Decides p.bearer p.bearer).1 refl

    at : (o : Option Principal) → find has rules.principals ≡ o → option_map (λ (q : Principal). q.iss) o ≡ Some p.iss
    at None is = absurd (true≢false (sym itself ∙ none_passes has rules.principals p is inside))
    at (Some q) is =
        let found = found_is has rules.principals q is in
        ap Some (sym (apart p q inside found.0 (text_is p.bearer q.bearer found.1)))

-- ---- numbers

number_small : (n m : ℕ) → within n ≡ Some m → m ≤ LAST_NUMBER
number_small n m h = at (nat_le n LAST_NUMBER) refl h
  where
    at : (b : Bool) → nat_le n LAST_NUMBER ≡ b → ◌≡◌ {A = Option ℕ} (if b then Some n else None) (Some m) → m ≤ LAST_NUMBER
    at true is h = subst (λ k. k ≤ LAST_NUMBER) (some_same n m h) (leb-true n LAST_NUMBER is)
    at false is h = cc

counted_small : (text : List ℕ) (n : ℕ) → counted text ≡ Some n → n ≤ LAST_NUMBER
counted_small text n h = at (nat_lt 48 (slice_index text 0) && all_ascii_digits text) h
  where
    at : (b : Bool) → ◌≡◌ {A = Option ℕ} (if b then within (digits_value 10 text) else None) (Some n) → n ≤ LAST_NUMBER
    at true h = number_small (digits_value 10 text) n h
    at false h = cc

named_small : (text : List ℕ) (n : ℕ) → number_in text ≡ Some n → n ≤ LAST_NUMBER
named_small text n h = at (bytes_eq text (codes "0")) h
  where
    at : (b : Bool) → ◌≡◌ {A = Option ℕ} (if b then Some 0 else counted text) (Some n) → n ≤ LAST_NUMBER
    at true h = let same : 0 ≡ n = some_same 0 n h in omega (arith, same)
    at false h = counted_small text n h

place_small : (o : Option (List ℕ)) (n : ℕ) → place_of o ≡ Ok n → n ≤ LAST_NUMBER
place_small None n h = let same : 0 ≡ n = ok_same 0 n h in omega (arith, same)
place_small (Some text) n h = named_small text n (ok_or_some (number_in text) (refusal.Bad (codes "from")) n h)

-- ---- subjects

object_is : (o : Option Data) (d : Data) → option_and_then object_itself o ≡ Some d → o ≡ Some d
object_is None d h = cc
object_is (Some null) d h = cc
object_is (Some (boolean b)) d h = cc
object_is (Some (number n)) d h = cc
object_is (Some (string s)) d h = cc
object_is (Some (array ds)) d h = cc
object_is (Some (object ms)) d h = cc

subject_proper : (body : List ℕ) (s : Subject) → subject_in body ≡ Ok s → IsProperSubject s
subject_proper body s h = at (option_and_then object_itself (json_of body)) refl h
  where
    at : (o : Option Data) → option_and_then object_itself (json_of body) ≡ o → subject_by o ≡ Ok s → IsProperSubject s
    at None is h = cc
    at (Some d) is h =
        let well = spells_in_order body d (object_is (json_of body) d is) in
        let reads = ok_or_some (result_ok (subjects.subject_of d)) (refusal.Bad (codes "subject")) s h in
        reads_proper d s well.0 well.1 (ok_some (subjects.subject_of d) s reads)

-- ---- calls

-- who may make a call, and that it is proper
record IsGood (request : Request) (rules : RxRules) (asked : RxCall) : Type 0 where
  may : MayMake rules request.bearer asked
  proper : IsProperOf request asked

token_good : (request : Request) (rules : RxRules) → IsGood request rules (token_call request rules)
token_good request rules = record { may = has_bearer rules request.bearer; proper = (refl, refl) }

-- what a reader asks
read_shown : (request : Request) (rules : RxRules) (read : Result RxCall HttpRefusal) (asked : RxCall) → for_reader request rules read ≡ Ok asked
    → (request.bearer ≡ Some rules.reader) × (read ≡ Ok asked)
read_shown request rules read asked h = at (shows request.bearer rules.reader) refl h
  where
    at : (b : Bool) → shows request.bearer rules.reader ≡ b → ◌≡◌ {A = Result RxCall HttpRefusal} (if b then read else Err refusal.Auth) (Ok asked)
        → (request.bearer ≡ Some rules.reader) × (read ≡ Ok asked)
    at false shown h = cc
    at true shown h = (is_shown request.bearer rules.reader shown, h)

rows_good : (request : Request) (rules : RxRules) (asked : RxCall) → request.bearer ≡ Some rules.reader → rows_call request ≡ Ok asked → IsGood request rules asked
rows_good request rules asked shown h =
    let (n, reads, is) = mapped call.Rows (place_of (value_in request.query (codes "from"))) asked h in
    subst (IsGood request rules) is (record { may = shown; proper = place_small (value_in request.query (codes "from")) n reads })

verdict_good : (request : Request) (rules : RxRules) (asked : RxCall) → request.bearer ≡ Some rules.reader → verdict_call request ≡ Ok asked → IsGood request rules asked
verdict_good request rules asked shown h =
    let (s, reads, is) = mapped call.Verdict (subject_in request.body) asked h in
    subst (IsGood request rules) is (record { may = shown; proper = subject_proper request.body s reads })

route_good : (r : RxRoute) (request : Request) (rules : RxRules) (asked : RxCall) → by_route r request rules ≡ Ok asked → IsGood request rules asked
route_good route.Push request rules asked h = subst (IsGood request rules) (ok_same (token_call request rules) asked h) (token_good request rules)
route_good route.Rows request rules asked h = let here = read_shown request rules (rows_call request) asked h in rows_good request rules asked here.0 here.1
route_good route.Check request rules asked h = let here = read_shown request rules (verdict_call request) asked h in verdict_good request rules asked here.0 here.1
route_good route.Figures request rules asked h =
    let here = read_shown request rules (Ok call.Figures) asked h in
    subst (IsGood request rules) (ok_same call.Figures asked here.1) (record { may = here.0; proper = tt })

is_good : (request : Request) (rules : RxRules) (asked : RxCall) → call_of request rules ≡ Ok asked → IsGood request rules asked
is_good request rules asked h = let is = (routes_exactly request rules asked).0 h in route_good is.route request rules asked is.asks

pub bearers_decide : BearersDecide
bearers_decide request rules asked h = (is_good request rules asked h).may

pub requests_make_proper_calls : RequestsMakeProperCalls
requests_make_proper_calls request rules asked h = (is_good request rules asked h).proper

-- ---- each for itself

speaks : (r : RxRoute) (request : Request) (rules : RxRules) (p : Principal) (asked : RxCall) → AreApart rules → Contains rules.principals p
    → request.bearer ≡ Some p.bearer → by_route r request rules ≡ Ok asked → SpeaksFor p.iss asked
speaks route.Push request rules p asked apart inside shown h =
    subst (SpeaksFor p.iss) (ok_same (token_call request rules) asked h) (ap (issuer_by rules.principals) shown ∙ issuer_is rules p apart inside)
speaks route.Rows request rules p asked apart inside shown h =
    let (n, reads, is) = mapped call.Rows (place_of (value_in request.query (codes "from"))) asked (read_shown request rules (rows_call request) asked h).1 in
    subst (SpeaksFor p.iss) is tt
speaks route.Check request rules p asked apart inside shown h =
    let (s, reads, is) = mapped call.Verdict (subject_in request.body) asked (read_shown request rules (verdict_call request) asked h).1 in
    subst (SpeaksFor p.iss) is tt
speaks route.Figures request rules p asked apart inside shown h =
    subst (SpeaksFor p.iss) (ok_same call.Figures asked (read_shown request rules (Ok call.Figures) asked h).1) tt

pub principals_speak_for_themselves : PrincipalsSpeakForThemselves
principals_speak_for_themselves request rules p asked apart inside shown h =
    let is = (routes_exactly request rules asked).0 h in speaks is.route request rules p asked apart inside shown is.asks
