-- The bearers that bytes of a receiver's settings say: each was told apart from those that were read before it.
use Rattle.std.proofs.Common.{◌≡◌, ◌∙◌, ap, sym, subst, ℕ, suc, List, [], ◌∷◌, ◌++◌, Bool, true, false, Option, Some, None, refl, arith}
use Rattle.std.specs.Prelude.{Ok, IfSome, bytes_eq, codes, map, Contains, if◌then◌else◌}
use Rattle.std.specs.List.{IsDistinct}
use Rattle.serde_json.specs.Data.{Data}
use Rattle.sig_outside.specs.declared.place.Place.{Place}
use Rattle.sig_rxnode.specs.declared.call.RxCall.{RxCall}
use Rattle.sig_rxnode.specs.declared.call.RxCall.TheVariants as call
use Rattle.sig_rxnode.specs.declared.rules.Peer.{Peer}
use Rattle.sig_rxnode.specs.declared.rules.Principal.{Principal}
use Rattle.sig_rxnode.specs.declared.rules.RxRules.{RxRules}
use Rattle.sig_settings.specs.Members.{needed, optional}
use Rattle.sig_settings.specs.Objects.{settings_of}
use Rattle.sig_settings.specs.Places.{place_at}
use Rattle.sig_settings.specs.Texts.{bearer_at, text_at}
use Rattle.sig_settings.proofs.Steps.{ok_same, stepped}
use Rattle.sig_rxsettings.specs.declared.settings.RxSettings.{RxSettings}
use Rattle.sig_rxsettings.specs.Issuers.{issuers_at}
use Rattle.sig_rxsettings.specs.Peers.{gives_gateway, has_own_bearer, is_reached, peer_at, peer_in, placed_peer, read_before, with_gateway}
use Rattle.sig_rxsettings.specs.Principals.{bearer_of, have_own_bearers, principals_at, principals_in}
use Rattle.sig_rxsettings.specs.Settings.{rx_settings_in, rx_settings_of}
use Rattle.sig_rxroutes.specs.Laws.{HasBearer, MayMake, SpeaksFor}
use Rattle.sig_rxroutes.proofs.AskLemmas.{bearers_decide, principals_speak_for_themselves}
use Rattle.sig_bearer_laws.specs.Bearers.{EachOnce}
use Rattle.sig_bearer_laws.specs.Receivers.{BearersAreOnesOwn, BearersDiffer, CallersAreApart, HaveTheirOwn, IsPush, PeersAskNothing, PrincipalsPushForThemselves, ReadersSpeakForNobody, SpeaksForNobody, bearers_in, bearers_shown}
use Rattle.sig_bearer_laws.proofs.Once.{bearers, differ_once, each_once, items_once, none_first, none_last, one_item, placed_at, within}

-- ---- what is read

principals_once : (reader : List ℕ) (d : Data) (principals : List Principal) → principals_in reader d ≡ Ok principals → IsDistinct bytes_eq (read_before reader principals)
unfolding principals_in
principals_once reader d principals h =
    let (all, has_all, h1) = stepped (needed principals_at (codes "principals") d) _ principals h in
    let (own, has_own, h2) = stepped (have_own_bearers reader all) _ principals h1 in
    subst (λ (l : List Principal). IsDistinct bytes_eq (read_before reader l)) (ok_same all principals h2) (items_once bearer_of (codes "principals") reader all own has_own)

placed_shown : (peer : Option Peer) → bearers (placed_peer peer) ≡ bearers_shown peer
placed_shown None = refl
placed_shown (Some peer) = refl

peer_once : (reader : List ℕ) (principals : List Principal) (d : Data) (peer : Option Peer) → IsDistinct bytes_eq (read_before reader principals)
    → peer_in reader principals d ≡ Ok peer → IsDistinct bytes_eq (read_before reader principals ++ bearers_shown peer)
unfolding peer_in
peer_once reader principals d peer once h =
    let (given, has_given, h1) = stepped (optional peer_at (codes "poll") d) _ peer h in
    let (reached, has_reached, h2) = stepped (is_reached (gives_gateway d) given) _ peer h1 in
    let (own, has_own, h3) = stepped (has_own_bearer reader principals given) _ peer h2 in
    subst (λ (o : Option Peer). IsDistinct bytes_eq (read_before reader principals ++ bearers_shown o)) (ok_same given peer h3)
    (subst (λ bs. IsDistinct bytes_eq (read_before reader principals ++ bs)) (placed_shown given)
    (differ_once (read_before reader principals) (placed_peer given) own once has_own))

-- the gateway leaves the peer its bearer
shown_behind : (gateway : Option Place) (peer : Option Peer) → bearers_shown peer ≡ bearers_shown (with_gateway gateway peer)
shown_behind gateway None = refl
shown_behind gateway (Some p) = at p.endpoint.secure
  where
    at : (secure : Bool) → bearers_shown (Some p) ≡ bearers_shown (Some (if secure then record p { gateway = gateway } else p))
    at true = refl
    at false = refl

-- the bearers of requests, and all
record AreRead (rules : RxRules) : Type 0 where
  callers : IsDistinct bytes_eq (read_before rules.reader rules.principals)
  all : IsDistinct bytes_eq (bearers_in rules)

object_read : (d : Data) (s : RxSettings) → rx_settings_in d ≡ Ok s → AreRead s.rules
object_read d s h =
    let (audience, has_audience, h1) = stepped (needed text_at (codes "audience") d) _ s h in
    let (listen, has_listen, h2) = stepped (needed place_at (codes "listen") d) _ s h1 in
    let (reader, has_reader, h3) = stepped (needed bearer_at (codes "reader") d) _ s h2 in
    let (issuers, has_issuers, h4) = stepped (needed issuers_at (codes "issuers") d) _ s h3 in
    let (principals, has_principals, h5) = stepped (principals_in reader d) _ s h4 in
    let (peer, has_peer, h6) = stepped (peer_in reader principals d) _ s h5 in
    let (gateway, has_gateway, h7) = stepped (optional place_at (codes "tls_gateway") d) _ s h6 in
    let callers = principals_once reader d principals has_principals in
    let all = subst (λ bs. IsDistinct bytes_eq (read_before reader principals ++ bs)) (shown_behind gateway peer) (peer_once reader principals d peer callers has_peer) in
    subst (λ (t : RxSettings). AreRead t.rules) (ok_same _ s h7) (record { callers = callers; all = all })

settings_read : (bytes : List ℕ) (s : RxSettings) → rx_settings_of bytes ≡ Ok s → AreRead s.rules
unfolding rx_settings_of
settings_read bytes s h =
    let (d, is, rest) = stepped (settings_of bytes) rx_settings_in s h in
    object_read d s rest

pub bearers_differ : BearersDiffer
bearers_differ bytes s h = each_once (bearers_in s.rules) (settings_read bytes s h).all

callers_once : (bytes : List ℕ) (s : RxSettings) → rx_settings_of bytes ≡ Ok s → EachOnce (read_before s.rules.reader s.rules.principals)
callers_once bytes s h = each_once (read_before s.rules.reader s.rules.principals) (settings_read bytes s h).callers

pub callers_are_apart : CallersAreApart
callers_are_apart bytes s h = λ p q p_in q_in same. ap (λ (x : Principal). x.iss) (one_item bearer_of s.rules.reader s.rules.principals p q (callers_once bytes s h) p_in q_in same)

-- with a peer its bearer is the last
last_once : (rules : RxRules) (peer : Peer) → EachOnce (bearers_in rules) → rules.peer ≡ Some peer → EachOnce (read_before rules.reader rules.principals ++ peer.bearer ∷ [])
last_once rules peer once is = subst (λ (o : Option Peer). EachOnce (read_before rules.reader rules.principals ++ bearers_shown o)) is once

peer_apart : (rules : RxRules) (peer : Peer) (p : Principal) → EachOnce (read_before rules.reader rules.principals ++ peer.bearer ∷ []) → Contains rules.principals p → peer.bearer ≡ p.bearer → ⊥
peer_apart rules peer p once (k, below, is) same =
    none_last (read_before rules.reader rules.principals) peer.bearer (suc k) once (within bearer_of rules.reader rules.principals k below)
    (placed_at bearer_of rules.reader rules.principals p k below is ∙ sym same)

pub ones_own : BearersAreOnesOwn
ones_own bytes s h = record {
  principals = λ p inside same. none_first bearer_of s.rules.reader s.rules.principals p (callers_once bytes s h) inside same;
  reader = λ peer is same. none_last (read_before s.rules.reader s.rules.principals) peer.bearer 0 (last_once s.rules peer (bearers_differ bytes s h) is) (omega arith) (sym same);
  peers = λ peer p is inside same. peer_apart s.rules peer p (last_once s.rules peer (bearers_differ bytes s h) is) inside same;
}

-- ---- what requests ask

some_same : {T : Type 0} (x y : T) → ◌≡◌ {A = Option T} (Some x) (Some y) → x ≡ y
some_same x y h = cc

principal_asks : (rules : RxRules) (shown : Option (List ℕ)) (p : Principal) (asked : RxCall) → HaveTheirOwn rules → Contains rules.principals p → shown ≡ Some p.bearer
    → MayMake rules shown asked → SpeaksFor p.iss asked → IsPush (Some p.iss) asked
principal_asks rules shown p (call.Token principal named bytes) own inside shows may speaks = speaks
principal_asks rules shown p (call.Verdict subject) own inside shows may speaks = own.principals p inside (some_same p.bearer rules.reader (sym shows ∙ may))
principal_asks rules shown p (call.Rows from) own inside shows may speaks = own.principals p inside (some_same p.bearer rules.reader (sym shows ∙ may))
principal_asks rules shown p call.Figures own inside shows may speaks = own.principals p inside (some_same p.bearer rules.reader (sym shows ∙ may))

-- a bearer of no principal speaks for nobody
nobody : (rules : RxRules) (shown : Option (List ℕ)) (bearer : List ℕ) (principal : Option (List ℕ)) → ((p : Principal) → Contains rules.principals p → bearer ≡ p.bearer → ⊥)
    → shown ≡ Some bearer → IfSome principal (HasBearer rules shown) → principal ≡ None
nobody rules shown bearer None none shows may = refl
nobody rules shown bearer (Some iss) none shows (p, inside, named, has) = absurd (none p inside (some_same bearer p.bearer (sym shows ∙ has)))

reader_asks : (rules : RxRules) (shown : Option (List ℕ)) (asked : RxCall) → HaveTheirOwn rules → shown ≡ Some rules.reader → MayMake rules shown asked → SpeaksForNobody asked
reader_asks rules shown (call.Token principal named bytes) own shows may = nobody rules shown rules.reader principal (λ p inside same. own.principals p inside (sym same)) shows may
reader_asks rules shown (call.Verdict subject) own shows may = tt
reader_asks rules shown (call.Rows from) own shows may = tt
reader_asks rules shown call.Figures own shows may = tt

peer_asks : (rules : RxRules) (shown : Option (List ℕ)) (peer : Peer) (asked : RxCall) → HaveTheirOwn rules → rules.peer ≡ Some peer → shown ≡ Some peer.bearer
    → MayMake rules shown asked → IsPush None asked
peer_asks rules shown peer (call.Token principal named bytes) own is shows may = nobody rules shown peer.bearer principal (λ p inside same. own.peers peer p is inside same) shows may
peer_asks rules shown peer (call.Verdict subject) own is shows may = own.reader peer is (some_same peer.bearer rules.reader (sym shows ∙ may))
peer_asks rules shown peer (call.Rows from) own is shows may = own.reader peer is (some_same peer.bearer rules.reader (sym shows ∙ may))
peer_asks rules shown peer call.Figures own is shows may = own.reader peer is (some_same peer.bearer rules.reader (sym shows ∙ may))

pub principals_for_themselves : PrincipalsPushForThemselves
principals_for_themselves bytes s request p asked h inside shown asks =
    principal_asks s.rules request.bearer p asked (ones_own bytes s h) inside shown (bearers_decide request s.rules asked asks)
    (principals_speak_for_themselves request s.rules p asked (callers_are_apart bytes s h) inside shown asks)

pub readers_for_nobody : ReadersSpeakForNobody
readers_for_nobody bytes s request asked h shown asks = reader_asks s.rules request.bearer asked (ones_own bytes s h) shown (bearers_decide request s.rules asked asks)

pub peers_nothing : PeersAskNothing
peers_nothing bytes s request peer asked h is shown asks = peer_asks s.rules request.bearer peer asked (ones_own bytes s h) is shown (bearers_decide request s.rules asked asks)
