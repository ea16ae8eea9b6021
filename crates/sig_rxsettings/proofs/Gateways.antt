-- A peer that is reached by `https` has its gateway.
use Rattle.std.proofs.Common.{◌≡◌, ◌∙◌, ap, sym, subst, ℕ, List, Bool, true, false, Option, Some, None, refl, true≢false}
use Rattle.std.specs.Prelude.{Result, Ok, Err, IfOk, is_some, IsSome, IfSome, not, ◌&&◌, codes, if◌then◌else◌}
use Rattle.serde_json.specs.Data.{Data}
use Rattle.sig_json.specs.Answers.{Answers, result_map}
use Rattle.sig_json.specs.Json.{member_of}
use Rattle.sig_outside.specs.declared.place.Place.{Place}
use Rattle.sig_rxnode.specs.declared.rules.Peer.{Peer}
use Rattle.sig_stream.specs.Steps as results
use Rattle.sig_stream.specs.Steps.{where_given}
use Rattle.sig_settings.specs.declared.fault.SettingsFault.{SettingsFault}
use Rattle.sig_settings.specs.declared.fault.ValueFault.{ValueFault}
use Rattle.sig_settings.specs.Members.{needed, optional}
use Rattle.sig_settings.specs.Objects.{settings_of}
use Rattle.sig_settings.specs.Places.{place_at}
use Rattle.sig_settings.specs.Texts.{bearer_at, text_at}
use Rattle.sig_settings.proofs.Steps.{ok_same, optional_is, stepped, under_ok}
use Rattle.sig_rxsettings.specs.declared.settings.RxSettings.{RxSettings}
use Rattle.sig_rxsettings.specs.Issuers.{issuers_at}
use Rattle.sig_rxsettings.specs.Peers.{HasItsGateway, gives_gateway, has_own_bearer, is_reached, peer_at, peer_in, with_gateway, behind_gateway}
use Rattle.sig_rxsettings.specs.Principals.{principals_in}
use Rattle.sig_rxsettings.specs.Settings.{rx_settings_in, rx_settings_of}

-- ---- the gateway

-- a member that is there and is read as something is there
given : {T : Type 0} (kind : Data → Result T ValueFault) (o : Option Data) (x : Option T) → is_some o ≡ true → where_given kind o ≡ Ok x → IsSome x
given kind None x there h = absurd (true≢false (sym there))
given {T} kind (Some d) x there h = at (kind d) h
  where
    at : (r : Result T ValueFault) → ◌≡◌ {A = Result (Option T) ValueFault} (result_map (λ y. Some y) r) (Ok x) → IsSome x
    at (Err e) h = cc
    at (Ok y) h = let same : Some y ≡ x = cc in subst IsSome same refl

-- a peer of `https` was taken only where there is a gateway
needs : (gateway : Bool) (peer : Option Peer) (taken : Unit {0}) → is_reached gateway peer ≡ Ok taken → IfSome peer (λ p. p.endpoint.secure ≡ true → gateway ≡ true)
needs gateway None taken h = tt
needs gateway (Some p) taken h = λ is. at p.endpoint.secure gateway _ is h
  where
    at : (secure has : Bool) (fault : SettingsFault) → secure ≡ true → ◌≡◌ {A = Result (Unit {0}) SettingsFault} (if secure && not has then Err fault else Ok tt) (Ok taken) → has ≡ true
    at true true fault is h = refl
    at true false fault is h = cc
    at false has fault is h = absurd (true≢false (sym is))

reaches : (gateway : Option Place) (has : Bool) (peer : Option Peer) → IfSome peer (λ p. p.endpoint.secure ≡ true → has ≡ true) → (has ≡ true → IsSome gateway) → IfSome (with_gateway gateway peer) HasItsGateway
reaches gateway has None h there = tt
reaches gateway has (Some p) h there = at p.endpoint.secure refl
  where
    at : (secure : Bool) → p.endpoint.secure ≡ secure → HasItsGateway (if secure then record p { gateway = gateway } else p)
    at true is = λ _. there (h is)
    at false is = λ e. absurd (true≢false (sym e ∙ is))

object_reaches : (d : Data) (s : RxSettings) → rx_settings_in d ≡ Ok s → IfSome s.rules.peer HasItsGateway
unfolding peer_in
object_reaches d s h =
    let (audience, has_audience, h1) = stepped (needed text_at (codes "audience") d) _ s h in
    let (listen, has_listen, h2) = stepped (needed place_at (codes "listen") d) _ s h1 in
    let (reader, has_reader, h3) = stepped (needed bearer_at (codes "reader") d) _ s h2 in
    let (issuers, has_issuers, h4) = stepped (needed issuers_at (codes "issuers") d) _ s h3 in
    let (principals, has_principals, h5) = stepped (principals_in reader d) _ s h4 in
    let (peer, has_peer, h6) = stepped (peer_in reader principals d) _ s h5 in
    let (gateway, has_gateway, h7) = stepped (optional place_at (codes "tls_gateway") d) _ s h6 in
    let (given_peer, has_given, p1) = stepped (optional peer_at (codes "poll") d) _ peer has_peer in
    let (reached, has_reached, p2) = stepped (is_reached (gives_gateway d) given_peer) _ peer p1 in
    let (own, has_own, p3) = stepped (has_own_bearer reader principals given_peer) _ peer p2 in
    let taken : IfSome peer (λ p. p.endpoint.secure ≡ true → gives_gateway d ≡ true) =
    subst (λ o. IfSome o (λ (p : Peer). p.endpoint.secure ≡ true → gives_gateway d ≡ true)) (ok_same given_peer peer p3) (needs (gives_gateway d) given_peer reached has_reached) in
    subst (λ (t : RxSettings). IfSome t.rules.peer HasItsGateway) (ok_same _ s h7)
    (reaches gateway (gives_gateway d) peer taken
    (λ has. given place_at (member_of (codes "tls_gateway") d) gateway has (under_ok _ _ gateway (optional_is place_at (codes "tls_gateway") d gateway has_gateway))))

-- what bytes say
pub settings_reach : (bytes : List ℕ) (s : RxSettings) → rx_settings_of bytes ≡ Ok s → IfSome s.rules.peer HasItsGateway
unfolding rx_settings_of
settings_reach bytes s h =
    let (d, is, rest) = stepped (settings_of bytes) rx_settings_in s h in
    object_reaches d s rest

-- what is answered where an object was read
pub reached_answer : (bytes : List ℕ) (d : Data) (fault : SettingsFault) (r : Result RxSettings SettingsFault) → settings_of bytes ≡ Ok d → Answers fault r (rx_settings_in d) → IfOk r (λ s. IfSome s.rules.peer HasItsGateway)
unfolding rx_settings_of
reached_answer bytes d fault (Ok s) is h = settings_reach bytes s (ap (λ r. results.◌>>=◌ r rx_settings_in) is ∙ h)
reached_answer bytes d fault (Err e) is h = tt
