-- The settings of a receiver: what all members give, and what a wrong gateway does.
use Rattle.std.proofs.Common.{◌≡◌, ℕ, List, Option, refl, inl, inr, subst}
use Rattle.std.specs.Prelude.{Result, Ok, Err, codes, ◌⊎◌}
use Rattle.serde_json.specs.Data.{Data}
use Rattle.sig_outside.specs.declared.place.Place.{Place}
use Rattle.sig_set.specs.declared.trust.Issuer.{Issuer}
use Rattle.sig_rxnode.specs.declared.rules.Peer.{Peer}
use Rattle.sig_rxnode.specs.declared.rules.Principal.{Principal}
use Rattle.sig_settings.specs.declared.fault.SettingsFault.{SettingsFault}
use Rattle.sig_settings.specs.Members.{needed, optional}
use Rattle.sig_settings.specs.Places.{place_at}
use Rattle.sig_settings.specs.Texts.{bearer_at, text_at}
use Rattle.sig_rxsettings.specs.Issuers.{issuers_at}
use Rattle.sig_rxsettings.specs.Peers.{peer_in, with_gateway}
use Rattle.sig_rxsettings.specs.Principals.{principals_in}
use Rattle.sig_rxsettings.specs.Settings.{rx_settings_in}

-- the peer that was read over a list's items, as over the list
pub peer_read : (reader : List ℕ) (principals items : List Principal) (d : Data) (peer : Option Peer) → items ≡ principals → peer_in reader items d ≡ Ok peer → peer_in reader principals d ≡ Ok peer
peer_read reader principals items d peer is h = subst (λ (ps : List Principal). peer_in reader ps d ≡ Ok peer) is h

-- the members before the gateway
pub record Begun (d : Data) (audience : List ℕ) (listen : Place) (reader : List ℕ) (issuers : List Issuer) (principals : List Principal) (peer : Option Peer) : Type 0 where
  pub audience_is : needed text_at (codes "audience") d ≡ Ok audience
  pub listen_is : needed place_at (codes "listen") d ≡ Ok listen
  pub reader_is : needed bearer_at (codes "reader") d ≡ Ok reader
  pub issuers_is : needed issuers_at (codes "issuers") d ≡ Ok issuers
  pub principals_is : principals_in reader d ≡ Ok principals
  pub peer_is : peer_in reader principals d ≡ Ok peer

pub all_read : (d : Data) (audience : List ℕ) (listen : Place) (reader : List ℕ) (issuers : List Issuer) (principals : List Principal) (peer : Option Peer) (gateway : Option Place) (placed : Option Peer)
    → Begun d audience listen reader issuers principals peer → optional place_at (codes "tls_gateway") d ≡ Ok gateway → placed ≡ with_gateway gateway peer
    → rx_settings_in d ≡ Ok (record { rules = record { trust = record { audience = audience; issuers = issuers }; principals = principals; reader = reader; peer = placed }; listen = listen })
all_read d audience listen reader issuers principals peer gateway placed b h placed_is =
    rw (b.audience_is, b.listen_is, b.reader_is, b.issuers_is, b.principals_is, b.peer_is, h, placed_is) refl

gateway_wrong : (d : Data) (audience : List ℕ) (listen : Place) (reader : List ℕ) (issuers : List Issuer) (principals : List Principal) (peer : Option Peer) (fault : SettingsFault)
    → Begun d audience listen reader issuers principals peer → optional place_at (codes "tls_gateway") d ≡ Err fault → rx_settings_in d ≡ Err fault
gateway_wrong d audience listen reader issuers principals peer fault b h =
    rw (b.audience_is, b.listen_is, b.reader_is, b.issuers_is, b.principals_is, b.peer_is, h) refl

pub gateway_refused : (d : Data) (audience : List ℕ) (listen : Place) (reader : List ℕ) (issuers : List Issuer) (principals : List Principal) (peer : Option Peer) (short fault : SettingsFault)
    → Begun d audience listen reader issuers principals peer
    → (fault ≡ short) ⊎ (optional place_at (codes "tls_gateway") d ≡ Err fault) → (fault ≡ short) ⊎ (rx_settings_in d ≡ Err fault)
gateway_refused d audience listen reader issuers principals peer short fault b (inl h) = inl h
gateway_refused d audience listen reader issuers principals peer short fault b (inr h) = inr (gateway_wrong d audience listen reader issuers principals peer fault b h)
