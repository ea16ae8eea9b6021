-- The rules of settings, from the fourth member on: what all members give, and what a wrong one does.
use Rattle.std.proofs.Common.{◌≡◌, ℕ, List, Option, refl, inl, inr}
use Rattle.std.specs.Prelude.{Result, Ok, Err, codes, ◌⊎◌}
use Rattle.serde_json.specs.Data.{Data}
use Rattle.sig_json.specs.Answers.{Answers}
use Rattle.sig_outside.specs.declared.place.Place.{Place}
use Rattle.sig_jws.specs.declared.key.Key.{Key}
use Rattle.sig_terms.specs.declared.rules.Client.{Client}
use Rattle.sig_terms.specs.declared.rules.Rules.{Rules}
use Rattle.sig_terms.specs.declared.want.Defaults.{Defaults}
use Rattle.sig_settings.specs.declared.fault.SettingsFault.{SettingsFault}
use Rattle.sig_settings.specs.Keys.{key_at}
use Rattle.sig_settings.specs.Members.{needed, optional}
use Rattle.sig_settings.specs.Places.{place_at}
use Rattle.sig_settings.specs.Texts.{bearer_at}
use Rattle.sig_txsettings.specs.Clients.{clients_in}
use Rattle.sig_txsettings.specs.Settings.{rules_in}
use Rattle.sig_txsettings.specs.Values.{defaults_at, interval_at}

-- the four members before the clients
pub record Begun (d : Data) (operator : List ℕ) (defaults : Defaults) (interval : ℕ) (key : Key) : Type 0 where
  pub operator_is : needed bearer_at (codes "operator") d ≡ Ok operator
  pub defaults_is : needed defaults_at (codes "default_subjects") d ≡ Ok defaults
  pub interval_is : needed interval_at (codes "min_verification_interval") d ≡ Ok interval
  pub key_is : needed key_at (codes "key") d ≡ Ok key

pub all_read : (issuer base : List ℕ) (d : Data) (operator : List ℕ) (defaults : Defaults) (interval : ℕ) (key : Key) (clients : List Client) (gateway : Option Place)
    → Begun d operator defaults interval key → clients_in operator d ≡ Ok clients → optional place_at (codes "tls_gateway") d ≡ Ok gateway
    → rules_in issuer base d ≡ Ok (record { issuer = issuer; base = base; defaults = defaults; interval = interval; gateway = gateway; operator = operator; clients = clients; key = key })
all_read issuer base d operator defaults interval key clients gateway b h5 h6 =
    rw (b.operator_is, b.defaults_is, b.interval_is, b.key_is, h5, h6) refl

clients_wrong : (issuer base : List ℕ) (d : Data) (operator : List ℕ) (defaults : Defaults) (interval : ℕ) (key : Key) (fault : SettingsFault)
    → Begun d operator defaults interval key → clients_in operator d ≡ Err fault → rules_in issuer base d ≡ Err fault
clients_wrong issuer base d operator defaults interval key fault b h5 = rw (b.operator_is, b.defaults_is, b.interval_is, b.key_is, h5) refl

gateway_wrong : (issuer base : List ℕ) (d : Data) (operator : List ℕ) (defaults : Defaults) (interval : ℕ) (key : Key) (clients : List Client) (fault : SettingsFault)
    → Begun d operator defaults interval key → clients_in operator d ≡ Ok clients → optional place_at (codes "tls_gateway") d ≡ Err fault → rules_in issuer base d ≡ Err fault
gateway_wrong issuer base d operator defaults interval key clients fault b h5 h6 =
    rw (b.operator_is, b.defaults_is, b.interval_is, b.key_is, h5, h6) refl

pub clients_refused : (issuer base : List ℕ) (d : Data) (operator : List ℕ) (defaults : Defaults) (interval : ℕ) (key : Key) (short fault : SettingsFault)
    → Begun d operator defaults interval key → (fault ≡ short) ⊎ (clients_in operator d ≡ Err fault) → (fault ≡ short) ⊎ (rules_in issuer base d ≡ Err fault)
clients_refused issuer base d operator defaults interval key short fault b (inl h) = inl h
clients_refused issuer base d operator defaults interval key short fault b (inr h) = inr (clients_wrong issuer base d operator defaults interval key fault b h)

pub gateway_refused : (issuer base : List ℕ) (d : Data) (operator : List ℕ) (defaults : Defaults) (interval : ℕ) (key : Key) (clients : List Client) (short fault : SettingsFault)
    → Begun d operator defaults interval key → clients_in operator d ≡ Ok clients
    → (fault ≡ short) ⊎ (optional place_at (codes "tls_gateway") d ≡ Err fault) → (fault ≡ short) ⊎ (rules_in issuer base d ≡ Err fault)
gateway_refused issuer base d operator defaults interval key clients short fault b h5 (inl h) = inl h
gateway_refused issuer base d operator defaults interval key clients short fault b h5 (inr h) =
    inr (gateway_wrong issuer base d operator defaults interval key clients fault b h5 h)
