-- The settings of `manage`: what all members give, and what a wrong gateway does.
use Rattle.std.proofs.Common.{◌≡◌, ℕ, List, Option, refl, inl, inr}
use Rattle.std.specs.Prelude.{Ok, Err, codes, ◌⊎◌}
use Rattle.serde_json.specs.Data.{Data}
use Rattle.sig_outside.specs.declared.place.Place.{Place}
use Rattle.sig_terms.specs.declared.endpoint.Endpoint.{Endpoint}
use Rattle.sig_settings.specs.declared.fault.SettingsFault.{SettingsFault}
use Rattle.sig_settings.specs.Members.{needed, optional}
use Rattle.sig_settings.specs.Places.{place_at}
use Rattle.sig_settings.specs.Texts.{bearer_at}
use Rattle.sig_declared.specs.declared.declared.Declared.{Declared}
use Rattle.sig_declared.specs.declared.provider.Provider.{Provider}
use Rattle.sig_declared.specs.Providers.{endpoint_in, provider_of}
use Rattle.sig_declared.specs.Settings.{manage_settings_in}
use Rattle.sig_declared.specs.Streams.{streams_at}

-- the members before the gateway
pub record Begun (d : Data) (bearer : List ℕ) (endpoint : Endpoint) (declared : List Declared) : Type 0 where
  pub bearer_is : needed bearer_at (codes "bearer") d ≡ Ok bearer
  pub endpoint_is : endpoint_in d ≡ Ok endpoint
  pub declared_is : needed streams_at (codes "streams") d ≡ Ok declared

pub all_read : (d : Data) (bearer : List ℕ) (endpoint : Endpoint) (declared : List Declared) (gateway : Option Place) (provider : Provider)
    → Begun d bearer endpoint declared → optional place_at (codes "tls_gateway") d ≡ Ok gateway → provider ≡ provider_of bearer endpoint gateway
    → manage_settings_in d ≡ Ok (record { provider = provider; declared = declared })
all_read d bearer endpoint declared gateway provider b h provider_is = rw (b.bearer_is, b.endpoint_is, b.declared_is, h, provider_is) refl

gateway_wrong : (d : Data) (bearer : List ℕ) (endpoint : Endpoint) (declared : List Declared) (fault : SettingsFault)
    → Begun d bearer endpoint declared → optional place_at (codes "tls_gateway") d ≡ Err fault → manage_settings_in d ≡ Err fault
gateway_wrong d bearer endpoint declared fault b h = rw (b.bearer_is, b.endpoint_is, b.declared_is, h) refl

pub gateway_refused : (d : Data) (bearer : List ℕ) (endpoint : Endpoint) (declared : List Declared) (short fault : SettingsFault)
    → Begun d bearer endpoint declared
    → (fault ≡ short) ⊎ (optional place_at (codes "tls_gateway") d ≡ Err fault) → (fault ≡ short) ⊎ (manage_settings_in d ≡ Err fault)
gateway_refused d bearer endpoint declared short fault b (inl h) = inl h
gateway_refused d bearer endpoint declared short fault b (inr h) = inr (gateway_wrong d bearer endpoint declared fault b h)
