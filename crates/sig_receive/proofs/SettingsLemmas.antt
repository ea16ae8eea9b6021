-- What is read of a receiver's settings is what they say.
use Rattle.std.proofs.Common.{◌≡◌, ◌∙◌, ℕ, ◌+◌, List, Option, Some, None, Result, Err, IfSome, take, ap, sym, subst, codes, inl, inr}
use Rattle.std.specs.Prelude.{◌⊎◌}
use Rattle.serde_json.specs.Data.{Data}
use Rattle.sig_json.specs.declared.limits.TheConstants.{SETTINGS_BYTES}
use Rattle.sig_stream.specs.Steps.{◌>>=◌}
use Rattle.sig_settings.specs.declared.fault.SettingsFault.{SettingsFault}
use Rattle.sig_rxsettings.specs.Settings.{rx_settings_in, rx_settings_of}
use Rattle.sig_settings.specs.declared.fault.SettingsFault.TheVariants as settings
use Rattle.sig_opening.proofs.SettingsLemmas.{settings_cut}
use Rattle.sig_opening.specs.Settings.{HaltsSettings}
use Rattle.sig_opening.specs.declared.unread.Unread.{Unread}
use Rattle.sig_opening.specs.declared.unread.Unread.TheVariants as unread
use Rattle.sig_rxnode.specs.declared.rules.Peer.{Peer}
use Rattle.sig_rxsettings.specs.declared.settings.RxSettings.{RxSettings}
use Rattle.sig_receive.specs.Ends.{Says}
use Rattle.sig_receive.specs.Peers.{FetchRefused, SaysFetch, fetch_settings_of, needs_peer, with_peer}

-- settings that are too long are refused by as many bytes as are read of them
pub rx_cut : (all : List ℕ) → rx_settings_of (take (SETTINGS_BYTES + 1) all) ≡ rx_settings_of all
unfolding rx_settings_of
rx_cut all = ap (λ (d : Result Data SettingsFault). d >>= rx_settings_in) (settings_cut all)

-- ---- settings of a fetch

-- settings that name a peer say this of a fetch
pub says_fetch : (told : Option (List ℕ)) (said : RxSettings) (peer : Peer) → Says told said → said.rules.peer ≡ Some peer → SaysFetch told (record { said = said; peer = peer })
says_fetch None said peer says named = tt
says_fetch (Some bytes) said peer says named = ap (λ (r : Result RxSettings SettingsFault). r >>= needs_peer) says ∙ ap (with_peer said) named

-- what is refused of a receiver's settings is refused of a fetch's
pub halts_fetch : (cause : Unread) (told : Option (List ℕ)) (before now : ℕ) → HaltsSettings rx_settings_of cause told before now → HaltsSettings fetch_settings_of cause told before now
halts_fetch unread.Failed told before now h = h
halts_fetch unread.Memory told before now h = tt
halts_fetch (unread.Refused member) told before now h = refused told member h
  where
    refused : (told : Option (List ℕ)) (member : List ℕ) → IfSome told (λ bytes. rx_settings_of bytes ≡ Err (settings.Refused member)) → FetchRefused told member
    refused None member h = tt
    refused (Some bytes) member h = ap (λ (r : Result RxSettings SettingsFault). r >>= needs_peer) h

-- and they are refused at `poll` where they name none
pub halts_poll : (cause : Unread) (told : Option (List ℕ)) (said : RxSettings) (before now : ℕ) → Says told said
    → (cause ≡ unread.Memory) ⊎ ((cause ≡ unread.Refused (codes "poll")) × (said.rules.peer ≡ None)) → HaltsSettings fetch_settings_of cause told before now
halts_poll cause told said before now says (inl memory) = subst (λ (c : Unread). HaltsSettings fetch_settings_of c told before now) (sym memory) tt
halts_poll cause told said before now says (inr h) = subst (λ (c : Unread). HaltsSettings fetch_settings_of c told before now) (sym h.0) (refused told said says h.1)
  where
    refused : (told : Option (List ℕ)) (said : RxSettings) → Says told said → said.rules.peer ≡ None → FetchRefused told (codes "poll")
    refused None said says none = tt
    refused (Some bytes) said says none = ap (λ (r : Result RxSettings SettingsFault). r >>= needs_peer) says ∙ ap (with_peer said) none
