use Rattle.std.proofs.Common.{◌≡◌, ℕ, ◌+◌, ◌∙◌, List, Ok, IfSome, take, ap, sym, subst}
use Rattle.sig_json.specs.declared.limits.TheConstants.{SETTINGS_BYTES}
use Rattle.sig_opening.proofs.SettingsLemmas.{read_refused, read_says}
use Rattle.sig_opening.specs.Settings.{HaltsSettings}
use Rattle.sig_opening.specs.declared.unread.Unread.{Unread}
use Rattle.sig_txsettings.specs.Settings.{tx_settings_of}
use Rattle.sig_serve.proofs.SettingsLemmas.{tx_cut}
use Rattle.sig_serve.proofs.settings.settings_from.Goals as goal

pub returns-in-Ok-tx_settings-clause-says : goal.returns-in-Ok-tx_settings-clause-says
returns-in-Ok-tx_settings-clause-says g c =
    read_says tx_settings_of tx_cut _ c.in-Ok.bytes.items (Ok c.in-Ok-tx_settings.said) c.in-Ok.ensures.bytes (ap tx_settings_of (sym c.as_slice-text.ensures.value) ∙ c.in-Ok-tx_settings.ensures.told)

pub returns-in-Ok-clause-halts : goal.returns-in-Ok-clause-halts
returns-in-Ok-clause-halts g c =
    let told = g.X.Outside.settings_of c.args.outside.now c.args.name.now in
    let whole : IfSome told (λ all. c.as_slice-text.result.now ≡ take (SETTINGS_BYTES + 1) all) =
    subst (λ (bytes : List ℕ). IfSome told (λ all. bytes ≡ take (SETTINGS_BYTES + 1) all)) (sym c.as_slice-text.ensures.value) c.in-Ok.ensures.bytes in
    let faults = g.X.Outside.settings_faults c.args.outside.now in
    let read = g.X.Outside.settings_faults c.bytes_from.new.outside in
    subst (λ (n : ℕ). HaltsSettings tx_settings_of (c.of_settings.result) told faults n) (sym c.tell_strays.ensures.settings.1)
    (subst (λ (u : Unread). HaltsSettings tx_settings_of u told faults read) (sym c.of_settings.ensures)
    (read_refused tx_settings_of tx_cut told c.as_slice-text.result.now c.in-Err-tx_settings.fault _ _ whole c.in-Err-tx_settings.ensures.told))
