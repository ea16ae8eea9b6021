use Rattle.std.proofs.Common.{◌≡◌, ℕ, ◌+◌, ◌∙◌, List, Ok, IfSome, take, ap, sym, subst}
use Rattle.sig_json.specs.declared.limits.TheConstants.{SETTINGS_BYTES}
use Rattle.sig_declared.specs.Settings.{manage_settings_of}
use Rattle.sig_opening.proofs.SettingsLemmas.{read_refused, read_says}
use Rattle.sig_opening.specs.Settings.{HaltsSettings}
use Rattle.sig_opening.specs.declared.unread.Unread.{Unread}
use Rattle.sig_managing.proofs.SettingsLemmas.{manage_cut}
use Rattle.sig_managing.proofs.running.settings_from.Goals as goal

pub returns-in-Ok-manage_settings-clause-says : goal.returns-in-Ok-manage_settings-clause-says
returns-in-Ok-manage_settings-clause-says g c =
    read_says manage_settings_of manage_cut _ c.in-Ok.bytes.items (Ok c.in-Ok-manage_settings.said) c.in-Ok.ensures.bytes
    (ap manage_settings_of (sym c.as_slice.ensures.value) ∙ c.in-Ok-manage_settings.ensures.told)

pub returns-in-Ok-clause-halts : goal.returns-in-Ok-clause-halts
returns-in-Ok-clause-halts g c =
    let told = g.X.Outside.settings_of c.args.outside.now c.args.name.now in
    let whole : IfSome told (λ all. c.as_slice.result.now ≡ take (SETTINGS_BYTES + 1) all) =
    subst (λ (bytes : List ℕ). IfSome told (λ all. bytes ≡ take (SETTINGS_BYTES + 1) all)) (sym c.as_slice.ensures.value) c.in-Ok.ensures.bytes in
    let faults = g.X.Outside.settings_faults c.args.outside.now in
    let read = g.X.Outside.settings_faults c.bytes_from.new.outside in
    subst (λ (u : Unread). HaltsSettings manage_settings_of u told faults read) (sym c.of_settings.ensures)
    (read_refused manage_settings_of manage_cut told c.as_slice.result.now c.in-Err-manage_settings.fault _ _ whole c.in-Err-manage_settings.ensures.told)
