use Rattle.sig_rxsettings.proofs.Gateways.{reached_answer}
use Rattle.sig_rxsettings.proofs.settings.rx_settings.Goals as goal

pub returns-clause-reached : goal.returns-clause-reached
returns-clause-reached c = reached_answer _ _ _ _ c.in_ok-settings.ensures c.rx_settings_in.ensures
