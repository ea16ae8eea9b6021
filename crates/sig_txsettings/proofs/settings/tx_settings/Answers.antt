use Rattle.sig_txsettings.proofs.ProperSettings.{proper_answer}
use Rattle.sig_txsettings.proofs.settings.tx_settings.Goals as goal

pub returns-clause-proper : goal.returns-clause-proper
returns-clause-proper c = proper_answer _ _ _ _ c.in_ok-settings.ensures c.tx_settings_in.ensures
