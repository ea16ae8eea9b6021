use Rattle.sig_declared.proofs.ReadSettings.{right_answer, where_right}
use Rattle.sig_declared.proofs.settings.manage_settings.Goals as goal

pub returns-clause-declared : goal.returns-clause-declared
returns-clause-declared c = where_right _ (λ s right. right.declared) _ (right_answer _ _ _ c.manage_settings_in.ensures)

pub returns-clause-said : goal.returns-clause-said
returns-clause-said c = where_right _ (λ s right. right.said) _ (right_answer _ _ _ c.manage_settings_in.ensures)

pub returns-clause-reached : goal.returns-clause-reached
returns-clause-reached c = where_right _ (λ s right. right.reached) _ (right_answer _ _ _ c.manage_settings_in.ensures)

pub returns-clause-path : goal.returns-clause-path
returns-clause-path c = where_right _ (λ s right. right.path) _ (right_answer _ _ _ c.manage_settings_in.ensures)
