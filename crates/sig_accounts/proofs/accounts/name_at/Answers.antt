use Rattle.std.proofs.Common.{◌∙◌, ap, sym, length, Some}
use Rattle.std.proofs.lemmas.Bool.{ltb-true}
use Rattle.std.specs.Prelude.{option_map}
use Rattle.sig_terms.specs.declared.configuration.StreamConf.{StreamConf}
use Rattle.sig_accounts.specs.Owings.{Balance}
use Rattle.sig_accounts.proofs.NameLemmas.{names_at, got}
use Rattle.sig_accounts.proofs.accounts.name_at.Goals as goal

pub returns-in-Some : goal.returns-in-Some
returns-in-Some c =
    ap (λ (conf : StreamConf). Some conf.stream) c.conf.ensures
    ∙ sym (names_at c.args.accounts.now c.args.place ∙ ap (option_map (λ (b : Balance). b.owing.stream.conf.stream)) (got c.args.accounts.now c.args.place c.in-Some.account.now (ltb-true c.args.place (length c.args.accounts.now) (sym c.in-Some.ensures.lookup.0)) c.in-Some.ensures.lookup.1))
