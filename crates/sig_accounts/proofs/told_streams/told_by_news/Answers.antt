use Rattle.std.proofs.Common.{◌∙◌, sym, arith}
use Rattle.sig_accounts.proofs.ListeningLemmas.{heard_here}
use Rattle.sig_accounts.proofs.told_streams.told_by_news.Goals as goal

pub heard_at-requires : goal.heard_at-requires
heard_at-requires c = c.requires.listening.below

pub is_told_of-requires-clause-heard : goal.is_told_of-requires-clause-heard
is_told_of-requires-clause-heard c = λ listed.
    c.has-heard.ensures ∙ heard_here c.args.news.now.subject c.args.listeners.now c.args.accounts.now c.loop-place.place c.index-accounts-place.result _ c.requires.listening
    (omega arith) c.index-accounts-place.is c.in_ok-heard.ensures listed
