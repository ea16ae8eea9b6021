use Rattle.std.proofs.Common.{sym, ◌∙◌}
use Rattle.sig_txend.proofs.FollowLemmas.{follows_none_told, follows_out_told}
use Rattle.sig_txend.proofs.end.TxEndEnd.follow.Goals as goal

pub returns-in-Ok-None : goal.returns-in-Ok-None
returns-in-Ok-None g c =
    follows_none_told _ _ _ _ _ _ _ c.push_reserved.ensures.items _ c.tell_news.ensures (sym c.in-Ok-None.field-0-is ∙ c.in-Ok-None.ensures.streams)

pub returns-in-Err : goal.returns-in-Err
returns-in-Err g c =
    follows_out_told _ _ _ _ _ _ _ c.push_reserved.ensures.items _ c.tell_news.ensures c.in-Err.ensures.memory
