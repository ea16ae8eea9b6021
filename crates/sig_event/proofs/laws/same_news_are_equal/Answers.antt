use Rattle.sig_event.proofs.SameNews.{same_news_equal}
use Rattle.sig_event.proofs.laws.same_news_are_equal.Goals as goal

pub returns : goal.returns
returns c = same_news_equal
