use Rattle.sig_event.proofs.SameNews.{reads_proper_news}
use Rattle.sig_event.proofs.laws.read_news_are_proper.Goals as goal

pub returns : goal.returns
returns c = reads_proper_news
