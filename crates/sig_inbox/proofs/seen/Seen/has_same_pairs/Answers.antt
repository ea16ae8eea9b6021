use Rattle.std.proofs.lemmas.Slice.Eq.{slice_eq-Decides}
use Rattle.sig_inbox.proofs.Distinct.{pair_decided}
use Rattle.sig_inbox.proofs.seen.Seen.has_same_pairs.Goals as goal

pub returns : goal.returns
returns c = slice_eq-Decides pair_decided _ _ _ c.eq.ensures
