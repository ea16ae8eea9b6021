use Rattle.std.proofs.Common.{ap, ◌∙◌}
use Rattle.serde_json.specs.Written.{has_float}
use Rattle.sig_txroutes.proofs.WholeDocuments.{told_page_whole}
use Rattle.sig_txroutes.proofs.answering.listed_with.Goals as goal

pub telling-requires : goal.telling-requires
telling-requires c = ap has_float c.in_ok-value.ensures ∙ told_page_whole c.args.next c.args.streams.now
