use Rattle.std.proofs.Common.{ap, ◌∙◌}
use Rattle.serde_json.specs.Written.{has_float}
use Rattle.sig_set.proofs.WholePayloads.{payload_whole}
use Rattle.sig_set.proofs.writing.payload_text.Goals as goal

pub text_bytes-requires : goal.text_bytes-requires
text_bytes-requires c = ap has_float c.in_ok-payload.ensures ∙ payload_whole c.args.claims.now
