use Rattle.std.proofs.Common.{arith}
use Rattle.std.proofs.lemmas.Str.Pattern.{strip_prefix_char}
use Rattle.sig_http.specs.Targets.{slash}
use Rattle.sig_http.proofs.TargetLemmas.{slash_stripped}
use Rattle.sig_http.proofs.target.after_slash.Goals as goal

pub returns : goal.returns
returns c = slash_stripped c.args.text.now _ (strip_prefix_char slash c.args.text.now _ c.strip_prefix.ensures.cases (omega arith))
