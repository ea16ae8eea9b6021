use Rattle.std.proofs.Common.{ap, ◌∙◌}
use Rattle.std.proofs.lemmas.Str.{IsUtf8-string_bytes}
use Rattle.sig_json.specs.Json.{json_of}
use Rattle.sig_json.proofs.JsonLemmas.{json_of-utf8}
use Rattle.sig_json.proofs.canonical.canon.Goals as goal

pub returns-clause-back : goal.returns-clause-back
returns-clause-back c = λ shallow.
    ap json_of c.from_string.ensures ∙ json_of-utf8 _ (IsUtf8-string_bytes c.in_ok-to_string.field-0) ∙ c.in_ok-to_string.ensures.reads_back shallow
