-- A header that is kept for the next token.
use Rattle.std.specs.Prelude.{◌≡◌, ℕ, List, Some, Ok}
use Rattle.serde_json.specs.View.{view}
use Rattle.serde_json.specs.declared.value.Value.{Value}
use Rattle.sig_json.specs.Json.{json_of}
use Rattle.sig_set.specs.Checks.{passed}
use Rattle.sig_set.specs.Judgement.{header_checks}

-- the bytes spell this, and it met the checks of a header
pub record IsKnown (bytes : List ℕ) (header : Value) : Type 0 where
  pub spells : json_of bytes ≡ Some (view header)
  pub met : passed (header_checks (json_of bytes)) ≡ Ok tt
