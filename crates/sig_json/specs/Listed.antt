-- Closed lists of texts, each of which stands for a value.
use Rattle.std.specs.Prelude.{ℕ, List, [], Option, find, unwrap_or}
use Rattle.std.specs.Str.{bytes_eq}
use Rattle.serde_json.specs.Data.{Data}
use Rattle.serde_json.specs.Find.{as_str}

-- the first value of the list with this text
unfoldable pub listed : {T : Type 0} → (T → List ℕ) → List T → List ℕ → Option T
listed text_of values text = find (λ x. bytes_eq text (text_of x)) values

-- the value that a member's text stands for, the last argument where it stands for none
unfoldable pub listed_in : {T : Type 0} → (T → List ℕ) → List T → T → Data → T
listed_in text_of values otherwise d = unwrap_or (listed text_of values (unwrap_or (as_str d) [])) otherwise
