-- What holds of the tokens that a round is handed.
use Rattle.std.specs.Prelude.{ℕ, List, IsSome, All}
use Rattle.sig_terms.specs.declared.token.Token.{Token}
use Rattle.sig_history.specs.Owed.{Sum}
use Rattle.sig_calls.specs.Handing.{handing}
use Rattle.sig_calls.specs.Regular.{handed_by}

-- whatever was made and whichever streams are named, each token that is handed has an endpoint
abbrev pub HandedHaveEndpoints : Type 0
HandedHaveEndpoints = (sum : Sum) (streams : List (List ℕ)) → All (λ (t : Token). IsSome t.endpoint) (handed_by (handing sum streams).answer)
