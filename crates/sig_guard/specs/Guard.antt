-- What an application keeps of its tokens, once one more was judged: pairs that it took, and rows.
use Rattle.std.specs.Prelude.{List, Result, Ok, Err, if◌then◌else◌}
use Rattle.sig_event.specs.declared.claims.Claims.{Claims}
use Rattle.sig_inbox.specs.Pairs.{has_pair, with_pair}
use Rattle.sig_inbox.specs.declared.pair.Pair.{Pair}
use Rattle.sig_inbox.specs.declared.seen.Found.{Found}
use Rattle.sig_inbox.specs.declared.seen.Found.TheVariants.{Added, There}
use Rattle.sig_json.specs.Answers.{result_map}
use Rattle.sig_sessions.specs.declared.row.Row.{Row}
use Rattle.sig_sessions.specs.Table.{effect}
use Rattle.sig_set.specs.declared.refusal.Refusal.{Refusal}

-- the issuer and the identifier of a token
abbrev pub pair_of : Claims → Pair
pair_of claims = record { iss = claims.iss; jti = claims.jti }

-- a token with these claims was there, or is added
abbrev pub found_in : List Pair → Claims → Found
found_in pairs claims = if has_pair (pair_of claims) pairs then There else Added

-- how a token is answered that was judged so
abbrev pub answer_to : List Pair → Result Claims Refusal → Result Found Refusal
answer_to pairs judged = result_map (found_in pairs) judged

-- the pairs after it
abbrev pub pairs_after : List Pair → Result Claims Refusal → List Pair
pairs_after pairs (Ok claims) = with_pair (pair_of claims) pairs
pairs_after pairs (Err refusal) = pairs

-- the rows after it: a repeat has no second effect
abbrev pub rows_after : List Pair → List Row → Result Claims Refusal → List Row
rows_after pairs rows (Ok claims) = if has_pair (pair_of claims) pairs then rows else effect claims rows
rows_after pairs rows (Err refusal) = rows
