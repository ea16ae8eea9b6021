-- Tokens that their receivers reported as faulty (RFC 8935, section 2.3; RFC 8936, section 2.4), as far as they are kept.
use Rattle.std.specs.Prelude.{ℕ, List, [], ◌∷◌, ◌++◌, ◌+◌, ◌-◌, ◌==◌, Bool, ◌&&◌, Option, None, Some, bytes_eq, drop, flat_map, length, min, nat_le, if◌then◌else◌}
use Rattle.std.specs.List.{find, list_any}
use Rattle.sig_json.specs.declared.limits.TheConstants.{LAST_NUMBER}
use Rattle.sig_terms.specs.declared.fact.SettledItem.{SettledItem}
use Rattle.sig_terms.specs.declared.refused_token.RefusedToken.{RefusedToken}
use Rattle.sig_terms.specs.declared.token.Issued.{Issued}
use Rattle.sig_history.specs.declared.limits.TheConstants.{CODE_BYTES, REFUSED_KEPT}
use Rattle.sig_history.specs.Streams.{Made, Publication}

-- those that are kept, in the order in which they were reported, and how many were left out before them, counted up to 2^62
pub record Refusals : Type 0 where
  pub before : ℕ
  pub kept : List RefusedToken

abbrev pub no_refusals : Refusals
no_refusals = record { before = 0; kept = [] }

-- the last of these, behind so many that were left out before
abbrev pub last_of : ℕ → List RefusedToken → Refusals
last_of before all = record {
  before = min (before + (length all - REFUSED_KEPT)) LAST_NUMBER;
  kept = drop (length all - REFUSED_KEPT) all;
}

-- with further ones behind those that were kept; where there are none, it stays as it is
abbrev pub with_refused : Refusals → List RefusedToken → Refusals
with_refused r [] = r
with_refused r (t ∷ ts) = last_of r.before (r.kept ++ t ∷ ts)

-- whether a publication made the token of this stream and number
abbrev pub is_token : List ℕ → ℕ → Issued → Bool
is_token stream number i = bytes_eq i.stream stream && i.number == number

abbrev pub has_made : List ℕ → ℕ → Publication → Bool
has_made stream number p = list_any (is_token stream number) p.issued

-- the name of the first publication that made it; none where no publication did, as a verification or the operator's status
abbrev pub publisher_of : List ℕ → ℕ → List Publication → Option (List ℕ)
publisher_of stream number [] = None
publisher_of stream number (p ∷ ps) = if has_made stream number p then Some p.id else publisher_of stream number ps

-- a code as it is kept: one that has too many bytes isn't
abbrev pub kept_code : List ℕ → Option (List ℕ)
kept_code code = if nat_le (length code) CODE_BYTES then Some code else None

-- a token that was reported with a code, over what was published
abbrev pub refused_as : List Publication → List ℕ → Made → RefusedToken
refused_as published code t = record {
  stream = t.stream;
  number = t.number;
  id = publisher_of t.stream t.number published;
  code = kept_code code;
  time = t.claims.iat;
}

-- whether a token has this number
abbrev pub has_this : ℕ → Made → Bool
has_this number t = t.number == number

-- what is kept of a token that was settled: nothing where it was taken, or isn't owed
abbrev pub refusal_of : List Publication → Option Made → Option (List ℕ) → List RefusedToken
refusal_of published token None = []
refusal_of published None (Some code) = []
refusal_of published (Some t) (Some code) = refused_as published code t ∷ []

-- what is kept of items, over what was published and what their stream owes: of each the token of its number
abbrev pub refused_in : List Publication → List Made → List SettledItem → List RefusedToken
refused_in published owed items = flat_map (λ (i : SettledItem). refusal_of published (find (has_this i.number) owed) i.code) items
