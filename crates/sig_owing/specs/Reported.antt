-- The tokens that are kept as reported: each was owed when a fact settled it with the code that is kept.
use Rattle.std.specs.Prelude.{◌≡◌, ℕ, List, ◌∷◌, ◌++◌, true, Some, All, Contains}
use Rattle.sig_terms.specs.declared.fact.Fact.{Fact}
use Rattle.sig_terms.specs.declared.fact.Fact.TheVariants.{Settled}
use Rattle.sig_terms.specs.declared.fact.SettledItem.{SettledItem}
use Rattle.sig_terms.specs.declared.refused_token.RefusedToken.{RefusedToken}
use Rattle.sig_history.specs.Owed.{Sum, empty_sum, owed_by, sum_of}
use Rattle.sig_history.specs.Refused.{kept_code, publisher_of}
use Rattle.sig_history.specs.Sound.{is_sound}
use Rattle.sig_history.specs.Streams.{Made}

-- a fact of the history settled it with a code, and the facts before it had made it and left it owed; what is kept of it is its
-- stream and number, the code, when it was made, and the first publication that made it
pub record WasReported (store_id : List ℕ) (facts : List Fact) (t : RefusedToken) : Type 0 where
  pub earlier : List Fact
  pub items : List SettledItem
  pub later : List Fact
  pub code : List ℕ
  pub token : Made
  pub all : earlier ++ (Settled t.stream items ∷ later) ≡ facts
  pub item : Contains items (record { number = t.number; code = Some code })
  pub owed : Contains (owed_by (sum_of (empty_sum store_id) earlier) t.stream) token
  pub number : token.number ≡ t.number
  pub time : token.claims.iat ≡ t.time
  pub kept : t.code ≡ kept_code code
  pub id : t.id ≡ publisher_of t.stream t.number (sum_of (empty_sum store_id) earlier).parts.published

abbrev pub RefusedWereReported : Type 0
RefusedWereReported = (store_id : List ℕ) (facts : List Fact) → is_sound (empty_sum store_id) facts ≡ true
    → All (WasReported store_id facts) (sum_of (empty_sum store_id) facts).refused.kept
