-- Whose tokens calls make: those of the issuer that the rules name, for the audience that they give to the stream's client.
use Rattle.std.specs.Prelude.{◌≡◌, ℕ, List, [], ◌∷◌, ◌++◌, Some, Result, Ok, Err, All}
use Rattle.std.specs.Option.{option_to_list}
use Rattle.sig_terms.specs.Reply.{Reply}
use Rattle.sig_terms.specs.declared.call.Call.{Call}
use Rattle.sig_terms.specs.declared.fact.Fact.{Fact}
use Rattle.sig_terms.specs.declared.fault.PrepareFault.{PrepareFault}
use Rattle.sig_terms.specs.declared.rules.Client.{Client}
use Rattle.sig_terms.specs.declared.rules.Rules.{Rules}
use Rattle.sig_history.specs.Facts.{tokens_of}
use Rattle.sig_history.specs.Owed.{Sum, empty_sum, sum_of}
use Rattle.sig_history.specs.Streams.{Made, client_in}
use Rattle.sig_calls.specs.Creating.{client_of}
use Rattle.sig_calls.specs.Proper.{IsProperRules}
use Rattle.sig_calls.specs.Table.{prepared_of}

-- a call, and when it comes
pub record Timed : Type 0 where
  pub call : Call
  pub now : ℕ

-- the fact of a call that wasn't refused, where it makes one
abbrev pub facts_in : Result Reply PrepareFault → List Fact
facts_in (Ok r) = option_to_list r.change
facts_in (Err e) = []

-- the facts of calls, each over what those before it came to
abbrev pub facts_of : Rules → Sum → List Timed → List Fact
facts_of rules sum [] = []
facts_of rules sum (c ∷ cs) =
    facts_in (prepared_of rules sum c.call c.now) ++ facts_of rules (sum_of sum (facts_in (prepared_of rules sum c.call c.now))) cs

-- a token of the rules' issuer, for the audience of the client whose name begins its stream's
pub record IsForClient (rules : Rules) (t : Made) : Type 0 where
  pub client : Client
  pub is : client_of (client_in t.stream) rules.clients ≡ Some client
  pub aud : t.claims.aud ≡ client.aud
  pub iss : t.claims.iss ≡ rules.issuer

abbrev pub TokensAreForTheClient : Type 0
TokensAreForTheClient = (rules : Rules) (store_id : List ℕ) (calls : List Timed) → IsProperRules rules
    → All (IsForClient rules) (tokens_of (empty_sum store_id).parts (facts_of rules (empty_sum store_id) calls))
