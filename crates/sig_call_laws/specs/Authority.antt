-- What the call of a client may do: it changes that client's streams alone.
use Rattle.std.specs.Prelude.{◌≡◌, ℕ, List, [], ◌∷◌, true, false, Some, All, bytes_eq}
use Rattle.sig_terms.specs.declared.call.Call.{Call}
use Rattle.sig_terms.specs.declared.fact.Fact.{Fact}
use Rattle.sig_terms.specs.declared.rules.Rules.{Rules}
use Rattle.sig_history.specs.Changes.{stream_of}
use Rattle.sig_history.specs.Facts.{made_by, published_by}
use Rattle.sig_history.specs.Owed.{Sum, owed_by, stream_named, sum_of}
use Rattle.sig_history.specs.Streams.{Made, client_in}
use Rattle.sig_history.specs.Whole.{IsWhole}
use Rattle.sig_calls.specs.Proper.{IsProperRules}
use Rattle.sig_calls.specs.Table.{change_of}
use Rattle.sig_isolation.specs.Isolation.{is_call_of}

-- a token is for a stream of this client
abbrev pub IsTokenOf : List ℕ → Made → Type 0
IsTokenOf client t = client_in t.stream ≡ client

-- a fact leaves the stream of a name, and what it owes, as they were
pub record LeavesStream (sum : Sum) (f : Fact) (name : List ℕ) : Type 0 where
  pub stream : stream_named name (sum_of sum (f ∷ [])).parts.streams ≡ stream_named name sum.parts.streams
  pub owed : owed_by (sum_of sum (f ∷ [])) name ≡ owed_by sum name

-- a fact that is within a client's rights: the stream that it names is one of that client, it publishes nothing, each token
-- that it makes is for one of its streams, and the streams of all others stay as they are
pub record IsWithin (client : List ℕ) (sum : Sum) (f : Fact) : Type 0 where
  pub name : List ℕ
  pub names : stream_of f ≡ Some name
  pub own : client_in name ≡ client
  pub silent : published_by sum.parts f ≡ []
  pub makes : All (IsTokenOf client) (made_by sum.parts f)
  pub leaves : (other : List ℕ) → bytes_eq (client_in other) client ≡ false → LeavesStream sum f other

-- the fact of a call that a client makes for itself is
abbrev pub ClientsChangeTheirOwn : Type 0
ClientsChangeTheirOwn = (rules : Rules) (sum : Sum) (client : List ℕ) (call : Call) (now : ℕ) (f : Fact)
    → IsProperRules rules → IsWhole sum → is_call_of client call ≡ true → change_of rules sum call now ≡ Some f → IsWithin client sum f
