-- What a transmitter is to its links.
use Rattle.std.specs.Prelude.{Option, List, ℕ}
use Rattle.sig_terms.specs.declared.call.Call.{Call}
use Rattle.sig_terms.specs.declared.rules.Rules.{Rules}
use Rattle.sig_txnode.specs.Told.{TakerTold}
use Rattle.sig_txnode.specs.declared.turn.Turn.{Turn}
use Rattle.sig_txroutes.specs.Calls.{call_of}
use Rattle.sig_round.specs.Turns.{Grew}
use Rattle.sig_link.specs.Meaning.{Meaning}
use Rattle.sig_txend.specs.Counting.{Tells}
use Rattle.sig_txend.specs.Following.{PushesAfter}
use Rattle.sig_txend.specs.Turning.{MakesTurn, TellsOneTime}

-- of whose push rounds a stream may be passed over of which this holds
abbrev pub transmitter : (List ℕ → Type 0) → Meaning Rules Call Turn (Option TakerTold)
transmitter passes = record {
  asked = call_of;
  Makes = MakesTurn;
  Tries = TellsOneTime;
  Grew = Grew;
  Responds = λ rules turn response. Tells rules turn.result response;
  Follows = PushesAfter passes;
}
