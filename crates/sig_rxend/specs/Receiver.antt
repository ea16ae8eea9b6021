-- What a receiver is to its links.
use Rattle.std.specs.Prelude.{Option}
use Rattle.sig_rxnode.specs.Told.{RxTold}
use Rattle.sig_rxnode.specs.declared.call.RxCall.{RxCall}
use Rattle.sig_rxnode.specs.declared.rules.RxRules.{RxRules}
use Rattle.sig_rxnode.specs.declared.turn.RxTurn.{RxTurn}
use Rattle.sig_rxroutes.specs.Calls.{call_of}
use Rattle.sig_link.specs.Meaning.{Meaning}
use Rattle.sig_rxend.specs.Counting.{Tells}
use Rattle.sig_rxend.specs.Turning.{AsksNothing, EndsThere, Grew, MakesTurn}

abbrev pub receiver : Meaning RxRules RxCall RxTurn (Option RxTold)
receiver = record {
  asked = call_of;
  Makes = MakesTurn;
  Tries = AsksNothing;
  Grew = Grew;
  Responds = λ rules turn response. Tells turn.result response;
  Follows = EndsThere;
}
