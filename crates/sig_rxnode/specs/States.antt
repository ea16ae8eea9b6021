-- What is kept of a state, whatever room it has for more.
use Rattle.sig_receiver.specs.Receiver.{Received}
use Rattle.sig_rxnode.specs.declared.state.RxState.{RxState}

abbrev pub held : RxState → Received
held state = record { pairs = state.seen.pairs; rows = state.table.rows }
