-- What the parts of a node hold.
use Rattle.sig_receiver.specs.Receiver.{received}
use Rattle.sig_rxnode.specs.declared.journalled.Journalled.{Journalled}
use Rattle.sig_rxnode.specs.Holding.{Holding}

abbrev pub holding_of : {D : Type 0} → Journalled D → Holding D
holding_of parts = record { store = parts.store; state = received parts.receiver; entries = parts.entries.items }
