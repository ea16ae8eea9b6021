-- Why a node did not answer, where a record was not added.
use Rattle.sig_journal.specs.declared.journal.AppendFault.{AppendFault}
use Rattle.sig_journal.specs.declared.journal.AppendFault.TheVariants as append
use Rattle.sig_journal.specs.declared.node_fault.NodeFault.{NodeFault}
use Rattle.sig_journal.specs.declared.node_fault.NodeFault.TheVariants.{Store, Full}

abbrev pub fault_of : AppendFault → NodeFault
fault_of append.Store = Store
fault_of (append.Full n) = Full n
