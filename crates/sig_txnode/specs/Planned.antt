-- How a call is to be answered, before anything is journalled.
use Rattle.std.specs.Prelude.{◌≡◌, Option, option_map, Result, Ok, Err, IfSome}
use Rattle.sig_terms.specs.declared.fact.Fact.{Fact}
use Rattle.sig_terms.specs.declared.fault.PrepareFault.{PrepareFault}
use Rattle.sig_terms.specs.declared.fault.PrepareFault.TheVariants as prepare
use Rattle.sig_terms.specs.Reply.{Reply}
use Rattle.sig_ledger.specs.Room.{Ready}
use Rattle.sig_journal.specs.declared.node_fault.NodeFault.{NodeFault}
use Rattle.sig_journal.specs.declared.node_fault.NodeFault.TheVariants.{Full, Memory}
use Rattle.sig_txnode.specs.declared.plan.Change.{Change}
use Rattle.sig_txnode.specs.declared.plan.Plan.{Plan}
use Rattle.sig_txnode.specs.Records.{IsRecordOf}

-- the record is that of the fact to be taken in, and the same fact is kept
pub record IsRecorded (c : Change) : Type 0 where
  pub framed : IsRecordOf c.prepared.fact c.framed
  pub entry : c.entry ≡ c.prepared.fact

-- what is kept is the answer, and the record is the change's
pub record IsKept (p : Plan) : Type 0 where
  pub answer : p.kept ≡ p.answer
  pub change : IfSome p.change IsRecorded

-- the fact as the core takes it
abbrev pub ready_in : Plan → Option Ready
ready_in p = option_map (λ (c : Change). c.prepared) p.change

-- the fact
abbrev pub fact_in : Plan → Option Fact
fact_in p = option_map (λ (c : Change). c.prepared.fact) p.change

-- the answer and the fact
abbrev pub reply_with : Plan → Reply
reply_with p = record { answer = p.answer; change = fact_in p }

-- a reply, or a number that would pass LAST_NUMBER
abbrev pub refused_as : Result Reply PrepareFault → Result Reply NodeFault
refused_as (Ok reply) = Ok reply
refused_as (Err (prepare.Number n)) = Err (Full n)
refused_as (Err prepare.Memory) = Err Memory
