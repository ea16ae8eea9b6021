-- A fault of a payload as a fault of an event.
use Rattle.sig_json.specs.declared.members.PayloadFault.{PayloadFault}
use Rattle.sig_json.specs.declared.members.PayloadFault.TheVariants as payload
use Rattle.sig_event.specs.declared.event_fault.EventFault.{EventFault}
use Rattle.sig_event.specs.declared.event_fault.EventFault.TheVariants as fault

-- out of memory stays what it is
abbrev pub event_fault : PayloadFault → EventFault
event_fault payload.Memory = fault.Memory
event_fault f = fault.Payload f
