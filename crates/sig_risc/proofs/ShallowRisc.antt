-- The payload that is written of an event of RISC nests no deeper than the one that it was read of.
use Rattle.std.proofs.Common.{◌<◌, ◌≤◌, ℕ, List, arith}
use Rattle.serde_json.specs.Data.{Data, no_members, depth, members_depth}
use Rattle.serde_json.specs.Read.{max_depth}
use Rattle.sig_json.specs.Order.{InOrder}
use Rattle.sig_json.specs.Payloads.{put_all}
use Rattle.sig_json.proofs.ShallowPayloads.{all_shallow}
use Rattle.sig_risc.specs.Table.{risc_table}
use Rattle.sig_risc.specs.Events.{type_of, kept_of, RiscIs, risc_payload}
use Rattle.sig_risc.specs.declared.event.RiscEvent.{RiscEvent}

pub risc_shallow : (e : RiscEvent) (name : List ℕ) (v : Data) → 0 < depth v → InOrder v → depth v ≤ max_depth → RiscIs e name v → depth (risc_payload e) ≤ depth v
risc_shallow e name v filled order deep h =
    let rules = (risc_table (type_of e)).rules in
    let all : members_depth (put_all rules (kept_of e) no_members) < depth v = all_shallow v rules (kept_of e) no_members h.members order deep filled in
    omega arith
