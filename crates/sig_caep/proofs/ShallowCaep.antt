-- The payload that is written of an event of CAEP nests no deeper than the one that it was read of.
use Rattle.std.proofs.Common.{◌<◌, ◌≤◌, ℕ, List, arith}
use Rattle.serde_json.specs.Data.{Data, no_members, depth, members_depth}
use Rattle.serde_json.specs.Read.{max_depth}
use Rattle.sig_json.specs.Order.{InOrder}
use Rattle.sig_json.specs.Payloads.{put_all}
use Rattle.sig_json.proofs.ShallowPayloads.{all_shallow}
use Rattle.sig_caep.specs.Table.{caep_table, common_rules}
use Rattle.sig_caep.specs.Events.{type_of, kept_of, common_kept, CaepIs, caep_payload}
use Rattle.sig_caep.specs.declared.event.CaepEvent.{CaepEvent}

pub caep_shallow : (e : CaepEvent) (name : List ℕ) (v : Data) → 0 < depth v → InOrder v → depth v ≤ max_depth → CaepIs e name v → depth (caep_payload e) ≤ depth v
caep_shallow e name v filled order deep h =
    let rules = (caep_table (type_of e.kind)).rules in
    let inner = put_all rules (kept_of e.kind) no_members in
    let own : members_depth inner < depth v = all_shallow v rules (kept_of e.kind) no_members h.members order deep filled in
    let all : members_depth (put_all common_rules (common_kept e.common) inner) < depth v = all_shallow v common_rules (common_kept e.common) inner h.common order deep own in
    omega arith
