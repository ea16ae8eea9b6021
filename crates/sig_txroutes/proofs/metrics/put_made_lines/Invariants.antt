use Rattle.std.proofs.Common.{◌≡◌, ◌++◌, flat_map, string_bytes, drop}
use Rattle.sig_txroutes.specs.Metrics.{made_line}
use Rattle.sig_txroutes.proofs.metrics.put_made_lines.Given as goal

abbrev pub invariant-loop-standing : goal.invariant-loop-standing
invariant-loop-standing l =
    string_bytes l.initial.text ++ flat_map made_line l.standings
    ≡ string_bytes l.text ++ flat_map made_line (drop l.standing-index l.standings)
