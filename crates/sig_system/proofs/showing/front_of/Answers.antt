use Rattle.std.proofs.Common.{rules, sym, length, ◌≤◌}
use Rattle.std.proofs.lemmas.List.{take_all, length-take-le}
use Rattle.sig_system.specs.declared.showing.TheConstants.{NOTE_BYTES}
use Rattle.sig_system.proofs.showing.front_of.Goals as goal

pub slice_bounds-result-end : goal.slice_bounds-result-end
slice_bounds-result-end c =
    let long : 900 ≤ length c.args.bytes.now = search rules in
    sym (length-take-le 900 c.args.bytes.now long)

pub returns-then-bytes-le-NOTE_BYTES : goal.returns-then-bytes-le-NOTE_BYTES
returns-then-bytes-le-NOTE_BYTES c =
    let short : length c.args.bytes.now ≤ NOTE_BYTES = search rules in
    sym (take_all NOTE_BYTES c.args.bytes.now short)
