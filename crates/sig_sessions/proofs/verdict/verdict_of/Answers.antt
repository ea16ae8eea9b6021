use Rattle.std.proofs.Common.{◌∙◌, ap}
use Rattle.sig_sessions.specs.Candidates.{no_tally, tally_under, verdict_told}
use Rattle.sig_sessions.specs.Keys.{covering_keys}
use Rattle.sig_sessions.proofs.Tallies.{tells_all}
use Rattle.sig_sessions.proofs.verdict.verdict_of.Goals as goal

pub returns : goal.returns
returns c =
    c.told.ensures ∙ ap verdict_told c.tally_of.ensures
    ∙ ap (λ es. verdict_told (tally_under c.args.subject.now c.args.rows.now es (covering_keys c.args.subject.now) no_tally)) c.requires.placed
    ∙ tells_all c.args.subject.now c.args.rows.now c.requires.distinct
