use Rattle.std.proofs.Common.{◌∙◌, ◌++◌, ap, subst, sym}
use Rattle.std.specs.Prelude.{option_copied}
use Rattle.sig_json.specs.declared.limits.TheConstants.{SCRIPT_LINE_BYTES}
use Rattle.sig_command.specs.Telling.{IsLineOf, StopsAt}
use Rattle.sig_law.specs.World.{new_world}
use Rattle.sig_schedules.specs.Replay.{played, replay_telling, script_world}
use Rattle.sig_world.specs.Replaying.{Goes, StandsAt}
use Rattle.sig_world.proofs.ReplayerLemmas.{line-not, line-taken, long-stops}
use Rattle.sig_world.proofs.replayer.ReplayerTeller.tell.Goals as goal

pub play-requires : goal.play-requires
play-requires c = (script_world 1 new_world c.requires.0, c.requires.1)

pub returns-in_default-clause-stops : goal.returns-in_default-clause-stops
returns-in_default-clause-stops c =
    subst (λ o. StopsAt replay_telling (StandsAt c.args.self.now) SCRIPT_LINE_BYTES c.args.number (option_copied o) c.refused.result) (sym c.in_default.is)
    (long-stops c.args.self.now c.args.number c.refused.result c.refused.ensures)

pub returns-in-Ok-clause-takes : goal.returns-in-Ok-clause-takes
returns-in-Ok-clause-takes c = λ given line at going count is.
    line-taken c.args.self.now c.play.new.self c.args.number c.in-Some.bytes.now line c.play.new.text c.args.gathered.now c.add.new.self given
    (λ w a. subst (λ t. Goes (played c.args.number w c.in-Some.bytes.now) c.play.new.self t c.play.new.text) c.new-text.ensures (c.in-Ok.ensures.plays w a))
    (c.in_ok-add-in-Ok.ensures.ok ∙ ap (λ t. c.args.gathered.now ++ t) c.as_slice.ensures) at going count
    (subst (λ o. IsLineOf SCRIPT_LINE_BYTES (option_copied o) line) c.in-Some.is is)

pub returns-clause-stops : goal.returns-clause-stops
returns-clause-stops c =
    subst (λ o. StopsAt replay_telling (StandsAt c.args.self.now) SCRIPT_LINE_BYTES c.args.number (option_copied o) c.in-Err.fault) (sym c.in-Some.is)
    (line-not c.args.self.now c.args.number c.in-Some.bytes.now c.in-Err.fault c.in-Err.ensures.stops)
