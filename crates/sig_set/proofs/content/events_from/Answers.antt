use Rattle.std.proofs.Common.{◌∙◌, sym, ap}
use Rattle.serde_json.specs.View.{members_view}
use Rattle.sig_set.specs.Claims.{events_of}
use Rattle.sig_set.proofs.Collected.{behind, event_step}
use Rattle.sig_set.proofs.content.events_from.Goals as goal

pub loop-uri-preserved : goal.loop-uri-preserved
loop-uri-preserved c =
    let step = event_step c.args.subject.now c.loop-uri.events.items c.loop-uri.uri-iterator c.next.new.self c.in-Some.uri.now c.in-Some.payload.now c.as_str.result.now c.in-Ok.event c.in-Some.ensures.steps c.as_str.ensures.value c.in-Ok.ensures in
    c.loop-uri.invariant ∙ step ∙ ap (λ es. behind es (events_of c.args.subject.now (members_view c.next.new.self))) (sym c.in_ok-push-in-Ok.ensures.items)
