-- Facts, journal, messages and answers only grow.
use Rattle.std.proofs.Common.{◌∙◌, ap, sym, ℕ, List, [], ◌∷◌, ◌++◌, Bool, true, false, Option, Some, None, if◌then◌else◌, refl, append_assoc, append-nil}
use Rattle.std.specs.Prelude.{nat_le}
use Rattle.std.specs.List.{slice_get}
use Rattle.sig_json.specs.declared.limits.TheConstants.{LAST_NUMBER}
use Rattle.sig_receiver.specs.declared.heard.Heard.{Heard}
use Rattle.sig_receiver.specs.declared.heard.Heard.TheVariants.{Accepted, Seen, NotTaken}
use Rattle.sig_receiver.specs.Journal.{journal_by}
use Rattle.sig_terms.specs.declared.token.Token.{Token}
use Rattle.sig_terms.specs.declared.call.Call.{Call}
use Rattle.sig_calls.specs.Table.{over_top}
use Rattle.sig_law.specs.Law.{IsFrontOf, GoesOn, OnlyGrows}
use Rattle.sig_law.specs.World.{Act, Called, Delivered, Answered, Acts, Crashed, Elapsed, Ends, World, Reply, Event, answer_recorded, answer_told, call_recorded, call_told, delivery_recorded, delivery_told, happens, may_come, recorded, run, settle_call, sum_in, told}

-- ---- fronts

itself : {T : Type 0} (xs : List T) → IsFrontOf xs xs
itself xs = ([], sym (append-nil xs))

and_more : {T : Type 0} (xs ys : List T) → IsFrontOf xs (xs ++ ys)
and_more xs ys = (ys, refl)

onwards : {T : Type 0} (xs ys zs : List T) → IsFrontOf xs ys → IsFrontOf ys zs → IsFrontOf xs zs
onwards xs ys zs first second = (first.0 ++ second.0, second.1 ∙ ap (λ l. l ++ second.0) first.1 ∙ append_assoc xs first.0 second.0)

-- ---- worlds

pub stays : (world : World) → GoesOn world world
stays world = record {
  facts = itself world.facts;
  journal = itself world.journal;
  messages = itself world.messages;
  replies = itself world.replies;
}

pub goes_further : (a b c : World) → GoesOn a b → GoesOn b c → GoesOn a c
goes_further a b c first second = record {
  facts = onwards a.facts b.facts c.facts first.facts second.facts;
  journal = onwards a.journal b.journal c.journal first.journal second.journal;
  messages = onwards a.messages b.messages c.messages first.messages second.messages;
  replies = onwards a.replies b.replies c.replies first.replies second.replies;
}

either : (b : Bool) (world left right : World) → GoesOn world left → GoesOn world right → GoesOn world (if b then left else right)
either true world left right first second = first
either false world left right first second = second

-- ---- what is kept of an act

call_keeps : (ends : Ends) (call : Call) (world : World) → GoesOn world (call_recorded ends call world)
call_keeps ends call world =
    either (over_top ends.rules (sum_in ends world) call world.time) world world _ (stays world) (record {
      facts = and_more world.facts _;
      journal = itself world.journal;
      messages = itself world.messages;
      replies = itself world.replies;
    })

journal_grows : (heard : Heard) (journal : List (List ℕ)) (text : List ℕ) → IsFrontOf journal (journal_by heard journal text)
journal_grows Accepted journal text = and_more journal (text ∷ [])
journal_grows Seen journal text = itself journal
journal_grows (NotTaken code spot) journal text = itself journal

delivery_keeps : (ends : Ends) (message : Option Token) (world : World) → GoesOn world (delivery_recorded ends message world)
delivery_keeps ends None world = stays world
delivery_keeps ends (Some m) world = record {
  facts = itself world.facts;
  journal = journal_grows _ world.journal _;
  messages = itself world.messages;
  replies = itself world.replies;
}

answer_keeps : (ends : Ends) (reply : Option Reply) (world : World) → GoesOn world (answer_recorded ends reply world)
answer_keeps ends None world = stays world
answer_keeps ends (Some r) world = call_keeps ends (settle_call r) world

pub recorded_grows : (ends : Ends) (act : Act) (world : World) → GoesOn world (recorded ends act world)
recorded_grows ends (Called call) world = either (may_come world.replies call) world _ world (call_keeps ends call world) (stays world)
recorded_grows ends (Delivered place) world = delivery_keeps ends (slice_get world.messages place) world
recorded_grows ends (Answered place) world = answer_keeps ends (slice_get world.replies place) world

-- ---- what it tells

call_tells : (ends : Ends) (call : Call) (before after : World) → GoesOn after (call_told ends call before after)
call_tells ends call before after =
    either (over_top ends.rules (sum_in ends before) call before.time) after after _ (stays after) (record {
      facts = itself after.facts;
      journal = itself after.journal;
      messages = and_more after.messages _;
      replies = itself after.replies;
    })

delivery_tells : (ends : Ends) (message : Option Token) (before after : World) → GoesOn after (delivery_told ends message before after)
delivery_tells ends None before after = stays after
delivery_tells ends (Some m) before after = record {
  facts = itself after.facts;
  journal = itself after.journal;
  messages = itself after.messages;
  replies = and_more after.replies _;
}

answer_tells : (ends : Ends) (reply : Option Reply) (before after : World) → GoesOn after (answer_told ends reply before after)
answer_tells ends None before after = stays after
answer_tells ends (Some r) before after = call_tells ends (settle_call r) before after

pub told_grows : (ends : Ends) (act : Act) (before after : World) → GoesOn after (told ends act before after)
told_grows ends (Called call) before after = either (may_come before.replies call) after _ after (call_tells ends call before after) (stays after)
told_grows ends (Delivered place) before after = delivery_tells ends (slice_get before.messages place) before after
told_grows ends (Answered place) before after = answer_tells ends (slice_get before.replies place) before after

-- ---- events

pub happens_grows : (ends : Ends) (world : World) (e : Event) → GoesOn world (happens ends world e)
happens_grows ends world (Acts act) =
    goes_further world (recorded ends act world) (told ends act world (recorded ends act world)) (recorded_grows ends act world)
    (told_grows ends act world (recorded ends act world))
happens_grows ends world (Crashed act true) = recorded_grows ends act world
happens_grows ends world (Crashed act false) = stays world
happens_grows ends world (Elapsed time) = either (nat_le time LAST_NUMBER) world _ world (record {
  facts = itself world.facts;
  journal = itself world.journal;
  messages = itself world.messages;
  replies = itself world.replies;
}) (stays world)

pub only_grows : OnlyGrows
only_grows ends world [] = stays world
only_grows ends world (e ∷ es) =
    goes_further world (happens ends world e) (run ends (happens ends world e) es) (happens_grows ends world e)
    (only_grows ends (happens ends world e) es)
