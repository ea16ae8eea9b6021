-- What holds of the world holds after every schedule.
use Rattle.std.proofs.Common.{◌≡◌, ap, sym, subst, List, [], ◌∷◌, true, refl, arith}
use Rattle.std.specs.Prelude.{All}
use Rattle.std.proofs.lemmas.List.Elements.{All-head, All-nil, All-tail, All-weaker}
use Rattle.sig_inbox.specs.Pairs.{has_pair}
use Rattle.sig_receiver.specs.Journal.{pairs_of}
use Rattle.sig_receiver.specs.Rows.{fold_rows}
use Rattle.sig_history.specs.Streams.{Made}
use Rattle.sig_history.specs.Ours.{IsOurToken}
use Rattle.sig_owing.proofs.KeptLemmas.{kept_new}
use Rattle.sig_owing.proofs.LeftLemmas.{owes_left}
use Rattle.sig_law.specs.Law.{AreProper, HoldsOnEverySchedule, IsLawful, IsProperEvent, is_acknowledged, is_journalled, tokens_in}
use Rattle.sig_law.specs.World.{Ends, World, Reply, Event, happens, is_taken, new_world, run}
use Rattle.sig_law.proofs.Counted.{pair_ours}
use Rattle.sig_law.proofs.Held.{IsHeard}
use Rattle.sig_law.proofs.Holding.{Holds}
use Rattle.sig_law.proofs.Steps.{event_holds}

pub run_holds : (ends : Ends) (world : World) (schedule : List Event) → AreProper ends → All IsProperEvent schedule → Holds ends world
    → Holds ends (run ends world schedule)
run_holds ends world [] proper fair holds = holds
run_holds ends world (e ∷ es) proper fair holds =
    run_holds ends (happens ends world e) es proper (All-tail IsProperEvent e es fair)
    (event_holds ends world e proper (All-head IsProperEvent e es fair) holds)

-- ---- before anything happens

pub new_holds : (ends : Ends) → Holds ends new_world
new_holds ends = record {
  kept = kept_new ends.rules.issuer ends.store_id;
  sound = refl;
  held = record {
    handed = All-nil _;
    heard = All-nil _;
    written = All-nil _;
    once = refl;
    settled = λ t is. cc is;
  };
  valid = All-nil _;
  early = omega arith;
}

-- ---- the law

acknowledged_there : (ends : Ends) (world : World) (t : Made) → Holds ends world → IsOurToken ends.rules.issuer ends.store_id t
    → is_acknowledged world.facts t ≡ true → is_journalled world t.claims ≡ true
acknowledged_there ends world t holds ours is =
    subst (λ p. has_pair p (pairs_of world.journal) ≡ true)
    (sym (pair_ours ends.rules.issuer ends.store_id t.stream t.number t.claims t ours refl refl)) (holds.held.settled t is)

-- what holds of a world makes it lawful
pub lawful : (ends : Ends) (world : World) → Holds ends world → IsLawful ends world
lawful ends world holds = record {
  messages = holds.held.handed;
  replies = All-weaker (IsHeard (tokens_in ends world) world.journal) (λ (r : Reply). is_taken r.heard ≡ true → is_journalled world r.message.claims ≡ true)
      (λ r h. h.taken) world.replies holds.held.heard;
  acknowledged = All-weaker (IsOurToken ends.rules.issuer ends.store_id)
      (λ (t : Made). is_acknowledged world.facts t ≡ true → is_journalled world t.claims ≡ true)
      (λ t ours. acknowledged_there ends world t holds ours) (tokens_in ends world) holds.kept.made;
  journalled = holds.held.written;
  valid = holds.valid;
  once = holds.held.once;
  table = ap (fold_rows []) holds.held.once;
  owed = λ name. (owes_left ends.store_id world.facts name).1;
  sound = holds.sound;
}

pub every_schedule : HoldsOnEverySchedule
every_schedule ends proper schedule fair = lawful ends (run ends new_world schedule) (run_holds ends new_world schedule proper fair (new_holds ends))
