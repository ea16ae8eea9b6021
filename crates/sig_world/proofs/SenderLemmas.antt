-- What a call at the transmitter does to what a replay keeps.
use Rattle.std.specs.Option.{option_to_list}
use Rattle.std.proofs.Common.{◌≡◌, ◌∙◌, ap, sym, subst, inl, inr, ℕ, suc, arith, ◌+◌, ◌<◌, ◌≤◌, min, List, [], ◌∷◌, ◌++◌, length, map, Option, Some, None, Bool, true, false, refl, append-nil, if◌then◌else◌}
use Rattle.std.specs.Prelude.{◌⊎◌, Result, Ok, Err, IfErr, IfSome, IsSomeAnd, OnOk, codes, decimal, nat_lt, option_map}
use Rattle.std.specs.Prelude.{Vec}
use Rattle.std.specs.declared.alloc.Global.{Global}
use Rattle.std.proofs.Math.Nat.{min-eq_left}
use Rattle.std.proofs.lemmas.Bool.{false≢true, le-leb, lt-leb}
use Rattle.sig_json.specs.declared.limits.TheConstants.{LAST_NUMBER, SCRIPT_LINE_BYTES}
use Rattle.sig_entry.specs.Facts.{spelling_of}
use Rattle.sig_entry.specs.Tokens.{token_spelling}
use Rattle.sig_journal.specs.Added.{rests_with_it}
use Rattle.sig_receiver.specs.declared.heard.Heard.{Heard}
use Rattle.sig_receiver.specs.declared.heard.Heard.TheVariants.{Accepted, Seen, NotTaken}
use Rattle.sig_receiver.specs.Journal.{answer_to, journal_by}
use Rattle.sig_receiver.specs.Receiver.{Received, heard_at, is_accepted, nothing, received_of}
use Rattle.sig_receiver.proofs.KeptLemmas.{answers}
use Rattle.sig_rxnode.specs.Answers.{heard_answer}
use Rattle.sig_rxnode.specs.declared.answer.RxAnswer.{RxAnswer}
use Rattle.sig_rxnode.specs.declared.answer.RxAnswer.TheVariants as answer
use Rattle.sig_rxnode.specs.declared.call.RxCall.{RxCall}
use Rattle.sig_rxnode.specs.declared.call.RxCall.TheVariants as asked
use Rattle.sig_sessions.specs.Verdicts.{verdict_of}
use Rattle.sig_sessions.specs.declared.verdict.Verdict.{Verdict}
use Rattle.sig_subject.specs.declared.subject.Subject.{Subject}
use Rattle.sig_set.specs.Written.{token_text}
use Rattle.sig_jws.specs.declared.key.Key.{Key}
use Rattle.sig_rxnode.specs.declared.rules.RxRules.{RxRules}
use Rattle.sig_journal.specs.declared.node_fault.NodeFault.TheVariants as fault
use Rattle.sig_terms.specs.declared.answer.Answer.{Answer}
use Rattle.sig_terms.specs.declared.call.Call.{Call}
use Rattle.sig_terms.specs.declared.fact.Fact.{Fact}
use Rattle.sig_terms.specs.declared.rules.Rules.{Rules}
use Rattle.sig_terms.specs.declared.token.Token.{Token}
use Rattle.sig_calls.specs.Regular.{handed_by}
use Rattle.sig_calls.specs.Table.{answer_of, change_of, over_top}
use Rattle.sig_outside.specs.KeptDisk.{Kept}
use Rattle.sig_rxnode.specs.Node as rxs
use Rattle.sig_txnode.specs.Node.{NodeView}
use Rattle.sig_txnode.specs.Answering.{answer_at, end_with, time_used}
use Rattle.sig_still.specs.Stores.{end_at, past_end, with_kept}
use Rattle.sig_nodes.specs.Records.{fact_records, token_records}
use Rattle.sig_nodes.specs.Receiving.{MakesText, RxPasses, RxRoom, kept_of, rx_change, rx_end, rx_told}
use Rattle.sig_nodes.specs.Sending.{MakesFact, sum_at, tx_change, tx_told}
use Rattle.sig_nodes.specs.declared.halted.Halted.{Halted}
use Rattle.sig_nodes.specs.declared.halted.Halted.TheVariants as halted
use Rattle.sig_nodes.proofs.ToldLemmas.{EndsPast, IsTold, full_tells, ok_tells}
use Rattle.sig_world.specs.declared.replayer.Replayer.{Replayer}
use Rattle.sig_law.specs.World.{Reply}
use Rattle.sig_command.specs.declared.stop.Stop.TheVariants.{Line, Full}
use Rattle.sig_command.specs.declared.stop.TellFault.{TellFault}
use Rattle.sig_command.specs.declared.stop.TellFault.TheVariants.{Stopped, Memory}
use Rattle.sig_script.specs.Script.{utf8_line}
use Rattle.sig_command.specs.Telling.{StopsAt}
use Rattle.sig_law.specs.World.{World, call_recorded, delivery_recorded, heard_of, new_world, sum_in, with_facts, with_journal, with_messages}
use Rattle.sig_schedules.specs.Replay.{Played, answered_call, call_need, call_text, called, counted_at, crashed, delivered, delivery_need, fact_of, heard_delivery, heard_text, kept_word, numbered, played, played_call, played_check, played_crash, played_delivery, played_found, played_time, receiver_store, record_if, replay_ends, replay_rules, replay_store, replay_telling, replay_trust, script_stop, script_text, script_world, stopped_call, stopped_delivery, stopped_fact, stopped_message, unless_full, verdict_word}
use Rattle.sig_world.specs.Ends.{IsFullRx, IsFullTx, RxHaltedIn, RxIn, TxHaltedIn, TxIn, receiver_rules}
use Rattle.sig_world.specs.Hearing.{token_call}
use Rattle.sig_world.specs.Replaying.{Goes, GoesNot, IsAt, StandsAt}
use Rattle.sig_schedules.proofs.ReplayLemmas.{line-goes, line-stops}

-- ---- what is known of a call

-- the clock of a script counts as it stands
time_is : (w : World) → w.time ≤ LAST_NUMBER → time_used w.time ≡ w.time
time_is w within = min-eq_left within

told_is : (w : World) (c : Call) → w.time ≤ LAST_NUMBER
    → tx_told replay_rules replay_store w.facts c w.time ≡ answer_at replay_rules (sum_in replay_ends w) (end_at replay_store (fact_records w.facts)) c w.time
told_is w c within = ap (answer_at replay_rules (sum_in replay_ends w) (end_at replay_store (fact_records w.facts)) c) (time_is w within)

change_is : (w : World) (c : Call) → w.time ≤ LAST_NUMBER → tx_change replay_rules replay_store w.facts c w.time ≡ fact_of w c
change_is w c within = ap (change_of replay_rules (sum_in replay_ends w) c) (time_is w within)

-- a call that is answered needs no number that is too great
record Known (w : World) (c : Call) (answer : Answer) : Type 0 where
  pub within : over_top replay_rules (sum_in replay_ends w) c w.time ≡ false
  pub answered : answer_of replay_rules (sum_in replay_ends w) c w.time ≡ answer
  pub need : call_need w c ≡ None

abbrev need_by : Bool → World → Option Fact → Option ℕ
need_by over w o = if over then Some (LAST_NUMBER + 1) else past_end (end_at replay_store (map spelling_of w.facts)) (option_map spelling_of o)

known : (w : World) (c : Call) (answer : Answer) → w.time ≤ LAST_NUMBER → tx_told replay_rules replay_store w.facts c w.time ≡ Ok answer → Known w c answer
known w c answer within told =
    let is : IsTold replay_rules (sum_in replay_ends w) (end_at replay_store (fact_records w.facts)) c w.time answer =
    ok_tells replay_rules (sum_in replay_ends w) (end_at replay_store (fact_records w.facts)) c w.time answer (sym (told_is w c within) ∙ told) in
    record {
      within = is.within;
      answered = is.answered;
      need = ap (λ over. need_by over w (fact_of w c)) is.within ∙ by_fact (fact_of w c) is.test;
    }
  where
    by_fact : (o : Option Fact) → ((f : Fact) → o ≡ Some f → nat_lt LAST_NUMBER (end_with (end_at replay_store (fact_records w.facts)) f) ≡ false) → need_by false w o ≡ None
    by_fact None test = refl
    by_fact (Some f) test =
        ap (λ past. if past then Some (end_at replay_store (map spelling_of w.facts) + 5 + length (spelling_of f)) else None) (test f refl)

-- and one that isn't needs this one
full_need : (w : World) (c : Call) (n : ℕ) → w.time ≤ LAST_NUMBER → tx_told replay_rules replay_store w.facts c w.time ≡ Err (fault.Full n) → call_need w c ≡ Some n
full_need w c n within told =
    elim (full_tells replay_rules (sum_in replay_ends w) (end_at replay_store (fact_records w.facts)) c w.time n (sym (told_is w c within) ∙ told)) [
      | inl over ↦ ap (λ o. need_by o w (fact_of w c)) over.0 ∙ ap (λ m. let o : Option ℕ = Some m in o) over.1
      | inr past ↦ ap (λ o. need_by o w (fact_of w c)) past.0 ∙ by_end (fact_of w c) past.1
    ]
  where
    by_end : (o : Option Fact) → EndsPast (end_at replay_store (fact_records w.facts)) n o → need_by false w o ≡ Some n
    by_end o ends =
        ap (need_by false w) ends.there
        ∙ ap (λ past. if past then Some (end_at replay_store (map spelling_of w.facts) + 5 + length (spelling_of ends.fact)) else None) ends.past
        ∙ ap (λ m. let o : Option ℕ = Some m in o) ends.place

-- a call that isn't answered stops the script
pub call-not : (r : Replayer) (w : World) (c : Call) (number : ℕ) (f : TellFault) → IsAt r w → IsFullTx w.facts c w.time f → GoesNot (played_call number w c) f
call-not r w c number (Stopped (Full n)) at full = ap (λ o. (unless_full o w (answered_call number w c)).stop) (full_need w c n at.within full)
call-not r w c number (Stopped (Line n)) at full = absurd full
call-not r w c number Memory at full = tt

-- ---- a call

-- what an answer that was told leaves beside the nodes
pub record Told (r r' : Replayer) (number : ℕ) (answer : Answer) (text text' : List ℕ) : Type 0 where
  pub added : text' ≡ text ++ call_text number (length r.messages.items) answer
  pub messages : r'.messages.items ≡ r.messages.items ++ handed_by answer
  pub rules : r'.rules ≡ r.rules
  pub rx : r'.rx ≡ r.rx
  pub replies : r'.replies.items ≡ r.replies.items
  pub time : r'.time ≡ r.time

-- a call was answered, its answer printed, its fact taken in, and what it hands out kept
pub call-goes : (r r' : Replayer) (w : World) (c : Call) (number : ℕ) (answer : Answer) (text text' : List ℕ) → IsAt r w
    → tx_told replay_rules replay_store w.facts c w.time ≡ Ok answer → TxIn r'.tx (w.facts ++ option_to_list (tx_change replay_rules replay_store w.facts c w.time))
    → Told r r' number answer text text' → Goes (played_call number w c) r' text text'
call-goes r r' w c number answer text text' at told holds beside =
    let k : Known w c answer = known w c answer at.within told in
    let kept : List Fact = w.facts ++ option_to_list (fact_of w c) in
    let handed : List Token = handed_by (answer_of replay_rules (sum_in replay_ends w) c w.time) in
    let on : World = record { facts = kept; journal = w.journal; messages = w.messages ++ handed; replies = w.replies; time = w.time } in
    let goes : played_call number w c ≡ answered_call number w c = ap (λ o. unless_full o w (answered_call number w c)) k.need in
    let recorded : call_recorded replay_ends c w ≡ with_facts w kept = ap (λ b. if b then w else with_facts w kept) k.within in
    let next : called w c ≡ on =
    ap (λ b. if b then call_recorded replay_ends c w else with_messages (call_recorded replay_ends c w) ((call_recorded replay_ends c w).messages ++ handed)) k.within
    ∙ ap (λ (v : World). with_messages v (v.messages ++ handed)) recorded in
    subst (λ p. Goes p r' text text') (sym goes) (record {
      going = refl;
      added = beside.added ∙ ap (λ n. text ++ call_text number n answer) (ap length at.messages) ∙ ap (λ a. text ++ call_text number (length w.messages) a) (sym k.answered);
      on = subst (IsAt r') (sym next) (record {
        rules = beside.rules ∙ at.rules;
        sent = subst (λ o. TxIn r'.tx (w.facts ++ option_to_list o)) (change_is w c at.within) holds;
        received = subst (λ x. RxIn x w.journal) (sym beside.rx) at.received;
        messages = beside.messages ∙ ap (λ ms. ms ++ handed_by answer) at.messages ∙ ap (λ a. w.messages ++ handed_by a) (sym k.answered);
        replies = beside.replies ∙ at.replies;
        time = beside.time ∙ at.time;
        within = at.within;
      });
    })

pub some_holds : {A : Type 0} (P Q : A → Type 0) (o : Option A) → ((a : A) → P a → Q a) → IsSomeAnd o P → IfSome o Q
some_holds P Q None f h = tt
some_holds P Q (Some a) f h = f a h

abbrev pub some_fact : {A : Type 0} {P : A → Type 0} {B : Type 0} (o : Option A) → ((a : A) → P a → B) → IsSomeAnd o P → B
some_fact None f h = absurd h
some_fact (Some a) f h = f a h

-- a call was answered though the disk stood still: it keeps nothing
pub halted-goes : (r r' : Replayer) (w : World) (c : Call) (number : ℕ) (keeps : Bool) (answer : Answer) (text text' : List ℕ) → IsAt r w
    → TxHaltedIn w.facts c w.time keeps r'.tx (halted.Answered answer) → Told r r' number answer text text' → Goes (stopped_call number w c keeps) r' text text'
halted-goes r r' w c number keeps answer text text' at done beside =
    let none : tx_change replay_rules replay_store w.facts c w.time ≡ None = some_fact r'.tx (λ n h. h.0) done in
    let told : tx_told replay_rules replay_store w.facts c w.time ≡ Ok answer = some_fact r'.tx (λ n h. h.1) done in
    let holds : TxIn r'.tx w.facts = some_holds _ _ r'.tx (λ n h. h.2) done in
    let more : TxIn r'.tx (w.facts ++ option_to_list (tx_change replay_rules replay_store w.facts c w.time)) =
    subst (λ o. TxIn r'.tx (w.facts ++ option_to_list o)) (sym none) (subst (TxIn r'.tx) (sym (append-nil w.facts)) holds) in
    subst (λ p. Goes p r' text text') (sym (ap (stopped_fact number w c keeps) (sym (change_is w c at.within) ∙ none)))
    (call-goes r r' w c number answer text text' at told more beside)

-- what a crash leaves beside the nodes
pub record Crashes (r r' : Replayer) (number : ℕ) (kept : Bool) (text text' : List ℕ) : Type 0 where
  pub added : text' ≡ text ++ numbered number (kept_word kept)
  pub rules : r'.rules ≡ r.rules
  pub messages : r'.messages.items ≡ r.messages.items
  pub replies : r'.replies.items ≡ r.replies.items
  pub time : r'.time ≡ r.time

-- the transmitter crashed while a call was brought to its disk
pub crashed-goes : (r r' : Replayer) (w : World) (c : Call) (number : ℕ) (keeps kept : Bool) (text text' : List ℕ) → IsAt r w
    → TxHaltedIn w.facts c w.time keeps r'.tx (halted.Crashed kept) → Crashes r r' number kept text text' → r'.rx ≡ r.rx → Goes (stopped_call number w c keeps) r' text text'
crashed-goes r r' w c number keeps kept text text' at done beside same_rx =
    let makes : MakesFact replay_rules replay_store w.facts c w.time = some_fact r'.tx (λ n h. h.0) done in
    let is : kept ≡ keeps = some_fact r'.tx (λ n h. h.1) done in
    let k : Known w c makes.answer = known w c makes.answer at.within makes.told in
    let change : fact_of w c ≡ Some makes.fact = sym (change_is w c at.within) ∙ makes.change in
    let recorded : call_recorded replay_ends c w ≡ with_facts w (w.facts ++ makes.fact ∷ []) =
    ap (λ b. if b then w else with_facts w (w.facts ++ option_to_list (fact_of w c))) k.within ∙ ap (λ o. with_facts w (w.facts ++ option_to_list o)) change in
    let goes : stopped_call number w c keeps ≡ crashed number keeps w (with_facts w (w.facts ++ makes.fact ∷ [])) =
    ap (stopped_fact number w c keeps) change
    ∙ ap (λ o. unless_full o w (crashed number keeps w (call_recorded replay_ends c w))) k.need
    ∙ ap (crashed number keeps w) recorded in
    subst (λ p. Goes p r' text text') (sym goes) (by_kept keeps is makes.fact (kept_facts r'.tx done))
  where
    kept_facts : (tx : Option (NodeView Kept)) → (done : TxHaltedIn w.facts c w.time keeps tx (halted.Crashed kept)) → TxIn tx (with_kept keeps w.facts (some_fact tx (λ n h. h.0) done).fact)
    kept_facts None done = absurd done
    kept_facts (Some n) done = done.2

    by_kept : (b : Bool) → kept ≡ b → (f : Fact) → TxIn r'.tx (with_kept b w.facts f) → Goes (crashed number b w (with_facts w (w.facts ++ f ∷ []))) r' text text'
    by_kept true is f holds = record {
      going = refl;
      added = beside.added ∙ ap (λ b. text ++ numbered number (kept_word b)) is;
      on = record {
        rules = beside.rules ∙ at.rules;
        sent = holds;
        received = subst (λ x. RxIn x w.journal) (sym same_rx) at.received;
        messages = beside.messages ∙ at.messages;
        replies = beside.replies ∙ at.replies;
        time = beside.time ∙ at.time;
        within = at.within;
      };
    }
    by_kept false is f holds = record {
      going = refl;
      added = beside.added ∙ ap (λ b. text ++ numbered number (kept_word b)) is;
      on = record {
        rules = beside.rules ∙ at.rules;
        sent = holds;
        received = subst (λ x. RxIn x w.journal) (sym same_rx) at.received;
        messages = beside.messages ∙ at.messages;
        replies = beside.replies ∙ at.replies;
        time = beside.time ∙ at.time;
        within = at.within;
      };
    }

-- a call that isn't answered stops the script, be the disk as it may
pub stopped-not : (r : Replayer) (w : World) (c : Call) (number : ℕ) (keeps : Bool) (f : TellFault) → IsAt r w → IsFullTx w.facts c w.time f → GoesNot (stopped_call number w c keeps) f
stopped-not r w c number keeps (Stopped (Full n)) at full = by_fact (fact_of w c)
  where
    by_fact : (o : Option Fact) → (stopped_fact number w c keeps o).stop ≡ Some (Full n)
    by_fact None = ap (λ o. (unless_full o w (answered_call number w c)).stop) (full_need w c n at.within full)
    by_fact (Some f) = ap (λ o. (unless_full o w (crashed number keeps w (call_recorded replay_ends c w))).stop) (full_need w c n at.within full)
stopped-not r w c number keeps (Stopped (Line n)) at full = absurd full
stopped-not r w c number keeps Memory at full = tt

-- ---- what the nodes answered, at the replay's own time and with its own key

module _ (r r' : Replayer) (c : Call) (number : ℕ) (text text' : List ℕ) where
  pub call-plays : (answer : Answer)
      → ((facts : List Fact) → TxIn r.tx facts → (tx_told replay_rules replay_store facts c r.time ≡ Ok answer) × TxIn r'.tx (facts ++ option_to_list (tx_change replay_rules replay_store facts c r.time)))
      → Told r r' number answer text text' → (w : World) → IsAt r w → Goes (played_call number w c) r' text text'
  call-plays answer took beside w at =
      let t = took w.facts at.sent in
      call-goes r r' w c number answer text text' at (subst (λ now. tx_told replay_rules replay_store w.facts c now ≡ Ok answer) at.time t.0)
      (subst (λ now. TxIn r'.tx (w.facts ++ option_to_list (tx_change replay_rules replay_store w.facts c now))) at.time t.1) beside

  pub halted-plays : (keeps : Bool) (answer : Answer) → ((facts : List Fact) → TxIn r.tx facts → TxHaltedIn facts c r.time keeps r'.tx (halted.Answered answer))
      → Told r r' number answer text text' → (w : World) → IsAt r w → Goes (stopped_call number w c keeps) r' text text'
  halted-plays keeps answer done beside w at =
      halted-goes r r' w c number keeps answer text text' at (subst (λ now. TxHaltedIn w.facts c now keeps r'.tx (halted.Answered answer)) at.time (done w.facts at.sent)) beside

  pub crashed-plays : (keeps kept : Bool) → ((facts : List Fact) → TxIn r.tx facts → TxHaltedIn facts c r.time keeps r'.tx (halted.Crashed kept))
      → Crashes r r' number kept text text' → r'.rx ≡ r.rx → (w : World) → IsAt r w → Goes (stopped_call number w c keeps) r' text text'
  crashed-plays keeps kept done beside same_rx w at =
      crashed-goes r r' w c number keeps kept text text' at (subst (λ now. TxHaltedIn w.facts c now keeps r'.tx (halted.Crashed kept)) at.time (done w.facts at.sent)) beside same_rx

module _ (r : Replayer) (c : Call) (number : ℕ) (f : TellFault) (full : (facts : List Fact) → TxIn r.tx facts → IsFullTx facts c r.time f) where
  pub call-stops : (w : World) → IsAt r w → GoesNot (played_call number w c) f
  call-stops w at = call-not r w c number f at (subst (λ now. IsFullTx w.facts c now f) at.time (full w.facts at.sent))

  pub stopped-stops : (keeps : Bool) (w : World) → IsAt r w → GoesNot (stopped_call number w c keeps) f
  stopped-stops keeps w at = stopped-not r w c number keeps f at (subst (λ now. IsFullTx w.facts c now f) at.time (full w.facts at.sent))

-- ---- what is told of answers, as the functions say it

-- the transmitter's answer was printed, and what it hands out was kept
abbrev TellsAnswer : Replayer → Replayer → Option (NodeView Kept) → ℕ → Answer → List ℕ → List ℕ → Type 0
TellsAnswer r r' tx number answer text text' =
    (text' ≡ text ++ call_text number (length r.messages.items) answer) × (r'.messages.items ≡ r.messages.items ++ handed_by answer) × (r'.rules ≡ r.rules) × (r'.tx ≡ tx)
    × (r'.rx ≡ r.rx) × (r'.replies ≡ r.replies) × (r'.time ≡ r.time)

told_by : (r r' : Replayer) (tx : Option (NodeView Kept)) (number : ℕ) (answer : Answer) (text text' : List ℕ) → TellsAnswer r r' tx number answer text text' → Told r r' number answer text text'
told_by r r' tx number answer text text' tells = record {
  added = tells.0;
  messages = tells.1;
  rules = tells.2;
  rx = tells.4;
  replies = ap (λ (v : Vec Reply Global). v.items) tells.5;
  time = tells.6;
}

pub call-tells : (r r' : Replayer) (tx : Option (NodeView Kept)) (c : Call) (number : ℕ) (text text' : List ℕ) (answer : Answer)
    → ((facts : List Fact) → TxIn r.tx facts → (tx_told replay_rules replay_store facts c r.time ≡ Ok answer) × TxIn tx (facts ++ option_to_list (tx_change replay_rules replay_store facts c r.time)))
    → TellsAnswer r r' tx number answer text text' → (w : World) → IsAt r w → Goes (played_call number w c) r' text text'
call-tells r r' tx c number text text' answer took tells =
    call-plays r r' c number text text' answer
    (λ facts at. let t = took facts at in (t.0, subst (λ o. TxIn o (facts ++ option_to_list (tx_change replay_rules replay_store facts c r.time))) (sym tells.3) t.1))
    (told_by r r' tx number answer text text' tells)

pub halted-tells : (r r' : Replayer) (tx : Option (NodeView Kept)) (c : Call) (number : ℕ) (text text' : List ℕ) (keeps : Bool) (h : Halted Answer) (answer : Answer) → h ≡ halted.Answered answer
    → ((facts : List Fact) → TxIn r.tx facts → TxHaltedIn facts c r.time keeps tx h)
    → TellsAnswer r r' tx number answer text text' → (w : World) → IsAt r w → Goes (stopped_call number w c keeps) r' text text'
halted-tells r r' tx c number text text' keeps h answer is done tells =
    halted-plays r r' c number text text' keeps answer
    (λ facts at. subst (λ o. TxHaltedIn facts c r.time keeps o (halted.Answered answer)) (sym tells.3) (subst (TxHaltedIn facts c r.time keeps tx) is (done facts at)))
    (told_by r r' tx number answer text text' tells)
