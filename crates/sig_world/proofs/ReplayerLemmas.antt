-- What any other line does to what a replay keeps, and what a line is to the script.
use Rattle.std.specs.Option.{option_to_list}
use Rattle.std.proofs.Common.{◌≡◌, ◌∙◌, ap, sym, subst, inl, inr, ℕ, suc, arith, ◌+◌, ◌<◌, ◌≤◌, min, List, [], ◌∷◌, ◌++◌, length, map, Option, Some, None, Bool, true, false, refl, append-nil, if◌then◌else◌}
use Rattle.std.specs.Prelude.{◌⊎◌, Result, Ok, Err, IfErr, IfSome, IsSomeAnd, OnOk, codes, decimal, nat_lt, option_map}
use Rattle.std.specs.Prelude.{Vec}
use Rattle.std.specs.declared.alloc.Global.{Global}
use Rattle.std.proofs.Math.Nat.{min-eq_left}
use Rattle.std.proofs.lemmas.Bool.{false≢true, le-leb, lt-leb}
use Rattle.sig_json.specs.declared.limits.TheConstants.{LAST_NUMBER, SCRIPT_LINE_BYTES}
use Rattle.sig_entry.specs.Facts.{spelling_of}
use Rattle.sig_entry.specs.Tokens.{token_spelling}
use Rattle.sig_journal.specs.Added.{rests_with_it}
use Rattle.sig_receiver.specs.declared.heard.Heard.{Heard}
use Rattle.sig_receiver.specs.declared.heard.Heard.TheVariants.{Accepted, Seen, NotTaken}
use Rattle.sig_receiver.specs.Journal.{answer_to, journal_by}
use Rattle.sig_receiver.specs.Receiver.{Received, heard_at, is_accepted, nothing, received_of}
use Rattle.sig_receiver.proofs.KeptLemmas.{answers}
use Rattle.sig_rxnode.specs.Answers.{heard_answer}
use Rattle.sig_rxnode.specs.declared.answer.RxAnswer.{RxAnswer}
use Rattle.sig_rxnode.specs.declared.answer.RxAnswer.TheVariants as answer
use Rattle.sig_rxnode.specs.declared.call.RxCall.{RxCall}
use Rattle.sig_rxnode.specs.declared.call.RxCall.TheVariants as asked
use Rattle.sig_sessions.specs.Verdicts.{verdict_of}
use Rattle.sig_sessions.specs.declared.verdict.Verdict.{Verdict}
use Rattle.sig_subject.specs.declared.subject.Subject.{Subject}
use Rattle.sig_set.specs.Written.{token_text}
use Rattle.sig_jws.specs.declared.key.Key.{Key}
use Rattle.sig_rxnode.specs.declared.rules.RxRules.{RxRules}
use Rattle.sig_journal.specs.declared.node_fault.NodeFault.TheVariants as fault
use Rattle.sig_terms.specs.declared.answer.Answer.{Answer}
use Rattle.sig_terms.specs.declared.call.Call.{Call}
use Rattle.sig_terms.specs.declared.fact.Fact.{Fact}
use Rattle.sig_terms.specs.declared.rules.Rules.{Rules}
use Rattle.sig_terms.specs.declared.token.Token.{Token}
use Rattle.sig_calls.specs.Regular.{handed_by}
use Rattle.sig_calls.specs.Table.{answer_of, change_of, over_top}
use Rattle.sig_outside.specs.KeptDisk.{Kept}
use Rattle.sig_rxnode.specs.Node as rxs
use Rattle.sig_txnode.specs.Node.{NodeView}
use Rattle.sig_txnode.specs.Answering.{answer_at, end_with, time_used}
use Rattle.sig_still.specs.Stores.{end_at, past_end, with_kept}
use Rattle.sig_nodes.specs.Records.{fact_records, token_records}
use Rattle.sig_nodes.specs.Receiving.{MakesText, RxPasses, RxRoom, kept_of, rx_change, rx_end, rx_told}
use Rattle.sig_nodes.specs.Sending.{MakesFact, sum_at, tx_change, tx_told}
use Rattle.sig_nodes.specs.declared.halted.Halted.{Halted}
use Rattle.sig_nodes.specs.declared.halted.Halted.TheVariants as halted
use Rattle.sig_nodes.proofs.ToldLemmas.{EndsPast, IsTold, full_tells, ok_tells}
use Rattle.sig_world.specs.declared.replayer.Replayer.{Replayer}
use Rattle.sig_law.specs.World.{Reply}
use Rattle.sig_command.specs.declared.stop.Stop.TheVariants.{Line, Full}
use Rattle.sig_command.specs.declared.stop.TellFault.{TellFault}
use Rattle.sig_command.specs.declared.stop.TellFault.TheVariants.{Stopped, Memory}
use Rattle.sig_script.specs.Script.{utf8_line}
use Rattle.sig_command.specs.Telling.{StopsAt}
use Rattle.sig_law.specs.World.{World, call_recorded, delivery_recorded, heard_of, new_world, sum_in, with_facts, with_journal, with_messages}
use Rattle.sig_schedules.specs.Replay.{Played, answered_call, call_need, call_text, called, counted_at, crashed, delivered, delivery_need, fact_of, heard_delivery, heard_text, kept_word, numbered, played, played_call, played_check, played_crash, played_delivery, played_found, played_time, receiver_store, record_if, replay_ends, replay_rules, replay_store, replay_telling, replay_trust, script_stop, script_text, script_world, stopped_call, stopped_delivery, stopped_fact, stopped_message, unless_full, verdict_word}
use Rattle.sig_world.proofs.HearerLemmas.{nil_one}
use Rattle.sig_world.specs.Ends.{IsFullRx, IsFullTx, RxHaltedIn, RxIn, TxHaltedIn, TxIn, receiver_rules}
use Rattle.sig_world.specs.Hearing.{token_call}
use Rattle.sig_world.specs.Replaying.{Goes, GoesNot, IsAt, StandsAt}
use Rattle.sig_schedules.proofs.ReplayLemmas.{line-goes, line-stops}

-- ---- a time, a crash, and a question

-- it is another time, and that was printed
pub pass-goes : (r r' : Replayer) (w : World) (number time : ℕ) (text text' : List ℕ) → IsAt r w → time ≤ LAST_NUMBER
    → text' ≡ text ++ numbered number (codes "time " ++ decimal time)
    → r'.rules ≡ r.rules → r'.tx ≡ r.tx → r'.rx ≡ r.rx → r'.messages.items ≡ r.messages.items → r'.replies.items ≡ r.replies.items → r'.time ≡ time
    → Goes (played_time number w time) r' text text'
pass-goes r r' w number time text text' at within added rules tx rx messages replies is = record {
  going = refl;
  added = added;
  on = record {
    rules = rules ∙ at.rules;
    sent = subst (λ x. TxIn x w.facts) (sym tx) at.sent;
    received = subst (λ x. RxIn x w.journal) (sym rx) at.received;
    messages = messages ∙ at.messages;
    replies = replies ∙ at.replies;
    time = is;
    within = within;
  };
}

-- a node was loaded again, and that was printed
pub crash-goes : (r r' : Replayer) (w : World) (number : ℕ) (text text' : List ℕ) → IsAt r w → text' ≡ text ++ numbered number (codes "loaded")
    → r'.rules ≡ r.rules → TxIn r'.tx w.facts → RxIn r'.rx w.journal → r'.messages.items ≡ r.messages.items → r'.replies.items ≡ r.replies.items → r'.time ≡ r.time
    → Goes (played_crash number w) r' text text'
crash-goes r r' w number text text' at added rules sent received messages replies time = record {
  going = refl;
  added = added;
  on = record {
    rules = rules ∙ at.rules;
    sent = sent;
    received = received;
    messages = messages ∙ at.messages;
    replies = replies ∙ at.replies;
    time = time ∙ at.time;
    within = at.within;
  };
}

-- whether a subject may go on was printed
pub check-goes : (r r' : Replayer) (w : World) (s : Subject) (number : ℕ) (v : Verdict) (a : RxAnswer) (text text' : List ℕ) → IsAt r w
    → rx_told receiver_rules w.journal (asked.Verdict s) ≡ a → RxIn r'.rx (w.journal ++ rx_change receiver_rules w.journal (asked.Verdict s))
    → ((verdict : Verdict) → a ≡ answer.Verdict verdict → Some v ≡ Some verdict) → text' ≡ text ++ numbered number (verdict_word v.allow)
    → r'.rules ≡ r.rules → r'.tx ≡ r.tx → r'.messages.items ≡ r.messages.items → r'.replies.items ≡ r.replies.items → r'.time ≡ r.time
    → Goes (played_check number w s) r' text text'
check-goes r r' w s number v a text text' at told holds found added rules tx messages replies time =
    let is : v ≡ verdict_of (kept_of w.journal).rows s = verdict_same v (verdict_of (kept_of w.journal).rows s) (found (verdict_of (kept_of w.journal).rows s) (sym told)) in
    record {
      going = refl;
      added = added ∙ ap (λ (x : Verdict). text ++ numbered number (verdict_word x.allow)) is;
      on = record {
        rules = rules ∙ at.rules;
        sent = subst (λ x. TxIn x w.facts) (sym tx) at.sent;
        received = subst (RxIn r'.rx) (append-nil w.journal) holds;
        messages = messages ∙ at.messages;
        replies = replies ∙ at.replies;
        time = time ∙ at.time;
        within = at.within;
      };
    }
  where
    verdict_same : (x y : Verdict) → Some x ≡ Some y → x ≡ y
    verdict_same x y h = cc h

-- no question stops a script
pub check-not : (r : Replayer) (w : World) (s : Subject) (number : ℕ) (f : TellFault) → IsFullRx w.journal (asked.Verdict s) f → GoesNot (played_check number w s) f
check-not r w s number (Stopped (Full n)) full = absurd (nil_one full.text full.change)
check-not r w s number (Stopped (Line n)) full = absurd full
check-not r w s number Memory full = tt

-- ---- what stands at a place

-- a message that the replay finds is the world's
pub found-message : (r : Replayer) (w : World) (place : ℕ) (m copied : Token) (items : List Token) → IsAt r w → copied ≡ m → (let o : Option Token = Some m in o ≡ counted_at place items) → items ≡ r.messages.items
    → counted_at place w.messages ≡ Some copied
found-message r w place m copied items at same found kept =
    ap (counted_at place) (sym (kept ∙ at.messages)) ∙ sym found ∙ ap (λ x. let o : Option Token = Some x in o) (sym same)

-- a fact on a fault gives another
pub on_err_one : {T E : Type 0} {P Q : E → Type 0} (r : Result T E) → ((e : E) → P e → Q e) → IfErr r P → IfErr r Q
on_err_one (Ok x) f h = tt
on_err_one (Err e) f h = f e h

-- ---- a line

-- a line that is too long is refused
long-line : (number : ℕ) (w : World) (line : List ℕ) → SCRIPT_LINE_BYTES < length line → (played number w line).stop ≡ Some (Line number)
long-line number w line long = ap (λ b. (played_found number w (if b then utf8_line line else None)).stop) (lt-leb (length line) SCRIPT_LINE_BYTES long)

pub long-stops : (r : Replayer) (number : ℕ) (fault : TellFault) → fault ≡ Stopped (Line number)
    → StopsAt replay_telling (StandsAt r) SCRIPT_LINE_BYTES number None fault
long-stops r number fault is = subst (λ f. StopsAt replay_telling (StandsAt r) SCRIPT_LINE_BYTES number None f) (sym is)
    (λ given line at going count long. line-stops given line number (Line number) going count (long-line number (script_world 1 new_world given) line long))

-- a line that wasn't played wasn't taken
pub line-not : (r : Replayer) (number : ℕ) (bytes : List ℕ) (fault : TellFault) → ((w : World) → IsAt r w → GoesNot (played number w bytes) fault)
    → StopsAt replay_telling (StandsAt r) SCRIPT_LINE_BYTES number (Some bytes) fault
line-not r number bytes (Stopped s) h = λ given line at going count same.
    line-stops given line number s going count (ap (λ l. (played number (script_world 1 new_world given) l).stop) same ∙ h (script_world 1 new_world given) at)
line-not r number bytes Memory h = tt

-- a line that was played was taken
pub line-taken : (r r' : Replayer) (number : ℕ) (bytes line text gathered gathered' : List ℕ) (given : List (List ℕ))
    → ((w : World) → IsAt r w → Goes (played number w bytes) r' [] text) → gathered' ≡ gathered ++ text
    → StandsAt r given → script_stop 1 new_world given ≡ None → number ≡ length given + 1 → line ≡ bytes
    → StandsAt r' (given ++ line ∷ []) × (script_stop 1 new_world (given ++ line ∷ []) ≡ None)
    × (x : List ℕ) × (gathered' ≡ gathered ++ x) × (script_text 1 new_world (given ++ line ∷ []) ≡ script_text 1 new_world given ++ x)
line-taken r r' number bytes line text gathered gathered' given plays added at going count same =
    let w : World = script_world 1 new_world given in
    let goes : Goes (played number w line) r' [] text = subst (λ l. Goes (played number w l) r' [] text) (sym same) (plays w at) in
    let one = line-goes given line number going count goes.going in (
      subst (IsAt r') (sym one.2) goes.on,
      one.0,
      (played number w line).text,
      added ∙ ap (λ t. gathered ++ t) goes.added,
      one.1,
    )

-- a fact on a success gives another
pub on_ok_one : {T E A B : Type 0} (r : Result T E) → (A → B) → OnOk r A → OnOk r B
on_ok_one (Ok x) f a = f a
on_ok_one (Err e) f a = tt
