-- What a message that reaches the receiver does to what a replay keeps.
use Rattle.std.specs.Option.{option_to_list}
use Rattle.std.proofs.Common.{◌≡◌, ◌∙◌, ap, sym, subst, inl, inr, ℕ, suc, arith, ◌+◌, ◌<◌, ◌≤◌, min, List, [], ◌∷◌, ◌++◌, length, map, Option, Some, None, Bool, true, false, refl, append-nil, if◌then◌else◌}
use Rattle.std.specs.Prelude.{◌⊎◌, Result, Ok, Err, IfErr, IfSome, IsSomeAnd, OnOk, codes, decimal, nat_lt, option_map}
use Rattle.std.specs.Prelude.{Vec}
use Rattle.std.specs.declared.alloc.Global.{Global}
use Rattle.std.proofs.Math.Nat.{min-eq_left}
use Rattle.std.proofs.lemmas.Bool.{false≢true, le-leb, lt-leb}
use Rattle.sig_json.specs.declared.limits.TheConstants.{LAST_NUMBER, SCRIPT_LINE_BYTES}
use Rattle.sig_entry.specs.Facts.{spelling_of}
use Rattle.sig_entry.specs.Tokens.{token_spelling}
use Rattle.sig_journal.specs.Added.{rests_with_it}
use Rattle.sig_receiver.specs.declared.heard.Heard.{Heard}
use Rattle.sig_receiver.specs.declared.heard.Heard.TheVariants.{Accepted, Seen, NotTaken}
use Rattle.sig_receiver.specs.Journal.{answer_to, journal_by}
use Rattle.sig_receiver.specs.Receiver.{Received, heard_at, is_accepted, nothing, received_of}
use Rattle.sig_receiver.proofs.KeptLemmas.{answers}
use Rattle.sig_rxnode.specs.Answers.{heard_answer}
use Rattle.sig_rxnode.specs.declared.answer.RxAnswer.{RxAnswer}
use Rattle.sig_rxnode.specs.declared.answer.RxAnswer.TheVariants as answer
use Rattle.sig_rxnode.specs.declared.call.RxCall.{RxCall}
use Rattle.sig_rxnode.specs.declared.call.RxCall.TheVariants as asked
use Rattle.sig_sessions.specs.Verdicts.{verdict_of}
use Rattle.sig_sessions.specs.declared.verdict.Verdict.{Verdict}
use Rattle.sig_subject.specs.declared.subject.Subject.{Subject}
use Rattle.sig_set.specs.Written.{token_text}
use Rattle.sig_jws.specs.declared.key.Key.{Key}
use Rattle.sig_rxnode.specs.declared.rules.RxRules.{RxRules}
use Rattle.sig_journal.specs.declared.node_fault.NodeFault.TheVariants as fault
use Rattle.sig_terms.specs.declared.answer.Answer.{Answer}
use Rattle.sig_terms.specs.declared.call.Call.{Call}
use Rattle.sig_terms.specs.declared.fact.Fact.{Fact}
use Rattle.sig_terms.specs.declared.rules.Rules.{Rules}
use Rattle.sig_terms.specs.declared.token.Token.{Token}
use Rattle.sig_calls.specs.Regular.{handed_by}
use Rattle.sig_calls.specs.Table.{answer_of, change_of, over_top}
use Rattle.sig_outside.specs.KeptDisk.{Kept}
use Rattle.sig_rxnode.specs.Node as rxs
use Rattle.sig_txnode.specs.Node.{NodeView}
use Rattle.sig_txnode.specs.Answering.{answer_at, end_with, time_used}
use Rattle.sig_still.specs.Stores.{end_at, past_end, with_kept}
use Rattle.sig_nodes.specs.Records.{fact_records, token_records}
use Rattle.sig_nodes.specs.Receiving.{MakesText, RxPasses, RxRoom, kept_of, rx_change, rx_end, rx_told}
use Rattle.sig_nodes.specs.Sending.{MakesFact, sum_at, tx_change, tx_told}
use Rattle.sig_nodes.specs.declared.halted.Halted.{Halted}
use Rattle.sig_nodes.specs.declared.halted.Halted.TheVariants as halted
use Rattle.sig_nodes.proofs.ToldLemmas.{EndsPast, IsTold, full_tells, ok_tells}
use Rattle.sig_world.specs.declared.replayer.Replayer.{Replayer}
use Rattle.sig_law.specs.World.{Reply}
use Rattle.sig_command.specs.declared.stop.Stop.TheVariants.{Line, Full}
use Rattle.sig_command.specs.declared.stop.TellFault.{TellFault}
use Rattle.sig_command.specs.declared.stop.TellFault.TheVariants.{Stopped, Memory}
use Rattle.sig_script.specs.Script.{utf8_line}
use Rattle.sig_command.specs.Telling.{StopsAt}
use Rattle.sig_law.specs.World.{World, call_recorded, delivery_recorded, heard_of, new_world, sum_in, with_facts, with_journal, with_messages}
use Rattle.sig_schedules.specs.Replay.{Played, answered_call, call_need, call_text, called, counted_at, crashed, delivered, delivery_need, fact_of, heard_delivery, heard_text, kept_word, numbered, played, played_call, played_check, played_crash, played_delivery, played_found, played_time, receiver_store, record_if, replay_ends, replay_rules, replay_store, replay_telling, replay_trust, script_stop, script_text, script_world, stopped_call, stopped_delivery, stopped_fact, stopped_message, unless_full, verdict_word}
use Rattle.sig_world.specs.Ends.{IsFullRx, IsFullTx, RxHaltedIn, RxIn, TxHaltedIn, TxIn, receiver_rules}
use Rattle.sig_world.specs.Hearing.{token_call}
use Rattle.sig_world.specs.Replaying.{Goes, GoesNot, IsAt, StandsAt}
use Rattle.sig_schedules.proofs.ReplayLemmas.{line-goes, line-stops}
use Rattle.sig_world.proofs.SenderLemmas.{Crashes, some_fact, some_holds}

-- ---- a delivery

-- the text that a message brings, and what is heard of it over these texts
abbrev text_of : Token → List ℕ
text_of m = token_text m.claims replay_rules.key

abbrev hears : World → Token → Heard
hears w m = heard_at replay_trust (Some m.claims.iss) None (kept_of w.journal) (text_of m)

heard_is : (w : World) (m : Token) → heard_of replay_ends w m ≡ hears w m
heard_is w m = answers replay_trust nothing (Some m.claims.iss) None w.journal (text_of m)

journal_more : (h : Heard) (journal : List (List ℕ)) (text : List ℕ) → journal ++ journal_by h [] text ≡ journal_by h journal text
journal_more Accepted journal text = refl
journal_more Seen journal text = append-nil journal
journal_more (NotTaken code spot) journal text = append-nil journal

abbrev need_of : World → Token → Bool → Option ℕ
need_of w m accepted = past_end (end_at receiver_store (map token_spelling w.journal)) (record_if accepted (text_of m))

-- where there is room for a text that is accepted, no number is needed
room_need : (w : World) (m : Token) (h : Heard)
    → ((text : List ℕ) → journal_by h [] (text_of m) ≡ text ∷ [] → rx_end receiver_store w.journal text ≤ LAST_NUMBER) → need_of w m (is_accepted h) ≡ None
room_need w m Accepted room =
    ap (λ past. if past then Some (rx_end receiver_store w.journal (text_of m)) else None) (lt_not (rx_end receiver_store w.journal (text_of m)) (room (text_of m) refl))
  where
    lt_not : (n : ℕ) → n ≤ LAST_NUMBER → nat_lt LAST_NUMBER n ≡ false
    lt_not n le = lt-leb (suc LAST_NUMBER) n (omega (arith, le))
room_need w m Seen room = refl
room_need w m (NotTaken code spot) room = refl

pub nil_one : (text : List ℕ) → (let ts : List (List ℕ) = [] in ts ≡ text ∷ []) → ⊥
nil_one text h = cc h

past_need : (w : World) (m : Token) (n : ℕ) (h : Heard) (text : List ℕ) → journal_by h [] (text_of m) ≡ text ∷ [] → n ≡ rx_end receiver_store w.journal text → LAST_NUMBER < n
    → (is_accepted h ≡ true) × (need_of w m true ≡ Some n)
past_need w m n Accepted text is place past =
    let same : text_of m ≡ text = one_same (text_of m) text is in
    let end : rx_end receiver_store w.journal (text_of m) ≡ n = ap (rx_end receiver_store w.journal) same ∙ sym place in (
      refl,
      ap (λ t. if t then Some (rx_end receiver_store w.journal (text_of m)) else None)
          (le-leb (suc LAST_NUMBER) (rx_end receiver_store w.journal (text_of m)) (subst (λ k. suc LAST_NUMBER ≤ k) (sym end) past))
          ∙ ap (λ k. let o : Option ℕ = Some k in o) end,
    )
  where
    one_same : (a b : List ℕ) → a ∷ [] ≡ b ∷ [] → a ≡ b
    one_same a b h = cc h
past_need w m n Seen text is place past = absurd (nil_one text is)
past_need w m n (NotTaken code spot) text is place past = absurd (nil_one text is)

-- what an answer that was told leaves beside the nodes
pub record Heard_told (r r' : Replayer) (number : ℕ) (m : Token) (heard : Heard) (text text' : List ℕ) : Type 0 where
  pub added : text' ≡ text ++ heard_text number (length r.replies.items) heard
  pub replies : r'.replies.items ≡ r.replies.items ++ record { message = m; heard = heard } ∷ []
  pub rules : r'.rules ≡ r.rules
  pub tx : r'.tx ≡ r.tx
  pub messages : r'.messages.items ≡ r.messages.items
  pub time : r'.time ≡ r.time

-- a message was heard, and its answer printed and kept
heard-goes : (r r' : Replayer) (w : World) (m : Token) (number : ℕ) (text text' : List ℕ) → IsAt r w → RxIn r'.rx (journal_by (heard_of replay_ends w m) w.journal (text_of m))
    → Heard_told r r' number m (heard_of replay_ends w m) text text' → Goes (heard_delivery number w m) r' text text'
heard-goes r r' w m number text text' at holds beside = record {
  going = refl;
  added = beside.added ∙ ap (λ n. text ++ heard_text number n (heard_of replay_ends w m)) (ap length at.replies);
  on = record {
    rules = beside.rules ∙ at.rules;
    sent = subst (λ x. TxIn x w.facts) (sym beside.tx) at.sent;
    received = holds;
    messages = beside.messages ∙ at.messages;
    replies = beside.replies ∙ ap (λ rs. rs ++ record { message = m; heard = heard_of replay_ends w m } ∷ []) at.replies;
    time = beside.time ∙ at.time;
    within = at.within;
  };
}

-- the same of the answer that the node gave
pub delivery-goes : (r r' : Replayer) (w : World) (m : Token) (number : ℕ) (answer : RxAnswer) (text text' : List ℕ) → IsAt r w
    → rx_told receiver_rules w.journal (token_call m replay_rules.key) ≡ answer → RxRoom receiver_rules receiver_store w.journal (token_call m replay_rules.key)
    → RxIn r'.rx (w.journal ++ rx_change receiver_rules w.journal (token_call m replay_rules.key))
    → ((heard : Heard) → answer ≡ heard_answer heard → Heard_told r r' number m heard text text') → Goes (played_delivery number w (Some m)) r' text text'
delivery-goes r r' w m number answer text text' at told room holds beside =
    let same = heard_is w m in
    let need : delivery_need w m ≡ None = ap (λ h. need_of w m (is_accepted h)) same ∙ room_need w m (hears w m) room in
    let journal : journal_by (hears w m) w.journal (text_of m) ≡ journal_by (heard_of replay_ends w m) w.journal (text_of m) = ap (λ h. journal_by h w.journal (text_of m)) (sym same) in
    subst (λ p. Goes p r' text text') (sym (ap (λ o. unless_full o w (heard_delivery number w m)) need))
    (heard-goes r r' w m number text text' at (subst (RxIn r'.rx) (journal_more (hears w m) w.journal (text_of m) ∙ journal) holds)
    (beside (heard_of replay_ends w m) (sym told ∙ ap heard_answer (sym same))))

-- what is known where a number is too great
passes : (w : World) (m : Token) (n : ℕ) → RxPasses receiver_rules receiver_store w.journal (token_call m replay_rules.key) n
    → (is_accepted (heard_of replay_ends w m) ≡ true) × (delivery_need w m ≡ Some n)
passes w m n over =
    let same = heard_is w m in
    let past = past_need w m n (hears w m) over.text over.change over.place over.past in
    let accepted : is_accepted (heard_of replay_ends w m) ≡ true = ap is_accepted same ∙ past.0 in
    (accepted, ap (need_of w m) accepted ∙ past.1)

pub delivery-not : (r : Replayer) (w : World) (m : Token) (number : ℕ) (f : TellFault) → IsAt r w → IsFullRx w.journal (token_call m replay_rules.key) f
    → GoesNot (played_delivery number w (Some m)) f
delivery-not r w m number (Stopped (Full n)) at full = ap (λ o. (unless_full o w (heard_delivery number w m)).stop) (passes w m n full).1
delivery-not r w m number (Stopped (Line n)) at full = absurd full
delivery-not r w m number Memory at full = tt

-- ---- a delivery while the receiver's disk stands still

none_accepted : (h : Heard) (text : List ℕ) → journal_by h [] text ≡ [] → is_accepted h ≡ false
none_accepted Accepted text is = absurd (one_nil text is)
  where
    one_nil : (text : List ℕ) → (let ts : List (List ℕ) = text ∷ [] in ts ≡ []) → ⊥
    one_nil text h = cc h
none_accepted Seen text is = refl
none_accepted (NotTaken code spot) text is = refl

one_accepted : (h : Heard) (own text : List ℕ) → journal_by h [] own ≡ text ∷ [] → (is_accepted h ≡ true) × (own ≡ text)
one_accepted Accepted own text is = (refl, one_same own text is)
  where
    one_same : (a b : List ℕ) → (let ts : List (List ℕ) = a ∷ [] in ts ≡ b ∷ []) → a ≡ b
    one_same a b h = cc h
one_accepted Seen own text is = absurd (nil_one text is)
one_accepted (NotTaken code spot) own text is = absurd (nil_one text is)

accepted_journal : (h : Heard) (journal : List (List ℕ)) (text : List ℕ) → is_accepted h ≡ true → journal_by h journal text ≡ journal ++ text ∷ []
accepted_journal Accepted journal text is = refl
accepted_journal Seen journal text is = absurd (false≢true is)
accepted_journal (NotTaken code spot) journal text is = absurd (false≢true is)

-- it was answered: nothing was kept
pub halted-delivery-goes : (r r' : Replayer) (w : World) (m : Token) (number : ℕ) (keeps : Bool) (answer : RxAnswer) (text text' : List ℕ) → IsAt r w
    → RxHaltedIn w.journal (token_call m replay_rules.key) keeps r'.rx (halted.Answered answer)
    → ((heard : Heard) → answer ≡ heard_answer heard → Heard_told r r' number m heard text text') → Goes (stopped_delivery number w (Some m) keeps) r' text text'
halted-delivery-goes r r' w m number keeps answer text text' at done beside =
    let none : rx_change receiver_rules w.journal (token_call m replay_rules.key) ≡ [] = some_fact r'.rx (λ n h. h.0) done in
    let told : rx_told receiver_rules w.journal (token_call m replay_rules.key) ≡ answer = some_fact r'.rx (λ n h. h.1) done in
    let holds : RxIn r'.rx w.journal = some_holds _ _ r'.rx (λ n h. h.2) done in
    let more : RxIn r'.rx (w.journal ++ rx_change receiver_rules w.journal (token_call m replay_rules.key)) =
    subst (λ ts. RxIn r'.rx (w.journal ++ ts)) (sym none) (subst (RxIn r'.rx) (sym (append-nil w.journal)) holds) in
    let not : is_accepted (heard_of replay_ends w m) ≡ false = ap is_accepted (heard_is w m) ∙ none_accepted (hears w m) (text_of m) none in
    subst (λ p. Goes p r' text text') (sym (ap (stopped_message number w m keeps) not))
    (delivery-goes r r' w m number answer text text' at told (λ text is. absurd (nil_one text (sym none ∙ is))) more beside)

-- the receiver crashed while a message was brought to its disk
pub crashed-delivery-goes : (r r' : Replayer) (w : World) (m : Token) (number : ℕ) (keeps kept : Bool) (text text' : List ℕ) → IsAt r w
    → RxHaltedIn w.journal (token_call m replay_rules.key) keeps r'.rx (halted.Crashed kept) → Crashes r r' number kept text text' → r'.tx ≡ r.tx
    → Goes (stopped_delivery number w (Some m) keeps) r' text text'
crashed-delivery-goes r r' w m number keeps kept text text' at done beside same_tx =
    let makes : MakesText receiver_rules receiver_store w.journal (token_call m replay_rules.key) = some_fact r'.rx (λ n h. h.0) done in
    let is : kept ≡ keeps = some_fact r'.rx (λ n h. h.1) done in
    let same = heard_is w m in
    let one = one_accepted (hears w m) (text_of m) makes.text makes.change in
    let accepted : is_accepted (heard_of replay_ends w m) ≡ true = ap is_accepted same ∙ one.0 in
    let room : RxRoom receiver_rules receiver_store w.journal (token_call m replay_rules.key) =
    λ text change. subst (λ t. rx_end receiver_store w.journal t ≤ LAST_NUMBER) (sym one.1 ∙ (one_accepted (hears w m) (text_of m) text change).1) makes.room in
    let need : delivery_need w m ≡ None = ap (λ h. need_of w m (is_accepted h)) same ∙ room_need w m (hears w m) room in
    let recorded : delivery_recorded replay_ends (Some m) w ≡ with_journal w (w.journal ++ makes.text ∷ []) =
    ap (with_journal w) (accepted_journal (heard_of replay_ends w m) w.journal (text_of m) accepted ∙ ap (λ t. w.journal ++ t ∷ []) one.1) in
    let goes : stopped_delivery number w (Some m) keeps ≡ crashed number keeps w (with_journal w (w.journal ++ makes.text ∷ [])) =
    ap (stopped_message number w m keeps) accepted
    ∙ ap (λ o. unless_full o w (crashed number keeps w (delivery_recorded replay_ends (Some m) w))) need
    ∙ ap (crashed number keeps w) recorded in
    subst (λ p. Goes p r' text text') (sym goes) (by_kept keeps is makes.text (kept_texts r'.rx done))
  where
    kept_texts : (rx : Option (rxs.NodeView Kept)) → (done : RxHaltedIn w.journal (token_call m replay_rules.key) keeps rx (halted.Crashed kept))
        → RxIn rx (with_kept keeps w.journal (some_fact rx (λ n h. h.0) done).text)
    kept_texts None done = absurd done
    kept_texts (Some n) done = done.2

    by_kept : (b : Bool) → kept ≡ b → (t : List ℕ) → RxIn r'.rx (with_kept b w.journal t) → Goes (crashed number b w (with_journal w (w.journal ++ t ∷ []))) r' text text'
    by_kept true is t holds = record {
      going = refl;
      added = beside.added ∙ ap (λ b. text ++ numbered number (kept_word b)) is;
      on = record {
        rules = beside.rules ∙ at.rules;
        sent = subst (λ x. TxIn x w.facts) (sym same_tx) at.sent;
        received = holds;
        messages = beside.messages ∙ at.messages;
        replies = beside.replies ∙ at.replies;
        time = beside.time ∙ at.time;
        within = at.within;
      };
    }
    by_kept false is t holds = record {
      going = refl;
      added = beside.added ∙ ap (λ b. text ++ numbered number (kept_word b)) is;
      on = record {
        rules = beside.rules ∙ at.rules;
        sent = subst (λ x. TxIn x w.facts) (sym same_tx) at.sent;
        received = holds;
        messages = beside.messages ∙ at.messages;
        replies = beside.replies ∙ at.replies;
        time = beside.time ∙ at.time;
        within = at.within;
      };
    }

pub stopped-delivery-not : (r : Replayer) (w : World) (m : Token) (number : ℕ) (keeps : Bool) (f : TellFault) → IsAt r w → IsFullRx w.journal (token_call m replay_rules.key) f
    → GoesNot (stopped_delivery number w (Some m) keeps) f
stopped-delivery-not r w m number keeps (Stopped (Full n)) at full =
    let past = passes w m n full in
    ap (λ t. (stopped_message number w m keeps t).stop) past.0
    ∙ ap (λ o. (unless_full o w (crashed number keeps w (delivery_recorded replay_ends (Some m) w))).stop) past.1
stopped-delivery-not r w m number keeps (Stopped (Line n)) at full = absurd full
stopped-delivery-not r w m number keeps Memory at full = tt

-- ---- what the node answered, with the replay's own key

module _ (r r' : Replayer) (m : Token) (c : RxCall) (number : ℕ) (text text' : List ℕ) (is : c ≡ token_call m r.rules.key) where
  key_is : (w : World) → IsAt r w → c ≡ token_call m replay_rules.key
  key_is w at = is ∙ ap (λ (x : Rules). token_call m x.key) at.rules

  pub hear-plays : (answer : RxAnswer)
      → ((texts : List (List ℕ)) → RxIn r.rx texts → (rx_told receiver_rules texts c ≡ answer) × RxRoom receiver_rules receiver_store texts c × RxIn r'.rx (texts ++ rx_change receiver_rules texts c))
      → ((heard : Heard) → answer ≡ heard_answer heard → Heard_told r r' number m heard text text') → (w : World) → IsAt r w → Goes (played_delivery number w (Some m)) r' text text'
  hear-plays answer took beside w at =
      let t = subst (λ x. (rx_told receiver_rules w.journal x ≡ answer) × RxRoom receiver_rules receiver_store w.journal x × RxIn r'.rx (w.journal ++ rx_change receiver_rules w.journal x)) (key_is w at) (took w.journal at.received) in
      delivery-goes r r' w m number answer text text' at t.0 t.1 t.2 beside

  pub halted-hear-plays : (keeps : Bool) (answer : RxAnswer) → ((texts : List (List ℕ)) → RxIn r.rx texts → RxHaltedIn texts c keeps r'.rx (halted.Answered answer))
      → ((heard : Heard) → answer ≡ heard_answer heard → Heard_told r r' number m heard text text') → (w : World) → IsAt r w → Goes (stopped_delivery number w (Some m) keeps) r' text text'
  halted-hear-plays keeps answer done beside w at =
      halted-delivery-goes r r' w m number keeps answer text text' at (subst (λ x. RxHaltedIn w.journal x keeps r'.rx (halted.Answered answer)) (key_is w at) (done w.journal at.received)) beside

  pub crashed-hear-plays : (keeps kept : Bool) → ((texts : List (List ℕ)) → RxIn r.rx texts → RxHaltedIn texts c keeps r'.rx (halted.Crashed kept))
      → Crashes r r' number kept text text' → r'.tx ≡ r.tx → (w : World) → IsAt r w → Goes (stopped_delivery number w (Some m) keeps) r' text text'
  crashed-hear-plays keeps kept done beside same_tx w at =
      crashed-delivery-goes r r' w m number keeps kept text text' at (subst (λ x. RxHaltedIn w.journal x keeps r'.rx (halted.Crashed kept)) (key_is w at) (done w.journal at.received)) beside same_tx

module _ (r : Replayer) (m : Token) (c : RxCall) (number : ℕ) (f : TellFault) (is : c ≡ token_call m r.rules.key) (full : (texts : List (List ℕ)) → RxIn r.rx texts → IsFullRx texts c f) where
  full_is : (w : World) → IsAt r w → IsFullRx w.journal (token_call m replay_rules.key) f
  full_is w at = subst (λ x. IsFullRx w.journal x f) (is ∙ ap (λ (x : Rules). token_call m x.key) at.rules) (full w.journal at.received)

  pub hear-stops : (w : World) → IsAt r w → GoesNot (played_delivery number w (Some m)) f
  hear-stops w at = delivery-not r w m number f at (full_is w at)

  pub stopped-hear-stops : (keeps : Bool) (w : World) → IsAt r w → GoesNot (stopped_delivery number w (Some m) keeps) f
  stopped-hear-stops keeps w at = stopped-delivery-not r w m number keeps f at (full_is w at)

-- ---- what is told of answers, as the functions say it

-- the receiver's answer was printed and kept
abbrev TellsHeard : Replayer → Replayer → Option (rxs.NodeView Kept) → ℕ → Token → RxAnswer → List ℕ → List ℕ → Type 0
TellsHeard r r' rx number m answer text text' =
    (heard : Heard) → answer ≡ heard_answer heard → (text' ≡ text ++ heard_text number (length r.replies.items) heard)
    × (r'.replies.items ≡ r.replies.items ++ record { message = m; heard = heard } ∷ []) × (r'.rules ≡ r.rules) × (r'.tx ≡ r.tx) × (r'.rx ≡ rx)
    × (r'.messages ≡ r.messages) × (r'.time ≡ r.time)

heard_by : (r r' : Replayer) (rx : Option (rxs.NodeView Kept)) (number : ℕ) (m : Token) (answer : RxAnswer) (text text' : List ℕ) → TellsHeard r r' rx number m answer text text'
    → (heard : Heard) → answer ≡ heard_answer heard → Heard_told r r' number m heard text text'
heard_by r r' rx number m answer text text' tells heard is = let t = tells heard is in record {
  added = t.0;
  replies = t.1;
  rules = t.2;
  tx = t.3;
  messages = ap (λ (v : Vec Token Global). v.items) t.5;
  time = t.6;
}

-- an answer to a token is what was heard
is_heard : (rules : RxRules) (texts : List (List ℕ)) (m : Token) (key : Key) (a : RxAnswer) → rx_told rules texts (token_call m key) ≡ a → (heard : Heard) × (a ≡ heard_answer heard)
is_heard rules texts m key a told = (heard_at rules.trust (Some m.claims.iss) None (kept_of texts) (token_text m.claims key), sym told)

pub hear-tells : (r r' : Replayer) (rx : Option (rxs.NodeView Kept)) (m : Token) (c : RxCall) (number : ℕ) (text text' : List ℕ) (answer : RxAnswer) → c ≡ token_call m r.rules.key
    → ((texts : List (List ℕ)) → RxIn r.rx texts → (rx_told receiver_rules texts c ≡ answer) × RxRoom receiver_rules receiver_store texts c × RxIn rx (texts ++ rx_change receiver_rules texts c))
    → TellsHeard r r' rx number m answer text text' → (w : World) → IsAt r w → Goes (played_delivery number w (Some m)) r' text text'
hear-tells r r' rx m c number text text' answer is took tells w at =
    let told : rx_told receiver_rules w.journal (token_call m r.rules.key) ≡ answer = subst (λ x. rx_told receiver_rules w.journal x ≡ answer) is (took w.journal at.received).0 in
    let heard = is_heard receiver_rules w.journal m r.rules.key answer told in
    let same : r'.rx ≡ rx = (tells heard.0 heard.1).4 in
    hear-plays r r' m c number text text' is answer
    (λ texts held. let t = took texts held in (t.0, t.1, subst (λ o. RxIn o (texts ++ rx_change receiver_rules texts c)) (sym same) t.2))
    (heard_by r r' rx number m answer text text' tells) w at

pub halted-hear-tells : (r r' : Replayer) (rx : Option (rxs.NodeView Kept)) (m : Token) (c : RxCall) (number : ℕ) (text text' : List ℕ) (keeps : Bool) (h : Halted RxAnswer) (answer : RxAnswer)
    → c ≡ token_call m r.rules.key → h ≡ halted.Answered answer → ((texts : List (List ℕ)) → RxIn r.rx texts → RxHaltedIn texts c keeps rx h)
    → TellsHeard r r' rx number m answer text text' → (w : World) → IsAt r w → Goes (stopped_delivery number w (Some m) keeps) r' text text'
halted-hear-tells r r' rx m c number text text' keeps h answer is answered done tells w at =
    let here : RxHaltedIn w.journal (token_call m r.rules.key) keeps rx (halted.Answered answer) =
    subst (λ x. RxHaltedIn w.journal x keeps rx (halted.Answered answer)) is (subst (RxHaltedIn w.journal c keeps rx) answered (done w.journal at.received)) in
    let told : rx_told receiver_rules w.journal (token_call m r.rules.key) ≡ answer = some_fact rx (λ n k. k.1) here in
    let heard = is_heard receiver_rules w.journal m r.rules.key answer told in
    let same : r'.rx ≡ rx = (tells heard.0 heard.1).4 in
    halted-hear-plays r r' m c number text text' is keeps answer
    (λ texts held. subst (λ o. RxHaltedIn texts c keeps o (halted.Answered answer)) (sym same) (subst (RxHaltedIn texts c keeps rx) answered (done texts held)))
    (heard_by r r' rx number m answer text text' tells) w at
