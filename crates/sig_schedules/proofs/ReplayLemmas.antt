-- What one line more makes of a script.
use Rattle.std.proofs.Common.{◌≡◌, ◌∙◌, ap, sym, subst, ℕ, suc, ◌+◌, ◌<◌, List, [], ◌∷◌, ◌++◌, length, Option, Some, None, refl, arith, append_assoc, append-nil}
use Rattle.std.proofs.lemmas.Bool.{leb-true}
use Rattle.std.specs.Prelude.{Bool, true, false, is_none, map, nat_lt, option_map, if◌then◌else◌}
use Rattle.sig_json.specs.declared.limits.TheConstants.{LAST_NUMBER}
use Rattle.sig_terms.specs.declared.call.Call.{Call}
use Rattle.sig_terms.specs.declared.fact.Fact.{Fact}
use Rattle.sig_terms.specs.declared.token.Token.{Token}
use Rattle.sig_calls.specs.Table.{over_top}
use Rattle.sig_entry.specs.Facts.{spelling_of}
use Rattle.sig_entry.specs.Tokens.{token_spelling}
use Rattle.sig_journal.specs.Added.{rests_with_it}
use Rattle.sig_receiver.specs.Receiver.{is_accepted}
use Rattle.sig_still.specs.Stores.{end_at, past_end}
use Rattle.sig_script.specs.declared.script.ScriptAct.{ScriptAct}
use Rattle.sig_script.specs.declared.script.ScriptAct.TheVariants as act
use Rattle.sig_script.specs.declared.script.ScriptLine.{ScriptLine}
use Rattle.sig_script.specs.declared.script.ScriptLine.TheVariants as line
use Rattle.sig_script.specs.declared.script_node.ScriptNode.{ScriptNode}
use Rattle.sig_script.specs.declared.script_node.ScriptNode.TheVariants as node
use Rattle.sig_command.specs.declared.stop.Stop.{Stop}
use Rattle.sig_command.specs.declared.stop.Stop.TheVariants.{Line, Full}
use Rattle.sig_script.specs.Script.{script_line_of}
use Rattle.sig_law.specs.World.{World, Reply, call_recorded, delivery_recorded, heard_of, new_world, settle_call, sum_in}
use Rattle.sig_schedules.specs.Replay.{Played, answered_call, call_need, counted_at, crashed, delivery_need, fact_of, heard_delivery, played, played_act, played_answer, played_call, played_delivery, played_found, played_line, receiver_store, replay_ends, replay_store, script_stop, script_text, script_world, stopped_act, stopped_answer, stopped_delivery, stopped_fact, stopped_message, unless_full}
use Rattle.sig_schedules.specs.ReplayLaws.{text-goes, stop-goes, world-goes, text-stops, stop-stops}

none_some : (s : Stop) → None ≡ Some s → ⊥
none_some s h = cc

-- lines that don't stop the script, and then others
pub goes-on : (n : ℕ) (w : World) (xs ys : List (List ℕ)) → script_stop n w xs ≡ None
    → (script_stop n w (xs ++ ys) ≡ script_stop (n + length xs) (script_world n w xs) ys)
    × (script_text n w (xs ++ ys) ≡ script_text n w xs ++ script_text (n + length xs) (script_world n w xs) ys)
    × (script_world n w (xs ++ ys) ≡ script_world (n + length xs) (script_world n w xs) ys)
goes-on n w [] ys h =
    let same : n ≡ n + 0 = omega arith in
    (ap (λ k. script_stop k w ys) same, ap (λ k. script_text k w ys) same, ap (λ k. script_world k w ys) same)
goes-on n w (x ∷ xs) ys h = by_stop (played n w x).stop refl (λ later. goes-on (n + 1) (played n w x).world xs ys later)
  where
    by_stop : (o : Option Stop) → (played n w x).stop ≡ o
        → (script_stop (n + 1) (played n w x).world xs ≡ None
        → (script_stop (n + 1) (played n w x).world (xs ++ ys) ≡ script_stop ((n + 1) + length xs) (script_world (n + 1) (played n w x).world xs) ys)
        × (script_text (n + 1) (played n w x).world (xs ++ ys) ≡ script_text (n + 1) (played n w x).world xs ++ script_text ((n + 1) + length xs) (script_world (n + 1) (played n w x).world xs) ys)
        × (script_world (n + 1) (played n w x).world (xs ++ ys) ≡ script_world ((n + 1) + length xs) (script_world (n + 1) (played n w x).world xs) ys))
        → (script_stop n w (x ∷ (xs ++ ys)) ≡ script_stop (n + length (x ∷ xs)) (script_world n w (x ∷ xs)) ys)
        × (script_text n w (x ∷ (xs ++ ys)) ≡ script_text n w (x ∷ xs) ++ script_text (n + length (x ∷ xs)) (script_world n w (x ∷ xs)) ys)
        × (script_world n w (x ∷ (xs ++ ys)) ≡ script_world (n + length (x ∷ xs)) (script_world n w (x ∷ xs)) ys)
    by_stop None e later =
        let same : (n + 1) + length xs ≡ n + length (x ∷ xs) = omega arith in
        let w' : World = (played n w x).world in
        let further = later (sym (stop-goes n w x xs e) ∙ h) in
        let on : script_world n w (x ∷ xs) ≡ script_world (n + 1) w' xs = world-goes n w x xs e in (
          stop-goes n w x (xs ++ ys) e ∙ further.0 ∙ ap (λ k. script_stop k (script_world (n + 1) w' xs) ys) same
              ∙ ap (λ v. script_stop (n + length (x ∷ xs)) v ys) (sym on),
          text-goes n w x (xs ++ ys) e ∙ ap (λ t. (played n w x).text ++ t) further.1
              ∙ sym (append_assoc (played n w x).text (script_text (n + 1) w' xs) _)
              ∙ ap (λ t. t ++ script_text ((n + 1) + length xs) (script_world (n + 1) w' xs) ys) (sym (text-goes n w x xs e))
              ∙ ap (λ k. script_text n w (x ∷ xs) ++ script_text k (script_world (n + 1) w' xs) ys) same
              ∙ ap (λ v. script_text n w (x ∷ xs) ++ script_text (n + length (x ∷ xs)) v ys) (sym on),
          world-goes n w x (xs ++ ys) e ∙ further.2 ∙ ap (λ k. script_world k (script_world (n + 1) w' xs) ys) same
              ∙ ap (λ v. script_world (n + length (x ∷ xs)) v ys) (sym on),
        )
    by_stop (Some s) e later = let no : None ≡ Some s = sym h ∙ stop-stops n w x xs s e in absurd (none_some s no)

-- one line more, which goes
pub line-goes : (given : List (List ℕ)) (line : List ℕ) (number : ℕ) → script_stop 1 new_world given ≡ None → number ≡ length given + 1
    → (played number (script_world 1 new_world given) line).stop ≡ None
    → (script_stop 1 new_world (given ++ line ∷ []) ≡ None)
    × (script_text 1 new_world (given ++ line ∷ []) ≡ script_text 1 new_world given ++ (played number (script_world 1 new_world given) line).text)
    × (script_world 1 new_world (given ++ line ∷ []) ≡ (played number (script_world 1 new_world given) line).world)
line-goes given line number going is goes =
    let same : 1 + length given ≡ number = omega (arith, is) in
    let w : World = script_world 1 new_world given in
    let on = goes-on 1 new_world given (line ∷ []) going in (
      on.0 ∙ ap (λ k. script_stop k w (line ∷ [])) same ∙ stop-goes number w line [] goes,
      on.1 ∙ ap (λ k. script_text 1 new_world given ++ script_text k w (line ∷ [])) same
          ∙ ap (λ t. script_text 1 new_world given ++ t) (text-goes number w line [] goes ∙ append-nil (played number w line).text),
      on.2 ∙ ap (λ k. script_world k w (line ∷ [])) same ∙ world-goes number w line [] goes,
    )

-- one line more, which stops the script
pub line-stops : (given : List (List ℕ)) (line : List ℕ) (number : ℕ) (s : Stop) → script_stop 1 new_world given ≡ None → number ≡ length given + 1
    → (played number (script_world 1 new_world given) line).stop ≡ Some s
    → (script_stop 1 new_world (given ++ line ∷ []) ≡ Some s) × (script_text 1 new_world (given ++ line ∷ []) ≡ script_text 1 new_world given)
line-stops given line number s going is stops =
    let same : 1 + length given ≡ number = omega (arith, is) in
    let w : World = script_world 1 new_world given in
    let on = goes-on 1 new_world given (line ∷ []) going in (
      on.0 ∙ ap (λ k. script_stop k w (line ∷ [])) same ∙ stop-stops number w line [] s stops,
      on.1 ∙ ap (λ k. script_text 1 new_world given ++ script_text k w (line ∷ [])) same
          ∙ ap (λ t. script_text 1 new_world given ++ t) (text-stops number w line [] s stops) ∙ append-nil (script_text 1 new_world given),
    )

-- ---- what stops a script

-- a line that is refused needs no number
no_number : (a n : ℕ) → Some (Line a) ≡ Some (Full n) → LAST_NUMBER < n
no_number a n e = absurd (line_full a n e)
  where
    line_full : (a n : ℕ) → Some (Line a) ≡ Some (Full n) → ⊥
    line_full a n e = cc e

none_number : (n : ℕ) → None ≡ Some (Full n) → LAST_NUMBER < n
none_number n e = absurd (none_some (Full n) e)

full_same : (a n : ℕ) → Some (Full a) ≡ Some (Full n) → a ≡ n
full_same a n e = cc e

number_same : (a n : ℕ) → (let o : Option ℕ = Some a in o ≡ Some n) → a ≡ n
number_same a n e = cc e

no_need : {P : Type 0} (n : ℕ) → (let o : Option ℕ = None in o ≡ Some n) → P
no_need n e = cc e

-- a place past the last number is above it
past-late : (end : ℕ) (o : Option (List ℕ)) (n : ℕ) → past_end end o ≡ Some n → LAST_NUMBER < n
past-late end None n h = no_need n h
past-late end (Some payload) n h = by_test (end + 5 + length payload) (nat_lt LAST_NUMBER (end + 5 + length payload)) refl h
  where
    by_test : (m : ℕ) (t : Bool) → nat_lt LAST_NUMBER m ≡ t → (if t then Some m else None) ≡ Some n → LAST_NUMBER < n
    by_test m true is e = subst (λ k. LAST_NUMBER < k) (number_same m n e) (leb-true (suc LAST_NUMBER) m is)
    by_test m false is e = no_need n e

call-late : (w : World) (c : Call) (n : ℕ) → call_need w c ≡ Some n → LAST_NUMBER < n
call-late w c n h = by_test (over_top replay_ends.rules (sum_in replay_ends w) c w.time) h
  where
    by_test : (t : Bool) → (if t then Some (LAST_NUMBER + 1) else past_end (end_at replay_store (map spelling_of w.facts)) (option_map spelling_of (fact_of w c))) ≡ Some n → LAST_NUMBER < n
    by_test true e = let is : LAST_NUMBER + 1 ≡ n = number_same (LAST_NUMBER + 1) n e in omega (arith, is)
    by_test false e = past-late (end_at replay_store (map spelling_of w.facts)) (option_map spelling_of (fact_of w c)) n e

delivery-late : (w : World) (m : Token) (n : ℕ) → delivery_need w m ≡ Some n → LAST_NUMBER < n
delivery-late w m n h = past-late (end_at receiver_store (map token_spelling w.journal)) _ n h

-- of a line that only a number stops
full-unless : (o : Option ℕ) (w : World) (goes : Played) (n : ℕ) → ((m : ℕ) → o ≡ Some m → LAST_NUMBER < m) → goes.stop ≡ None
    → (unless_full o w goes).stop ≡ Some (Full n) → LAST_NUMBER < n
full-unless None w goes n late on h = none_number n (sym on ∙ h)
full-unless (Some m) w goes n late on h = subst (λ k. LAST_NUMBER < k) (full_same m n h) (late m refl)

full-call : (number : ℕ) (w : World) (n : ℕ) (c : Call) → (played_call number w c).stop ≡ Some (Full n) → LAST_NUMBER < n
full-call number w n c h = full-unless (call_need w c) w (answered_call number w c) n (call-late w c) refl h

full-delivery : (number : ℕ) (w : World) (n : ℕ) (m : Option Token) → (played_delivery number w m).stop ≡ Some (Full n) → LAST_NUMBER < n
full-delivery number w n None h = no_number number n h
full-delivery number w n (Some m) h = full-unless (delivery_need w m) w (heard_delivery number w m) n (delivery-late w m) refl h

full-answer : (number : ℕ) (w : World) (n : ℕ) (r : Option Reply) → (played_answer number w r).stop ≡ Some (Full n) → LAST_NUMBER < n
full-answer number w n None h = no_number number n h
full-answer number w n (Some r) h = full-call number w n (settle_call r) h

full-act : (number : ℕ) (w : World) (n : ℕ) (a : ScriptAct) → (played_act number w a).stop ≡ Some (Full n) → LAST_NUMBER < n
full-act number w n (act.Call c) h = full-call number w n c h
full-act number w n (act.Deliver place) h = full-delivery number w n (counted_at place w.messages) h
full-act number w n (act.Answer place) h = full-answer number w n (counted_at place w.replies) h

-- while a disk stands still
full-fact : (number : ℕ) (w : World) (n : ℕ) (c : Call) (kept : Bool) (o : Option Fact) → (stopped_fact number w c kept o).stop ≡ Some (Full n) → LAST_NUMBER < n
full-fact number w n c kept None h = full-call number w n c h
full-fact number w n c kept (Some f) h = full-unless (call_need w c) w (crashed number kept w (call_recorded replay_ends c w)) n (call-late w c) refl h

full-message : (number : ℕ) (w : World) (n : ℕ) (m : Token) (kept accepted : Bool) → (stopped_message number w m kept accepted).stop ≡ Some (Full n) → LAST_NUMBER < n
full-message number w n m kept true h = full-unless (delivery_need w m) w (crashed number kept w (delivery_recorded replay_ends (Some m) w)) n (delivery-late w m) refl h
full-message number w n m kept false h = full-delivery number w n (Some m) h

full-stopped-delivery : (number : ℕ) (w : World) (n : ℕ) (kept : Bool) (m : Option Token) → (stopped_delivery number w m kept).stop ≡ Some (Full n) → LAST_NUMBER < n
full-stopped-delivery number w n kept None h = no_number number n h
full-stopped-delivery number w n kept (Some m) h = full-message number w n m kept (is_accepted (heard_of replay_ends w m)) h

full-stopped-answer : (number : ℕ) (w : World) (n : ℕ) (kept : Bool) (r : Option Reply) → (stopped_answer number w r kept).stop ≡ Some (Full n) → LAST_NUMBER < n
full-stopped-answer number w n kept None h = no_number number n h
full-stopped-answer number w n kept (Some r) h = full-fact number w n (settle_call r) kept (fact_of w (settle_call r)) h

full-stopped : (number : ℕ) (w : World) (n : ℕ) (end : ScriptNode) (kept : Bool) (a : ScriptAct) → (stopped_act number w end kept a).stop ≡ Some (Full n) → LAST_NUMBER < n
full-stopped number w n node.Tx kept (act.Call c) h = full-fact number w n c kept (fact_of w c) h
full-stopped number w n node.Tx kept (act.Deliver place) h = full-delivery number w n (counted_at place w.messages) h
full-stopped number w n node.Tx kept (act.Answer place) h = full-stopped-answer number w n kept (counted_at place w.replies) h
full-stopped number w n node.Rx kept (act.Call c) h = full-call number w n c h
full-stopped number w n node.Rx kept (act.Deliver place) h = full-stopped-delivery number w n kept (counted_at place w.messages) h
full-stopped number w n node.Rx kept (act.Answer place) h = full-answer number w n (counted_at place w.replies) h

full-line : (number : ℕ) (w : World) (n : ℕ) (l : ScriptLine) → (played_line number w l).stop ≡ Some (Full n) → LAST_NUMBER < n
full-line number w n line.Skipped h = none_number n h
full-line number w n (line.Time time) h = none_number n h
full-line number w n (line.Act a) h = full-act number w n a h
full-line number w n (line.Check subject) h = none_number n h
full-line number w n (line.Stop end calls fill a) h = full-stopped number w n end (rests_with_it calls fill) a h
full-line number w n (line.Crash end) h = none_number n h

full-found : (number : ℕ) (w : World) (n : ℕ) (o : Option ScriptLine) → (played_found number w o).stop ≡ Some (Full n) → LAST_NUMBER < n
full-found number w n None h = no_number number n h
full-found number w n (Some l) h = full-line number w n l h

-- a number by which lines stop a script is above the last
pub full-number : (given : List (List ℕ)) (n : ℕ) → script_stop 1 new_world given ≡ Some (Full n) → LAST_NUMBER < n
full-number given n h = from_line 1 new_world given h
  where
    from_line : (k : ℕ) (w : World) (ls : List (List ℕ)) → script_stop k w ls ≡ Some (Full n) → LAST_NUMBER < n
    from_line k w [] h = none_number n h
    from_line k w (l ∷ ls) h =
        elim (played k w l).stop as (λ o. (played k w l).stop ≡ o → (if is_none o then script_stop (k + 1) (played k w l).world ls else o) ≡ Some (Full n) → LAST_NUMBER < n) [
          | None ↦ λ e later. from_line (k + 1) (played k w l).world ls later
          | Some s ↦ λ e this. full-found k w n (script_line_of l) (e ∙ this)
        ] refl h
