-- As many texts are added as tokens are accepted, and what is counted of turns, one round after another.
use Rattle.std.proofs.Common.{◌≡◌, ◌∙◌, ap, ap₂, sym, subst, refl, ℕ, ◌+◌, ◌≤◌, Bool, List, [], ◌∷◌, ◌++◌, append_assoc, append-nil, length, cond, count_by, IfOk, Result, Ok, Err, drop, arith}
use Rattle.std.specs.Prelude.{is_some}
use Rattle.std.proofs.Math.Seq.{drop-append_seam}
use Rattle.std.proofs.lemmas.List.{length-append}
use Rattle.std.proofs.lemmas.List.Sums.{count_by-le-length, sum_by-append, sum_by-cons}
use Rattle.sig_set.specs.declared.trust.Trust.{Trust}
use Rattle.sig_receiver.specs.Journal.{journal_by}
use Rattle.sig_receiver.specs.Receiver.{Received, heard_at}
use Rattle.sig_receiver.specs.declared.heard.Heard.{Heard}
use Rattle.sig_receiver.specs.declared.heard.Heard.TheVariants as heard
use Rattle.sig_journal.specs.declared.node_fault.NodeFault.{NodeFault}
use Rattle.sig_rxnode.specs.declared.answer.RxAnswer.{RxAnswer}
use Rattle.sig_rxnode.specs.declared.call.RxCall.{RxCall}
use Rattle.sig_rxnode.specs.declared.call.RxCall.TheVariants as call
use Rattle.sig_rxnode.specs.declared.turn.RxTurn.{RxTurn}
use Rattle.sig_rxnode.specs.Answers.{answer_of, change_of, heard_answer}
use Rattle.sig_rxnode.specs.Node.{NodeView}
use Rattle.sig_rxnode.specs.Turns.{after_turn, change_in, changes_of, when_ok}
use Rattle.sig_fetch.specs.Asks.{refusal_in}
use Rattle.sig_fetch.specs.Fetching.{AreCounted, Tallies, was_accepted, was_seen}
use Rattle.sig_fetch.specs.Turns.{AreAnswered, Grows}
use Rattle.sig_fetch.specs.declared.fetched.Fetched.{Fetched}

-- one for an accepted token
heard_counts : (h : Heard) (text : List ℕ) → length (journal_by h [] text) ≡ cond (was_accepted (Ok (heard_answer h))) 1 0
heard_counts heard.Accepted text = refl
heard_counts heard.Seen text = refl
heard_counts (heard.NotTaken code spot) text = refl

call_counts : (trust : Trust) (state : Received) (c : RxCall) → length (change_of trust state c) ≡ cond (was_accepted (Ok (answer_of trust state c))) 1 0
call_counts trust state (call.Token principal named bytes) = heard_counts (heard_at trust principal named state bytes) bytes
call_counts trust state (call.Verdict subject) = refl
call_counts trust state (call.Rows from) = refl
call_counts trust state call.Figures = refl

turn_counts : (trust : Trust) (state : Received) (c : RxCall) (r : Result RxAnswer NodeFault) → IfOk r (λ answer. answer ≡ answer_of trust state c) → length (when_ok r (change_of trust state c)) ≡ cond (was_accepted r) 1 0
turn_counts trust state c (Ok a) is = call_counts trust state c ∙ ap (λ (x : RxAnswer). cond (was_accepted (Ok x)) 1 0) (sym is)
turn_counts trust state c (Err fault) is = refl

texts_counted : (trust : Trust) (state : Received) (ts : List RxTurn) → AreAnswered trust state ts → length (changes_of trust state ts) ≡ count_by (λ (t : RxTurn). was_accepted t.result) ts
texts_counted trust state [] answered = refl
texts_counted trust state (t ∷ ts) answered =
    length-append (change_in trust state t) (changes_of trust (after_turn trust state t) ts)
    ∙ ap₂ (λ (m : ℕ) (n : ℕ). m + n) (turn_counts trust state t.call t.result answered.0) (texts_counted trust (after_turn trust state t) ts answered.1)
    ∙ sym (sum_by-cons (λ (x : RxTurn). cond (was_accepted x.result) 1 0) t ts)

-- ---- what is counted, one round after another

-- of the turns that a node has more so many had each answer
pub record Tallied {D : Type 0} (old now : NodeView D) (fetched : Fetched) : Type 0 where
  pub turns : List RxTurn
  pub more : now.turns ≡ old.turns ++ turns
  pub counted : AreCounted turns fetched

pub tallied_none : {D : Type 0} (node : NodeView D) (fetched : Fetched) → fetched.accepted ≡ 0 → fetched.seen ≡ 0 → fetched.refused ≡ 0 → Tallied node node fetched
tallied_none node fetched accepted seen refused = record {
  turns = [];
  more = sym (append-nil node.turns);
  counted = record { accepted = accepted; seen = seen; refused = refused };
}

-- with the turns of a round
pub tallied_on : {D : Type 0} (old now new : NodeView D) (before after : Fetched) (ts : List RxTurn) → new.turns ≡ now.turns ++ ts → Tallied old now before
    → ((earlier : List RxTurn) → AreCounted earlier before → AreCounted (earlier ++ ts) after) → Tallied old new after
tallied_on old now new before after ts more h counts = record {
  turns = h.turns ++ ts;
  more = more ∙ ap (λ (l : List RxTurn). l ++ ts) h.more ∙ append_assoc old.turns h.turns ts;
  counted = counts h.turns h.counted;
}

-- a count is of no more turns than the node has
fits : (old now new ts turns : List RxTurn) (count m : ℕ) → now ≡ old ++ turns → new ≡ now ++ ts → count ≤ length turns → m ≡ length new → count + length ts ≤ m
fits old now new ts turns count m first second most is =
    omega (arith, ap length first ∙ length-append old turns, ap length second ∙ length-append now ts, most, is)

pub record Fits (before : Fetched) (ts : List RxTurn) (taken : ℕ) : Type 0 where
  pub accepted : before.accepted + length ts ≤ taken
  pub seen : before.seen + length ts ≤ taken
  pub refused : before.refused + length ts ≤ taken

pub tallied_fits : {D : Type 0} (old now new : NodeView D) (before : Fetched) (ts : List RxTurn) (taken : ℕ) → new.turns ≡ now.turns ++ ts → taken ≡ length new.turns → Tallied old now before → Fits before ts taken
tallied_fits old now new before ts taken more is h =
    let by = λ (count : ℕ) (most : count ≤ length h.turns). fits old.turns now.turns new.turns ts h.turns count taken h.more more most is in
    record {
      accepted = by before.accepted (counted_most (λ (t : RxTurn). was_accepted t.result) h.turns before.accepted h.counted.accepted);
      seen = by before.seen (counted_most (λ (t : RxTurn). was_seen t.result) h.turns before.seen h.counted.seen);
      refused = by before.refused (counted_most (λ (t : RxTurn). is_some (refusal_in t.result)) h.turns before.refused h.counted.refused);
    }
  where
    counted_most : (p : RxTurn → Bool) (ts : List RxTurn) (count : ℕ) → count ≡ count_by p ts → count ≤ length ts
    counted_most p ts count is = omega (arith, is, count_by-le-length p ts)

-- the turns of a fetch are those that the node has since
pub tallies_of : {D : Type 0} (old new : NodeView D) (fetched : Fetched) (turns : List RxTurn) → Grows turns old new → Tallied old new fetched → Tallies old new fetched
tallies_of old new fetched turns g h =
    let trust = old.rules.trust in
    let since : drop (length old.turns) new.turns ≡ turns = ap (drop (length old.turns)) g.turns ∙ drop-append_seam old.turns turns in
    let these : drop (length old.turns) new.turns ≡ h.turns = ap (drop (length old.turns)) h.more ∙ drop-append_seam old.turns h.turns in
    let accepted : fetched.accepted ≡ count_by (λ (t : RxTurn). was_accepted t.result) turns =
    h.counted.accepted ∙ ap (count_by (λ (t : RxTurn). was_accepted t.result)) (sym these ∙ since) in
    record {
      turns = subst (λ (l : List RxTurn). AreCounted l fetched) (sym these) h.counted;
      texts = ap length g.entries ∙ length-append old.kept.entries (changes_of trust old.kept.state turns)
          ∙ ap (λ m. length old.kept.entries + m) (texts_counted trust old.kept.state turns g.answers ∙ sym accepted);
    }

-- what is counted of turns in two parts
count_append : (p : RxTurn → Bool) (xs ys : List RxTurn) (a b : ℕ) → a ≡ count_by p xs → b ≡ count_by p ys → a + b ≡ count_by p (xs ++ ys)
count_append p xs ys a b first second = ap₂ (λ (m : ℕ) (n : ℕ). m + n) first second ∙ sym (sum_by-append (λ (t : RxTurn). cond (p t) 1 0) xs ys)

pub counted_append : (xs ys : List RxTurn) (before more after : Fetched) → AreCounted xs before → AreCounted ys more
    → after.accepted ≡ before.accepted + more.accepted → after.seen ≡ before.seen + more.seen → after.refused ≡ before.refused + more.refused → AreCounted (xs ++ ys) after
counted_append xs ys before more after p q accepted seen refused = record {
  accepted = accepted ∙ count_append (λ (t : RxTurn). was_accepted t.result) xs ys before.accepted more.accepted p.accepted q.accepted;
  seen = seen ∙ count_append (λ (t : RxTurn). was_seen t.result) xs ys before.seen more.seen p.seen q.seen;
  refused = refused ∙ count_append (λ (t : RxTurn). is_some (refusal_in t.result)) xs ys before.refused more.refused p.refused q.refused;
}
