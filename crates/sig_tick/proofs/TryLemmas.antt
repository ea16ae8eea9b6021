-- Streams that are tried, one after another.
use Rattle.std.proofs.Common.{◌≡◌, ◌∙◌, sym, ap, subst, refl, ℕ, ◌==◌, ◌+◌, ◌<◌, ◌≤◌, Bool, true, false, List, [], ◌∷◌, ◌++◌, length, get_or, drop, Option, Some, None, Result, Ok, Err, inl, inr, arith, append-nil, append_assoc, nat_le}
use Rattle.std.specs.Option.{option_to_list}
use Rattle.std.specs.Prelude.{⊤}
use Rattle.std.proofs.Math.Seq.{drop-append_seam}
use Rattle.std.proofs.lemmas.List.{drop_all}
use Rattle.std.proofs.lemmas.Bool.Decides.{nat_tests}
use Rattle.sig_courier.specs.Schedule.{IsLogged, Kept, StaysLogged, due}
use Rattle.sig_courier.specs.declared.attempt.Attempt.{Attempt}
use Rattle.sig_journal.specs.declared.node_fault.NodeFault.{NodeFault}
use Rattle.sig_journal.specs.declared.node_fault.NodeFault.TheVariants.{Memory}
use Rattle.sig_links.specs.Views.{SideView}
use Rattle.sig_terms.specs.declared.answer.Answer.{Answer}
use Rattle.sig_terms.specs.declared.call.Call.TheVariants.{Hand}
use Rattle.sig_terms.specs.declared.rules.Rules.{Rules}
use Rattle.sig_terms.specs.declared.token.Token.{Token}
use Rattle.sig_txnode.specs.Answering.{time_used}
use Rattle.sig_txnode.specs.Told.{TakerTold}
use Rattle.sig_txnode.specs.declared.turn.Turn.{Turn}
use Rattle.sig_round.specs.Rounds.{tokens_in}
use Rattle.sig_round.specs.Turns.{Adds, AddsTurnOf, Asker}
use Rattle.sig_round.proofs.Grown.{adds_none, adds_on}
use Rattle.sig_tick.specs.Bringing.{Brings, Brought, are_settled, attempt_of}
use Rattle.sig_tick.specs.Listing.{ended}
use Rattle.sig_tick.specs.Trying.{Attempted, AttemptedHanded, AttemptedTokens, IsIdle, Tried, TriedDue, TriedOne, TriesHanded, TriesTokens, TriesWhere, attempt_for, is_due, made_at}
use Rattle.sig_tick.specs.declared.attempting.Trial.{Trial}
use Rattle.sig_tick.proofs.AskLemmas.{ok_no_err}
use Rattle.sig_tick.proofs.Collecting.{next_item, none_of, same_asker}

-- ---- notes

-- no attempt is noted
pub notes_none : (kept : Kept) (log : List Attempt) → IsLogged kept log → IsLogged kept (log ++ [])
notes_none kept log is = subst (λ (l : List Attempt). IsLogged kept l) (sym (append-nil log)) is

-- room for one was made
pub room_notes : (kept kept' : Kept) (log : List Attempt) → StaysLogged kept kept' → IsLogged kept log → IsLogged kept' log
room_notes kept kept' log stays is stream = stays stream ∙ is stream

-- ---- tokens that are brought

idle : (v : SideView) → IsIdle v v [] None
idle v = record { turns_none = refl; side = refl; none = refl }

-- some tokens make an attempt
some_made : (at : ℕ) (stream : List ℕ) (n : ℕ) (good : Bool) (end : Result ⊤ NodeFault) → (n ≡ 0 → ⊥)
    → made_at at stream (record { tokens = n; good = good; end = end }) ≡ Some (record { stream = stream; at = at; tokens = n; good = good })
some_made at stream n good end some = by (n == 0) refl
  where
    by : (b : Bool) → (n == 0) ≡ b → made_at at stream (record { tokens = n; good = good; end = end }) ≡ Some (record { stream = stream; at = at; tokens = n; good = good })
    by true is = let none : n ≡ 0 = grind (arith, nat_tests) in absurd (some none)
    by false is = rw is refl

pub tokens_none : (rules : Rules) (by : Asker) (stream : List ℕ) (tokens : List Token) (v : SideView) (x : List Turn) (k : Option TakerTold) (u : ⊤) → tokens ≡ []
    → AttemptedTokens rules by stream tokens v v x x k k None (Ok u)
tokens_none rules by stream tokens v x k u none = record {
  more = [];
  adds = adds_none x k;
  tries = subst (λ (ts : List Token). TriesTokens rules by stream ts v v [] None (Ok u)) (sym none) (idle v, inl refl);
}

tokens_tried : (rules : Rules) (by : Asker) (stream : List ℕ) (tokens : List Token) (a b : SideView) (more : List Turn) (attempt : Attempt) (end : Result ⊤ NodeFault) → (tokens ≡ [] → ⊥)
    → attempt ≡ attempt_of stream by tokens more → Brings rules by tokens a b more end → TriesTokens rules by stream tokens a b more (Some attempt) end
tokens_tried rules by stream [] a b more attempt end some is p = absurd (some refl)
tokens_tried rules by stream (t ∷ tokens) a b more attempt end some is p = (is, p)

no_tokens : (tokens : List Token) → length tokens ≡ 0 → tokens ≡ []
no_tokens tokens none = none_of tokens none

pub tokens_brought : (rules : Rules) (by : Asker) (stream : List ℕ) (tokens : List Token) (a between b : SideView) (x y : List Turn) (k l : Option TakerTold) (end : Result ⊤ NodeFault) (good : Bool)
    → (tokens ≡ [] → ⊥) → between ≡ a → Brought rules by tokens between b x y k l end → good ≡ are_settled (length tokens) (drop (length x) y)
    → AttemptedTokens rules by stream tokens a b x y k l (attempt_for stream by (record { tokens = length tokens; good = good; end = end })) end
tokens_brought rules by stream tokens a between b x y k l end good some same p' settled =
    let p = subst (λ (v : SideView). Brought rules by tokens v b x y k l end) same p' in
    let more : drop (length x) y ≡ p.more = ap (drop (length x)) p.adds.log ∙ drop-append_seam x p.more in
    let made = some_made (time_used by.now) stream (length tokens) good end (λ none. some (no_tokens tokens none)) in
    record {
      more = p.more;
      adds = p.adds;
      tries = subst (λ (o : Option Attempt). TriesTokens rules by stream tokens a b p.more o end) (sym made)
          (tokens_tried rules by stream tokens a b p.more (record { stream = stream; at = time_used by.now; tokens = length tokens; good = good }) end some
          (ap (λ (g : Bool). record { stream = stream; at = time_used by.now; tokens = length tokens; good = g }) (settled ∙ ap (are_settled (length tokens)) more)) p.brings);
    }

-- ---- after a Hand turn

handed_none : (rules : Rules) (by : Asker) (stream : List ℕ) (handed : Result Answer NodeFault) (v : SideView) (x : List Turn) (k : Option TakerTold) (end : Result ⊤ NodeFault)
    → TriesHanded rules by stream handed v v [] None end → AttemptedHanded rules by stream handed v v x x k k None end
handed_none rules by stream handed v x k end t = record { more = []; adds = adds_none x k; tries = t }

-- the turn was refused
pub handed_refused : (rules : Rules) (by : Asker) (stream : List ℕ) (handed : Result Answer NodeFault) (v : SideView) (x : List Turn) (k : Option TakerTold) (fault : NodeFault)
    → ◌≡◌ {A = Result ⊤ NodeFault} (Err fault) (ended handed) → AttemptedHanded rules by stream handed v v x x k k None (Err fault)
handed_refused rules by stream handed v x k fault is = handed_none rules by stream handed v x k (Err fault) (tries handed is)
  where
    tries : (r : Result Answer NodeFault) → ◌≡◌ {A = Result ⊤ NodeFault} (Err fault) (ended r) → TriesHanded rules by stream r v v [] None (Err fault)
    tries (Ok answer) h = absurd (ok_no_err tt fault (sym h))
    tries (Err f) h = (idle v, h)

-- what didn't end with a fault ended well
pub well_ended : (r : Result ⊤ NodeFault) → ((fault : NodeFault) → ◌≡◌ {A = Result ⊤ NodeFault} r (Err fault) → ⊥) → ◌≡◌ {A = Result ⊤ NodeFault} (Ok tt) r
well_ended (Ok u) not = refl
well_ended (Err fault) not = absurd (not fault refl)

-- memory ran out after it was answered
tokens_starved : (rules : Rules) (by : Asker) (stream : List ℕ) (tokens : List Token) (v : SideView) → TriesTokens rules by stream tokens v v [] None (Err Memory)
tokens_starved rules by stream [] v = (idle v, inr refl)
tokens_starved rules by stream (t ∷ tokens) v = (idle v, refl)

pub handed_starved : (rules : Rules) (by : Asker) (stream : List ℕ) (handed : Result Answer NodeFault) (v : SideView) (x : List Turn) (k : Option TakerTold) (u : ⊤)
    → ◌≡◌ {A = Result ⊤ NodeFault} (Ok u) (ended handed) → AttemptedHanded rules by stream handed v v x x k k None (Err Memory)
handed_starved rules by stream handed v x k u is = handed_none rules by stream handed v x k (Err Memory) (tries handed is)
  where
    tries : (r : Result Answer NodeFault) → ◌≡◌ {A = Result ⊤ NodeFault} (Ok u) (ended r) → TriesHanded rules by stream r v v [] None (Err Memory)
    tries (Ok answer) h = tokens_starved rules by stream (tokens_in (Ok answer)) v
    tries (Err f) h = absurd (ok_no_err u f h)

-- its tokens were tried
pub handed_tokens : (rules : Rules) (by : Asker) (stream : List ℕ) (handed : Result Answer NodeFault) (tokens slice : List Token) (a b : SideView) (x y : List Turn) (k l : Option TakerTold) (u : ⊤) (attempt : Option Attempt) (end : Result ⊤ NodeFault)
    → ◌≡◌ {A = Result ⊤ NodeFault} (Ok u) (ended handed) → tokens ≡ tokens_in handed → slice ≡ tokens
    → AttemptedTokens rules by stream slice a b x y k l attempt end → AttemptedHanded rules by stream handed a b x y k l attempt end
handed_tokens rules by stream handed tokens slice a b x y k l u attempt end is these sliced p =
    record { more = p.more; adds = p.adds; tries = tries_by p.more p.tries handed is (sliced ∙ these) }
  where
    tries_by : (more : List Turn) → TriesTokens rules by stream slice a b more attempt end
        → (r : Result Answer NodeFault) → ◌≡◌ {A = Result ⊤ NodeFault} (Ok u) (ended r) → slice ≡ tokens_in r → TriesHanded rules by stream r a b more attempt end
    tries_by more t (Ok answer) h e = subst (λ (ts : List Token). TriesTokens rules by stream ts a b more attempt end) e t
    tries_by more t (Err f) h e = absurd (ok_no_err u f h)

-- ---- an attempt

pub attempted_starved : (rules : Rules) (by : Asker) (stream : List ℕ) (v : SideView) (x y : List Turn) (k l : Option TakerTold) → Adds [] x y k l
    → Attempted rules by stream v v x y k l None (Err Memory)
attempted_starved rules by stream v x y k l a = record { more = []; adds = a; tries = (idle v, refl) }

pub attempted_handed : (rules : Rules) (link link' time time' : ℕ) (stream : List ℕ) (a b : SideView) (x y z : List Turn) (k l m : Option TakerTold) (trial : Trial)
    → link ≡ link' → time ≡ time' → (asked : AddsTurnOf (record { link = link'; now = time' }) (Hand (stream ∷ [])) x y k l)
    → AttemptedHanded rules (record { link = link; now = time }) stream asked.0.result a b y z l m (attempt_for stream (record { link = link; now = time }) trial) trial.end
    → Attempted rules (record { link = link'; now = time' }) stream a b x z k m (attempt_for stream (record { link = link'; now = time' }) trial) trial.end
attempted_handed rules link link' time time' stream a b x y z k l m trial e f asked q =
    let p = subst (λ (by : Asker). AttemptedHanded rules by stream asked.0.result a b y z l m (attempt_for stream by trial) trial.end) (same_asker link link' time time' e f) q in
    record {
      more = asked.0 ∷ p.more;
      adds = adds_on (asked.0 ∷ []) p.more x y z k l m asked.2 p.adds;
      tries = (asked.1, p.tries);
    }

-- ---- a stream that is due

pub due_starved : (rules : Rules) (by : Asker) (stream : List ℕ) (kept kept' : Kept) (v : SideView) (x : List Turn) (k : Option TakerTold) → StaysLogged kept kept'
    → TriedDue rules by stream kept kept' v v x x k k None (Err Memory)
due_starved rules by stream kept kept' v x k stays = record {
  attempted = attempted_starved rules by stream v x x k k (adds_none x k);
  notes = λ log is. notes_none kept' log (room_notes kept kept' log stays is);
}

pub same_kept : (kept : Kept) → StaysLogged kept kept
same_kept kept stream = refl

pub due_attempted : (rules : Rules) (by : Asker) (stream name : List ℕ) (kept kept' kept'' : Kept) (a b : SideView) (x y : List Turn) (k l : Option TakerTold) (trial : Trial) (at : ℕ) (end : Result ⊤ NodeFault)
    → StaysLogged kept kept' → name ≡ stream → at ≡ time_used by.now → end ≡ trial.end
    → Attempted rules by stream a b x y k l (attempt_for stream by trial) trial.end
    → ((log : List Attempt) → IsLogged kept' log → IsLogged kept'' (log ++ option_to_list (made_at at name trial)))
    → TriedDue rules by stream kept kept'' a b x y k l (made_at at name trial) end
due_attempted rules by stream name kept kept' kept'' a b x y k l trial at end stays named timed ends p notes =
    let same : attempt_for stream by trial ≡ made_at at name trial = sym (ap (λ (n : List ℕ). made_at at n trial) named ∙ ap (λ (t : ℕ). made_at t stream trial) timed) in
    record {
      attempted = subst (λ (o : Option Attempt). Attempted rules by stream a b x y k l o end) same
          (subst (λ (e : Result ⊤ NodeFault). Attempted rules by stream a b x y k l (attempt_for stream by trial) e) (sym ends) p);
      notes = λ log logged. notes log (room_notes kept kept' log stays logged);
    }

-- ---- a stream

where_due : (m n : ℕ) → m ≤ n → nat_le m n ≡ true
where_due m n h = grind (arith, nat_tests)

where_not : (m n : ℕ) → n < m → nat_le m n ≡ false
where_not m n h = grind (arith, nat_tests)

pub one_due : (rules : Rules) (by : Asker) (stream : List ℕ) (kept kept' : Kept) (a b : SideView) (x y : List Turn) (k l : Option TakerTold) (attempt : Option Attempt) (end : Result ⊤ NodeFault) (at time : ℕ)
    → ((log : List Attempt) → IsLogged kept log → at ≡ due log stream) → time ≡ time_used by.now → at ≤ time
    → TriedDue rules by stream kept kept' a b x y k l attempt end → TriedOne rules by stream kept kept' a b x y k l attempt end
one_due rules by stream kept kept' a b x y k l attempt end at time is now below p = record {
  more = p.attempted.more;
  adds = p.attempted.adds;
  notes = p.notes;
  tries = λ log logged. subst (λ (w : Bool). TriesWhere w rules by stream a b p.attempted.more attempt end)
      (sym (ap (λ (d : ℕ). nat_le d (time_used by.now)) (sym (is log logged)) ∙ ap (nat_le at) (sym now) ∙ where_due at time below)) p.attempted.tries;
}

pub one_passed : (rules : Rules) (by : Asker) (stream : List ℕ) (kept : Kept) (v : SideView) (x : List Turn) (k : Option TakerTold) (u : ⊤) (at time : ℕ)
    → ((log : List Attempt) → IsLogged kept log → at ≡ due log stream) → time ≡ time_used by.now → time < at → TriedOne rules by stream kept kept v v x x k k None (Ok u)
one_passed rules by stream kept v x k u at time is now above = record {
  more = [];
  adds = adds_none x k;
  notes = notes_none kept;
  tries = λ log logged. subst (λ (w : Bool). TriesWhere w rules by stream v v [] None (Ok u))
      (sym (ap (λ (d : ℕ). nat_le d (time_used by.now)) (sym (is log logged)) ∙ ap (nat_le at) (sym now) ∙ where_not at time above)) (idle v, inl refl);
}

-- memory ran out before it
pub one_starved : (rules : Rules) (by : Asker) (stream : List ℕ) (kept : Kept) (v : SideView) (x : List Turn) (k : Option TakerTold) → TriedOne rules by stream kept kept v v x x k k None (Err Memory)
one_starved rules by stream kept v x k = record {
  more = [];
  adds = adds_none x k;
  notes = notes_none kept;
  tries = λ log logged. starved (is_due log by stream);
}
  where
    starved : (w : Bool) → TriesWhere w rules by stream v v [] None (Err Memory)
    starved true = (idle v, refl)
    starved false = (idle v, inr refl)

-- ---- a stream before others

tried_none : (rules : Rules) (by : Asker) (kept : Kept) (v : SideView) (x : List Turn) (k : Option TakerTold) (u : ⊤) → Tried rules by [] kept kept v v x x k k [] (Ok u)
tried_none rules by kept v x k u = record { more = []; adds = adds_none x k; notes = notes_none kept; tries = λ log logged. (refl, refl, refl, inl refl) }

tried_on : (rules : Rules) (by : Asker) (s : List ℕ) (streams : List (List ℕ)) (kept kept' kept'' : Kept) (a b c : SideView) (x y z : List Turn) (k l m : Option TakerTold) (attempt : Option Attempt) (later : List Attempt) (u : ⊤) (end : Result ⊤ NodeFault)
    → TriedOne rules by s kept kept' a b x y k l attempt (Ok u) → Tried rules by streams kept' kept'' b c y z l m later end
    → Tried rules by (s ∷ streams) kept kept'' a c x z k m (option_to_list attempt ++ later) end
tried_on rules by s streams kept kept' kept'' a b c x y z k l m attempt later u end p q = record {
  more = p.more ++ q.more;
  adds = adds_on p.more q.more x y z k l m p.adds q.adds;
  notes = λ log logged. subst (λ (l : List Attempt). IsLogged kept'' l) (append_assoc log (option_to_list attempt) later) (q.notes (log ++ option_to_list attempt) (p.notes log logged));
  tries = λ log logged. record {
    ended = Ok u;
    between = b;
    these = p.more;
    those = q.more;
    parts = refl;
    attempt = attempt;
    later = later;
    attempts = refl;
    first = p.tries log logged;
    rest = q.tries (log ++ option_to_list attempt) (p.notes log logged);
  };
}

tried_err : (rules : Rules) (by : Asker) (s : List ℕ) (streams : List (List ℕ)) (kept kept' : Kept) (a b : SideView) (x y : List Turn) (k l : Option TakerTold) (attempt : Option Attempt) (fault : NodeFault)
    → TriedOne rules by s kept kept' a b x y k l attempt (Err fault) → Tried rules by (s ∷ streams) kept kept' a b x y k l (option_to_list attempt) (Err fault)
tried_err rules by s streams kept kept' a b x y k l attempt fault p = record {
  more = p.more;
  adds = p.adds;
  notes = p.notes;
  tries = λ log logged. record {
    ended = Err fault;
    between = b;
    these = p.more;
    those = [];
    parts = sym (append-nil p.more);
    attempt = attempt;
    later = [];
    attempts = sym (append-nil (option_to_list attempt));
    first = p.tries log logged;
    rest = (refl, refl, refl, refl);
  };
}

-- memory ran out before all of them
pub tried_starved : (rules : Rules) (by : Asker) (streams : List (List ℕ)) (kept : Kept) (v : SideView) (x : List Turn) (k : Option TakerTold) → Tried rules by streams kept kept v v x x k k [] (Err Memory)
tried_starved rules by [] kept v x k = record { more = []; adds = adds_none x k; notes = notes_none kept; tries = λ log logged. (refl, refl, refl, inr refl) }
tried_starved rules by (s ∷ streams) kept v x k = tried_err rules by s streams kept kept v v x x k k None Memory (one_starved rules by s kept v x k)

-- ---- within the streams

-- however it goes on with those that are left, all of them are tried so
pub record TriesOn (rules : Rules) (by : Asker) (streams rest : List (List ℕ)) (kept kept' : Kept) (a b : SideView) (x y : List Turn) (k l : Option TakerTold) (made : List Attempt) : Type 0 where
  pub whole : (kept'' : Kept) (c : SideView) (z : List Turn) (m : Option TakerTold) (later : List Attempt) (end : Result ⊤ NodeFault)
      → Tried rules by rest kept' kept'' b c y z l m later end → Tried rules by streams kept kept'' a c x z k m (made ++ later) end

pub tries_from : (rules : Rules) (by : Asker) (streams : List (List ℕ)) (kept : Kept) (a : SideView) (x : List Turn) (k : Option TakerTold) (made : List Attempt) → made ≡ [] → TriesOn rules by streams streams kept kept a a x x k k made
tries_from rules by streams kept a x k made none = record {
  whole = λ kept'' c z m later end q. subst (λ (l : List Attempt). Tried rules by streams kept kept'' a c x z k m (l ++ later) end) (sym none) q;
}

as_asker : (rules : Rules) (s : List ℕ) (link link' time time' : ℕ) (kept kept' : Kept) (a b : SideView) (y z : List Turn) (l m : Option TakerTold) (attempt : Option Attempt) (end : Result ⊤ NodeFault) → link ≡ link' → time ≡ time'
    → TriedOne rules (record { link = link; now = time }) s kept kept' a b y z l m attempt end → TriedOne rules (record { link = link'; now = time' }) s kept kept' a b y z l m attempt end
as_asker rules s link link' time time' kept kept' a b y z l m attempt end e f p = subst (λ (by : Asker). TriedOne rules by s kept kept' a b y z l m attempt end) (same_asker link link' time time' e f) p

-- what is known within the streams
pub record Within (rules : Rules) (link link' time time' : ℕ) (streams : List (List ℕ)) (i : ℕ) (s : List ℕ) (kept kept' : Kept) (a b : SideView) (x y : List Turn) (k l : Option TakerTold) (made : List Attempt) : Type 0 where
  pub below : i < length streams
  pub is : s ≡ get_or streams i s
  pub link_same : link ≡ link'
  pub time_same : time ≡ time'
  pub on : TriesOn rules (record { link = link'; now = time' }) streams (drop i streams) kept kept' a b x y k l made

at_stream : (rules : Rules) (by : Asker) (streams : List (List ℕ)) (i : ℕ) (s : List ℕ) (kept kept' : Kept) (a b : SideView) (x y : List Turn) (k l : Option TakerTold) (made : List Attempt)
    → i < length streams → s ≡ get_or streams i s → TriesOn rules by streams (drop i streams) kept kept' a b x y k l made → TriesOn rules by streams (s ∷ drop (i + 1) streams) kept kept' a b x y k l made
at_stream rules by streams i s kept kept' a b x y k l made h e g = subst (λ (rest : List (List ℕ)). TriesOn rules by streams rest kept kept' a b x y k l made) (next_item streams i s h e) g

pub tries_next : (rules : Rules) (link link' time time' : ℕ) (streams : List (List ℕ)) (i : ℕ) (s : List ℕ) (kept kept' kept'' : Kept) (a b c : SideView) (x y z : List Turn) (k l m : Option TakerTold) (made made' : List Attempt) (attempt : Option Attempt) (u : ⊤)
    → Within rules link link' time time' streams i s kept kept' a b x y k l made
    → TriedOne rules (record { link = link; now = time }) s kept' kept'' b c y z l m attempt (Ok u) → made' ≡ made ++ option_to_list attempt
    → TriesOn rules (record { link = link'; now = time' }) streams (drop (i + 1) streams) kept kept'' a c x z k m made'
tries_next rules link link' time time' streams i s kept kept' kept'' a b c x y z k l m made made' attempt u at p now =
    let by : Asker = record { link = link'; now = time' } in
    let mine = as_asker rules s link link' time time' kept' kept'' b c y z l m attempt (Ok u) at.link_same at.time_same p in
    record {
      whole = λ kept3 d w n later end q. subst (λ (l : List Attempt). Tried rules by streams kept kept3 a d x w k n l end)
          (sym (ap (λ (l : List Attempt). l ++ later) now ∙ append_assoc made (option_to_list attempt) later))
          ((at_stream rules by streams i s kept kept' a b x y k l made at.below at.is at.on).whole kept3 d w n (option_to_list attempt ++ later) end
          (tried_on rules by s (drop (i + 1) streams) kept' kept'' kept3 b c d y z w l m n attempt later u end mine q));
    }

pub tries_no_further : (rules : Rules) (link link' time time' : ℕ) (streams : List (List ℕ)) (i : ℕ) (s : List ℕ) (kept kept' kept'' : Kept) (a b c : SideView) (x y z : List Turn) (k l m : Option TakerTold) (made : List Attempt) (attempt : Option Attempt) (fault : NodeFault)
    → Within rules link link' time time' streams i s kept kept' a b x y k l made
    → TriedOne rules (record { link = link; now = time }) s kept' kept'' b c y z l m attempt (Err fault)
    → Tried rules (record { link = link'; now = time' }) streams kept kept'' a c x z k m (made ++ option_to_list attempt) (Err fault)
tries_no_further rules link link' time time' streams i s kept kept' kept'' a b c x y z k l m made attempt fault at p =
    let by : Asker = record { link = link'; now = time' } in
    let mine = as_asker rules s link link' time time' kept' kept'' b c y z l m attempt (Err fault) at.link_same at.time_same p in
    (at_stream rules by streams i s kept kept' a b x y k l made at.below at.is at.on).whole kept'' c z m (option_to_list attempt) (Err fault)
    (tried_err rules by s (drop (i + 1) streams) kept' kept'' b c y z l m attempt fault mine)

-- memory ran out before the next one
pub tries_starved : (rules : Rules) (by : Asker) (streams : List (List ℕ)) (i : ℕ) (kept kept' : Kept) (a b : SideView) (x y : List Turn) (k l : Option TakerTold) (made : List Attempt)
    → TriesOn rules by streams (drop i streams) kept kept' a b x y k l made → Tried rules by streams kept kept' a b x y k l (made ++ []) (Err Memory)
tries_starved rules by streams i kept kept' a b x y k l made g = g.whole kept' b y l [] (Err Memory) (tried_starved rules by (drop i streams) kept' b y l)

pub tries_to_the_end : (rules : Rules) (by : Asker) (streams : List (List ℕ)) (i : ℕ) (kept kept' : Kept) (a b : SideView) (x y : List Turn) (k l : Option TakerTold) (made : List Attempt) (u : ⊤) → length streams ≤ i
    → TriesOn rules by streams (drop i streams) kept kept' a b x y k l made → Tried rules by streams kept kept' a b x y k l made (Ok u)
tries_to_the_end rules by streams i kept kept' a b x y k l made u h g =
    subst (λ (l' : List Attempt). Tried rules by streams kept kept' a b x y k l l' (Ok u)) (append-nil made)
    (g.whole kept' b y l [] (Ok u) (subst (λ (rest : List (List ℕ)). Tried rules by rest kept' kept' b b y y l l [] (Ok u)) (sym (drop_all i streams h)) (tried_none rules by kept' b y l u)))
