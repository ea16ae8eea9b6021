-- A tick ends with a store that failed exactly where one of its turns was told so; only of one that ended out of memory nothing
-- is known.
use Rattle.std.proofs.Common.{◌≡◌, ◌∙◌, sym, ap, subst, refl, ℕ, ◌||◌, Bool, true, false, List, [], ◌∷◌, ◌++◌, length, Option, Some, None, Result, Ok, Err, is_some, inl, inr, arith}
use Rattle.std.specs.Prelude.{◌⊎◌, ◌≤◌, ⊤, is_ok}
use Rattle.std.specs.List.{list_any}
use Rattle.std.specs.Option.{option_to_list}
use Rattle.std.proofs.lemmas.List.Elements.{All-head, All-tail}
use Rattle.sig_courier.specs.declared.attempt.Attempt.{Attempt}
use Rattle.sig_journal.specs.declared.node_fault.NodeFault.{NodeFault}
use Rattle.sig_journal.specs.declared.node_fault.NodeFault.TheVariants.{Store, Full, Memory}
use Rattle.sig_links.specs.Views.{SideView}
use Rattle.sig_push.specs.declared.fault.PushFault.{PushFault}
use Rattle.sig_push.specs.declared.fault.PushFault.TheVariants as push
use Rattle.sig_round.specs.Turns.{Asker}
use Rattle.sig_terms.specs.declared.answer.Answer.{Answer}
use Rattle.sig_terms.specs.declared.rules.Rules.{Rules}
use Rattle.sig_terms.specs.declared.token.Token.{Token}
use Rattle.sig_tick.specs.Bringing.{AreAnswered, AreRefused, Stops}
use Rattle.sig_tick.specs.Listing.{After, AreAsked, ended, pushes_listed}
use Rattle.sig_tick.specs.Ticking.{IsTick, Lists}
use Rattle.sig_tick.specs.Trying.{AreTried, IsIdle, IsOver, TriesDue, TriesHanded, TriesTokens, TriesWhere, is_due}
use Rattle.sig_round.specs.Rounds.{tokens_in}
use Rattle.sig_txnode.specs.Turns.{AreFailed, AreHeld, BrokeAt, BrokeIn, fails}
use Rattle.sig_txnode.specs.declared.turn.Turn.{Turn}

-- ---- what turns tell

-- whether one of these turns was told that the store failed
abbrev pub any_failed : List Turn → Bool
any_failed turns = list_any (λ (t : Turn). fails t.result) turns

-- whether something ended with the store
abbrev pub with_store : Result ⊤ NodeFault → Bool
with_store (Ok done) = false
with_store (Err Store) = true
with_store (Err (Full n)) = false
with_store (Err Memory) = false

-- these turns tell so of how they ended
abbrev pub Tells : List Turn → Result ⊤ NodeFault → Type 0
Tells turns end = (end ≡ Err Memory) ⊎ (any_failed turns ≡ with_store end)

any_join : (first second : List Turn) → any_failed (first ++ second) ≡ (any_failed first || any_failed second)
any_join [] second = refl
any_join (t ∷ first) second = by (fails t.result) refl (any_join first second)
  where
    by : (b : Bool) → fails t.result ≡ b → any_failed (first ++ second) ≡ (any_failed first || any_failed second) → any_failed ((t ∷ first) ++ second) ≡ (any_failed (t ∷ first) || any_failed second)
    by true e rest = ap (λ (x : Bool). x || any_failed (first ++ second)) e ∙ sym (ap (λ (x : Bool). (x || any_failed first) || any_failed second) e)
    by false e rest = ap (λ (x : Bool). x || any_failed (first ++ second)) e ∙ rest ∙ sym (ap (λ (x : Bool). (x || any_failed first) || any_failed second) e)

tells_ended : (r : Result Answer NodeFault) → fails r ≡ with_store (ended r)
tells_ended (Ok answer) = refl
tells_ended (Err Store) = refl
tells_ended (Err (Full n)) = refl
tells_ended (Err Memory) = refl

-- no turn, and it ended well or out of memory
tells_none : (turns : List Turn) (end : Result ⊤ NodeFault) → turns ≡ [] → (is_ok end ≡ true) ⊎ (end ≡ Err Memory) → Tells turns end
tells_none turns (Ok done) none h = inr (ap any_failed none)
tells_none turns (Err fault) none (inl h) = absurd cc
tells_none turns (Err fault) none (inr h) = inl h

-- a part that ended so, and what follows it
first_then : (r : Result ⊤ NodeFault) (first those : List Turn) (end : Result ⊤ NodeFault) (next : Type 0) → Tells first r → (next → Tells those end)
    → After r next ((those ≡ []) × (end ≡ r)) → Tells (first ++ those) end
first_then (Ok done) first those end next (inl memory) f h = absurd cc
first_then (Ok done) first those end next (inr told) f h = more (f h)
  where
    more : Tells those end → Tells (first ++ those) end
    more (inl memory) = inl memory
    more (inr rest) = inr (any_join first those ∙ ap (λ (x : Bool). x || any_failed those) told ∙ rest)
first_then (Err fault) first those end next (inl memory) f h = inl (h.1 ∙ memory)
first_then (Err fault) first those end next (inr told) f h =
    inr (any_join first those ∙ ap (λ (ts : List Turn). any_failed first || any_failed ts) h.0 ∙ or_false (any_failed first) ∙ told ∙ sym (ap with_store h.1))
  where
    or_false : (b : Bool) → (b || false) ≡ b
    or_false true = refl
    or_false false = refl

after_map : (r : Result ⊤ NodeFault) (next stopped stopped' : Type 0) → (stopped → stopped') → After r next stopped → After r next stopped'
after_map (Ok done) next stopped stopped' f h = h
after_map (Err fault) next stopped stopped' f h = f h

-- ---- the clients

one_told : (t : Turn) → Tells (t ∷ []) (ended t.result)
one_told t = inr (or_false (fails t.result) ∙ tells_ended t.result)
  where
    or_false : (b : Bool) → (b || false) ≡ b
    or_false true = refl
    or_false false = refl

asked_tell : (by : Asker) (names : List (List ℕ)) (turns : List Turn) (end : Result ⊤ NodeFault) → AreAsked by names turns end → Tells turns end
asked_tell by [] turns end h = tells_none turns end h.0 (inl h.1)
asked_tell by (c ∷ names) [] end h = inl h
asked_tell by (c ∷ names) (t ∷ turns) end h =
    first_then (ended t.result) (t ∷ []) turns end (AreAsked by names turns end) (one_told t) (asked_tell by names turns end) h.1

lists_tell : (rules : Rules) (by : Asker) (turns : List Turn) (end : Result ⊤ NodeFault) → Lists rules by turns end → Tells turns end
lists_tell rules by turns end (inl h) = inl h.1
lists_tell rules by turns end (inr h) = asked_tell by h.0 turns end h.2

-- ---- an attempt

answered_none : (turns : List Turn) → AreAnswered turns → any_failed turns ≡ false
answered_none [] h = refl
answered_none (t ∷ turns) h =
    ap (λ (x : Bool). x || any_failed turns) (not_failed t.result (All-head (λ (x : Turn). is_ok x.result ≡ true) t turns h)) ∙ answered_none turns (All-tail (λ (x : Turn). is_ok x.result ≡ true) t turns h)
  where
    not_failed : (r : Result Answer NodeFault) → is_ok r ≡ true → fails r ≡ false
    not_failed (Ok answer) h = refl
    not_failed (Err fault) h = absurd cc

refused_tell : (turns : List Turn) (fault : NodeFault) → AreRefused turns fault → Tells turns (Err fault)
refused_tell turns fault r =
    subst (λ (ts : List Turn). Tells ts (Err fault)) (sym r.parts)
    (first_then (Ok tt) r.earlier (r.last ∷ []) (Err fault) (Tells (r.last ∷ []) (Err fault)) (inr (answered_none r.earlier r.answered)) (λ h. h)
    (subst (λ (e : Result ⊤ NodeFault). Tells (r.last ∷ []) e) (ap ended r.refused) (one_told r.last)))

stops_tell : (pushed : Result ⊤ PushFault) (left : List Token) (turns : List Turn) (end : Result ⊤ NodeFault) → Stops pushed left turns end → Tells turns end
stops_tell (Ok u) left turns (Ok v) h = inr (answered_none turns h.1)
stops_tell (Ok u) left turns (Err fault) h = refused_tell turns fault h
stops_tell (Err fault) left turns (Ok v) h = inr (answered_none turns (h.1 refl))
stops_tell (Err push.NoEndpoint) left turns (Err f) h = absurd (apart f h.0)
  where
    apart : (f : NodeFault) → ◌≡◌ {A = Result ⊤ NodeFault} (Err f) (Ok tt) → ⊥
    apart f h = cc
stops_tell (Err push.NoGateway) left turns (Err f) h = absurd (apart f h.0)
  where
    apart : (f : NodeFault) → ◌≡◌ {A = Result ⊤ NodeFault} (Err f) (Ok tt) → ⊥
    apart f h = cc
stops_tell (Err push.Dial) left turns (Err f) h = absurd (apart f h.0)
  where
    apart : (f : NodeFault) → ◌≡◌ {A = Result ⊤ NodeFault} (Err f) (Ok tt) → ⊥
    apart f h = cc
stops_tell (Err push.Link) left turns (Err f) h = absurd (apart f h.0)
  where
    apart : (f : NodeFault) → ◌≡◌ {A = Result ⊤ NodeFault} (Err f) (Ok tt) → ⊥
    apart f h = cc
stops_tell (Err push.NoResponse) left turns (Err f) h = absurd (apart f h.0)
  where
    apart : (f : NodeFault) → ◌≡◌ {A = Result ⊤ NodeFault} (Err f) (Ok tt) → ⊥
    apart f h = cc
stops_tell (Err push.Memory) left turns (Err f) h = inl h.0

-- ---- the streams

idle_tell : (before after : SideView) (turns : List Turn) (attempt : Option Attempt) (end : Result ⊤ NodeFault) → IsIdle before after turns attempt → IsOver end → Tells turns end
idle_tell before after turns attempt end idle over = tells_none turns end idle.turns_none over

tokens_tell : (rules : Rules) (by : Asker) (stream : List ℕ) (tokens : List Token) (before after : SideView) (turns : List Turn) (attempt : Option Attempt) (end : Result ⊤ NodeFault)
    → TriesTokens rules by stream tokens before after turns attempt end → Tells turns end
tokens_tell rules by stream [] before after turns attempt end h = idle_tell before after turns attempt end h.0 h.1
tokens_tell rules by stream (t ∷ tokens) before after turns None end h = inl h.1
tokens_tell rules by stream (t ∷ tokens) before after turns (Some attempt) end h = stops_tell h.1.pushed h.1.left turns end h.1.stops

handed_tell : (rules : Rules) (by : Asker) (stream : List ℕ) (handed : Result Answer NodeFault) (before after : SideView) (turns : List Turn) (attempt : Option Attempt) (end : Result ⊤ NodeFault)
    → TriesHanded rules by stream handed before after turns attempt end → After (ended handed) (Tells turns end) ((turns ≡ []) × (end ≡ ended handed))
handed_tell rules by stream (Ok answer) before after turns attempt end h = tokens_tell rules by stream (tokens_in (Ok answer)) before after turns attempt end h
handed_tell rules by stream (Err fault) before after turns attempt end h = (h.0.turns_none, h.1)

due_tell : (rules : Rules) (by : Asker) (stream : List ℕ) (before after : SideView) (turns : List Turn) (attempt : Option Attempt) (end : Result ⊤ NodeFault)
    → TriesDue rules by stream before after turns attempt end → Tells turns end
due_tell rules by stream before after [] attempt end h = inl h.1
due_tell rules by stream before after (hand ∷ turns) attempt end h =
    first_then (ended hand.result) (hand ∷ []) turns end (Tells turns end) (one_told hand) (λ k. k) (handed_tell rules by stream hand.result before after turns attempt end h.1)

where_tell : (due : Bool) (rules : Rules) (by : Asker) (stream : List ℕ) (before after : SideView) (turns : List Turn) (attempt : Option Attempt) (end : Result ⊤ NodeFault)
    → TriesWhere due rules by stream before after turns attempt end → Tells turns end
where_tell true rules by stream before after turns attempt end h = due_tell rules by stream before after turns attempt end h
where_tell false rules by stream before after turns attempt end h = idle_tell before after turns attempt end h.0 h.1

tried_tell : (rules : Rules) (by : Asker) (log : List Attempt) (streams : List (List ℕ)) (before after : SideView) (turns : List Turn) (made : List Attempt) (end : Result ⊤ NodeFault)
    → AreTried rules by log streams before after turns made end → Tells turns end
tried_tell rules by log [] before after turns made end h = tells_none turns end h.0 h.3
tried_tell rules by log (stream ∷ streams) before after turns made end h =
    subst (λ (ts : List Turn). Tells ts end) (sym h.parts)
    (first_then h.ended h.these h.those end (AreTried rules by (log ++ option_to_list h.attempt) streams h.between after h.those h.later end)
    (where_tell (is_due log by stream) rules by stream before h.between h.these h.attempt h.ended h.first)
    (tried_tell rules by (log ++ option_to_list h.attempt) streams h.between after h.those h.later end)
    (after_map h.ended _ _ ((h.those ≡ []) × (end ≡ h.ended)) (λ k. (k.0, k.3)) h.rest))

-- ---- the tick

pub tick_tells : (rules : Rules) (by : Asker) (log : List Attempt) (before after : SideView) (turns : List Turn) (made : List Attempt) (end : Result ⊤ NodeFault)
    → IsTick rules by log before after turns made end → Tells turns end
tick_tells rules by log before after turns made end h =
    subst (λ (ts : List Turn). Tells ts end) (sym h.parts)
    (first_then h.listing h.reads h.others end (AreTried rules by log (pushes_listed h.reads) before after h.others made end)
    (lists_tell rules by h.reads h.listing h.lists)
    (tried_tell rules by log (pushes_listed h.reads) before after h.others made end)
    (after_map h.listing _ _ ((h.others ≡ []) × (end ≡ h.listing)) (λ k. (k.0, k.3)) h.tries))

-- ---- the node

held_none : (turns : List Turn) → AreHeld turns → any_failed turns ≡ false
held_none [] h = refl
held_none (t ∷ turns) h =
    ap (λ (x : Bool). x || any_failed turns) (All-head (λ (x : Turn). fails x.result ≡ false) t turns h) ∙ held_none turns (All-tail (λ (x : Turn). fails x.result ≡ false) t turns h)

broke_some : (turn : ℕ) (turns : List Turn) → BrokeIn turn turns → any_failed turns ≡ true
broke_some turn turns b = ap any_failed b.parts ∙ any_join b.before b.after ∙ ap (λ (x : Bool). any_failed b.before || x) (failed_some b.after b.some b.failed) ∙ or_true (any_failed b.before)
  where
    or_true : (b : Bool) → (b || true) ≡ true
    or_true true = refl
    or_true false = refl

    failed_some : (ts : List Turn) → 1 ≤ length ts → AreFailed ts → any_failed ts ≡ true
    failed_some [] some h = absurd (omega (arith, some))
    failed_some (t ∷ ts) some h = ap (λ (x : Bool). x || any_failed ts) (All-head (λ (x : Turn). fails x.result ≡ true) t ts h)

pub broke_tells : (broken_at : Option ℕ) (turns : List Turn) → BrokeAt broken_at turns → any_failed turns ≡ is_some broken_at
broke_tells None turns h = held_none turns h
broke_tells (Some turn) turns h = broke_some turn turns h

-- a tick that ended so over a node that isn't broken didn't end with its store
pub whole_no_store : (broken_at : Option ℕ) (turns : List Turn) (fault : NodeFault) → Tells turns (Err fault) → BrokeAt broken_at turns → broken_at ≡ None → fault ≡ Store → ⊥
whole_no_store broken_at turns fault (inl memory) broke none is = cc
whole_no_store broken_at turns fault (inr told) broke none is =
    let failed : any_failed turns ≡ true = told ∙ ap (λ (f : NodeFault). with_store (Err f)) is in
    let whole : any_failed turns ≡ false = broke_tells broken_at turns broke ∙ ap (λ (o : Option ℕ). is_some o) none in
    cc

-- and over a node that is it ended with its store, or out of memory
pub broken_ends : (end : Result ⊤ NodeFault) (turns : List Turn) (broken_at : Option ℕ) → Tells turns end → BrokeAt broken_at turns → is_some broken_at ≡ true
    → (end ≡ Err Store) ⊎ (end ≡ Err Memory)
broken_ends end turns broken_at (inl memory) broke some = inr memory
broken_ends end turns broken_at (inr told) broke some = inl (by end (sym told ∙ broke_tells broken_at turns broke ∙ some))
  where
    by : (e : Result ⊤ NodeFault) → with_store e ≡ true → e ≡ Err Store
    by (Ok done) h = cc
    by (Err Store) h = refl
    by (Err (Full n)) h = cc
    by (Err Memory) h = cc
