-- Tokens that are taken one after another.
use Rattle.std.proofs.Common.{◌≡◌, ◌∙◌, ap, sym, subst, refl, ℕ, ◌+◌, ◌<◌, ◌≤◌, suc, List, [], ◌∷◌, ◌++◌, length, append_assoc, append-nil, get_or, drop, drop-cons, add-one, Bool, true, Option, Some, Result, Ok, Err, is_ok, IsErrOf}
use Rattle.std.specs.Prelude.{⊤}
use Rattle.std.specs.Option.{option_to_list}
use Rattle.std.proofs.Math.Seq.{drop-append_seam}
use Rattle.std.proofs.lemmas.List.{drop_all}
use Rattle.sig_delivery.specs.declared.sets.Listed.{Listed}
use Rattle.sig_journal.specs.declared.node_fault.NodeFault.{NodeFault}
use Rattle.sig_journal.specs.declared.node_fault.NodeFault.TheVariants as node
use Rattle.sig_rxnode.specs.declared.answer.RxAnswer.{RxAnswer}
use Rattle.sig_rxnode.specs.declared.call.RxCall.{RxCall}
use Rattle.sig_rxnode.specs.declared.call.RxCall.TheVariants.{Token}
use Rattle.sig_rxnode.specs.declared.rules.Peer.{Peer}
use Rattle.sig_rxnode.specs.declared.turn.RxTurn.{RxTurn}
use Rattle.sig_rxnode.specs.Node.{NodeView, base_of}
use Rattle.sig_rxnode.specs.Take.{Answered, KeepsTurn}
use Rattle.sig_fetch.specs.Fetching.{Taken}
use Rattle.sig_fetch.specs.Rounds.{GoesOnAfter, Takes, end_of}
use Rattle.sig_fetch.specs.Turns.{Halts}
use Rattle.sig_fetch.specs.declared.fault.FetchFault.{FetchFault}
use Rattle.sig_fetch.specs.declared.fault.FetchFault.TheVariants.{Store, Full, Memory}
use Rattle.sig_fetch.proofs.Growing.{grows_none, grows_on, grows_turn}
use Rattle.sig_fetch.proofs.Halting.{halts_none}

ok_no_err : (u : ⊤) (e : FetchFault) (h : IsErrOf {T = ⊤} {E = FetchFault} (Ok u) e) → ⊥
ok_no_err u e h = cc

-- ---- one token

-- memory ran out before its turn, or in it
pub taken_starved : {D : Type 0} (peer : Peer) (l : Listed) (before gathered : List RxTurn) (old : NodeView D) → gathered ≡ before → Taken peer (l ∷ []) before gathered old old (Err Memory)
taken_starved peer l before gathered old same = record { turns = []; takes = refl; grows = grows_none old; gathers = same ∙ sym (append-nil before) }

pub starved_halts : {D : Type 0} (told : D → Bool) (faults : D → ℕ) (old : NodeView D) → Halts {T = ⊤} told faults old old (Err Memory)
starved_halts told faults old = halts_none told faults old (Err Memory) not_store not_full
  where
    not_store : IsErrOf {T = ⊤} (Err Memory) Store → ⊥
    not_store h = cc

    not_full : (n : ℕ) → IsErrOf {T = ⊤} (Err Memory) (Full n) → ⊥
    not_full n h = cc

-- its turn, with the fault of its answer
ends_one : (peer : Peer) (r : Result RxAnswer NodeFault) → (IsErrOf r node.Memory → ⊥) → GoesOnAfter r [] (end_of r) (Takes peer [] [] (end_of r))
ends_one peer (Ok a) kept = (refl, refl)
ends_one peer (Err node.Store) kept = (refl, refl)
ends_one peer (Err (node.Full n)) kept = (refl, refl)
ends_one peer (Err node.Memory) kept = absurd (kept refl)

-- what `take_kept` ensures of the call of a token, whose turn, where one was given, was put last
pub record TookToken {D : Type 0} (peer : Peer) (l : Listed) (c : RxCall) (before gathered : List RxTurn) (old new : NodeView D) (r : Result RxAnswer NodeFault) (given : Option RxTurn) : Type 0 where
  pub call : c ≡ Token (Some peer.iss) (Some l.jti) l.text
  pub answered : Answered c old new r
  pub turns : KeepsTurn old.turns new.turns 0 c r
  pub turn : new.turns ≡ old.turns ++ option_to_list given
  pub put : gathered ≡ before ++ option_to_list given
  pub opened : new.opened ≡ old.opened
  pub base : base_of new ≡ base_of old
  pub memory : IsErrOf r node.Memory → new ≡ old

-- a list has one rest
one_rest : {X : Type 0} (xs all ys zs : List X) → all ≡ xs ++ ys → all ≡ xs ++ zs → ys ≡ zs
one_rest xs all ys zs p q = sym (drop-append_seam xs ys) ∙ ap (drop (length xs)) (sym p ∙ q) ∙ drop-append_seam xs zs

one_turn : {D : Type 0} (peer : Peer) (l : Listed) (c : RxCall) (before gathered : List RxTurn) (old new : NodeView D) (r : Result RxAnswer NodeFault) (given : Option RxTurn)
    → (IsErrOf r node.Memory → ⊥) → TookToken peer l c before gathered old new r given → Taken peer (l ∷ []) before gathered old new (end_of r)
one_turn peer l c before gathered old new r given kept t =
    let turns : List RxTurn = record { link = 0; call = c; result = r } ∷ [] in
    let grows = grows_turn c old new r kept t.answered t.turns t.opened t.base in
    record {
      turns = turns;
      takes = (record { link = refl; call = t.call }, ends_one peer r kept);
      grows = grows;
      gathers = t.put ∙ ap (λ (ts : List RxTurn). before ++ ts) (one_rest old.turns new.turns (option_to_list given) turns t.turn grows.turns);
    }

pub taken_one : {D : Type 0} (peer : Peer) (l : Listed) (c : RxCall) (before gathered : List RxTurn) (old new : NodeView D) (r : Result RxAnswer NodeFault) (given : Option RxTurn)
    → TookToken peer l c before gathered old new r given → Taken peer (l ∷ []) before gathered old new (end_of r)
taken_one peer l c before gathered old new (Ok a) given t = one_turn peer l c before gathered old new (Ok a) given not_memory t
  where
    not_memory : IsErrOf {T = RxAnswer} (Ok a) node.Memory → ⊥
    not_memory h = cc
taken_one peer l c before gathered old new (Err node.Store) given t = one_turn peer l c before gathered old new (Err node.Store) given not_memory t
  where
    not_memory : IsErrOf {T = RxAnswer} (Err node.Store) node.Memory → ⊥
    not_memory h = cc
taken_one peer l c before gathered old new (Err (node.Full n)) given t = one_turn peer l c before gathered old new (Err (node.Full n)) given not_memory t
  where
    not_memory : IsErrOf {T = RxAnswer} (Err (node.Full n)) node.Memory → ⊥
    not_memory h = cc
taken_one {D} peer l c before gathered old new (Err node.Memory) given t =
    let none : option_to_list given ≡ [] = one_rest old.turns new.turns (option_to_list given) [] t.turn (t.turns ∙ sym (append-nil old.turns)) in
    let same : gathered ≡ before = t.put ∙ ap (λ (ts : List RxTurn). before ++ ts) none ∙ append-nil before in
    subst (λ (n : NodeView D). Taken peer (l ∷ []) before gathered old n (Err Memory)) (sym (t.memory refl)) (taken_starved peer l before gathered old same)

-- ---- a token before others

goes_after : (peer : Peer) (ls : List Listed) (r : Result RxAnswer NodeFault) (ts ys : List RxTurn) (u : ⊤) (end : Result ⊤ FetchFault)
    → GoesOnAfter r ts (Ok u) (Takes peer [] ts (Ok u)) → Takes peer ls ys end → GoesOnAfter r (ts ++ ys) end (Takes peer ls (ts ++ ys) end)
goes_after peer ls (Ok a) ts ys u end s q = subst (λ (l : List RxTurn). Takes peer ls (l ++ ys) end) (sym s.0) q
goes_after peer ls (Err node.Store) ts ys u end s q = absurd (ok_no_err u Store s.1)
goes_after peer ls (Err (node.Full n)) ts ys u end s q = absurd (ok_no_err u (Full n) s.1)
goes_after peer ls (Err node.Memory) ts ys u end s q = absurd s

takes_on : (peer : Peer) (l : Listed) (ls : List Listed) (xs ys : List RxTurn) (u : ⊤) (end : Result ⊤ FetchFault) → Takes peer (l ∷ []) xs (Ok u) → Takes peer ls ys end → Takes peer (l ∷ ls) (xs ++ ys) end
takes_on peer l ls [] ys u end s q = absurd (ok_no_err u Memory s)
takes_on peer l ls (t ∷ ts) ys u end s q = (s.0, goes_after peer ls t.result ts ys u end s.1 q)

err_no_ok : (e : FetchFault) → ◌≡◌ {A = Bool} (is_ok {T = ⊤} (Err e)) true → ⊥
err_no_ok e h = cc

ends_after : (peer : Peer) (ls : List Listed) (r : Result RxAnswer NodeFault) (ts : List RxTurn) (e : FetchFault)
    → GoesOnAfter r ts (Err e) (Takes peer [] ts (Err e)) → GoesOnAfter r ts (Err e) (Takes peer ls ts (Err e))
ends_after peer ls (Ok a) ts e s = absurd (err_no_ok e s.1)
ends_after peer ls (Err node.Store) ts e s = s
ends_after peer ls (Err (node.Full n)) ts e s = s
ends_after peer ls (Err node.Memory) ts e s = s

takes_err : (peer : Peer) (l : Listed) (ls : List Listed) (xs : List RxTurn) (e : FetchFault) → Takes peer (l ∷ []) xs (Err e) → Takes peer (l ∷ ls) xs (Err e)
takes_err peer l ls [] e s = s
takes_err peer l ls (t ∷ ts) e s = (s.0, ends_after peer ls t.result ts e s.1)

pub taken_none : {D : Type 0} (peer : Peer) (before : List RxTurn) (node : NodeView D) (u : ⊤) → Taken peer [] before before node node (Ok u)
taken_none peer before node u = record { turns = []; takes = (refl, refl); grows = grows_none node; gathers = sym (append-nil before) }

taken_on : {D : Type 0} (peer : Peer) (l : Listed) (ls : List Listed) (x y z : List RxTurn) (a b c : NodeView D) (u : ⊤) (end : Result ⊤ FetchFault)
    → Taken peer (l ∷ []) x y a b (Ok u) → Taken peer ls y z b c end → Taken peer (l ∷ ls) x z a c end
taken_on peer l ls x y z a b c u end p q = record {
  turns = p.turns ++ q.turns;
  takes = takes_on peer l ls p.turns q.turns u end p.takes q.takes;
  grows = grows_on p.turns q.turns a b c p.grows q.grows;
  gathers = q.gathers ∙ ap (λ (ts : List RxTurn). ts ++ q.turns) p.gathers ∙ append_assoc x p.turns q.turns;
}

taken_err : {D : Type 0} (peer : Peer) (l : Listed) (ls : List Listed) (x y : List RxTurn) (a b : NodeView D) (e : FetchFault) → Taken peer (l ∷ []) x y a b (Err e) → Taken peer (l ∷ ls) x y a b (Err e)
taken_err peer l ls x y a b e p = record { turns = p.turns; takes = takes_err peer l ls p.turns e p.takes; grows = p.grows; gathers = p.gathers }

-- ---- within the tokens of a page

-- however it goes on with those that are left, all of them are taken so
pub record GoesOn {D : Type 0} (peer : Peer) (tokens rest : List Listed) (before gathered : List RxTurn) (old now : NodeView D) : Type 0 where
  pub all : (after : List RxTurn) (new : NodeView D) (end : Result ⊤ FetchFault) → Taken peer rest gathered after now new end → Taken peer tokens before after old new end

next_token : (tokens : List Listed) (i : ℕ) (l : Listed) → i < length tokens → l ≡ get_or tokens i l → drop i tokens ≡ l ∷ drop (i + 1) tokens
next_token tokens i l h e = drop-cons tokens i l h ∙ ap (λ (q : Listed). q ∷ drop (suc i) tokens) (sym e) ∙ ap (λ n. l ∷ drop n tokens) (sym (add-one i))

at_token : {D : Type 0} (peer : Peer) (tokens : List Listed) (i : ℕ) (l : Listed) (x y : List RxTurn) (old now : NodeView D) → i < length tokens → l ≡ get_or tokens i l
    → GoesOn peer tokens (drop i tokens) x y old now → GoesOn peer tokens (l ∷ drop (i + 1) tokens) x y old now
at_token peer tokens i l x y old now h e g = subst (λ (rest : List Listed). GoesOn peer tokens rest x y old now) (next_token tokens i l h e) g

pub goes_next : {D : Type 0} (peer : Peer) (tokens : List Listed) (i : ℕ) (l : Listed) (x y z : List RxTurn) (old now next : NodeView D) (u : ⊤) → i < length tokens → l ≡ get_or tokens i l
    → GoesOn peer tokens (drop i tokens) x y old now → Taken peer (l ∷ []) y z now next (Ok u) → GoesOn peer tokens (drop (i + 1) tokens) x z old next
goes_next peer tokens i l x y z old now next u h is g t =
    let at = at_token peer tokens i l x y old now h is g in
    record { all = λ after new end more. at.all after new end (taken_on peer l (drop (i + 1) tokens) y z after now next new u end t more) }

pub goes_no_further : {D : Type 0} (peer : Peer) (tokens : List Listed) (i : ℕ) (l : Listed) (x y z : List RxTurn) (old now new : NodeView D) (e : FetchFault) → i < length tokens → l ≡ get_or tokens i l
    → GoesOn peer tokens (drop i tokens) x y old now → Taken peer (l ∷ []) y z now new (Err e) → Taken peer tokens x z old new (Err e)
goes_no_further peer tokens i l x y z old now new e h is g t =
    (at_token peer tokens i l x y old now h is g).all z new (Err e) (taken_err peer l (drop (i + 1) tokens) y z now new e t)

pub goes_to_the_end : {D : Type 0} (peer : Peer) (tokens : List Listed) (i : ℕ) (x y : List RxTurn) (old now : NodeView D) (u : ⊤) → length tokens ≤ i
    → GoesOn peer tokens (drop i tokens) x y old now → Taken peer tokens x y old now (Ok u)
goes_to_the_end peer tokens i x y old now u h g =
    g.all y now (Ok u) (subst (λ (rest : List Listed). Taken peer rest y y now now (Ok u)) (sym (drop_all i tokens h)) (taken_none peer y now u))
