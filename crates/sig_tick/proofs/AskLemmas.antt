-- Clients that are asked for their streams, one after another.
use Rattle.std.proofs.Common.{◌≡◌, sym, ap, subst, refl, ℕ, ◌+◌, ◌<◌, ◌≤◌, Bool, true, List, [], ◌∷◌, ◌++◌, length, get_or, drop, Option, Result, Ok, Err, is_ok, inr}
use Rattle.std.specs.Prelude.{⊤}
use Rattle.std.proofs.lemmas.List.{drop_all}
use Rattle.sig_journal.specs.declared.node_fault.NodeFault.{NodeFault}
use Rattle.sig_journal.specs.declared.node_fault.NodeFault.TheVariants.{Memory}
use Rattle.sig_terms.specs.declared.answer.Answer.{Answer}
use Rattle.sig_terms.specs.declared.call.Call.TheVariants.{ReadAll}
use Rattle.sig_terms.specs.declared.rules.Rules.{Rules}
use Rattle.sig_txnode.specs.Told.{TakerTold}
use Rattle.sig_txnode.specs.declared.turn.Turn.{Turn}
use Rattle.sig_round.specs.Turns.{Adds, AddsTurnOf, Asker}
use Rattle.sig_round.proofs.Grown.{adds_none, adds_on}
use Rattle.sig_tick.specs.Listing.{After, AreAsked, AreNamesInOrder, Asked, ended}
use Rattle.sig_tick.specs.Ticking.{Listed}
use Rattle.sig_tick.proofs.Collecting.{next_item, same_asker}

pub ok_no_err : (u : ⊤) (e : NodeFault) (p : ◌≡◌ {A = Result ⊤ NodeFault} (Ok u) (Err e)) → ⊥
ok_no_err u e p = cc

err_no_ok : (e : NodeFault) → ◌≡◌ {A = Bool} (is_ok {T = ⊤} (Err e)) true → ⊥
err_no_ok e h = cc

-- ---- one client

ends_one : (by : Asker) (t : Result Answer NodeFault) (r : Result ⊤ NodeFault) → r ≡ ended t
    → After (ended t) (AreAsked by [] [] r) ((◌≡◌ {A = List Turn} [] []) × (r ≡ ended t))
ends_one by (Ok a) r is = (refl, ap (λ (x : Result ⊤ NodeFault). is_ok x) is)
ends_one by (Err f) r is = (refl, is)

pub asked_one : (by : Asker) (c : List ℕ) (r : Result ⊤ NodeFault) (x y : List Turn) (k l : Option TakerTold) → AddsTurnOf by (ReadAll c) x y k l
    → ((earlier : List Turn) (turn : Turn) → y ≡ earlier ++ turn ∷ [] → r ≡ ended turn.result) → Asked by (c ∷ []) x y k l r
asked_one by c r x y k l a h = record {
  more = a.0 ∷ [];
  adds = a.2;
  asks = (a.1, ends_one by a.0.result r (h x a.0 a.2.log));
}

pub asked_starved : (by : Asker) (c : List ℕ) (x y : List Turn) (k l : Option TakerTold) → Adds [] x y k l → Asked by (c ∷ []) x y k l (Err Memory)
asked_starved by c x y k l a = record { more = []; adds = a; asks = refl }

-- ---- a client before others

after_on : (by : Asker) (cs : List (List ℕ)) (r : Result Answer NodeFault) (ts ys : List Turn) (u : ⊤) (end : Result ⊤ NodeFault)
    → After (ended r) (AreAsked by [] ts (Ok u)) ((ts ≡ []) × ◌≡◌ {A = Result ⊤ NodeFault} (Ok u) (ended r)) → AreAsked by cs ys end
    → After (ended r) (AreAsked by cs (ts ++ ys) end) ((ts ++ ys ≡ []) × (end ≡ ended r))
after_on by cs (Ok a) ts ys u end s q = subst (λ (l : List Turn). AreAsked by cs (l ++ ys) end) (sym s.0) q
after_on by cs (Err f) ts ys u end s q = absurd (ok_no_err u f s.1)

asks_on : (by : Asker) (c : List ℕ) (cs : List (List ℕ)) (xs ys : List Turn) (u : ⊤) (end : Result ⊤ NodeFault) → AreAsked by (c ∷ []) xs (Ok u) → AreAsked by cs ys end → AreAsked by (c ∷ cs) (xs ++ ys) end
asks_on by c cs [] ys u end s q = absurd (ok_no_err u Memory s)
asks_on by c cs (t ∷ ts) ys u end s q = (s.0, after_on by cs t.result ts ys u end s.1 q)

after_err : (by : Asker) (cs : List (List ℕ)) (r : Result Answer NodeFault) (ts : List Turn) (e : NodeFault)
    → After (ended r) (AreAsked by [] ts (Err e)) ((ts ≡ []) × ◌≡◌ {A = Result ⊤ NodeFault} (Err e) (ended r))
    → After (ended r) (AreAsked by cs ts (Err e)) ((ts ≡ []) × ◌≡◌ {A = Result ⊤ NodeFault} (Err e) (ended r))
after_err by cs (Ok a) ts e s = absurd (err_no_ok e s.1)
after_err by cs (Err f) ts e s = s

asks_err : (by : Asker) (c : List ℕ) (cs : List (List ℕ)) (xs : List Turn) (e : NodeFault) → AreAsked by (c ∷ []) xs (Err e) → AreAsked by (c ∷ cs) xs (Err e)
asks_err by c cs [] e s = s
asks_err by c cs (t ∷ ts) e s = (s.0, after_err by cs t.result ts e s.1)

asked_none : (by : Asker) (x : List Turn) (k : Option TakerTold) (u : ⊤) → Asked by [] x x k k (Ok u)
asked_none by x k u = record { more = []; adds = adds_none x k; asks = (refl, refl) }

asked_on : (by : Asker) (c : List ℕ) (cs : List (List ℕ)) (x y z : List Turn) (k l m : Option TakerTold) (u : ⊤) (end : Result ⊤ NodeFault)
    → Asked by (c ∷ []) x y k l (Ok u) → Asked by cs y z l m end → Asked by (c ∷ cs) x z k m end
asked_on by c cs x y z k l m u end p q = record {
  more = p.more ++ q.more;
  adds = adds_on p.more q.more x y z k l m p.adds q.adds;
  asks = asks_on by c cs p.more q.more u end p.asks q.asks;
}

asked_err : (by : Asker) (c : List ℕ) (cs : List (List ℕ)) (x y : List Turn) (k l : Option TakerTold) (e : NodeFault) → Asked by (c ∷ []) x y k l (Err e) → Asked by (c ∷ cs) x y k l (Err e)
asked_err by c cs x y k l e p = record { more = p.more; adds = p.adds; asks = asks_err by c cs p.more e p.asks }

-- ---- within the clients

-- however it goes on with those that are left, all of them are asked so
pub record AsksOn (by : Asker) (names rest : List (List ℕ)) (x y : List Turn) (k l : Option TakerTold) : Type 0 where
  pub whole : (z : List Turn) (m : Option TakerTold) (end : Result ⊤ NodeFault) → Asked by rest y z l m end → Asked by names x z k m end

pub asks_from : (by : Asker) (names : List (List ℕ)) (x : List Turn) (k : Option TakerTold) → AsksOn by names names x x k k
asks_from by names x k = record { whole = λ z m end q. q }

at_name : (by : Asker) (names : List (List ℕ)) (i : ℕ) (c : List ℕ) (x y : List Turn) (k l : Option TakerTold) → i < length names → c ≡ get_or names i c
    → AsksOn by names (drop i names) x y k l → AsksOn by names (c ∷ drop (i + 1) names) x y k l
at_name by names i c x y k l h e g = subst (λ (rest : List (List ℕ)). AsksOn by names rest x y k l) (next_item names i c h e) g

as_asker : (c : List ℕ) (link link' now now' : ℕ) (y z : List Turn) (l m : Option TakerTold) (end : Result ⊤ NodeFault) → link ≡ link' → now ≡ now'
    → Asked (record { link = link; now = now }) (c ∷ []) y z l m end → Asked (record { link = link'; now = now' }) (c ∷ []) y z l m end
as_asker c link link' now now' y z l m end e f p = subst (λ (by : Asker). Asked by (c ∷ []) y z l m end) (same_asker link link' now now' e f) p

pub asks_next : (link link' now now' : ℕ) (names : List (List ℕ)) (i : ℕ) (c : List ℕ) (x y z : List Turn) (k l m : Option TakerTold) (u : ⊤)
    → i < length names → c ≡ get_or names i c → link ≡ link' → now ≡ now'
    → AsksOn (record { link = link'; now = now' }) names (drop i names) x y k l
    → Asked (record { link = link; now = now }) (c ∷ []) y z l m (Ok u)
    → AsksOn (record { link = link'; now = now' }) names (drop (i + 1) names) x z k m
asks_next link link' now now' names i c x y z k l m u h is e f g p =
    let by : Asker = record { link = link'; now = now' } in
    let at = at_name by names i c x y k l h is g in
    record { whole = λ w o end q. at.whole w o end (asked_on by c (drop (i + 1) names) y z w l m o u end (as_asker c link link' now now' y z l m (Ok u) e f p) q) }

pub asks_no_further : (link link' now now' : ℕ) (names : List (List ℕ)) (i : ℕ) (c : List ℕ) (x y z : List Turn) (k l m : Option TakerTold) (fault : NodeFault)
    → i < length names → c ≡ get_or names i c → link ≡ link' → now ≡ now'
    → AsksOn (record { link = link'; now = now' }) names (drop i names) x y k l
    → Asked (record { link = link; now = now }) (c ∷ []) y z l m (Err fault)
    → Asked (record { link = link'; now = now' }) names x z k m (Err fault)
asks_no_further link link' now now' names i c x y z k l m fault h is e f g p =
    let by : Asker = record { link = link'; now = now' } in
    (at_name by names i c x y k l h is g).whole z m (Err fault)
    (asked_err by c (drop (i + 1) names) y z l m fault (as_asker c link link' now now' y z l m (Err fault) e f p))

pub asks_to_the_end : (by : Asker) (names : List (List ℕ)) (i : ℕ) (x y : List Turn) (k l : Option TakerTold) (u : ⊤) → length names ≤ i
    → AsksOn by names (drop i names) x y k l → Asked by names x y k l (Ok u)
asks_to_the_end by names i x y k l u h g =
    g.whole y l (Ok u) (subst (λ (rest : List (List ℕ)). Asked by rest y y l l (Ok u)) (sym (drop_all i names h)) (asked_none by y l u))

-- ---- the clients of rules

pub listed_by : (rules : Rules) (by : Asker) (names slice : List (List ℕ)) (x y : List Turn) (k l : Option TakerTold) (end : Result ⊤ NodeFault)
    → AreNamesInOrder rules.clients names → slice ≡ names → Asked by slice x y k l end → Listed rules by x y k l end
listed_by rules by names slice x y k l end ordered same p = record {
  more = p.more;
  adds = p.adds;
  lists = inr (names, ordered, subst (λ (ns : List (List ℕ)). AreAsked by ns p.more end) same p.asks);
}
