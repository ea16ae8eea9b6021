-- The links of rounds, one part after another.
use Rattle.std.proofs.Common.{◌≡◌, ◌∙◌, ap, sym, subst, refl, List, [], ◌∷◌, ◌++◌, append_assoc, append-nil, Option, Some, None, IsSomeAnd}
use Rattle.std.specs.Option.{option_to_list}
use Rattle.sig_links.specs.Told.{LinkPlan, Sent}
use Rattle.sig_outside.specs.declared.place.Place.{Place}
use Rattle.sig_dial.specs.Asked as dialled
use Rattle.sig_rxnode.specs.declared.rules.Peer.{Peer}
use Rattle.sig_fetch.specs.Asks.{place_of, poll_text}
use Rattle.sig_fetch.specs.Rounds.{AreHeard, AreSent, HearsAll, IsPolled, Round, SendsAll}

-- ---- none

pub sends_none : (peer : Peer) (old : Option (List Sent)) → SendsAll peer [] old old
sends_none peer None = refl
sends_none peer (Some old) = ([], ap Some (sym (append-nil old)), refl)

pub hears_none : (old : Option (List LinkPlan)) → HearsAll [] old old
hears_none None = refl
hears_none (Some old) = ([], old, refl, refl, refl)

-- ---- one

polled : (peer : Peer) (r : Round) (place : Place) → place_of peer ≡ Some place → (link : Option Sent) → dialled.IsSent place (poll_text peer r.ask) r.answer link → IsPolled peer r link
polled peer r place leads link is = subst (λ (o : Option Place). IsSomeAnd o (λ (p : Place). dialled.IsSent p (poll_text peer r.ask) r.answer link)) (sym leads) is

pub sends_one : (peer : Peer) (r : Round) (place : Place) → place_of peer ≡ Some place → (old new : Option (List Sent)) → dialled.Sends place (poll_text peer r.ask) old new r.answer → SendsAll peer (r ∷ []) old new
sends_one peer r place leads None new s = s
sends_one peer r place leads (Some old) new s =
    (option_to_list s.0, s.1, (s.0, [], sym (append-nil (option_to_list s.0)), polled peer r place leads s.0 s.2, refl))

pub hears_one : (r : Round) (old new : Option (List LinkPlan)) → dialled.Hears old new r.answer → HearsAll (r ∷ []) old new
hears_one r None new h = h
hears_one r (Some old) new h = (option_to_list h.0, h.1, h.2, h.3, (h.0, [], sym (append-nil (option_to_list h.0)), h.4, refl))

-- ---- in two parts

are_sent_on : (peer : Peer) (xs ys : List Round) (ls ms : List Sent) → AreSent peer xs ls → AreSent peer ys ms → AreSent peer (xs ++ ys) (ls ++ ms)
are_sent_on peer [] ys ls ms s q = subst (λ (l : List Sent). AreSent peer ys (l ++ ms)) (sym s) q
are_sent_on peer (r ∷ xs) ys ls ms s q =
    (s.0, s.1 ++ ms, ap (λ (l : List Sent). l ++ ms) s.2 ∙ append_assoc (option_to_list s.0) s.1 ms, s.3, are_sent_on peer xs ys s.1 ms s.4 q)

pub sends_on : (peer : Peer) (xs ys : List Round) (a b c : Option (List Sent)) → SendsAll peer xs a b → SendsAll peer ys b c → SendsAll peer (xs ++ ys) a c
sends_on peer xs ys None b c p q = subst (λ (o : Option (List Sent)). SendsAll peer ys o c) p q
sends_on peer xs ys (Some old) b c p q =
    let s = subst (λ (o : Option (List Sent)). SendsAll peer ys o c) p.1 q in
    (p.0 ++ s.0, s.1 ∙ ap Some (append_assoc old p.0 s.0), are_sent_on peer xs ys p.0 s.0 p.2 s.2)

are_heard_on : (xs ys : List Round) (ls ms : List LinkPlan) → AreHeard xs ls → AreHeard ys ms → AreHeard (xs ++ ys) (ls ++ ms)
are_heard_on [] ys ls ms s q = subst (λ (l : List LinkPlan). AreHeard ys (l ++ ms)) (sym s) q
are_heard_on (r ∷ xs) ys ls ms s q =
    (s.0, s.1 ++ ms, ap (λ (l : List LinkPlan). l ++ ms) s.2 ∙ append_assoc (option_to_list s.0) s.1 ms, s.3, are_heard_on xs ys s.1 ms s.4 q)

pub hears_on : (xs ys : List Round) (a b c : Option (List LinkPlan)) → HearsAll xs a b → HearsAll ys b c → HearsAll (xs ++ ys) a c
hears_on xs ys None b c p q = subst (λ (o : Option (List LinkPlan)). HearsAll ys o c) p q
hears_on xs ys (Some old) b c p q =
    let s = subst (λ (o : Option (List LinkPlan)). HearsAll ys o c) p.3 q in
    (p.0 ++ s.0, s.1, p.2 ∙ ap (λ (l : List LinkPlan). p.0 ++ l) s.2 ∙ sym (append_assoc p.0 s.0 s.1), s.3, are_heard_on xs ys p.0 s.0 p.4 s.4)
