-- The links of requests, one part after another.
use Rattle.std.proofs.Common.{◌≡◌, ◌∙◌, ap, sym, subst, refl, List, [], ◌∷◌, ◌++◌, append_assoc, append-nil, Option, Some, None, IsSomeAnd}
use Rattle.std.specs.Option.{option_to_list}
use Rattle.sig_links.specs.Told.{LinkPlan, Sent}
use Rattle.sig_outside.specs.declared.place.Place.{Place}
use Rattle.sig_dial.specs.Asked as dialled
use Rattle.sig_declared.specs.declared.provider.Provider.{Provider}
use Rattle.sig_managing.specs.Asks.{place_of, request_text}
use Rattle.sig_managing.specs.Exchanges.{AreHeard, AreSent, Exchange, HearsAll, IsAsked, SendsAll}

-- ---- none

pub sends_none : (provider : Provider) (old : Option (List Sent)) → SendsAll provider [] old old
sends_none provider None = refl
sends_none provider (Some old) = ([], ap Some (sym (append-nil old)), refl)

pub hears_none : (old : Option (List LinkPlan)) → HearsAll [] old old
hears_none None = refl
hears_none (Some old) = ([], old, refl, refl, refl)

-- ---- one

asked : (provider : Provider) (e : Exchange) (place : Place) → place_of provider ≡ Some place → (link : Option Sent)
    → dialled.IsSent place (request_text provider e.request) e.answer link → IsAsked provider e link
asked provider e place leads link is =
    subst (λ (o : Option Place). IsSomeAnd o (λ (p : Place). dialled.IsSent p (request_text provider e.request) e.answer link)) (sym leads) is

pub sends_one : (provider : Provider) (e : Exchange) (place : Place) → place_of provider ≡ Some place → (old new : Option (List Sent))
    → dialled.Sends place (request_text provider e.request) old new e.answer → SendsAll provider (e ∷ []) old new
sends_one provider e place leads None new s = s
sends_one provider e place leads (Some old) new s =
    (option_to_list s.0, s.1, (s.0, [], sym (append-nil (option_to_list s.0)), asked provider e place leads s.0 s.2, refl))

pub hears_one : (e : Exchange) (old new : Option (List LinkPlan)) → dialled.Hears old new e.answer → HearsAll (e ∷ []) old new
hears_one e None new h = h
hears_one e (Some old) new h = (option_to_list h.0, h.1, h.2, h.3, (h.0, [], sym (append-nil (option_to_list h.0)), h.4, refl))

-- ---- in two parts

are_sent_on : (provider : Provider) (xs ys : List Exchange) (ls ms : List Sent) → AreSent provider xs ls → AreSent provider ys ms
    → AreSent provider (xs ++ ys) (ls ++ ms)
are_sent_on provider [] ys ls ms s q = subst (λ (l : List Sent). AreSent provider ys (l ++ ms)) (sym s) q
are_sent_on provider (e ∷ xs) ys ls ms s q =
    (s.0, s.1 ++ ms, ap (λ (l : List Sent). l ++ ms) s.2 ∙ append_assoc (option_to_list s.0) s.1 ms, s.3, are_sent_on provider xs ys s.1 ms s.4 q)

pub sends_on : (provider : Provider) (xs ys : List Exchange) (a b c : Option (List Sent)) → SendsAll provider xs a b → SendsAll provider ys b c
    → SendsAll provider (xs ++ ys) a c
sends_on provider xs ys None b c p q = subst (λ (o : Option (List Sent)). SendsAll provider ys o c) p q
sends_on provider xs ys (Some old) b c p q =
    let s = subst (λ (o : Option (List Sent)). SendsAll provider ys o c) p.1 q in
    (p.0 ++ s.0, s.1 ∙ ap Some (append_assoc old p.0 s.0), are_sent_on provider xs ys p.0 s.0 p.2 s.2)

are_heard_on : (xs ys : List Exchange) (ls ms : List LinkPlan) → AreHeard xs ls → AreHeard ys ms → AreHeard (xs ++ ys) (ls ++ ms)
are_heard_on [] ys ls ms s q = subst (λ (l : List LinkPlan). AreHeard ys (l ++ ms)) (sym s) q
are_heard_on (e ∷ xs) ys ls ms s q =
    (s.0, s.1 ++ ms, ap (λ (l : List LinkPlan). l ++ ms) s.2 ∙ append_assoc (option_to_list s.0) s.1 ms, s.3, are_heard_on xs ys s.1 ms s.4 q)

pub hears_on : (xs ys : List Exchange) (a b c : Option (List LinkPlan)) → HearsAll xs a b → HearsAll ys b c → HearsAll (xs ++ ys) a c
hears_on xs ys None b c p q = subst (λ (o : Option (List LinkPlan)). HearsAll ys o c) p q
hears_on xs ys (Some old) b c p q =
    let s = subst (λ (o : Option (List LinkPlan)). HearsAll ys o c) p.3 q in
    (p.0 ++ s.0, s.1, p.2 ∙ ap (λ (l : List LinkPlan). p.0 ++ l) s.2 ∙ sym (append_assoc p.0 s.0 s.1), s.3, are_heard_on xs ys p.0 s.0 p.4 s.4)
