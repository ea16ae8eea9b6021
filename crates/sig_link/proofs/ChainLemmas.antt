-- One exchange more after others.
use Rattle.std.proofs.Common.{◌≡◌, ℕ, ◌+◌, false, List, [], ◌∷◌, ◌++◌, length, Option, Some, None, refl, sym, ap, subst, ◌∙◌, arith, append_assoc, append-nil}
use Rattle.std.proofs.KnownBytes.{Appends-trans, Appends-nil}
use Rattle.sig_http.specs.Message.{DecidesRequest, Whole}
use Rattle.sig_links.specs.Views.{SideView}
use Rattle.sig_serving.specs.Line.{Line, Says}
use Rattle.sig_link.specs.Course.{Adds}
use Rattle.sig_link.specs.Exchange.{AreMade, AreRead, Exchange, IsRead, MakesTurns, StandIn, text_in, texts_from, turns_in, turns_of}
use Rattle.sig_link.specs.Meaning.{Grows, Meaning}
use Rattle.sig_link.specs.Moment.{Moment, unread}
use Rattle.sig_link.specs.Serving.{Answered, Exchanges}

module _ {Turn : Type 0} where
  turns_more : (es : List (Exchange Turn)) (e : Exchange Turn) → turns_of (es ++ e ∷ []) ≡ turns_of es ++ turns_in e
  turns_more [] e = append-nil (turns_in e)
  turns_more (x ∷ es) e = ap (λ ts. turns_in x ++ ts) (turns_more es e) ∙ sym (append_assoc (turns_in x) (turns_of es) (turns_in e))

  stand_more : (bytes more rest : List ℕ) (es : List (Exchange Turn)) (e : Exchange Turn) → StandIn bytes es more → DecidesRequest more (Whole e.request rest)
      → StandIn bytes (es ++ e ∷ []) rest
  stand_more bytes more rest [] e h k = (rest, subst (λ b. DecidesRequest b (Whole e.request rest)) h k, refl)
  stand_more bytes more rest (x ∷ es) e h k = (h.0, h.1, stand_more h.0 more rest es e h.2 k)

  read_more : (a b c : Option (List ℕ)) (es : List (Exchange Turn)) (e : Exchange Turn) → AreRead a es b → IsRead b e.request c → AreRead a (es ++ e ∷ []) c
  read_more None b c es e h k = tt
  read_more (Some x) None c es e h k = absurd h
  read_more (Some x) (Some y) None es e h k = absurd k
  read_more (Some x) (Some y) (Some z) es e h k = stand_more x y z es e h k

read_none : (Turn : Type 0) (a : Option (List ℕ)) → AreRead {Turn = Turn} a [] a
read_none Turn None = tt
read_none Turn (Some bytes) = refl

says_more : (first second : List ℕ) (a b c : Line) → Says first a b → Says second b c → Says (first ++ second) a c
says_more first second a b c h k = record {
  whole = Appends-trans a.written b.written c.written first second h.whole k.whole;
  writes = k.writes ∙ h.writes;
}

module _ {Rules Call Turn Told : Type 0} (m : Meaning Rules Call Turn Told) where
  adds_none : Grows m.Grew → (turns : List Turn) (told : Told) → Adds m [] turns turns told told
  adds_none grows turns told = record { log = sym (append-nil turns); taker = grows.none told }

  adds_on : Grows m.Grew → (xs ys a b c : List Turn) (k l n : Told) → Adds m xs a b k l → Adds m ys b c l n → Adds m (xs ++ ys) a c k n
  adds_on grows xs ys a b c k l n p q = record {
    log = q.log ∙ ap (λ (ts : List Turn). ts ++ ys) p.log ∙ append_assoc a xs ys;
    taker = grows.on k l n xs ys p.taker q.taker;
  }

  module _ (rules : Rules) where
    texts_more : (before n : ℕ) (es : List (Exchange Turn)) (e : Exchange Turn) → n ≡ before + length es
        → texts_from before (es ++ e ∷ []) ≡ texts_from before es ++ text_in n e
    texts_more before n [] e h =
        let same : before ≡ n = omega arith in
        append-nil (text_in before e) ∙ ap (λ k. text_in k e) same
    texts_more before n (x ∷ es) e h =
        let later : n ≡ before + 1 + length es = omega arith in
        ap (λ t. text_in before x ++ t) (texts_more (before + 1) n es e later)
        ∙ sym (append_assoc (text_in before x) (texts_from (before + 1) es) (text_in n e))

    module _ (link : ℕ) where
      made_more : (a b c : SideView) (es : List (Exchange Turn)) (e : Exchange Turn) → AreMade m rules link a es b → MakesTurns m rules link e false b c
          → AreMade m rules link a (es ++ e ∷ []) c
      made_more a b c [] e h k = (c, subst (λ (v : SideView). MakesTurns m rules link e false v c) h k, refl)
      made_more a b c (x ∷ es) e h k = (h.0, h.1, made_more h.0 b c es e h.2 k)

      -- no exchange yet
      pub exchanges_none : Grows m.Grew → (now : Moment Turn Told) → Exchanges m rules link [] now now
      exchanges_none grows now = record {
        read = read_none Turn (unread now);
        makes = refl;
        adds = adds_none grows now.desk.turns now.desk.told;
        says = record { whole = Appends-nil now.line.written; writes = refl };
        reads = refl;
      }

      -- and one more
      pub exchanges_more : Grows m.Grew → (es : List (Exchange Turn)) (e : Exchange Turn) (a b c : Moment Turn Told) → Exchanges m rules link es a b
          → Answered m rules link (length es) e false b c → Exchanges m rules link (es ++ e ∷ []) a c
      exchanges_more grows es e a b c h k =
          let turns : turns_of (es ++ e ∷ []) ≡ turns_of es ++ turns_in e = turns_more es e in
          let texts : texts_from 0 (es ++ e ∷ []) ≡ texts_from 0 es ++ text_in (length es) e = texts_more 0 (length es) es e (omega arith) in
          record {
            read = read_more (unread a) (unread b) (unread c) es e h.read k.read;
            makes = made_more a.desk.side b.desk.side c.desk.side es e h.makes k.handles.makes;
            adds = subst (λ (ts : List Turn). Adds m ts a.desk.turns c.desk.turns a.desk.told c.desk.told) (sym turns)
                (adds_on grows (turns_of es) (turns_in e) a.desk.turns b.desk.turns c.desk.turns a.desk.told b.desk.told c.desk.told h.adds k.handles.adds);
            says = subst (λ t. Says t a.line c.line) (sym texts) (says_more (texts_from 0 es) (text_in (length es) e) a.line b.line c.line h.says k.says);
            reads = k.reads ∙ h.reads;
          }
