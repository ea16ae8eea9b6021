-- Tokens that an attempt brings, one after another.
use Rattle.std.proofs.Common.{◌≡◌, ◌⊎◌, ◌∙◌, sym, ap, subst, refl, ℕ, ◌+◌, ◌<◌, ◌≤◌, true, List, [], ◌∷◌, ◌++◌, length, get_or, drop, Option, Result, Ok, Err, is_ok, IsOk, inl, inr}
use Rattle.std.specs.Prelude.{⊤}
use Rattle.std.proofs.lemmas.List.{drop_all}
use Rattle.std.proofs.lemmas.List.Elements.{All-cons, All-nil}
use Rattle.sig_journal.specs.declared.node_fault.NodeFault.{NodeFault}
use Rattle.sig_links.specs.Views.{SideView}
use Rattle.sig_push.specs.declared.fault.PushFault.{PushFault}
use Rattle.sig_push.specs.declared.fault.PushFault.TheVariants.{NoEndpoint, NoGateway, Dial, Link, NoResponse, Memory}
use Rattle.sig_terms.specs.declared.answer.Answer.{Answer}
use Rattle.sig_terms.specs.declared.call.Outcome.{Outcome}
use Rattle.sig_terms.specs.declared.rules.Rules.{Rules}
use Rattle.sig_terms.specs.declared.token.Token.{Token}
use Rattle.sig_txnode.specs.Told.{TakerTold}
use Rattle.sig_txnode.specs.declared.turn.Turn.{Turn}
use Rattle.sig_round.specs.Delivered.{Delivered, Settles}
use Rattle.sig_round.specs.Turns.{Asker}
use Rattle.sig_round.proofs.Grown.{adds_none, adds_on}
use Rattle.sig_round.proofs.MorePushes.{delivers_none, delivers_on}
use Rattle.sig_tick.specs.Bringing.{AreAnswered, Brought, Stops, end_by}
use Rattle.sig_tick.specs.Listing.{ended}
use Rattle.sig_tick.proofs.AskLemmas.{ok_no_err}
use Rattle.sig_tick.proofs.Collecting.{next_item, same_asker}

ok_no_push : (u : ⊤) (e : PushFault) (p : ◌≡◌ {A = Result ⊤ PushFault} (Ok u) (Err e)) → ⊥
ok_no_push u e p = cc

-- ---- the turn of one token

-- a round of one token that ended well made one turn
record OneTurn (turns : List Turn) : Type 0 where
  turn : Turn
  is : turns ≡ turn ∷ []

one_turn : (rules : Rules) (by : Asker) (t : Token) (results : List (Result Outcome PushFault)) (turns : List Turn) (u : ⊤) → Settles rules by (t ∷ []) results turns (Ok u) → OneTurn turns
one_turn rules by t [] turns u s = absurd (ok_no_push u Memory s.1)
one_turn rules by t (Err f ∷ rs) turns u s = absurd (ok_no_push u f s.3)
one_turn rules by t (Ok o ∷ rs) [] u s = absurd (ok_no_push u Memory s.2)
one_turn rules by t (Ok o ∷ rs) (turn ∷ turns) u s = record { turn = turn; is = ap (λ (l : List Turn). turn ∷ l) s.2.1 }

-- it was answered, or refused
answered_last : (r : Result Answer NodeFault) (u : ⊤) → ◌≡◌ {A = Result ⊤ NodeFault} (Ok u) (ended r) → is_ok r ≡ true
answered_last (Ok a) u h = refl
answered_last (Err f) u h = absurd (ok_no_err u f h)

refused_last : (r : Result Answer NodeFault) (f : NodeFault) → ◌≡◌ {A = Result ⊤ NodeFault} (Err f) (ended r) → r ≡ Err f
refused_last (Ok a) f h = absurd (ok_no_err tt f (sym h))
refused_last (Err g) f h = cc

-- ---- the end

stops_on : (turn : Turn) (first more : List Turn) (pushed : Result ⊤ PushFault) (left : List Token) (end : Result ⊤ NodeFault)
    → first ≡ turn ∷ [] → is_ok turn.result ≡ true → Stops pushed left more end → Stops pushed left (first ++ more) end
stops_on turn first more pushed left end is answered s = subst (λ (l : List Turn). Stops pushed left (l ++ more) end) (sym is) (by_end pushed end s)
  where
    by_end : (p : Result ⊤ PushFault) (e : Result ⊤ NodeFault) → Stops p left more e → Stops p left (turn ∷ more) e
    by_end (Ok u) (Ok v) s = (s.0, All-cons (λ (t : Turn). is_ok t.result ≡ true) turn more answered s.1)
    by_end (Ok u) (Err f) s = record {
      earlier = turn ∷ s.earlier;
      last = s.last;
      parts = ap (λ (l : List Turn). turn ∷ l) s.parts;
      answered = All-cons (λ (t : Turn). is_ok t.result ≡ true) turn s.earlier answered s.answered;
      refused = s.refused;
    }
    by_end (Err f) e s = (s.0, λ ok. All-cons (λ (t : Turn). is_ok t.result ≡ true) turn more answered (s.1 ok))

by_end : (e : PushFault) → IsOk {T = ⊤} {E = PushFault} (Err e) ⊎ ◌≡◌ {A = Result ⊤ PushFault} (Err e) (Err Memory) → IsOk (end_by e) → ⊥
by_end e (inl o) ok = cc
by_end NoEndpoint (inr p) ok = cc
by_end NoGateway (inr p) ok = cc
by_end Dial (inr p) ok = cc
by_end Link (inr p) ok = cc
by_end NoResponse (inr p) ok = cc
by_end Memory (inr p) ok = cc

none_refused : (rules : Rules) (by : Asker) (t : Token) (results : List (Result Outcome PushFault)) (turns : List Turn) (e : PushFault)
    → Settles rules by (t ∷ []) results turns (Err e) → IsOk (end_by e) → AreAnswered turns
none_refused rules by t [] turns e s ok = rw s.0 (All-nil (λ (t : Turn). is_ok t.result ≡ true))
none_refused rules by t (Err f ∷ rs) turns e s ok = rw s.2 (All-nil (λ (t : Turn). is_ok t.result ≡ true))
none_refused rules by t (Ok o ∷ rs) [] e s ok = All-nil (λ (t : Turn). is_ok t.result ≡ true)
none_refused rules by t (Ok o ∷ rs) (turn ∷ turns) e s ok = absurd (by_end e s.2.2 ok)

-- ---- a token before others

brought_none : (rules : Rules) (by : Asker) (view : SideView) (x : List Turn) (k : Option TakerTold) (u : ⊤) → Brought rules by [] view view x x k k (Ok u)
brought_none rules by view x k u = record {
  more = [];
  adds = adds_none x k;
  brings = record {
    met = [];
    left = [];
    parts = refl;
    pushed = Ok tt;
    delivers = delivers_none rules by view tt;
    stops = (refl, All-nil (λ (t : Turn). is_ok t.result ≡ true));
  };
}

brought_on : (rules : Rules) (by : Asker) (t : Token) (tokens : List Token) (a b c : SideView) (x y z : List Turn) (k l m : Option TakerTold) (u v : ⊤) (end : Result ⊤ NodeFault)
    → Delivered rules by (t ∷ []) a b x y k l (Ok u)
    → ((earlier : List Turn) (turn : Turn) → y ≡ earlier ++ turn ∷ [] → ◌≡◌ {A = Result ⊤ NodeFault} (Ok v) (ended turn.result))
    → Brought rules by tokens b c y z l m end → Brought rules by (t ∷ tokens) a c x z k m end
brought_on rules by t tokens a b c x y z k l m u v end p h q =
    let one = one_turn rules by t p.delivers.results p.more u p.delivers.settles in
    let answered : is_ok one.turn.result ≡ true = answered_last one.turn.result v (h x one.turn (p.adds.log ∙ ap (λ (ts : List Turn). x ++ ts) one.is)) in
    record {
      more = p.more ++ q.more;
      adds = adds_on p.more q.more x y z k l m p.adds q.adds;
      brings = record {
        met = t ∷ q.brings.met;
        left = q.brings.left;
        parts = ap (λ (ts : List Token). t ∷ ts) q.brings.parts;
        pushed = q.brings.pushed;
        delivers = delivers_on rules by t q.brings.met a b c p.more q.more u q.brings.pushed p.delivers q.brings.delivers;
        stops = stops_on one.turn p.more q.more q.brings.pushed q.brings.left end one.is answered q.brings.stops;
      };
    }

brought_refused : (rules : Rules) (by : Asker) (t : Token) (tokens : List Token) (a b : SideView) (x y : List Turn) (k l : Option TakerTold) (u : ⊤) (f : NodeFault)
    → Delivered rules by (t ∷ []) a b x y k l (Ok u)
    → ((earlier : List Turn) (turn : Turn) → y ≡ earlier ++ turn ∷ [] → ◌≡◌ {A = Result ⊤ NodeFault} (Err f) (ended turn.result))
    → Brought rules by (t ∷ tokens) a b x y k l (Err f)
brought_refused rules by t tokens a b x y k l u f p h =
    let one = one_turn rules by t p.delivers.results p.more u p.delivers.settles in
    record {
      more = p.more;
      adds = p.adds;
      brings = record {
        met = t ∷ [];
        left = tokens;
        parts = refl;
        pushed = Ok u;
        delivers = p.delivers;
        stops = record {
          earlier = [];
          last = one.turn;
          parts = one.is;
          answered = All-nil (λ (t : Turn). is_ok t.result ≡ true);
          refused = refused_last one.turn.result f (h x one.turn (p.adds.log ∙ ap (λ (ts : List Turn). x ++ ts) one.is));
        };
      };
    }

brought_stopped : (rules : Rules) (by : Asker) (t : Token) (tokens : List Token) (a b : SideView) (x y : List Turn) (k l : Option TakerTold) (e : PushFault)
    → Delivered rules by (t ∷ []) a b x y k l (Err e) → Brought rules by (t ∷ tokens) a b x y k l (end_by e)
brought_stopped rules by t tokens a b x y k l e p = record {
  more = p.more;
  adds = p.adds;
  brings = record {
    met = t ∷ [];
    left = tokens;
    parts = refl;
    pushed = Err e;
    delivers = p.delivers;
    stops = (refl, none_refused rules by t p.delivers.results p.more e p.delivers.settles);
  };
}

-- ---- within the tokens

-- however it goes on with those that are left, all of them are brought so
pub record BringsOn (rules : Rules) (by : Asker) (tokens rest : List Token) (a b : SideView) (x y : List Turn) (k l : Option TakerTold) : Type 0 where
  pub whole : (c : SideView) (z : List Turn) (m : Option TakerTold) (end : Result ⊤ NodeFault) → Brought rules by rest b c y z l m end → Brought rules by tokens a c x z k m end

pub brings_from : (rules : Rules) (by : Asker) (tokens : List Token) (a : SideView) (x : List Turn) (k : Option TakerTold) → BringsOn rules by tokens tokens a a x x k k
brings_from rules by tokens a x k = record { whole = λ c z m end q. q }

at_token : (rules : Rules) (by : Asker) (tokens : List Token) (i : ℕ) (t : Token) (a b : SideView) (x y : List Turn) (k l : Option TakerTold)
    → i < length tokens → t ≡ get_or tokens i t → BringsOn rules by tokens (drop i tokens) a b x y k l → BringsOn rules by tokens (t ∷ drop (i + 1) tokens) a b x y k l
at_token rules by tokens i t a b x y k l h e g = subst (λ (rest : List Token). BringsOn rules by tokens rest a b x y k l) (next_item tokens i t h e) g

as_asker : (rules : Rules) (t : Token) (link link' time time' : ℕ) (a b : SideView) (y z : List Turn) (l m : Option TakerTold) (end : Result ⊤ PushFault) → link ≡ link' → time ≡ time'
    → Delivered rules (record { link = link; now = time }) (t ∷ []) a b y z l m end → Delivered rules (record { link = link'; now = time' }) (t ∷ []) a b y z l m end
as_asker rules t link link' time time' a b y z l m end e f p = subst (λ (by : Asker). Delivered rules by (t ∷ []) a b y z l m end) (same_asker link link' time time' e f) p

-- what is known within the tokens, and of the next one's push
pub record At (rules : Rules) (link link' time time' : ℕ) (tokens : List Token) (i : ℕ) (t : Token) (a b c : SideView) (x y z : List Turn) (k l m : Option TakerTold) (pushed : Result ⊤ PushFault) : Type 0 where
  pub below : i < length tokens
  pub is : t ≡ get_or tokens i t
  pub link_same : link ≡ link'
  pub time_same : time ≡ time'
  pub on : BringsOn rules (record { link = link'; now = time' }) tokens (drop i tokens) a b x y k l
  pub delivered : Delivered rules (record { link = link; now = time }) (t ∷ []) b c y z l m pushed

pub brings_next : (rules : Rules) (link link' time time' : ℕ) (tokens : List Token) (i : ℕ) (t : Token) (a b c : SideView) (x y z : List Turn) (k l m : Option TakerTold) (u v : ⊤)
    → At rules link link' time time' tokens i t a b c x y z k l m (Ok u)
    → ((earlier : List Turn) (turn : Turn) → z ≡ earlier ++ turn ∷ [] → ◌≡◌ {A = Result ⊤ NodeFault} (Ok v) (ended turn.result))
    → BringsOn rules (record { link = link'; now = time' }) tokens (drop (i + 1) tokens) a c x z k m
brings_next rules link link' time time' tokens i t a b c x y z k l m u v at h =
    let by : Asker = record { link = link'; now = time' } in
    let mine = as_asker rules t link link' time time' b c y z l m (Ok u) at.link_same at.time_same at.delivered in
    record {
      whole = λ d w n end q. (at_token rules by tokens i t a b x y k l at.below at.is at.on).whole d w n end
          (brought_on rules by t (drop (i + 1) tokens) b c d y z w l m n u v end mine h q);
    }

pub brings_refused : (rules : Rules) (link link' time time' : ℕ) (tokens : List Token) (i : ℕ) (t : Token) (a b c : SideView) (x y z : List Turn) (k l m : Option TakerTold) (u : ⊤) (fault : NodeFault)
    → At rules link link' time time' tokens i t a b c x y z k l m (Ok u)
    → ((earlier : List Turn) (turn : Turn) → z ≡ earlier ++ turn ∷ [] → ◌≡◌ {A = Result ⊤ NodeFault} (Err fault) (ended turn.result))
    → Brought rules (record { link = link'; now = time' }) tokens a c x z k m (Err fault)
brings_refused rules link link' time time' tokens i t a b c x y z k l m u fault at h =
    let by : Asker = record { link = link'; now = time' } in
    let mine = as_asker rules t link link' time time' b c y z l m (Ok u) at.link_same at.time_same at.delivered in
    (at_token rules by tokens i t a b x y k l at.below at.is at.on).whole c z m (Err fault) (brought_refused rules by t (drop (i + 1) tokens) b c y z l m u fault mine h)

pub brings_stopped : (rules : Rules) (link link' time time' : ℕ) (tokens : List Token) (i : ℕ) (t : Token) (a b c : SideView) (x y z : List Turn) (k l m : Option TakerTold) (e : PushFault)
    → At rules link link' time time' tokens i t a b c x y z k l m (Err e)
    → Brought rules (record { link = link'; now = time' }) tokens a c x z k m (end_by e)
brings_stopped rules link link' time time' tokens i t a b c x y z k l m e at =
    let by : Asker = record { link = link'; now = time' } in
    let mine = as_asker rules t link link' time time' b c y z l m (Err e) at.link_same at.time_same at.delivered in
    (at_token rules by tokens i t a b x y k l at.below at.is at.on).whole c z m (end_by e) (brought_stopped rules by t (drop (i + 1) tokens) b c y z l m e mine)

pub brings_to_the_end : (rules : Rules) (by : Asker) (tokens : List Token) (i : ℕ) (a b : SideView) (x y : List Turn) (k l : Option TakerTold) (u : ⊤) → length tokens ≤ i
    → BringsOn rules by tokens (drop i tokens) a b x y k l → Brought rules by tokens a b x y k l (Ok u)
brings_to_the_end rules by tokens i a b x y k l u h g =
    g.whole b y l (Ok u) (subst (λ (rest : List Token). Brought rules by rest b b y y l l (Ok u)) (sym (drop_all i tokens h)) (brought_none rules by b y l u))
