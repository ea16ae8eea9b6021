-- Rounds of several streams: the first one's, and the others'.
use Rattle.std.proofs.Common.{inl, inr, ◌≡◌, ◌+◌, ◌<◌, ◌≤◌, ℕ, suc, Bool, true, false, List, [], ◌∷◌, ◌++◌, length, get_or, drop, Option, Result, refl, sym, ap, ◌∙◌, subst, add-one, append-nil, drop-cons}
use Rattle.std.specs.Prelude.{⊤}
use Rattle.std.proofs.lemmas.List.{drop_all}
use Rattle.sig_links.specs.Views.{SideView}
use Rattle.sig_push.specs.declared.fault.PushFault.{PushFault}
use Rattle.sig_terms.specs.declared.rules.Rules.{Rules}
use Rattle.sig_txnode.specs.Told.{TakerTold}
use Rattle.sig_txnode.specs.declared.turn.Turn.{Turn}
use Rattle.sig_round.specs.Rounds.{AllRounded, AreRounds, Attempted, PassedOrAttempted, PassedOver, NextUnless, Rounded, is_starved}
use Rattle.sig_round.specs.Turns.{Asker}
use Rattle.sig_round.proofs.Grown.{adds_none, adds_on}

-- a round of one stream after which the others' follow, and theirs
next_follows : (b : Bool) (others ended : Type 0) → false ≡ b → others → NextUnless b others ended
next_follows b others ended is h = rw (sym is) h

next_ended : (b : Bool) (others ended : Type 0) → true ≡ b → ended → NextUnless b others ended
next_ended b others ended is h = rw (sym is) h

pub rounded_on : (passes : List ℕ → Type 0) (rules : Rules) (by : Asker) (s : List ℕ) (streams : List (List ℕ)) (a b c : SideView) (x y z : List Turn) (k l m : Option TakerTold) (starved : Bool)
    → Attempted rules by s a b x y k l false → AllRounded passes rules by streams b c y z l m starved → AllRounded passes rules by (s ∷ streams) a c x z k m starved
rounded_on passes rules by s streams a b c x y z k l m starved p q = record {
  more = p.rounded.more ++ q.more;
  adds = adds_on p.rounded.more q.more x y z k l m p.rounded.adds q.adds;
  rounds = inr (
    b,
    p.one,
    p.rounded.more,
    q.more,
    refl,
    p.rounded.round,
    next_follows (is_starved p.one) (AreRounds passes rules by streams b c q.more starved) _ p.outcome q.rounds,
  );
}

-- a round of one stream in which memory ran out
pub rounded_out : (passes : List ℕ → Type 0) (rules : Rules) (by : Asker) (s : List ℕ) (streams : List (List ℕ)) (a b : SideView) (x y : List Turn) (k l : Option TakerTold)
    → Attempted rules by s a b x y k l true → AllRounded passes rules by (s ∷ streams) a b x y k l true
rounded_out passes rules by s streams a b x y k l p = record {
  more = p.rounded.more;
  adds = p.rounded.adds;
  rounds = inr (
    b,
    p.one,
    p.rounded.more,
    [],
    sym (append-nil p.rounded.more),
    p.rounded.round,
    next_ended (is_starved p.one) (AreRounds passes rules by streams b b [] true) _ p.outcome (refl, refl, refl),
  );
}

-- a stream that is passed over, and the rounds of the others
pub passed_on : (passes : List ℕ → Type 0) (rules : Rules) (by : Asker) (s : List ℕ) (streams : List (List ℕ)) (a b c : SideView) (x y z : List Turn) (k l m : Option TakerTold) (starved : Bool)
    → PassedOver (passes s) a b x y k l false → AllRounded passes rules by streams b c y z l m starved → AllRounded passes rules by (s ∷ streams) a c x z k m starved
passed_on passes rules by s streams a b c x y z k l m starved p q =
    let same : AllRounded passes rules by streams a c x z k m starved =
    subst (λ (v : SideView). AllRounded passes rules by streams v c x z k m starved) p.side
    (subst (λ (t : List Turn). AllRounded passes rules by streams b c t z k m starved) p.log
    (subst (λ (t : Option TakerTold). AllRounded passes rules by streams b c y z t m starved) p.taker q)) in
    record { more = same.more; adds = same.adds; rounds = inl (p.may, same.rounds) }

pub either_on : (passes : List ℕ → Type 0) (rules : Rules) (by : Asker) (s : List ℕ) (streams : List (List ℕ)) (a b c : SideView) (x y z : List Turn) (k l m : Option TakerTold) (starved : Bool)
    → PassedOrAttempted passes rules by s a b x y k l false → AllRounded passes rules by streams b c y z l m starved → AllRounded passes rules by (s ∷ streams) a c x z k m starved
either_on passes rules by s streams a b c x y z k l m starved (inl p) q = passed_on passes rules by s streams a b c x y z k l m starved p q
either_on passes rules by s streams a b c x y z k l m starved (inr p) q = rounded_on passes rules by s streams a b c x y z k l m starved p q

either_out : (passes : List ℕ → Type 0) (rules : Rules) (by : Asker) (s : List ℕ) (streams : List (List ℕ)) (a b : SideView) (x y : List Turn) (k l : Option TakerTold)
    → PassedOrAttempted passes rules by s a b x y k l true → AllRounded passes rules by (s ∷ streams) a b x y k l true
either_out passes rules by s streams a b x y k l (inl p) = absurd (cc p.fed)
either_out passes rules by s streams a b x y k l (inr p) = rounded_out passes rules by s streams a b x y k l p

pub rounded_none : (passes : List ℕ → Type 0) (rules : Rules) (by : Asker) (view : SideView) (x : List Turn) (k : Option TakerTold) → AllRounded passes rules by [] view view x x k k false
rounded_none passes rules by view x k = record { more = []; adds = adds_none x k; rounds = (refl, refl, refl) }

-- however rounds go on with the streams that are left, they are rounds of all of them
pub record RoundsGoOn (passes : List ℕ → Type 0) (rules : Rules) (by : Asker) (streams rest : List (List ℕ)) (before now : SideView) (turns turns' : List Turn) (told told' : Option TakerTold) : Type 0 where
  pub whole : (after : SideView) (turns'' : List Turn) (told'' : Option TakerTold) (starved : Bool)
      → AllRounded passes rules by rest now after turns' turns'' told' told'' starved → AllRounded passes rules by streams before after turns turns'' told told'' starved

-- the same link at the same time
same_asker : (link link' now now' : ℕ) → link ≡ link' → now ≡ now' → ◌≡◌ {A = Asker} (record { link = link; now = now }) (record { link = link'; now = now' })
same_asker link link' now now' e f = λ k. record { link = e k; now = f k }

next_stream : (streams : List (List ℕ)) (i : ℕ) (s : List ℕ) → i < length streams → s ≡ get_or streams i s → drop i streams ≡ s ∷ drop (i + 1) streams
next_stream streams i s h e = drop-cons streams i s h ∙ ap (λ (q : List ℕ). q ∷ drop (suc i) streams) (sym e) ∙ ap (λ n. s ∷ drop n streams) (sym (add-one i))

at_stream : (passes : List ℕ → Type 0) (rules : Rules) (by : Asker) (streams : List (List ℕ)) (i : ℕ) (s : List ℕ) (before now : SideView) (x y : List Turn) (k l : Option TakerTold)
    → i < length streams → s ≡ get_or streams i s → RoundsGoOn passes rules by streams (drop i streams) before now x y k l → RoundsGoOn passes rules by streams (s ∷ drop (i + 1) streams) before now x y k l
at_stream passes rules by streams i s before now x y k l h e g = subst (λ (rest : List (List ℕ)). RoundsGoOn passes rules by streams rest before now x y k l) (next_stream streams i s h e) g

as_asker : (passes : List ℕ → Type 0) (rules : Rules) (s : List ℕ) (link link' time time' : ℕ) (now next : SideView) (y z : List Turn) (l m : Option TakerTold) (starved : Bool)
    → link ≡ link' → time ≡ time' → PassedOrAttempted passes rules (record { link = link; now = time }) s now next y z l m starved → PassedOrAttempted passes rules (record { link = link'; now = time' }) s now next y z l m starved
as_asker passes rules s link link' time time' now next y z l m starved e f d =
    subst (λ (by : Asker). PassedOrAttempted passes rules by s now next y z l m starved) (same_asker link link' time time' e f) d

-- after a stream's round
pub next_round : (passes : List ℕ → Type 0) (rules : Rules) (link link' time time' : ℕ) (streams : List (List ℕ)) (i : ℕ) (s : List ℕ) (before now next : SideView) (x y z : List Turn) (k l m : Option TakerTold)
    → i < length streams → s ≡ get_or streams i s → link ≡ link' → time ≡ time'
    → RoundsGoOn passes rules (record { link = link'; now = time' }) streams (drop i streams) before now x y k l
    → PassedOrAttempted passes rules (record { link = link; now = time }) s now next y z l m false
    → RoundsGoOn passes rules (record { link = link'; now = time' }) streams (drop (i + 1) streams) before next x z k m
next_round passes rules link link' time time' streams i s before now next x y z k l m h is e f g d =
    let by : Asker = record { link = link'; now = time' } in
    let at = at_stream passes rules by streams i s before now x y k l h is g in
    record {
      whole = λ after turns'' told'' starved more. at.whole after turns'' told'' starved
          (either_on passes rules by s (drop (i + 1) streams) now next after y z turns'' l m told'' starved (as_asker passes rules s link link' time time' now next y z l m false e f d) more);
    }

-- at a stream's round in which memory ran out
pub no_more_rounds : (passes : List ℕ → Type 0) (rules : Rules) (link link' time time' : ℕ) (streams : List (List ℕ)) (i : ℕ) (s : List ℕ) (before now after : SideView) (x y z : List Turn) (k l m : Option TakerTold)
    → i < length streams → s ≡ get_or streams i s → link ≡ link' → time ≡ time'
    → RoundsGoOn passes rules (record { link = link'; now = time' }) streams (drop i streams) before now x y k l
    → PassedOrAttempted passes rules (record { link = link; now = time }) s now after y z l m true
    → AllRounded passes rules (record { link = link'; now = time' }) streams before after x z k m true
no_more_rounds passes rules link link' time time' streams i s before now after x y z k l m h is e f g d =
    let by : Asker = record { link = link'; now = time' } in
    (at_stream passes rules by streams i s before now x y k l h is g).whole after z m true
    (either_out passes rules by s (drop (i + 1) streams) now after y z l m (as_asker passes rules s link link' time time' now after y z l m true e f d))

-- after the last stream
pub last_round : (passes : List ℕ → Type 0) (rules : Rules) (by : Asker) (streams : List (List ℕ)) (i : ℕ) (before now : SideView) (x y : List Turn) (k l : Option TakerTold)
    → length streams ≤ i → RoundsGoOn passes rules by streams (drop i streams) before now x y k l → AllRounded passes rules by streams before now x y k l false
last_round passes rules by streams i before now x y k l h g =
    g.whole now y l false (subst (λ (rest : List (List ℕ)). AllRounded passes rules by rest now now y y l l false) (sym (drop_all i streams h)) (rounded_none passes rules by now y l))

-- a round of one stream, before which the side was told that it begins
pub attempted_from : (rules : Rules) (by : Asker) (s : List ℕ) (a between b : SideView) (x y : List Turn) (k l : Option TakerTold) (one : Result ⊤ PushFault) (starved : Bool) → between ≡ a
    → Rounded rules by s between b x y k l one → starved ≡ is_starved one → Attempted rules by s a b x y k l starved
attempted_from rules by s a between b x y k l one starved same rounded outcome = record {
  one = one;
  rounded = subst (λ (v : SideView). Rounded rules by s v b x y k l one) same rounded;
  outcome = outcome;
}
