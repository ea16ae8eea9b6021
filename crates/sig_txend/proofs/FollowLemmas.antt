-- A turn in the log and at the taker, and the push rounds that follow it, or none.
use Rattle.std.proofs.Common.{◌≡◌, ℕ, Bool, true, false, List, [], ◌∷◌, ◌++◌, Option, Some, None, inl, inr, refl, sym, ap, ◌∙◌, append_assoc, subst}
use Rattle.std.specs.Prelude.{IsSome}
use Rattle.sig_links.specs.Views.{SideView}
use Rattle.sig_round.specs.Rounds.{AllRounded, AreRounds}
use Rattle.sig_round.specs.Turns.{Asker}
use Rattle.sig_round.proofs.Grown.{grew_none}
use Rattle.sig_terms.specs.declared.rules.Rules.{Rules}
use Rattle.sig_txnode.specs.Told.{TakerTold}
use Rattle.sig_txnode.specs.declared.turn.Turn.{Turn}
use Rattle.sig_link.specs.Course.{Continues}
use Rattle.sig_link.specs.declared.course.Course.TheVariants.{Turned}
use Rattle.sig_txend.specs.Following.{AreRoundsOver, streams_in}
use Rattle.sig_txend.specs.Transmitter.{transmitter}

rounds_none : (passes : List ℕ → Type 0) (rules : Rules) (by : Asker) (given : Option (List (List ℕ))) (a : SideView) → None ≡ given → AreRoundsOver passes rules by given a a [] false
rounds_none passes rules by given a is = rw (sym is) (refl, refl, refl)

rounds_out : (passes : List ℕ → Type 0) (rules : Rules) (by : Asker) (given : Option (List (List ℕ))) (a : SideView) → IsSome given → AreRoundsOver passes rules by given a a [] true
rounds_out passes rules by None a some = absurd (cc some)
rounds_out passes rules by (Some streams) a some = inr (refl, refl, refl)

rounds_some : (passes : List ℕ → Type 0) (rules : Rules) (by : Asker) (streams : List (List ℕ)) (given : Option (List (List ℕ))) (a b : SideView) (more : List Turn) (starved : Bool)
    → Some streams ≡ given → AreRounds passes rules by streams a b more starved → AreRoundsOver passes rules by given a b more starved
rounds_some passes rules by streams given a b more starved is h = rw (sym is) (inl h)

module _ (passes : List ℕ → Type 0) (rules : Rules) (turn : Turn) (a : SideView) (x z : List Turn) (k : Option TakerTold) (kept : z ≡ x ++ turn ∷ []) where
  -- its answer names no streams
  pub follows_none : None ≡ streams_in rules turn.result → Continues (transmitter passes) rules (Turned turn) false x z k k a a
  follows_none is = record {
    more = [];
    log = kept;
    taker = grew_none k;
    follows = rounds_none passes rules (record { link = turn.link; now = turn.now }) (streams_in rules turn.result) a is;
  }

  -- or memory ran out before
  pub follows_out : IsSome (streams_in rules turn.result) → Continues (transmitter passes) rules (Turned turn) true x z k k a a
  follows_out some = record {
    more = [];
    log = kept;
    taker = grew_none k;
    follows = rounds_out passes rules (record { link = turn.link; now = turn.now }) (streams_in rules turn.result) a some;
  }

  -- the same where the taker was asked for what is no turn, and tells what it told
  pub follows_none_told : (k' : Option TakerTold) → k' ≡ k → None ≡ streams_in rules turn.result → Continues (transmitter passes) rules (Turned turn) false x z k k' a a
  follows_none_told k' same is = subst (λ (t : Option TakerTold). Continues (transmitter passes) rules (Turned turn) false x z k t a a) (sym same) (follows_none is)

  pub follows_out_told : (k' : Option TakerTold) → k' ≡ k → IsSome (streams_in rules turn.result) → Continues (transmitter passes) rules (Turned turn) true x z k k' a a
  follows_out_told k' same some = subst (λ (t : Option TakerTold). Continues (transmitter passes) rules (Turned turn) true x z k t a a) (sym same) (follows_out some)

  -- or the rounds of these streams follow
  pub follows_rounds : (streams : List (List ℕ)) (b : SideView) (z' : List Turn) (k' : Option TakerTold) (starved : Bool)
      → Some streams ≡ streams_in rules turn.result → AllRounded passes rules (record { link = turn.link; now = turn.now }) streams a b z z' k k' starved
      → Continues (transmitter passes) rules (Turned turn) starved x z' k k' a b
  follows_rounds streams b z' k' starved is r = record {
    more = r.more;
    log = r.adds.log ∙ ap (λ (ts : List Turn). ts ++ r.more) kept ∙ append_assoc x (turn ∷ []) r.more;
    taker = r.adds.taker;
    follows = rounds_some passes rules (record { link = turn.link; now = turn.now }) streams (streams_in rules turn.result) a b r.more starved is r.rounds;
  }
