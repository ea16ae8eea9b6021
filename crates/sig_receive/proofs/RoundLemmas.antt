-- What turns come to, and how a side is taken and given back.
use Rattle.std.proofs.Common.{◌≡◌, ◌∙◌, ℕ, zero, suc, List, [], ◌∷◌, Option, Some, None, inl, inr, sym, ap}
use Rattle.sig_links.specs.Told.{LendsSide, SideEnd, SidePlan, TakesBack}
use Rattle.sig_receiver.specs.Receiver.{Received, received_of}
use Rattle.sig_receiver.proofs.JournalLemmas.{joins}
use Rattle.sig_receiver.proofs.KeptLemmas.{none_more}
use Rattle.sig_rxnode.specs.Turns.{after_turn, after_turns, change_in, changes_of}
use Rattle.sig_rxnode.specs.declared.turn.RxTurn.{RxTurn}
use Rattle.sig_set.specs.declared.trust.Trust.{Trust}
use Rattle.sig_opening.proofs.DoorLemmas.{came_back}
use Rattle.sig_opening.proofs.ReadingLemmas.{tells_on}
use Rattle.sig_receive.specs.Sides.{Beside, ComesBack, NoFetch, beside, sides_of}

-- what is kept after turns is what was kept before with the texts that they add
pub turns_come_to : (trust : Trust) (turns : List RxTurn) (state : Received) → after_turns trust state turns ≡ received_of state (changes_of trust state turns)
turns_come_to trust [] state = sym (none_more state)
turns_come_to trust (t ∷ turns) state =
    turns_come_to trust turns (after_turn trust state t) ∙ sym (joins state (change_in trust state t) (changes_of trust (after_turn trust state t) turns))

-- ---- the side

pub side_back : (ahead : Option (List SidePlan)) (back new : Option (List SideEnd)) (out between now : ℕ) (last : Option SideEnd) → LendsSide ahead back out between → TakesBack back new between now last
    → ComesBack ahead back new last
side_back None back new out between now last lends takes = came_back back new out between now last lends takes
side_back (Some (next ∷ later)) back new out between now last lends takes = came_back back new out between now last lends takes
side_back (Some []) None new out between now last lends takes = inl takes
side_back (Some []) (Some list) new out zero now last lends takes = inl takes.0
side_back (Some []) (Some list) new out (suc between) now last lends takes = inr takes.0

pub sides_same : (a a' : Option (List SidePlan)) (b b' : Option (List SideEnd)) → a ≡ a' → b ≡ b' → sides_of a b ≡ sides_of a' b'
sides_same a a' b b' p q = λ i. sides_of (p i) (q i)

-- what stands beside a store is told as before
pub beside_same : {X : Type 0} (held : X → List ℕ → Option (List ℕ)) (ahead : X → Option (List SidePlan)) (back : X → Option (List SideEnd)) (a b : List ℕ) (x y : X)
    → held x ≡ held y → ahead x ≡ ahead y → back x ≡ back y → beside held ahead back a b x ≡ beside held ahead back a b y
beside_same held ahead back a b x y p q r = λ i. record { a = p i a; b = p i b; sides = sides_of (q i) (r i) }

-- no round began where all is told as before
pub no_fetch : (old new : Beside) → new ≡ old → NoFetch old new
no_fetch old new same = record {
  files = (tells_on old.a new.a (ap (λ (x : Beside). x.a) same), tells_on old.b new.b (ap (λ (x : Beside). x.b) same));
  sides = ap (λ (x : Beside). x.sides) same;
}
