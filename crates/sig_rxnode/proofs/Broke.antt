-- In which turn the store of a node failed.
use Rattle.std.proofs.Common.{◌≡◌, ◌∙◌, ◌+◌, ap, sym, subst, refl, ℕ, List, [], ◌∷◌, ◌++◌, length, true, false, Option, Some, None, append_assoc, length-append, arith}
use Rattle.std.proofs.lemmas.List.Elements.{All-push}
use Rattle.sig_rxnode.specs.declared.turn.RxTurn.{RxTurn}
use Rattle.sig_rxnode.specs.Turns.{AreHeld, BrokeAt, BrokeIn, fails}

-- a turn that isn't told so leaves it as it was
pub held_after : (old new : Option ℕ) (turns : List RxTurn) (t : RxTurn) → fails t.result ≡ false → old ≡ None → new ≡ None → BrokeAt old turns → BrokeAt new (turns ++ t ∷ [])
held_after old new turns t is was stays broke =
    let held : AreHeld turns = subst (λ (b : Option ℕ). BrokeAt b turns) was broke in
    subst (λ (b : Option ℕ). BrokeAt b (turns ++ t ∷ [])) (sym stays) (All-push (λ (u : RxTurn). fails u.result ≡ false) turns t held is)

-- the first that is
pub failed_first : (old new : Option ℕ) (turns : List RxTurn) (t : RxTurn) → fails t.result ≡ true → old ≡ None → new ≡ Some (length turns + 1) → BrokeAt old turns → BrokeAt new (turns ++ t ∷ [])
failed_first old new turns t is was at broke =
    let first : BrokeIn (length turns + 1) (turns ++ t ∷ []) = record {
      before = turns;
      after = t ∷ [];
      parts = refl;
      number = refl;
      some = omega arith;
      held = subst (λ (b : Option ℕ). BrokeAt b turns) was broke;
      failed = All-push (λ (u : RxTurn). fails u.result ≡ true) [] t (λ k d h. absurd (omega arith)) is;
    } in
    subst (λ (b : Option ℕ). BrokeAt b (turns ++ t ∷ [])) (sym at) first

-- a further one
pub failed_more : (old new : Option ℕ) (n : ℕ) (turns : List RxTurn) (t : RxTurn) → fails t.result ≡ true → old ≡ Some n → new ≡ Some n → BrokeAt old turns → BrokeAt new (turns ++ t ∷ [])
failed_more old new n turns t is was stays broke =
    let b : BrokeIn n turns = subst (λ (o : Option ℕ). BrokeAt o turns) was broke in
    let more : BrokeIn n (turns ++ t ∷ []) = record {
      before = b.before;
      after = b.after ++ t ∷ [];
      parts = ap (λ (l : List RxTurn). l ++ t ∷ []) b.parts ∙ append_assoc b.before b.after (t ∷ []);
      number = b.number;
      some = omega (arith, b.some, length-append b.after (t ∷ []));
      held = b.held;
      failed = All-push (λ (u : RxTurn). fails u.result ≡ true) b.after t b.failed is;
    } in
    subst (λ (o : Option ℕ). BrokeAt o (turns ++ t ∷ [])) (sym stays) more
