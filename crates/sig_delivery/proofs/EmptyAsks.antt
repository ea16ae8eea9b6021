-- An empty body asks for nothing in particular.
use Rattle.std.proofs.Common.{◌≡◌, ℕ, List, [], ◌∷◌, length, true, None, refl, arith}
use Rattle.std.proofs.lemmas.Bool.{eqb-true}
use Rattle.std.specs.Prelude.{Ok, ◌==◌}
use Rattle.sig_delivery.specs.Asks.{ask_in, ask_of}

pub empty_ask : (body : List ℕ) → (length body == 0) ≡ true → ask_of body ≡ Ok (record { max = None; acks = []; errors = [] })
unfolding ask_in
empty_ask [] h = refl
empty_ask (b ∷ bytes) h = let none = eqb-true (length (b ∷ bytes)) 0 h in absurd (omega arith)
