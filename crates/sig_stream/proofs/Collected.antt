-- What a loop has collected of a list of texts: what is left decides.
use Rattle.std.proofs.Common.{◌≡◌, ℕ, List, [], ◌∷◌, ◌++◌, append-nil, Option, Some, None, refl, sym, ap, append_assoc}
use Rattle.sig_stream.specs.Wants.{text_before}

-- what was collected, and then the rest
abbrev pub behind : {T : Type 0} → List T → Option (List T) → Option (List T)
behind done None = None
behind done (Some rest) = Some (done ++ rest)

-- nothing was collected
pub behind_nothing : {T : Type 0} (rest : Option (List T)) → rest ≡ behind [] rest
behind_nothing None = refl
behind_nothing (Some rest) = refl

-- nothing is left
pub behind_all : {T : Type 0} (done : List T) → behind done (Some []) ≡ Some done
behind_all done = simp append-nil

-- a text more
pub text_behind : (done : List (List ℕ)) (text : List ℕ) (rest : Option (List (List ℕ))) → behind done (text_before (Some text) rest) ≡ behind (done ++ text ∷ []) rest
text_behind done text None = refl
text_behind done text (Some rest) = ap Some (sym (append_assoc done (text ∷ []) rest))
