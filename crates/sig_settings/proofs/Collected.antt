-- What a loop has collected of a list: what is left decides.
use Rattle.std.proofs.Common.{◌≡◌, List, [], ◌∷◌, ◌++◌, append-nil, refl, sym, ap, append_assoc}
use Rattle.std.specs.Prelude.{Result, Ok, Err}
use Rattle.sig_settings.specs.declared.fault.ValueFault.{ValueFault}
use Rattle.sig_settings.specs.Lists.{before}

-- what was collected, and then the rest
abbrev pub behind : {T : Type 0} → List T → Result (List T) ValueFault → Result (List T) ValueFault
behind done (Err fault) = Err fault
behind done (Ok rest) = Ok (done ++ rest)

-- nothing was collected
pub behind_nothing : {T : Type 0} (rest : Result (List T) ValueFault) → rest ≡ behind [] rest
behind_nothing (Err fault) = refl
behind_nothing (Ok rest) = refl

-- nothing is left
pub behind_all : {T : Type 0} (done : List T) → behind done (Ok []) ≡ Ok done
behind_all done = simp append-nil

-- one more
pub one_behind : {T : Type 0} (done : List T) (x : T) (rest : Result (List T) ValueFault) → behind done (before (Ok x) rest) ≡ behind (done ++ x ∷ []) rest
one_behind done x (Err fault) = refl
one_behind done x (Ok rest) = ap Ok (sym (append_assoc done (x ∷ []) rest))
