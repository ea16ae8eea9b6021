-- What a loop has collected of a list of streams: what is left decides.
use Rattle.std.proofs.Common.{◌≡◌, List, [], ◌∷◌, ◌++◌, append-nil, refl, sym, ap, append_assoc}
use Rattle.std.specs.Prelude.{Result, Ok, Err}
use Rattle.sig_manager.specs.Listing.{listed_before}
use Rattle.sig_manager.specs.declared.fault.ManageFault.{ManageFault}
use Rattle.sig_manager.specs.declared.listed.Listed.{Listed}

-- what was collected, and then the rest
abbrev pub behind : List Listed → Result (List Listed) ManageFault → Result (List Listed) ManageFault
behind done (Ok rest) = Ok (done ++ rest)
behind done (Err e) = Err e

-- nothing was collected
pub behind_nothing : (rest : Result (List Listed) ManageFault) → rest ≡ behind [] rest
behind_nothing (Ok rest) = refl
behind_nothing (Err e) = refl

-- nothing is left
pub behind_all : (done : List Listed) → behind done (Ok []) ≡ Ok done
behind_all done = simp append-nil

-- a stream more
pub listed_behind : (done : List Listed) (l : Listed) (rest : Result (List Listed) ManageFault)
    → behind done (listed_before (Ok l) rest) ≡ behind (done ++ l ∷ []) rest
listed_behind done l (Ok rest) = ap Ok (sym (append_assoc done (l ∷ []) rest))
listed_behind done l (Err e) = refl

-- one that is wrong
pub fault_behind : (done : List Listed) (e : ManageFault) (rest : Result (List Listed) ManageFault)
    → behind done (listed_before (Err e) rest) ≡ Err e
fault_behind done e rest = refl
