-- That turns are told one part after another.
use Rattle.std.proofs.Common.{List, [], ◌++◌, Option, Some, None, refl, sym, ap, ◌∙◌, subst, append-nil, append_assoc}
use Rattle.sig_rxnode.specs.Told.{RxTold}
use Rattle.sig_rxnode.specs.declared.turn.RxTurn.{RxTurn}
use Rattle.sig_rxend.specs.Turning.{Grew}

pub grew_none : (told : Option RxTold) → Grew told told []
grew_none None = refl
grew_none (Some old) = ap (λ (ts : List RxTurn). Some (record old { turns = ts })) (sym (append-nil old.turns))

pub grew_on : (a b c : Option RxTold) (xs ys : List RxTurn) → Grew a b xs → Grew b c ys → Grew a c (xs ++ ys)
grew_on None b c xs ys p q = subst (λ (t : Option RxTold). Grew t c ys) p q
grew_on (Some old) b c xs ys p q =
    subst (λ (t : Option RxTold). Grew t c ys) p q ∙ ap (λ (ts : List RxTurn). Some (record old { turns = ts })) (append_assoc old.turns xs ys)
