-- Turns that a log and a taker have more, one part after another.
use Rattle.std.proofs.Common.{◌≡◌, ℕ, List, [], ◌∷◌, ◌++◌, Option, Some, None, Result, Ok, Err, IsErrOf, refl, sym, ap, ◌∙◌, subst, append-nil, append_assoc}
use Rattle.sig_journal.specs.declared.node_fault.NodeFault.{NodeFault}
use Rattle.sig_journal.specs.declared.node_fault.NodeFault.TheVariants.{Store, Full, Memory}
use Rattle.sig_terms.specs.declared.answer.Answer.{Answer}
use Rattle.sig_terms.specs.declared.call.Call.{Call}
use Rattle.sig_txnode.specs.Told.{KeepsTurn, TakerTold}
use Rattle.sig_txnode.specs.declared.turn.Turn.{Turn}
use Rattle.sig_txnode.specs.Answering.{time_used}
use Rattle.sig_round.specs.Turns.{Adds, AddsTurnOf, Asker, Grew, IsTurnOf}

pub grew_none : (told : Option TakerTold) → Grew told told []
grew_none None = refl
grew_none (Some old) = ap (λ (ts : List Turn). Some (record old { turns = ts })) (sym (append-nil old.turns))

pub grew_on : (a b c : Option TakerTold) (xs ys : List Turn) → Grew a b xs → Grew b c ys → Grew a c (xs ++ ys)
grew_on None b c xs ys p q = subst (λ (t : Option TakerTold). Grew t c ys) p q
grew_on (Some old) b c xs ys p q =
    subst (λ (t : Option TakerTold). Grew t c ys) p q ∙ ap (λ (ts : List Turn). Some (record old { turns = ts })) (append_assoc old.turns xs ys)

pub adds_none : (turns : List Turn) (told : Option TakerTold) → Adds [] turns turns told told
adds_none turns told = record { log = sym (append-nil turns); taker = grew_none told }

pub adds_on : (xs ys a b c : List Turn) (k l m : Option TakerTold) → Adds xs a b k l → Adds ys b c l m → Adds (xs ++ ys) a c k m
adds_on xs ys a b c k l m p q = record {
  log = q.log ∙ ap (λ (ts : List Turn). ts ++ ys) p.log ∙ append_assoc a xs ys;
  taker = grew_on k l m xs ys p.taker q.taker;
}

-- a turn that wasn't refused memory is one more
pub kept_one : (told told' : Option TakerTold) (link : ℕ) (call : Call) (now : ℕ) (result : Result Answer NodeFault)
    → (IsErrOf result Memory → ⊥) → KeepsTurn told told' link call now result
    → Grew told told' (record { link = link; call = call; now = now; result = result } ∷ [])
kept_one None told' link call now result n k = k
kept_one (Some old) told' link call now (Ok answer) n k = k
kept_one (Some old) told' link call now (Err Store) n k = k
kept_one (Some old) told' link call now (Err (Full m)) n k = k
kept_one (Some old) told' link call now (Err Memory) n k = absurd (n refl)

-- and one that was leaves the taker as it was
pub kept_none : (told told' : Option TakerTold) (link : ℕ) (call : Call) (now : ℕ) (result : Result Answer NodeFault)
    → result ≡ Err Memory → KeepsTurn told told' link call now result → told' ≡ told
kept_none told told' link call now result is k = by_told told (subst (λ (r : Result Answer NodeFault). KeepsTurn told told' link call now r) is k)
  where
    by_told : (old : Option TakerTold) → KeepsTurn old told' link call now (Err Memory) → told' ≡ old
    by_told None h = h
    by_told (Some old) h = h

-- it is the turn of its call, which the taker has
pub record IsMade (by : Asker) (call : Call) (turn : Turn) (told told' : Option TakerTold) : Type 0 where
  pub turn_of : IsTurnOf by call turn
  pub grew : Grew told told' (turn ∷ [])

pub made : (link now : ℕ) (call : Call) (turn : Turn) (told told' : Option TakerTold) (result : Result Answer NodeFault)
    → (IsErrOf result Memory → ⊥) → turn ≡ record { link = link; call = call; now = time_used now; result = result }
    → KeepsTurn told told' link call (time_used now) result → IsMade (record { link = link; now = now }) call turn told told'
made link now call turn told told' result n is k =
    rw is (record { turn_of = record { asked = refl; kept = n }; grew = kept_one told told' link call (time_used now) result n k })

-- it was kept in the log
pub asked_one : (by : Asker) (call : Call) (turn : Turn) (turns turns' : List Turn) (told told' : Option TakerTold)
    → IsTurnOf by call turn → turns' ≡ turns ++ turn ∷ [] → Grew told told' (turn ∷ []) → AddsTurnOf by call turns turns' told told'
asked_one by call turn turns turns' told told' is log taker = (turn, is, record { log = log; taker = taker })

-- no turn was made
pub asked_none : (turns turns' : List Turn) (told told' : Option TakerTold) → turns' ≡ turns → told' ≡ told → Adds [] turns turns' told told'
asked_none turns turns' told told' log taker = rw (log, taker) (adds_none turns told)
