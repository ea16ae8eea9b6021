-- A tick: its turns for the lists, and those that follow.
use Rattle.std.proofs.Common.{◌≡◌, ◌∙◌, sym, ap, subst, refl, ℕ, List, [], ◌++◌, Option, Result, Ok, Err, append-nil}
use Rattle.std.specs.Prelude.{IfOk, ⊤}
use Rattle.sig_courier.specs.Schedule.{Kept}
use Rattle.sig_courier.specs.declared.attempt.Attempt.{Attempt}
use Rattle.sig_journal.specs.declared.node_fault.NodeFault.{NodeFault}
use Rattle.sig_journal.specs.declared.node_fault.NodeFault.TheVariants.{Memory}
use Rattle.sig_json.specs.Answers.{result_map}
use Rattle.sig_links.specs.Views.{SideView}
use Rattle.sig_terms.specs.declared.rules.Rules.{Rules}
use Rattle.sig_txnode.specs.Told.{TakerTold}
use Rattle.sig_txnode.specs.declared.turn.Turn.{Turn}
use Rattle.sig_round.specs.Turns.{Asker}
use Rattle.sig_round.proofs.Grown.{adds_on}
use Rattle.sig_tick.specs.Listing.{pushes_listed}
use Rattle.sig_tick.specs.Ticking.{Listed, TellsTime, Ticks, ticking}
use Rattle.sig_tick.specs.Trying.{AreTried, Tried}
use Rattle.sig_tick.proofs.Collecting.{same_asker}
use Rattle.sig_tick.proofs.TryLemmas.{notes_none, tried_starved}

-- the clients were listed in these turns, and the tick ended there
pub ticks_unlisted : (rules : Rules) (before began : SideView) (now : ℕ) (x y : List Turn) (k l : Option TakerTold) (kept : Kept) (fault : NodeFault)
    → TellsTime before began now → x ≡ [] → Listed rules (ticking now) x y k l (Err fault) → Ticks rules before began k l kept kept (Err fault)
ticks_unlisted rules before began now x y k l kept fault time none p = record {
  now = now;
  began = began;
  time = time;
  turns = p.more;
  grew = p.adds.taker;
  made = [];
  given = tt;
  notes = notes_none kept;
  tick = λ log logged. record {
    reads = p.more;
    others = [];
    parts = sym (append-nil p.more);
    listing = Err fault;
    lists = p.lists;
    tries = (refl, refl, refl, refl);
  };
}

-- they were listed, and these streams were tried
pub ticks_on : (rules : Rules) (before began after : SideView) (now link time : ℕ) (x y z : List Turn) (k l m : Option TakerTold) (kept kept' : Kept) (streams : List (List ℕ)) (made : List Attempt) (u : ⊤) (result : Result (List Attempt) NodeFault)
    → TellsTime before began now → x ≡ [] → Listed rules (ticking now) x y k l (Ok u) → streams ≡ pushes_listed y → link ≡ 0 → time ≡ now
    → Tried rules (record { link = link; now = time }) streams kept kept' began after y z l m made (result_map (λ attempts. tt) result) → IfOk result (λ attempts. attempts ≡ made)
    → Ticks rules before after k m kept kept' result
ticks_on rules before began after now link time x y z k l m kept kept' streams made u result told none p listed e f q' given =
    let q = subst (λ (by : Asker). Tried rules by streams kept kept' began after y z l m made (result_map (λ attempts. tt) result)) (same_asker link 0 time now e f) q' in
    let whole = adds_on p.more q.more x y z k l m p.adds q.adds in
    let reads : y ≡ p.more = p.adds.log ∙ ap (λ (ts : List Turn). ts ++ p.more) none in
    record {
      now = now;
      began = began;
      time = told;
      turns = p.more ++ q.more;
      grew = whole.taker;
      made = made;
      given = given;
      notes = q.notes;
      tick = λ log logged. record {
        reads = p.more;
        others = q.more;
        parts = refl;
        listing = Ok u;
        lists = p.lists;
        tries = subst (λ (ss : List (List ℕ)). AreTried rules (ticking now) log ss began after q.more made (result_map (λ attempts. tt) result))
            (listed ∙ ap pushes_listed reads) (q.tries log logged);
      };
    }

-- memory ran out after they were listed
pub ticks_starved : (rules : Rules) (before began : SideView) (now : ℕ) (x y : List Turn) (k l : Option TakerTold) (kept : Kept) (u : ⊤)
    → TellsTime before began now → x ≡ [] → Listed rules (ticking now) x y k l (Ok u) → Ticks rules before began k l kept kept (Err Memory)
ticks_starved rules before began now x y k l kept u time none p =
    ticks_on rules before began began now 0 now x y y k l l kept kept (pushes_listed y) [] u (Err Memory) time none p refl refl refl (tried_starved rules (ticking now) (pushes_listed y) kept began y l) tt
