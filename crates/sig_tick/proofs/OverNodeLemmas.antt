-- A tick over a node: what it tells as a taker is what is seen of it.
use Rattle.std.proofs.Common.{◌≡◌, ◌∙◌, sym, ap, subst, List, ◌++◌, Bool, Option, Some, Result}
use Rattle.sig_courier.specs.Schedule.{Kept}
use Rattle.sig_courier.specs.declared.attempt.Attempt.{Attempt}
use Rattle.sig_journal.specs.declared.node_fault.NodeFault.{NodeFault}
use Rattle.sig_json.specs.Answers.{result_map}
use Rattle.sig_links.specs.Views.{SideView}
use Rattle.sig_terms.specs.declared.rules.Rules.{Rules}
use Rattle.sig_txnode.specs.Node.{NodeView, begun, files_told}
use Rattle.sig_txnode.specs.Told.{TakerTold}
use Rattle.sig_txnode.specs.declared.turn.Turn.{Turn}
use Rattle.sig_tick.specs.OverNode.{Ticked}
use Rattle.sig_tick.specs.Ticking.{IsTick, Ticks, ticking}

-- what a node tells
abbrev pub tells : {D : Type 0} → (D → Bool) → NodeView D → TakerTold
tells told n = record { turns = n.turns; base = n.base; rules = n.rules; files = files_told told n }

some_is : (x y : TakerTold) → ◌≡◌ {A = Option TakerTold} (Some x) (Some y) → x ≡ y
some_is x y h = cc

pub ticked_by : {D : Type 0} (told : D → Bool) (rules : Rules) (before after : SideView) (old mid new : NodeView D) (kept kept' : Kept) (result : Result (List Attempt) NodeFault)
    → mid ≡ begun old → rules ≡ old.rules → Ticks rules before after (Some (tells told mid)) (Some (tells told new)) kept kept' result → Ticked before after old new kept kept' result
ticked_by {D} told rules before after old mid new kept kept' result opened same t =
    let grew : tells told new ≡ record (tells told mid) { turns = mid.turns ++ t.turns } = some_is (tells told new) (record (tells told mid) { turns = mid.turns ++ t.turns }) t.grew in
    let turns : new.turns ≡ t.turns = ap (λ (k : TakerTold). k.turns) grew ∙ ap (λ (n : NodeView D). n.turns ++ t.turns) opened in
    record {
      base = ap (λ (k : TakerTold). k.base) grew ∙ ap (λ (n : NodeView D). n.base) opened;
      rules = ap (λ (k : TakerTold). k.rules) grew ∙ ap (λ (n : NodeView D). n.rules) opened;
      now = t.now;
      began = t.began;
      time = t.time;
      made = t.made;
      given = t.given;
      notes = t.notes;
      tick = λ log logged. subst (λ (ts : List Turn). IsTick old.rules (ticking t.now) log t.began after ts t.made (result_map (λ attempts. tt) result)) (sym turns)
          (subst (λ (r : Rules). IsTick r (ticking t.now) log t.began after t.turns t.made (result_map (λ attempts. tt) result)) same (t.tick log logged));
    }

pub files_by : {D : Type 0} (told : D → Bool) (rules : Rules) (before after : SideView) (old mid new : NodeView D) (kept kept' : Kept) (result : Result (List Attempt) NodeFault)
    → mid ≡ begun old → Ticks rules before after (Some (tells told mid)) (Some (tells told new)) kept kept' result → files_told told new ≡ files_told told old
files_by {D} told rules before after old mid new kept kept' result opened t =
    ap (λ (k : TakerTold). k.files) (some_is (tells told new) (record (tells told mid) { turns = mid.turns ++ t.turns }) t.grew) ∙ ap (λ (n : NodeView D). files_told told n) opened
