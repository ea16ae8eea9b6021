use Rattle.std.proofs.Common.{◌≡◌, ◌⊎◌, inl, inr, ⊎_elim, ℕ, ◌+◌, List, ◌∷◌, Bool, ◌&&◌, nat_eq, sym, ◌∙◌, ap, subst, arith}
use Rattle.std.specs.Prelude.{MatchBool, is_ok}
use Rattle.sig_journal.specs.declared.layout.TheConstants.{GATE_OPEN}
use Rattle.sig_journal.proofs.Moments.{joined}
use Rattle.sig_journal.specs.Beside.{LeavesTold}
use Rattle.sig_journal.specs.Gates.{IsShut, OpeningRests, closing_calls, with_gate}
use Rattle.sig_journal.specs.Runs.{RestsAfter, opens_it}
use Rattle.sig_journal.proofs.Beside.{shut_leaves}
use Rattle.sig_journal.proofs.Runs.{from_is_ok, matches, opens_last, run_rests, run_then}
use Rattle.sig_journal.proofs.checkpoint.staging.put_file.Goals as goal

pub returns-clause-any_moment : goal.returns-clause-any_moment
returns-clause-any_moment g c =
    let D = g.D.Disk in
    let file = c.args.file.now in
    let mid = c.stage.new.file in
    λ told.
    let content : with_gate GATE_OPEN (D.seen mid) ≡ GATE_OPEN ∷ c.args.bytes.now = ap (λ (l : List ℕ). GATE_OPEN ∷ l) (c.in_ok-stage.ensures.staged told).1 in
    joined D.moment D.left_since file mid c.open_gate.new.file (LeavesTold (D.seen file)) (λ image. IsShut image ⊎ (image ≡ with_gate GATE_OPEN (D.seen mid)))
    (λ image. LeavesTold (D.seen file) image ⊎ (image ≡ GATE_OPEN ∷ c.args.bytes.now))
    (c.stage.ensures.any_moment told) (c.open_gate.ensures.any_moment (c.stage.ensures.kind.0 ∙ told)) (λ image same. inl same)
    (λ image either. ⊎_elim (λ shut. inl (shut_leaves (D.seen file) image shut)) (λ is. inr (is ∙ content)) either)

pub returns-clause-stop : goal.returns-clause-stop
returns-clause-stop g c =
    let D = g.D.Disk in
    let file = c.args.file.now in
    let mid = c.stage.new.file in
    let new = c.open_gate.new.file in
    let staging = closing_calls c.args.is_open + 3 in
    let IsBefore : List ℕ → Type 0 = LeavesTold (D.seen file) in
    let IsAfter : List ℕ → Type 0 = λ image. image ≡ GATE_OPEN ∷ c.args.bytes.now in
    let all : staging + 2 ≡ closing_calls c.args.is_open + 5 = omega arith in
    λ told.
    let content : with_gate GATE_OPEN (D.seen mid) ≡ GATE_OPEN ∷ c.args.bytes.now = ap (λ (l : List ℕ). GATE_OPEN ∷ l) (c.in_ok-stage.ensures.staged told).1 in
    subst (λ (n : ℕ). RestsAfter n IsBefore IsAfter (D.stop file) (D.stop new) (D.short new) c.open_gate.result) all
    (run_rests (staging + 2) IsBefore IsAfter (D.seen new) (D.stop file) (D.stop new) (D.short new) c.open_gate.result
    (λ ok. from_is_ok c.open_gate.result ok c.open_gate.ensures.opened (c.stage.ensures.kind.0 ∙ told) ∙ content)
    (run_then staging 2 (λ calls fill. IsBefore) (OpeningRests (D.seen mid)) (λ calls fill image. MatchBool (opens_it (staging + 2) calls fill) (IsAfter image) (IsBefore image)) (D.seen mid) (D.seen new)
    c.open_gate.result c.stage.result (ap is_ok c.in_ok-stage.was)
    (λ left fill image few rests. subst (λ (b : Bool). MatchBool b (IsAfter image) (IsBefore image)) (sym (opens_last staging left fill few))
    (matches (nat_eq left 1 && nat_eq fill GATE_OPEN) (image ≡ with_gate GATE_OPEN (D.seen mid)) (IsShut image) (IsAfter image) (IsBefore image) (λ is. is ∙ content) (λ shut. shut_leaves (D.seen file) image shut) rests))
    (D.stop file) (D.stop mid) (D.stop new) (D.short mid) (D.short new) (c.stage.ensures.stop told) (c.open_gate.ensures.stop (c.stage.ensures.kind.0 ∙ told))))
