use Rattle.std.proofs.Common.{◌≡◌, ◌==◌, ◌∙◌, ap, false, length, subst, sym}
use Rattle.serde_json.specs.View.{view}
use Rattle.sig_json.specs.Answers.{Answers}
use Rattle.sig_subject.proofs.Deciding.{identifiers_left, passed}
use Rattle.sig_subject.specs.declared.subject_fault.SubjectFault.TheVariants as fault
use Rattle.sig_subject.proofs.simple_reading.identifiers_from.Goals as goal

pub returns : goal.returns
returns c =
    let alone = passed _ _ _ c.in_ok-only.ensures in
    let some : length c.as_slice.result.now == 0 ≡ false = ap (λ n. n == 0) c.as_slice.ensures.len ∙ sym c.if-is_empty.ensures in
    let list = sym c.in-Some.ensures in
    let left = identifiers_left (view c.args.value.now) c.as_slice.result.now (rw c.as_slice.ensures.value list) alone.0 some in
    subst (λ told. Answers fault.Memory c.items_from.result told) (sym left) c.items_from.ensures
