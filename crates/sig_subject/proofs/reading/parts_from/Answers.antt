use Rattle.std.proofs.Common.{◌∙◌, subst, sym}
use Rattle.std.proofs.lemmas.Result.{err_from_is_err_and}
use Rattle.serde_json.specs.View.{members_view}
use Rattle.sig_subject.proofs.Deciding.{Reads, parts_from_entry, reads_next, reads_refused}
use Rattle.sig_subject.specs.Reading.{part_by, part_checks}
use Rattle.sig_subject.specs.Subjects.{parts_of}
use Rattle.sig_subject.proofs.reading.parts_from.Goals as goal

pub returns-in_err-part : goal.returns-in_err-part
returns-in_err-part c =
    let p = err_from_is_err_and c.from_residual.result c.from_residual.ensures.1 in
    let name = c.as_str-then-ne.ensures.value in
    let same = c.as_str.ensures.value ∙ sym name in
    let entry = parts_from_entry c.loop-name.name-iterator c.next.new.self c.in-Some.name.now c.in-Some.member.now c.as_str-then-ne.result.now c.in-Some.ensures.steps name (rw (← same) c.if-ne.ensures) in
    let left = subst (λ xs. Reads part_checks part_by (parts_of (members_view c.args.members.now.entries)) xs c.loop-name.out.items) entry c.loop-name.invariant in
    rw (p.1, p.2) (reads_refused _ _ part_checks part_by _ _ _ _ _ left c.in_err-part.ensures)

pub loop-name-preserved-in-Continue-branch-2 : goal.loop-name-preserved-in-Continue-branch-2
loop-name-preserved-in-Continue-branch-2 c =
    let name = c.as_str-then-ne.ensures.value in
    let same = c.as_str.ensures.value ∙ sym name in
    let entry = parts_from_entry c.loop-name.name-iterator c.next.new.self c.in-Some.name.now c.in-Some.member.now c.as_str-then-ne.result.now c.in-Some.ensures.steps name (rw (← same) c.if-ne.ensures) in
    let left = subst (λ xs. Reads part_checks part_by (parts_of (members_view c.args.members.now.entries)) xs c.loop-name.out.items) entry c.loop-name.invariant in
    rw c.in_ok-push.ensures.items (reads_next part_checks part_by _ _ _ _ _ left c.in_ok-part.ensures)
