use Rattle.std.proofs.Common.{◌≡◌, ◌∙◌, ap, sym, subst, List, IfOk, Some, take, arith}
use Rattle.std.specs.List.{slice_get}
use Rattle.std.specs.Option.{option_map}
use Rattle.std.specs.Map.Iter.{deref_pair}
use Rattle.std.proofs.lemmas.List.{take_all}
use Rattle.indexmap.specs.IndexMap.{insert_entry}
use Rattle.sig_subject.specs.declared.subject.Subject.{Subject}
use Rattle.sig_accounts.specs.Listening.{Seating, seats_for}
use Rattle.sig_accounts.proofs.ListsLemmas.{seats_copied, taken_put}
use Rattle.sig_accounts.proofs.SubjectLemmas.{key_eq}
use Rattle.sig_accounts.proofs.lists.copy_lists.Goals as goal

pub loop-index-preserved : goal.loop-index-preserved
loop-index-preserved c =
    let es : List (Subject × Seating) = c.args.lists.now.entries in
    let k : Subject = c.unwrap.result.0.now in
    let v : Seating = c.unwrap.result.1.now in
    let at : slice_get es c.loop-index.index ≡ Some (k, v) = sym c.get_index.ensures.entry ∙ ap (option_map deref_pair) c.unwrap.ensures in
    let same : c.in_ok-subject.subject ≡ k = subst (λ r. IfOk r (λ x. x ≡ k)) c.in_ok-subject.was c.copy.ensures in
    let inserted : c.insert.new.self.entries ≡ insert_entry key_eq c.loop-index.copy.entries k c.in_ok-seats.seats =
    (rw c.in_ok-insert.was at c.insert.ensures.entries) ∙ ap (λ x. insert_entry key_eq c.loop-index.copy.entries x c.in_ok-seats.seats) same in (
      omega (arith, c.loop-index-test.true, c.len-index-end.ensures.len),
      λ s. ap (seats_for s) inserted
          ∙ seats_copied s k c.loop-index.copy.entries (take c.loop-index.index es) c.in_ok-seats.seats v c.in_ok-seats.ensures (c.loop-index.invariant.1 s)
          ∙ ap (seats_for s) (sym (taken_put es c.loop-index.index k v c.len-index-end.ensures.unique at)),
    )

pub returns : goal.returns
returns c = λ s.
    c.loop-index.invariant.1 s
    ∙ ap (seats_for s) (take_all c.loop-index.index c.args.lists.now.entries (omega (arith, c.loop-index-test.false, c.len-index-end.ensures.len)))
