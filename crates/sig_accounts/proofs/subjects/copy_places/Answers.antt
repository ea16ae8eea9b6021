use Rattle.std.proofs.Common.{◌≡◌, ◌∙◌, ap, sym, subst, ℕ, List, IfOk, Some, arith}
use Rattle.std.specs.List.{slice_get}
use Rattle.std.specs.Option.{option_map}
use Rattle.std.specs.Map.Iter.{deref_pair}
use Rattle.indexmap.specs.IndexMap.{insert_entry}
use Rattle.sig_subject.specs.declared.subject.Subject.{Subject}
use Rattle.sig_accounts.proofs.SubjectLemmas.{copied_more, key_eq}
use Rattle.sig_accounts.proofs.subjects.copy_places.Goals as goal

pub loop-index-preserved : goal.loop-index-preserved
loop-index-preserved c =
    let es : List (Subject × ℕ) = c.args.places.now.entries in
    let s : Subject = c.unwrap.result.0.now in
    let p : ℕ = c.unwrap.result.1.now in
    let at : slice_get es c.loop-index.index ≡ Some (s, p) = sym c.get_index.ensures.entry ∙ ap (option_map deref_pair) c.unwrap.ensures in
    let same : c.in_ok-subject.subject ≡ s = subst (λ r. IfOk r (λ x. x ≡ s)) c.in_ok-subject.was c.copy.ensures in
    let inserted : c.insert.new.self.entries ≡ insert_entry key_eq c.loop-index.copy.entries s p =
    (rw c.in_ok-insert.was at c.insert.ensures.entries) ∙ ap (λ x. insert_entry key_eq c.loop-index.copy.entries x p) same in (
      omega (arith, c.loop-index-test.true, c.len-index-end.ensures.len),
      copied_more es c.loop-index.copy.entries c.insert.new.self.entries c.loop-index.index s p c.len-index-end.ensures.unique at c.loop-index.invariant.1 inserted,
    )
