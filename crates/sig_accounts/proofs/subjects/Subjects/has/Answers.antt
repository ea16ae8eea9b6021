use Rattle.std.proofs.Common.{◌∙◌, ap}
use Rattle.std.specs.List.{list_any}
use Rattle.sig_subject.specs.Matching.{is_identical}
use Rattle.sig_accounts.specs.Listing.{Listing}
use Rattle.sig_accounts.proofs.SubjectLemmas.{found_subject}
use Rattle.sig_accounts.proofs.subjects.Subjects.has.Goals as goal

pub returns : goal.returns
returns c =
    c.contains_key.ensures
    ∙ found_subject c.args.subject.now c.self.inside.places.entries c.self.inside.order.items c.self.invariant
    ∙ ap (λ (l : Listing). list_any (is_identical c.args.subject.now) l.listed) c.self.view_is
