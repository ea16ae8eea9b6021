use Rattle.std.proofs.Common.{◌∙◌, ap}
use Rattle.std.specs.List.{list_any}
use Rattle.sig_subject.specs.Matching.{is_matching}
use Rattle.sig_accounts.specs.Listing.{Listing}
use Rattle.sig_accounts.proofs.ListingLemmas.{any_listed}
use Rattle.sig_accounts.proofs.subjects.Subjects.has_matching.Goals as goal

pub returns-in-Complex : goal.returns-in-Complex
returns-in-Complex c =
    c.matches_one.ensures
    ∙ any_listed (is_matching c.args.subject.now) c.self.inside.places.entries c.self.inside.order.items c.self.invariant
    ∙ ap (λ (l : Listing). list_any (is_matching c.args.subject.now) l.listed) c.self.view_is
