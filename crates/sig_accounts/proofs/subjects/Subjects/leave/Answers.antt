use Rattle.std.proofs.Common.{◌∙◌, ap, not, ◌&&◌}
use Rattle.std.specs.List.{list_any}
use Rattle.std.specs.Prelude.{nat_eq}
use Rattle.sig_subject.specs.Matching.{is_identical}
use Rattle.sig_accounts.specs.Listening.{is_among}
use Rattle.sig_accounts.specs.Listing.{Listing}
use Rattle.sig_accounts.proofs.ListingLemmas.{any_listed}
use Rattle.sig_accounts.proofs.subjects.Subjects.leave.Goals as goal

pub returns : goal.returns
returns c = λ s n.
    c.leave_each.ensures s n
    ∙ ap (λ b. is_among s n c.args.lists.now.entries && not (b && nat_eq n c.args.seat))
    (any_listed (is_identical s) c.self.inside.places.entries c.self.inside.order.items c.self.invariant
    ∙ ap (λ (l : Listing). list_any (is_identical s) l.listed) c.self.view_is)
