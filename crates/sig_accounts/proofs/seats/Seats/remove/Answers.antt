use Rattle.std.proofs.Common.{◌∙◌, ap, filter, not, rules}
use Rattle.std.specs.Prelude.{nat_eq}
use Rattle.std.proofs.lemmas.Fn.{filter_same}
use Rattle.sig_accounts.specs.Listening.{Seating}
use Rattle.sig_accounts.proofs.seats.Seats.remove.Goals as goal

pub returns : goal.returns
returns c =
    filter_same _ (λ n. not (nat_eq n c.args.seat)) _ (λ x b f' k. search rules) _ _ c.retain.ensures.filtered
    ∙ ap (λ (s : Seating). filter (λ n. not (nat_eq n c.args.seat)) s.seats) c.self.view_is
