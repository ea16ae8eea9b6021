use Rattle.std.proofs.Common.{◌∙◌, ap, List, None, Some}
use Rattle.std.specs.List.{slice_get}
use Rattle.sig_history.specs.Streams.{Publication, publication_of}
use Rattle.sig_accounts.specs.Places.{place_in}
use Rattle.sig_ledger.specs.Room.{Held}
use Rattle.sig_accounts.proofs.PlaceLemmas.{found_at}
use Rattle.sig_ledger.proofs.ledger.Ledger.publication.Goals as goal

pub returns-in-None : goal.returns-in-None
returns-in-None c =
    found_at c.self.inside.places.index c.args.id.now c.self.inside.published.items None c.self.invariant.1
    (c.in-None.ensures
    ∙ ap (λ (ps : List Publication). place_in c.self.inside.places.index ps c.as_str.result.now) c.as_slice-published.ensures.value
    ∙ ap (place_in c.self.inside.places.index c.self.inside.published.items) c.as_str.ensures.same)
    ∙ ap (λ (h : Held). publication_of c.args.id.now h.books.published) c.self.view_is

pub returns-in-Some : goal.returns-in-Some
returns-in-Some c =
    c.publication_at.ensures
    ∙ ap (λ (ps : List Publication). slice_get ps c.in-Some.place) c.as_slice-published.ensures.value
    ∙ found_at c.self.inside.places.index c.args.id.now c.self.inside.published.items (Some c.in-Some.place) c.self.invariant.1
    (c.in-Some.ensures
    ∙ ap (λ (ps : List Publication). place_in c.self.inside.places.index ps c.as_str.result.now) c.as_slice-published.ensures.value
    ∙ ap (place_in c.self.inside.places.index c.self.inside.published.items) c.as_str.ensures.same)
    ∙ ap (λ (h : Held). publication_of c.args.id.now h.books.published) c.self.view_is
