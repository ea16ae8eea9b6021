use Rattle.std.proofs.Common.{◌≡◌, ◌+◌, ◌∙◌, drop, ap, sym, ℕ, Some, None}
use Rattle.std.specs.List.{cons_option, slice_get}
use Rattle.std.specs.Option.{option_map}
use Rattle.std.specs.Map.{keys_of}
use Rattle.std.specs.Map.Iter.{deref_pair}
use Rattle.std.proofs.lemmas.Option.{slice_get-map}
use Rattle.sig_subject.specs.declared.subject.Subject.{Subject}
use Rattle.sig_accounts.specs.Listing.{listed_in}
use Rattle.sig_accounts.proofs.ListingLemmas.{listed_from}
use Rattle.sig_accounts.proofs.subjects.subject_at.Goals as goal

abbrev first : Subject × ℕ → Subject
first e = e.0

pub returns-in_err-subject : goal.returns-in_err-subject
returns-in_err-subject c =
    let es = c.args.places.now.entries in
    let slot : slice_get (keys_of es) c.in_ok-index.index ≡ None =
    slice_get-map first es c.in_ok-index.index ∙ ap (option_map first) (sym c.get_index.ensures.entry ∙ ap (option_map deref_pair) c.in_err-subject.was) in
    listed_from (keys_of es) c.args.order.now c.args.place (Some c.in_ok-index.index) None c.requires c.in_ok-index.was slot
    ∙ sym (ap (λ r. cons_option (option_map (λ s. s.now) r) (listed_in (keys_of es) (drop (c.args.place + 1) c.args.order.now))) c.from_residual-in_err-subject.ensures)

pub returns : goal.returns
returns c =
    let es = c.args.places.now.entries in
    let slot : slice_get (keys_of es) c.in_ok-index.index ≡ Some c.in_ok-subject.subject.now =
    slice_get-map first es c.in_ok-index.index ∙ ap (option_map first) (sym c.get_index.ensures.entry ∙ ap (option_map deref_pair) c.in_ok-subject.was) in
    listed_from (keys_of es) c.args.order.now c.args.place (Some c.in_ok-index.index) (Some c.in_ok-subject.subject.now) c.requires c.in_ok-index.was slot
