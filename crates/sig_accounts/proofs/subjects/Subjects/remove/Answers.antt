use Rattle.std.proofs.Common.{◌≡◌, ◌<◌, ◌∙◌, ap, sym, subst, ℕ, Some, None, false, is_some, length, take, drop, ◌++◌, rules, arith}
use Rattle.std.specs.List.{position, slice_get}
use Rattle.std.specs.Map.{keys_of, lookup, values_of}
use Rattle.std.specs.Prelude.{IfSome, vec_len}
use Rattle.std.proofs.Math.ListN.{set}
use Rattle.std.proofs.lemmas.List.{length-map, take-append-le, take_all}
use Rattle.sig_subject.specs.declared.subject.Subject.{Subject}
use Rattle.sig_history.specs.Streams.{list_removed}
use Rattle.sig_accounts.specs.Listing.{Listing, listed_in}
use Rattle.sig_accounts.proofs.ItemLemmas.{item_at}
use Rattle.sig_accounts.proofs.SubjectLemmas.{key_eq, removed_none, removed_subject}
use Rattle.sig_accounts.proofs.subjects.Subjects.remove.Goals as goal

pub returns-in-Some : goal.returns-in-Some
returns-in-Some c =
    let es = c.self.inside.places.entries in
    let found : position (key_eq c.args.subject.now) (keys_of es) ≡ Some c.in-Some.index = sym c.get_index_of.ensures.index ∙ c.in-Some.is in
    let within : c.in-Some.index < length es = subst (λ o. IfSome o (λ i. i < length es)) c.in-Some.is c.get_index_of.ensures.within in
    let place : (p : ℕ) × (slice_get (values_of es) c.in-Some.index ≡ Some p) =
    item_at (values_of es) c.in-Some.index (omega (arith, within, length-map es (λ (e : Subject × ℕ). e.1))) in
    let now = c.take_off.new.order in
    let long : length now ≡ vec_len c.self.inside.order = search (rules, c.take_off.auto, c.as_mut_slice.ensures) in
    let back : take (vec_len c.self.inside.order) (now ++ drop (length now) c.self.inside.order.items) ≡ now =
    take-append-le (vec_len c.self.inside.order) now _ (omega (arith, long)) ∙ take_all (vec_len c.self.inside.order) now (omega (arith, long)) in
    c.let_go.ensures
    ∙ ap (listed_in (keys_of c.take_off.new.places.entries)) back
    ∙ c.take_off.ensures.listed place.0 place.1
    ∙ ap (λ o. listed_in (keys_of es) (set o place.0 None)) c.as_mut_slice.ensures.value
    ∙ removed_subject c.args.subject.now es c.self.inside.order.items c.in-Some.index place.0 c.self.invariant c.get_index_of.ensures.unique found place.1
    ∙ ap (λ (l : Listing). list_removed c.args.subject.now l.listed) c.self.view_is

pub returns-in-None : goal.returns-in-None
returns-in-None c =
    let es = c.self.inside.places.entries in
    let absent : is_some (lookup (key_eq c.args.subject.now) es) ≡ false = sym c.get_index_of.ensures.found ∙ ap is_some c.in-None.is in
    sym (ap (λ (l : Listing). l.listed) c.self.view_is)
    ∙ sym (removed_none c.args.subject.now es c.self.inside.order.items c.self.invariant absent)
    ∙ ap (λ (l : Listing). list_removed c.args.subject.now l.listed) c.self.view_is
