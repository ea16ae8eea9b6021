use Rattle.std.proofs.Common.{◌≡◌, ◌∙◌, ap, sym, subst, ◌<◌, List, [], ◌∷◌, map, length, refl, arith}
use Rattle.std.specs.List.{position_or_len}
use Rattle.sig_terms.specs.declared.fact.Fact.{Fact}
use Rattle.sig_terms.specs.declared.fact.Fact.TheVariants.{Deleted}
use Rattle.sig_history.specs.Owed.{sum_of}
use Rattle.sig_history.specs.Sound.{Fits}
use Rattle.sig_accounts.specs.Owings.{Balance, has_name, owing_in}
use Rattle.sig_ledger.specs.Books.{AreKept, Books, sum_in}
use Rattle.sig_ledger.specs.Room.{Held}
use Rattle.sig_ledger.proofs.ChangedBooks.{apt_by, books_in, nothing_said, place_within, with_owings, without_is}
use Rattle.sig_ledger.proofs.TakenBooks.{MayTake, taken, taken_kept, taken_sum}
use Rattle.std.proofs.Common.{Some}
use Rattle.sig_accounts.specs.Listening.{IsListening}
use Rattle.sig_accounts.specs.Owings.{list_of}
use Rattle.sig_accounts.proofs.ListeningLemmas.{list_at, lists_out}
use Rattle.sig_ledger.proofs.ledger.Ledger.delete.Goals as goal

pub remove-account-requires : goal.remove-account-requires
remove-account-requires c =
    let b : Books = books_in c.self.inside.store_id c.self.inside.accounts.items c.self.inside.created.items c.self.inside.published.items c.self.inside.refused.reported in
    let f : Fact = Deleted c.args.stream.now in
    let fits : Fits (sum_in b) f = subst (λ (h : Held). Fits (sum_in h.books) f) (sym c.self.view_is) c.requires in
    let at : c.place_named-place.result ≡ position_or_len (has_name c.args.stream.now) c.self.inside.accounts.items =
    c.place_named-place.ensures ∙ ap (λ n. position_or_len (has_name n) c.as_slice.result.now) c.as_str.ensures.same
    ∙ ap (λ (bs : List Balance). position_or_len (has_name c.args.stream.now) bs) c.as_slice.ensures.value in
    let within : c.place_named-place.result < length c.self.inside.accounts.items =
    subst (λ n. n < length c.self.inside.accounts.items) (sym at) (place_within b c.self.inside.accounts.items c.args.stream.now refl (apt_by (sum_in b) f fits)) in
    omega (arith, c.self.inside.accounts.ok)

pub invariant_of-self : goal.invariant_of-self
invariant_of-self c =
    let b : Books = books_in c.self.inside.store_id c.self.inside.accounts.items c.self.inside.created.items c.self.inside.published.items c.self.inside.refused.reported in
    let f : Fact = Deleted c.args.stream.now in
    let fits : Fits (sum_in b) f = subst (λ (h : Held). Fits (sum_in h.books) f) (sym c.self.view_is) c.requires in
    let at : c.place_named-place.result ≡ position_or_len (has_name c.args.stream.now) c.self.inside.accounts.items =
    c.place_named-place.ensures ∙ ap (λ n. position_or_len (has_name n) c.as_slice.result.now) c.as_str.ensures.same
    ∙ ap (λ (bs : List Balance). position_or_len (has_name c.args.stream.now) bs) c.as_slice.ensures.value in
    let within : c.place_named-place.result < length c.self.inside.accounts.items =
    subst (λ n. n < length c.self.inside.accounts.items) (sym at) (place_within b c.self.inside.accounts.items c.args.stream.now refl (apt_by (sum_in b) f fits)) in
    let lists = map list_of (map owing_in c.self.inside.accounts.items) in
    let listening : IsListening c.close.new.self (map list_of (map owing_in c.remove-account.new.self.items)) =
    subst (IsListening c.close.new.self)
    (sym (ap (λ (bs : List Balance). map list_of (map owing_in bs)) c.remove-account.ensures.items ∙ lists_out c.self.inside.accounts.items c.place_named-place.result))
    (c.close.ensures lists
    (list_at c.self.inside.accounts.items c.place_named-place.result c.remove-account.result within c.remove-account.ensures.value ∙ ap Some (sym c.listed.ensures))
    c.self.invariant.2) in
    let may : MayTake b f nothing_said = record { kept = c.self.invariant.0; fits = fits; says = λ s told. tt; placed = tt; by = tt; reported = record { same = refl; known = tt } } in
    let is : with_owings b (map owing_in c.remove-account.new.self.items) ≡ taken b f nothing_said =
    ap (λ (bs : List Balance). with_owings b (map owing_in bs)) c.remove-account.ensures.items
    ∙ without_is b c.self.inside.accounts.items c.args.stream.now c.place_named-place.result c.self.invariant.0 refl at in
    (subst AreKept (sym is) (taken_kept b f nothing_said may), c.self.invariant.1, listening)

pub returns : goal.returns
returns c =
    let b : Books = books_in c.self.inside.store_id c.self.inside.accounts.items c.self.inside.created.items c.self.inside.published.items c.self.inside.refused.reported in
    let f : Fact = Deleted c.args.stream.now in
    let fits : Fits (sum_in b) f = subst (λ (h : Held). Fits (sum_in h.books) f) (sym c.self.view_is) c.requires in
    let at : c.place_named-place.result ≡ position_or_len (has_name c.args.stream.now) c.self.inside.accounts.items =
    c.place_named-place.ensures ∙ ap (λ n. position_or_len (has_name n) c.as_slice.result.now) c.as_str.ensures.same
    ∙ ap (λ (bs : List Balance). position_or_len (has_name c.args.stream.now) bs) c.as_slice.ensures.value in
    let may : MayTake b f nothing_said = record { kept = c.self.invariant.0; fits = fits; says = λ s told. tt; placed = tt; by = tt; reported = record { same = refl; known = tt } } in
    let is : with_owings b (map owing_in c.remove-account.new.self.items) ≡ taken b f nothing_said =
    ap (λ (bs : List Balance). with_owings b (map owing_in bs)) c.remove-account.ensures.items
    ∙ without_is b c.self.inside.accounts.items c.args.stream.now c.place_named-place.result c.self.invariant.0 refl at in
    ap sum_in is ∙ taken_sum b f nothing_said may ∙ ap (λ (h : Held). sum_of (sum_in h.books) (f ∷ [])) c.self.view_is
