use Rattle.std.proofs.Common.{◌≡◌, ◌∙◌, ap, sym, subst, ◌<◌, List, [], ◌∷◌, map, length, refl, arith}
use Rattle.std.specs.List.{position_or_len}
use Rattle.std.proofs.Math.ListN.{set}
use Rattle.sig_terms.specs.declared.fact.Fact.{Fact}
use Rattle.sig_history.specs.Owed.{sum_of}
use Rattle.sig_history.specs.Sound.{Fits}
use Rattle.sig_accounts.specs.Owings.{Balance, Owing, has_name, owing_in}
use Rattle.sig_ledger.specs.Books.{Books, sum_in}
use Rattle.sig_ledger.specs.Room.{Held}
use Rattle.sig_terms.specs.declared.fact.Fact.TheVariants.{Configured}
use Rattle.sig_history.specs.Facts.{configured}
use Rattle.sig_history.specs.Streams.{with_conf}
use Rattle.sig_accounts.specs.Owings.{owing_with}
use Rattle.sig_accounts.proofs.ChangeLemmas.{configured_all}
use Rattle.sig_ledger.proofs.ChangedBooks.{IsChange, books_in, change_here, change_kept, change_sum, configured_stands, nothing_said, place_within}
use Rattle.sig_accounts.specs.Listening.{IsListening}
use Rattle.sig_accounts.specs.Owings.{list_of}
use Rattle.sig_accounts.proofs.ListeningLemmas.{lists_kept}
use Rattle.sig_ledger.proofs.ledger.Ledger.configure.Goals as goal

pub index_mut-requires : goal.index_mut-requires
index_mut-requires c =
    let b : Books = books_in c.self.inside.store_id c.self.inside.accounts.items c.self.inside.created.items c.self.inside.published.items c.self.inside.refused.reported in
    let f : Fact = Configured c.args.stream.now c.args.requested c.args.delivery c.args.description in
    let fits : Fits (sum_in b) f = subst (λ (h : Held). Fits (sum_in h.books) f) (sym c.self.view_is) c.requires in
    let at : c.place_named-place.result ≡ position_or_len (has_name c.args.stream.now) c.self.inside.accounts.items =
    c.place_named-place.ensures ∙ ap (λ n. position_or_len (has_name n) c.as_slice.result.now) c.as_str.ensures.same
    ∙ ap (λ (bs : List Balance). position_or_len (has_name c.args.stream.now) bs) c.as_slice.ensures.value in
    let within : c.place_named-place.result < length c.self.inside.accounts.items =
    subst (λ n. n < length c.self.inside.accounts.items) (sym at) (place_within b c.self.inside.accounts.items c.args.stream.now refl (configured_stands (sum_in b) c.args.stream.now c.args.requested c.args.delivery c.args.description fits)) in
    omega (arith, c.self.inside.accounts.ok)

change : (c : goal.After-self-1) → IsChange (books_in c.self.inside.store_id c.self.inside.accounts.items c.self.inside.created.items c.self.inside.published.items c.self.inside.refused.reported) (Configured c.args.stream.now c.args.requested c.args.delivery c.args.description) nothing_said
    (map owing_in (set c.self.inside.accounts.items c.place_named-place.result c.configure.new.self))
change c =
    let b : Books = books_in c.self.inside.store_id c.self.inside.accounts.items c.self.inside.created.items c.self.inside.published.items c.self.inside.refused.reported in
    let f : Fact = Configured c.args.stream.now c.args.requested c.args.delivery c.args.description in
    let fits : Fits (sum_in b) f = subst (λ (h : Held). Fits (sum_in h.books) f) (sym c.self.view_is) c.requires in
    let at : c.place_named-place.result ≡ position_or_len (has_name c.args.stream.now) c.self.inside.accounts.items =
    c.place_named-place.ensures ∙ ap (λ n. position_or_len (has_name n) c.as_slice.result.now) c.as_str.ensures.same
    ∙ ap (λ (bs : List Balance). position_or_len (has_name c.args.stream.now) bs) c.as_slice.ensures.value in
    let within : c.place_named-place.result < length c.self.inside.accounts.items =
    subst (λ n. n < length c.self.inside.accounts.items) (sym at) (place_within b c.self.inside.accounts.items c.args.stream.now refl (configured_stands (sum_in b) c.args.stream.now c.args.requested c.args.delivery c.args.description fits)) in
    change_here b c.self.inside.accounts.items f nothing_said c.args.stream.now
    (λ (o : Owing). owing_with (with_conf (configured c.args.requested c.args.delivery c.args.description o.stream.conf) o.stream) o)
    c.place_named-place.result c.index_mut.result.now c.configure.new.self
    (record { kept = c.self.invariant.0; fits = fits; says = λ s told. tt; placed = tt; by = tt; reported = record { same = refl; known = tt } }) refl refl refl refl
    (configured_all c.args.stream.now c.args.requested c.args.delivery c.args.description nothing_said) at within c.index_mut.ensures.value c.configure.ensures

pub invariant_of-self : goal.invariant_of-self
invariant_of-self c = (
  change_kept _ _ _ _ (change c),
  c.self.invariant.1,
  subst (IsListening c.self.inside.listeners)
      (sym (lists_kept c.self.inside.accounts.items c.place_named-place.result c.index_mut.result.now c.configure.new.self c.index_mut.ensures.value (ap list_of c.configure.ensures)))
      c.self.invariant.2,
)

pub returns : goal.returns
returns c =
    change_sum _ _ _ _ (change c)
    ∙ ap (λ (h : Held). sum_of (sum_in h.books) ((Configured c.args.stream.now c.args.requested c.args.delivery c.args.description) ∷ [])) c.self.view_is
