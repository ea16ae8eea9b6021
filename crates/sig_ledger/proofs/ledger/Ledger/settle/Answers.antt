use Rattle.std.proofs.Common.{◌≡◌, ◌∙◌, ap, sym, subst, ◌<◌, List, [], ◌∷◌, map, length, ◌++◌, append-nil, refl, arith}
use Rattle.std.specs.List.{position_or_len}
use Rattle.std.proofs.Math.ListN.{set}
use Rattle.sig_terms.specs.declared.fact.Fact.{Fact}
use Rattle.sig_history.specs.Owed.{sum_of}
use Rattle.sig_history.specs.Sound.{Fits}
use Rattle.sig_accounts.specs.Owings.{Balance, has_name, owing_in}
use Rattle.sig_ledger.specs.Books.{AreKept, Books, sum_in}
use Rattle.sig_ledger.specs.Room.{AreReported, Held}
use Rattle.std.specs.List.{list_any}
use Rattle.std.specs.Prelude.{nat_eq}
use Rattle.sig_terms.specs.declared.fact.Fact.TheVariants.{Settled}
use Rattle.sig_terms.specs.declared.fact.SettledItem.{SettledItem}
use Rattle.sig_accounts.specs.Owings.{owing_settled}
use Rattle.sig_accounts.specs.Owings.{AreNumbers}
use Rattle.sig_accounts.proofs.ChangeLemmas.{changed_at, settled_all}
use Rattle.sig_accounts.specs.Owings.{Owing, owing_after}
use Rattle.sig_accounts.specs.Reported.{Reported}
use Rattle.sig_history.specs.Streams.{Publication}
use Rattle.sig_ledger.proofs.ChangedBooks.{settled_stands}
use Rattle.sig_ledger.proofs.ChangedBooks.{books_in, distinct_in, nothing_said, place_within}
use Rattle.sig_ledger.proofs.TakenBooks.{MayTakeWith, taken_with, taken_with_kept, taken_with_sum}
use Rattle.sig_accounts.specs.Listening.{IsListening}
use Rattle.sig_accounts.specs.Owings.{list_of}
use Rattle.sig_accounts.proofs.ListeningLemmas.{lists_kept}
use Rattle.sig_ledger.proofs.ledger.Ledger.settle.Goals as goal

pub index_mut-requires : goal.index_mut-requires
index_mut-requires c =
    let items : List SettledItem = c.requires.fits.0 in
    let b : Books = books_in c.self.inside.store_id c.self.inside.accounts.items c.self.inside.created.items c.self.inside.published.items c.self.inside.refused.reported in
    let f : Fact = Settled c.args.stream.now items in
    let fits : Fits (sum_in b) f = subst (λ (h : Held). Fits (sum_in h.books) f) (sym c.self.view_is) c.requires.fits.2 in
    let at : c.place_named-place.result ≡ position_or_len (has_name c.args.stream.now) c.self.inside.accounts.items =
    c.place_named-place.ensures ∙ ap (λ n. position_or_len (has_name n) c.as_slice.result.now) c.as_str.ensures.same
    ∙ ap (λ (bs : List Balance). position_or_len (has_name c.args.stream.now) bs) c.as_slice.ensures.value in
    let within : c.place_named-place.result < length c.self.inside.accounts.items =
    subst (λ n. n < length c.self.inside.accounts.items) (sym at) (place_within b c.self.inside.accounts.items c.args.stream.now refl (settled_stands (sum_in b) c.args.stream.now items fits)) in
    omega (arith, c.self.inside.accounts.ok)

abbrev books : goal.After-take_in → Books
books c = books_in c.self.inside.store_id c.self.inside.accounts.items c.self.inside.created.items c.self.inside.published.items c.self.inside.refused.reported

may : (c : goal.After-take_in) (items : List SettledItem) → Fits (sum_in c.args.self.now.books) (Settled c.args.stream.now items)
    → AreReported (sum_in c.args.self.now.books) (Settled c.args.stream.now items) c.args.reported.items
    → MayTakeWith (books c) (Settled c.args.stream.now items) nothing_said c.args.reported.items
may c items fitting reported = record {
  kept = c.self.invariant.0;
  fits = subst (λ (h : Held). Fits (sum_in h.books) (Settled c.args.stream.now items)) (sym c.self.view_is) fitting;
  says = λ s told. tt;
  placed = tt;
  by = tt;
  reported = subst (λ (h : Held). AreReported (sum_in h.books) (Settled c.args.stream.now items) c.args.reported.items) (sym c.self.view_is) reported;
}

-- the books then are without them, and have those that were reported
settled : (c : goal.After-take_in) (items : List SettledItem) → AreNumbers c.args.numbers.now.keys items
    → (taking : MayTakeWith (books c) (Settled c.args.stream.now items) nothing_said c.args.reported.items)
    → record {
      store_id = c.self.inside.store_id;
      owings = map owing_in (set c.self.inside.accounts.items c.place_named-place.result c.settle.new.self);
      created = c.self.inside.created.items;
      published = c.self.inside.published.items;
      refused = c.take_in.new.self.reported;
    } ≡ taken_with (books c) (Settled c.args.stream.now items) nothing_said c.args.reported.items
settled c items same taking =
    let b : Books = books c in
    let f : Fact = Settled c.args.stream.now items in
    let fits : Fits (sum_in b) f = taking.fits in
    let at : c.place_named-place.result ≡ position_or_len (has_name c.args.stream.now) c.self.inside.accounts.items =
    c.place_named-place.ensures ∙ ap (λ n. position_or_len (has_name n) c.as_slice.result.now) c.as_str.ensures.same
    ∙ ap (λ (bs : List Balance). position_or_len (has_name c.args.stream.now) bs) c.as_slice.ensures.value in
    let within : c.place_named-place.result < length c.self.inside.accounts.items =
    subst (λ n. n < length c.self.inside.accounts.items) (sym at) (place_within b c.self.inside.accounts.items c.args.stream.now refl (settled_stands (sum_in b) c.args.stream.now items fits)) in
    let owings : map owing_in (set c.self.inside.accounts.items c.place_named-place.result c.settle.new.self) ≡ map (owing_after f nothing_said) b.owings =
    changed_at c.args.stream.now (owing_settled (λ n. list_any (nat_eq n) c.args.numbers.now.keys)) c.self.inside.accounts.items c.place_named-place.result
    c.index_mut.result.now c.settle.new.self at within c.index_mut.ensures.value c.settle.ensures
    ∙ settled_all c.args.stream.now c.args.numbers.now.keys items nothing_said b.owings same (distinct_in b taking.kept) in
    let with : List Owing → List Publication → Reported → Books = λ os ps r. record {
      store_id = c.self.inside.store_id;
      owings = os;
      created = c.self.inside.created.items;
      published = ps;
      refused = r;
    } in
    ap (λ os. with os c.self.inside.published.items c.take_in.new.self.reported) owings
    ∙ ap (λ ps. with (map (owing_after f nothing_said) b.owings) ps c.take_in.new.self.reported) (sym (append-nil c.self.inside.published.items))
    ∙ ap (with (map (owing_after f nothing_said) b.owings) (c.self.inside.published.items ++ [])) c.take_in.ensures

pub invariant_of-self : goal.invariant_of-self
invariant_of-self c =
    let taking = may c c.requires.fits.0 c.requires.fits.2 c.requires.fits.3 in (
      subst AreKept (sym (settled c c.requires.fits.0 c.requires.fits.1 taking)) (taken_with_kept (books c) _ nothing_said c.args.reported.items taking),
      c.self.invariant.1,
      subst (IsListening c.self.inside.listeners)
          (sym (lists_kept c.self.inside.accounts.items c.place_named-place.result c.index_mut.result.now c.settle.new.self c.index_mut.ensures.value (ap list_of c.settle.ensures)))
          c.self.invariant.2,
    )

pub returns : goal.returns
returns c = λ items same fitting reported.
    let taking = may c items fitting reported in
    ap sum_in (settled c items same taking) ∙ taken_with_sum (books c) _ nothing_said c.args.reported.items taking
    ∙ ap (λ (h : Held). sum_of (sum_in h.books) ((Settled c.args.stream.now items) ∷ [])) c.self.view_is
