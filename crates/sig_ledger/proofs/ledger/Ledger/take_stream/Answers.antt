use Rattle.std.proofs.Common.{◌≡◌, ◌∙◌, ap, sym, subst, List, [], ◌∷◌, ℕ, ◌+◌, ◌<◌, Some, map, refl, arith}
use Rattle.std.specs.Prelude.{is_some}
use Rattle.sig_history.specs.Streams.{Count, client_in, created_by, count_one}
use Rattle.sig_history.specs.Facts.{new_stream}
use Rattle.sig_history.specs.Owed.{sum_of}
use Rattle.sig_history.specs.Sound.{Fits}
use Rattle.sig_history.proofs.WholeLemmas.{fits_brings}
use Rattle.sig_json.specs.declared.limits.TheConstants.{LAST_NUMBER}
use Rattle.sig_terms.specs.declared.fact.Fact.TheVariants.{Created}
use Rattle.sig_accounts.specs.Owings.{Balance, Owing, opened, owing_in, put_owing}
use Rattle.sig_ledger.specs.Books.{AreKept, Books, sum_in}
use Rattle.sig_ledger.specs.Room.{Held}
use Rattle.sig_ledger.proofs.ChangedBooks.{books_in, nothing_said, put_owings, stream_for, with_stream, with_stream_is}
use Rattle.sig_ledger.proofs.TakenBooks.{MayTake, taken_kept, taken_sum}
use Rattle.std.specs.List.{insert}
use Rattle.sig_accounts.specs.Listening.{IsListening}
use Rattle.sig_accounts.specs.Owings.{list_of}
use Rattle.sig_accounts.proofs.ListeningLemmas.{lists_long, lists_put}
use Rattle.sig_ledger.proofs.ledger.Ledger.take_stream.Goals as goal

some_same : (a b : List ℕ) → Some a ≡ Some b → a ≡ b
some_same a b same = cc

pub into_names-client-requires : goal.into_names-client-requires
into_names-client-requires c = ap is_some (c.requires.room 0).spare.1

pub open-account-requires : goal.open-account-requires
open-account-requires c = some_same _ _ (c.into_names-client.ensures.name ∙ (c.requires.room 0).spare.1)

pub overflow_add-number : goal.overflow_add-number
overflow_add-number c =
    let b : Books = books_in c.self.inside.store_id c.self.inside.accounts.items c.self.inside.created.items c.self.inside.published.items c.self.inside.refused.reported in
    let name : c.into_names-client.result.0 ≡ client_in c.args.conf.stream = c.into_names-client.ensures.client ∙ (c.requires.room 0).spare.0 in
    let number : c.created_by-number.result ≡ created_by (client_in c.args.conf.stream) c.self.inside.created.items =
    c.created_by-number.ensures ∙ ap (created_by c.into_names-client.result.0) c.as_slice.ensures.value
    ∙ ap (λ (n : List ℕ). created_by n c.self.inside.created.items) name in
    let fits : Fits (sum_in b) (Created c.args.conf 0) =
    subst (λ (h : Held). Fits (sum_in h.books) (Created c.args.conf 0)) (sym c.self.view_is) (c.requires.fits 0) in
    let below : created_by (client_in c.args.conf.stream) c.self.inside.created.items < LAST_NUMBER = (fits_brings (sum_in b) (Created c.args.conf 0) fits).below in
    omega (arith, number)

pub put_account-place-requires : goal.put_account-place-requires
put_account-place-requires c =
    let some : 0 < c.args.self.now.room.streams = (c.requires.room 0).space.0 in
    omega (arith, some, ap (λ (h : Held). h.room.streams) c.self.view_is)

pub open-requires-clause-within : goal.open-requires-clause-within
open-requires-clause-within c =
    omega (arith, c.put_account-place.ensures.within, c.self.invariant.2.long, lists_long c.self.inside.accounts.items)

pub open-requires-clause-room : goal.open-requires-clause-room
open-requires-clause-room c =
    subst (λ (h : Held). 0 < h.room.listeners.room) (sym c.self.view_is) (c.requires.room 0).space.2

pub count_one-requires-clause-room : goal.count_one-requires-clause-room
count_one-requires-clause-room c =
    let some : 0 < c.args.self.now.room.created = (c.requires.room 0).space.1 in
    omega (arith, some, ap (λ (h : Held). h.room.created) c.self.view_is)

pub count_one-requires-clause-number : goal.count_one-requires-clause-number
count_one-requires-clause-number c =
    let b : Books = books_in c.self.inside.store_id c.self.inside.accounts.items c.self.inside.created.items c.self.inside.published.items c.self.inside.refused.reported in
    let name : c.into_names-client.result.0 ≡ client_in c.args.conf.stream = c.into_names-client.ensures.client ∙ (c.requires.room 0).spare.0 in
    let fits : Fits (sum_in b) (Created c.args.conf 0) =
    subst (λ (h : Held). Fits (sum_in h.books) (Created c.args.conf 0)) (sym c.self.view_is) (c.requires.fits 0) in
    let below : created_by (client_in c.args.conf.stream) c.self.inside.created.items < LAST_NUMBER = (fits_brings (sum_in b) (Created c.args.conf 0) fits).below in
    let same : created_by c.into_names-client.result.0 c.self.inside.created.items ≡ created_by (client_in c.args.conf.stream) c.self.inside.created.items =
    ap (λ (n : List ℕ). created_by n c.self.inside.created.items) name in
    omega (arith, same)

-- the books then have the stream
brought : (c : goal.After-count_one) → books_in c.self.inside.store_id c.put_account-place.new.accounts.items c.count_one.new.created.items c.self.inside.published.items c.self.inside.refused.reported
    ≡ with_stream (books_in c.self.inside.store_id c.self.inside.accounts.items c.self.inside.created.items c.self.inside.published.items c.self.inside.refused.reported) c.args.conf
brought c =
    let b : Books = books_in c.self.inside.store_id c.self.inside.accounts.items c.self.inside.created.items c.self.inside.published.items c.self.inside.refused.reported in
    let name : c.into_names-client.result.0 ≡ client_in c.args.conf.stream = c.into_names-client.ensures.client ∙ (c.requires.room 0).spare.0 in
    let number : c.created_by-number.result ≡ created_by (client_in c.args.conf.stream) c.self.inside.created.items =
    c.created_by-number.ensures ∙ ap (created_by c.into_names-client.result.0) c.as_slice.ensures.value
    ∙ ap (λ (n : List ℕ). created_by n c.self.inside.created.items) name in
    let put : map owing_in c.put_account-place.new.accounts.items ≡ put_owing (opened (stream_for b c.args.conf)) b.owings =
    ap (map owing_in) c.put_account-place.ensures.items ∙ put_owings c.open-account.result c.self.inside.accounts.items
    ∙ ap (λ (a : Balance). put_owing a.owing b.owings) c.open-account.ensures
    ∙ ap (λ (k : ℕ). put_owing (opened (new_stream (client_in c.args.conf.stream) (k + 1) c.args.conf)) b.owings) number in
    let counted : c.count_one.new.created.items ≡ count_one (client_in c.args.conf.stream) c.self.inside.created.items =
    c.count_one.ensures ∙ ap (λ (n : List ℕ). count_one n c.self.inside.created.items) name in
    let with : List Owing → List Count → Books = λ os cs. record { store_id = c.self.inside.store_id; owings = os; created = cs; published = c.self.inside.published.items; refused = c.self.inside.refused.reported } in
    ap (λ l. with l c.count_one.new.created.items) put ∙ ap (with (put_owing (opened (stream_for b c.args.conf)) b.owings)) counted

may_bring : (c : goal.After-count_one) (time : ℕ)
    → MayTake (books_in c.self.inside.store_id c.self.inside.accounts.items c.self.inside.created.items c.self.inside.published.items c.self.inside.refused.reported) (Created c.args.conf time) nothing_said
may_bring c time = record {
  kept = c.self.invariant.0;
  fits = subst (λ (h : Held). Fits (sum_in h.books) (Created c.args.conf time)) (sym c.self.view_is) (c.requires.fits time);
  says = λ s told. tt;
  placed = tt;
  by = tt;
  reported = record { same = refl; known = tt };
}

listening : (c : goal.After-count_one) → IsListening c.open.new.self (map list_of (map owing_in c.put_account-place.new.accounts.items))
listening c =
    let lists = map list_of (map owing_in c.self.inside.accounts.items) in
    subst (IsListening c.open.new.self)
    (sym (ap (λ (bs : List Balance). map list_of (map owing_in bs)) c.put_account-place.ensures.place
    ∙ lists_put c.self.inside.accounts.items c.put_account-place.result c.open-account.result
    ∙ ap (λ (a : Balance). insert lists c.put_account-place.result a.owing.stream.listed) c.open-account.ensures))
    (c.open.ensures lists c.self.invariant.2)

pub invariant_of-self : goal.invariant_of-self
invariant_of-self c =
    (subst AreKept (sym (brought c ∙ with_stream_is _ c.args.conf 0)) (taken_kept _ (Created c.args.conf 0) nothing_said (may_bring c 0)), c.self.invariant.1, listening c)

pub returns : goal.returns
returns c = λ time.
    ap sum_in (brought c ∙ with_stream_is _ c.args.conf time) ∙ taken_sum _ (Created c.args.conf time) nothing_said (may_bring c time)
    ∙ ap (λ (h : Held). sum_of (sum_in h.books) (Created c.args.conf time ∷ [])) c.self.view_is
