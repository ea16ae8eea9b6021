use Rattle.std.proofs.Common.{◌≡◌, ◌∙◌, ap, sym, subst, ◌<◌, List, [], ◌∷◌, map, length, refl, arith}
use Rattle.std.specs.List.{position_or_len}
use Rattle.std.proofs.Math.ListN.{set}
use Rattle.sig_terms.specs.declared.fact.Fact.{Fact}
use Rattle.sig_history.specs.Owed.{sum_of}
use Rattle.sig_history.specs.Sound.{Fits}
use Rattle.sig_accounts.specs.Owings.{Balance, Owing, has_name, owing_in}
use Rattle.sig_ledger.specs.Books.{Books, sum_in}
use Rattle.sig_ledger.specs.Room.{Held}
use Rattle.sig_terms.specs.declared.fact.Fact.TheVariants.{Listed}
use Rattle.sig_history.specs.Streams.{list_added, with_listed}
use Rattle.sig_accounts.specs.Owings.{owing_with, subjects_in}
use Rattle.sig_accounts.proofs.ChangeLemmas.{listed_all}
use Rattle.sig_history.specs.Streams.{is_named}
use Rattle.sig_ledger.specs.Room.{HaveRoom}
use Rattle.sig_ledger.proofs.ChangedBooks.{held_room}
use Rattle.sig_ledger.proofs.RoomLemmas.{rooms_held}
use Rattle.sig_accounts.proofs.ChangeLemmas.{room_at}
use Rattle.sig_ledger.proofs.ChangedBooks.{IsChange, apt_by, books_in, change_here, change_kept, change_sum, nothing_said, place_within}
use Rattle.sig_accounts.specs.Listening.{IsListening, room_for}
use Rattle.sig_accounts.specs.Owings.{list_of}
use Rattle.sig_accounts.proofs.ListeningLemmas.{list_at, lists_set}
use Rattle.sig_ledger.proofs.ledger.Ledger.list.Goals as goal

pub index_mut-requires : goal.index_mut-requires
index_mut-requires c =
    let b : Books = books_in c.self.inside.store_id c.self.inside.accounts.items c.self.inside.created.items c.self.inside.published.items c.self.inside.refused.reported in
    let f : Fact = Listed c.args.stream.now c.args.subject in
    let fits : Fits (sum_in b) f = subst (λ (h : Held). Fits (sum_in h.books) f) (sym c.self.view_is) c.requires.fits in
    let at : c.place_named-place.result ≡ position_or_len (has_name c.args.stream.now) c.self.inside.accounts.items =
    c.place_named-place.ensures ∙ ap (λ n. position_or_len (has_name n) c.as_slice.result.now) c.as_str.ensures.same
    ∙ ap (λ (bs : List Balance). position_or_len (has_name c.args.stream.now) bs) c.as_slice.ensures.value in
    let within : c.place_named-place.result < length c.self.inside.accounts.items =
    subst (λ n. n < length c.self.inside.accounts.items) (sym at) (place_within b c.self.inside.accounts.items c.args.stream.now refl (apt_by (sum_in b) f fits)) in
    omega (arith, c.self.inside.accounts.ok)

pub enter-requires : goal.enter-requires
enter-requires c = subst (λ (h : Held). 0 < room_for c.args.subject h.room.listeners.lists) (sym c.self.view_is) c.requires.seat

pub list-requires : goal.list-requires
list-requires c =
    let b : Books = books_in c.self.inside.store_id c.self.inside.accounts.items c.self.inside.created.items c.self.inside.published.items c.self.inside.refused.reported in
    let f : Fact = Listed c.args.stream.now c.args.subject in
    let fits : Fits (sum_in b) f = subst (λ (h : Held). Fits (sum_in h.books) f) (sym c.self.view_is) c.requires.fits in
    let at : c.place_named-place.result ≡ position_or_len (has_name c.args.stream.now) c.self.inside.accounts.items =
    c.place_named-place.ensures ∙ ap (λ n. position_or_len (has_name n) c.as_slice.result.now) c.as_str.ensures.same
    ∙ ap (λ (bs : List Balance). position_or_len (has_name c.args.stream.now) bs) c.as_slice.ensures.value in
    let within : c.place_named-place.result < length c.self.inside.accounts.items =
    subst (λ n. n < length c.self.inside.accounts.items) (sym at) (place_within b c.self.inside.accounts.items c.args.stream.now refl (apt_by (sum_in b) f fits)) in
    room_at c.args.stream.now subjects_in c.self.inside.accounts.items c.place_named-place.result c.index_mut.result.now at within c.index_mut.ensures.value
    (rooms_held (is_named c.args.stream.now) subjects_in c.self.inside.accounts.items (held_room b c.args.stream.now (map subjects_in c.self.inside.accounts.items)
    (subst (λ (h : Held). HaveRoom (is_named c.args.stream.now) (sum_in h.books).parts.streams h.room.subjects) (sym c.self.view_is) c.requires.room)))

change : (c : goal.After-self-1) → IsChange (books_in c.self.inside.store_id c.self.inside.accounts.items c.self.inside.created.items c.self.inside.published.items c.self.inside.refused.reported) (Listed c.args.stream.now c.args.subject) nothing_said
    (map owing_in (set c.self.inside.accounts.items c.place_named-place.result c.list.new.self))
change c =
    let b : Books = books_in c.self.inside.store_id c.self.inside.accounts.items c.self.inside.created.items c.self.inside.published.items c.self.inside.refused.reported in
    let f : Fact = Listed c.args.stream.now c.args.subject in
    let fits : Fits (sum_in b) f = subst (λ (h : Held). Fits (sum_in h.books) f) (sym c.self.view_is) c.requires.fits in
    let at : c.place_named-place.result ≡ position_or_len (has_name c.args.stream.now) c.self.inside.accounts.items =
    c.place_named-place.ensures ∙ ap (λ n. position_or_len (has_name n) c.as_slice.result.now) c.as_str.ensures.same
    ∙ ap (λ (bs : List Balance). position_or_len (has_name c.args.stream.now) bs) c.as_slice.ensures.value in
    let within : c.place_named-place.result < length c.self.inside.accounts.items =
    subst (λ n. n < length c.self.inside.accounts.items) (sym at) (place_within b c.self.inside.accounts.items c.args.stream.now refl (apt_by (sum_in b) f fits)) in
    change_here b c.self.inside.accounts.items f nothing_said c.args.stream.now
    (λ (o : Owing). owing_with (with_listed (list_added c.args.subject o.stream.listed) o.stream) o)
    c.place_named-place.result c.index_mut.result.now c.list.new.self
    (record { kept = c.self.invariant.0; fits = fits; says = λ s told. tt; placed = tt; by = tt; reported = record { same = refl; known = tt } }) refl refl refl refl
    (listed_all c.args.stream.now c.args.subject nothing_said) at within c.index_mut.ensures.value c.list.ensures

listening : (c : goal.After-self-1) → IsListening c.enter.new.self (map list_of (map owing_in (set c.self.inside.accounts.items c.place_named-place.result c.list.new.self)))
listening c =
    let b : Books = books_in c.self.inside.store_id c.self.inside.accounts.items c.self.inside.created.items c.self.inside.published.items c.self.inside.refused.reported in
    let f : Fact = Listed c.args.stream.now c.args.subject in
    let fits : Fits (sum_in b) f = subst (λ (h : Held). Fits (sum_in h.books) f) (sym c.self.view_is) c.requires.fits in
    let at : c.place_named-place.result ≡ position_or_len (has_name c.args.stream.now) c.self.inside.accounts.items =
    c.place_named-place.ensures ∙ ap (λ n. position_or_len (has_name n) c.as_slice.result.now) c.as_str.ensures.same
    ∙ ap (λ (bs : List Balance). position_or_len (has_name c.args.stream.now) bs) c.as_slice.ensures.value in
    let within : c.place_named-place.result < length c.self.inside.accounts.items =
    subst (λ n. n < length c.self.inside.accounts.items) (sym at) (place_within b c.self.inside.accounts.items c.args.stream.now refl (apt_by (sum_in b) f fits)) in
    let lists = map list_of (map owing_in c.self.inside.accounts.items) in
    subst (IsListening c.enter.new.self)
    (sym (lists_set c.self.inside.accounts.items c.place_named-place.result c.list.new.self ∙ ap (set lists c.place_named-place.result) (ap list_of c.list.ensures)))
    (c.enter.ensures lists c.index_mut.result.now.owing.stream.listed
    (list_at c.self.inside.accounts.items c.place_named-place.result c.index_mut.result.now within c.index_mut.ensures.value) c.self.invariant.2)

pub invariant_of-self : goal.invariant_of-self
invariant_of-self c = (change_kept _ _ _ _ (change c), c.self.invariant.1, listening c)

pub returns : goal.returns
returns c =
    change_sum _ _ _ _ (change c)
    ∙ ap (λ (h : Held). sum_of (sum_in h.books) ((Listed c.args.stream.now c.args.subject) ∷ [])) c.self.view_is
