use Rattle.std.proofs.Common.{◌≡◌, ◌∙◌, ap, sym, subst, ℕ, ◌<◌, List, [], ◌∷◌, map, length, refl, arith}
use Rattle.std.specs.List.{position_or_len}
use Rattle.std.proofs.Math.ListN.{set}
use Rattle.sig_terms.specs.declared.fact.Fact.{Fact}
use Rattle.sig_history.specs.Owed.{sum_of}
use Rattle.sig_history.specs.Sound.{Fits}
use Rattle.sig_accounts.specs.Owings.{Balance, Owing, has_name, owing_in}
use Rattle.sig_ledger.specs.Books.{Books, sum_in}
use Rattle.sig_ledger.specs.Room.{Held}
use Rattle.std.proofs.Common.{Bool}
use Rattle.sig_terms.specs.declared.fact.Fact.TheVariants.{StatusSet}
use Rattle.sig_accounts.specs.declared.debt.Notice.{Notice}
use Rattle.sig_accounts.specs.declared.debt.Said.TheVariants as said
use Rattle.std.specs.Prelude.{Option}
use Rattle.sig_accounts.specs.Owings.{notice_for, owing_noted, owing_set, room_in}
use Rattle.sig_accounts.proofs.ChangeLemmas.{status_all}
use Rattle.sig_ledger.proofs.ChangedBooks.{may_set}
use Rattle.sig_history.specs.Streams.{is_named}
use Rattle.sig_ledger.specs.Room.{HaveRoom}
use Rattle.sig_ledger.proofs.ChangedBooks.{held_room}
use Rattle.sig_ledger.proofs.RoomLemmas.{rooms_held}
use Rattle.sig_accounts.proofs.ChangeLemmas.{room_at}
use Rattle.sig_ledger.proofs.RoomLemmas.{tops_below}
use Rattle.sig_accounts.proofs.ChangeLemmas.{top_at}
use Rattle.sig_ledger.proofs.ChangedBooks.{IsChange, apt_by, books_in, change_here, change_kept, change_sum, place_within}
use Rattle.sig_accounts.specs.Listening.{IsListening}
use Rattle.sig_accounts.specs.Owings.{list_of}
use Rattle.sig_accounts.proofs.ListeningLemmas.{list_noted, lists_kept}
use Rattle.sig_ledger.proofs.ledger.Ledger.set_status.Goals as goal

pub index_mut-requires : goal.index_mut-requires
index_mut-requires c =
    let operator : Bool = c.requires.fits.0 in
    let time : ℕ = c.requires.fits.1 in
    let b : Books = books_in c.self.inside.store_id c.self.inside.accounts.items c.self.inside.created.items c.self.inside.published.items c.self.inside.refused.reported in
    let f : Fact = StatusSet c.args.stream.now c.args.status c.args.reason operator time in
    let fits : Fits (sum_in b) f = subst (λ (h : Held). Fits (sum_in h.books) f) (sym c.self.view_is) c.requires.fits.3 in
    let at : c.place_named-place.result ≡ position_or_len (has_name c.args.stream.now) c.self.inside.accounts.items =
    c.place_named-place.ensures ∙ ap (λ n. position_or_len (has_name n) c.as_slice.result.now) c.as_str.ensures.same
    ∙ ap (λ (bs : List Balance). position_or_len (has_name c.args.stream.now) bs) c.as_slice.ensures.value in
    let within : c.place_named-place.result < length c.self.inside.accounts.items =
    subst (λ n. n < length c.self.inside.accounts.items) (sym at) (place_within b c.self.inside.accounts.items c.args.stream.now refl (apt_by (sum_in b) f fits)) in
    omega (arith, c.self.inside.accounts.ok)

pub note_status-requires-clause-room : goal.note_status-requires-clause-room
note_status-requires-clause-room c = λ some.
    let operator : Bool = c.requires.fits.0 in
    let time : ℕ = c.requires.fits.1 in
    let b : Books = books_in c.self.inside.store_id c.self.inside.accounts.items c.self.inside.created.items c.self.inside.published.items c.self.inside.refused.reported in
    let f : Fact = StatusSet c.args.stream.now c.args.status c.args.reason operator time in
    let fits : Fits (sum_in b) f = subst (λ (h : Held). Fits (sum_in h.books) f) (sym c.self.view_is) c.requires.fits.3 in
    let at : c.place_named-place.result ≡ position_or_len (has_name c.args.stream.now) c.self.inside.accounts.items =
    c.place_named-place.ensures ∙ ap (λ n. position_or_len (has_name n) c.as_slice.result.now) c.as_str.ensures.same
    ∙ ap (λ (bs : List Balance). position_or_len (has_name c.args.stream.now) bs) c.as_slice.ensures.value in
    let within : c.place_named-place.result < length c.self.inside.accounts.items =
    subst (λ n. n < length c.self.inside.accounts.items) (sym at) (place_within b c.self.inside.accounts.items c.args.stream.now refl (apt_by (sum_in b) f fits)) in
    room_at c.args.stream.now room_in c.self.inside.accounts.items c.place_named-place.result c.index_mut.result.now at within c.index_mut.ensures.value
    (rooms_held (is_named c.args.stream.now) room_in c.self.inside.accounts.items (held_room b c.args.stream.now (map room_in c.self.inside.accounts.items)
    (subst (λ (h : Held). HaveRoom (is_named c.args.stream.now) (sum_in h.books).parts.streams h.room.tokens) (sym c.self.view_is) (c.requires.room some))))

pub note_status-requires-clause-number : goal.note_status-requires-clause-number
note_status-requires-clause-number c =
    let operator : Bool = c.requires.fits.0 in
    let time : ℕ = c.requires.fits.1 in
    let b : Books = books_in c.self.inside.store_id c.self.inside.accounts.items c.self.inside.created.items c.self.inside.published.items c.self.inside.refused.reported in
    let f : Fact = StatusSet c.args.stream.now c.args.status c.args.reason operator time in
    let fits : Fits (sum_in b) f = subst (λ (h : Held). Fits (sum_in h.books) f) (sym c.self.view_is) c.requires.fits.3 in
    let at : c.place_named-place.result ≡ position_or_len (has_name c.args.stream.now) c.self.inside.accounts.items =
    c.place_named-place.ensures ∙ ap (λ n. position_or_len (has_name n) c.as_slice.result.now) c.as_str.ensures.same
    ∙ ap (λ (bs : List Balance). position_or_len (has_name c.args.stream.now) bs) c.as_slice.ensures.value in
    let within : c.place_named-place.result < length c.self.inside.accounts.items =
    subst (λ n. n < length c.self.inside.accounts.items) (sym at) (place_within b c.self.inside.accounts.items c.args.stream.now refl (apt_by (sum_in b) f fits)) in
    top_at c.self.inside.accounts.items c.place_named-place.result c.index_mut.result.now within c.index_mut.ensures.value
    (tops_below c.self.inside.store_id c.self.inside.published.items c.self.inside.created.items c.self.inside.accounts.items c.self.invariant.0.whole)

change : (c : goal.After-self-1) (operator : Bool) (time : ℕ) → c.args.notice ≡ notice_for c.args.status c.args.reason operator time → Fits (sum_in c.args.self.now.books) (StatusSet c.args.stream.now c.args.status c.args.reason operator time) → IsChange (books_in c.self.inside.store_id c.self.inside.accounts.items c.self.inside.created.items c.self.inside.published.items c.self.inside.refused.reported) (StatusSet c.args.stream.now c.args.status c.args.reason operator time) (said.Updated c.args.status c.args.reason)
    (map owing_in (set c.self.inside.accounts.items c.place_named-place.result c.note_status.new.self))
change c operator time is fitting =
    let b : Books = books_in c.self.inside.store_id c.self.inside.accounts.items c.self.inside.created.items c.self.inside.published.items c.self.inside.refused.reported in
    let f : Fact = StatusSet c.args.stream.now c.args.status c.args.reason operator time in
    let fits : Fits (sum_in b) f = subst (λ (h : Held). Fits (sum_in h.books) f) (sym c.self.view_is) fitting in
    let at : c.place_named-place.result ≡ position_or_len (has_name c.args.stream.now) c.self.inside.accounts.items =
    c.place_named-place.ensures ∙ ap (λ n. position_or_len (has_name n) c.as_slice.result.now) c.as_str.ensures.same
    ∙ ap (λ (bs : List Balance). position_or_len (has_name c.args.stream.now) bs) c.as_slice.ensures.value in
    let within : c.place_named-place.result < length c.self.inside.accounts.items =
    subst (λ n. n < length c.self.inside.accounts.items) (sym at) (place_within b c.self.inside.accounts.items c.args.stream.now refl (apt_by (sum_in b) f fits)) in
    change_here b c.self.inside.accounts.items f (said.Updated c.args.status c.args.reason) c.args.stream.now
    (λ (o : Owing). owing_noted (notice_for c.args.status c.args.reason operator time) (owing_set c.args.status c.args.reason o))
    c.place_named-place.result c.index_mut.result.now c.note_status.new.self
    (may_set b c.args.stream.now c.args.status c.args.reason operator time c.self.invariant.0 fits) refl refl refl refl
    (status_all c.args.stream.now c.args.status c.args.reason operator time) at within c.index_mut.ensures.value
    (c.note_status.ensures ∙ ap (λ (n : Option Notice). owing_noted n (owing_set c.args.status c.args.reason c.index_mut.result.now.owing)) is)

pub invariant_of-self : goal.invariant_of-self
invariant_of-self c = (
  change_kept _ _ _ _ (change c c.requires.fits.0 c.requires.fits.1 c.requires.fits.2 c.requires.fits.3),
  c.self.invariant.1,
  subst (IsListening c.self.inside.listeners)
      (sym (lists_kept c.self.inside.accounts.items c.place_named-place.result c.index_mut.result.now c.note_status.new.self c.index_mut.ensures.value (ap list_of c.note_status.ensures ∙ list_noted c.args.notice (owing_set c.args.status c.args.reason c.index_mut.result.now.owing))))
      c.self.invariant.2,
)

pub returns : goal.returns
returns c = λ operator time is fitting.
    change_sum _ _ _ _ (change c operator time is fitting)
    ∙ ap (λ (h : Held). sum_of (sum_in h.books) ((StatusSet c.args.stream.now c.args.status c.args.reason operator time) ∷ [])) c.self.view_is
