use Rattle.std.proofs.Common.{◌≡◌, ◌∙◌, ap, sym, subst, List, ℕ, ◌<◌, [], ◌∷◌, ◌++◌, Bool, map, length, take, drop, arith, All, IsOk, if◌then◌else◌}
use Rattle.std.specs.Prelude.{vec_len, vec_capacity}
use Rattle.sig_event.specs.declared.news.News.{News}
use Rattle.sig_terms.specs.declared.fact.Fact.{Fact}
use Rattle.sig_terms.specs.declared.fact.Fact.TheVariants.{Published}
use Rattle.sig_terms.specs.declared.token.Issued.{Issued}
use Rattle.sig_history.specs.Streams.{Stream, Count, Publication, is_due, issued_of}
use Rattle.sig_history.specs.Facts.{made_by}
use Rattle.sig_history.specs.Owed.{sum_of}
use Rattle.sig_history.specs.Sound.{Fits}
use Rattle.sig_accounts.specs.declared.debt.Said.{Said}
use Rattle.sig_accounts.specs.declared.debt.Said.TheVariants as said
use Rattle.sig_accounts.specs.Owings.{Balance, Owing, owing_after, owing_heard, owing_in, room_in, stream_in}
use Rattle.sig_ledger.specs.Books.{AreKept, Books, sum_in}
use Rattle.sig_accounts.specs.Reported.{Reported}
use Rattle.sig_accounts.specs.Owings.{HasRoomFor, IsBelowTop}
use Rattle.sig_ledger.specs.Room.{HaveRoom, Held}
use Rattle.sig_accounts.specs.Places.{IsIndex}
use Rattle.sig_accounts.proofs.ChangeLemmas.{heard_all}
use Rattle.sig_ledger.proofs.ChangedBooks.{books_in, may_publish}
use Rattle.sig_accounts.proofs.FoundLemmas.{book_streams}
use Rattle.std.proofs.lemmas.Option.{same_Some}
use Rattle.sig_ledger.proofs.RoomLemmas.{refilled, rooms_held, tops_below}
use Rattle.sig_ledger.proofs.TakenBooks.{MayTake, taken, taken_kept, taken_sum}
use Rattle.sig_accounts.specs.Listening.{IsListening}
use Rattle.sig_accounts.specs.Owings.{list_of}
use Rattle.sig_accounts.proofs.ListeningLemmas.{lists_heard}
use Rattle.sig_ledger.proofs.ledger.Ledger.publish.Goals as goal

-- the streams that are told are those on which the news are due
due_told : (sid : List ℕ) (bs slice : List Balance) (created : List Count) (published : List Publication) (refused : Reported) (ss : List Stream) (n : News) (told : List Bool)
    → (sum_in (books_in sid bs created published refused)).parts.streams ≡ ss → slice ≡ bs → told ≡ map (is_due n) ss
    → told ≡ map (is_due n) (map stream_in (map owing_in slice))
due_told sid bs slice created published refused ss n told same held is =
    is ∙ ap (map (is_due n)) (sym same ∙ book_streams sid published (map owing_in bs))
    ∙ ap (λ (l : List Balance). map (is_due n) (map stream_in (map owing_in l))) (sym held)

pub hear_all-requires-clause-rooms : goal.hear_all-requires-clause-rooms
hear_all-requires-clause-rooms c =
    let items : List Balance = c.self.inside.accounts.items in
    let held : HaveRoom (is_due c.args.news) (map stream_in (map owing_in items)) (map room_in items) =
    subst (λ (ss : List Stream). HaveRoom (is_due c.args.news) ss (map room_in items)) (book_streams c.self.inside.store_id c.self.inside.published.items (map owing_in items))
    (subst (λ (h : Held). HaveRoom (is_due c.args.news) (sum_in h.books).parts.streams h.room.tokens) (sym c.self.view_is) c.requires.room.tokens) in (
      is_due c.args.news,
      due_told c.self.inside.store_id c.self.inside.accounts.items c.as_mut_slice.result.now c.self.inside.created.items c.self.inside.published.items c.self.inside.refused.reported (sum_in c.args.self.now.books).parts.streams c.args.news c.into_tokens-kept.result.2
          (ap (λ (h : Held). (sum_in h.books).parts.streams) c.self.view_is) c.as_mut_slice.ensures.value (c.into_tokens-kept.ensures.told ∙ c.requires.room.told),
      subst (All (HasRoomFor (is_due c.args.news) room_in)) (sym c.as_mut_slice.ensures.value) (rooms_held (is_due c.args.news) room_in items held),
    )

pub hear_all-requires-clause-numbers : goal.hear_all-requires-clause-numbers
hear_all-requires-clause-numbers c =
    subst (All IsBelowTop) (sym c.as_mut_slice.ensures.value)
    (tops_below c.self.inside.store_id c.self.inside.published.items c.self.inside.created.items c.self.inside.accounts.items c.self.invariant.0.whole)

pub enter-requires-clause-room : goal.enter-requires-clause-room
enter-requires-clause-room c =
    let some : 0 < c.args.self.now.room.ids = c.requires.room.space.1 in
    omega (arith, some, ap (λ (h : Held). h.room.ids) c.self.view_is)

pub enter-requires-clause-index : goal.enter-requires-clause-index
enter-requires-clause-index c = subst (IsIndex c.self.inside.places.index) (sym c.as_slice.ensures.value) c.self.invariant.1

-- the books before, the fact, and what the tokens say
abbrev before : goal.After-drop-told-inside → Books
before c = books_in c.self.inside.store_id c.self.inside.accounts.items c.self.inside.created.items c.self.inside.published.items c.self.inside.refused.reported

abbrev told : goal.After-drop-told-inside → Fact
told c = Published c.args.id.now c.args.news c.args.time

abbrev says : goal.After-drop-told-inside → Said
says c = said.Published (length c.self.inside.published.items)

abbrev new : goal.After-drop-told-inside → Publication
new c = record { id = c.args.id.now; news = c.args.news; issued = map issued_of (made_by (sum_in (before c)).parts (told c)) }

may : (c : goal.After-drop-told-inside) → MayTake (before c) (told c) (says c)
may c = may_publish (before c) c.args.id.now c.args.news c.args.time c.self.invariant.0 (subst (λ (h : Held). Fits (sum_in h.books) (told c)) (sym c.self.view_is) c.requires.fits)

place : (c : goal.After-drop-told-inside) → c.len-place.result ≡ length c.self.inside.published.items
place c = omega (arith, c.len-place.ensures, c.self.inside.published.ok)

kept : (c : goal.After-drop-told-inside) → c.push.new.self.items ≡ c.self.inside.published.items ++ new c ∷ []
kept c =
    let some : 0 < c.args.self.now.room.published = c.requires.room.space.0 in
    let room : vec_len c.self.inside.published < vec_capacity c.self.inside.published = omega (arith, some, ap (λ (h : Held). h.room.published) c.self.view_is) in
    let ok : IsOk c.push.result = c.push.ensures.succeeds room in
    let issued : c.into_tokens-kept.result.1 ≡ (new c).issued =
    c.into_tokens-kept.ensures.issued ∙ c.requires.room.spare.1 ∙ ap (λ (h : Held). map issued_of (made_by (sum_in h.books).parts (told c))) (sym c.self.view_is) in
    let id : c.into_tokens-kept.result.0 ≡ c.args.id.now =
    same_Some c.into_tokens-kept.result.0 c.args.id.now (c.into_tokens-kept.ensures.id ∙ c.requires.room.spare.0) in
    c.push.ensures.items
    ∙ ap (λ t. if t then c.self.inside.published.items ++ c.of.result ∷ [] else c.self.inside.published.items) ok
    ∙ ap (λ (p : Publication). c.self.inside.published.items ++ p ∷ []) c.of.ensures
    ∙ ap (λ (k : List ℕ). c.self.inside.published.items ++ record { id = k; news = c.args.news; issued = c.into_tokens-kept.result.1 } ∷ []) id
    ∙ ap (λ (l : List Issued). c.self.inside.published.items ++ record { id = c.args.id.now; news = c.args.news; issued = l } ∷ []) issued

-- the streams are those that heard
heard : (c : goal.After-drop-told-inside) → map owing_in (take c.self.inside.accounts.len (c.hear_all.new.accounts ++ drop (length c.hear_all.new.accounts) c.self.inside.accounts.items))
    ≡ map (owing_heard c.args.news c.args.time c.len-place.result) (before c).owings
heard c =
    ap (map owing_in) (refilled c.self.inside.accounts.len c.hear_all.new.accounts c.self.inside.accounts.items (omega (arith, c.hear_all.auto.accounts, c.as_mut_slice.ensures.len)))
    ∙ c.hear_all.ensures c.args.news (due_told c.self.inside.store_id c.self.inside.accounts.items c.as_mut_slice.result.now c.self.inside.created.items c.self.inside.published.items c.self.inside.refused.reported (sum_in c.args.self.now.books).parts.streams c.args.news c.into_tokens-kept.result.2
    (ap (λ (h : Held). (sum_in h.books).parts.streams) c.self.view_is) c.as_mut_slice.ensures.value (c.into_tokens-kept.ensures.told ∙ c.requires.room.told))
    ∙ ap (λ (bs : List Balance). map (owing_heard c.args.news c.args.time c.len-place.result) (map owing_in bs)) c.as_mut_slice.ensures.value

listening : (c : goal.After-drop-told-inside) → IsListening c.self.inside.listeners
    (map list_of (map owing_in (take c.self.inside.accounts.len (c.hear_all.new.accounts ++ drop (length c.hear_all.new.accounts) c.self.inside.accounts.items))))
listening c =
    subst (IsListening c.self.inside.listeners)
    (sym (ap (map list_of) (heard c) ∙ lists_heard c.args.news c.args.time c.len-place.result (before c).owings)) c.self.invariant.2

-- the books then have the publication and its tokens
published : (c : goal.After-drop-told-inside) → record {
  store_id = c.self.inside.store_id;
  owings = map owing_in (take c.self.inside.accounts.len (c.hear_all.new.accounts ++ drop (length c.hear_all.new.accounts) c.self.inside.accounts.items));
  created = c.self.inside.created.items;
  published = c.push.new.self.items;
  refused = c.self.inside.refused.reported;
}
    ≡ taken (before c) (told c) (says c)
published c =
    let after : map owing_in (take c.self.inside.accounts.len (c.hear_all.new.accounts ++ drop (length c.hear_all.new.accounts) c.self.inside.accounts.items))
    ≡ map (owing_after (told c) (says c)) (before c).owings =
    heard c
    ∙ ap (λ (n : ℕ). map (owing_heard c.args.news c.args.time n) (before c).owings) (place c)
    ∙ heard_all c.args.id.now c.args.news c.args.time (length c.self.inside.published.items) (before c).owings in
    let with : List Owing → List Publication → Books = λ os ps. record { store_id = c.self.inside.store_id; owings = os; created = c.self.inside.created.items; published = ps; refused = c.self.inside.refused.reported } in
    ap (λ l. with l c.push.new.self.items) after ∙ ap (with (map (owing_after (told c) (says c)) (before c).owings)) (kept c)

pub invariant_of-self : goal.invariant_of-self
invariant_of-self c =
    let indexed : IsIndex c.enter.new.self.index (c.self.inside.published.items ++ new c ∷ []) =
    subst (λ (ps : List Publication). IsIndex c.enter.new.self.index (ps ++ new c ∷ [])) c.as_slice.ensures.value
    (c.enter.ensures (new c) (sym c.as_str.ensures.same)) in
    (subst AreKept (sym (published c)) (taken_kept (before c) (told c) (says c) (may c)), subst (IsIndex c.enter.new.self.index) (sym (kept c)) indexed, listening c)

pub returns : goal.returns
returns c =
    ap sum_in (published c) ∙ taken_sum (before c) (told c) (says c) (may c) ∙ ap (λ (h : Held). sum_of (sum_in h.books) (told c ∷ [])) c.self.view_is
