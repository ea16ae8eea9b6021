-- Room that is held for tokens and subjects, and numbers that are left.
use Rattle.std.proofs.Common.{◌≡◌, ◌∙◌, ap, sym, ℕ, ◌≤◌, List, [], ◌∷◌, ◌++◌, map, length, take, drop, Bool, true, false, refl, arith, All, OnOk, IfOk, Result, Ok, Err, subst, is_some, Option}
use Rattle.std.proofs.Math.Seq.{take-append_seam}
use Rattle.std.proofs.lemmas.List.Elements.{All-cons, All-nil, All-head, All-tail}
use Rattle.sig_json.specs.declared.limits.TheConstants.{LAST_NUMBER}
use Rattle.std.proofs.lemmas.Bool.{false≢true}
use Rattle.sig_event.specs.declared.status.Status.{Status}
use Rattle.sig_subject.specs.declared.subject.Subject.{Subject}
use Rattle.sig_terms.specs.declared.fact.Fact.{Fact}
use Rattle.sig_terms.specs.declared.fact.Fact.TheVariants.{Created, Configured, StatusSet, Listed, Unlisted, Deleted, Published, Settled, Asked}
use Rattle.sig_history.specs.Facts.{is_told}
use Rattle.sig_history.specs.Owed.{Sum}
use Rattle.sig_history.specs.Standings as standings
use Rattle.sig_history.specs.Streams.{Stream, Count, Parts, Publication, is_named}
use Rattle.sig_accounts.specs.declared.debt.Notice.{Notice}
use Rattle.sig_accounts.proofs.FoundLemmas.{book_streams}
use Rattle.sig_history.specs.Whole.{IsWhole}
use Rattle.sig_accounts.specs.Owings.{Balance, notice_for, owing_in, room_in, standing_of, stream_in, subjects_in}
use Rattle.sig_ledger.specs.Books.{sum_in}
use Rattle.sig_accounts.specs.Owings.{HasRoomFor, IsBelowTop}
use Rattle.sig_accounts.specs.Reported.{none_reported}
use Rattle.sig_accounts.specs.Telling.{Addressed, IsAddressed}
use Rattle.sig_ledger.specs.Room.{HasOwnSpace, HasRoom, HaveRoom, IsAddressedIn, IsSpare, Rooms, Spare, with_told}

pub rooms_held : (test : Stream → Bool) (room : Balance → ℕ) (bs : List Balance)
    → HaveRoom test (map stream_in (map owing_in bs)) (map room bs) → All (HasRoomFor test room) bs
rooms_held test room [] rooms = All-nil (HasRoomFor test room)
rooms_held test room (b ∷ bs) rooms = All-cons (HasRoomFor test room) b bs rooms.0 (rooms_held test room bs rooms.1)

pub room_holds : (test : Stream → Bool) (room : Balance → ℕ) (bs : List Balance) → All (HasRoomFor test room) bs
    → HaveRoom test (map stream_in (map owing_in bs)) (map room bs)
room_holds test room [] all = tt
room_holds test room (b ∷ bs) all =
    (All-head (HasRoomFor test room) b bs all, room_holds test room bs (All-tail (HasRoomFor test room) b bs all))

-- where no stream is of the kind, none needs room
pub none_needs : (test : Stream → Bool) (room : Balance → ℕ) → ((s : Stream) → test s ≡ false) → (bs : List Balance)
    → HaveRoom test (map stream_in (map owing_in bs)) (map room bs)
none_needs test room none [] = tt
none_needs test room none (b ∷ bs) = (λ is. let not : test b.owing.stream ≡ false = none b.owing.stream in cc, none_needs test room none bs)

-- what puts a subject on a list tells nobody, and so needs no room for tokens
pub none_listed : (sid : List ℕ) (published : List Publication) (f : Fact) (stream : List ℕ) (subject : Subject) (bs : List Balance) → f ≡ Listed stream subject
    → HaveRoom (is_told f) (map standings.stream_in (map (standing_of sid published) (map owing_in bs))) (map room_in bs)
none_listed sid published f stream subject bs is =
    subst (λ (ss : List Stream). HaveRoom (is_told f) ss (map room_in bs)) (sym (book_streams sid published (map owing_in bs)))
    (subst (λ (g : Fact). HaveRoom (is_told g) (map stream_in (map owing_in bs)) (map room_in bs)) (sym is)
    (none_needs (is_told (Listed stream subject)) room_in (λ s. refl) bs))

pub listed_room : (sid : List ℕ) (published : List Publication) (name other : List ℕ) (now bs : List Balance) → now ≡ bs → other ≡ name
    → All (HasRoomFor (is_named other) subjects_in) bs
    → HaveRoom (is_named name) (map standings.stream_in (map (standing_of sid published) (map owing_in now))) (map subjects_in now)
listed_room sid published name other now bs same is all =
    subst (λ (ss : List Stream). HaveRoom (is_named name) ss (map subjects_in now)) (sym (book_streams sid published (map owing_in now)))
    (subst (λ (l : List Balance). HaveRoom (is_named name) (map stream_in (map owing_in l)) (map subjects_in l)) (sym same)
    (subst (λ (n : List ℕ). HaveRoom (is_named n) (map stream_in (map owing_in bs)) (map subjects_in bs)) is
    (room_holds (is_named other) subjects_in bs all)))

-- where there is a notice, the operator set the status, and room is held for it
pub told_status : (stream : List ℕ) (status : Status) (reason kept : Option (List ℕ)) (operator : Bool) (time : ℕ) (ss : List Stream) (rooms : List ℕ)
    → HaveRoom (is_told (StatusSet stream status reason operator time)) ss rooms
    → (notice : Option Notice) → notice ≡ notice_for status kept operator time → is_some notice ≡ true → HaveRoom (is_named stream) ss rooms
told_status stream status reason kept true time ss rooms held notice is some = held
told_status stream status reason kept false time ss rooms held notice is some =
    let none : is_some notice ≡ false = ap is_some is in
    let wrong : false ≡ true = sym none ∙ some in
    absurd (false≢true wrong)

-- the next number of each stream is one that is held
pub tops_below : (sid : List ℕ) (published : List Publication) (created : List Count) (bs : List Balance)
    → IsWhole (sum_in (record { store_id = sid; owings = map owing_in bs; created = created; published = published; refused = none_reported })) → All IsBelowTop bs
tops_below sid published created [] whole = All-nil IsBelowTop
tops_below sid published created (b ∷ bs) whole =
    All-cons IsBelowTop b bs (let low : b.owing.stream.made ≤ LAST_NUMBER = whole.0.made in omega arith)
    (tops_below sid published created bs whole.3)

-- a vector whose items were all written holds what was written
pub refilled : {X : Type 0} (n : ℕ) (ws items : List X) → length ws ≡ n → take n (ws ++ drop (length ws) items) ≡ ws
refilled n ws items long =
    ap (λ k. take k (ws ++ drop (length ws) items)) (sym long) ∙ take-append_seam ws (drop (length ws) items)

-- what follows from what holds where there is a value
pub on_ok : {T E : Type 0} (A B : Type 0) → (A → B) → (r : Result T E) → OnOk r A → OnOk r B
on_ok A B more (Ok x) a = more a
on_ok A B more (Err e) a = tt

pub ok_is : {T E : Type 0} (a b : T) → a ≡ b → (r : Result T E) → IfOk r (λ x. x ≡ a) → IfOk r (λ x. x ≡ b)
ok_is a b same (Ok x) is = is ∙ same
ok_is a b same (Err e) is = tt

-- ---- the streams that a fact tells

-- the streams of the books are those that are held
pub told_in : (sid : List ℕ) (published : List Publication) (created : List Count) (bs : List Balance) (a : Addressed)
    → IsAddressedIn (sum_in (record { store_id = sid; owings = map owing_in bs; created = created; published = published; refused = none_reported })).parts a
    → IsAddressed (map stream_in (map owing_in bs)) a
told_in sid published created bs a is = is ∙ ap (map (is_told a.fact)) (book_streams sid published (map owing_in bs))

-- what is kept of a fact beside itself is so whatever streams it tells
told_beside : (sum : Sum) (f : Fact) (s : Spare) (told : List Bool) → IsSpare sum f s → IsSpare sum f (with_told told s)
told_beside sum (Created conf time) s told is = is
told_beside sum (Configured stream requested delivery description) s told is = is
told_beside sum (StatusSet stream status reason operator time) s told is = is
told_beside sum (Listed stream subject) s told is = is
told_beside sum (Unlisted stream subject) s told is = is
told_beside sum (Deleted stream) s told is = is
told_beside sum (Published id news time) s told is = is
told_beside sum (Settled stream items) s told is = is
told_beside sum (Asked stream state time) s told is = is

pub ready_with : (sum : Sum) (room : Rooms) (a : Addressed) (s : Spare) → IsAddressedIn sum.parts a → IsSpare sum a.fact s
    → HaveRoom (is_told a.fact) sum.parts.streams room.tokens → HasOwnSpace sum.parts room a.fact
    → length s.reported ≤ room.refused
    → HasRoom sum room (record { fact = a.fact; spare = with_told a.told s })
ready_with sum room a s told spare tokens space refused = record {
  spare = told_beside sum a.fact s a.told spare;
  told = told;
  tokens = tokens;
  space = space;
  refused = refused;
}
