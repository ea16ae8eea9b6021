use Rattle.std.proofs.Common.{◌≡◌, ◌<◌, ◌∙◌, ap, sym, subst, ℕ, [], List, OnOk, Some, None, is_some}
use Rattle.std.specs.List.{position}
use Rattle.std.specs.Map.{keys_of, lookup}
use Rattle.std.specs.Option.{option_map_or}
use Rattle.indexmap.specs.IndexMap.{insert_entry}
use Rattle.sig_subject.specs.Matching.{is_identical}
use Rattle.sig_subject.specs.declared.subject.Subject.{Subject}
use Rattle.sig_accounts.specs.Listening.{Seating, room_for, seats_for}
use Rattle.sig_accounts.proofs.ListsLemmas.{looked_up, room_put, seats_kept, value_at, written}
use Rattle.sig_accounts.proofs.SubjectLemmas.{key_eq, none_from}
use Rattle.sig_accounts.proofs.lists.reserve_seat.Goals as goal

pub returns-in-Some-clause-same : goal.returns-in-Some-clause-same
returns-in-Some-clause-same c = λ s.
    let es : List (Subject × Seating) = c.args.lists.now.entries in
    let found : position (key_eq c.args.subject.now) (keys_of es) ≡ Some c.in-Some.index = sym c.get_index_of.ensures.index ∙ c.in-Some.is in
    let value : lookup (is_identical c.args.subject.now) es ≡ Some c.index_mut.result.now =
    value_at c.args.subject.now es c.in-Some.index c.index_mut.result.now found c.index_mut.ensures.value in
    ap (seats_for s) (written c.args.subject.now es c.in-Some.index c.reserve.new.self found)
    ∙ seats_kept c.args.subject.now s es c.reserve.new.self (c.reserve.ensures.same ∙ ap (λ o. option_map_or (λ (a : Seating). a.seats) o []) (sym value))

pub returns-in-Some-clause-ok : goal.returns-in-Some-clause-ok
returns-in-Some-clause-ok c =
    let es : List (Subject × Seating) = c.args.lists.now.entries in
    let found : position (key_eq c.args.subject.now) (keys_of es) ≡ Some c.in-Some.index = sym c.get_index_of.ensures.index ∙ c.in-Some.is in
    subst (λ (n : ℕ). OnOk c.reserve.result (0 < n))
    (sym (ap (room_for c.args.subject.now) (written c.args.subject.now es c.in-Some.index c.reserve.new.self found) ∙ room_put c.args.subject.now es c.reserve.new.self))
    c.reserve.ensures.ok

pub returns-in_ok-insert-in-None-clause-same : goal.returns-in_ok-insert-in-None-clause-same
returns-in_ok-insert-in-None-clause-same c = λ s.
    let es : List (Subject × Seating) = c.args.lists.now.entries in
    let k : Subject = c.args.subject.now in
    let same : c.in_ok-subject-in-None.subject ≡ k = c.in_ok-subject-in-None.ensures in
    let put : c.insert.new.self.entries ≡ insert_entry key_eq es k c.in_ok-seats-in-None.seats =
    (rw c.in_ok-insert-in-None.was at c.insert.ensures.entries) ∙ ap (λ x. insert_entry key_eq es x c.in_ok-seats-in-None.seats) same in
    let none : lookup (is_identical k) es ≡ None = sym (looked_up k es) ∙ none_from _ (sym c.get_index_of.ensures.found ∙ ap is_some c.in-None.is) in
    ap (seats_for s) put
    ∙ seats_kept k s es c.in_ok-seats-in-None.seats (c.in_ok-seats-in-None.ensures.none ∙ ap (λ o. option_map_or (λ (a : Seating). a.seats) o []) (sym none))

pub returns-in_ok-insert-in-None-clause-ok : goal.returns-in_ok-insert-in-None-clause-ok
returns-in_ok-insert-in-None-clause-ok c =
    let es : List (Subject × Seating) = c.args.lists.now.entries in
    let k : Subject = c.args.subject.now in
    let same : c.in_ok-subject-in-None.subject ≡ k = c.in_ok-subject-in-None.ensures in
    let put : c.insert.new.self.entries ≡ insert_entry key_eq es k c.in_ok-seats-in-None.seats =
    (rw c.in_ok-insert-in-None.was at c.insert.ensures.entries) ∙ ap (λ x. insert_entry key_eq es x c.in_ok-seats-in-None.seats) same in
    subst (λ (n : ℕ). 0 < n) (sym (ap (room_for k) put ∙ room_put k es c.in_ok-seats-in-None.seats)) c.in_ok-seats-in-None.ensures.room
