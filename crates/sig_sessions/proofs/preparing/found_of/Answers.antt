use Rattle.std.proofs.Common.{rules, ◌≡◌, ◌∙◌, ap, sym, subst, length, ℕ, List, [], false, Option}
use Rattle.sig_places.specs.Places.{places_of}
use Rattle.sig_subject.specs.declared.subject.Subject.{Subject}
use Rattle.sig_event.specs.declared.event.Event.{Event}
use Rattle.sig_sessions.specs.declared.row.Row.{Row}
use Rattle.sig_sessions.specs.Candidates.{known_at, known_under, updates_at, updates_under}
use Rattle.sig_sessions.specs.Changes.{ArePlaced, updated_by}
use Rattle.sig_sessions.proofs.FoundUpdates.{entries_of, found_changes, found_known, found_sound, found_updates, sound_placed}
use Rattle.sig_sessions.proofs.preparing.found_of.Goals as goal

updates_is : (c : goal.In_ok-add_second) → c.add_second.new.found.updates.items ≡ found_updates c.args.claims.now.subject c.args.claims.now.events c.args.rows.now c.covered_keys-first.result
updates_is c =
    let s : Subject = c.args.claims.now.subject in
    let es : List Event = c.args.claims.now.events in
    let rows : List Row = c.args.rows.now in
    let keys : ℕ × Option ℕ = c.covered_keys-first.result in
    let first : c.add_found.new.found.updates.items ≡ updates_at s es rows (places_of keys.0 (entries_of rows)) [] =
    search (rules, c.in_ok-add_found.ensures.updates, c.of.ensures, c.new.ensures.items, c.requires) in
    let second : c.add_second.new.found.updates.items ≡ updates_under s es rows (entries_of rows) keys.1 c.add_found.new.found.updates.items =
    search (rules, c.in_ok-add_second.ensures.updates, c.requires) in
    second ∙ ap (updates_under s es rows (entries_of rows) keys.1) first

pub returns-clause-placed : goal.returns-clause-placed
returns-clause-placed c =
    let s : Subject = c.args.claims.now.subject in
    let es : List Event = c.args.claims.now.events in
    let rows : List Row = c.args.rows.now in
    let keys : ℕ × Option ℕ = c.covered_keys-first.result in
    subst (ArePlaced (length rows)) (sym (updates_is c)) (sound_placed s es rows (found_updates s es rows keys) (found_sound s es rows keys))

pub returns-clause-makes : goal.returns-clause-makes
returns-clause-makes c =
    ap (λ us. updated_by us c.args.rows.now) (updates_is c)
    ∙ found_changes c.args.claims.now.subject c.args.claims.now.events c.args.rows.now c.covered_keys-first.result c.covered_keys-first.ensures

pub returns-clause-known : goal.returns-clause-known
returns-clause-known c =
    let s : Subject = c.args.claims.now.subject in
    let rows : List Row = c.args.rows.now in
    let keys : ℕ × Option ℕ = c.covered_keys-first.result in
    let first : c.add_found.new.found.known ≡ known_at s rows (places_of keys.0 (entries_of rows)) false =
    search (rules, c.in_ok-add_found.ensures.known, c.of.ensures, c.requires) in
    let second : c.add_second.new.found.known ≡ known_under s rows (entries_of rows) keys.1 c.add_found.new.found.known =
    search (rules, c.in_ok-add_second.ensures.known, c.requires) in
    second ∙ ap (known_under s rows (entries_of rows) keys.1) first ∙ found_known s rows keys c.covered_keys-first.ensures
