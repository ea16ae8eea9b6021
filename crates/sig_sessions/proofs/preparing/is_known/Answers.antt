use Rattle.std.proofs.Common.{rules, ◌≡◌, ◌∙◌, ap, ℕ, List, false, Option}
use Rattle.sig_places.specs.Places.{places_of}
use Rattle.sig_subject.specs.declared.subject.Subject.{Subject}
use Rattle.sig_sessions.specs.declared.row.Row.{Row}
use Rattle.sig_sessions.specs.Candidates as candidates
use Rattle.sig_sessions.proofs.FoundUpdates.{entries_of, found_known}
use Rattle.sig_sessions.proofs.preparing.is_known.Goals as goal

pub returns : goal.returns
returns c =
    let s : Subject = c.args.subject.now in
    let rows : List Row = c.args.rows.now in
    let keys : ℕ × Option ℕ = c.covered_keys-first.result in
    let first : c.known_at-known.result ≡ candidates.known_at s rows (places_of keys.0 (entries_of rows)) false =
    search (rules, c.known_at-known.ensures, c.of.ensures, c.requires) in
    let second : c.known_second.result ≡ candidates.known_under s rows (entries_of rows) keys.1 c.known_at-known.result =
    search (rules, c.known_second.ensures, c.requires) in
    second ∙ ap (candidates.known_under s rows (entries_of rows) keys.1) first ∙ found_known s rows keys c.covered_keys-first.ensures
