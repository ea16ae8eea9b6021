use Rattle.std.proofs.Common.{◌≡◌, ◌∙◌, List, [], None, Some, ap, sym, append-nil, rules, true, false, map, if◌then◌else◌}
use Rattle.std.specs.List.{list_any}
use Rattle.sig_subject.specs.declared.subject.Subject.{Subject}
use Rattle.sig_event.specs.declared.event.Event.{Event}
use Rattle.sig_sessions.specs.declared.row.Row.{Row}
use Rattle.sig_sessions.specs.Changes.{Changed, applied, updated_by}
use Rattle.sig_sessions.specs.Effects.{has_effect}
use Rattle.sig_sessions.specs.Table.{has_row, unseen}
use Rattle.sig_sessions.specs.Walks.{changed_by_all_where_covered}
use Rattle.sig_sessions.proofs.Events.{after_none, made}
use Rattle.sig_sessions.proofs.table.Table.prepare.Goals as goal

pub returns-then-not-have_effect-clause-makes : goal.returns-then-not-have_effect-clause-makes
returns-then-not-have_effect-clause-makes c =
    let rows : List Row = c.args.self.now.rows in
    let none : list_any has_effect c.args.claims.now.events ≡ false = search rules in
    let nothing : Changed = record { updates = []; added = None } in
    let is : c.of.result ≡ nothing = search rules in
    ap (λ (change : Changed). applied change rows) is ∙ append-nil rows ∙ sym (after_none c.args.claims.now.subject c.args.claims.now.events rows none)

pub returns-then-found-clause-makes : goal.returns-then-found-clause-makes
returns-then-found-clause-makes c =
    let rows : List Row = c.args.self.now.rows in
    let subject : Subject = c.args.claims.now.subject in
    let events : List Event = c.args.claims.now.events in
    let some : list_any has_effect events ≡ true = search rules in
    let change : Changed = record { updates = c.in_ok-found.found.updates.items; added = None } in
    let is : c.of-then-found.result ≡ change = search rules in
    let changes : updated_by c.in_ok-found.found.updates.items rows ≡ map (changed_by_all_where_covered subject events) rows =
    search (rules, c.in_ok-found.ensures.makes) in
    let known : has_row subject rows ≡ true = search (rules, c.in_ok-found.ensures.known, c.if-found.true) in
    ap (λ (change : Changed). applied change rows) is
    ∙ made subject events rows c.in_ok-found.found.updates.items None some changes
    (ap (λ b. if b then None else Some (changed_by_all_where_covered subject events (unseen subject))) (sym known))

pub returns-clause-makes : goal.returns-clause-makes
returns-clause-makes c =
    let rows : List Row = c.args.self.now.rows in
    let subject : Subject = c.args.claims.now.subject in
    let events : List Event = c.args.claims.now.events in
    let some : list_any has_effect events ≡ true = search rules in
    let change : Changed = record { updates = c.in_ok-found.found.updates.items; added = Some c.in_ok-added.added } in
    let is : c.of-2.result ≡ change = search rules in
    let changes : updated_by c.in_ok-found.found.updates.items rows ≡ map (changed_by_all_where_covered subject events) rows =
    search (rules, c.in_ok-found.ensures.makes) in
    let known : has_row subject rows ≡ false = search (rules, c.in_ok-found.ensures.known, c.if-found.false) in
    let row : c.in_ok-added.added ≡ changed_by_all_where_covered subject events (unseen subject) = search (rules, c.in_ok-added.ensures) in
    ap (λ (change : Changed). applied change rows) is
    ∙ made subject events rows c.in_ok-found.found.updates.items (Some c.in_ok-added.added) some changes
    (ap Some row ∙ ap (λ b. if b then None else Some (changed_by_all_where_covered subject events (unseen subject))) (sym known))
