use Rattle.std.proofs.Common.{rules, ◌∙◌, ◌<◌, sym, arith}
use Rattle.sig_places.specs.declared.entry.Entry.{Entry}
use Rattle.sig_places.specs.declared.entry.Link.{Link}
use Rattle.sig_places.proofs.Links.{walked}
use Rattle.sig_places.proofs.places_of.PlacesOfIterator.next.Goals as goal

abbrev no_entry : Entry
no_entry = record { key = 0; place = 0 }

abbrev no_link : Link
no_link = record { previous = 0; count = 0 }

pub invariant_of-self : goal.invariant_of-self
invariant_of-self c =
    let some : 0 < c.self.inside.number = omega (arith, c.if-self-eq0.false) in
    (walked c.self.inside.key c.self.inside.number c.self.inside.entries.now c.self.inside.links.now no_entry no_link some c.self.invariant).1

pub returns-clause-steps : goal.returns-clause-steps
returns-clause-steps c =
    let some : 0 < c.self.inside.number = omega (arith, c.if-self-eq0.false) in
    sym c.self.view_is
    ∙ (walked c.self.inside.key c.self.inside.number c.self.inside.entries.now c.self.inside.links.now no_entry no_link some c.self.invariant).0

pub returns-clause-goes : goal.returns-clause-goes
returns-clause-goes c = search (rules, returns-clause-steps c)
