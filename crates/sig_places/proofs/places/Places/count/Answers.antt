use Rattle.std.proofs.Common.{rules, ◌≡◌, ◌∙◌, ◌<◌, ◌-◌, ap, sym, length, nat_eq, get_or, arith}
use Rattle.std.specs.Prelude.{unwrap_or}
use Rattle.indexmap.specs.IndexMap.{get}
use Rattle.sig_places.specs.declared.entry.Link.{Link}
use Rattle.sig_places.specs.Places.{Held, places_of}
use Rattle.sig_places.proofs.Links.{counted, none_counted}
use Rattle.sig_places.proofs.places.Places.count.Goals as goal

pub returns-then-number-eq0 : goal.returns-then-number-eq0
returns-then-number-eq0 c =
    let none : unwrap_or (get nat_eq c.self.inside.newest c.args.key) 0 ≡ 0 = search (rules, c.if-number-eq0.true) in
    sym (none_counted (get nat_eq c.self.inside.newest) c.self.inside.entries.items c.self.inside.links.items c.args.key c.self.invariant none)
    ∙ ap (λ (h : Held). length (places_of c.args.key h.entries)) c.self.view_is

pub returns : goal.returns
returns c =
    let number : c.number_of-number.result ≡ unwrap_or (get nat_eq c.self.inside.newest c.args.key) 0 = search rules in
    let some : 0 < unwrap_or (get nat_eq c.self.inside.newest c.args.key) 0 = omega (arith, number, c.if-number-eq0.false) in
    let newest : Link = c.index.result.now in
    let link : newest.count ≡ (get_or c.self.inside.links.items (c.number_of-number.result - 1) newest).count = search rules in
    link
    ∙ ap (λ n. (get_or c.self.inside.links.items (n - 1) newest).count) number
    ∙ counted (get nat_eq c.self.inside.newest) c.self.inside.entries.items c.self.inside.links.items c.args.key newest c.self.invariant some
    ∙ ap (λ (h : Held). length (places_of c.args.key h.entries)) c.self.view_is
