use Rattle.std.proofs.Common.{rules, ◌≡◌, ◌∙◌, ◌<◌, ◌+◌, ◌-◌, ◌^◌, [], ◌∷◌, ◌++◌, ℕ, List, length, nat_eq, Some, cond, ap, sym, subst, arith}
use Rattle.std.specs.Prelude.{unwrap_or}
use Rattle.std.proofs.lemmas.List.{length-append}
use Rattle.indexmap.specs.IndexMap.{get}
use Rattle.sig_places.specs.declared.entry.Entry.{Entry}
use Rattle.sig_places.specs.declared.entry.Link.{Link}
use Rattle.sig_places.specs.Chains.{IsChained}
use Rattle.sig_places.specs.Places.{Held, places_of}
use Rattle.sig_places.proofs.Links.{places_within, put_chained}
use Rattle.sig_places.proofs.places.Places.put.Goals as goal

pub invariant_of-self : goal.invariant_of-self
invariant_of-self c =
    let e : Entry = record { key = c.args.key; place = c.args.place } in
    let l : Link = record { previous = c.unwrap_or-previous.result; count = c.count-count.result + 1 } in
    let es : c.self.inside.entries.items ++ e ∷ [] ≡ c.push.new.self.items = search rules in
    let ls : c.self.inside.links.items ++ l ∷ [] ≡ c.push-2.new.self.items = search rules in
    let count : c.len.result ≡ length c.self.inside.entries.items + 1 = search (rules, ap length es, length-append c.self.inside.entries.items (e ∷ [])) in
    let updates : (key : ℕ) → get nat_eq c.insert.new.self key ≡ cond (nat_eq c.args.key key) (Some (length c.self.inside.entries.items + 1)) (get nat_eq c.self.inside.newest key) =
    λ key. (rw c.unwrap-earlier.ensures at c.insert.ensures.updates).0 key ∙ ap (λ n. cond (nat_eq c.args.key key) (Some n) (get nat_eq c.self.inside.newest key)) count in
    let previous : l.previous ≡ unwrap_or (get nat_eq c.self.inside.newest c.args.key) 0 = search rules in
    let number : l.count ≡ length (places_of c.args.key c.self.inside.entries.items) + 1 =
    ap (λ n. n + 1) (c.count-count.ensures ∙ sym (ap (λ (h : Held). length (places_of c.args.key h.entries)) c.self.view_is)) in
    subst (λ (ls : List Link). IsChained (get nat_eq c.insert.new.self) c.push.new.self.items ls) ls
    (subst (λ (es : List Entry). IsChained (get nat_eq c.insert.new.self) es (c.self.inside.links.items ++ l ∷ [])) es
    (put_chained (get nat_eq c.self.inside.newest) (get nat_eq c.insert.new.self) c.self.inside.entries.items c.self.inside.links.items e l c.self.invariant updates previous number))

pub overflow_add-count : goal.overflow_add-count
overflow_add-count c =
    let number : c.count-count.result ≡ length (places_of c.args.key c.self.inside.entries.items) =
    c.count-count.ensures ∙ sym (ap (λ (h : Held). length (places_of c.args.key h.entries)) c.self.view_is) in
    let within = places_within c.args.key c.self.inside.entries.items in
    let size : length c.self.inside.entries.items < 2 ^ 64 - 1 = search (rules, c.requires, c.self.view_is) in
    omega (arith, number, within, size)
