use Rattle.std.proofs.Common.{rules, ◌≡◌, ◌∙◌, ap, sym, subst, ◌<◌, ◌++◌, ◌∷◌, [], ℕ, List, Option, Some, None, true, false, is_some, cond, nat_eq, length, arith, true≢false, vec_len, vec_capacity, refl}
use Rattle.std.specs.Map.{lookup}
use Rattle.indexmap.specs.IndexMap.{get}
use Rattle.sig_accounts.specs.Places.{Held, Index, IsIndex, place_in}
use Rattle.sig_accounts.specs.PublishIds.{digest_of}
use Rattle.sig_accounts.proofs.PlaceLemmas.{index_new, index_other, index_same}
use Rattle.sig_accounts.proofs.places.Places.enter.Goals as goal

some_of : (o : Option ℕ) → is_some o ≡ true → (f : ℕ) × (o ≡ Some f)
some_of (Some f) is = (f, refl)
some_of None is = absurd (true≢false (sym is))

none_of : {X : Type 0} (o : Option X) → is_some o ≡ false → o ≡ None
none_of None is = refl
none_of (Some x) is = absurd (true≢false is)

pub returns-then-is_some : goal.returns-then-is_some
returns-then-is_some c = λ p same.
    let found = some_of c.place_of.result (sym c.is_some.ensures ∙ c.if-is_some.true) in
    index_same c.args.self.now.index c.args.published.now p found.0 c.requires.index
    (ap (place_in c.args.self.now.index c.args.published.now) same ∙ sym c.place_of.ensures ∙ found.1)

pub returns-then-contains_key : goal.returns-then-contains_key
returns-then-contains_key c = λ p same.
    let some : 0 < c.args.self.now.room = c.requires.room in
    let room : vec_len c.self.inside.others < vec_capacity c.self.inside.others = omega (arith, some, ap (λ (h : Held). h.room) c.self.view_is) in
    let index : IsIndex (record { given = c.self.inside.given.entries; others = c.self.inside.others.items }) c.args.published.now =
    subst (λ (h : Held). IsIndex h.index c.args.published.now) (sym c.self.view_is) c.requires.index in
    subst (λ (l : List ℕ). IsIndex (record { given = c.self.inside.given.entries; others = l }) (c.args.published.now ++ p ∷ []))
    (search (rules, room, c.push.ensures))
    (index_other (record { given = c.self.inside.given.entries; others = c.self.inside.others.items }) c.args.published.now p index)

pub returns-else-contains_key : goal.returns-else-contains_key
returns-else-contains_key c = λ p same.
    let old : Index = record { given = c.self.inside.given.entries; others = c.self.inside.others.items } in
    let index : IsIndex old c.args.published.now = subst (λ (h : Held). IsIndex h.index c.args.published.now) (sym c.self.view_is) c.requires.index in
    let digest : c.digest_of-digest.result ≡ digest_of p.id = c.digest_of-digest.ensures ∙ ap digest_of (sym same) in
    let free : lookup (nat_eq c.digest_of-digest.result) c.self.inside.given.entries ≡ None =
    none_of (lookup (nat_eq c.digest_of-digest.result) c.self.inside.given.entries) (sym c.contains_key.ensures ∙ c.if-contains_key.false) in
    let absent : place_in c.args.self.now.index c.args.published.now c.args.id.now ≡ None =
    sym c.place_of.ensures ∙ none_of c.place_of.result (sym c.is_some.ensures ∙ c.if-is_some.false) in
    let updates : (key : ℕ) → get nat_eq c.insert.new.self key ≡ cond (nat_eq c.digest_of-digest.result key) (Some (length c.args.published.now)) (get nat_eq c.self.inside.given key) =
    λ key. (rw c.unwrap.ensures at c.insert.ensures.updates).0 key in
    index_new old c.insert.new.self.entries c.args.published.now p index
    (λ key. updates key ∙ ap (λ d. cond (nat_eq d key) (Some (length c.args.published.now)) (lookup (nat_eq key) c.self.inside.given.entries)) digest)
    (ap (λ d. lookup (nat_eq d) c.self.inside.given.entries) (sym digest) ∙ free)
    (ap (λ (h : Held). place_in h.index c.args.published.now p.id) c.self.view_is ∙ ap (place_in c.args.self.now.index c.args.published.now) same ∙ absent)
