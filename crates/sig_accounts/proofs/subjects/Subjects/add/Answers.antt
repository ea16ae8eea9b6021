use Rattle.std.proofs.Common.{◌≡◌, ◌++◌, ◌∷◌, [], ◌∙◌, ap, false, None, Some, List, ℕ, rules, sym, subst, ◌<◌, if◌then◌else◌, length}
use Rattle.std.specs.List.{list_any}
use Rattle.std.specs.Map.{keys_of, lookup, values_of}
use Rattle.std.proofs.lemmas.List.{length-map, map-append}
use Rattle.indexmap.proofs.CallerLemmas.{insert_entry-new}
use Rattle.sig_subject.specs.Matching.{is_identical}
use Rattle.sig_subject.specs.declared.subject.Subject.{Subject}
use Rattle.sig_history.specs.Streams.{list_added}
use Rattle.sig_accounts.specs.Listing.{Listing, listed_in}
use Rattle.sig_accounts.proofs.ListingLemmas.{linked_added, listed_added}
use Rattle.sig_accounts.proofs.SubjectLemmas.{absent_subject, key_eq}
use Rattle.sig_accounts.proofs.subjects.Subjects.add.Goals as goal

none_listed : (c : goal.After-push) → list_any (is_identical c.args.subject) (listed_in (keys_of c.self.inside.places.entries) c.self.inside.order.items) ≡ false
none_listed c = ap (λ (l : Listing). list_any (is_identical c.args.subject) l.listed) c.self.view_is ∙ sym c.has.ensures ∙ c.if-has.false

gone : (c : goal.After-push) → lookup (key_eq c.args.subject) c.self.inside.places.entries ≡ None
gone c = absent_subject c.args.subject c.self.inside.places.entries c.self.inside.order.items c.self.invariant (none_listed c)

entries : (c : goal.After-push) → c.insert.new.self.entries ≡ c.self.inside.places.entries ++ (c.args.subject, c.len-place.result) ∷ []
entries c = (rw c.unwrap.ensures at c.insert.ensures.entries) ∙ insert_entry-new key_eq c.self.inside.places c.args.subject c.len-place.result (gone c)

pushed : (c : goal.After-push) → c.push.new.self.items ≡ c.self.inside.order.items ++ Some c.len-index.result ∷ []
pushed c =
    let room = subst (λ (l : Listing). 0 < l.room) (sym c.self.view_is) c.requires in
    search (rules, c.push.ensures)

pub invariant_of-self : goal.invariant_of-self
invariant_of-self c =
    let es = c.self.inside.places.entries in
    let order = c.self.inside.order.items in
    let place : c.len-place.result ≡ length order = search (rules, c.len-place.ensures) in
    let values : values_of c.insert.new.self.entries ≡ values_of es ++ length order ∷ [] =
    ap values_of (entries c) ∙ map-append (λ (e : Subject × ℕ). e.1) es ((c.args.subject, c.len-place.result) ∷ []) ∙ ap (λ n. values_of es ++ n ∷ []) place in
    let index : c.len-index.result ≡ length (values_of es) = c.len-index.ensures.len ∙ sym (length-map es (λ (e : Subject × ℕ). e.1)) in
    let slots : c.push.new.self.items ≡ order ++ Some (length (values_of es)) ∷ [] = pushed c ∙ ap (λ n. order ++ Some n ∷ []) index in
    rw (values, slots) (linked_added (values_of es) order c.self.invariant)

pub returns : goal.returns
returns c =
    let es = c.self.inside.places.entries in
    let order = c.self.inside.order.items in
    let keys : keys_of c.insert.new.self.entries ≡ keys_of es ++ c.args.subject ∷ [] =
    ap keys_of (entries c) ∙ map-append (λ (e : Subject × ℕ). e.0) es ((c.args.subject, c.len-place.result) ∷ []) in
    let index : c.len-index.result ≡ length (keys_of es) = c.len-index.ensures.len ∙ sym (length-map es (λ (e : Subject × ℕ). e.0)) in
    let slots : c.push.new.self.items ≡ order ++ Some (length (keys_of es)) ∷ [] = pushed c ∙ ap (λ n. order ++ Some n ∷ []) index in
    let all : List Subject = listed_in (keys_of es) order in
    ap (λ (k : List Subject). listed_in k c.push.new.self.items) keys
    ∙ ap (listed_in (keys_of es ++ c.args.subject ∷ [])) slots
    ∙ listed_added es order c.args.subject c.self.invariant
    ∙ sym (ap (λ b. if b then all else all ++ c.args.subject ∷ []) (none_listed c))
    ∙ ap (λ (l : Listing). list_added c.args.subject l.listed) c.self.view_is
