use Rattle.std.proofs.Common.{rules, ◌≡◌, ◌∙◌, List, length, nat_eq, ap, sym, subst, take}
use Rattle.std.proofs.Math.Seq.{take-length}
use Rattle.std.specs.Prelude.{unwrap_or}
use Rattle.indexmap.specs.IndexMap.{get}
use Rattle.sig_places.specs.declared.entry.Entry.{Entry}
use Rattle.sig_places.specs.declared.entry.Link.{Link}
use Rattle.sig_places.specs.Chains.{IsChain, IsNewest}
use Rattle.sig_places.specs.Places.{Held, places_of}
use Rattle.sig_places.proofs.places.Places.of.Goals as goal

pub from-requires : goal.from-requires
from-requires c =
    let newest : IsNewest c.args.key (unwrap_or (get nat_eq c.self.inside.newest c.args.key) 0) (length c.self.inside.entries.items) c.self.inside.entries.items = c.self.invariant.heads c.args.key in
    let is : unwrap_or (get nat_eq c.self.inside.newest c.args.key) 0 ≡ c.number_of.result = search rules in
    let chain : IsChain c.args.key (unwrap_or (get nat_eq c.self.inside.newest c.args.key) 0) c.self.inside.entries.items c.self.inside.links.items =
    record { linked = c.self.invariant.linked; within = newest.within; own = newest.own } in
    let es : c.self.inside.entries.items ≡ c.as_slice.result.now = search rules in
    let ls : c.self.inside.links.items ≡ c.as_slice-2.result.now = search rules in
    subst (λ n. IsChain c.args.key n c.as_slice.result.now c.as_slice-2.result.now) is
    (subst (λ (l : List Link). IsChain c.args.key (unwrap_or (get nat_eq c.self.inside.newest c.args.key) 0) c.as_slice.result.now l) ls
    (subst (λ (l : List Entry). IsChain c.args.key (unwrap_or (get nat_eq c.self.inside.newest c.args.key) 0) l c.self.inside.links.items) es chain))

pub returns : goal.returns
returns c =
    let newest : IsNewest c.args.key (unwrap_or (get nat_eq c.self.inside.newest c.args.key) 0) (length c.self.inside.entries.items) c.self.inside.entries.items = c.self.invariant.heads c.args.key in
    let is : c.number_of.result ≡ unwrap_or (get nat_eq c.self.inside.newest c.args.key) 0 = search rules in
    let es : c.as_slice.result.now ≡ c.self.inside.entries.items = search rules in
    c.from.ensures
    ∙ ap (λ n. places_of c.args.key (take n c.as_slice.result.now)) is
    ∙ ap (λ (l : List Entry). places_of c.args.key (take (unwrap_or (get nat_eq c.self.inside.newest c.args.key) 0) l)) es
    ∙ sym newest.all ∙ ap (places_of c.args.key) (take-length c.self.inside.entries.items)
    ∙ ap (λ (h : Held). places_of c.args.key h.entries) c.self.view_is
