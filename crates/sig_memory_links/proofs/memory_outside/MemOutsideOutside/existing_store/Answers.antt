use Rattle.std.proofs.Common.{◌≡◌, ap, subst}
use Rattle.sig_links.specs.Told.{KeepsOthers}
use Rattle.sig_memory_links.specs.declared.named.NamedDisk.{NamedDisk}
use Rattle.sig_memory_links.specs.Outside.{MemoryOutside, MemoryStores, is_out, is_there, store_told}
use Rattle.sig_memory_links.proofs.StoreLemmas.{looked_there, others_kept}
use Rattle.sig_memory_links.proofs.memory_outside.MemOutsideOutside.existing_store.Goals as goal

pub returns-in-Ok-clause-named : goal.returns-in-Ok-clause-named
returns-in-Ok-clause-named c =
    let new : MemoryStores = c.find.new.self in
    let same : c.self.inside.stores ≡ c.args.self.now.stores = ap (λ (o : MemoryOutside). o.stores) c.self.view_is in
    subst (λ (old : MemoryStores). KeepsOthers c.args.name.now (store_told old) (store_told new) × KeepsOthers c.args.name.now (is_out old) (is_out new)) same
    (others_kept c.in-Ok.found c.args.name.now c.self.inside.stores new c.in-Ok.ensures.some c.in-Ok.ensures.none)

pub returns-in-Ok-clause-stay : goal.returns-in-Ok-clause-stay
returns-in-Ok-clause-stay c =
    let new : MemoryStores = c.find.new.self in
    let same : c.self.inside.stores ≡ c.args.self.now.stores = ap (λ (o : MemoryOutside). o.stores) c.self.view_is in
    subst (λ (old : MemoryStores). is_there new ≡ is_there old) same
    (looked_there (λ d. d.disk) (λ (given : NamedDisk). given.disk) c.in-Ok.found c.args.name.now c.self.inside.stores new c.in-Ok.ensures.found c.in-Ok.ensures.some c.in-Ok.ensures.none)
