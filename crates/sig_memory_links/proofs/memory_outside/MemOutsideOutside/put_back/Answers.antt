use Rattle.std.proofs.Common.{◌≡◌, ap, subst}
use Rattle.sig_memory_links.specs.Outside.{MemoryOutside, MemoryStores, is_out, is_there, store_told}
use Rattle.sig_memory_links.proofs.StoreLemmas.{back_there, others_out, others_told}
use Rattle.sig_memory_links.proofs.memory_outside.MemOutsideOutside.put_back.Goals as goal

pub returns-clause-others : goal.returns-clause-others
returns-clause-others c =
    let new = c.take_back.new.self in
    let same : c.self.inside.stores ≡ c.args.self.now.stores = ap (λ (o : MemoryOutside). o.stores) c.self.view_is in (
      λ other apart. subst (λ (old : MemoryStores). store_told new other ≡ store_told old other) same
          (others_told c.args.name.now other c.args.disk.disk c.self.inside.stores new apart c.take_back.ensures.there c.take_back.ensures.unasked),
      λ other apart. subst (λ (old : MemoryStores). is_out new other ≡ is_out old other) same
          (others_out c.args.name.now other c.self.inside.stores new apart c.take_back.ensures.out),
    )

pub returns-clause-there : goal.returns-clause-there
returns-clause-there c =
    let new = c.take_back.new.self in
    let same : c.self.inside.stores ≡ c.args.self.now.stores = ap (λ (o : MemoryOutside). o.stores) c.self.view_is in
    subst (λ (old : MemoryStores). is_there new ≡ is_there old) same
    (back_there c.args.name.now c.args.disk.disk c.self.inside.stores new c.take_back.ensures.there c.take_back.ensures.unasked c.take_back.ensures.out)
