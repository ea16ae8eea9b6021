use Rattle.std.proofs.Common.{◌≡◌, ◌∙◌, ap, sym, List, [], ℕ, Option, Some, None, is_some, refl}
use Rattle.sig_memory_links.specs.Named.{first_named}
use Rattle.sig_memory_links.specs.Outside.{MemoryStores}
use Rattle.sig_memory_links.proofs.outside_stores.HeldStores.is_out.Goals as goal

pub returns-in-Some : goal.returns-in-Some
returns-in-Some c =
    let found : first_named (λ (text : List ℕ). text) c.args.name.now c.args.self.now.out ≡ Some _ =
    ap (first_named (λ (text : List ℕ). text) c.args.name.now) (sym (ap (λ (s : MemoryStores). s.out) c.self.view_is) ∙ sym c.as_slice.ensures.value) ∙ c.in-Some.ensures.value [] in
    sym (ap (λ (o : Option (List ℕ)). is_some o) found)

pub returns-in-None : goal.returns-in-None
returns-in-None c =
    let none : first_named (λ (text : List ℕ). text) c.args.name.now c.args.self.now.out ≡ None =
    ap (first_named (λ (text : List ℕ). text) c.args.name.now) (sym (ap (λ (s : MemoryStores). s.out) c.self.view_is) ∙ sym c.as_slice.ensures.value) ∙ (c.in-None.ensures.none refl).0 in
    sym (ap (λ (o : Option (List ℕ)). is_some o) none)
