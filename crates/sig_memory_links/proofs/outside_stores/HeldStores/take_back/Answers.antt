use Rattle.std.proofs.Common.{◌≡◌, ◌∙◌, ap, sym, ℕ, List, Option, Some, None, is_some, true, false, true≢false}
use Rattle.sig_memory_links.specs.Named.{first_named}
use Rattle.sig_memory_links.proofs.outside_stores.HeldStores.take_back.Goals as goal

pub returns-in-Some-clause-unasked : goal.returns-in-Some-clause-unasked
returns-in-Some-clause-unasked c = λ unlisted.
    let found : first_named (λ (text : List ℕ). text) c.args.name.now c.args.self.now.out ≡ Some c.in-Some.name = rw (← c.self.view_is) (sym c.in-Some.ensures.value) in
    absurd (true≢false (sym (ap (λ (o : Option (List ℕ)). is_some o) found) ∙ unlisted))

pub returns-in-None-clause-there : goal.returns-in-None-clause-there
returns-in-None-clause-there c = λ listed.
    let none : first_named (λ (text : List ℕ). text) c.args.name.now c.args.self.now.out ≡ None = rw (← c.self.view_is) (sym c.in-None.ensures.value) in
    absurd (true≢false (sym listed ∙ ap (λ (o : Option (List ℕ)). is_some o) none))
