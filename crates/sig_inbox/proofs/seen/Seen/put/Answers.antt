use Rattle.std.proofs.Common.{◌≡◌, ◌∙◌, ap, sym, subst, false, if◌then◌else◌, List, [], ◌∷◌, ◌++◌}
use Rattle.sig_inbox.specs.declared.pair.Pair.{Pair}
use Rattle.sig_inbox.specs.Pairs.{Held, has_pair}
use Rattle.sig_inbox.proofs.seen.Seen.put.Goals as goal

pub returns : goal.returns
returns c =
    let keys : List Pair = c.self.inside.pairs.keys in
    let pair : Pair = c.args.pair in
    let new : has_pair pair keys ≡ false = subst (λ (h : Held). has_pair pair h.pairs ≡ false) (sym c.self.view_is) c.requires.new in
    let put : c.insert.new.self.keys ≡ (if has_pair pair keys then keys else keys ++ pair ∷ []) = rw c.unwrap.ensures at c.insert.ensures.keys in
    put ∙ ap (λ b. if b then keys else keys ++ pair ∷ []) new ∙ ap (λ (h : Held). h.pairs ++ pair ∷ []) c.self.view_is
