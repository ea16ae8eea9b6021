use Rattle.std.proofs.Common.{◌≡◌, ℕ, List, ◌++◌, sym, ◌∙◌, ap, append_assoc, arith}
use Rattle.sig_http.proofs.AppendLemmas.{added, added_as}
use Rattle.sig_delivery.proofs.TokenTexts.{quoted_token}
use Rattle.sig_delivery.proofs.sets_writing.add_token.Goals as goal

three : (text a b c : List ℕ) → ((text ++ a) ++ b) ++ c ≡ text ++ (a ++ (b ++ c))
three text a b c = append_assoc (text ++ a) b c ∙ append_assoc text a (b ++ c)

pub returns : goal.returns
returns c =
    added _ _ _ _ c.in_ok-add-3.ensures.ok
    (added _ _ _ _ (added_as _ _ _ _ c.in_ok-add-2.ensures.ok (c.as_slice.ensures ∙ c.in_ok-token.ensures)) c.in_ok-add.ensures.ok)
    ∙ three c.args.text.now _ _ _
    ∙ ap (λ q. c.args.text.now ++ q) (sym (quoted_token c.args.header.now c.args.payload.now c.args.key.now.bytes
    (λ i. let fits = c.type_inv.header i in omega arith) (λ i. let fits = c.type_inv.payload i in omega arith)))
