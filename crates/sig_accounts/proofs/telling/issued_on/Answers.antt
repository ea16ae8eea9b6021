use Rattle.std.proofs.Common.{◌∙◌, ap, sym, arith, ℕ, ◌+◌, List, ◌∷◌, ◌++◌, [], Vec, Global, drop}
use Rattle.sig_terms.specs.declared.token.Issued.{Issued}
use Rattle.sig_accounts.specs.Owings.{Balance}
use Rattle.sig_accounts.specs.declared.kept_token.KeptToken.{KeptToken}
use Rattle.sig_accounts.proofs.TellingLemmas.{issued_from, issued_told, issued_untold}
use Rattle.sig_accounts.proofs.telling.issued_on.Goals as goal
use Rattle.sig_accounts.proofs.telling.issued_on.Goals.{then-tells+in_ok-name+in_ok-push, else-tells}

pub loop-place-preserved : goal.loop-place-preserved
loop-place-preserved c =
    let here : Balance = c.index-accounts-place.result in
    elim c.if-tells.branch [
      | then-tells+in_ok-name+in_ok-push w ↦
          issued_told c.args.addressed.now.fact c.args.accounts.now c.args.addressed.now.told c.loop-place.place c.index-accounts-place.result _ c.loop-place.issued.items
          c.if-tells.issued.items c.requires.told (omega arith) (sym c.tells.ensures ∙ w.if-tells.true) c.loop-place.invariant
          (ap (λ (v : Vec KeptToken Global). v.items) w.issued-is ∙ w.in_ok-push.ensures.items
          ∙ ap (λ (t : Issued). c.loop-place.issued.items ++ t ∷ [])
          (w.of.ensures
          ∙ ap (λ (name : List ℕ). record { stream = name; number = w.made.result + 1 }) (w.in_ok-name.ensures ∙ w.name.ensures)
          ∙ ap (λ (k : ℕ). record { stream = here.owing.stream.conf.stream; number = k + 1 }) w.made.ensures
          ∙ ap (λ (b : Balance). record { stream = b.owing.stream.conf.stream; number = b.owing.stream.made + 1 }) c.index-accounts-place.is))
      | else-tells w ↦
          issued_untold c.args.addressed.now.fact c.args.accounts.now c.args.addressed.now.told c.loop-place.place c.index-accounts-place.result _ c.if-tells.issued.items
          c.requires.told (omega arith) (sym c.tells.ensures ∙ w.if-tells.false)
          (c.loop-place.invariant ∙ ap (λ (v : Vec KeptToken Global). v.items ++ issued_from c.args.addressed.now.fact (drop c.loop-place.place c.args.accounts.now)) (sym w.issued-is))
    ]
