use Rattle.std.proofs.Common.{◌∙◌, ap, sym, ◌-◌, List, ◌++◌, arith}
use Rattle.sig_json.specs.declared.limits.TheConstants.{TOKENS_PER_PAGE}
use Rattle.sig_terms.specs.declared.token.Token.{Token}
use Rattle.sig_calls.specs.Handing.{pushed_by}
use Rattle.sig_ledger.specs.Books.{sum_in}
use Rattle.sig_token_calls.proofs.HandingLemmas.{page_takes}
use Rattle.sig_token_calls.proofs.handing.push_offered.Goals as goal

pub returns : goal.returns
returns c =
    let tokens : List Token = c.args.tokens.now.items in
    c.in_ok-append.ensures.items
    ∙ ap (λ (l : List Token). tokens ++ l) (c.into_vec-more.ensures ∙ c.in_ok-pushed.ensures)
    ∙ sym (page_takes TOKENS_PER_PAGE (TOKENS_PER_PAGE - c.len-room.result) tokens (pushed_by (sum_in c.args.ledger.now.books) c.args.name.now) (omega (arith, c.len-room.ensures, c.requires)))
