use Rattle.std.proofs.Common.{◌≡◌, ◌∙◌, ap, ◌++◌, Option, List, [], ℕ, None, bytes_eq, get_or, take, arith, rules}
use Rattle.std.specs.Fmt.{decimal}
use Rattle.sig_token_calls.specs.Verdicts.{verdict, with_verdict}
use Rattle.sig_token_calls.proofs.VerdictLemmas.{ack_more}
use Rattle.sig_token_calls.proofs.verdicts.read_acks.Goals as goal

pub loop-ack-preserved : goal.loop-ack-preserved
loop-ack-preserved c n small =
    let acks : List (List ℕ) = c.args.acks.now in
    let ack : List ℕ = c.ack-item.result in
    let jti : List ℕ = c.args.prefix.now ++ decimal n in
    let is : ack ≡ get_or acks c.loop-ack.ack-index ack = search (rules, c.ack-item.is) in
    c.in_ok-note.ensures n small
    ∙ ap (λ (o : Option (Option (List ℕ))). with_verdict o (bytes_eq ack jti) None) (c.loop-ack.invariant n small)
    ∙ ap (λ (x : List ℕ). with_verdict (verdict (take c.loop-ack.ack-index acks) [] jti) (bytes_eq x jti) None) is
    ∙ ack_more acks c.loop-ack.ack-index ack jti (omega arith)
