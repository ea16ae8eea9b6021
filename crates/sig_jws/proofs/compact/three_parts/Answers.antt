use Rattle.std.proofs.Common.{ap, ◌∙◌, ◌∷◌, rules}
use Rattle.sig_jws.specs.Compact.{parts_of}
use Rattle.sig_jws.proofs.SplitLemmas.{of_a_third_dot, of_two_dots, up_to_payload}
use Rattle.sig_jws.proofs.compact.three_parts.Goals as goal

pub returns-then-is_some : goal.returns-then-is_some
returns-then-is_some c =
    let first = c.in_ok-header.ensures.cut in
    let second = c.in_ok-payload.ensures.cut in
    let header = c.in_ok-header.header.now in
    ap parts_of (first ∙ ap (λ parts. header ∷ parts) second)
    ∙ of_a_third_dot header c.in_ok-payload.payload.now c.in_ok-payload.mac.now (search rules)

pub returns : goal.returns
returns c =
    let first = c.in_ok-header.ensures.cut in
    let second = c.in_ok-payload.ensures.cut in
    let header = c.in_ok-header.header.now in
    let payload = c.in_ok-payload.payload.now in
    let mac = c.in_ok-payload.mac.now in
    record {
      three = first ∙ ap (λ parts. header ∷ parts) second
          ∙ ap (λ parts. header ∷ payload ∷ parts) (of_two_dots header payload mac (search rules));
      full_header = search rules;
      full_payload = search rules;
      full_mac = search rules;
      covered = c.split_at.ensures.front ∙ up_to_payload c.args.text.now c.in_ok-header.rest.now header payload mac
          c.in_ok-header.ensures.whole c.in_ok-payload.ensures.whole;
    }
