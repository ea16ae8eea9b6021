use Rattle.std.proofs.Common.{◌≡◌, ◌∙◌, ap, refl, subst, Err, List, ℕ, rules}
use Rattle.sig_json.specs.declared.limits.TheConstants.{RESPONSE_BODY_BYTES}
use Rattle.sig_http.specs.Message.{FindsResponse, responses}
use Rattle.sig_http.specs.Heads.{Opens, RefusesHead}
use Rattle.sig_http.specs.Bodies.{EndsBody, StopsBody}
use Rattle.sig_http.proofs.PieceLemmas.{draws_from, link_raises, other_leaves, none_lowers}
use Rattle.sig_http.proofs.ReadingLemmas.{section_refused, head_refused, body_refused, got_response, refused_responses}
use Rattle.sig_http.proofs.TakingLemmas.{response_body, response_section}
use Rattle.sig_http.proofs.reading.read_response.Goals as goal

pub returns-in_err-count-clause-refused : goal.returns-in_err-count-clause-refused
returns-in_err-count-clause-refused g c =
    let is : c.from_residual-in_err-count.result ≡ Err c.in_err-count.field-0.0 = search rules in
    rw is (refused_responses c.in_err-count.field-0.0 c.args.kept.now _ (section_refused FindsResponse responses c.args.kept.now c.take_section.new.held.items c.in_err-count.field-0.0 _ _ (draws_from _ _ _ _ _ c.take-held.ensures.taken c.in_err-count.ensures.draws) c.in_err-count.ensures.refused))

pub returns-in_err-response-clause-refused : goal.returns-in_err-response-clause-refused
returns-in_err-response-clause-refused g c =
    let is : c.from_residual-in_err-response.result ≡ Err c.in_err-response.field-0.0 = search rules in
    let taken = rw c.in-Some.is at c.in_ok-count.ensures.taken in
    let refused = subst (λ (section : List ℕ). RefusesHead FindsResponse responses section c.in_err-response.field-0.0) (c.as_slice.ensures.value ∙ c.in_ok-after.ensures.items) c.in_err-response.ensures.refused in
    rw is (refused_responses c.in_err-response.field-0.0 c.args.kept.now _ (head_refused FindsResponse responses c.args.kept.now c.take_section.new.held.items c.in-Some.count c.in_err-response.field-0.0 _ _ (draws_from _ _ _ _ _ c.take-held.ensures.taken c.in_ok-count.ensures.draws) taken.0 taken.1 refused))

pub returns-in_err-body-clause-refused : goal.returns-in_err-body-clause-refused
returns-in_err-body-clause-refused g c =
    let is : c.from_residual-in_err-body.result ≡ Err c.in_err-body.field-0.0 = search rules in
    let taken = rw c.in-Some.is at c.in_ok-count.ensures.taken in
    let opens = subst (λ (section : List ℕ). Opens FindsResponse responses section c.in_ok-response.response c.in_ok-response.framing) (c.as_slice.ensures.value ∙ c.in_ok-after.ensures.items) c.in_ok-response.ensures.opens in
    let stops = subst (λ (held : List ℕ). StopsBody RESPONSE_BODY_BYTES c.in_ok-response.framing held c.in_err-body.field-0.0 (g.S.Source.left c.take_section.new.source) (g.S.Source.left c.read_body.new.source)) c.in_ok-after.ensures.tail c.in_err-body.ensures.refused in
    rw is (refused_responses c.in_err-body.field-0.0 c.args.kept.now _ (body_refused FindsResponse responses c.args.kept.now c.take_section.new.held.items c.in-Some.count c.in_ok-response.response c.in_ok-response.framing c.in_err-body.field-0.0 _ _ _ (draws_from _ _ _ _ _ c.take-held.ensures.taken c.in_ok-count.ensures.draws) taken.0 taken.1 opens stops))

pub returns-clause-found : goal.returns-clause-found
returns-clause-found g c =
    let taken = rw c.in-Some.is at c.in_ok-count.ensures.taken in
    let opens = subst (λ (section : List ℕ). Opens FindsResponse responses section c.in_ok-response.response c.in_ok-response.framing) (c.as_slice.ensures.value ∙ c.in_ok-after.ensures.items) c.in_ok-response.ensures.opens in
    let ends = subst (λ (held : List ℕ). EndsBody RESPONSE_BODY_BYTES c.in_ok-response.framing held c.in_ok-body.body (g.S.Source.left c.take_section.new.source) (g.S.Source.left c.read_body.new.source)) c.in_ok-after.ensures.tail c.in_ok-body.ensures.body in
    got_response c.args.kept.now c.take_section.new.held.items c.in-Some.count c.in_ok-response.response c.in_ok-response.framing c.in_ok-body.body _ _ _ _ _ (draws_from _ _ _ _ _ c.take-held.ensures.taken c.in_ok-count.ensures.draws) taken.0 taken.1 opens ends
    (ap (λ b. record c.in_ok-response.response { body = b }) c.from_vec.ensures) c.put.ensures.kept

pub returns-in_err-count-clause-link : goal.returns-in_err-count-clause-link
returns-in_err-count-clause-link g c = link_raises c.from_residual-in_err-count.result c.in_err-count.field-0.0 _ _ _ (search rules) refl c.in_err-count.ensures.tally

pub returns-in_err-count-clause-steady : goal.returns-in_err-count-clause-steady
returns-in_err-count-clause-steady g c = other_leaves c.from_residual-in_err-count.result c.in_err-count.field-0.0 _ _ _ (search rules) refl c.in_err-count.ensures.tally

pub returns-in_err-count-clause-later : goal.returns-in_err-count-clause-later
returns-in_err-count-clause-later g c = none_lowers c.in_err-count.field-0.0 _ _ _ refl c.in_err-count.ensures.tally

pub returns-in_err-body-clause-link : goal.returns-in_err-body-clause-link
returns-in_err-body-clause-link g c =
    link_raises c.from_residual-in_err-body.result c.in_err-body.field-0.0 _ _ _ (search rules) c.in_ok-count.ensures.steady c.in_err-body.ensures.tally

pub returns-in_err-body-clause-steady : goal.returns-in_err-body-clause-steady
returns-in_err-body-clause-steady g c =
    other_leaves c.from_residual-in_err-body.result c.in_err-body.field-0.0 _ _ _ (search rules) c.in_ok-count.ensures.steady c.in_err-body.ensures.tally

pub returns-in_err-body-clause-later : goal.returns-in_err-body-clause-later
returns-in_err-body-clause-later g c = none_lowers c.in_err-body.field-0.0 _ _ _ c.in_ok-count.ensures.steady c.in_err-body.ensures.tally

pub returns-in_err-count-clause-most : goal.returns-in_err-count-clause-most
returns-in_err-count-clause-most g c = (response_section _ c.args.kept.now c.take_section.new.held.items _ _ c.take-held.ensures.taken c.in_err-count.ensures.awaits).most

pub returns-in_err-after-clause-most : goal.returns-in_err-after-clause-most
returns-in_err-after-clause-most g c = (response_section _ c.args.kept.now c.take_section.new.held.items _ _ c.take-held.ensures.taken c.in_ok-count.ensures.awaits).most

pub returns-in_err-response-clause-awaits : goal.returns-in_err-response-clause-awaits
returns-in_err-response-clause-awaits g c = (response_section _ c.args.kept.now c.take_section.new.held.items _ _ c.take-held.ensures.taken c.in_ok-count.ensures.awaits).awaits

pub returns-in_err-response-clause-most : goal.returns-in_err-response-clause-most
returns-in_err-response-clause-most g c = (response_section _ c.args.kept.now c.take_section.new.held.items _ _ c.take-held.ensures.taken c.in_ok-count.ensures.awaits).most

pub returns-in_err-body-clause-awaits : goal.returns-in_err-body-clause-awaits
returns-in_err-body-clause-awaits g c =
    let taken = rw c.in-Some.is at c.in_ok-count.ensures.taken in
    (response_body _ c.args.kept.now c.take_section.new.held.items _ _ c.in-Some.count c.in_ok-response.response c.in_ok-response.framing _ _ _ c.take-held.ensures.taken c.in_ok-count.ensures.awaits
    taken.0 taken.1 (c.as_slice.ensures.value ∙ c.in_ok-after.ensures.items) c.in_ok-after.ensures.tail c.in_ok-response.ensures.opens c.in_err-body.ensures.awaits).awaits

pub returns-in_err-body-clause-most : goal.returns-in_err-body-clause-most
returns-in_err-body-clause-most g c =
    let taken = rw c.in-Some.is at c.in_ok-count.ensures.taken in
    (response_body _ c.args.kept.now c.take_section.new.held.items _ _ c.in-Some.count c.in_ok-response.response c.in_ok-response.framing _ _ _ c.take-held.ensures.taken c.in_ok-count.ensures.awaits
    taken.0 taken.1 (c.as_slice.ensures.value ∙ c.in_ok-after.ensures.items) c.in_ok-after.ensures.tail c.in_ok-response.ensures.opens c.in_err-body.ensures.awaits).most

pub returns-clause-awaits : goal.returns-clause-awaits
returns-clause-awaits g c =
    let taken = rw c.in-Some.is at c.in_ok-count.ensures.taken in
    (response_body _ c.args.kept.now c.take_section.new.held.items _ _ c.in-Some.count c.in_ok-response.response c.in_ok-response.framing _ _ _ c.take-held.ensures.taken c.in_ok-count.ensures.awaits
    taken.0 taken.1 (c.as_slice.ensures.value ∙ c.in_ok-after.ensures.items) c.in_ok-after.ensures.tail c.in_ok-response.ensures.opens c.in_ok-body.ensures.awaits).awaits

pub returns-clause-most : goal.returns-clause-most
returns-clause-most g c =
    let taken = rw c.in-Some.is at c.in_ok-count.ensures.taken in
    (response_body _ c.args.kept.now c.take_section.new.held.items _ _ c.in-Some.count c.in_ok-response.response c.in_ok-response.framing _ _ _ c.take-held.ensures.taken c.in_ok-count.ensures.awaits
    taken.0 taken.1 (c.as_slice.ensures.value ∙ c.in_ok-after.ensures.items) c.in_ok-after.ensures.tail c.in_ok-response.ensures.opens c.in_ok-body.ensures.awaits).most
