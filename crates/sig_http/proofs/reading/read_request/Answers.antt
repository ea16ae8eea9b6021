use Rattle.std.proofs.Common.{◌≡◌, ◌∙◌, ap, refl, subst, Err, List, ℕ, rules}
use Rattle.sig_json.specs.declared.limits.TheConstants.{REQUEST_BODY_BYTES}
use Rattle.sig_http.specs.Message.{FindsRequest, requests}
use Rattle.sig_http.specs.Heads.{Opens, RefusesHead}
use Rattle.sig_http.specs.Bodies.{EndsBody, StopsBody}
use Rattle.sig_http.proofs.PieceLemmas.{draws_from, link_raises, other_leaves, none_lowers}
use Rattle.sig_http.proofs.ReadingLemmas.{section_refused, head_refused, body_refused, got_request}
use Rattle.sig_http.proofs.TakingLemmas.{request_body, request_section}
use Rattle.sig_http.proofs.reading.read_request.Goals as goal

pub returns-in_err-count-clause-refused : goal.returns-in_err-count-clause-refused
returns-in_err-count-clause-refused g c =
    let is : c.from_residual-in_err-count.result ≡ Err c.in_err-count.field-0.0 = search rules in
    rw is (section_refused FindsRequest requests c.args.kept.now c.take_section.new.held.items c.in_err-count.field-0.0 _ _ (draws_from _ _ _ _ _ c.take-held.ensures.taken c.in_err-count.ensures.draws) c.in_err-count.ensures.refused)

pub returns-in_err-request-clause-refused : goal.returns-in_err-request-clause-refused
returns-in_err-request-clause-refused g c =
    let is : c.from_residual-in_err-request.result ≡ Err c.in_err-request.field-0.0 = search rules in
    let taken = rw c.in-Some.is at c.in_ok-count.ensures.taken in
    let refused = subst (λ (section : List ℕ). RefusesHead FindsRequest requests section c.in_err-request.field-0.0) (c.as_slice.ensures.value ∙ c.in_ok-after.ensures.items) c.in_err-request.ensures.refused in
    rw is (head_refused FindsRequest requests c.args.kept.now c.take_section.new.held.items c.in-Some.count c.in_err-request.field-0.0 _ _ (draws_from _ _ _ _ _ c.take-held.ensures.taken c.in_ok-count.ensures.draws) taken.0 taken.1 refused)

pub returns-in_err-body-clause-refused : goal.returns-in_err-body-clause-refused
returns-in_err-body-clause-refused g c =
    let is : c.from_residual-in_err-body.result ≡ Err c.in_err-body.field-0.0 = search rules in
    let taken = rw c.in-Some.is at c.in_ok-count.ensures.taken in
    let opens = subst (λ (section : List ℕ). Opens FindsRequest requests section c.in_ok-request.request c.in_ok-request.framing) (c.as_slice.ensures.value ∙ c.in_ok-after.ensures.items) c.in_ok-request.ensures.opens in
    let stops = subst (λ (held : List ℕ). StopsBody REQUEST_BODY_BYTES c.in_ok-request.framing held c.in_err-body.field-0.0 (g.S.Source.left c.take_section.new.source) (g.S.Source.left c.read_body.new.source)) c.in_ok-after.ensures.tail c.in_err-body.ensures.refused in
    rw is (body_refused FindsRequest requests c.args.kept.now c.take_section.new.held.items c.in-Some.count c.in_ok-request.request c.in_ok-request.framing c.in_err-body.field-0.0 _ _ _ (draws_from _ _ _ _ _ c.take-held.ensures.taken c.in_ok-count.ensures.draws) taken.0 taken.1 opens stops)

pub returns-clause-found : goal.returns-clause-found
returns-clause-found g c =
    let taken = rw c.in-Some.is at c.in_ok-count.ensures.taken in
    let opens = subst (λ (section : List ℕ). Opens FindsRequest requests section c.in_ok-request.request c.in_ok-request.framing) (c.as_slice.ensures.value ∙ c.in_ok-after.ensures.items) c.in_ok-request.ensures.opens in
    let ends = subst (λ (held : List ℕ). EndsBody REQUEST_BODY_BYTES c.in_ok-request.framing held c.in_ok-body.body (g.S.Source.left c.take_section.new.source) (g.S.Source.left c.read_body.new.source)) c.in_ok-after.ensures.tail c.in_ok-body.ensures.body in
    got_request c.args.kept.now c.take_section.new.held.items c.in-Some.count c.in_ok-request.request c.in_ok-request.framing c.in_ok-body.body _ _ _ _ _ (draws_from _ _ _ _ _ c.take-held.ensures.taken c.in_ok-count.ensures.draws) taken.0 taken.1 opens ends
    (ap (λ b. record c.in_ok-request.request { body = b }) c.from_vec.ensures) c.put.ensures.kept

pub returns-in_err-count-clause-link : goal.returns-in_err-count-clause-link
returns-in_err-count-clause-link g c = link_raises c.from_residual-in_err-count.result c.in_err-count.field-0.0 _ _ _ (search rules) refl c.in_err-count.ensures.tally

pub returns-in_err-count-clause-steady : goal.returns-in_err-count-clause-steady
returns-in_err-count-clause-steady g c = other_leaves c.from_residual-in_err-count.result c.in_err-count.field-0.0 _ _ _ (search rules) refl c.in_err-count.ensures.tally

pub returns-in_err-count-clause-later : goal.returns-in_err-count-clause-later
returns-in_err-count-clause-later g c = none_lowers c.in_err-count.field-0.0 _ _ _ refl c.in_err-count.ensures.tally

pub returns-in_err-body-clause-link : goal.returns-in_err-body-clause-link
returns-in_err-body-clause-link g c =
    link_raises c.from_residual-in_err-body.result c.in_err-body.field-0.0 _ _ _ (search rules) c.in_ok-count.ensures.steady c.in_err-body.ensures.tally

pub returns-in_err-body-clause-steady : goal.returns-in_err-body-clause-steady
returns-in_err-body-clause-steady g c =
    other_leaves c.from_residual-in_err-body.result c.in_err-body.field-0.0 _ _ _ (search rules) c.in_ok-count.ensures.steady c.in_err-body.ensures.tally

pub returns-in_err-body-clause-later : goal.returns-in_err-body-clause-later
returns-in_err-body-clause-later g c = none_lowers c.in_err-body.field-0.0 _ _ _ c.in_ok-count.ensures.steady c.in_err-body.ensures.tally

pub returns-in_err-count-clause-most : goal.returns-in_err-count-clause-most
returns-in_err-count-clause-most g c = (request_section _ c.args.kept.now c.take_section.new.held.items _ _ c.take-held.ensures.taken c.in_err-count.ensures.awaits).most

pub returns-in_err-after-clause-most : goal.returns-in_err-after-clause-most
returns-in_err-after-clause-most g c = (request_section _ c.args.kept.now c.take_section.new.held.items _ _ c.take-held.ensures.taken c.in_ok-count.ensures.awaits).most

pub returns-in_err-request-clause-awaits : goal.returns-in_err-request-clause-awaits
returns-in_err-request-clause-awaits g c = (request_section _ c.args.kept.now c.take_section.new.held.items _ _ c.take-held.ensures.taken c.in_ok-count.ensures.awaits).awaits

pub returns-in_err-request-clause-most : goal.returns-in_err-request-clause-most
returns-in_err-request-clause-most g c = (request_section _ c.args.kept.now c.take_section.new.held.items _ _ c.take-held.ensures.taken c.in_ok-count.ensures.awaits).most

pub returns-in_err-body-clause-awaits : goal.returns-in_err-body-clause-awaits
returns-in_err-body-clause-awaits g c =
    let taken = rw c.in-Some.is at c.in_ok-count.ensures.taken in
    (request_body _ c.args.kept.now c.take_section.new.held.items _ _ c.in-Some.count c.in_ok-request.request c.in_ok-request.framing _ _ _ c.take-held.ensures.taken c.in_ok-count.ensures.awaits
    taken.0 taken.1 (c.as_slice.ensures.value ∙ c.in_ok-after.ensures.items) c.in_ok-after.ensures.tail c.in_ok-request.ensures.opens c.in_err-body.ensures.awaits).awaits

pub returns-in_err-body-clause-most : goal.returns-in_err-body-clause-most
returns-in_err-body-clause-most g c =
    let taken = rw c.in-Some.is at c.in_ok-count.ensures.taken in
    (request_body _ c.args.kept.now c.take_section.new.held.items _ _ c.in-Some.count c.in_ok-request.request c.in_ok-request.framing _ _ _ c.take-held.ensures.taken c.in_ok-count.ensures.awaits
    taken.0 taken.1 (c.as_slice.ensures.value ∙ c.in_ok-after.ensures.items) c.in_ok-after.ensures.tail c.in_ok-request.ensures.opens c.in_err-body.ensures.awaits).most

pub returns-clause-awaits : goal.returns-clause-awaits
returns-clause-awaits g c =
    let taken = rw c.in-Some.is at c.in_ok-count.ensures.taken in
    (request_body _ c.args.kept.now c.take_section.new.held.items _ _ c.in-Some.count c.in_ok-request.request c.in_ok-request.framing _ _ _ c.take-held.ensures.taken c.in_ok-count.ensures.awaits
    taken.0 taken.1 (c.as_slice.ensures.value ∙ c.in_ok-after.ensures.items) c.in_ok-after.ensures.tail c.in_ok-request.ensures.opens c.in_ok-body.ensures.awaits).awaits

pub returns-clause-most : goal.returns-clause-most
returns-clause-most g c =
    let taken = rw c.in-Some.is at c.in_ok-count.ensures.taken in
    (request_body _ c.args.kept.now c.take_section.new.held.items _ _ c.in-Some.count c.in_ok-request.request c.in_ok-request.framing _ _ _ c.take-held.ensures.taken c.in_ok-count.ensures.awaits
    taken.0 taken.1 (c.as_slice.ensures.value ∙ c.in_ok-after.ensures.items) c.in_ok-after.ensures.tail c.in_ok-request.ensures.opens c.in_ok-body.ensures.awaits).most
