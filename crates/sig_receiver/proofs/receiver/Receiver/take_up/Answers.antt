use Rattle.std.proofs.Common.{◌≡◌, ◌∙◌, ap, sym, false, [], ◌∷◌}
use Rattle.sig_event.specs.declared.claims.Claims.{Claims}
use Rattle.sig_inbox.specs.Pairs.{has_pair}
use Rattle.sig_set.specs.Judgement.{claims_of}
use Rattle.sig_receiver.specs.Journal.{pair_of}
use Rattle.sig_receiver.specs.Receiver.{Received, committed, received, received_of, taken}
use Rattle.sig_receiver.proofs.KeptLemmas.{known_text, new_text, of_read}
use Rattle.sig_receiver.proofs.receiver.Receiver.take_up.Goals as goal

pub returns-then-known-clause-taken : goal.returns-then-known-clause-taken
returns-then-known-clause-taken c =
    let state : Received = record { pairs = c.self.inside.seen.pairs; rows = c.self.inside.table.rows } in
    let held : state ≡ received c.args.self.now = ap received c.self.view_is in
    let same : claims_of c.args.text.now ≡ c.in-Ok.claims = of_read _ _ c.in-Ok.claims c.in-Ok.ensures in
    sym (known_text state c.args.text.now
    (ap (λ (x : Claims). has_pair (pair_of x) state.pairs) same ∙ sym c.knows-known.ensures.known ∙ c.if-known.true))
    ∙ ap (λ (s : Received). received_of s (c.args.text.now ∷ [])) held

pub returns-clause-taken : goal.returns-clause-taken
returns-clause-taken c =
    let state : Received = record { pairs = c.self.inside.seen.pairs; rows = c.self.inside.table.rows } in
    let held : state ≡ received c.args.self.now = ap received c.self.view_is in
    let same : claims_of c.args.text.now ≡ c.in-Ok.claims = of_read _ _ c.in-Ok.claims c.in-Ok.ensures in
    let new : has_pair (pair_of (claims_of c.args.text.now)) state.pairs ≡ false =
    ap (λ (x : Claims). has_pair (pair_of x) state.pairs) same ∙ sym c.knows-known.ensures.known ∙ c.if-known.false in
    c.commit.ensures
    ∙ ap (committed c.in_ok-ready.ready) c.in_ok-ready.ensures.same
    ∙ c.in_ok-ready.ensures.makes
    ∙ ap (taken state) (c.knows-known.ensures.same ∙ sym same)
    ∙ sym (new_text state c.args.text.now new)
    ∙ ap (λ (s : Received). received_of s (c.args.text.now ∷ [])) held
