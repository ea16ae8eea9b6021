use Rattle.std.proofs.Common.{◌∙◌, ap, sym, ℕ, ◌+◌, ◌-◌, List, [], ◌∷◌, ◌++◌, map, drop, Bool, true, false, not, ◌&&◌, nat_eq, Global, Vec, is_ok, if◌then◌else◌, arith}
use Rattle.std.specs.Prelude.{filter}
use Rattle.std.proofs.lemmas.List.{drop_all}
use Rattle.indexmap.specs.IndexSet.{contains}
use Rattle.sig_accounts.specs.declared.debt.Debt.{Debt}
use Rattle.sig_terms.specs.declared.token.Token.{Token}
use Rattle.sig_terms.specs.declared.want.Delivery.{Delivery}
use Rattle.sig_history.specs.Streams.{Made, Stream, token_of}
use Rattle.sig_history.specs.Owed.{names_number}
use Rattle.sig_accounts.specs.Owings.{made_of}
use Rattle.sig_token_calls.specs.Offering.{offers, page_on}
use Rattle.sig_token_calls.proofs.PageLemmas.{Sets, open_from, open_passed, page_full, page_is, page_more, page_step, some_room}
use Rattle.sig_token_calls.proofs.offering.first_offered.Goals as goal
use Rattle.sig_token_calls.proofs.offering.first_offered.Goals.{then-is_open+else-room-eq0+in_ok-token+in_ok-push, else-is_open}

pub returns-then-room-eq0 : goal.returns-then-room-eq0
returns-then-room-eq0 c =
    let s : Stream = c.args.account.now.owing.stream in
    let f : Debt → Made = made_of c.args.store_id c.args.published.now s in
    let p : Debt → Bool = λ (d : Debt). not (names_number d.number c.args.items.now) && offers c.args.published.now s d in
    ap (λ l. Sets l true) c.of-tokens.ensures
    ∙ sym (c.loop-debt.invariant
    ∙ page_full s.conf.delivery c.loop-debt.room c.loop-debt.tokens.items f p c.owed-owed.result.now c.loop-debt.debt-index c.debt-item.result (omega arith)
    (ap p (sym c.debt-item.is)
    ∙ open_from c.args.items.now c.args.published.now s (contains nat_eq c.in_ok-named.named) c.debt-item.result c.is_open.result true c.in_ok-named.ensures c.is_open.ensures c.if-is_open.true)
    (omega arith))
    ∙ page_is s.conf.delivery c.args.size (map f (filter p c.owed-owed.result.now))
    ∙ ap (λ (ds : List Debt). page_on s.conf.delivery c.args.size (map f (filter p ds))) c.owed-owed.ensures

pub loop-debt-preserved : goal.loop-debt-preserved
loop-debt-preserved c =
    let s : Stream = c.args.account.now.owing.stream in
    let to : Delivery = s.conf.delivery in
    let f : Debt → Made = made_of c.args.store_id c.args.published.now s in
    let p : Debt → Bool = λ (d : Debt). not (names_number d.number c.args.items.now) && offers c.args.published.now s d in
    let rest : List Made = map f (filter p (drop (c.loop-debt.debt-index + 1) c.owed-owed.result.now)) in
    elim c.if-is_open.branch [
      | then-is_open+else-room-eq0+in_ok-token+in_ok-push w ↦
          c.loop-debt.invariant
          ∙ page_more to c.loop-debt.room c.loop-debt.tokens.items f p c.owed-owed.result.now c.loop-debt.debt-index c.debt-item.result (omega arith)
          (ap p (sym c.debt-item.is)
          ∙ open_from c.args.items.now c.args.published.now s (contains nat_eq c.in_ok-named.named) c.debt-item.result c.is_open.result true c.in_ok-named.ensures c.is_open.ensures w.if-is_open.true)
          (some_room c.loop-debt.room (omega (arith, w.if-room-eq0)))
          ∙ ap (λ (d : Debt). page_step to (c.loop-debt.room - 1) (c.loop-debt.tokens.items ++ token_of to (f d) ∷ []) rest) (sym c.debt-item.is)
          ∙ ap (λ (t : Token). page_step to (c.loop-debt.room - 1) (c.loop-debt.tokens.items ++ t ∷ []) rest) (sym w.in_ok-token.ensures)
          ∙ ap (λ (l : List Token). page_step to (c.loop-debt.room - 1) l rest) (sym (w.push.ensures.items
          ∙ ap (λ b. if b then c.loop-debt.tokens.items ++ w.in_ok-token.token ∷ [] else c.loop-debt.tokens.items) (ap is_ok w.in_ok-push.was)))
          ∙ ap (λ (k : ℕ). page_step to k w.push.new.self.items rest) (sym w.room-is)
          ∙ ap (λ (v : Vec Token Global). page_step to c.if-is_open.room v.items rest) (sym w.tokens-is)
      | else-is_open w ↦
          c.loop-debt.invariant
          ∙ ap (λ (ds : List Debt). page_step to c.loop-debt.room c.loop-debt.tokens.items (map f ds))
          (open_passed p c.owed-owed.result.now c.loop-debt.debt-index c.debt-item.result (omega arith)
          (ap p (sym c.debt-item.is)
          ∙ open_from c.args.items.now c.args.published.now s (contains nat_eq c.in_ok-named.named) c.debt-item.result c.is_open.result false c.in_ok-named.ensures c.is_open.ensures w.if-is_open.false))
          ∙ ap (λ (k : ℕ). page_step to k c.loop-debt.tokens.items rest) (sym w.room-is)
          ∙ ap (λ (v : Vec Token Global). page_step to c.if-is_open.room v.items rest) (sym w.tokens-is)
    ]

pub returns : goal.returns
returns c =
    let s : Stream = c.args.account.now.owing.stream in
    let f : Debt → Made = made_of c.args.store_id c.args.published.now s in
    let p : Debt → Bool = λ (d : Debt). not (names_number d.number c.args.items.now) && offers c.args.published.now s d in
    ap (λ l. Sets l false) c.of-tokens-2.ensures
    ∙ sym (c.loop-debt.invariant
    ∙ ap (λ (ds : List Debt). page_step s.conf.delivery c.loop-debt.room c.loop-debt.tokens.items (map f (filter p ds))) (drop_all c.loop-debt.debt-index c.owed-owed.result.now (omega arith)))
    ∙ page_is s.conf.delivery c.args.size (map f (filter p c.owed-owed.result.now))
    ∙ ap (λ (ds : List Debt). page_on s.conf.delivery c.args.size (map f (filter p ds))) c.owed-owed.ensures
