use Rattle.std.proofs.Common.{◌≡◌, ◌∙◌, ℕ, List, Option, Bool, false, Some, inl, sym, subst}
use Rattle.std.specs.Prelude.{◌⊎◌}
use Rattle.sig_init.specs.Files.{Held, KeepsBut, StaysTold}
use Rattle.sig_outside.proofs.CauseLemmas.{raised_rose}
use Rattle.sig_outside.specs.Causes.{Rose}
use Rattle.sig_opening.specs.Files.{LackOne}
use Rattle.sig_opening.proofs.DoorLemmas.{has_door, risen_more}
use Rattle.sig_opening.proofs.EndLemmas.{not_failed, not_refused}
use Rattle.sig_opening.proofs.ServingLemmas.{around_same, at_same, ends_around, no_run}
use Rattle.sig_serve.specs.Ends.{IsDamaged}
use Rattle.sig_serve.proofs.ServingLemmas.{serves_around}
use Rattle.sig_serve.proofs.serving.serve_store.Goals as goal

-- ---- where the door was opened

pub returns-in-Ok-clause-settings_failed : goal.returns-in-Ok-clause-settings_failed
returns-in-Ok-clause-settings_failed g c = λ is. not_failed _ _ _ c.serve_at-end.ensures.serves is

pub returns-in-Ok-clause-refused : goal.returns-in-Ok-clause-refused
returns-in-Ok-clause-refused g c = λ member is. not_refused _ member _ _ c.serve_at-end.ensures.serves is

pub returns-in-Ok-clause-no_store : goal.returns-in-Ok-clause-no_store
returns-in-Ok-clause-no_store g c = λ is.
    subst (λ (t : List ℕ → Option Bool). LackOne (t c.args.names.now.a) (t c.args.names.now.b)) c.in-Ok.ensures.stores.3 (c.serve_at-end.ensures.no_store is)

pub returns-in-Ok-clause-store_failed : goal.returns-in-Ok-clause-store_failed
returns-in-Ok-clause-store_failed g c = λ is.
    subst (λ (n : ℕ). Rose n (g.X.Outside.store_faults c.back_door.new.self)) c.in-Ok.ensures.stores.2
    (subst (λ (n : ℕ). Rose (g.X.Outside.store_faults c.door.new.self) n) (sym c.back_door.ensures.stores.2) (c.serve_at-end.ensures.store_failed is))

pub returns-in-Ok-clause-damaged : goal.returns-in-Ok-clause-damaged
returns-in-Ok-clause-damaged g c = λ file at is.
    subst (λ (h : Held). IsDamaged (h c.args.names.now.a) (h c.args.names.now.b) file at) c.in-Ok.ensures.stores.0 (c.serve_at-end.ensures.damaged file at is)

pub returns-in-Ok-clause-network_failed : goal.returns-in-Ok-clause-network_failed
returns-in-Ok-clause-network_failed g c = λ is.
    risen_more _ _ _ _ (c.serve_at-end.ensures.network ∙ c.in-Ok.ensures.cause.stays) (c.serve_at-end.ensures.network_failed is) c.back_door.ensures.faults

pub returns-in-Ok-clause-serves : goal.returns-in-Ok-clause-serves
returns-in-Ok-clause-serves g c =
    let X = g.X.Outside in
    let first = g.X.A.Door.view c.in-Ok.door in
    let last = g.X.A.Door.view c.serve_at-end.new.door in
    let kept = c.serve_at-end.ensures.doors in
    let door = has_door c.args.said.listen _ _ _ _ _ _ _ _ _ _ _ _ first last c.in-Ok.ensures.place c.in-Ok.ensures.next c.in-Ok.ensures.begins c.in-Ok.ensures.whole
    c.in-Ok.ensures.back c.in-Ok.ensures.lends kept.0 kept.1 kept.2 c.back_door.ensures.doors c.back_door.ensures.back in
    serves_around c.args.said c.serve_at-end.result c.args.watches _ _ first last _ _ door
    (at_same X.held c.args.names.now.a c.args.names.now.b c.door.new.self c.args.outside.now first c.in-Ok.ensures.stores.0)
    (at_same X.held c.args.names.now.a c.args.names.now.b c.serve_at-end.new.outside c.back_door.new.self last (sym c.back_door.ensures.stores.0))
    c.serve_at-end.ensures.serves

pub returns-in-Ok-clause-missing : goal.returns-in-Ok-clause-missing
returns-in-Ok-clause-missing g c = λ lacks.
    let X = g.X.Outside in
    let first = g.X.A.Door.view c.in-Ok.door in
    let last = g.X.A.Door.view c.serve_at-end.new.door in
    let kept = c.serve_at-end.ensures.doors in
    let door = has_door c.args.said.listen _ _ _ _ _ _ _ _ _ _ _ _ first last c.in-Ok.ensures.place c.in-Ok.ensures.next c.in-Ok.ensures.begins c.in-Ok.ensures.whole
    c.in-Ok.ensures.back c.in-Ok.ensures.lends kept.0 kept.1 kept.2 c.back_door.ensures.doors c.back_door.ensures.back in
    ends_around c.args.said.listen c.serve_at-end.result _ _ first last _ _ ⊥ ⊥ door
    (at_same X.held c.args.names.now.a c.args.names.now.b c.door.new.self c.args.outside.now first c.in-Ok.ensures.stores.0)
    (at_same X.held c.args.names.now.a c.args.names.now.b c.serve_at-end.new.outside c.back_door.new.self last (sym c.back_door.ensures.stores.0))
    (λ run. run)
    (c.serve_at-end.ensures.missing (subst (λ (t : List ℕ → Option Bool). (t c.args.names.now.a ≡ Some false) ⊎ (t c.args.names.now.b ≡ Some false)) (sym c.in-Ok.ensures.stores.3) lacks))

pub returns-in-Ok-clause-back : goal.returns-in-Ok-clause-back
returns-in-Ok-clause-back g c =
    let a = c.args.names.now.a in
    let b = c.args.names.now.b in
    let X = g.X.Outside in
    subst (λ (h : Held). StaysTold h (X.held c.back_door.new.self) a × StaysTold h (X.held c.back_door.new.self) b) c.in-Ok.ensures.stores.0
    (subst (λ (h : Held). StaysTold (X.held c.door.new.self) h a × StaysTold (X.held c.door.new.self) h b) (sym c.back_door.ensures.stores.0) c.serve_at-end.ensures.back)

pub returns-in-Ok-clause-others : goal.returns-in-Ok-clause-others
returns-in-Ok-clause-others g c =
    let a = c.args.names.now.a in
    let b = c.args.names.now.b in
    let X = g.X.Outside in
    subst (λ (h : Held). KeepsBut a b h (X.held c.back_door.new.self)) c.in-Ok.ensures.stores.0
    (subst (λ (h : Held). KeepsBut a b (X.held c.door.new.self) h) (sym c.back_door.ensures.stores.0) c.serve_at-end.ensures.others)

-- ---- where it wasn't

pub returns-in-Err-clause-network_failed : goal.returns-in-Err-clause-network_failed
returns-in-Err-clause-network_failed g c = λ is. raised_rose _ _ c.in-Err.ensures.cause.failed

pub returns-in-Err-clause-serves : goal.returns-in-Err-clause-serves
returns-in-Err-clause-serves g c =
    let X = g.X.Outside in
    inl (no_run _ _ (around_same X.held X.doors X.doors_back _ _ c.door.new.self c.args.outside.now c.in-Err.ensures.stores.0 c.in-Err.ensures.none.0 c.in-Err.ensures.back))

pub returns-in-Err-clause-missing : goal.returns-in-Err-clause-missing
returns-in-Err-clause-missing g c = λ lacks.
    let X = g.X.Outside in
    inl (no_run _ _ (around_same X.held X.doors X.doors_back _ _ c.door.new.self c.args.outside.now c.in-Err.ensures.stores.0 c.in-Err.ensures.none.0 c.in-Err.ensures.back))

pub returns-in-Err-clause-back : goal.returns-in-Err-clause-back
returns-in-Err-clause-back g c =
    let a = c.args.names.now.a in
    let b = c.args.names.now.b in
    let X = g.X.Outside in
    subst (λ (h : Held). StaysTold (X.held c.args.outside.now) h a × StaysTold (X.held c.args.outside.now) h b) (sym c.in-Err.ensures.stores.0) (λ some. some, λ some. some)
