use Rattle.std.proofs.Common.{Ok, Err, Some, ℕ, ap, subst, refl}
use Rattle.sig_journal.specs.declared.journal.AppendFault.TheVariants.{Store, Full}
use Rattle.sig_journal.specs.Journal.{Open}
use Rattle.sig_journal.specs.Appended.{AppendCauses}
use Rattle.sig_journal.specs.Stored.{Stored}
use Rattle.sig_journal.proofs.Appends.{causes_of}
use Rattle.sig_journal.proofs.store.Store.append.Goals as goal

pub returns-in-Ok-clause-causes : goal.returns-in-Ok-clause-causes
returns-in-Ok-clause-causes g c =
    let D = g.D.Disk in
    let new : Stored g.row.D.Denot = record { journal = c.append.new.self; broken_at = c.self.inside.broken_at } in
    subst (λ (old : Stored g.row.D.Denot). AppendCauses D.faults old new c.args.framed.now c.args.turn (Ok tt)) c.self.view_is
    (causes_of D.faults _ new c.args.framed.now c.args.turn (Ok c.in-Ok.field-0) (λ err. absurd cc) c.in-Ok.ensures.full (λ n err. absurd cc) c.in-Ok.ensures.steady c.in-Ok.ensures.later)

pub returns-in-Err-Store-clause-causes : goal.returns-in-Err-Store-clause-causes
returns-in-Err-Store-clause-causes g c =
    let D = g.D.Disk in
    let new : Stored g.row.D.Denot = record { journal = c.append.new.self; broken_at = Some c.args.turn } in
    let ensures = rw c.in-Err-Store.field-0-is at c.in-Err-Store.ensures in
    subst (λ (old : Stored g.row.D.Denot). AppendCauses D.faults old new c.args.framed.now c.args.turn (Err Store)) c.self.view_is
    (causes_of {U = ℕ} D.faults _ new c.args.framed.now c.args.turn (Err Store) (λ err. record { rose = (ensures.store refl).0; at = refl }) ensures.full (λ n err. absurd cc) tt ensures.later)

pub returns-in-Err-Full-clause-causes : goal.returns-in-Err-Full-clause-causes
returns-in-Err-Full-clause-causes g c =
    let D = g.D.Disk in
    let new : Stored g.row.D.Denot = record { journal = c.append.new.self; broken_at = c.self.inside.broken_at } in
    let ensures = rw c.in-Err-Full.field-0-is at c.in-Err-Full.ensures in
    let with_journal : Open g.row.D.Denot → Stored g.row.D.Denot = λ j. record { journal = j; broken_at = c.self.inside.broken_at } in
    subst (λ (old : Stored g.row.D.Denot). AppendCauses D.faults old new c.args.framed.now c.args.turn (Err (Full c.in-Err-Full.end))) c.self.view_is
    (causes_of {U = ℕ} D.faults _ new c.args.framed.now c.args.turn (Err (Full c.in-Err-Full.end)) (λ err. absurd cc) ensures.full (λ n err. ap with_journal (ensures.same n err)) tt ensures.later)
