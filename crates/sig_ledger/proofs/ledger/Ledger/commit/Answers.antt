use Rattle.std.proofs.Common.{◌∙◌, sym, subst}
use Rattle.sig_terms.specs.declared.fact.Fact.{Fact}
use Rattle.sig_terms.specs.declared.fact.Fact.TheVariants.{Created}
use Rattle.sig_history.specs.Facts.{is_told}
use Rattle.sig_history.specs.Sound.{Fits}
use Rattle.sig_ledger.specs.Books.{sum_in}
use Rattle.sig_ledger.specs.Room.{HasRoom, HaveRoom, Spare}
use Rattle.sig_ledger.proofs.RoomLemmas.{told_status}
use Rattle.sig_ledger.proofs.ledger.Ledger.commit.Goals as goal

pub take_stream-requires-clause-fits : goal.take_stream-requires-clause-fits
take_stream-requires-clause-fits c = λ time.
    subst (λ (f : Fact). Fits (sum_in c.args.self.now.books) f) (sym c.into_parts-fact.ensures.fact ∙ c.in-Created.is) c.requires.fits

pub take_stream-requires-clause-room : goal.take_stream-requires-clause-room
take_stream-requires-clause-room c = λ time.
    let made : HasRoom (sum_in c.args.self.now.books) c.args.self.now.room (record { fact = Created c.in-Created.conf c.in-Created.time; spare = c.args.prepared.spare }) =
    subst (λ (f : Fact). HasRoom (sum_in c.args.self.now.books) c.args.self.now.room (record { fact = f; spare = c.args.prepared.spare }))
    (sym c.into_parts-fact.ensures.fact ∙ c.in-Created.is) c.requires.room in
    let held : HasRoom (sum_in c.args.self.now.books) c.args.self.now.room (record { fact = Created c.in-Created.conf c.in-Created.time; spare = c.into_parts-fact.result.1 }) =
    subst (λ (s : Spare). HasRoom (sum_in c.args.self.now.books) c.args.self.now.room (record { fact = Created c.in-Created.conf c.in-Created.time; spare = s }))
    (sym c.into_parts-fact.ensures.spare) made in
    record { spare = held.spare; told = held.told; tokens = held.tokens; space = held.space; refused = held.refused }

pub set_status-requires-clause-room : goal.set_status-requires-clause-room
set_status-requires-clause-room c = λ some.
    told_status c.in-StatusSet.stream c.in-StatusSet.status c.in-StatusSet.reason c.into_parts-fact.result.1.reason c.in-StatusSet.operator c.in-StatusSet.time
    (sum_in c.args.self.now.books).parts.streams c.args.self.now.room.tokens
    (subst (λ (f : Fact). HaveRoom (is_told f) (sum_in c.args.self.now.books).parts.streams c.args.self.now.room.tokens)
    (sym c.into_parts-fact.ensures.fact ∙ c.in-StatusSet.is) c.requires.room.tokens)
    _ c.notice_of-notice.ensures some

pub verify-requires-clause-room : goal.verify-requires-clause-room
verify-requires-clause-room c =
    subst (λ (f : Fact). HaveRoom (is_told f) (sum_in c.args.self.now.books).parts.streams c.args.self.now.room.tokens)
    (sym c.into_parts-fact.ensures.fact ∙ c.in-Asked.is) c.requires.room.tokens
