use Rattle.std.proofs.Common.{◌≡◌, ◌∙◌, Err, ap, sym, arith, rules, length, drop}
use Rattle.sig_http.specs.Chunks.{Holds, chunks_from}
use Rattle.sig_http.proofs.PieceLemmas.{judged_fault, judged_tally, draws_from, halts_fault, halts_tally}
use Rattle.sig_http.proofs.BodyLemmas.{chunks_break, chunks_cut, chunks_end, chunking_on, chunking_takes}
use Rattle.sig_http.proofs.body.read_chunked.Goals as goal

pub returns-in-Broken-clause-refused : goal.returns-in-Broken-clause-refused
returns-in-Broken-clause-refused g c =
    let told = rw c.in-Broken.is at c.in_ok-next.ensures.told in
    let light = rw c.in-Broken.is at c.in_ok-next.ensures.light in
    judged_fault c.in-Broken.fault _ _ _ (λ _. chunks_break c.args.limit c.args.held.items c.pieces.standing c.pieces.content.items c.pieces.held.items c.in-Broken.fault _ _ c.pieces.invariant.chunking
    (ap (chunks_from c.args.limit c.pieces.standing c.pieces.content.items) (sym c.as_slice.ensures.value) ∙ told)) light

pub returns-in-Broken-clause-tally : goal.returns-in-Broken-clause-tally
returns-in-Broken-clause-tally g c =
    let light = rw c.in-Broken.is at c.in_ok-next.ensures.light in
    judged_tally c.in-Broken.fault _ _ _ c.pieces.invariant.steady light

pub returns-then-branch-eq0-clause-refused : goal.returns-then-branch-eq0-clause-refused
returns-then-branch-eq0-clause-refused g c =
    let told = rw c.in-Open.is at c.in_ok-next.ensures.told in
    let piece = c.in_ok-take_piece.ensures.piece in
    let none : length c.take_piece.new.bytes.items ≡ 0 = omega (arith, piece.count, ap length c.clear.ensures.items, c.if-branch-eq0.true) in
    chunks_cut c.args.limit c.args.held.items c.pieces.standing c.in-Open.next c.pieces.content.items c.read_chunks.new.content.items c.pieces.held.items c.take_piece.new.bytes.items _ _ _
    c.pieces.invariant.chunking (ap (chunks_from c.args.limit c.pieces.standing c.pieces.content.items) (sym c.as_slice.ensures.value) ∙ told)
    (draws_from _ _ _ _ _ c.clear.ensures.items c.in_ok-take_piece.ensures.draws) none (piece.ends c.if-branch-eq0.true)

pub pieces-preserved : goal.pieces-preserved
pieces-preserved g c =
    let told = rw c.in-Open.is at c.in_ok-next.ensures.told in
    let before = c.pieces.invariant in
    record {
      chunking = chunking_on c.args.limit c.args.held.items c.pieces.standing c.in-Open.next c.pieces.content.items c.read_chunks.new.content.items c.pieces.held.items c.take_piece.new.bytes.items _ _ _
          before.chunking (ap (chunks_from c.args.limit c.pieces.standing c.pieces.content.items) (sym c.as_slice.ensures.value) ∙ told)
          (draws_from _ _ _ _ _ c.clear.ensures.items c.in_ok-take_piece.ensures.draws) (omega (arith, c.in_ok-take_piece.ensures.few, ap length c.clear.ensures.items));
      few = omega (arith, c.in_ok-take_piece.ensures.piece.count, c.in_ok-take_piece.ensures.piece.bound, ap length c.clear.ensures.items);
      beside = c.in_ok-take_piece.ensures.beside ∙ before.beside;
      steady = c.in_ok-take_piece.ensures.steady ∙ before.steady;
    }

pub returns-in-Ended-clause-body : goal.returns-in-Ended-clause-body
returns-in-Ended-clause-body g c =
    let told = rw c.in-Ended.is at c.in_ok-next.ensures.told in
    chunks_end c.args.limit c.in-Ended.place c.args.held.items c.pieces.standing c.pieces.content.items c.pieces.held.items _ _ _ c.pieces.invariant.chunking
    (ap (chunks_from c.args.limit c.pieces.standing c.pieces.content.items) (sym c.as_slice.ensures.value) ∙ told.1 ∙ ap (λ b. Holds c.read_chunks.new.content.items (drop c.in-Ended.place b)) c.as_slice.ensures.value)
    c.in_ok-rest-in-Ended.ensures.tail

pub returns-in_err-take_piece-clause-refused : goal.returns-in_err-take_piece-clause-refused
returns-in_err-take_piece-clause-refused g c =
    let is : c.from_residual-in_err-take_piece.result ≡ Err c.in_err-take_piece.field-0.0 = search rules in
    rw is (halts_fault c.in_err-take_piece.field-0.0 _ _ _ _ c.in_err-take_piece.ensures.halts)

pub returns-in_err-take_piece-clause-tally : goal.returns-in_err-take_piece-clause-tally
returns-in_err-take_piece-clause-tally g c =
    let is : c.from_residual-in_err-take_piece.result ≡ Err c.in_err-take_piece.field-0.0 = search rules in
    rw is (halts_tally c.in_err-take_piece.field-0.0 _ _ _ c.pieces.invariant.steady c.in_err-take_piece.ensures.halts)

pub returns-in_err-take_piece-clause-awaits : goal.returns-in_err-take_piece-clause-awaits
returns-in_err-take_piece-clause-awaits g c =
    let told = rw c.in-Open.is at c.in_ok-next.ensures.told in
    chunking_takes c.args.limit c.args.held.items c.in-Open.next c.read_chunks.new.content.items c.take_piece.new.bytes.items _ _
    (chunking_on c.args.limit c.args.held.items c.pieces.standing c.in-Open.next c.pieces.content.items c.read_chunks.new.content.items c.pieces.held.items c.take_piece.new.bytes.items _ _ _
    c.pieces.invariant.chunking (ap (chunks_from c.args.limit c.pieces.standing c.pieces.content.items) (sym c.as_slice.ensures.value) ∙ told)
    (draws_from _ _ _ _ _ c.clear.ensures.items c.in_err-take_piece.ensures.draws) (omega (arith, c.in_err-take_piece.ensures.few, ap length c.clear.ensures.items)))
