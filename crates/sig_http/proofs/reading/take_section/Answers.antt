use Rattle.std.proofs.Common.{◌≡◌, ◌∙◌, Err, ap, sym, refl, arith, rules, length, drop}
use Rattle.std.proofs.lemmas.List.{drop_at}
use Rattle.sig_http.specs.Section.{section_from, start}
use Rattle.sig_http.specs.declared.section.Section.TheVariants.{Open}
use Rattle.sig_http.proofs.PieceLemmas.{draws_then, halts_fault, halts_tally}
use Rattle.sig_http.proofs.TakingLemmas.{drawn_none, drawn_on}
use Rattle.sig_http.proofs.SectionLemmas.{section_open}
use Rattle.sig_http.proofs.reading.take_section.Goals as goal

pub returns-in_err-take_piece-clause-awaits : goal.returns-in_err-take_piece-clause-awaits
returns-in_err-take_piece-clause-awaits g c =
    let stands = c.pieces.invariant.told ∙ ap (section_from c.pieces.scan) (sym (c.split_at.ensures.back ∙ ap (drop c.pieces.judged) c.as_slice.ensures.value)) ∙ sym c.in-Open.ensures.section in
    drawn_on _ _ c.pieces.held.items _ _ _ _ c.pieces.invariant.awaits (c.in-Open.next, stands) c.in_err-take_piece.ensures.draws c.in_err-take_piece.ensures.few

pub pieces-preserved : goal.pieces-preserved
pieces-preserved g c =
    let before = c.pieces.invariant in
    let draws = c.in_ok-take_piece.ensures.draws in
    let now = c.pieces.held.items in
    let scan = c.pieces.scan in
    let next = c.in-Open.next in
    let stands : section_from start now ≡ Open next =
    before.told ∙ ap (section_from scan) (sym (c.split_at.ensures.back ∙ ap (drop c.pieces.judged) c.as_slice.ensures.value)) ∙ sym c.in-Open.ensures.section in
    let whole : length now ≡ c.len-judged.result = omega arith in
    record {
      awaits = drawn_on _ _ now _ _ _ _ before.awaits (next, stands) draws c.in_ok-take_piece.ensures.few;
      told = ap (section_from start) draws.stands ∙ section_open start next now draws.more stands
          ∙ ap (section_from next) (sym (ap (drop c.len-judged.result) draws.stands ∙ drop_at now draws.more c.len-judged.result whole));
      counted = omega (arith, c.in-Open.ensures.counted.0, c.split_at.ensures.back_len, c.as_slice.ensures.len, before.counted, before.judged);
      judged = omega (arith, c.in_ok-take_piece.ensures.piece.count);
      few = omega (arith, c.in_ok-take_piece.ensures.piece.count, c.in_ok-take_piece.ensures.piece.bound);
      within = c.in-Open.ensures.counted.1;
      beside = c.in_ok-take_piece.ensures.beside ∙ before.beside;
      steady = c.in_ok-take_piece.ensures.steady ∙ before.steady;
    }

pub pieces-init : goal.pieces-init
pieces-init g c = record { awaits = drawn_none _ _ _; told = refl; counted = refl; judged = omega arith; few = omega arith; within = omega arith; beside = refl; steady = refl }

pub returns-in-Ended : goal.returns-in-Ended
returns-in-Ended g c =
    let before = c.pieces.invariant in
    let slice = c.split_at.ensures.back ∙ ap (drop c.pieces.judged) c.as_slice.ensures.value in
    record {
      draws = before.awaits.draws;
      awaits = before.awaits;
      taken = (before.told ∙ ap (section_from c.pieces.scan) (sym slice) ∙ sym c.in-Ended.ensures.section, omega (arith, c.in-Ended.ensures.counted.1, c.split_at.ensures.back_len, c.as_slice.ensures.len, before.counted, before.judged));
      bound = omega (arith, c.in-Ended.ensures.counted.0, before.few, before.counted);
      refused = tt;
      tally = tt;
      steady = before.steady;
      beside = before.beside;
    }

pub returns-in-Long : goal.returns-in-Long
returns-in-Long g c =
    let before = c.pieces.invariant in
    let slice = c.split_at.ensures.back ∙ ap (drop c.pieces.judged) c.as_slice.ensures.value in
    record {
      draws = before.awaits.draws;
      awaits = before.awaits;
      taken = tt;
      bound = tt;
      refused = (refl, before.told ∙ ap (section_from c.pieces.scan) (sym slice) ∙ sym c.in-Long.ensures.section);
      tally = before.steady;
      steady = tt;
      beside = before.beside;
    }

pub returns-in_err-take_piece-clause-draws : goal.returns-in_err-take_piece-clause-draws
returns-in_err-take_piece-clause-draws g c = draws_then _ c.pieces.held.items _ _ _ _ c.pieces.invariant.awaits.draws c.in_err-take_piece.ensures.draws

pub returns-in_err-take_piece-clause-refused : goal.returns-in_err-take_piece-clause-refused
returns-in_err-take_piece-clause-refused g c =
    let is : c.from_residual.result ≡ Err c.in_err-take_piece.field-0.0 = search rules in
    rw is (halts_fault c.in_err-take_piece.field-0.0 _ _ _ _ c.in_err-take_piece.ensures.halts)

pub returns-in_err-take_piece-clause-tally : goal.returns-in_err-take_piece-clause-tally
returns-in_err-take_piece-clause-tally g c =
    let is : c.from_residual.result ≡ Err c.in_err-take_piece.field-0.0 = search rules in
    rw is (halts_tally c.in_err-take_piece.field-0.0 _ _ _ c.pieces.invariant.steady c.in_err-take_piece.ensures.halts)

pub returns-then-judged-eq0-clause-awaits : goal.returns-then-judged-eq0-clause-awaits
returns-then-judged-eq0-clause-awaits g c =
    let stands = c.pieces.invariant.told ∙ ap (section_from c.pieces.scan) (sym (c.split_at.ensures.back ∙ ap (drop c.pieces.judged) c.as_slice.ensures.value)) ∙ sym c.in-Open.ensures.section in
    drawn_on _ _ c.pieces.held.items _ _ _ _ c.pieces.invariant.awaits (c.in-Open.next, stands) c.in_ok-take_piece.ensures.draws c.in_ok-take_piece.ensures.few

pub returns-else-judged-eq0-clause-awaits : goal.returns-else-judged-eq0-clause-awaits
returns-else-judged-eq0-clause-awaits g c =
    let stands = c.pieces.invariant.told ∙ ap (section_from c.pieces.scan) (sym (c.split_at.ensures.back ∙ ap (drop c.pieces.judged) c.as_slice.ensures.value)) ∙ sym c.in-Open.ensures.section in
    drawn_on _ _ c.pieces.held.items _ _ _ _ c.pieces.invariant.awaits (c.in-Open.next, stands) c.in_ok-take_piece.ensures.draws c.in_ok-take_piece.ensures.few
