use Rattle.std.proofs.Common.{◌∙◌, ap, sym, subst, ◌<◌, arith, true, false, get_or, map, List}
use Rattle.sig_accounts.specs.Owings.{Balance, owing_heard, owing_in}
use Rattle.sig_accounts.proofs.BalanceLemmas.{over_more}
use Rattle.sig_accounts.proofs.TellingLemmas.{heard_told, rest_more, told_room}
use Rattle.sig_accounts.proofs.telling.hear_all.Goals as goal
use Rattle.sig_accounts.proofs.telling.hear_all.Goals.{then-has, else-has}

pub tell-requires-clause-room : goal.tell-requires-clause-room
tell-requires-clause-room c =
    subst (λ (b : Balance). 0 < b.room) (sym (c.loop-place.invariant.rest c.loop-place.place c.index-accounts-place.result (omega arith)))
    (told_room c.requires.rooms.0 c.args.accounts.now c.args.told.now c.loop-place.place c.index-accounts-place.result c.requires.rooms.1 (omega arith) c.requires.rooms.2
    (sym c.has.ensures ∙ c.if-has.true))

pub loop-place-preserved : goal.loop-place-preserved
loop-place-preserved c =
    elim c.if-has.branch [
      | then-has w ↦ record {
        so_far = λ n due. ap (map owing_in) w.accounts-is
            ∙ over_more (owing_heard n c.args.time c.args.publication) c.args.accounts.now c.loop-place.accounts c.loop-place.place c.index-accounts-place.result
            w.tell.new.self (omega arith) (c.loop-place.invariant.so_far n due) c.index-accounts-place.is
            (w.tell.ensures
            ∙ heard_told n c.args.time c.args.publication c.args.accounts.now c.loop-place.accounts c.args.told.now c.loop-place.place c.index-accounts-place.result true due
            (omega arith) c.loop-place.invariant.rest (sym c.has.ensures ∙ w.if-has.true));
        rest = λ k d h. ap (λ (bs : List Balance). get_or bs k d) w.accounts-is
            ∙ rest_more c.args.accounts.now c.loop-place.accounts c.loop-place.place w.tell.new.self c.loop-place.invariant.rest k d h;
      }
      | else-has w ↦ record {
        so_far = λ n due. ap (map owing_in) w.accounts-is
            ∙ over_more (owing_heard n c.args.time c.args.publication) c.args.accounts.now c.loop-place.accounts c.loop-place.place c.index-accounts-place.result
            (get_or c.loop-place.accounts c.loop-place.place c.index-accounts-place.result) (omega arith) (c.loop-place.invariant.so_far n due) c.index-accounts-place.is
            (heard_told n c.args.time c.args.publication c.args.accounts.now c.loop-place.accounts c.args.told.now c.loop-place.place c.index-accounts-place.result false due
            (omega arith) c.loop-place.invariant.rest (sym c.has.ensures ∙ w.if-has.false));
        rest = λ k d h. ap (λ (bs : List Balance). get_or bs k d) w.accounts-is
            ∙ rest_more c.args.accounts.now c.loop-place.accounts c.loop-place.place (get_or c.loop-place.accounts c.loop-place.place c.index-accounts-place.result)
            c.loop-place.invariant.rest k d h;
      }
    ]
