use Rattle.std.proofs.Common.{◌∙◌, ap, sym, subst, arith, get_or, map, List, refl}
use Rattle.std.proofs.Math.Seq.{map-set_same}
use Rattle.sig_history.specs.Facts.{is_told}
use Rattle.sig_accounts.specs.Owings.{Balance, HasRoomFor, owing_in, room_in}
use Rattle.sig_accounts.proofs.BalanceLemmas.{holds_more}
use Rattle.sig_accounts.proofs.TellingLemmas.{untold_room}
use Rattle.sig_accounts.proofs.telling.reserve_tokens.Goals as goal
use Rattle.sig_accounts.proofs.telling.reserve_tokens.Goals.{then-tells+in_ok-reserve_token, else-tells}

pub returns-in_err-reserve_token-clause-same : goal.returns-in_err-reserve_token-clause-same
returns-in_err-reserve_token-clause-same c =
    map-set_same owing_in c.loop-place.accounts c.loop-place.place c.reserve_token.new.self c.index-accounts-place.result c.reserve_token.ensures.same
    ∙ c.loop-place.invariant.same

pub loop-place-preserved : goal.loop-place-preserved
loop-place-preserved c =
    elim c.if-tells.branch [
      | then-tells+in_ok-reserve_token w ↦ record {
        same = ap (map owing_in) w.accounts-is
            ∙ map-set_same owing_in c.loop-place.accounts c.loop-place.place w.reserve_token.new.self c.index-accounts-place.result w.reserve_token.ensures.same
            ∙ c.loop-place.invariant.same;
        rooms = λ k d h. subst (λ (bs : List Balance). HasRoomFor (is_told c.args.addressed.now.fact) room_in (get_or bs k d)) (sym w.accounts-is)
            (holds_more (HasRoomFor (is_told c.args.addressed.now.fact) room_in) c.loop-place.accounts c.loop-place.place w.reserve_token.new.self (omega arith)
            c.loop-place.invariant.rooms (λ told. w.in_ok-reserve_token.ensures.ok) k d h);
      }
      | else-tells w ↦ record {
        same = ap (map owing_in) w.accounts-is
            ∙ map-set_same owing_in c.loop-place.accounts c.loop-place.place (get_or c.loop-place.accounts c.loop-place.place c.index-accounts-place.result)
            c.index-accounts-place.result refl
            ∙ c.loop-place.invariant.same;
        rooms = λ k d h. subst (λ (bs : List Balance). HasRoomFor (is_told c.args.addressed.now.fact) room_in (get_or bs k d)) (sym w.accounts-is)
            (holds_more (HasRoomFor (is_told c.args.addressed.now.fact) room_in) c.loop-place.accounts c.loop-place.place
            (get_or c.loop-place.accounts c.loop-place.place c.index-accounts-place.result) (omega arith) c.loop-place.invariant.rooms
            (untold_room (is_told c.args.addressed.now.fact) c.args.accounts.now c.loop-place.accounts c.args.addressed.now.told c.loop-place.place c.requires
            c.loop-place.invariant.same (omega arith) (sym c.tells.ensures ∙ w.if-tells.false) c.index-accounts-place.result) k d h);
      }
    ]
