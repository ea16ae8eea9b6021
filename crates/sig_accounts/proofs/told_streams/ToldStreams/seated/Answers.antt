use Rattle.std.proofs.Common.{◌≡◌, ◌<◌, ◌∙◌, ap₂, sym, ℕ, [], ◌∷◌, ◌++◌, Bool, List, get_or, arith}
use Rattle.std.specs.List.{list_any}
use Rattle.std.specs.Prelude.{nat_eq}
use Rattle.sig_accounts.proofs.SeatLemmas.{below_at, marked_more}
use Rattle.sig_accounts.proofs.told_streams.ToldStreams.seated.Goals as goal

pub loop-seat-preserved : goal.loop-seat-preserved
loop-seat-preserved c =
    let seat : ℕ = get_or c.args.seats.now c.loop-seat.seat-index 0 in
    let below : seat < c.args.number = below_at c.args.number c.args.seats.now c.loop-seat.seat-index 0 (omega arith) c.requires in
    let mark : c.has.result ≡ list_any (nat_eq seat) c.args.among.now = c.has.ensures ∙ c.in_ok-bits.ensures.set seat below in
    c.in_ok-push.ensures.items
    ∙ ap₂ (λ (ms : List Bool) (m : Bool). ms ++ m ∷ []) c.loop-seat.invariant mark
    ∙ sym (marked_more (λ k. list_any (nat_eq k) c.args.among.now) c.args.seats.now c.loop-seat.seat-index 0 (omega arith))
