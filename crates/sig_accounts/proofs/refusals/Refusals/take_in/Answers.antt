use Rattle.std.proofs.Common.{◌≡◌, ◌∙◌, ap, sym, ◌∷◌, length, suc, arith}
use Rattle.sig_accounts.specs.Reported.{Reported, with_reported}
use Rattle.sig_accounts.proofs.ReportedLemmas.{reported_first}
use Rattle.sig_accounts.proofs.refusals.Refusals.take_in.Goals as goal

pub loop-refusal-preserved : goal.loop-refusal-preserved
loop-refusal-preserved c =
    let items : c.loop-refusal.left.items ≡ c.in-Some.refusal ∷ c.pop_front.new.self.items = c.in-Some.ensures.items in
    let many : length c.loop-refusal.left.items ≡ suc (length c.pop_front.new.self.items) = ap (λ l. length l) items in (
      ap (λ (r : Reported). with_reported r c.pop_front.new.self.items) c.push.ensures.reported
          ∙ reported_first c.loop-refusal.self.reported c.in-Some.refusal c.pop_front.new.self.items
          ∙ ap (with_reported c.loop-refusal.self.reported) (sym items)
          ∙ c.loop-refusal.invariant.0,
      omega (arith, many, c.push.ensures.room, c.loop-refusal.invariant.1),
    )
