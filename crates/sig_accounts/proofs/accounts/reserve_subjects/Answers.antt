use Rattle.std.proofs.Common.{◌∙◌, arith}
use Rattle.std.proofs.Math.Seq.{map-set_same}
use Rattle.sig_history.specs.Streams.{is_named}
use Rattle.sig_accounts.specs.Owings.{HasRoomFor, owing_in, subjects_in}
use Rattle.sig_accounts.proofs.BalanceLemmas.{holds_more}
use Rattle.sig_accounts.proofs.accounts.reserve_subjects.Goals as goal

pub loop-account-preserved : goal.loop-account-preserved
loop-account-preserved c = record {
  same = map-set_same owing_in c.loop-account.accounts c.loop-account.account-index c.reserve_subject.new.self c.account-item.result c.reserve_subject.ensures.same
      ∙ c.loop-account.invariant.same;
  rooms = holds_more (HasRoomFor (is_named c.args.name.now) subjects_in) c.loop-account.accounts c.loop-account.account-index c.reserve_subject.new.self (omega arith)
      c.loop-account.invariant.rooms c.in_ok-reserve_subject.ensures.ok;
}

pub returns-in_err-reserve_subject-clause-same : goal.returns-in_err-reserve_subject-clause-same
returns-in_err-reserve_subject-clause-same c =
    map-set_same owing_in c.loop-account.accounts c.loop-account.account-index c.reserve_subject.new.self c.account-item.result c.reserve_subject.ensures.same
    ∙ c.loop-account.invariant.same
