use Rattle.std.proofs.Common.{◌≡◌, List, ◌++◌, length, take, drop, arith}
use Rattle.sig_accounts.specs.Owings.{Balance}
use Rattle.sig_ledger.proofs.RoomLemmas.{listed_room, none_listed, refilled}
use Rattle.sig_ledger.proofs.ledger.Ledger.reserve_own.Goals as goal

pub returns-in_err-reserve_subjects-in-Listed-clause-tokens : goal.returns-in_err-reserve_subjects-in-Listed-clause-tokens
returns-in_err-reserve_subjects-in-Listed-clause-tokens c = λ before.
    none_listed c.self.inside.store_id c.self.inside.published.items c.args.fact.now _ _ _ c.in-Listed.is

pub returns-in_err-reserve_subject-in-Listed-clause-tokens : goal.returns-in_err-reserve_subject-in-Listed-clause-tokens
returns-in_err-reserve_subject-in-Listed-clause-tokens c = λ before.
    none_listed c.self.inside.store_id c.self.inside.published.items c.args.fact.now _ _ _ c.in-Listed.is

pub returns-in_ok-reserve_subject-in-Listed-clause-tokens : goal.returns-in_ok-reserve_subject-in-Listed-clause-tokens
returns-in_ok-reserve_subject-in-Listed-clause-tokens c = λ before.
    none_listed c.self.inside.store_id c.self.inside.published.items c.args.fact.now _ _ _ c.in-Listed.is

pub returns-in_ok-reserve_subject-in-Listed-clause-space : goal.returns-in_ok-reserve_subject-in-Listed-clause-space
returns-in_ok-reserve_subject-in-Listed-clause-space c =
    let now : List Balance = take c.self.inside.accounts.len (c.reserve_subjects.new.accounts ++ drop (length c.reserve_subjects.new.accounts) c.self.inside.accounts.items) in
    let same : now ≡ c.reserve_subjects.new.accounts =
    refilled c.self.inside.accounts.len c.reserve_subjects.new.accounts c.self.inside.accounts.items (omega (arith, c.reserve_subjects.auto.accounts, c.as_mut_slice.ensures.len)) in
    rw c.in-Listed.is (
      listed_room c.self.inside.store_id c.self.inside.published.items _ c.as_str.result.now now c.reserve_subjects.new.accounts same c.as_str.ensures.same
          c.in_ok-reserve_subjects-in-Listed.ensures.ok,
      c.in_ok-reserve_subject-in-Listed.ensures.ok,
    )
