-- How a transmitter's node answers a call, unless a disk fails.
use Rattle.std.proofs.Common.{◌≡◌, ◌∙◌, ap, sym, subst, inl, inr, ℕ, suc, ◌+◌, ◌<◌, ◌≤◌, Bool, true, false, Option, Some, None, Result, Ok, Err, refl, arith}
use Rattle.std.specs.Prelude.{◌⊎◌, nat_lt, if◌then◌else◌}
use Rattle.std.proofs.lemmas.Bool.{false≢true}
use Rattle.std.proofs.lemmas.Bool.Decides.{leb_tells}
use Rattle.sig_json.specs.declared.limits.TheConstants.{LAST_NUMBER}
use Rattle.sig_terms.specs.declared.answer.Answer.{Answer}
use Rattle.sig_terms.specs.declared.call.Call.{Call}
use Rattle.sig_terms.specs.declared.fact.Fact.{Fact}
use Rattle.sig_terms.specs.declared.fault.PrepareFault.{PrepareFault}
use Rattle.sig_terms.specs.declared.fault.PrepareFault.TheVariants as prepare
use Rattle.sig_terms.specs.declared.rules.Rules.{Rules}
use Rattle.sig_terms.specs.Reply.{Reply}
use Rattle.sig_history.specs.Owed.{Sum}
use Rattle.sig_calls.specs.Table.{answer_of, change_of, over_top, prepared_of, told_of}
use Rattle.sig_journal.specs.declared.node_fault.NodeFault.{NodeFault}
use Rattle.sig_journal.specs.declared.node_fault.NodeFault.TheVariants.{Store, Full, Memory}
use Rattle.sig_txnode.specs.Answering.{answer_at, answer_with, end_with, where_room}

abbrev Answered : Type 0
Answered = Result Answer NodeFault

full_ok : (n : ℕ) (answer : Answer) → (let r : Answered = Err (Full n) in r ≡ Ok answer) → ⊥
full_ok n answer h = cc h

full_store : (n : ℕ) → (let r : Answered = Err (Full n) in r ≡ Err Store) → ⊥
full_store n h = cc h

full_same : (m n : ℕ) → (let r : Answered = Err (Full m) in r ≡ Err (Full n)) → m ≡ n
full_same m n h = cc h

ok_same : (a b : Answer) → (let r : Answered = Ok a in r ≡ Ok b) → a ≡ b
ok_same a b h = cc h

ok_store : (a : Answer) → (let r : Answered = Ok a in r ≡ Err Store) → ⊥
ok_store a h = cc h

ok_full : (a : Answer) (n : ℕ) → (let r : Answered = Ok a in r ≡ Err (Full n)) → ⊥
ok_full a n h = cc h

-- ---- room for a fact's record

abbrev if_past : Bool → ℕ → Answer → Answered
if_past past n answer = if past then Err (Full n) else Ok answer

record HasRoom (end : ℕ) (given answer : Answer) (f : Fact) : Type 0 where
  pub same : given ≡ answer
  pub room : end_with end f ≤ LAST_NUMBER
  pub test : nat_lt LAST_NUMBER (end_with end f) ≡ false

has_room : (end : ℕ) (given answer : Answer) (f : Fact) → where_room end given (Some f) ≡ Ok answer → HasRoom end given answer f
has_room end given answer f h = by_test (nat_lt LAST_NUMBER (end_with end f)) refl h
  where
    by_test : (t : Bool) → nat_lt LAST_NUMBER (end_with end f) ≡ t → if_past t (end_with end f) given ≡ Ok answer → HasRoom end given answer f
    by_test true is h = absurd (full_ok (end_with end f) answer h)
    by_test false is h = record {
      same = ok_same given answer h;
      room = elim (leb_tells (suc LAST_NUMBER) (end_with end f)) [
        | inl past ↦ absurd (false≢true (sym is ∙ past.0))
        | inr within ↦ omega (arith, within.1)
      ];
      test = is;
    }

room_same : (end : ℕ) (given answer : Answer) (o : Option Fact) → where_room end given o ≡ Ok answer → given ≡ answer
room_same end given answer None h = ok_same given answer h
room_same end given answer (Some f) h = (has_room end given answer f h).same

room_store : (end : ℕ) (given : Answer) (o : Option Fact) → where_room end given o ≡ Err Store → ⊥
room_store end given None h = ok_store given h
room_store end given (Some f) h = by_test (nat_lt LAST_NUMBER (end_with end f)) h
  where
    by_test : (t : Bool) → if_past t (end_with end f) given ≡ Err Store → ⊥
    by_test true h = full_store (end_with end f) h
    by_test false h = ok_store given h

-- the record of the fact would end past the last number, at this place
pub record EndsPast (end n : ℕ) (o : Option Fact) : Type 0 where
  pub fact : Fact
  pub there : o ≡ Some fact
  pub place : end_with end fact ≡ n
  pub past : nat_lt LAST_NUMBER (end_with end fact) ≡ true

room_full : (end n : ℕ) (given : Answer) (o : Option Fact) → where_room end given o ≡ Err (Full n) → EndsPast end n o
room_full end n given None h = absurd (ok_full given n h)
room_full end n given (Some f) h = by_test (nat_lt LAST_NUMBER (end_with end f)) refl h
  where
    by_test : (t : Bool) → nat_lt LAST_NUMBER (end_with end f) ≡ t → if_past t (end_with end f) given ≡ Err (Full n) → EndsPast end n (Some f)
    by_test true is h = record { fact = f; there = refl; place = full_same (end_with end f) n h; past = is }
    by_test false is h = absurd (ok_full given n h)

-- ---- a call

-- what is known of a call that is answered
pub record IsTold (rules : Rules) (sum : Sum) (end : ℕ) (c : Call) (now : ℕ) (answer : Answer) : Type 0 where
  pub within : over_top rules sum c now ≡ false
  pub answered : answer_of rules sum c now ≡ answer
  pub room : (f : Fact) → change_of rules sum c now ≡ Some f → end_with end f ≤ LAST_NUMBER
  pub test : (f : Fact) → change_of rules sum c now ≡ Some f → nat_lt LAST_NUMBER (end_with end f) ≡ false

abbrev by_over : ℕ → Bool → Answer → Option Fact → Answered
by_over end over answer change = answer_with end (let p : Result Reply PrepareFault = if over then Err (prepare.Number (LAST_NUMBER + 1)) else Ok (record { answer = answer; change = change }) in p)

pub ok_tells : (rules : Rules) (sum : Sum) (end : ℕ) (c : Call) (now : ℕ) (answer : Answer) → answer_at rules sum end c now ≡ Ok answer → IsTold rules sum end c now answer
ok_tells rules sum end c now answer h = by_test (over_top rules sum c now) refl h
  where
    by_test : (over : Bool) → over_top rules sum c now ≡ over → by_over end over (answer_of rules sum c now) (change_of rules sum c now) ≡ Ok answer → IsTold rules sum end c now answer
    by_test true is h = absurd (full_ok (LAST_NUMBER + 1) answer h)
    by_test false is h = record {
      within = is;
      answered = room_same end (answer_of rules sum c now) answer (change_of rules sum c now) h;
      room = λ f there. (has_room end (answer_of rules sum c now) answer f (ap (where_room end (answer_of rules sum c now)) (sym there) ∙ h)).room;
      test = λ f there. (has_room end (answer_of rules sum c now) answer f (ap (where_room end (answer_of rules sum c now)) (sym there) ∙ h)).test;
    }

-- a number is too great: that of a stream or a token, or the place where the journal would end
pub full_tells : (rules : Rules) (sum : Sum) (end : ℕ) (c : Call) (now n : ℕ) → answer_at rules sum end c now ≡ Err (Full n)
    → ((over_top rules sum c now ≡ true) × (LAST_NUMBER + 1 ≡ n)) ⊎ ((over_top rules sum c now ≡ false) × EndsPast end n (change_of rules sum c now))
full_tells rules sum end c now n h = by_test (over_top rules sum c now) h
  where
    by_test : (over : Bool) → by_over end over (answer_of rules sum c now) (change_of rules sum c now) ≡ Err (Full n)
        → ((over ≡ true) × (LAST_NUMBER + 1 ≡ n)) ⊎ ((over ≡ false) × EndsPast end n (change_of rules sum c now))
    by_test true h = inl (refl, full_same (LAST_NUMBER + 1) n h)
    by_test false h = inr (refl, room_full end n (answer_of rules sum c now) (change_of rules sum c now) h)

-- no call is told that the disk failed
pub never_store : (rules : Rules) (sum : Sum) (end : ℕ) (c : Call) (now : ℕ) → answer_at rules sum end c now ≡ Err Store → ⊥
never_store rules sum end c now h = by_test (over_top rules sum c now) h
  where
    by_test : (over : Bool) → by_over end over (answer_of rules sum c now) (change_of rules sum c now) ≡ Err Store → ⊥
    by_test true h = full_store (LAST_NUMBER + 1) h
    by_test false h = room_store end (answer_of rules sum c now) (change_of rules sum c now) h
