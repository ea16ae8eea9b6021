-- What a call gives, where it is not refused for its numbers: what it is told, and a fact that fits.
use Rattle.std.proofs.Common.{◌≡◌, ap, subst, ℕ, ◌+◌, Bool, true, false, IfSome, Ok, Err, if◌then◌else◌, refl}
use Rattle.sig_json.specs.declared.limits.TheConstants.{LAST_NUMBER}
use Rattle.sig_terms.specs.declared.call.Call.{Call}
use Rattle.sig_terms.specs.declared.fault.PrepareFault.TheVariants.{Number}
use Rattle.sig_terms.specs.declared.rules.Rules.{Rules}
use Rattle.sig_terms.specs.Reply.{Reply}
use Rattle.sig_history.specs.Owed.{Sum}
use Rattle.sig_history.specs.Sound.{Fits}
use Rattle.sig_history.specs.Whole.{IsWhole}
use Rattle.sig_calls.specs.Proper.{IsProperCall, IsProperRules}
use Rattle.sig_calls.specs.Regular.{IsRegular}
use Rattle.sig_calls.specs.Table.{prepared_of, told_of}
use Rattle.sig_calls.specs.Told.{Told, outcome}
use Rattle.sig_calls.proofs.RegularLemmas.{calls_regular}

-- what a call is told, as a reply
abbrev pub reply_with : Told → Reply
reply_with t = record { answer = t.answer; change = t.change }

pub outcome_within : (t : Told) → t.over ≡ false → outcome t ≡ Ok (reply_with t)
outcome_within t low = ap (λ b. if b then Err (Number (LAST_NUMBER + 1)) else Ok (reply_with t)) low

pub outcome_over : (t : Told) → t.over ≡ true → outcome t ≡ Err (Number (LAST_NUMBER + 1))
outcome_over t high = ap (λ b. if b then Err (Number (LAST_NUMBER + 1)) else Ok (reply_with t)) high

-- where there is a reply, no number is too great, and it is what the call is told
pub record IsReplyOf (t : Told) (r : Reply) : Type 0 where
  pub low : t.over ≡ false
  pub reply : reply_with t ≡ r

reply_by : (over : Bool) (s r : Reply) → (if over then Err (Number (LAST_NUMBER + 1)) else Ok s) ≡ Ok r → (over ≡ false) × (s ≡ r)
reply_by true s r is = cc is
reply_by false s r is = (refl, cc)

pub reply_of : (t : Told) (r : Reply) → outcome t ≡ Ok r → IsReplyOf t r
reply_of t r is =
    let both = reply_by t.over (reply_with t) r is in
    record { low = both.0; reply = both.1 }

-- the fact of a reply to a proper call fits
pub reply_fits : (rules : Rules) (sum : Sum) (call : Call) (now : ℕ) (r : Reply) → IsProperRules rules → IsProperCall call → IsWhole sum
    → prepared_of rules sum call now ≡ Ok r → IfSome r.change (Fits sum)
reply_fits rules sum call now r proper called whole is =
    let of : IsReplyOf (told_of rules sum call now) r = reply_of (told_of rules sum call now) r is in
    let regular : IsRegular rules sum call now (told_of rules sum call now) = calls_regular rules sum call now proper whole in
    subst (λ (s : Reply). IfSome s.change (Fits sum)) of.reply (regular.fits called of.low)
