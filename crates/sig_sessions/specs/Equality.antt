-- When two rows are equal.
use Rattle.std.specs.Prelude.{◌&&◌, ℕ, List, [], ◌∷◌, Bool, true, false, bytes_eq, nat_eq}
use Rattle.std.specs.Cmp.{IsEquivalence, and_equiv, nat_eq_equiv, on_equiv}
use Rattle.std.specs.Cmp.Lexicographic.{nat_list_eq_equiv, options_equiv}
use Rattle.std.specs.Option.{option_eq}
use Rattle.sig_subject.specs.Matching.{is_identical}
use Rattle.sig_subject.proofs.Identity.{identity_equiv}
use Rattle.sig_sessions.specs.declared.row.Row.{Row}
use Rattle.sig_sessions.specs.declared.standing.Session.{Session}
use Rattle.sig_sessions.specs.declared.standing.Session.TheVariants as session
use Rattle.sig_sessions.specs.declared.standing.Account.{Account}
use Rattle.sig_sessions.specs.declared.standing.Account.TheVariants as account
use Rattle.sig_sessions.specs.declared.standing.Device.{Device}
use Rattle.sig_sessions.specs.declared.standing.Device.TheVariants as device
use Rattle.sig_sessions.specs.declared.standing.Opt.{Opt}
use Rattle.sig_sessions.specs.declared.standing.Opt.TheVariants as opt

-- ---- the place of a value in its closed list, from 0

abbrev pub session_place : Session → ℕ
session_place session.Unseen = 0
session_place session.Live = 1
session_place session.Revoked = 2

abbrev pub account_place : Account → ℕ
account_place account.Unseen = 0
account_place account.Enabled = 1
account_place account.Disabled = 2
account_place account.Purged = 3

abbrev pub device_place : Device → ℕ
device_place device.Unseen = 0
device_place device.Compliant = 1
device_place device.NotCompliant = 2

abbrev pub opt_place : Opt → ℕ
opt_place opt.Unseen = 0
opt_place opt.In = 1
opt_place opt.Leaving = 2
opt_place opt.Out = 3

abbrev pub flags : List Bool
flags = false ∷ true ∷ []

abbrev pub flag_place : Bool → ℕ
flag_place false = 0
flag_place true = 1

-- ---- rows

-- the same is known of both
abbrev pub same_standing : Row → Row → Bool
same_standing a b =
    nat_eq (session_place a.session) (session_place b.session)
    && nat_eq (account_place a.account) (account_place b.account)
    && nat_eq (device_place a.device) (device_place b.device)
    && nat_eq (flag_place a.reset) (flag_place b.reset)
    && nat_eq (flag_place a.stale) (flag_place b.stale)
    && nat_eq (opt_place a.opt) (opt_place b.opt)

-- of identical subjects, with the same known of both, and at one level or with none
abbrev pub row_eq : Row → Row → Bool
row_eq a b = is_identical a.subject b.subject && same_standing a b && option_eq bytes_eq a.level b.level

-- it is an equivalence
pub row_equiv : IsEquivalence row_eq
row_equiv =
    and_equiv
    (and_equiv (on_equiv (λ (r : Row). r.subject) identity_equiv)
    (and_equiv (and_equiv (and_equiv (and_equiv (and_equiv
    (on_equiv (λ (r : Row). session_place r.session) nat_eq_equiv)
    (on_equiv (λ (r : Row). account_place r.account) nat_eq_equiv))
    (on_equiv (λ (r : Row). device_place r.device) nat_eq_equiv))
    (on_equiv (λ (r : Row). flag_place r.reset) nat_eq_equiv))
    (on_equiv (λ (r : Row). flag_place r.stale) nat_eq_equiv))
    (on_equiv (λ (r : Row). opt_place r.opt) nat_eq_equiv)))
    (on_equiv (λ (r : Row). r.level) (options_equiv nat_list_eq_equiv))
