-- Rows are equal exactly where they are one value.
use Rattle.std.proofs.Common.{◌≡◌, ◌∙◌, ap, sym, refl, ℕ, List, Bool, true, false, bytes_eq, nat_eq, get_or, Option, Some, None, ◌&&◌}
use Rattle.std.specs.Bool.{Decides}
use Rattle.std.specs.Option.{option_eq}
use Rattle.std.proofs.lemmas.Bool.{and_parts, eqb-true}
use Rattle.std.proofs.lemmas.Cmp.{nat_eq_equiv}
use Rattle.std.proofs.lemmas.Slice.Eq.{bytes_eq-Decides}
use Rattle.sig_subject.proofs.Identity.{decides_identity}
use Rattle.sig_sessions.specs.declared.row.Row.{Row}
use Rattle.sig_sessions.specs.declared.standing.Session.{Session}
use Rattle.sig_sessions.specs.declared.standing.Session.TheVariants as session
use Rattle.sig_sessions.specs.declared.standing.Account.{Account}
use Rattle.sig_sessions.specs.declared.standing.Account.TheVariants as account
use Rattle.sig_sessions.specs.declared.standing.Device.{Device}
use Rattle.sig_sessions.specs.declared.standing.Device.TheVariants as device
use Rattle.sig_sessions.specs.declared.standing.Opt.{Opt}
use Rattle.sig_sessions.specs.declared.standing.Opt.TheVariants as opt
use Rattle.sig_sessions.specs.Spelled.{accounts, devices, opts, sessions}
use Rattle.sig_sessions.specs.Equality.{account_place, device_place, flag_place, flags, opt_place, row_eq, same_standing, session_place}

-- ---- a value is found at its place

session_back : (x : Session) → get_or sessions (session_place x) session.Unseen ≡ x
session_back session.Unseen = refl
session_back session.Live = refl
session_back session.Revoked = refl

account_back : (x : Account) → get_or accounts (account_place x) account.Unseen ≡ x
account_back account.Unseen = refl
account_back account.Enabled = refl
account_back account.Disabled = refl
account_back account.Purged = refl

device_back : (x : Device) → get_or devices (device_place x) device.Unseen ≡ x
device_back device.Unseen = refl
device_back device.Compliant = refl
device_back device.NotCompliant = refl

opt_back : (x : Opt) → get_or opts (opt_place x) opt.Unseen ≡ x
opt_back opt.Unseen = refl
opt_back opt.In = refl
opt_back opt.Leaving = refl
opt_back opt.Out = refl

flag_back : (x : Bool) → get_or flags (flag_place x) false ≡ x
flag_back false = refl
flag_back true = refl

-- values at one place are one value
at_one_place : {T : Type 0} (place : T → ℕ) (values : List T) (d : T) → ((x : T) → get_or values (place x) d ≡ x) → (a b : T) → nat_eq (place a) (place b) ≡ true → a ≡ b
at_one_place place values d back a b h = sym (back a) ∙ ap (λ n. get_or values n d) (eqb-true (place a) (place b) h) ∙ back b

-- ---- rows

both_true : (a b : Bool) → a ≡ true → b ≡ true → a && b ≡ true
both_true a b h k = rw (h, k) refl

level_sound : (a b : Option (List ℕ)) → option_eq bytes_eq a b ≡ true → a ≡ b
level_sound None None h = refl
level_sound None (Some b) h = cc
level_sound (Some a) None h = cc
level_sound (Some a) (Some b) h = ap Some ((bytes_eq-Decides a b).0 h)

level_same : (a : Option (List ℕ)) → option_eq bytes_eq a a ≡ true
level_same None = refl
level_same (Some a) = (bytes_eq-Decides a a).1 refl

row_sound : (a b : Row) → row_eq a b ≡ true → a ≡ b
row_sound a b h =
    let level = and_parts _ _ h in
    let subject = and_parts _ _ level.0 in
    let opts_same = and_parts _ _ subject.1 in
    let stale = and_parts _ _ opts_same.0 in
    let reset = and_parts _ _ stale.0 in
    let device_same = and_parts _ _ reset.0 in
    let standing = and_parts _ _ device_same.0 in
    let s : a.subject ≡ b.subject = (decides_identity a.subject b.subject).0 subject.0 in
    let se : a.session ≡ b.session = at_one_place session_place sessions session.Unseen session_back a.session b.session standing.0 in
    let ac : a.account ≡ b.account = at_one_place account_place accounts account.Unseen account_back a.account b.account standing.1 in
    let de : a.device ≡ b.device = at_one_place device_place devices device.Unseen device_back a.device b.device device_same.1 in
    let re : a.reset ≡ b.reset = at_one_place flag_place flags false flag_back a.reset b.reset reset.1 in
    let st : a.stale ≡ b.stale = at_one_place flag_place flags false flag_back a.stale b.stale stale.1 in
    let op : a.opt ≡ b.opt = at_one_place opt_place opts opt.Unseen opt_back a.opt b.opt opts_same.1 in
    let le : a.level ≡ b.level = level_sound a.level b.level level.1 in
    λ i. record { subject = s i; session = se i; account = ac i; device = de i; reset = re i; stale = st i; opt = op i; level = le i }

at_itself : (n : ℕ) → nat_eq n n ≡ true
at_itself n = nat_eq_equiv.refl n

standing_same : (a : Row) → same_standing a a ≡ true
standing_same a = rw (at_itself (session_place a.session), at_itself (account_place a.account), at_itself (device_place a.device), at_itself (flag_place a.reset), at_itself (flag_place a.stale), at_itself (opt_place a.opt)) refl

row_same : (a : Row) → row_eq a a ≡ true
row_same a = both_true _ _ (both_true _ _ ((decides_identity a.subject a.subject).1 refl) (standing_same a)) (level_same a.level)

pub row_eq_Decides : (a b : Row) → Decides (row_eq a b) (a ≡ b)
row_eq_Decides a b = (row_sound a b, λ e. ap (row_eq a) (sym e) ∙ row_same a)
