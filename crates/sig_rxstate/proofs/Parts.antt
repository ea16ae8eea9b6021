-- Pairs and rows are read as they are spelled.
use Rattle.std.proofs.Common.{◌≡◌, ◌∙◌, ap, sym, refl, subst, ℕ, zero, suc, List, [], ◌∷◌, ◌++◌, Bool, Option, Some, append_assoc}
use Rattle.std.specs.Prelude.{Result, Ok, ⊤}
use Rattle.std.specs.List.{slice_get}
use Rattle.sig_fields.specs.Agreeing.{Agrees, AreBytes, IsProperMaybe, IsProperText}
use Rattle.sig_fields.specs.Kinds as kinds
use Rattle.sig_fields.specs.Reading.{given, ◌>>=◌}
use Rattle.sig_fields.proofs.Agreeing.{HasRule, bytes_agree, flags_agree, given_same, joined_spelling, ruled_agrees, texts_agree, then_spells}
use Rattle.sig_inbox.specs.declared.pair.Pair.{Pair}
use Rattle.sig_subject.specs.declared.subject.Subject.{Subject}
use Rattle.sig_sessions.specs.declared.row.Row.{Row}
use Rattle.sig_sessions.specs.declared.standing.Session.{Session}
use Rattle.sig_sessions.specs.declared.standing.Session.TheVariants as session
use Rattle.sig_sessions.specs.declared.standing.Account.{Account}
use Rattle.sig_sessions.specs.declared.standing.Account.TheVariants as account
use Rattle.sig_sessions.specs.declared.standing.Device.{Device}
use Rattle.sig_sessions.specs.declared.standing.Device.TheVariants as device
use Rattle.sig_sessions.specs.declared.standing.Opt.{Opt}
use Rattle.sig_sessions.specs.declared.standing.Opt.TheVariants as opt
use Rattle.sig_sessions.specs.Equality.{account_place, device_place, opt_place, session_place}
use Rattle.sig_sessions.specs.Spelled.{accounts, devices, opts, sessions}
use Rattle.sig_entry.specs.Parts as parts
use Rattle.sig_entry.specs.Proper.{IsShortSubject}
use Rattle.sig_entry.proofs.NewsLemmas.{subjects_agree}
use Rattle.sig_entry.proofs.Steps.{read_first, read_last}
use Rattle.sig_entry.proofs.StreamLemmas.{words_agree}
use Rattle.sig_rxstate.specs.Laws.{IsProperPair, IsProperRow}
use Rattle.sig_rxstate.specs.Parts.{pair, pair_bytes, row, row_bytes, standing_bytes, value_of}

-- ---- pairs

pub pairs_agree : Agrees IsProperPair pair_bytes pair
pairs_agree = record { reads = reads; spells = spells }
  where
    reads : (p : Pair) (rest : List ℕ) → IsProperPair p → pair (pair_bytes p ++ rest) ≡ Ok (p, rest)
    reads p rest proper =
        read_first _ _ _ texts_agree p.iss proper.0 (λ (iss : List ℕ). kinds.text >>= (λ (jti : List ℕ). given (pair_of iss jti))) (kinds.text_bytes p.jti) rest (Ok (p, rest))
        (read_last _ _ _ texts_agree p.jti proper.1 (λ (jti : List ℕ). given (pair_of p.iss jti)) rest (Ok (p, rest)) refl)
      where
        pair_of : List ℕ → List ℕ → Pair
        pair_of iss jti = record { iss = iss; jti = jti }

    spells : (bytes : List ℕ) (p : Pair) (rest : List ℕ) → AreBytes bytes → pair bytes ≡ Ok (p, rest) → IsProperPair p × (bytes ≡ pair_bytes p ++ rest)
    spells bytes p rest are h =
        let a = then_spells _ _ _ texts_agree _ bytes p rest are h in
        let b = then_spells _ _ _ texts_agree (λ (jti : List ℕ). given (pair_of a.value jti)) a.mid p rest a.are a.then in
        let s = given_same (pair_of a.value b.value) p b.mid rest b.then in (
          subst IsProperPair s.0 (a.proper, b.proper),
          joined_spelling bytes (kinds.text_bytes a.value) a.mid (kinds.text_bytes b.value) b.mid a.spelt b.spelt ∙ (λ i. pair_bytes (s.0 i) ++ s.1 i),
        )
      where
        pair_of : List ℕ → List ℕ → Pair
        pair_of iss jti = record { iss = iss; jti = jti }

-- ---- what is known of a row

abbrev Any : {T : Type 0} → T → Type 0
Any x = ⊤

-- a value is read by its place
abbrev HasPlace : {T : Type 0} → List T → (T → ℕ) → Type 0
HasPlace values place = HasRule (λ (b : ℕ). ⊤) Any (slice_get values) place

values_agree : {T : Type 0} (values : List T) (place : T → ℕ) → HasPlace values place → Agrees Any (λ x. kinds.byte_bytes (place x)) (value_of values)
values_agree values place rule = ruled_agrees (λ b. ⊤) Any kinds.byte_bytes kinds.byte (slice_get values) place bytes_agree rule

no_value : {T : Type 0} (values : List T) (place : ℕ) (x : T) {P : Type 0} → slice_get {X = T} [] place ≡ Some x → P
no_value values place x h = cc

session_rule : HasPlace sessions session_place
session_rule = record { sound = sound; complete = complete }
  where
    sound : (y : Session) → ⊤ → ⊤ × (slice_get sessions (session_place y) ≡ Some y)
    sound session.Unseen _ = (tt, refl)
    sound session.Live _ = (tt, refl)
    sound session.Revoked _ = (tt, refl)

    complete : (x : ℕ) (y : Session) → ⊤ → slice_get sessions x ≡ Some y → ⊤ × (x ≡ session_place y)
    complete zero y _ h = let same : session.Unseen ≡ y = cc in (tt, ap session_place same)
    complete (suc zero) y _ h = let same : session.Live ≡ y = cc in (tt, ap session_place same)
    complete (suc (suc zero)) y _ h = let same : session.Revoked ≡ y = cc in (tt, ap session_place same)
    complete (suc (suc (suc x))) y _ h = no_value sessions x y h

account_rule : HasPlace accounts account_place
account_rule = record { sound = sound; complete = complete }
  where
    sound : (y : Account) → ⊤ → ⊤ × (slice_get accounts (account_place y) ≡ Some y)
    sound account.Unseen _ = (tt, refl)
    sound account.Enabled _ = (tt, refl)
    sound account.Disabled _ = (tt, refl)
    sound account.Purged _ = (tt, refl)

    complete : (x : ℕ) (y : Account) → ⊤ → slice_get accounts x ≡ Some y → ⊤ × (x ≡ account_place y)
    complete zero y _ h = let same : account.Unseen ≡ y = cc in (tt, ap account_place same)
    complete (suc zero) y _ h = let same : account.Enabled ≡ y = cc in (tt, ap account_place same)
    complete (suc (suc zero)) y _ h = let same : account.Disabled ≡ y = cc in (tt, ap account_place same)
    complete (suc (suc (suc zero))) y _ h = let same : account.Purged ≡ y = cc in (tt, ap account_place same)
    complete (suc (suc (suc (suc x)))) y _ h = no_value accounts x y h

device_rule : HasPlace devices device_place
device_rule = record { sound = sound; complete = complete }
  where
    sound : (y : Device) → ⊤ → ⊤ × (slice_get devices (device_place y) ≡ Some y)
    sound device.Unseen _ = (tt, refl)
    sound device.Compliant _ = (tt, refl)
    sound device.NotCompliant _ = (tt, refl)

    complete : (x : ℕ) (y : Device) → ⊤ → slice_get devices x ≡ Some y → ⊤ × (x ≡ device_place y)
    complete zero y _ h = let same : device.Unseen ≡ y = cc in (tt, ap device_place same)
    complete (suc zero) y _ h = let same : device.Compliant ≡ y = cc in (tt, ap device_place same)
    complete (suc (suc zero)) y _ h = let same : device.NotCompliant ≡ y = cc in (tt, ap device_place same)
    complete (suc (suc (suc x))) y _ h = no_value devices x y h

opt_rule : HasPlace opts opt_place
opt_rule = record { sound = sound; complete = complete }
  where
    sound : (y : Opt) → ⊤ → ⊤ × (slice_get opts (opt_place y) ≡ Some y)
    sound opt.Unseen _ = (tt, refl)
    sound opt.In _ = (tt, refl)
    sound opt.Leaving _ = (tt, refl)
    sound opt.Out _ = (tt, refl)

    complete : (x : ℕ) (y : Opt) → ⊤ → slice_get opts x ≡ Some y → ⊤ × (x ≡ opt_place y)
    complete zero y _ h = let same : opt.Unseen ≡ y = cc in (tt, ap opt_place same)
    complete (suc zero) y _ h = let same : opt.In ≡ y = cc in (tt, ap opt_place same)
    complete (suc (suc zero)) y _ h = let same : opt.Leaving ≡ y = cc in (tt, ap opt_place same)
    complete (suc (suc (suc zero))) y _ h = let same : opt.Out ≡ y = cc in (tt, ap opt_place same)
    complete (suc (suc (suc (suc x)))) y _ h = no_value opts x y h

-- ---- rows

-- the row of its fields
abbrev row_of : Subject → Session → Account → Device → Bool → Bool → Opt → Option (List ℕ) → Row
row_of subject s a d reset stale o level = record {
  subject = subject;
  session = s;
  account = a;
  device = d;
  reset = reset;
  stale = stale;
  opt = o;
  level = level;
}

abbrev after_opt : Subject → Session → Account → Device → Bool → Bool → Opt → List ℕ → Result (Row × List ℕ) (List ℕ)
after_opt subject s a d reset stale o = do
  level ← kinds.maybe kinds.text
  given (row_of subject s a d reset stale o level)

abbrev after_stale : Subject → Session → Account → Device → Bool → Bool → List ℕ → Result (Row × List ℕ) (List ℕ)
after_stale subject s a d reset stale = do
  o ← value_of opts
  after_opt subject s a d reset stale o

abbrev after_reset : Subject → Session → Account → Device → Bool → List ℕ → Result (Row × List ℕ) (List ℕ)
after_reset subject s a d reset = do
  stale ← kinds.flag
  after_stale subject s a d reset stale

abbrev after_device : Subject → Session → Account → Device → List ℕ → Result (Row × List ℕ) (List ℕ)
after_device subject s a d = do
  reset ← kinds.flag
  after_reset subject s a d reset

abbrev after_account : Subject → Session → Account → List ℕ → Result (Row × List ℕ) (List ℕ)
after_account subject s a = do
  d ← value_of devices
  after_device subject s a d

abbrev after_session : Subject → Session → List ℕ → Result (Row × List ℕ) (List ℕ)
after_session subject s = do
  a ← value_of accounts
  after_account subject s a

abbrev after_subject : Subject → List ℕ → Result (Row × List ℕ) (List ℕ)
after_subject subject = do
  s ← value_of sessions
  after_session subject s

row_reads : (r : Row) (rest : List ℕ) → IsProperRow r → row (row_bytes r ++ rest) ≡ Ok (r, rest)
row_reads r rest proper =
    let level : List ℕ = kinds.maybe_bytes kinds.text_bytes r.level in
    ap row (append_assoc (parts.subject_bytes r.subject ++ standing_bytes r) level rest ∙ append_assoc (parts.subject_bytes r.subject) (standing_bytes r) (level ++ rest))
    ∙ read_last _ _ _ subjects_agree r.subject proper.0 after_subject (standing_bytes r ++ (level ++ rest)) (Ok (r, rest))
    (read_last _ _ _ (values_agree sessions session_place session_rule) r.session tt (after_session r.subject) _ (Ok (r, rest))
    (read_last _ _ _ (values_agree accounts account_place account_rule) r.account tt (after_account r.subject r.session) _ (Ok (r, rest))
    (read_last _ _ _ (values_agree devices device_place device_rule) r.device tt (after_device r.subject r.session r.account) _ (Ok (r, rest))
    (read_last _ _ _ flags_agree r.reset tt (after_reset r.subject r.session r.account r.device) _ (Ok (r, rest))
    (read_last _ _ _ flags_agree r.stale tt (after_stale r.subject r.session r.account r.device r.reset) _ (Ok (r, rest))
    (read_last _ _ _ (values_agree opts opt_place opt_rule) r.opt tt (after_opt r.subject r.session r.account r.device r.reset r.stale) _ (Ok (r, rest))
    (read_last _ _ _ words_agree r.level proper.1 (λ l. given (row_of r.subject r.session r.account r.device r.reset r.stale r.opt l)) rest (Ok (r, rest)) refl)))))))

-- three bytes, one after another
three_bytes : (one two three four : List ℕ) (a b c : ℕ) → one ≡ a ∷ two → two ≡ b ∷ three → three ≡ c ∷ four → one ≡ (a ∷ b ∷ c ∷ []) ++ four
three_bytes one two three four a b c h1 h2 h3 = h1 ∙ ap (λ l. a ∷ l) h2 ∙ ap (λ l. a ∷ b ∷ l) h3

-- what is read of a row after its device
record Late (u : Subject) (s : Session) (a : Account) (d : Device) (bytes : List ℕ) (r : Row) (rest : List ℕ) : Type 0 where
  reset : Bool
  stale : Bool
  opt : Opt
  level : Option (List ℕ)
  is : row_of u s a d reset stale opt level ≡ r
  proper : IsProperMaybe IsProperText level
  spelt : bytes ≡ (kinds.flag_byte reset ∷ kinds.flag_byte stale ∷ opt_place opt ∷ []) ++ (kinds.maybe_bytes kinds.text_bytes level ++ rest)

late_spells : (u : Subject) (s : Session) (a : Account) (d : Device) (bytes : List ℕ) (r : Row) (rest : List ℕ) → AreBytes bytes → after_device u s a d bytes ≡ Ok (r, rest)
    → Late u s a d bytes r rest
late_spells u s a d bytes r rest are h =
    let re = then_spells _ _ _ flags_agree (after_reset u s a d) bytes r rest are h in
    let st = then_spells _ _ _ flags_agree (after_stale u s a d re.value) re.mid r rest re.are re.then in
    let o = then_spells _ _ _ (values_agree opts opt_place opt_rule) (after_opt u s a d re.value st.value) st.mid r rest st.are st.then in
    let l = then_spells _ _ _ words_agree (λ l. given (row_of u s a d re.value st.value o.value l)) o.mid r rest o.are o.then in
    let same = given_same (row_of u s a d re.value st.value o.value l.value) r l.mid rest l.then in
    record {
      reset = re.value;
      stale = st.value;
      opt = o.value;
      level = l.value;
      is = same.0;
      proper = l.proper;
      spelt =
          three_bytes bytes re.mid st.mid o.mid (kinds.flag_byte re.value) (kinds.flag_byte st.value) (opt_place o.value) re.spelt st.spelt o.spelt
          ∙ ap (λ (m : List ℕ). (kinds.flag_byte re.value ∷ kinds.flag_byte st.value ∷ opt_place o.value ∷ []) ++ m)
          (l.spelt ∙ ap (λ (m : List ℕ). kinds.maybe_bytes kinds.text_bytes l.value ++ m) same.1);
    }

row_told : (u : Subject) (s : Session) (a : Account) (d : Device) (bytes front mid : List ℕ) (r : Row) (rest : List ℕ) → IsShortSubject u → bytes ≡ parts.subject_bytes u ++ front
    → front ≡ (session_place s ∷ account_place a ∷ device_place d ∷ []) ++ mid → Late u s a d mid r rest → IsProperRow r × (bytes ≡ row_bytes r ++ rest)
row_told u s a d bytes front mid r rest proper one two t =
    let told : Row = row_of u s a d t.reset t.stale t.opt t.level in
    let level : List ℕ = kinds.maybe_bytes kinds.text_bytes t.level in
    let standing : front ≡ standing_bytes told ++ (level ++ rest) = two ∙ ap (λ (m : List ℕ). (session_place s ∷ account_place a ∷ device_place d ∷ []) ++ m) t.spelt in
    let whole : bytes ≡ row_bytes told ++ rest =
    joined_spelling bytes (parts.subject_bytes u) front (standing_bytes told) (level ++ rest) one standing
    ∙ sym (append_assoc (parts.subject_bytes u ++ standing_bytes told) level rest) in
    (subst IsProperRow t.is (proper, t.proper), whole ∙ ap (λ x. row_bytes x ++ rest) t.is)

row_spells : (bytes : List ℕ) (r : Row) (rest : List ℕ) → AreBytes bytes → row bytes ≡ Ok (r, rest) → IsProperRow r × (bytes ≡ row_bytes r ++ rest)
row_spells bytes r rest are h =
    let u = then_spells _ _ _ subjects_agree after_subject bytes r rest are h in
    let s = then_spells _ _ _ (values_agree sessions session_place session_rule) (after_session u.value) u.mid r rest u.are u.then in
    let a = then_spells _ _ _ (values_agree accounts account_place account_rule) (after_account u.value s.value) s.mid r rest s.are s.then in
    let d = then_spells _ _ _ (values_agree devices device_place device_rule) (after_device u.value s.value a.value) a.mid r rest a.are a.then in
    row_told u.value s.value a.value d.value bytes u.mid d.mid r rest u.proper u.spelt
    (three_bytes u.mid s.mid a.mid d.mid (session_place s.value) (account_place a.value) (device_place d.value) s.spelt a.spelt d.spelt)
    (late_spells u.value s.value a.value d.value d.mid r rest d.are d.then)

pub rows_agree : Agrees IsProperRow row_bytes row
rows_agree = record { reads = row_reads; spells = row_spells }
