-- How runs of `serve`, `receive` and `init` end.
use Rattle.std.proofs.Common.{◌≡◌, ◌⊎◌, ◌∙◌, sym, subst, refl, ℕ, Bool, true, true≢false, List, [], Option, Some, None, Result, Ok, Err, inl, inr, arith}
use Rattle.sig_outside.specs.Causes.{Rose}
use Rattle.sig_outside.proofs.CauseLemmas.{raised_rose}
use Rattle.sig_command.specs.Moment.{OutputState}
use Rattle.sig_journal.specs.Layout.{first_size}
use Rattle.sig_init.specs.Ends.{Left}
use Rattle.sig_init.specs.Files.{Held, file_a, file_b}
use Rattle.sig_init.specs.declared.ending.InitEnd.{InitEnd}
use Rattle.sig_init.specs.declared.ending.InitEnd.TheVariants as init
use Rattle.sig_journal.specs.declared.fault.LoadFault.{LoadFault}
use Rattle.sig_settings.specs.declared.fault.SettingsFault.{SettingsFault}
use Rattle.sig_txsettings.specs.Settings.{tx_settings_of}
use Rattle.sig_rxsettings.specs.Settings.{rx_settings_of}
use Rattle.sig_opening.specs.Files.{IsDamaged, IsMissing, LackOne}
use Rattle.sig_opening.specs.Serving.{Around}
use Rattle.sig_opening.specs.Settings.{AreRefused}
use Rattle.sig_serve.specs.Ends as tx
use Rattle.sig_serve.specs.Serving as tx_serving
use Rattle.sig_receive.specs.Ends as rx
use Rattle.sig_receive.specs.Serving as rx_serving
use Rattle.sig_opening.specs.declared.ending.ServeEnd.{ServeEnd}
use Rattle.sig_opening.specs.declared.ending.ServeEnd.TheVariants.{Done, SettingsFailed, Refused, NoStore, StoreFailed, Damaged, NetworkFailed, Disagree, Memory}
use Rattle.sig_service.specs.Asking.{Asked, ServerAsked, StoreAsked}
use Rattle.sig_service.specs.InitRuns as init_runs
use Rattle.sig_service.specs.LastLine.{PutLast}
use Rattle.sig_service.specs.Outside.{MeetsNoFault, OutsideState, around_store}
use Rattle.sig_service.specs.ServerRuns.{EndedSo, IsReady, IsServable, ServedSo, ServerRan, last_line, servable, status_of}
use Rattle.sig_service.specs.declared.asking.Server.{Server}
use Rattle.sig_service.specs.declared.asking.Server.TheVariants.{Transmitter, Receiver}

pub ok_err : {T E : Type 0} (x : T) (e : E) (r : Result T E) → r ≡ Ok x → r ≡ Err e → ⊥
ok_err x e r a b = cc

-- ---- the status 1 is for words that are no command

no_usage : (e : ServeEnd) → status_of e ≡ 1 → ⊥
no_usage Done h = omega (arith, h)
no_usage SettingsFailed h = omega (arith, h)
no_usage (Refused member) h = omega (arith, h)
no_usage NoStore h = omega (arith, h)
no_usage StoreFailed h = omega (arith, h)
no_usage (Damaged file at) h = omega (arith, h)
no_usage NetworkFailed h = omega (arith, h)
no_usage (Disagree values) h = omega (arith, h)
no_usage Memory h = omega (arith, h)

pub serve_no_usage : (e : ServeEnd) (line : List ℕ) (a b : OutputState) (status : ℕ) → PutLast (status_of e) line a b status → status ≡ 1 → ⊥
serve_no_usage e line a b status (inl put) one = no_usage e (sym put.0 ∙ one)
serve_no_usage e line a b status (inr stopped) one = omega (arith, stopped.0, one)

-- ---- without faults

-- the status is the wanted one
pub put_whole : (wanted : ℕ) (line : List ℕ) (a b : OutputState) (status : ℕ) → (Rose a.faults b.faults → ⊥) → (Rose a.stalls b.stalls → ⊥)
    → PutLast wanted line a b status → status ≡ wanted
put_whole wanted line a b status faults stalls (inl put) = put.0
put_whole wanted line a b status faults stalls (inr stopped) =
    absurd (elim stopped.2 [ inl h ↦ faults (raised_rose a.faults b.faults h.0) | inr h ↦ stalls (raised_rose a.stalls b.stalls h.0) ])

-- settings that are taken aren't refused, and a store that means a state isn't damaged
pub taken_refused : {T S : Type 0} (reads : List ℕ → Result T SettingsFault) (means : List ℕ → List ℕ → Result S LoadFault) (ask : StoreAsked) (now : OutsideState) (member : List ℕ)
    → IsReady reads means ask now → AreRefused reads (now.settings ask.settings) member → ⊥
taken_refused reads means ask now member ready h =
    ok_err ready.said _ _ ready.taken (subst (λ (o : Option (List ℕ)). AreRefused reads o member) ready.told h)

pub stands_damaged : {T S : Type 0} (reads : List ℕ → Result T SettingsFault) (means : List ℕ → List ℕ → Result S LoadFault) (ask : StoreAsked) (now : OutsideState) (file at : ℕ)
    → IsReady reads means ask now → IsDamaged means (now.stores (file_a ask.store)) (now.stores (file_b ask.store)) file at → ⊥
stands_damaged reads means ask now file at ready h =
    let first : IsDamaged means (Some ready.a) (now.stores (file_b ask.store)) file at = subst (λ (o : Option (List ℕ)). IsDamaged means o (now.stores (file_b ask.store)) file at) ready.a_told h in
    let both : IsDamaged means (Some ready.a) (Some ready.b) file at = subst (λ (o : Option (List ℕ)). IsDamaged means (Some ready.a) o file at) ready.b_told first in
    ok_err ready.state _ (means ready.a ready.b) ready.stands both

-- a store whose files are there lacks none
pub lacks_none : (a b : Option Bool) → a ≡ Some true → b ≡ Some true → LackOne a b → ⊥
lacks_none a b a_there b_there (inl missing) = true≢false (subst IsMissing a_there missing)
lacks_none a b a_there b_there (inr missing) = true≢false (subst IsMissing b_there missing)

-- a serving that meets no fault ends with 0, 8 or 9
ended : {T S : Type 0} (reads : List ℕ → Result T SettingsFault) (means : List ℕ → List ℕ → Result S LoadFault) (ask : StoreAsked) (before now : OutsideState) (a b : OutputState) (e : ServeEnd) (serves unless_there : Type 0)
    → IsReady reads means ask before → MeetsNoFault before now a b
    → EndedSo (AreRefused reads (before.settings ask.settings)) (IsDamaged means (before.stores (file_a ask.store)) (before.stores (file_b ask.store))) serves unless_there ask e before now
    → (status_of e ≡ 0) ⊎ (status_of e ≡ 8) ⊎ (status_of e ≡ 9)
ended reads means ask before now a b Done serves unless_there ready calm so = inl refl
ended reads means ask before now a b SettingsFailed serves unless_there ready calm so = absurd (calm.settings (so.settings_failed refl))
ended reads means ask before now a b (Refused member) serves unless_there ready calm so = absurd (taken_refused reads means ask before member ready (so.refused_at member refl))
ended reads means ask before now a b NoStore serves unless_there ready calm so = absurd (lacks_none _ _ ready.there.0 ready.there.1 (so.no_store refl))
ended reads means ask before now a b StoreFailed serves unless_there ready calm so = absurd (calm.stores (so.store_failed refl))
ended reads means ask before now a b (Damaged file at) serves unless_there ready calm so = absurd (stands_damaged reads means ask before file at ready (so.damaged_at file at refl))
ended reads means ask before now a b NetworkFailed serves unless_there ready calm so = absurd (calm.network (so.network_failed refl))
ended reads means ask before now a b (Disagree values) serves unless_there ready calm so = inr (inl refl)
ended reads means ask before now a b Memory serves unless_there ready calm so = inr (inr refl)

served_end : (server : Server) (ask : StoreAsked) (before now : OutsideState) (a b : OutputState) (e : ServeEnd) → servable server ask before → MeetsNoFault before now a b
    → ServedSo server ask e before now → (status_of e ≡ 0) ⊎ (status_of e ≡ 8) ⊎ (status_of e ≡ 9)
served_end Transmitter ask before now a b e ready calm so =
    ended tx_settings_of tx.state_of ask before now a b e _ _ ready calm so
served_end Receiver ask before now a b e ready calm so =
    ended rx_settings_of rx.state_of ask before now a b e _ _ ready calm so

one_same : (status wanted : ℕ) → status ≡ wanted → (wanted ≡ 0) ⊎ (wanted ≡ 8) ⊎ (wanted ≡ 9) → (status ≡ 0) ⊎ (status ≡ 8) ⊎ (status ≡ 9)
one_same status wanted is h = subst (λ (n : ℕ). (n ≡ 0) ⊎ (n ≡ 8) ⊎ (n ≡ 9)) (sym is) h

pub served_whole : (ask : ServerAsked) (before now : OutsideState) (a b : OutputState) (status : ℕ) → IsServable ask before → MeetsNoFault before now a b
    → ServerRan ask before now a b status → (status ≡ 0) ⊎ (status ≡ 8) ⊎ (status ≡ 9)
served_whole ask before now a b status ready calm ran =
    one_same status (status_of ran.0) (put_whole (status_of ran.0) (last_line ran.0) a b status calm.output calm.flows ran.2)
    (served_end ask.server ask.over before now a b ran.0 ready calm ran.1)

or_same : (status wanted : ℕ) → status ≡ wanted → (wanted ≡ 0) ⊎ (wanted ≡ 9) → (status ≡ 0) ⊎ (status ≡ 9)
or_same status wanted is (inl h) = inl (is ∙ h)
or_same status wanted is (inr h) = inr (is ∙ h)

-- no file is the first that isn't empty where both are
none_left : (size : ℕ) (a b new_a new_b : Option (List ℕ)) → a ≡ Some [] → b ≡ Some [] → Left size a b new_a new_b → ⊥
none_left size a b new_a new_b a_empty b_empty h =
    let first : Left size (Some []) b new_a new_b = subst (λ (o : Option (List ℕ)). Left size o b new_a new_b) a_empty h in
    let both : Left size (Some []) (Some []) new_a new_b = subst (λ (o : Option (List ℕ)). Left size (Some []) o new_a new_b) b_empty first in
    none_is (first_size [] []) size refl both.0
  where
    none_is : (o : Option ℕ) (n : ℕ) → o ≡ None → o ≡ Some n → ⊥
    none_is o n none is = cc

made_end : (ask : Asked) (before now : Held) (faults new_faults : ℕ) (e : InitEnd) → before (file_a ask.store) ≡ Some [] → before (file_b ask.store) ≡ Some []
    → (Rose faults new_faults → ⊥) → init_runs.MadeSo ask e before now faults new_faults → (init_runs.status_of e ≡ 0) ⊎ (init_runs.status_of e ≡ 9)
made_end ask before now faults new_faults init.Done a_empty b_empty calm so = inl refl
made_end ask before now faults new_faults (init.NotEmpty size) a_empty b_empty calm so =
    absurd (none_left size (before (file_a ask.store)) (before (file_b ask.store)) (now (file_a ask.store)) (now (file_b ask.store)) a_empty b_empty (so.not_empty size refl))
made_end ask before now faults new_faults init.Store a_empty b_empty calm so = absurd (calm (so.store refl))
made_end ask before now faults new_faults init.Memory a_empty b_empty calm so = inr refl

pub made_whole : (ask : Asked) (before now : Held) (faults new_faults : ℕ) (a b : OutputState) (status : ℕ) → before (file_a ask.store) ≡ Some []
    → before (file_b ask.store) ≡ Some [] → (Rose faults new_faults → ⊥) → (Rose a.faults b.faults → ⊥) → (Rose a.stalls b.stalls → ⊥)
    → init_runs.InitRan ask before now faults new_faults a b status → (status ≡ 0) ⊎ (status ≡ 9)
made_whole ask before now faults new_faults a b status a_empty b_empty stores output flows ran =
    or_same status (init_runs.status_of ran.0) (put_whole (init_runs.status_of ran.0) (init_runs.last_line ran.0) a b status output flows ran.2)
    (made_end ask before now faults new_faults ran.0 a_empty b_empty stores ran.1)
