-- How runs of `fetch` end.
use Rattle.std.proofs.Common.{◌≡◌, ◌⊎◌, ◌∙◌, sym, subst, refl, ℕ, List, inl, inr, arith}
use Rattle.sig_command.specs.Moment.{OutputState}
use Rattle.sig_receive.specs.Ends as rx
use Rattle.sig_receive.specs.Peers.{fetch_settings_of}
use Rattle.sig_receive.specs.declared.ending.FetchEnd.{FetchEnd}
use Rattle.sig_receive.specs.declared.ending.FetchEnd.TheVariants.{Done, SettingsFailed, Refused, NoStore, StoreFailed, Damaged, NetworkFailed, Full, Peer, Memory}
use Rattle.sig_service.specs.Asking.{StoreAsked}
use Rattle.sig_service.specs.FetchRuns.{EndsCalm, FetchRan, FetchedSo, IsFetchable, last_line, status_of}
use Rattle.sig_service.specs.LastLine.{PutLast}
use Rattle.sig_service.specs.Outside.{MeetsNoFault, OutsideState}
use Rattle.sig_service.proofs.ServerEndLemmas.{lacks_none, put_whole, stands_damaged, taken_refused}

-- the status 1 is for words that are no command
no_usage : (e : FetchEnd) → status_of e ≡ 1 → ⊥
no_usage (Done fetched) h = omega (arith, h)
no_usage SettingsFailed h = omega (arith, h)
no_usage (Refused member) h = omega (arith, h)
no_usage NoStore h = omega (arith, h)
no_usage StoreFailed h = omega (arith, h)
no_usage (Damaged file at) h = omega (arith, h)
no_usage NetworkFailed h = omega (arith, h)
no_usage (Full n) h = omega (arith, h)
no_usage (Peer place) h = omega (arith, h)
no_usage Memory h = omega (arith, h)

pub fetch_no_usage : (e : FetchEnd) (line : List ℕ) (a b : OutputState) (status : ℕ) → PutLast (status_of e) line a b status → status ≡ 1 → ⊥
fetch_no_usage e line a b status (inl put) one = no_usage e (sym put.0 ∙ one)
fetch_no_usage e line a b status (inr stopped) one = omega (arith, stopped.0, one)

-- a fetch that meets no fault
fetched_end : (ask : StoreAsked) (before now : OutsideState) (a b : OutputState) (e : FetchEnd) → IsFetchable ask before → MeetsNoFault before now a b
    → FetchedSo ask e before now → EndsCalm (status_of e)
fetched_end ask before now a b (Done fetched) ready calm so = inl refl
fetched_end ask before now a b SettingsFailed ready calm so = absurd (calm.settings (so.settings_failed refl))
fetched_end ask before now a b (Refused member) ready calm so = absurd (taken_refused fetch_settings_of rx.state_of ask before member ready (so.refused member refl))
fetched_end ask before now a b NoStore ready calm so = absurd (lacks_none _ _ ready.there.0 ready.there.1 (so.no_store refl))
fetched_end ask before now a b StoreFailed ready calm so = absurd (calm.stores (so.store_failed refl))
fetched_end ask before now a b (Damaged file at) ready calm so = absurd (stands_damaged fetch_settings_of rx.state_of ask before file at ready (so.damaged file at refl))
fetched_end ask before now a b NetworkFailed ready calm so = absurd (calm.network (so.network_failed refl))
fetched_end ask before now a b (Full n) ready calm so = inr (inr (inl refl))
fetched_end ask before now a b (Peer place) ready calm so = inr (inr (inr refl))
fetched_end ask before now a b Memory ready calm so = inr (inl refl)

pub fetched_whole : (ask : StoreAsked) (before now : OutsideState) (a b : OutputState) (status : ℕ) → IsFetchable ask before → MeetsNoFault before now a b
    → FetchRan ask before now a b status → EndsCalm status
fetched_whole ask before now a b status ready calm ran =
    subst EndsCalm (sym (put_whole (status_of ran.0) (last_line ran.0) a b status calm.output calm.flows ran.2)) (fetched_end ask before now a b ran.0 ready calm ran.1)
