-- No cache may keep a refusal.
use Rattle.std.proofs.Common.{◌≡◌, true, refl}
use Rattle.std.specs.Prelude.{IfSome}
use Rattle.sig_http.specs.Answering.{closing_of, refused_with, says_no_store}
use Rattle.sig_http.specs.Laws.{NoCacheKeeps}
use Rattle.sig_http.specs.declared.fault.HttpFault.{HttpFault}
use Rattle.sig_http.specs.declared.fault.HttpFault.TheVariants as faults
use Rattle.sig_http.specs.declared.fault.HttpRefusal.{HttpRefusal}
use Rattle.sig_http.specs.declared.fault.HttpRefusal.TheVariants as refusals

unread : (fault : HttpFault) → IfSome (closing_of fault) (λ response. says_no_store response ≡ true)
unread faults.Head = refl
unread faults.Host = refl
unread faults.HeadLong = refl
unread faults.Length = refl
unread faults.BodyLong = refl
unread faults.Coding = refl
unread faults.Expect = refl
unread faults.Cut = tt
unread faults.Link = tt
unread faults.Memory = tt

refused : (refusal : HttpRefusal) → IfSome (refused_with refusal) (λ response. says_no_store response ≡ true)
refused refusals.Path = refl
refused (refusals.Method allow) = refl
refused refusals.Auth = refl
refused (refusals.Bad place) = refl
refused refusals.Memory = tt

pub no_cache_keeps : NoCacheKeeps
no_cache_keeps = record { unread = unread; refused = refused }
