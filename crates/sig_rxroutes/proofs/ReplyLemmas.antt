-- What responses tell.
use Rattle.std.proofs.Common.{refl}
use Rattle.sig_delivery.proofs.CodesBack.{settles_by_code}
use Rattle.sig_rxnode.specs.declared.answer.RxAnswer.TheVariants as answer
use Rattle.sig_rxroutes.specs.Laws.{LeavesLinksOpen, NoCacheKeeps, SettlesPushes}

pub leaves_links_open : LeavesLinksOpen
leaves_links_open answer.Accepted = refl
leaves_links_open answer.Seen = refl
leaves_links_open (answer.Refused code spot) = refl
leaves_links_open (answer.Verdict verdict) = refl
leaves_links_open (answer.Rows rows) = refl
leaves_links_open (answer.Figures tokens rows) = refl

pub settles_pushes : SettlesPushes
settles_pushes = record { accepted = refl; seen = refl; refused = settles_by_code }

pub no_cache_keeps : NoCacheKeeps
no_cache_keeps answer.Accepted = refl
no_cache_keeps answer.Seen = refl
no_cache_keeps (answer.Refused code spot) = refl
no_cache_keeps (answer.Verdict verdict) = refl
no_cache_keeps (answer.Rows rows) = refl
no_cache_keeps (answer.Figures tokens rows) = refl
