-- Types of events that are known without their URIs.
use Rattle.std.proofs.Common.{◌≡◌, ap, true}
use Rattle.sig_event.specs.declared.event.Event.{Event}
use Rattle.sig_event.specs.declared.event.Event.TheVariants as event
use Rattle.sig_event.specs.Events.{type_of_event, uri_of}
use Rattle.sig_event.specs.Types.{is_published}
use Rattle.sig_event.proofs.ReadsEvents.{uri_found}
use Rattle.sig_terms.specs.Fitting.{is_published_uri}

-- an event whose type is published has a URI that is
pub published_known : (e : Event) → is_published (type_of_event e) ≡ true → is_published_uri (uri_of e) ≡ true
published_known (event.Caep e) known = ap is_published (uri_found _)
published_known (event.Risc e) known = ap is_published (uri_found _)
published_known (event.Verification state) known = cc
published_known (event.StreamUpdated status reason) known = cc
published_known (event.Other uri) known = cc
