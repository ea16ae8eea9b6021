-- Whether two configurations have the same parts that a receiver may set.
use Rattle.std.specs.Prelude.{Bool, true, false, ◌&&◌, bytes_eq, nat_eq}
use Rattle.std.specs.Bool.{beq}
use Rattle.std.specs.Cmp.Lexicographic.{pointwise}
use Rattle.std.specs.Option.{option_eq}
use Rattle.sig_event.specs.declared.status.Status.{Status}
use Rattle.sig_event.specs.declared.status.Status.TheVariants.{Enabled, Paused, Disabled}
use Rattle.sig_terms.specs.declared.endpoint.Endpoint.{Endpoint}
use Rattle.sig_terms.specs.declared.want.Delivery.{Delivery}
use Rattle.sig_terms.specs.declared.want.Delivery.TheVariants.{Poll, Push}
use Rattle.sig_terms.specs.declared.configuration.StreamConf.{StreamConf}

abbrev pub status_eq : Status → Status → Bool
status_eq Enabled Enabled = true
status_eq Enabled Paused = false
status_eq Enabled Disabled = false
status_eq Paused Enabled = false
status_eq Paused Paused = true
status_eq Paused Disabled = false
status_eq Disabled Enabled = false
status_eq Disabled Paused = false
status_eq Disabled Disabled = true

abbrev pub endpoint_eq : Endpoint → Endpoint → Bool
endpoint_eq a b =
    beq a.secure b.secure && bytes_eq a.place.host b.place.host && nat_eq a.place.port b.place.port
    && bytes_eq a.path b.path

abbrev pub delivery_eq : Delivery → Delivery → Bool
delivery_eq Poll Poll = true
delivery_eq Poll (Push endpoint url authorization) = false
delivery_eq (Push endpoint url authorization) Poll = false
delivery_eq (Push endpoint url authorization) (Push other_endpoint other_url other_authorization) =
    endpoint_eq endpoint other_endpoint && bytes_eq url other_url && option_eq bytes_eq authorization other_authorization

abbrev pub same_settings : StreamConf → StreamConf → Bool
same_settings a b =
    option_eq (pointwise bytes_eq) a.requested b.requested && delivery_eq a.delivery b.delivery
    && option_eq bytes_eq a.description b.description
