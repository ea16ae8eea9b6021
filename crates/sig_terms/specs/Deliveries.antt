-- How tokens reach a receiver (OpenID Shared Signals Framework 1.0, section 6.1).
use Rattle.std.specs.Prelude.{Bool, true, false}
use Rattle.sig_terms.specs.declared.want.Delivery.{Delivery}
use Rattle.sig_terms.specs.declared.want.Delivery.TheVariants as deliveries

-- whether they are sent to the receiver
abbrev pub is_push : Delivery → Bool
is_push deliveries.Poll = false
is_push (deliveries.Push endpoint url authorization) = true
