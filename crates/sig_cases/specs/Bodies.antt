-- What lines on the bodies of polls and pushes are answered, by what the calls answer.
use Rattle.std.specs.Prelude.{ℕ, List, [], codes}
use Rattle.sig_terms.specs.declared.call.Outcome.{Outcome}
use Rattle.sig_terms.specs.declared.call.Outcome.TheVariants.{Accepted, Keep, Reported}
use Rattle.sig_delivery.specs.declared.fault.BodyFault.{BodyFault}
use Rattle.sig_delivery.specs.declared.fault.BodyFault.TheVariants.{Bad, Memory}
use Rattle.sig_lines.specs.Spelled.{named}

-- of a body's first member that is wrong
abbrev pub body_refused : BodyFault → List ℕ
body_refused (Bad name) = named (codes "bad") name
body_refused Memory = []

-- of what a response settles of a push (RFC 8935, sections 2.2 to 2.4)
abbrev pub settled : Outcome → List ℕ
settled Accepted = codes "accepted"
settled (Reported code) = named (codes "reported") code
settled Keep = codes "keep"
