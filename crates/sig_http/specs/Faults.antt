-- What a refusal says, by what kind of fault it is.
use Rattle.std.specs.Prelude.{◌≡◌, ℕ}
use Rattle.sig_outside.specs.Causes.{Raised}
use Rattle.sig_http.specs.declared.fault.HttpFault.{HttpFault}
use Rattle.sig_http.specs.declared.fault.HttpFault.TheVariants.{Head, Host, HeadLong, Length, BodyLong, Coding, Expect, Cut, Link, Memory}

-- the first holds at a message that is cut, the second at a fault that bytes decide; a failed link and memory say nothing
abbrev pub OnFault : HttpFault → Type 0 → Type 0 → Type 0
OnFault Head cut decided = decided
OnFault Host cut decided = decided
OnFault HeadLong cut decided = decided
OnFault Length cut decided = decided
OnFault BodyLong cut decided = decided
OnFault Coding cut decided = decided
OnFault Expect cut decided = decided
OnFault Cut cut decided = cut
OnFault Link cut decided = Unit {0}
OnFault Memory cut decided = Unit {0}

-- the count of a source's faults after a refusal: a failed link raised it by one, and any other leaves it
abbrev pub Tallies : HttpFault → ℕ → ℕ → Type 0
Tallies Link before now = Raised before now
Tallies Head before now = now ≡ before
Tallies Host before now = now ≡ before
Tallies HeadLong before now = now ≡ before
Tallies Length before now = now ≡ before
Tallies BodyLong before now = now ≡ before
Tallies Coding before now = now ≡ before
Tallies Expect before now = now ≡ before
Tallies Cut before now = now ≡ before
Tallies Memory before now = now ≡ before

-- of bytes that are held whole: this holds at a fault that they decide, memory says nothing, and there is no other refusal
abbrev pub OnJudged : HttpFault → Type 0 → Type 0
OnJudged Head decided = decided
OnJudged Host decided = decided
OnJudged HeadLong decided = decided
OnJudged Length decided = decided
OnJudged BodyLong decided = decided
OnJudged Coding decided = decided
OnJudged Expect decided = decided
OnJudged Cut decided = ⊥
OnJudged Link decided = ⊥
OnJudged Memory decided = Unit {0}
