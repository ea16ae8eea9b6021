-- What a request over a link of its own does to the side, by what it did over the link.
use Rattle.std.proofs.Common.{◌≡◌, ◌+◌, ℕ, suc, List, [], ◌∷◌, Option, Some, None, IfSome, Result, Ok, Err, refl, ap, ◌∙◌, subst, arith}
use Rattle.std.specs.Io.KnownBytes.{Appends}
use Rattle.sig_outside.specs.Causes.{AppendsPrefix}
use Rattle.sig_outside.specs.declared.place.Place.{Place}
use Rattle.sig_links.specs.Told.{Begins, DialsNext, Lends, LinkPlan, Sent, TakesBack, sent_of}
use Rattle.sig_http.specs.declared.message.Response.{Response}
use Rattle.sig_dial.specs.Exchanged.{Decides, Writes}
use Rattle.sig_dial.specs.Asked.{Hears, IsPrefix, IsSent, IsWritten, Sends}
use Rattle.sig_dial.specs.declared.fault.AskFault.{AskFault}
use Rattle.sig_dial.specs.declared.fault.AskFault.TheVariants.{Dial, Link, NoResponse, Memory}

-- ---- what was written

-- what was written to a link that nothing had been written to
from_nothing : (new : Option (List ℕ)) (text : List ℕ) → Appends (Some []) new text → new ≡ Some text
from_nothing None text a = absurd a
from_nothing (Some bytes) text a = ap Some a

prefix_from_nothing : (new : Option (List ℕ)) (text : List ℕ) → AppendsPrefix (Some []) new text → (bytes : List ℕ) × (new ≡ Some bytes) × IsPrefix bytes text
prefix_from_nothing new text p = (p.0, from_nothing new p.0 p.3, (p.1, p.2))

written_from : (text : List ℕ) (new : Option (List ℕ)) (answer : Result Response AskFault) → Writes text (Some []) new answer → (bytes : List ℕ) × (new ≡ Some bytes) × IsWritten text answer bytes
written_from text new (Ok response) w = (text, from_nothing new text w, refl)
written_from text new (Err NoResponse) w = (text, from_nothing new text w, refl)
written_from text new (Err Link) w = prefix_from_nothing new text w
written_from text new (Err Memory) w = prefix_from_nothing new text w
written_from text new (Err Dial) w = absurd w

-- where it is told what comes back, a dialled link begins with nothing
pub begun : (old : Option (List Sent)) (written : Option (List ℕ)) → Begins old written → IfSome old (λ _. written ≡ Some [])
begun None written b = tt
begun (Some back) written b = b

-- the link comes back: `mid` links are out, `out` were before the dial
came_back : (place : Place) (text : List ℕ) (old : List Sent) (new : Option (List Sent)) (dialled : Option (List ℕ × ℕ)) (written : Option (List ℕ)) (out mid now : ℕ) (answer : Result Response AskFault)
    → dialled ≡ Some (place.host, place.port) → mid ≡ out + 1
    → (bytes : List ℕ) × (written ≡ Some bytes) × IsWritten text answer bytes
    → TakesBack (Some old) new mid now (sent_of dialled written) → Sends place text (Some old) new answer
came_back place text old new dialled written out mid now answer d m w back =
    let sent : Sent = record { place = Some (place.host, place.port); bytes = w.0 } in
    let more : mid ≡ suc out = omega (arith, m) in
    let is = subst (λ (o : Option Sent). TakesBack (Some old) new (suc out) now o) (ap (λ (q : Option (List ℕ × ℕ)). sent_of q written) d ∙ ap (sent_of (Some (place.host, place.port))) w.1)
    (subst (λ (n : ℕ). TakesBack (Some old) new n now (sent_of dialled written)) more back) in
    (Some sent, is.0, (refl, w.2))

pub sends_back : (place : Place) (text : List ℕ) (old mid new : Option (List Sent)) (dialled : Option (List ℕ × ℕ)) (before written : Option (List ℕ)) (out out' now : ℕ) (answer : Result Response AskFault)
    → mid ≡ old → dialled ≡ Some (place.host, place.port) → IfSome old (λ _. before ≡ Some []) → Lends old out out'
    → Writes text before written answer → TakesBack mid new out' now (sent_of dialled written) → Sends place text old new answer
sends_back place text None mid new dialled before written out out' now answer same d begins lends w back =
    subst (λ (o : Option (List Sent)). TakesBack o new out' now (sent_of dialled written)) same back
sends_back place text (Some old) mid new dialled before written out out' now answer same d begins lends w back =
    came_back place text old new dialled written out out' now answer d lends (written_from text written answer (subst (λ (o : Option (List ℕ)). Writes text o written answer) begins w))
    (subst (λ (o : Option (List Sent)). TakesBack o new out' now (sent_of dialled written)) same back)

-- ---- what was given

pub hears_next : (old mid new : Option (List LinkPlan)) (plan : LinkPlan) (left : Option (List ℕ)) (answer : Result Response AskFault)
    → DialsNext old mid plan left → IfSome left (λ bytes. Decides bytes answer) → new ≡ mid → Hears old new answer
hears_next None mid new plan left answer next says same = same ∙ next
hears_next (Some []) mid new plan left answer next says same = absurd next
hears_next (Some (first ∷ later)) mid new plan left answer next says same =
    (Some first, later, refl, same ∙ next.0, subst (λ (o : Option (List ℕ)). IfSome o (λ bytes. Decides bytes answer)) next.2 says)
