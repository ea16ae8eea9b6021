-- What a door answers.
use Rattle.std.proofs.Common.{◌≡◌, Bool, true, false, subst, sym}
use Rattle.sig_links.specs.declared.accepted.Accepted.{Accepted}
use Rattle.sig_links.specs.declared.accepted.Accepted.TheVariants.{Link, Shut, Waited}
use Rattle.sig_links.specs.Told.{AcceptsNext, Begins, IfLink, IfShut, IfWaited, Lends, LinkPlan}
use Rattle.sig_links.specs.Views.{DoorView}
use Rattle.sig_serving.specs.Line.{Line}
use Rattle.sig_links.specs.Views.{SideView}
use Rattle.sig_watch.specs.Accepting.{Gives}
use Rattle.sig_watch.specs.Happening.{Comes}
use Rattle.sig_watch.specs.Sights.{IfErrand, Sight, sight}

-- what holds of a link that was given
pub of_link : {L S : Type 0} (answer : Accepted L S) (link : L) (side : S) (holds : L → S → Type 0) → answer ≡ Link link side → IfLink answer holds → holds link side
of_link {L} {S} answer link side holds is h = subst (λ (a : Accepted L S). IfLink a holds) is h

pub gives : (old new : DoorView) (came : Sight) (line : Line) (side : SideView) (plan : LinkPlan) → came ≡ sight line side
    → AcceptsNext old.coming new.coming plan line.left side.ahead side.times → Begins old.served line.written × Begins old.served side.sent
    → (line.reads ≡ 0) × (line.writes ≡ 0) × (side.faults ≡ 0) → Lends old.served old.out new.out → (new.served ≡ old.served) × (new.place ≡ old.place)
    → new.faults ≡ old.faults → Gives old new came
gives old new came line side plan is next begins whole lends others faults = subst (λ (s : Sight). Gives old new s) (sym is) (record {
  plan = plan;
  next = next;
  written = begins.0;
  sent = begins.1;
  whole = whole;
  lends = lends;
  served = others.0;
  place = others.1;
  faults = faults;
})

-- a link that was given came, and an errand where the door is as it was
comes_by : (old new : DoorView) (came : Sight) (kind : Bool) → kind ≡ false → Gives old new came → IfErrand kind (new ≡ old) (Gives old new came)
comes_by old new came true is gives = absurd (cc is)
comes_by old new came false is gives = gives

pub comes : (old new : DoorView) (came : Sight) → came.is_errand ≡ false → Gives old new came → Comes old new came
comes old new came is gives = comes_by old new came came.is_errand is gives

errand_by : (old new : DoorView) (came : Sight) (kind : Bool) → kind ≡ true → new ≡ old → IfErrand kind (new ≡ old) (Gives old new came)
errand_by old new came true is same = same
errand_by old new came false is same = absurd (cc is)

pub errand_comes : (old new : DoorView) (came : Sight) → came.is_errand ≡ true → new ≡ old → Comes old new came
errand_comes old new came is same = errand_by old new came came.is_errand is same

-- what holds where no further link will come, and where none came in time
pub of_shut : {L S : Type 0} (answer : Accepted L S) (holds : Type 0) → answer ≡ Shut → IfShut answer holds → holds
of_shut {L} {S} answer holds is h = subst (λ (a : Accepted L S). IfShut a holds) is h

pub of_waited : {L S : Type 0} (answer : Accepted L S) (holds : Type 0) {lacking : Bool} → answer ≡ Waited lacking → IfWaited answer holds → holds
of_waited {L} {S} answer holds is h = subst (λ (a : Accepted L S). IfWaited a holds) is h

-- a door of which all is as it was, and one of which all but its faults is
pub view_same : (old new : DoorView) → new.coming ≡ old.coming → new.out ≡ old.out → (new.served ≡ old.served) × (new.place ≡ old.place) → new.faults ≡ old.faults → new ≡ old
view_same old new coming out others faults = λ i. record { coming = coming i; served = others.0 i; out = out i; place = others.1 i; faults = faults i }

pub view_faulty : (old new : DoorView) → new.coming ≡ old.coming → new.out ≡ old.out → (new.served ≡ old.served) × (new.place ≡ old.place) → new ≡ record old { faults = new.faults }
view_faulty old new coming out others = λ i. record { coming = coming i; served = others.0 i; out = out i; place = others.1 i; faults = new.faults }
