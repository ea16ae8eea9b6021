-- What a loop has collected of a list of texts or of events: what is left decides.
use Rattle.std.proofs.Common.{◌≡◌, ℕ, List, [], ◌∷◌, ◌++◌, append-nil, Option, Some, None, refl, sym, ap, ◌∙◌, append_assoc}
use Rattle.std.specs.Prelude.{Ok, String, string_bytes}
use Rattle.std.specs.declared.alloc.Global.{Global}
use Rattle.serde_json.specs.declared.value.Value.{Value}
use Rattle.serde_json.specs.View.{members_view, view}
use Rattle.sig_subject.specs.declared.subject.Subject.{Subject}
use Rattle.sig_event.specs.declared.event.Event.{Event}
use Rattle.sig_event.specs.Events.{event_of}
use Rattle.sig_set.specs.Claims.{event_before, events_of, one_before}

-- what was collected, and then the rest
abbrev pub behind : {T : Type 0} → List T → Option (List T) → Option (List T)
behind done None = None
behind done (Some rest) = Some (done ++ rest)

-- nothing was collected
pub behind_nothing : {T : Type 0} (rest : Option (List T)) → rest ≡ behind [] rest
behind_nothing None = refl
behind_nothing (Some rest) = refl

-- nothing is left
pub behind_all : {T : Type 0} (done : List T) → behind done (Some []) ≡ Some done
behind_all done = simp append-nil

-- a text more
pub text_behind : (done : List (List ℕ)) (text : List ℕ) (rest : Option (List (List ℕ))) → behind done (one_before (Some text) rest) ≡ behind (done ++ text ∷ []) rest
text_behind done text None = refl
text_behind done text (Some rest) = ap Some (sym (append_assoc done (text ∷ []) rest))

-- an event more
pub event_behind : (done : List Event) (e : Event) (rest : Option (List Event)) → behind done (event_before (Ok e) rest) ≡ behind (done ++ e ∷ []) rest
event_behind done e None = refl
event_behind done e (Some rest) = ap Some (sym (append_assoc done (e ∷ []) rest))

-- the first member that an iterator has left is an event
pub event_step : (s : Subject) (done : List Event) (entries rest : List (String Global × Value)) (name : String Global) (value : Value) (text : List ℕ) (e : Event)
    → entries ≡ (name, value) ∷ rest → text ≡ string_bytes name → event_of text (view value) s ≡ Ok e
    → behind done (events_of s (members_view entries)) ≡ behind (done ++ e ∷ []) (events_of s (members_view rest))
event_step s done entries rest name value text e is same told =
    ap (λ es. behind done (events_of s (members_view es))) is
    ∙ ap (λ t. behind done (event_before (event_of t (view value) s) (events_of s (members_view rest)))) (sym same)
    ∙ ap (λ r. behind done (event_before r (events_of s (members_view rest)))) told
    ∙ event_behind done e (events_of s (members_view rest))
