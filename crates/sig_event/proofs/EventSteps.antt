-- The payload's checks come before the subject's.
use Rattle.std.proofs.Common.{◌≡◌, List, [], ◌∷◌, ◌++◌, map, Bool, true, false, if◌then◌else◌, Some, None, option_map, refl, sym, subst, ap, inl, inr, ◌∙◌}
use Rattle.std.specs.Prelude.{Result, Ok, Err}
use Rattle.sig_json.specs.Answers.{Answers}
use Rattle.sig_json.specs.Checks.{Check, check, first_failing, decided, or_else, map_fault}
use Rattle.sig_json.specs.declared.members.PayloadFault.{PayloadFault}
use Rattle.sig_json.specs.declared.members.PayloadFault.TheVariants as payload
use Rattle.sig_json.proofs.CheckLemmas.{first_failing-append, first_failing-map}
use Rattle.sig_json.proofs.Decided.{none_fails, value_is, one_fails}
use Rattle.sig_event.specs.Faults.{event_fault}
use Rattle.sig_event.specs.declared.event.Event.{Event}
use Rattle.sig_event.specs.declared.event_fault.EventFault.{EventFault}
use Rattle.sig_event.specs.declared.event_fault.EventFault.TheVariants as fault

-- the payload's checks and then the subject's
abbrev pub both : List (Check PayloadFault) → Bool → List (Check EventFault)
both cs fits = map (map_fault (λ f. fault.Payload f)) cs ++ check fault.Subject fits ∷ []

pub both_is : (cs : List (Check PayloadFault)) (fits : Bool) → first_failing (both cs fits) ≡ or_else (option_map (λ f. fault.Payload f) (first_failing cs)) (if fits then None else Some fault.Subject)
both_is cs fits =
    first_failing-append (map (map_fault (λ f. fault.Payload f)) cs) (check fault.Subject fits ∷ [])
    ∙ ap (λ o. or_else o (if fits then None else Some fault.Subject)) (first_failing-map (λ f. fault.Payload f) cs)

-- where the payload is read, the subject decides
pub subject_decides : (cs : List (Check PayloadFault)) (fits : Bool) (x e : Event) → decided (first_failing cs) x ≡ Ok e → decided (first_failing (both cs fits)) x ≡ (if fits then Ok e else Err fault.Subject)
subject_decides cs fits x e h =
    let none = none_fails (first_failing cs) x e h in
    let same = value_is (first_failing cs) x e h in
    ap (λ o. decided o x) (both_is cs fits ∙ ap (λ o. or_else (option_map (λ f. fault.Payload f) o) (if fits then None else Some fault.Subject)) none)
    ∙ elim fits as (λ b. decided (if b then None else Some fault.Subject) x ≡ (if b then Ok e else Err fault.Subject)) [ true ↦ ap Ok same | false ↦ refl ]

-- a fault of the payload is that of the event
fault_decides : (cs : List (Check PayloadFault)) (fits : Bool) (x : Event) (f : PayloadFault) → first_failing cs ≡ Some f → decided (first_failing (both cs fits)) x ≡ Err (fault.Payload f)
fault_decides cs fits x f h = ap (λ o. decided o x) (both_is cs fits ∙ ap (λ o. or_else (option_map (λ g. fault.Payload g) o) (if fits then None else Some fault.Subject)) h)

pub payload_decides : (cs : List (Check PayloadFault)) (fits : Bool) (x : Event) (f : PayloadFault) → Answers {T = Event} payload.Memory (Err f) (decided (first_failing cs) x) → Answers fault.Memory (Err (event_fault f)) (decided (first_failing (both cs fits)) x)
payload_decides cs fits x f (inl is) = inl (ap event_fault is)
payload_decides cs fits x payload.Memory (inr is) = inl refl
payload_decides cs fits x (payload.Missing name) (inr is) = inr (fault_decides cs fits x (payload.Missing name) (one_fails (first_failing cs) x (payload.Missing name) is))
payload_decides cs fits x (payload.Kind name) (inr is) = inr (fault_decides cs fits x (payload.Kind name) (one_fails (first_failing cs) x (payload.Kind name) is))
payload_decides cs fits x (payload.Value name) (inr is) = inr (fault_decides cs fits x (payload.Value name) (one_fails (first_failing cs) x (payload.Value name) is))
payload_decides cs fits x (payload.Fraction name) (inr is) = inr (fault_decides cs fits x (payload.Fraction name) (one_fails (first_failing cs) x (payload.Fraction name) is))

-- likewise, at the result of a reader
pub payload_fault : (cs : List (Check PayloadFault)) (fits : Bool) (x : Event) (f : PayloadFault) (r : Result Event EventFault) → r ≡ Err (event_fault f) → Answers {T = Event} payload.Memory (Err f) (decided (first_failing cs) x) → Answers fault.Memory r (decided (first_failing (both cs fits)) x)
payload_fault cs fits x f r is h = subst (λ (t : Result Event EventFault). Answers fault.Memory t (decided (first_failing (both cs fits)) x)) (sym is) (payload_decides cs fits x f h)

-- the result of a reader that has read the payload
pub subject_fault : (cs : List (Check PayloadFault)) (fits : Bool) (x e : Event) (r : Result Event EventFault) → decided (first_failing cs) x ≡ Ok e → r ≡ (if fits then Ok e else Err fault.Subject) → Answers fault.Memory r (decided (first_failing (both cs fits)) x)
subject_fault cs fits x e r h is = subst (λ (t : Result Event EventFault). Answers fault.Memory t (decided (first_failing (both cs fits)) x)) (sym is) (by_test fits (subject_decides cs fits x e h))
  where
    by_test : (b : Bool) → decided (first_failing (both cs fits)) x ≡ (if b then Ok e else Err fault.Subject) → Answers fault.Memory (if b then Ok e else Err fault.Subject) (decided (first_failing (both cs fits)) x)
    by_test true k = k
    by_test false k = inr k
