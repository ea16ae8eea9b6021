-- The checks of a payload's content, part by part.
use Rattle.std.proofs.Common.{◌≡◌, List, ◌++◌, sym, ap, ◌∙◌, inl, inr}
use Rattle.std.specs.Prelude.{Result, Ok, Err}
use Rattle.sig_json.specs.Answers.{Answers}
use Rattle.sig_json.specs.Checks.{Check, first_failing}
use Rattle.sig_subject.specs.declared.subject.Subject.{Subject}
use Rattle.sig_event.specs.declared.claims.Claims.{Claims}
use Rattle.sig_event.specs.declared.event.Event.{Event}
use Rattle.sig_set.specs.declared.refusal.Refusal.{Refusal}
use Rattle.sig_set.specs.declared.refusal.Refusal.TheVariants.{Memory}
use Rattle.sig_set.specs.Checks.{Fault, passed, unless_refused}
use Rattle.sig_set.proofs.Chains.{behind_part, none_failed, part_answers, part_refused, refused_alike, rest_left, same_value}

-- claims with this subject and these events are those that are read
same_claims : (claims : Claims) (s : Subject) (es : List Event) → claims.subject ≡ s → claims.events ≡ es → claims ≡ record claims { subject = s; events = es }
same_claims claims s es is are = ap (λ x. record claims { subject = x }) is ∙ ap (λ y. record claims { subject = s; events = y }) are

-- a part is refused: first, the checks before the subject
pub stamp_refused : (stamp rest : List (Check Fault)) (claims : Claims) (e : Refusal) (r : Result Claims Refusal) → r ≡ Err e → Err e ≡ passed stamp
    → Answers Memory r (unless_refused (first_failing (stamp ++ rest)) claims)
stamp_refused stamp rest claims e r is h = rw is (inr (part_refused stamp rest tt claims e (sym h)))

-- then the subject
pub subject_refused : (stamp one rest : List (Check Fault)) (s : Subject) (claims : Claims) (e : Refusal) (r : Result Claims Refusal) → r ≡ Err e → Ok tt ≡ passed stamp
    → Answers {T = Subject} Memory (Err e) (unless_refused (first_failing one) s) → Answers Memory r (unless_refused (first_failing (stamp ++ (one ++ rest))) claims)
subject_refused stamp one rest s claims e r is before h = rw is (behind_part stamp (one ++ rest) tt tt claims (Err e) (sym before) (part_answers one rest s claims e h))

-- then the events about it
pub events_refused : (stamp one : List (Check Fault)) (rest : Subject → List (Check Fault)) (read s : Subject) (events : Subject → List Event) (claims : Claims) (e : Refusal) (r : Result Claims Refusal)
    → r ≡ Err e → Ok tt ≡ passed stamp → unless_refused (first_failing one) read ≡ Ok s → Answers {T = List Event} Memory (Err e) (unless_refused (first_failing (rest s)) (events s))
    → Answers Memory r (unless_refused (first_failing (stamp ++ (one ++ rest read))) claims)
events_refused stamp one rest read s events claims e r is before named h = rw is (behind_part stamp (one ++ rest read) tt tt claims (Err e) (sym before)
    (behind_part one (rest read) read s claims (Err e) named (alike h)))
  where
    alike : Answers {T = List Event} Memory (Err e) (unless_refused (first_failing (rest s)) (events s)) → Answers {T = Claims} Memory (Err e) (unless_refused (first_failing (rest read)) claims)
    alike (inl k) = inl k
    alike (inr k) = inr (ap (λ x. unless_refused (first_failing (rest x)) claims) (same_value (first_failing one) read s named) ∙ refused_alike (first_failing (rest s)) (events s) claims e k)

-- else the claims are told
pub claims_told : (stamp one : List (Check Fault)) (rest : Subject → List (Check Fault)) (read s : Subject) (events : Subject → List Event) (es : List Event) (claims told : Claims)
    → Ok tt ≡ passed stamp → unless_refused (first_failing one) read ≡ Ok s → unless_refused (first_failing (rest s)) (events s) ≡ Ok es
    → claims.subject ≡ read → claims.events ≡ events read → told ≡ record claims { subject = s; events = es }
    → unless_refused (first_failing (stamp ++ (one ++ rest read))) claims ≡ Ok told
claims_told stamp one rest read s events es claims told before named happened subject all is =
    let same = same_value (first_failing one) read s named in
    rest_left stamp (one ++ rest read) tt tt claims (sym before)
    ∙ rest_left one (rest read) read s claims named
    ∙ ap (λ x. unless_refused (first_failing (rest x)) claims) same
    ∙ ap (λ o. unless_refused o claims) (none_failed (first_failing (rest s)) (events s) es happened)
    ∙ ap Ok (same_claims claims s es (subject ∙ same) (all ∙ ap events same ∙ same_value (first_failing (rest s)) (events s) es happened) ∙ sym is)
