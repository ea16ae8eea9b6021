-- One request: what became of it, and what was printed.
use Rattle.std.proofs.Common.{◌≡◌, ◌∙◌, sym, subst, refl, inl, inr, ℕ, List, [], ◌∷◌, append-nil, Option, Some, None, Result, Ok, Err, codes}
use Rattle.std.specs.Prelude.{⊤}
use Rattle.std.proofs.KnownBytes.{Appends-nil}
use Rattle.sig_command.specs.Moment.{OutputState}
use Rattle.sig_links.specs.Views.{SideView}
use Rattle.sig_outside.specs.declared.place.Place.{Place}
use Rattle.sig_http.specs.declared.message.Request.{Request}
use Rattle.sig_http.specs.declared.message.Response.{Response}
use Rattle.sig_dial.specs.Asked as dialled
use Rattle.sig_dial.specs.declared.fault.AskFault.{AskFault}
use Rattle.sig_dial.specs.declared.fault.AskFault.TheVariants as asked
use Rattle.sig_declared.specs.declared.provider.Provider.{Provider}
use Rattle.sig_manager.specs.Exchange.{Managed, heard, next_of, step_of}
use Rattle.sig_manager.specs.declared.fault.ManageFault.{ManageFault}
use Rattle.sig_manager.specs.declared.fault.ManageFault.TheVariants as manage
use Rattle.sig_manager.specs.declared.step.Step.{Step}
use Rattle.sig_managing.specs.Asks.{place_of, request_text}
use Rattle.sig_managing.specs.Drives.{CountsFaults, Prints}
use Rattle.sig_managing.specs.Exchanges.{Exchange, HearsAll, IsTaken, SendsAll, done_in, taken_by}
use Rattle.sig_managing.specs.Lines.{line_of, lines_of}
use Rattle.sig_managing.specs.Steps.{Asks, PutsLine, line_by}
use Rattle.sig_managing.specs.declared.fault.DriveFault.{DriveFault}
use Rattle.sig_managing.specs.declared.fault.DriveFault.TheVariants.{Dial, Link, Peer, Output, Memory}
use Rattle.sig_managing.proofs.Links.{hears_one, sends_one}

-- ---- the fault of an answer

-- a fault of a response that was read is neither of the dial nor of the link, nor of the output
abbrev IsQuiet : DriveFault → Type 0
IsQuiet Dial = ⊥
IsQuiet Link = ⊥
IsQuiet (Peer place) = ⊤
IsQuiet Output = ⊥
IsQuiet Memory = ⊤

same_fault : (e f : DriveFault) → ◌≡◌ {A = Result Managed DriveFault} (Err e) (Err f) → f ≡ e
same_fault e f h = cc

taken_quiet : (r : Result Managed ManageFault) (e : DriveFault) → taken_by r ≡ Err e → IsQuiet e
taken_quiet (Ok after) e h = absurd cc
taken_quiet (Err (manage.Peer place)) e h = subst IsQuiet (same_fault e (Peer place) (sym h)) tt
taken_quiet (Err manage.Memory) e h = subst IsQuiet (same_fault e Memory (sym h)) tt

memory_quiet : (e : DriveFault) → e ≡ Memory → IsQuiet e
memory_quiet e is = subst IsQuiet (sym is) tt

-- so only a fault of the dial or of the link is one of theirs
abbrev OfAnswer : Result Response AskFault → DriveFault → Type 0
OfAnswer (Ok response) e = IsQuiet e
OfAnswer (Err asked.Dial) e = e ≡ Dial
OfAnswer (Err asked.Link) e = e ≡ Link
OfAnswer (Err asked.NoResponse) e = IsQuiet e
OfAnswer (Err asked.Memory) e = IsQuiet e

of_answer : (m : Managed) (answer : Result Response AskFault) (e : DriveFault) → IsTaken m answer (Err e) → OfAnswer answer e
of_answer m (Ok response) e (inl is) = memory_quiet e is
of_answer m (Ok response) e (inr h) = taken_quiet (heard m response) e h
of_answer m (Err asked.Dial) e h = sym (same_fault e Dial h)
of_answer m (Err asked.Link) e h = sym (same_fault e Link h)
of_answer m (Err asked.NoResponse) e (inl is) = memory_quiet e is
of_answer m (Err asked.NoResponse) e (inr h) = subst IsQuiet (same_fault e (Peer (codes "http")) (sym h)) tt
of_answer m (Err asked.Memory) e h = memory_quiet e (sym (same_fault e Memory h))

quiet_counts : (T : Type 0) (before now : ℕ) (e : DriveFault) → IsQuiet e → now ≡ before → CountsFaults {T = T} before now (Err e)
quiet_counts T before now Dial quiet same = absurd quiet
quiet_counts T before now Link quiet same = absurd quiet
quiet_counts T before now (Peer place) quiet same = same
quiet_counts T before now Output quiet same = absurd quiet
quiet_counts T before now Memory quiet same = same

fault_counts : (T : Type 0) (answer : Result Response AskFault) (before now : ℕ) (e : DriveFault) → OfAnswer answer e → dialled.Counts before now answer
    → CountsFaults {T = T} before now (Err e)
fault_counts T (Ok response) before now e of same = quiet_counts T before now e of same
fault_counts T (Err asked.Dial) before now e of raised = subst (λ (x : DriveFault). CountsFaults {T = T} before now (Err x)) (sym of) raised
fault_counts T (Err asked.Link) before now e of raised = subst (λ (x : DriveFault). CountsFaults {T = T} before now (Err x)) (sym of) raised
fault_counts T (Err asked.NoResponse) before now e of same = quiet_counts T before now e of same
fault_counts T (Err asked.Memory) before now e of same = quiet_counts T before now e of same

pub counts_fault : (T : Type 0) (m : Managed) (answer : Result Response AskFault) (before now : ℕ) (e : DriveFault) → IsTaken m answer (Err e)
    → dialled.Counts before now answer → CountsFaults {T = T} before now (Err e)
counts_fault T m answer before now e taken counts = fault_counts T answer before now e (of_answer m answer e taken) counts

-- a response that was taken was given, so nothing was counted
pub counts_taken : (m later : Managed) (answer : Result Response AskFault) (before now : ℕ) → IsTaken m answer (Ok later)
    → dialled.Counts before now answer → now ≡ before
counts_taken m later (Ok response) before now taken same = same
counts_taken m later (Err asked.Dial) before now taken raised = absurd cc
counts_taken m later (Err asked.Link) before now taken raised = absurd cc
counts_taken m later (Err asked.NoResponse) before now taken same = same
counts_taken m later (Err asked.Memory) before now taken same = same

-- ---- what is printed

-- nothing, where an answer isn't taken
prints_quiet : (T : Type 0) (e : DriveFault) (a : OutputState) → IsQuiet e → Prints {T = T} (Err e) [] a a
prints_quiet T Dial a quiet = absurd quiet
prints_quiet T Link a quiet = absurd quiet
prints_quiet T (Peer place) a quiet = (Appends-nil a.written, (refl, refl))
prints_quiet T Output a quiet = absurd quiet
prints_quiet T Memory a quiet = (Appends-nil a.written, (refl, refl))

prints_none : (T : Type 0) (answer : Result Response AskFault) (e : DriveFault) (a : OutputState) → OfAnswer answer e → Prints {T = T} (Err e) [] a a
prints_none T (Ok response) e a of = prints_quiet T e a of
prints_none T (Err asked.Dial) e a of = subst (λ (x : DriveFault). Prints {T = T} (Err x) [] a a) (sym of) (Appends-nil a.written, (refl, refl))
prints_none T (Err asked.Link) e a of = subst (λ (x : DriveFault). Prints {T = T} (Err x) [] a a) (sym of) (Appends-nil a.written, (refl, refl))
prints_none T (Err asked.NoResponse) e a of = prints_quiet T e a of
prints_none T (Err asked.Memory) e a of = prints_quiet T e a of

-- the lines of a request alone
lines_one : (request : Request) (answer : Result Response AskFault) (taken : Result Managed DriveFault) (done : Option Step)
    → lines_of (done_in (record { request = request; answer = answer; taken = taken; done = done } ∷ [])) ≡ line_by done
lines_one request answer taken None = refl
lines_one request answer taken (Some s) = append-nil (line_of s)

-- ---- a request

sent_by : (provider : Provider) (place : Place) → place_of provider ≡ Some place → (made : Exchange) (v u w : SideView) → w ≡ u
    → dialled.Sends place (request_text provider made.request) v.sent u.sent made.answer → SendsAll provider (made ∷ []) v.sent w.sent
sent_by provider place leads made v u w still sends = subst (λ (x : SideView). SendsAll provider (made ∷ []) v.sent x.sent) (sym still)
    (sends_one provider made place leads v.sent u.sent sends)

heard_by : (made : Exchange) (v u w : SideView) → w ≡ u → dialled.Hears v.ahead u.ahead made.answer → HearsAll (made ∷ []) v.ahead w.ahead
heard_by made v u w still hears = subst (λ (x : SideView). HearsAll (made ∷ []) v.ahead x.ahead) (sym still) (hears_one made v.ahead u.ahead hears)

module _ {T : Type 0} (provider : Provider) (place : Place) (leads : place_of provider ≡ Some place) (m after : Managed) (request : Request)
    (answer : Result Response AskFault) (v u w : SideView) (still : w ≡ u) (next : next_of m ≡ Some request)
    (sends : dialled.Sends place (request_text provider request) v.sent u.sent answer) (hears : dialled.Hears v.ahead u.ahead answer) where
  -- whose answer wasn't taken
  pub untaken : (e : DriveFault) (a : OutputState) → after ≡ m → IsTaken m answer (Err e) → Asks {T = T} provider m after v.ahead w.ahead v.sent w.sent a a (Err e)
  untaken e a same taken = record {
    made = Some made;
    is = (next, taken, (refl, same, refl));
    sends = sent_by provider place leads made v u w still sends;
    hears = heard_by made v u w still hears;
    prints = prints_none T answer e a (of_answer m answer e taken);
  }
    where
      made : Exchange
      made = record { request = request; answer = answer; taken = Err e; done = None }

  -- whose answer was taken, and at whose line the output stopped
  pub stopped : (later : Managed) (line : List ℕ) (a b : OutputState) → after ≡ later → IsTaken m answer (Ok later) → line ≡ line_by (step_of m)
      → PutsLine (Err Output) line a b → Asks {T = T} provider m after v.ahead w.ahead v.sent w.sent a b (Err Output)
  stopped later line a b same taken is puts = record {
    made = Some made;
    is = (next, taken, (refl, same, inl refl));
    sends = sent_by provider place leads made v u w still sends;
    hears = heard_by made v u w still hears;
    prints = subst (λ (l : List ℕ). Prints {T = T} (Err Output) l a b) (is ∙ sym (lines_one request answer (Ok later) (step_of m))) puts;
  }
    where
      made : Exchange
      made = record { request = request; answer = answer; taken = Ok later; done = step_of m }

  -- and whose line was put
  pub put : (later : Managed) (line : List ℕ) (x : T) (a b : OutputState) → after ≡ later → IsTaken m answer (Ok later) → line ≡ line_by (step_of m)
      → PutsLine (Ok tt) line a b → Asks {T = T} provider m after v.ahead w.ahead v.sent w.sent a b (Ok x)
  put later line x a b same taken is puts = record {
    made = Some made;
    is = (next, taken, (refl, same, inr refl));
    sends = sent_by provider place leads made v u w still sends;
    hears = heard_by made v u w still hears;
    prints = subst (λ (l : List ℕ). Prints {T = T} (Ok x) l a b) (is ∙ sym (lines_one request answer (Ok later) (step_of m))) puts;
  }
    where
      made : Exchange
      made = record { request = request; answer = answer; taken = Ok later; done = step_of m }
