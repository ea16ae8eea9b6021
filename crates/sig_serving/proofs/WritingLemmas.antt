-- What is written of a text, and how a link ends by it.
use Rattle.std.proofs.Common.{◌≡◌, ◌≢◌, ℕ, List, [], Option, Some, Result, Ok, Err, inl, inr, refl, sym, subst, ◌∙◌, arith}
use Rattle.std.specs.Prelude.{OnOk, OnErr, IsErrOf, ⊤}
use Rattle.std.specs.Io.KnownBytes.{Appends, Keeps}
use Rattle.std.proofs.KnownBytes.{Appends-nil, Appends-kept, Appends-trans}
use Rattle.sig_outside.specs.Causes.{Aside, AppendsPrefix, Beside, Raised}
use Rattle.sig_outside.specs.declared.sink.PutFault.{PutFault}
use Rattle.sig_outside.specs.declared.sink.PutFault.TheVariants as puts
use Rattle.sig_http.specs.declared.fault.HttpFault.{HttpFault}
use Rattle.sig_http.specs.declared.fault.HttpFault.TheVariants as faults
use Rattle.sig_http.specs.Answering.{closing_of}
use Rattle.sig_http.specs.declared.message.Response.{Response}
use Rattle.sig_serving.specs.Texts.{memory_text, refusal_text, spelled}
use Rattle.sig_serving.specs.Line.{Line, Says, Breaks, Sends}
use Rattle.sig_serving.specs.Sending.{Responds, ClosesBy, ClosesWith, IsRefusal}
use Rattle.sig_serving.specs.declared.link_end.LinkEnd.{LinkEnd}
use Rattle.sig_serving.specs.declared.link_end.LinkEnd.TheVariants.{Http, Memory}

-- ---- writing

-- a count that was raised from nothing isn't nothing
pub not_raised : (before now : ℕ) → before ≡ 0 → now ≡ 0 → Raised before now → ⊥
not_raised before now old new h = omega (arith, h.1)

-- bytes that were put to a sink which never stalls
put_sends : (text : List ℕ) (old new : Line) (stalls stalls' : ℕ) (r : Result ⊤ PutFault) → stalls ≡ 0 → stalls' ≡ 0
    → OnOk r (Appends old.written new.written text) → OnErr r (AppendsPrefix old.written new.written text)
    → (IsErrOf r puts.Failed → Raised old.writes new.writes) → ((IsErrOf r puts.Failed → ⊥) → new.writes ≡ old.writes)
    → (IsErrOf r puts.Stuck → Raised stalls stalls') → Sends text old new
put_sends text old new stalls stalls' (Ok x) none none' all prefix failed steady stuck =
    inl (record { whole = all; writes = steady (λ e. cc) })
put_sends text old new stalls stalls' (Err puts.Failed) none none' all prefix failed steady stuck =
    inr (record { prefix = prefix; cause = failed refl })
put_sends text old new stalls stalls' (Err puts.Stuck) none none' all prefix failed steady stuck =
    absurd (not_raised stalls stalls' none none' (stuck refl))

-- bytes that are this text
pub puts_text : (bytes text : List ℕ) (old new : Line) (stalls stalls' : ℕ) (r : Result ⊤ PutFault) → bytes ≡ text → stalls ≡ 0 → stalls' ≡ 0
    → OnOk r (Appends old.written new.written bytes) → OnErr r (AppendsPrefix old.written new.written bytes)
    → (IsErrOf r puts.Failed → Raised old.writes new.writes) → ((IsErrOf r puts.Failed → ⊥) → new.writes ≡ old.writes)
    → (IsErrOf r puts.Stuck → Raised stalls stalls') → Sends text old new
puts_text bytes text old new stalls stalls' r same none none' all prefix failed steady stuck =
    subst (λ (t : List ℕ). Sends t old new) same (put_sends bytes old new stalls stalls' r none none' all prefix failed steady stuck)

-- nothing was written
pub says_none : (old new : Line) → new.written ≡ old.written → new.writes ≡ old.writes → Says [] old new
says_none old new same count = record { whole = subst (λ w. Appends old.written w []) (sym same) (Appends-nil old.written); writes = count }

-- what was written from a moment on was written from an earlier one on, where nothing was written between them
pub says_from : (text : List ℕ) (old mid new : Line) → mid.written ≡ old.written → mid.writes ≡ old.writes → Says text mid new → Says text old new
says_from text old mid new same count h = record {
  whole = subst (λ w. Appends w new.written text) same h.whole;
  writes = h.writes ∙ count;
}

pub breaks_from : (text : List ℕ) (old mid new : Line) → mid.written ≡ old.written → mid.writes ≡ old.writes → Breaks text mid new → Breaks text old new
breaks_from text old mid new same count h = record {
  prefix = subst (λ w. AppendsPrefix w new.written text) same h.prefix;
  cause = subst (λ n. Raised n new.writes) count h.cause;
}

pub sends_from : (text : List ℕ) (old mid new : Line) → mid.written ≡ old.written → mid.writes ≡ old.writes → Sends text mid new → Sends text old new
sends_from text old mid new same count (inl h) = inl (says_from text old mid new same count h)
sends_from text old mid new same count (inr h) = inr (breaks_from text old mid new same count h)

appends_kept : (a b c : Option (List ℕ)) (text : List ℕ) → Keeps a b → Appends b c text → Appends a c text
appends_kept a b c text kept h = Appends-trans a b c [] text (Appends-kept a a b [] (Appends-nil a) kept) h

-- what was written once nothing was taken
says_kept : (text : List ℕ) (old mid new : Line) → Keeps old.written mid.written → mid.writes ≡ old.writes → Says text mid new → Says text old new
says_kept text old mid new kept count h = record {
  whole = appends_kept old.written mid.written new.written text kept h.whole;
  writes = h.writes ∙ count;
}

breaks_kept : (text : List ℕ) (old mid new : Line) → Keeps old.written mid.written → mid.writes ≡ old.writes → Breaks text mid new → Breaks text old new
breaks_kept text old mid new kept count h = record {
  prefix = (h.prefix.0, h.prefix.1, h.prefix.2, appends_kept old.written mid.written new.written h.prefix.0 kept h.prefix.3);
  cause = subst (λ (n : ℕ). Raised n new.writes) count h.cause;
}

pub sends_kept : (text : List ℕ) (old mid new : Line) → Keeps old.written mid.written → mid.writes ≡ old.writes → Sends text mid new → Sends text old new
sends_kept text old mid new kept count (inl h) = inl (says_kept text old mid new kept count h)
sends_kept text old mid new kept count (inr h) = inr (breaks_kept text old mid new kept count h)

-- what stands beside one direction of a link stays
pub beside_kept : (one two : Beside) (old new : Aside) → two ≡ one → one ≡ Some old → two ≡ Some new → new ≡ old
beside_kept one two old new same before after = some_same new old (sym after ∙ same ∙ before)
  where
    some_same : (a b : Aside) → (let o : Option Aside = Some a in o ≡ Some b) → a ≡ b
    some_same a b h = cc

-- ---- a response

pub responds_out : (text : List ℕ) (end : LinkEnd) (old new : Line) → end ≡ Memory → Sends memory_text old new → Responds text (Err end) old new
responds_out text end old new is h = rw is (record { comes = h })

pub responds_as : (text text' : List ℕ) (result : Result ⊤ LinkEnd) (old new : Line) → text ≡ text' → Responds text result old new → Responds text' result old new
responds_as text text' result old new same h = subst (λ (t : List ℕ). Responds t result old new) same h

pub closes_out : (text : List ℕ) (fault : HttpFault) (end : LinkEnd) (old new : Line) → end ≡ Memory → Sends memory_text old new → ClosesWith text fault end old new
closes_out text fault end old new is h = rw is (record { comes = h })

apart : (f : HttpFault) → (let e : LinkEnd = Memory in e ≡ Http f) → ⊥
apart f e = cc

pub refusal_out : (fault : HttpFault) (end : LinkEnd) (old new : Line) → end ≡ Memory → Sends memory_text old new → IsRefusal fault end old new
refusal_out fault end old new is h = rw is (record { closes = h; other = λ e. absurd (apart fault e) })

pub refusal_with : (fault : HttpFault) (response : Option Response) (end : LinkEnd) (old new : Line) → response ≡ closing_of fault → fault ≢ faults.Memory
    → ClosesWith (spelled response) fault end old new → IsRefusal fault end old new
unfolding refusal_text
refusal_with fault response end old new is other h = record {
  closes = subst (λ (r : Option Response). ClosesBy (spelled r) fault end old new) is h.comes;
  other = λ e. other;
}
