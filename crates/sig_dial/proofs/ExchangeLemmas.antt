-- What the bytes of a link decide, by what was read of them.
use Rattle.std.proofs.Common.{◌≡◌, ℕ, ◌+◌, ◌≤◌, List, [], ◌∷◌, ◌++◌, length, Bool, true, false, Option, Some, None, IfSome, Result, Ok, Err, inl, inr, refl, sym, ◌∙◌, ap, subst, arith, length-append, not, ◌&&◌, if◌then◌else◌}
use Rattle.std.specs.Io.KnownBytes.{Appends}
use Rattle.sig_outside.specs.Causes.{Aside, Beside}
use Rattle.sig_http.specs.Framing.{is_informational}
use Rattle.sig_http.specs.Message.{DecidesResponse, ReadsResponseOf, Whole}
use Rattle.sig_http.specs.declared.message.Response.{Response}
use Rattle.sig_dial.specs.Interim.{Leads, is_interim, is_switching}
use Rattle.sig_dial.specs.Exchanged.{Decides, ReadsNothing, StopsBefore, Tallies, WritesAll, unless_switching}
use Rattle.sig_dial.specs.declared.limits.TheConstants.{INTERIM_RESPONSES}
use Rattle.sig_dial.specs.declared.fault.AskFault.{AskFault}
use Rattle.sig_dial.specs.declared.fault.AskFault.TheVariants.{Dial, Link, NoResponse, Memory}

-- one more interim response leads
leads_one_more : (rs : List Response) (r : Response) (bytes next rest : List ℕ)
    → Leads rs bytes next → DecidesResponse next (Whole r rest) → is_interim r.status ≡ true → Leads (rs ++ r ∷ []) bytes rest
leads_one_more [] r bytes next rest l d i = (i, (rest, subst (λ (b : List ℕ). DecidesResponse b (Whole r rest)) (sym l) d, refl))
leads_one_more (first ∷ rs) r bytes next rest l d i = (l.0, (l.1.0, l.1.1, leads_one_more rs r l.1.0 next rest l.1.2 d i))

-- so many interim responses of these bytes were passed over, and those bytes are kept and left
abbrev pub Passed : ℕ → List ℕ → List ℕ → Option (List ℕ) → Type 0
Passed n bytes kept None = ⊥
Passed n bytes kept (Some left) = (interim : List Response) × (length interim ≡ n) × Leads interim bytes (kept ++ left)

-- where the source tells what it gives
abbrev pub PassedOf : ℕ → Option (List ℕ) → List ℕ → Option (List ℕ) → Type 0
PassedOf n old kept left = IfSome old (λ bytes. Passed n bytes kept left)

-- none was at first
pub passed_none : (old : Option (List ℕ)) (kept : List ℕ) → kept ≡ [] → PassedOf 0 old kept old
passed_none None kept e = tt
passed_none (Some bytes) kept e = ([], refl, sym (rw e refl))

passed_with : (n : ℕ) (bytes kept kept' left : List ℕ) (left' : Option (List ℕ)) (r : Response) → is_interim r.status ≡ true
    → Passed n bytes kept (Some left) → ReadsResponseOf (kept ++ left) r kept' left' → Passed (n + 1) bytes kept' left'
passed_with n bytes kept kept' left None r i p d = absurd d
passed_with n bytes kept kept' left (Some left') r i p d =
    (p.0 ++ r ∷ [], omega (arith, length-append p.0 (r ∷ []), p.1), leads_one_more p.0 r bytes (kept ++ left) (kept' ++ left') p.2 d i)

-- one more was
pub passed_more : (n : ℕ) (old left left' : Option (List ℕ)) (kept kept' : List ℕ) (r : Response) → is_interim r.status ≡ true
    → PassedOf n old kept left → IfSome left (λ bytes. ReadsResponseOf (kept ++ bytes) r kept' left') → PassedOf (n + 1) old kept' left'
passed_more n None left left' kept kept' r i p f = tt
passed_more n (Some bytes) None left' kept kept' r i p f = absurd p
passed_more n (Some bytes) (Some left) left' kept kept' r i p f = passed_with n bytes kept kept' left left' r i p f

none_behind : (n : ℕ) (bytes kept left : List ℕ) (fault : AskFault) → n ≤ INTERIM_RESPONSES
    → Passed n bytes kept (Some left) → StopsBefore (kept ++ left) fault → Decides bytes (Err fault)
none_behind n bytes kept left Dial few p s = absurd s
none_behind n bytes kept left Link few p s = tt
none_behind n bytes kept left NoResponse few p s = inl (p.0, kept ++ left, omega (arith, p.1), p.2, inl s)
none_behind n bytes kept left Memory few p s = tt

-- behind those that were, there is none
pub passed_to_none : (n : ℕ) (old left : Option (List ℕ)) (kept : List ℕ) (fault : AskFault) → n ≤ INTERIM_RESPONSES
    → PassedOf n old kept left → IfSome left (λ bytes. StopsBefore (kept ++ bytes) fault) → IfSome old (λ bytes. Decides bytes (Err fault))
passed_to_none n None left kept fault few p s = tt
passed_to_none n (Some bytes) None kept fault few p s = absurd p
passed_to_none n (Some bytes) (Some left) kept fault few p s = none_behind n bytes kept left fault few p s

-- a status that is neither interim nor a change of protocols is final
final_status : (informational switching : Bool) → (informational && not switching) ≡ false → switching ≡ false → informational ≡ false
final_status true true i s = cc s
final_status true false i s = cc i
final_status false switching i s = refl

decided_by : (n : ℕ) (bytes kept kept' left left' : List ℕ) (r : Response) (switching : Bool) → is_switching r.status ≡ switching → n ≤ INTERIM_RESPONSES → is_interim r.status ≡ false
    → Passed n bytes kept (Some left) → DecidesResponse (kept ++ left) (Whole r (kept' ++ left')) → Decides bytes (if switching then Err NoResponse else Ok r)
decided_by n bytes kept kept' left left' r true sw few i p d = inl (p.0, kept ++ left, omega (arith, p.1), p.2, inr (r, kept' ++ left', d, sw))
decided_by n bytes kept kept' left left' r false sw few i p d = record {
  interim = p.0;
  few = omega (arith, p.1);
  next = kept ++ left;
  leads = p.2;
  rest = kept' ++ left';
  decides = d;
  last = final_status (is_informational r.status) (is_switching r.status) i sw;
}

found_behind : (n : ℕ) (bytes kept kept' left : List ℕ) (left' : Option (List ℕ)) (r : Response) → n ≤ INTERIM_RESPONSES → is_interim r.status ≡ false
    → Passed n bytes kept (Some left) → ReadsResponseOf (kept ++ left) r kept' left' → Decides bytes (unless_switching r)
found_behind n bytes kept kept' left None r few i p d = absurd d
found_behind n bytes kept kept' left (Some left') r few i p d = decided_by n bytes kept kept' left left' r (is_switching r.status) refl few i p d

one_behind : (n : ℕ) (old left left' : Option (List ℕ)) (kept kept' : List ℕ) (r : Response) → n ≤ INTERIM_RESPONSES → is_interim r.status ≡ false
    → PassedOf n old kept left → IfSome left (λ bytes. ReadsResponseOf (kept ++ bytes) r kept' left') → IfSome old (λ bytes. Decides bytes (unless_switching r))
one_behind n None left left' kept kept' r few i p f = tt
one_behind n (Some bytes) None left' kept kept' r few i p f = absurd p
one_behind n (Some bytes) (Some left) left' kept kept' r few i p f = found_behind n bytes kept kept' left left' r few i p f

-- behind those that were, this one comes
pub passed_to_one : (n : ℕ) (old left left' : Option (List ℕ)) (kept kept' : List ℕ) (r : Response) (answer : Result Response AskFault)
    → answer ≡ unless_switching r → n ≤ INTERIM_RESPONSES → is_interim r.status ≡ false
    → PassedOf n old kept left → IfSome left (λ bytes. ReadsResponseOf (kept ++ bytes) r kept' left') → IfSome old (λ bytes. Decides bytes answer)
passed_to_one n old left left' kept kept' r answer is few i p f =
    subst (λ (a : Result Response AskFault). IfSome old (λ bytes. Decides bytes a)) (sym is) (one_behind n old left left' kept kept' r few i p f)

-- ---- counts

-- the counts are raised from where they stood at first
pub tallies_from : (first reads reads' first' writes writes' : ℕ) (answer : Result Response AskFault)
    → reads ≡ first → writes ≡ first' → Tallies reads reads' writes writes' answer → Tallies first reads' first' writes' answer
tallies_from first reads reads' first' writes writes' answer same same' t =
    subst (λ (n : ℕ). Tallies n reads' first' writes' answer) same (subst (λ (n : ℕ). Tallies reads reads' n writes' answer) same' t)

-- ---- what was written before anything was read

-- a write leaves what is left to read, and the count of the reads
pub reads_nothing : (one two : Beside) (old new : Aside) → two ≡ one → one ≡ Some old → two ≡ Some new → ReadsNothing old.bytes new.bytes old.faults new.faults
reads_nothing one two old new same before after =
    let is : new ≡ old = same_aside new old (sym after ∙ same ∙ before) in
    (ap (λ (a : Aside). a.bytes) is, ap (λ (a : Aside). a.faults) is)
  where
    same_aside : (a b : Aside) → (let o : Option Aside = Some a in o ≡ Some b) → a ≡ b
    same_aside a b h = cc

-- reading leaves what was written
pub writes_all : (text : List ℕ) (old mid new : Option (List ℕ)) (writes writes' : ℕ) → Appends old mid text → new ≡ mid → writes' ≡ writes → WritesAll text old new writes writes'
writes_all text old mid new writes writes' all same steady = (subst (λ (o : Option (List ℕ)). Appends old o text) (sym same) all, steady)
