-- What a pass makes of a link: a request that was read and answered, or how the link ends.
use Rattle.std.proofs.Common.{◌≡◌, ℕ, Bool, true, false, List, [], ◌++◌, Option, Some, None, IfSome, inl, inr, refl, sym, ap, subst, ◌∙◌}
use Rattle.sig_outside.specs.Causes.{Raised}
use Rattle.sig_http.specs.Faults.{Tallies}
use Rattle.sig_http.specs.Message.{Reads, Refuses}
use Rattle.sig_http.specs.declared.fault.HttpFault.{HttpFault}
use Rattle.sig_http.specs.declared.fault.HttpFault.TheVariants as faults
use Rattle.sig_http.specs.declared.message.Got.TheVariants as gots
use Rattle.sig_http.specs.declared.message.Got.{Got}
use Rattle.sig_http.specs.declared.message.Request.{Request}
use Rattle.sig_serving.specs.Line.{Line}
use Rattle.sig_serving.specs.Sending.{IsRefusal}
use Rattle.sig_serving.specs.Texts.{memory_text, refusal_text}
use Rattle.sig_serving.specs.declared.link_end.LinkEnd.{LinkEnd}
use Rattle.sig_serving.specs.declared.link_end.LinkEnd.TheVariants.{End, Spent, Closed, Http, Sent, Memory}
use Rattle.sig_serving.proofs.WritingLemmas.{breaks_from, says_from, says_none, sends_from}
use Rattle.sig_link.specs.Exchange.{Exchange, IsRead, text_in}
use Rattle.sig_link.specs.Meaning.{Meaning}
use Rattle.sig_link.specs.Moment.{Desk, moment, unread}
use Rattle.sig_link.specs.Serving.{Answered, AnswersBy, AnswersRequest, Begins, IsTold, Passes, PassesBy, Takes}

-- the counts of reads by a fault
tallied : (fault : HttpFault) (before now : ℕ) → (fault ≡ faults.Link → Raised before now) → ((fault ≡ faults.Link → ⊥) → now ≡ before) → Tallies fault before now
tallied faults.Link before now link steady = link refl
tallied faults.Head before now link steady = steady (λ e. cc)
tallied faults.Host before now link steady = steady (λ e. cc)
tallied faults.HeadLong before now link steady = steady (λ e. cc)
tallied faults.Length before now link steady = steady (λ e. cc)
tallied faults.BodyLong before now link steady = steady (λ e. cc)
tallied faults.Coding before now link steady = steady (λ e. cc)
tallied faults.Expect before now link steady = steady (λ e. cc)
tallied faults.Cut before now link steady = steady (λ e. cc)
tallied faults.Memory before now link steady = steady (λ e. cc)

module _ {Turn Told : Type 0} where
  -- a request was read of the bytes that were kept and left
  request_read : (kept kept' : List ℕ) (line line' : Line) (desk desk' : Desk Turn Told) (request : Request)
      → IfSome line.left (λ left. Reads (kept ++ left) (gots.Request request) kept' line'.left)
      → IsRead (unread (moment kept line desk)) request (unread (moment kept' line' desk'))
  request_read kept kept' line line' desk desk' request h = by_left line.left line'.left h
    where
      by_left : (left left' : Option (List ℕ)) → IfSome left (λ bytes. Reads (kept ++ bytes) (gots.Request request) kept' left')
          → IsRead (unread (moment kept (record line { left = left }) desk)) request (unread (moment kept' (record line' { left = left' }) desk'))
      by_left None left' k = tt
      by_left (Some bytes) None k = k
      by_left (Some bytes) (Some bytes') k = k

  -- the bytes that were kept and left decide a fault
  decided_by : (kept : List ℕ) (line : Line) (desk : Desk Turn Told) (fault : HttpFault) → IfSome line.left (λ left. Refuses (kept ++ left) fault)
      → IfSome (unread (moment kept line desk)) (λ bytes. Refuses bytes fault)
  decided_by kept line desk fault h = by_left line.left h
    where
      by_left : (left : Option (List ℕ)) → IfSome left (λ bytes. Refuses (kept ++ bytes) fault) → IfSome (unread (moment kept (record line { left = left }) desk)) (λ bytes. Refuses bytes fault)
      by_left None k = tt
      by_left (Some bytes) k = k

  -- there is no byte to begin a request
  ended_by : (kept kept' : List ℕ) (line line' : Line) (desk : Desk Turn Told) → IfSome line.left (λ left. Reads (kept ++ left) gots.End kept' line'.left)
      → IfSome (unread (moment kept line desk)) (λ bytes. bytes ≡ [])
  ended_by kept kept' line line' desk h = by_left line.left line'.left h
    where
      by_left : (left left' : Option (List ℕ)) → IfSome left (λ bytes. Reads (kept ++ bytes) gots.End kept' left') → IfSome (unread (moment kept (record line { left = left }) desk)) (λ bytes. bytes ≡ [])
      by_left None left' k = tt
      by_left (Some bytes) None k = absurd k
      by_left (Some bytes) (Some bytes') k = k.0

module _ {Rules Call Turn Told : Type 0} (m : Meaning Rules Call Turn Told) (rules : Rules) (link before : ℕ) where
  -- a request was read, and took its course
  begins_by : (request : Request) (e : Exchange Turn) (kept kept' : List ℕ) (line line' : Line) (desk desk' : Desk Turn Told)
      → IsRead (unread (moment kept line desk)) request (unread (moment kept' line' desk')) → line'.reads ≡ line.reads
      → e.request ≡ request → Takes m rules link e desk desk' → Begins m rules link e (moment kept line desk) (moment kept' line' desk')
  begins_by request e kept kept' line line' desk desk' read reads is takes = record {
    read = subst (λ (r : Request). IsRead (unread (moment kept line desk)) r (unread (moment kept' line' desk'))) (sym is) read;
    takes = takes;
    reads = reads;
  }

  -- and its response was written whole
  told_by : (request : Request) (starved : Bool) (kept kept' : List ℕ) (line mid line' : Line) (desk desk' : Desk Turn Told)
      → IsRead (unread (moment kept line desk)) request (unread (moment kept' line' desk'))
      → mid.written ≡ line.written → mid.writes ≡ line.writes → line'.reads ≡ line.reads
      → (h : IsTold m rules link before request starved mid line' desk desk')
      → Answered m rules link before h.0 starved (moment kept line desk) (moment kept' line' desk')
  told_by request starved kept kept' line mid line' desk desk' read same count reads h = record {
    read = subst (λ (r : Request). IsRead (unread (moment kept line desk)) r (unread (moment kept' line' desk'))) (sym h.1) read;
    handles = h.2;
    says = says_from (text_in before h.0) line mid line' same count h.3;
    reads = reads;
  }

  -- or not
  read_by : (request : Request) (result : Option LinkEnd) (kept kept' : List ℕ) (line mid line' : Line) (desk desk' : Desk Turn Told)
      → IsRead (unread (moment kept line desk)) request (unread (moment kept' line' desk'))
      → mid.written ≡ line.written → mid.writes ≡ line.writes → line'.reads ≡ line.reads
      → AnswersBy m rules link before request result mid line' desk desk'
      → PassesBy m rules link before result (moment kept line desk) (moment kept' line' desk')
  read_by request None kept kept' line mid line' desk desk' read same count reads h =
      (h.0.0, told_by request false kept kept' line mid line' desk desk' read same count reads h.0, ap (λ (r : Request). r.close) h.0.1 ∙ h.1)
  read_by request (Some Closed) kept kept' line mid line' desk desk' read same count reads h =
      (h.0.0, told_by request false kept kept' line mid line' desk desk' read same count reads h.0, ap (λ (r : Request). r.close) h.0.1 ∙ h.1)
  read_by request (Some (Sent fault)) kept kept' line mid line' desk desk' read same count reads h =
      let e = h.1.0 in (
        h.0,
        (
          e,
          record {
            begins = begins_by request e kept kept' line line' desk desk' read reads h.1.1 h.1.2;
            responds = h.1.3;
            breaks = breaks_from (text_in before e) line mid line' same count h.1.4;
          },
        ),
      )
  read_by request (Some Memory) kept kept' line mid line' desk desk' read same count reads (inl h) = inl (record {
    takes = elim h.0 [
      | inl none ↦ inl none
      | inr some ↦ inr (some.0, begins_by request some.0 kept kept' line line' desk desk' read reads some.1 some.2)
    ];
    sends = sends_from memory_text line mid line' same count h.1;
  })
  read_by request (Some Memory) kept kept' line mid line' desk desk' read same count reads (inr h) =
      inr (h.0, told_by request true kept kept' line mid line' desk desk' read same count reads h)
  read_by request (Some End) kept kept' line mid line' desk desk' read same count reads h = absurd h
  read_by request (Some Spent) kept kept' line mid line' desk desk' read same count reads h = absurd h
  read_by request (Some (Http fault)) kept kept' line mid line' desk desk' read same count reads h = absurd h

  pub passes_read : (got : Got) (request : Request) (result : Option LinkEnd) (kept kept' kept'' : List ℕ) (line mid line' : Line) (desk desk' : Desk Turn Told)
      → got ≡ gots.Request request → IfSome line.left (λ left. Reads (kept ++ left) got kept' mid.left)
      → mid.written ≡ line.written → mid.writes ≡ line.writes → mid.reads ≡ line.reads
      → line'.left ≡ mid.left → line'.reads ≡ mid.reads → kept'' ≡ kept'
      → AnswersRequest m rules link before request result mid line' desk desk'
      → Passes m rules link before result (moment kept line desk) (moment kept'' line' desk')
  passes_read got request result kept kept' kept'' line mid line' desk desk' is read same count reads left reads' keeps h =
      let one : IfSome line.left (λ (bytes : List ℕ). Reads (kept ++ bytes) (gots.Request request) kept' mid.left) = subst (λ (g : Got). IfSome line.left (λ (bytes : List ℕ). Reads (kept ++ bytes) g kept' mid.left)) is read in
      let two : IfSome line.left (λ (bytes : List ℕ). Reads (kept ++ bytes) (gots.Request request) kept'' mid.left) = subst (λ (k : List ℕ). IfSome line.left (λ (bytes : List ℕ). Reads (kept ++ bytes) (gots.Request request) k mid.left)) (sym keeps) one in
      let three : IfSome line.left (λ (bytes : List ℕ). Reads (kept ++ bytes) (gots.Request request) kept'' line'.left) = subst (λ (l : Option (List ℕ)). IfSome line.left (λ (bytes : List ℕ). Reads (kept ++ bytes) (gots.Request request) kept'' l)) (sym left) two in
      record { comes = read_by request result kept kept'' line mid line' desk desk' (request_read kept kept'' line line' desk desk' request three) same count (reads' ∙ reads) h.comes }

  -- no request was read
  refused_by : (fault : HttpFault) (end : LinkEnd) (kept kept' : List ℕ) (line mid line' : Line) (desk : Desk Turn Told)
      → IfSome line.left (λ left. Refuses (kept ++ left) fault) → Tallies fault line.reads mid.reads → line'.reads ≡ mid.reads
      → mid.written ≡ line.written → mid.writes ≡ line.writes
      → IsRefusal fault end mid line' → PassesBy m rules link before (Some end) (moment kept line desk) (moment kept' line' desk)
  refused_by fault End kept kept' line mid line' desk decided tally reads same count h = absurd h.closes
  refused_by fault Spent kept kept' line mid line' desk decided tally reads same count h = absurd h.closes
  refused_by fault Closed kept kept' line mid line' desk decided tally reads same count h = absurd h.closes
  refused_by fault (Sent told) kept kept' line mid line' desk decided tally reads same count h = absurd h.closes
  refused_by fault (Http told) kept kept' line mid line' desk decided tally reads same count h =
      rw h.closes.0 (record {
        decided = decided_by kept line desk fault decided;
        other = h.other (ap Http h.closes.0);
        cause = subst (λ n. Tallies fault line.reads n) (sym reads) tally;
        rests = record { side = refl; told = refl; turns = refl };
        sends = sends_from (refusal_text fault) line mid line' same count h.closes.1;
      })
  refused_by fault Memory kept kept' line mid line' desk decided tally reads same count h = inl (record {
    takes = inl (record { side = inl refl; told = refl; turns = refl });
    sends = sends_from memory_text line mid line' same count h.closes;
  })

  pub passes_refused : (fault : HttpFault) (end : LinkEnd) (kept kept' : List ℕ) (line mid line' : Line) (desk : Desk Turn Told)
      → IfSome line.left (λ left. Refuses (kept ++ left) fault) → (fault ≡ faults.Link → Raised line.reads mid.reads) → ((fault ≡ faults.Link → ⊥) → mid.reads ≡ line.reads)
      → line'.reads ≡ mid.reads → mid.written ≡ line.written → mid.writes ≡ line.writes
      → IsRefusal fault end mid line' → Passes m rules link before (Some end) (moment kept line desk) (moment kept' line' desk)
  passes_refused fault end kept kept' line mid line' desk decided raised steady reads same count h =
      record { comes = refused_by fault end kept kept' line mid line' desk decided (tallied fault line.reads mid.reads raised steady) reads same count h }

  -- there was no byte more
  pub passes_none : (got : Got) (kept kept' : List ℕ) (line line' : Line) (desk : Desk Turn Told)
      → got ≡ gots.End → IfSome line.left (λ left. Reads (kept ++ left) got kept' line'.left) → line'.reads ≡ line.reads
      → line'.written ≡ line.written → line'.writes ≡ line.writes
      → Passes m rules link before (Some End) (moment kept line desk) (moment kept' line' desk)
  passes_none got kept kept' line line' desk is h reads same count = record {
    comes = record {
      none = ended_by kept kept' line line' desk (subst (λ (g : Got). IfSome line.left (λ (bytes : List ℕ). Reads (kept ++ bytes) g kept' line'.left)) is h);
      rests = record { side = refl; told = refl; turns = refl };
      reads = reads;
      says = says_none line line' same count;
    };
  }
