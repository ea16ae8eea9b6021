-- How a link is served: the exchanges that were answered, and how it ends.
use Rattle.std.specs.Prelude.{◌≡◌, ◌≢◌, ◌⊎◌, ℕ, Bool, true, false, if◌then◌else◌, List, [], length, Option, Some, None, IfSome}
use Rattle.sig_json.specs.declared.limits.TheConstants.{REQUESTS_PER_LINK}
use Rattle.sig_http.specs.Faults.{Tallies}
use Rattle.sig_http.specs.Message.{Refuses}
use Rattle.sig_http.specs.declared.fault.HttpFault.{HttpFault}
use Rattle.sig_http.specs.declared.fault.HttpFault.TheVariants as faults
use Rattle.sig_http.specs.declared.fault.SendFault.TheVariants as sends
use Rattle.sig_http.specs.declared.message.Request.{Request}
use Rattle.sig_serving.specs.Line.{Breaks, Line, Says, Sends}
use Rattle.sig_serving.specs.Texts.{memory_text, refusal_text}
use Rattle.sig_serving.specs.declared.link_end.LinkEnd.{LinkEnd}
use Rattle.sig_serving.specs.declared.link_end.LinkEnd.TheVariants.{End, Spent, Closed, Http, Sent, Memory}
use Rattle.sig_link.specs.Answering.{IsResponse}
use Rattle.sig_link.specs.Course.{Adds, Comes, own_turn}
use Rattle.sig_link.specs.Exchange.{AreMade, AreRead, CloseAtLast, Exchange, GoesOn, IsRead, MakesTurns, StayOpen, text_in, texts_from, turns_in, turns_of}
use Rattle.sig_link.specs.Meaning.{Meaning}
use Rattle.sig_link.specs.Moment.{Desk, Moment, unread}

-- ---- no request

module _ {Turn Told : Type 0} where
  -- no turn was made, and the side was asked nothing
  pub record Rests (old new : Desk Turn Told) : Type 0 where
    pub side : new.side ≡ old.side
    pub told : new.told ≡ old.told
    pub turns : new.turns ≡ old.turns

  -- the link gave no byte where a request would begin
  pub record Finishes (old new : Moment Turn Told) : Type 0 where
    pub none : IfSome (unread old) (λ bytes. bytes ≡ [])
    pub rests : Rests old.desk new.desk
    pub reads : new.line.reads ≡ old.line.reads
    pub says : Says [] old.line new.line

  -- no request was read, for the fault that the bytes decide or a read met, and the response to it was written, where it has one
  pub record Refused (fault : HttpFault) (old new : Moment Turn Told) : Type 0 where
    pub decided : IfSome (unread old) (λ bytes. Refuses bytes fault)
    pub other : fault ≢ faults.Memory
    pub cause : Tallies fault old.line.reads new.line.reads
    pub rests : Rests old.desk new.desk
    pub sends : Sends (refusal_text fault) old.line new.line

-- how a link ends after a request was answered, where it does: memory ran out in what followed, or the request asks for closing
abbrev pub end_after : Request → Bool → Option LinkEnd
end_after request true = Some Memory
end_after request false = if request.close then Some Closed else None

-- a link of this number, by what its end is, and its rules
module _ {Rules Call Turn Told : Type 0} (m : Meaning Rules Call Turn Told) (rules : Rules) (link : ℕ) where
  -- ---- one request

  -- its course is what it asks for, and the side, the taker and the log have it
  pub record Takes (e : Exchange Turn) (old new : Desk Turn Told) : Type 0 where
    pub comes : Comes m rules link e.request e.course old.side new.side
    pub adds : Adds m (own_turn e.course) old.turns new.turns old.told new.told

  -- and so it is with what followed, in which memory ran out or not
  pub record Handles (e : Exchange Turn) (starved : Bool) (old new : Desk Turn Told) : Type 0 where
    pub makes : MakesTurns m rules link e starved old.side new.side
    pub adds : Adds m (turns_in e) old.turns new.turns old.told new.told

  -- it was read, and took its course
  pub record Begins (e : Exchange Turn) (old new : Moment Turn Told) : Type 0 where
    pub read : IsRead (unread old) e.request (unread new)
    pub takes : Takes e old.desk new.desk
    pub reads : new.line.reads ≡ old.line.reads

  -- a prefix of its response was written, since a write failed; nothing follows
  pub record Cut (before : ℕ) (e : Exchange Turn) (old new : Moment Turn Told) : Type 0 where
    pub begins : Begins e old new
    pub responds : IsResponse m rules e.course e.response
    pub breaks : Breaks (text_in before e) old.line new.line

  -- its response was written whole, after so many others, and then what follows was done
  pub record Answered (before : ℕ) (e : Exchange Turn) (starved : Bool) (old new : Moment Turn Told) : Type 0 where
    pub read : IsRead (unread old) e.request (unread new)
    pub handles : Handles e starved old.desk new.desk
    pub says : Says (text_in before e) old.line new.line
    pub reads : new.line.reads ≡ old.line.reads

  -- ---- the exchanges of a link

  -- requests that were answered whole, one after the other
  pub record Exchanges (es : List (Exchange Turn)) (old new : Moment Turn Told) : Type 0 where
    pub read : AreRead (unread old) es (unread new)
    pub makes : AreMade m rules link old.desk.side es new.desk.side
    pub adds : Adds m (turns_of es) old.desk.turns new.desk.turns old.desk.told new.desk.told
    pub says : Says (texts_from 0 es) old.line new.line
    pub reads : new.line.reads ≡ old.line.reads

  -- ---- how it ends

  -- no turn was kept, and the side is as before or as a call leaves it that is refused memory
  pub record KeepsNone (old new : Desk Turn Told) : Type 0 where
    pub side : (new.side ≡ old.side) ⊎ m.Tries old.side new.side
    pub told : new.told ≡ old.told
    pub turns : new.turns ≡ old.turns

  -- memory ran out before a response was written: no turn was kept, or the taker and the log have that of the request; and the
  -- response that says so was written
  pub record Starves (old new : Moment Turn Told) : Type 0 where
    pub takes : KeepsNone old.desk new.desk ⊎ ((e : Exchange Turn) × Begins e old new)
    pub sends : Sends memory_text old.line new.line

  -- memory ran out before a response was written; or in what followed one, and then nothing more was written
  abbrev pub RunsOut : ℕ → Moment Turn Told → Moment Turn Told → Type 0
  RunsOut before old new = Starves old new ⊎ ((e : Exchange Turn) × Answered before e true old new)

  -- how a link ends once these exchanges were answered
  abbrev pub Ends : List (Exchange Turn) → LinkEnd → Moment Turn Told → Moment Turn Told → Type 0
  Ends es End old new = GoesOn es × Finishes old new
  Ends es Spent old new = (length es ≡ REQUESTS_PER_LINK) × StayOpen es × (new ≡ old)
  Ends es Closed old new = CloseAtLast es × (new ≡ old)
  Ends es (Http fault) old new = GoesOn es × Refused fault old new
  Ends es (Sent fault) old new = GoesOn es × (fault ≡ sends.Link) × ((e : Exchange Turn) × Cut (length es) e old new)
  Ends es Memory old new = GoesOn es × RunsOut (length es) old new

  -- ---- the whole link

  -- from one moment on exchanges were answered, and then it ended so
  pub record Serves (end : LinkEnd) (old new : Moment Turn Told) : Type 0 where
    pub answered : List (Exchange Turn)
    pub between : Moment Turn Told
    pub exchanges : Exchanges answered old between
    pub ends : Ends answered end between new

  -- ---- one request after another
  abbrev pub PassesBy : ℕ → Option LinkEnd → Moment Turn Told → Moment Turn Told → Type 0
  PassesBy before None old new = (e : Exchange Turn) × Answered before e false old new × (e.request.close ≡ false)
  PassesBy before (Some End) old new = Finishes old new
  PassesBy before (Some Spent) old new = ⊥
  PassesBy before (Some Closed) old new = (e : Exchange Turn) × Answered before e false old new × (e.request.close ≡ true)
  PassesBy before (Some (Http fault)) old new = Refused fault old new
  PassesBy before (Some (Sent fault)) old new = (fault ≡ sends.Link) × ((e : Exchange Turn) × Cut before e old new)
  PassesBy before (Some Memory) old new = RunsOut before old new

  -- one pass: an exchange after which the link goes on, or its end
  pub record Passes (before : ℕ) (end : Option LinkEnd) (old new : Moment Turn Told) : Type 0 where
    pub comes : PassesBy before end old new

  -- ---- the answer to a request that was read

  -- its response was written whole, and then what follows was done
  abbrev pub IsTold : ℕ → Request → Bool → Line → Line → Desk Turn Told → Desk Turn Told → Type 0
  IsTold before request starved line line' desk desk' =
      (e : Exchange Turn) × (e.request ≡ request) × Handles e starved desk desk' × Says (text_in before e) line line'

  -- memory ran out before: no turn was kept, or that of the request
  abbrev pub IsStarved : Request → Line → Line → Desk Turn Told → Desk Turn Told → Type 0
  IsStarved request line line' desk desk' =
      (KeepsNone desk desk' ⊎ ((e : Exchange Turn) × (e.request ≡ request) × Takes e desk desk')) × Sends memory_text line line'

  -- its course was taken, and its response was written, whole or not, and what follows was done; or memory ran out
  abbrev pub AnswersBy : ℕ → Request → Option LinkEnd → Line → Line → Desk Turn Told → Desk Turn Told → Type 0
  AnswersBy before request None line line' desk desk' = IsTold before request false line line' desk desk' × (request.close ≡ false)
  AnswersBy before request (Some Closed) line line' desk desk' = IsTold before request false line line' desk desk' × (request.close ≡ true)
  AnswersBy before request (Some (Sent fault)) line line' desk desk' =
      (fault ≡ sends.Link)
      × ((e : Exchange Turn) × (e.request ≡ request) × Takes e desk desk' × IsResponse m rules e.course e.response × Breaks (text_in before e) line line')
  AnswersBy before request (Some Memory) line line' desk desk' =
      IsStarved request line line' desk desk' ⊎ IsTold before request true line line' desk desk'
  AnswersBy before request (Some End) line line' desk desk' = ⊥
  AnswersBy before request (Some Spent) line line' desk desk' = ⊥
  AnswersBy before request (Some (Http fault)) line line' desk desk' = ⊥

  pub record AnswersRequest (before : ℕ) (request : Request) (end : Option LinkEnd) (line line' : Line) (desk desk' : Desk Turn Told) : Type 0 where
    pub comes : AnswersBy before request end line line' desk desk'

  -- ---- what holds between two requests

  -- so many requests were answered, and the link goes on
  pub record Standing (count : ℕ) (old new : Moment Turn Told) : Type 0 where
    pub answered : List (Exchange Turn)
    pub counted : length answered ≡ count
    pub stay : StayOpen answered
    pub exchanges : Exchanges answered old new
