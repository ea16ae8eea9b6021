-- What is written to a link, and how it ends.
use Rattle.std.specs.Prelude.{◌≡◌, ◌≢◌, ℕ, List, Result, Ok, Err, ⊤}
use Rattle.sig_http.specs.declared.fault.HttpFault.{HttpFault}
use Rattle.sig_http.specs.declared.fault.HttpFault.TheVariants as faults
use Rattle.sig_http.specs.declared.fault.SendFault.TheVariants as sends
use Rattle.sig_serving.specs.Texts.{memory_text, refusal_text}
use Rattle.sig_serving.specs.Line.{Line, Says, Breaks, Sends}
use Rattle.sig_serving.specs.declared.link_end.LinkEnd.{LinkEnd}
use Rattle.sig_serving.specs.declared.link_end.LinkEnd.TheVariants.{End, Spent, Closed, Http, Sent, Memory}

-- a link that ends while this is written: a write failed, or memory ran out
abbrev pub EndsWriting : List ℕ → LinkEnd → Line → Line → Type 0
EndsWriting text (Sent fault) old new = (fault ≡ sends.Link) × Breaks text old new
EndsWriting text Memory old new = Sends memory_text old new
EndsWriting text End old new = ⊥
EndsWriting text Spent old new = ⊥
EndsWriting text Closed old new = ⊥
EndsWriting text (Http fault) old new = ⊥

abbrev pub RespondsBy : List ℕ → Result ⊤ LinkEnd → Line → Line → Type 0
RespondsBy text (Ok x) old new = Says text old new
RespondsBy text (Err end) old new = EndsWriting text end old new

-- a response was written whole, or the link ends
pub record Responds (text : List ℕ) (result : Result ⊤ LinkEnd) (old new : Line) : Type 0 where
  pub comes : RespondsBy text result old new

abbrev pub ClosesBy : List ℕ → HttpFault → LinkEnd → Line → Line → Type 0
ClosesBy text fault (Http told) old new = (told ≡ fault) × Sends text old new
ClosesBy text fault Memory old new = Sends memory_text old new
ClosesBy text fault End old new = ⊥
ClosesBy text fault Spent old new = ⊥
ClosesBy text fault Closed old new = ⊥
ClosesBy text fault (Sent told) old new = ⊥

-- how a link ends that is closed with this text for a fault
pub record ClosesWith (text : List ℕ) (fault : HttpFault) (end : LinkEnd) (old new : Line) : Type 0 where
  pub comes : ClosesBy text fault end old new

-- how a link ends whose request isn't read for this fault: memory ran out, or the response to the fault was written
pub record IsRefusal (fault : HttpFault) (end : LinkEnd) (old new : Line) : Type 0 where
  pub closes : ClosesBy (refusal_text fault) fault end old new
  pub other : end ≡ Http fault → fault ≢ faults.Memory
