-- What the readers of a head section and of a body answer, of any source.
use Rattle.std.specs.Prelude.{◌≡◌, ℕ, ◌≤◌, ◌<◌, List, [], ◌++◌, length, Option, Some, None}
use Rattle.std.specs.Io.KnownBytes.{Consumes, IsAtEnd}
use Rattle.sig_http.specs.Faults.{OnFault}
use Rattle.sig_http.specs.Message.{Whole, Broken, Unfinished, body_of}
use Rattle.sig_http.specs.Section.{start, section_from}
use Rattle.sig_http.specs.declared.section.Scan.{Scan}
use Rattle.sig_http.specs.declared.section.Section.TheVariants.{Open, Ended, Long}
use Rattle.sig_http.specs.declared.fault.HttpFault.{HttpFault}
use Rattle.sig_http.specs.declared.fault.HttpFault.TheVariants as faults
use Rattle.sig_http.specs.declared.framing.Framing.{Framing}
use Rattle.sig_http.specs.declared.framing.Framing.TheVariants as framings
use Rattle.sig_http.specs.declared.body.Body.{Body}

-- ---- a head section

-- what is held begins with a section of so many bytes, or there is nothing at all
abbrev pub TakesSection : Option ℕ → List ℕ → Option (List ℕ) → Type 0
TakesSection (Some n) held left' = (section_from start held ≡ Ended n) × (n ≤ length held)
TakesSection None held left' = (held ≡ []) × IsAtEnd left'

-- what is held, to the end of the source, is a part of a section
pub record CutsSection (held : List ℕ) (left' : Option (List ℕ)) : Type 0 where
  pub scan : Scan
  pub is : section_from start held ≡ Open scan
  pub some : 0 < length held
  pub ends : IsAtEnd left'

-- why no section is taken
abbrev pub StopsSection : HttpFault → List ℕ → Option (List ℕ) → Type 0
StopsSection fault held left' = OnFault fault (CutsSection held left') ((fault ≡ faults.HeadLong) × (section_from start held ≡ Long))

-- ---- a body

-- the length of a body is within the limit
abbrev pub IsWithin : ℕ → Framing → Type 0
IsWithin limit (framings.Length n) = n ≤ limit
IsWithin limit framings.Chunks = Unit {0}
IsWithin limit framings.End = Unit {0}

-- a body to the end of the source is taken to that
abbrev pub EndsWithSource : Framing → Option (List ℕ) → Type 0
EndsWithSource (framings.Length n) left' = Unit {0}
EndsWithSource framings.Chunks left' = Unit {0}
EndsWithSource framings.End left' = IsAtEnd left'

-- what was held and taken is this body and the bytes after it
pub record EndsBody (limit : ℕ) (framing : Framing) (held : List ℕ) (body : Body) (left left' : Option (List ℕ)) : Type 0 where
  pub more : List ℕ
  pub gave : Consumes left left' more
  pub is : body_of limit framing (held ++ more) ≡ Whole body.content.items body.rest.items
  pub ends : EndsWithSource framing left'

-- what was held and taken decides this fault
pub record BreaksBody (limit : ℕ) (framing : Framing) (held : List ℕ) (fault : HttpFault) (left left' : Option (List ℕ)) : Type 0 where
  pub more : List ℕ
  pub gave : Consumes left left' more
  pub is : body_of limit framing (held ++ more) ≡ Broken fault

-- what was held and taken, to the end of the source, decides nothing
pub record CutsBody (limit : ℕ) (framing : Framing) (held : List ℕ) (left left' : Option (List ℕ)) : Type 0 where
  pub more : List ℕ
  pub gave : Consumes left left' more
  pub is : body_of limit framing (held ++ more) ≡ Unfinished
  pub ends : IsAtEnd left'

-- why no body is given
abbrev pub StopsBody : ℕ → Framing → List ℕ → HttpFault → Option (List ℕ) → Option (List ℕ) → Type 0
StopsBody limit framing held fault left left' = OnFault fault (CutsBody limit framing held left left') (BreaksBody limit framing held fault left left')
