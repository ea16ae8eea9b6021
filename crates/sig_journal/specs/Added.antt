-- What a file shows while a record is added to it.
use Rattle.std.specs.Prelude.{◌≡◌, ◌⊎◌, ◌↔◌, ℕ, ◌≤◌, List, Bool, ◌||◌, ◌&&◌, nat_eq, nat_le, IsTrue, IsSomeAnd, MatchBool, Option, Some, None, Result, Ok, IsOk}
use Rattle.sig_outside.specs.Disk.{Stop}
use Rattle.sig_journal.specs.declared.kind.Kind.{Kind}
use Rattle.sig_journal.specs.declared.layout.TheConstants.{GATE_OPEN}
use Rattle.sig_journal.specs.Layout.{Content, content_of, end_of}
use Rattle.sig_journal.specs.Store.{add_record, gate_of}

-- an image of a file begins as before, and holds this
pub record Shows (kind : Kind) (before image : List ℕ) (content : Content) : Type 0 where
  pub begins : gate_of image ≡ gate_of before
  pub holds : content_of kind image ≡ Ok content

-- the bytes are a journal of this content that ends at this place
pub record IsJournal (kind : Kind) (bytes : List ℕ) (end : ℕ) (content : Content) : Type 0 where
  pub holds : content_of kind bytes ≡ Ok content
  pub ends : end ≡ end_of content

-- where the file was a journal, the image shows it as it was
abbrev pub ShowsBefore : List ℕ → ℕ → List ℕ → Type 0
ShowsBefore before end image = (kind : Kind) (content : Content) → IsJournal kind before end content → Shows kind before image content

-- where the file was a journal, the image shows it with the record
abbrev pub ShowsAfter : List ℕ → ℕ → List ℕ → List ℕ → Type 0
ShowsAfter before end payload image =
    (kind : Kind) (content : Content) → IsJournal kind before end content → Shows kind before image (add_record content payload)

-- where the file was a journal, the image shows it in one of the two ways
abbrev pub ShowsEither : List ℕ → ℕ → List ℕ → List ℕ → Type 0
ShowsEither before end payload image =
    (kind : Kind) (content : Content) → IsJournal kind before end content
    → (Shows kind before image content) ⊎ (Shows kind before image (add_record content payload))

-- a disk that stands still after so many calls rests with the record: all four were made, or the gate was being written and the fill opens it
abbrev pub rests_with_it : ℕ → ℕ → Bool
rests_with_it calls fill = nat_le 4 calls || (nat_eq calls 3 && nat_eq fill GATE_OPEN)

-- a disk that tells a stop, unless it gets short: the call succeeds exactly where four calls are left, and the image that the disk then rests with is one of these
abbrev pub RestsWith : {T E : Type 0} → (List ℕ → Type 0) → (List ℕ → Type 0) → Option Stop → Option Stop → Bool → Result T E → Type 0
RestsWith IsBefore IsAfter None new short result = new ≡ None
RestsWith IsBefore IsAfter (Some stop) new short result =
    IsTrue short ⊎ ((IsOk result ↔ (4 ≤ stop.calls)) × IsSomeAnd new (λ rest. MatchBool (rests_with_it stop.calls stop.fill) (IsAfter rest.image) (IsBefore rest.image)))
