-- A body that is read piece by piece.
use Rattle.std.proofs.Common.{◌≡◌, ◌≤◌, ◌<◌, ℕ, List, [], ◌∷◌, ◌++◌, inr, length, take, drop, Option, refl, sym, ◌∙◌, ap, append_assoc, arith, if◌then◌else◌}
use Rattle.std.specs.Io.KnownBytes.{Consumes, IsAtEnd}
use Rattle.std.proofs.lemmas.Bool.{le-leb, lt-leb}
use Rattle.std.proofs.KnownBytes.{Consumes-trans}
use Rattle.sig_http.proofs.ChunkLemmas.{chunks_stand}
use Rattle.sig_http.specs.Pieces.{Draws}
use Rattle.sig_http.specs.Chunks.{Stands, Holds, Fails, chunks_from, first}
use Rattle.sig_http.specs.Message.{Whole, Broken, Unfinished, body_of, outcome_of}
use Rattle.sig_http.specs.Bodies.{EndsBody, BreaksBody, CutsBody}
use Rattle.sig_http.specs.Taking.{IsAwaited, IsOpenBody, Takes}
use Rattle.sig_http.specs.declared.limits.TheConstants.{PIECE_BYTES}
use Rattle.sig_http.proofs.TakingLemmas.{piece_few}
use Rattle.sig_http.specs.declared.body.Body.{Body}
use Rattle.sig_http.specs.declared.fault.HttpFault.{HttpFault}
use Rattle.sig_http.specs.declared.fault.HttpFault.TheVariants as faults
use Rattle.sig_http.specs.declared.framing.Framing.TheVariants as framings
use Rattle.sig_http.specs.declared.chunks.Standing.{Standing}

-- no byte is none
length-zero : (bytes : List ℕ) → length bytes ≡ 0 → bytes ≡ []
length-zero [] e = refl
length-zero (b ∷ bytes) e = absurd (omega arith)

-- ---- by length

-- enough bytes were taken
pub length_ends : (limit n : ℕ) (held all : List ℕ) (body : Body) (l m : Option (List ℕ)) → Draws held all l m → n ≤ length all
    → body.content.items ≡ take n all → body.rest.items ≡ drop n all → EndsBody limit (framings.Length n) held body l m
length_ends limit n held all body l m p enough content rest = record {
  more = p.more;
  gave = p.gave;
  is = ap (body_of limit (framings.Length n)) (sym p.stands)
      ∙ ap (λ b. if b then Whole (take n all) (drop n all) else Unfinished) (le-leb n (length all) enough)
      ∙ ap (λ c. Whole c (drop n all)) (sym content) ∙ ap (Whole body.content.items) (sym rest);
  ends = tt;
}

-- too few were
pub length_open : (n : ℕ) (bytes : List ℕ) → length bytes < n → IsOpenBody 0 (framings.Length n) bytes
length_open n bytes short = ap (λ b. if b then Whole (take n bytes) (drop n bytes) else Unfinished) (lt-leb n (length bytes) short)

-- the source ended before
pub length_cut : (limit n : ℕ) (held all : List ℕ) (l m : Option (List ℕ)) → Draws held all l m → length all < n → IsAtEnd m → CutsBody limit (framings.Length n) held l m
length_cut limit n held all l m p short ends = record {
  more = p.more;
  gave = p.gave;
  is = ap (body_of limit (framings.Length n)) (sym p.stands)
      ∙ ap (λ b. if b then Whole (take n all) (drop n all) else Unfinished) (lt-leb n (length all) short);
  ends = ends;
}

-- ---- to the end of the source

pub end_ends : (limit : ℕ) (held : List ℕ) (body : Body) (l m : Option (List ℕ)) → Draws held body.content.items l m → length body.content.items ≤ limit
    → IsAtEnd m → body.rest.items ≡ [] → EndsBody limit framings.End held body l m
end_ends limit held body l m p few ends rest = record {
  more = p.more;
  gave = p.gave;
  is = ap (body_of limit framings.End) (sym p.stands)
      ∙ ap (λ b. if b then Whole body.content.items [] else Broken faults.BodyLong) (le-leb (length body.content.items) limit few)
      ∙ ap (Whole body.content.items) (sym rest);
  ends = ends;
}

pub end_breaks : (limit : ℕ) (held all : List ℕ) (l m : Option (List ℕ)) → Draws held all l m → limit < length all → BreaksBody limit framings.End held faults.BodyLong l m
end_breaks limit held all l m p many = record {
  more = p.more;
  gave = p.gave;
  is = ap (body_of limit framings.End) (sym p.stands)
      ∙ ap (λ b. if b then Whole all [] else Broken faults.BodyLong) (lt-leb (length all) limit many);
}

-- ---- by chunks

-- what was taken so far says what the held bytes say from where the body stands
pub record Chunking (limit : ℕ) (held : List ℕ) (standing : Standing) (content now : List ℕ) (l m : Option (List ℕ)) : Type 0 where
  pub more : List ℕ
  pub gave : Consumes l m more
  pub told : chunks_from limit (first limit) [] (held ++ more) ≡ chunks_from limit standing content now
  pub awaited : IsAwaited (IsOpenBody limit framings.Chunks) held more

-- a further piece
pub chunking_on : (limit : ℕ) (held : List ℕ) (standing next : Standing) (content so_far now piece : List ℕ) (l m n : Option (List ℕ)) → Chunking limit held standing content now l m
    → chunks_from limit standing content now ≡ Stands next so_far → Draws [] piece m n → length piece ≤ PIECE_BYTES → Chunking limit held next so_far piece l n
chunking_on limit held standing next content so_far now piece l m n p stands draws few = record {
  more = p.more ++ draws.more;
  gave = Consumes-trans l m n p.more draws.more p.gave draws.gave;
  told = ap (chunks_from limit (first limit) []) (sym (append_assoc held p.more draws.more))
      ∙ chunks_stand limit (first limit) next [] so_far (held ++ p.more) draws.more (p.told ∙ stands)
      ∙ ap (chunks_from limit next so_far) (sym draws.stands);
  awaited = inr (p.more, draws.more, refl, piece_few [] piece m n draws few, ap outcome_of (p.told ∙ stands));
}

-- what was taken so far was taken while the body was open
pub chunking_takes : (limit : ℕ) (held : List ℕ) (standing : Standing) (content now : List ℕ) (l m : Option (List ℕ)) → Chunking limit held standing content now l m → Takes (IsOpenBody limit framings.Chunks) held l m
chunking_takes limit held standing content now l m p = record { more = p.more; gave = p.gave; awaited = p.awaited }

pub chunks_end : (limit place : ℕ) (held : List ℕ) (standing : Standing) (content now : List ℕ) (body : Body) (l m : Option (List ℕ)) → Chunking limit held standing content now l m
    → chunks_from limit standing content now ≡ Holds body.content.items (drop place now) → body.rest.items ≡ drop place now → EndsBody limit framings.Chunks held body l m
chunks_end limit place held standing content now body l m p holds rest = record {
  more = p.more;
  gave = p.gave;
  is = ap outcome_of (p.told ∙ holds) ∙ ap (Whole body.content.items) (sym rest);
  ends = tt;
}

pub chunks_break : (limit : ℕ) (held : List ℕ) (standing : Standing) (content now : List ℕ) (fault : HttpFault) (l m : Option (List ℕ)) → Chunking limit held standing content now l m
    → chunks_from limit standing content now ≡ Fails fault → BreaksBody limit framings.Chunks held fault l m
chunks_break limit held standing content now fault l m p fails = record { more = p.more; gave = p.gave; is = ap outcome_of (p.told ∙ fails) }

pub chunks_cut : (limit : ℕ) (held : List ℕ) (standing next : Standing) (content so_far now piece : List ℕ) (l m n : Option (List ℕ)) → Chunking limit held standing content now l m
    → chunks_from limit standing content now ≡ Stands next so_far → Draws [] piece m n → length piece ≡ 0 → IsAtEnd n → CutsBody limit framings.Chunks held l n
chunks_cut limit held standing next content so_far now piece l m n p stands draws none ends =
    let q = chunking_on limit held standing next content so_far now piece l m n p stands draws (omega (arith, none)) in
    record {
      more = q.more;
      gave = q.gave;
      is = ap outcome_of (q.told ∙ ap (chunks_from limit next so_far) (length-zero piece none));
      ends = ends;
    }
