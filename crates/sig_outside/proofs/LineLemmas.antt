-- The lines of bytes, and what a line that was given says of them.
use Rattle.std.proofs.Common.{◌≡◌, ℕ, ◌<◌, false, List, [], ◌∷◌, ◌++◌, length, Option, refl, sym, ◌∙◌, ap, arith, inl, inr, if◌then◌else◌}
use Rattle.std.specs.Prelude.{◌==◌, ◌||◌}
use Rattle.std.specs.List.{slice_split}
use Rattle.std.specs.Str.Lines.{strip_carriage_return, lines_of_parts, lines}
use borrow.Author.Tests.{ne_eqb}
use Rattle.std.proofs.lemmas.List.Elements.{All-head, All-tail}
use Rattle.std.proofs.lemmas.List.Splits.{slice_split_at, slice_split_none, length-slice_split}
use Rattle.sig_outside.specs.Reading.{Reading}
use Rattle.sig_outside.specs.Lines.{HasNoLf, has_lf, Cuts, Gives}
use Rattle.sig_outside.specs.declared.line.Line.TheVariants.{Text, Long, End}

-- there is none among bytes of which none is one
pub has_lf_none : (bytes : List ℕ) → HasNoLf bytes → has_lf bytes ≡ false
has_lf_none [] h = refl
has_lf_none (b ∷ bytes) h = ap (λ t. t || has_lf bytes) (All-head (λ x. (x == 10) ≡ false) b bytes h) ∙ has_lf_none bytes (All-tail (λ x. (x == 10) ≡ false) b bytes h)

lines_of_more : (x : List ℕ) (parts : List (List ℕ)) → 0 < length parts → lines_of_parts (x ∷ parts) ≡ strip_carriage_return x ∷ lines_of_parts parts
lines_of_more x [] h = absurd (omega arith)
lines_of_more x (y ∷ more) h = refl

-- the first line stands before the first LF
pub lines_first : (front rest : List ℕ) → HasNoLf front → lines (front ++ 10 ∷ rest) ≡ strip_carriage_return front ∷ lines rest
lines_first front rest h =
    ap lines_of_parts (slice_split_at (λ b. b == 10) front 10 rest h refl)
    ∙ lines_of_more front (slice_split (λ b. b == 10) rest) (omega (arith, length-slice_split (λ b. b == 10) rest))

lines_last : (line : List ℕ) → HasNoLf line → 0 < length line → lines line ≡ line ∷ []
lines_last [] h l = absurd (omega arith)
lines_last (b ∷ line) h l =
    ap lines_of_parts (slice_split_none (λ x. x == 10) (b ∷ line) h) ∙ ap (λ t. if t then [] else (b ∷ line) ∷ []) (ne_eqb (length (b ∷ line)) 0 (λ e. omega arith))

-- what is cut off is the first line, and the lines of the rest follow
pub cuts_lines : (bytes line rest : List ℕ) → Cuts bytes line rest → lines bytes ≡ line ∷ lines rest
cuts_lines bytes line rest (inl k) = ap lines k.1 ∙ lines_first k.0 rest k.2 ∙ ap (λ x. x ∷ lines rest) (sym k.3)
cuts_lines bytes line rest (inr k) = ap lines k.0 ∙ lines_last line k.2 k.3 ∙ ap (λ x. line ∷ lines x) (sym k.1)

-- a text that was given is the first line
pub gives_text : (room number : ℕ) (bytes : List ℕ) (old new : Reading) (left : List ℕ) (left' : Option (List ℕ)) → (given : Gives room (Text number bytes) old new left left')
    → lines (old.kept ++ left) ≡ bytes ∷ lines (new.kept ++ given.took.after)
gives_text room number bytes old new left left' given = cuts_lines (old.kept ++ left) bytes (new.kept ++ given.took.after) given.first.2

-- a line that was passed over is the first line, and over the room
pub gives_long : (room number : ℕ) (old new : Reading) (left : List ℕ) (left' : Option (List ℕ)) → (given : Gives room (Long number) old new left left')
    → (line : List ℕ) × (room < length line) × (lines (old.kept ++ left) ≡ line ∷ lines (new.kept ++ given.took.after))
gives_long room number old new left left' given =
    let cut = given.first.1 in
    (cut.0, cut.1, cuts_lines (old.kept ++ left) cut.0 (new.kept ++ given.took.after) cut.2)

-- at the end there is no line
pub gives_end : (room : ℕ) (old new : Reading) (left : List ℕ) (left' : Option (List ℕ)) → Gives room End old new left left' → lines (old.kept ++ left) ≡ []
gives_end room old new left left' given = ap lines given.first.0
