-- Where a reader stops, and the line that it gives, of any source.
use Rattle.std.proofs.Common.{◌≡◌, ℕ, ◌+◌, ◌-◌, ◌≤◌, ◌<◌, ◌⊎◌, true, false, List, [], ◌∷◌, ◌++◌, length, take, drop, Option, refl, sym, ◌∙◌, ap, subst, arith, length-append, append_assoc, append-nil, inl, inr, if◌then◌else◌}
use Rattle.std.specs.Prelude.{◌==◌, slice_index}
use Rattle.std.specs.Str.Lines.{strip_carriage_return}
use Rattle.std.proofs.lemmas.List.{length-take, nil_from_length}
use Rattle.std.proofs.lemmas.List.Elements.{All-append}
use Rattle.std.specs.Io.KnownBytes.{IsAtEnd, Keeps}
use Rattle.std.proofs.KnownBytes.{Keeps-refl}
use Rattle.sig_outside.specs.Held.{Holding, Draws, Grows}
use Rattle.sig_outside.specs.Lines.{HasNoLf, number_after}
use Rattle.sig_outside.specs.Reached.{HaltsWithin, Skips, Yields, IsCut, IsLineOf, IsLastOf}
use Rattle.sig_outside.specs.declared.line.Line.{Line}
use Rattle.sig_outside.specs.declared.line.Line.TheVariants.{Text, Long, End}
use Rattle.sig_outside.specs.declared.line.LineFault.{LineFault}
use Rattle.sig_outside.specs.declared.line.LineFault.TheVariants.{Failed, Endless, Memory}
use Rattle.sig_outside.proofs.HeldLemmas.{draws_then, draws_kept}

-- what was kept grew, has no LF, and no further piece came
pub halts_grown : (e : LineFault) (a b c : Holding) (l m n : Option (List ℕ)) → Grows a b l m → HasNoLf b.kept → c.taken ≡ b.taken → Keeps m n → HaltsWithin e a c l n
halts_grown Failed a b c l m n p h e k = record { draws = draws_kept a b c l m n p.draws e k; within = subst HasNoLf p.kept h }
halts_grown (Endless x) a b c l m n p h e k = record { draws = draws_kept a b c l m n p.draws e k; within = subst HasNoLf p.kept h }
halts_grown Memory a b c l m n p h e k = tt

-- what was let go has no LF, and no further piece came
pub halts_passed : (e : LineFault) (a b c : Holding) (l m n : Option (List ℕ)) → HasNoLf a.kept → (p : Draws a b l m) → HasNoLf p.more → c.taken ≡ b.taken → Keeps m n → HaltsWithin e a c l n
halts_passed Failed a b c l m n f p h e k = record { draws = draws_kept a b c l m n p e k; within = All-append (λ x. (x == 10) ≡ false) a.kept p.more f h }
halts_passed (Endless x) a b c l m n f p h e k = record { draws = draws_kept a b c l m n p e k; within = All-append (λ x. (x == 10) ≡ false) a.kept p.more f h }
halts_passed Memory a b c l m n f p h e k = tt

-- the stop came later than what was kept grew
pub halts_later : (e : LineFault) (a b c : Holding) (l m n : Option (List ℕ)) → Grows a b l m → HaltsWithin e b c m n → HaltsWithin e a c l n
halts_later Failed a b c l m n p h = record {
  draws = draws_then a b c l m n p.draws h.draws;
  within = subst HasNoLf (ap (λ x. x ++ h.draws.more) p.kept ∙ append_assoc a.kept p.draws.more h.draws.more) h.within;
}
halts_later (Endless x) a b c l m n p h = record {
  draws = draws_then a b c l m n p.draws h.draws;
  within = subst HasNoLf (ap (λ x. x ++ h.draws.more) p.kept ∙ append_assoc a.kept p.draws.more h.draws.more) h.within;
}
halts_later Memory a b c l m n p h = tt

-- the last piece of a line that was passed over has its LF
pub skips_newline : (a b c d : Holding) (l m n : Option (List ℕ)) (at : ℕ) (p : Draws a b l m) → HasNoLf p.more → (q : Draws b c m n) → c.kept ≡ q.more
    → HasNoLf (take at c.kept) → c.kept ≡ take at c.kept ++ 10 ∷ drop (at + 1) c.kept → d.kept ≡ drop (at + 1) c.kept → d.taken ≡ c.taken → Skips a d l n
skips_newline a b c d l m n at p h q e f cut rest same = record {
  draws = draws_kept a c d l n n (draws_then a b c l m n p q) same (Keeps-refl n);
  cut = inl (
    p.more ++ take at c.kept,
    ap (λ x. p.more ++ x) (sym e ∙ cut ∙ ap (λ x. take at c.kept ++ 10 ∷ x) (sym rest)) ∙ sym (append_assoc p.more (take at c.kept) (10 ∷ d.kept)),
    All-append (λ x. (x == 10) ≡ false) p.more (take at c.kept) h f,
  );
}

-- the input ends within a line that was passed over
pub skips_end : (a b c : Holding) (l m n : Option (List ℕ)) (p : Draws a b l m) → HasNoLf p.more → (q : Draws b c m n) → c.kept ≡ q.more → length q.more ≡ 0 → IsAtEnd n → Skips a c l n
skips_end a b c l m n p h q e none end =
    let empty : q.more ≡ [] = nil_from_length q.more none in
    record {
      draws = draws_then a b c l m n p q;
      cut = inr (e ∙ empty, subst HasNoLf (sym (append-nil p.more) ∙ ap (λ x. p.more ++ x) (sym empty)) h, end);
    }

-- without its CR a line is one byte shorter at most
pub strip_length : (bytes : List ℕ) → length bytes ≤ length (strip_carriage_return bytes) + 1
strip_length bytes =
    elim (slice_index bytes (length bytes - 1) == 13) as (λ b. length bytes ≤ length (if b then take (length bytes - 1) bytes else bytes) + 1) [
      | true ↦ omega (arith, length-take (length bytes - 1) bytes)
      | false ↦ omega arith
    ]

-- the line stands before a LF that is kept
pub yields_newline : (room before : ℕ) (line : Line) (a b c : Holding) (l m : Option (List ℕ)) (at : ℕ) → Grows a b l m → HasNoLf (take at b.kept)
    → b.kept ≡ take at b.kept ++ 10 ∷ drop (at + 1) b.kept → c.kept ≡ drop (at + 1) b.kept → c.taken ≡ b.taken → IsLineOf room before (strip_carriage_return (take at b.kept)) line → Yields room before line a c l m
yields_newline room before (Text number bytes) a b c l m at p h cut rest same q = record {
  draws = draws_kept a b c l m m p.draws same (Keeps-refl m);
  first = (q.0, subst (λ x. length x ≤ room) (sym q.1) q.2, inl (take at b.kept, sym p.kept ∙ cut ∙ ap (λ x. take at b.kept ++ 10 ∷ x) (sym rest), h, q.1));
}
yields_newline room before (Long number) a b c l m at p h cut rest same q = record {
  draws = draws_kept a b c l m m p.draws same (Keeps-refl m);
  first = (q.0, (strip_carriage_return (take at b.kept), q.1, inl (take at b.kept, sym p.kept ∙ cut ∙ ap (λ x. take at b.kept ++ 10 ∷ x) (sym rest), h, refl)));
}
yields_newline room before End a b c l m at p h cut rest same q = absurd q

-- the line stands before the end of the input
pub yields_last : (room before : ℕ) (line : Line) (a b c : Holding) (l m : Option (List ℕ)) → Grows a b l m → HasNoLf b.kept → IsAtEnd m
    → c.kept ≡ [] → c.taken ≡ b.taken → IsLastOf room before b.kept line → Yields room before line a c l m
yields_last room before (Text number bytes) a b c l m p h end rest same q = record {
  draws = draws_kept a b c l m m p.draws same (Keeps-refl m);
  first = (q.1, subst (λ x. length x ≤ room) (sym q.2) q.3, inr (sym p.kept ∙ sym q.2, rest, subst HasNoLf (sym q.2) h, subst (λ x. 0 < length x) (sym q.2) q.0, end));
}
yields_last room before (Long number) a b c l m p h end rest same q = record {
  draws = draws_kept a b c l m m p.draws same (Keeps-refl m);
  first = (q.1, (b.kept, q.2, inr (sym p.kept, rest, h, q.0, end)));
}
yields_last room before End a b c l m p h end rest same q = record {
  draws = draws_kept a b c l m m p.draws same (Keeps-refl m);
  first = (sym p.kept ∙ q, rest, end);
}

-- the line is over all room and was passed over
pub yields_over : (room before number : ℕ) (a b c : Holding) (l m n : Option (List ℕ)) → Grows a b l m → HasNoLf b.kept → room + 1 < length b.kept → number ≡ before + 1
    → Skips b c m n → Yields room before (Long number) a c l n
yields_over room before number a b c l m n p h long e q = record {
  draws = draws_then a b c l m n p.draws q.draws;
  first = (e, by_cut q.cut);
}
  where
    whole : a.kept ++ (p.draws.more ++ q.draws.more) ≡ b.kept ++ q.draws.more
    whole = sym (append_assoc a.kept p.draws.more q.draws.more) ∙ ap (λ x. x ++ q.draws.more) (sym p.kept)

    by_cut : (((front : List ℕ) × (q.draws.more ≡ front ++ 10 ∷ c.kept) × HasNoLf front) ⊎ ((c.kept ≡ []) × HasNoLf q.draws.more × IsAtEnd n))
        → (line : List ℕ) × (room < length line) × IsCut (a.kept ++ (p.draws.more ++ q.draws.more)) line c.kept n
    by_cut (inl k) = (
      strip_carriage_return (b.kept ++ k.0),
      omega (arith, strip_length (b.kept ++ k.0), length-append b.kept k.0),
      inl (b.kept ++ k.0, whole ∙ ap (λ x. b.kept ++ x) k.1 ∙ sym (append_assoc b.kept k.0 (10 ∷ c.kept)), All-append (λ x. (x == 10) ≡ false) b.kept k.0 h k.2, refl),
    )
    by_cut (inr k) = (
      b.kept ++ q.draws.more,
      omega (arith, length-append b.kept q.draws.more),
      inr (whole, k.0, All-append (λ x. (x == 10) ≡ false) b.kept q.draws.more h k.1, omega (arith, length-append b.kept q.draws.more), k.2),
    )

-- each line takes a byte at least
cut_counts : (a b : Holding) (l m : Option (List ℕ)) (p : Draws a b l m) (line : List ℕ) → IsCut (a.kept ++ p.more) line b.kept m → 1 + length b.kept + a.taken ≤ length a.kept + b.taken
cut_counts a b l m p line (inl k) = omega (arith, p.taken, length-append a.kept p.more, ap length k.1, length-append k.0 (10 ∷ b.kept))
cut_counts a b l m p line (inr k) = omega (arith, p.taken, length-append a.kept p.more, ap length k.0, ap length k.1, k.3)

pub yields_counts : (room before : ℕ) (line : Line) (a b : Holding) (l m : Option (List ℕ)) → Yields room before line a b l m
    → number_after before line + length b.kept + a.taken ≤ before + length a.kept + b.taken
yields_counts room before (Text number bytes) a b l m y = omega (arith, cut_counts a b l m y.draws bytes y.first.2)
yields_counts room before (Long number) a b l m y = omega (arith, cut_counts a b l m y.draws y.first.1.0 y.first.1.2)
yields_counts room before End a b l m y = omega (arith, y.draws.taken, ap length y.first.1)
