-- What is taken of a source, call after call.
use Rattle.std.proofs.Common.{◌≡◌, ℕ, ◌+◌, ◌≤◌, List, ◌++◌, [], length, take, drop, Option, sym, ◌∙◌, ap, arith, length-append, append_assoc, append-nil}
use Rattle.std.proofs.lemmas.List.{take-take, take_at, drop_at, take-append-le, take_all}
use Rattle.std.proofs.Math.Seq.{take-add}
use Rattle.std.specs.Io.KnownBytes.{Keeps}
use Rattle.std.proofs.KnownBytes.{Consumes-nil, Consumes-trans, Consumes-kept}
use Rattle.sig_outside.specs.Held.{Holding, IsPiece, HasPiece, Draws, Grows}

-- a piece behind what was kept
pub filled : (n ask : ℕ) (old : Holding) (front new : List ℕ) (taken : ℕ) (l m : Option (List ℕ)) → IsPiece n ask front new l m → front ≡ old.kept → taken ≡ old.taken
    → HasPiece n old (record { kept = new; taken = taken + n }) l m
filled n ask old front new taken l m p e f = record {
  grows = record {
    draws = record { more = p.more; gave = p.gave; taken = omega (arith, p.count) };
    kept = p.kept ∙ ap (λ x. x ++ p.more) e;
  };
  count = p.count;
  ends = p.ends;
}

-- what stands of a list that was made longer, written behind its old end, and cut
pub cut_back : (old whole piece behind rest new : List ℕ) (at k n len : ℕ) → new ≡ take (at + k) (take len ((take at whole ++ (piece ++ behind)) ++ rest)) → k ≡ n
    → length old ≡ at → take at whole ≡ old → n ≤ length piece → at + n ≤ len → new ≡ old ++ take n piece
cut_back old whole piece behind rest new at k n len e f same front fits short =
    e ∙ ap (λ x. take (at + x) (take len ((take at whole ++ (piece ++ behind)) ++ rest))) f
    ∙ take-take (at + n) len _ short
    ∙ ap (take (at + n)) (ap (λ x. (x ++ (piece ++ behind)) ++ rest) front ∙ append_assoc old (piece ++ behind) rest)
    ∙ take-add at n _
    ∙ ap (λ x. x ++ take n (drop at (old ++ ((piece ++ behind) ++ rest)))) (take_at old _ at same)
    ∙ ap (λ x. old ++ take n x) (drop_at old _ at same)
    ∙ ap (λ x. old ++ take n x) (append_assoc piece behind rest)
    ∙ ap (λ x. old ++ x) (take-append-le n piece (behind ++ rest) fits)

-- the front of a list that was made longer
pub front_of_longer : (old whole rest : List ℕ) (at long : ℕ) → length old ≡ at → at ≤ long → whole ≡ take long old ++ rest → take at whole ≡ old
front_of_longer old whole rest at long same fits e =
    ap (take at) (e ∙ ap (λ x. x ++ rest) (take_all long old (omega arith))) ∙ take_at old rest at same

abbrev pub draws_none : (a : Holding) (l : Option (List ℕ)) → Draws a a l l
draws_none a l = record { more = []; gave = Consumes-nil l; taken = omega arith }

abbrev pub draws_then : (a b c : Holding) (l m n : Option (List ℕ)) → Draws a b l m → Draws b c m n → Draws a c l n
draws_then a b c l m n p q = record {
  more = p.more ++ q.more;
  gave = Consumes-trans l m n p.more q.more p.gave q.gave;
  taken = omega (arith, p.taken, q.taken, length-append p.more q.more);
}

-- nothing further was taken
abbrev pub draws_kept : (a b c : Holding) (l m n : Option (List ℕ)) → Draws a b l m → c.taken ≡ b.taken → Keeps m n → Draws a c l n
draws_kept a b c l m n p e k = record { more = p.more; gave = Consumes-kept l m n p.more p.gave k; taken = e ∙ p.taken }

abbrev pub draws_after : (a b c : Holding) (l m : Option (List ℕ)) → Draws b c l m → b.taken ≡ a.taken → Draws a c l m
draws_after a b c l m p e = record { more = p.more; gave = p.gave; taken = p.taken ∙ ap (λ n. n + length p.more) e }

abbrev pub grows_none : (a : Holding) (l : Option (List ℕ)) → Grows a a l l
grows_none a l = record { draws = draws_none a l; kept = sym (append-nil a.kept) }

abbrev pub grows_then : (a b c : Holding) (l m n : Option (List ℕ)) → Grows a b l m → Grows b c m n → Grows a c l n
grows_then a b c l m n p q = record {
  draws = draws_then a b c l m n p.draws q.draws;
  kept = q.kept ∙ ap (λ x. x ++ q.draws.more) p.kept ∙ append_assoc a.kept p.draws.more q.draws.more;
}
