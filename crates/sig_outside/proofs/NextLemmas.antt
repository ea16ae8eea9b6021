-- What a reader of lines is once a line or a fault came, where the source tells what is left.
use Rattle.std.proofs.Common.{◌≡◌, ℕ, ◌+◌, ◌≤◌, length, List, ◌∷◌, ◌++◌, Option, None, Some, IfSome, Result, Ok, Err, IfOk, IfErr, OnErr, refl, sym, ◌∙◌, ap, subst, arith, append_assoc, append-nil, inl, inr}
use Rattle.sig_outside.specs.Held.{Holding}
use Rattle.sig_outside.specs.Reading.{Reading}
use Rattle.sig_outside.specs.Lines.{Cuts, IsFirst, Gives, Stops}
use Rattle.sig_outside.specs.Reached.{Within, HaltsWithin, Yields, IsCut, IsNext}
use Rattle.sig_outside.specs.Modes.{number_once}
use Rattle.sig_outside.specs.declared.mode.Mode.{Mode}
use Rattle.sig_outside.specs.declared.line.Line.{Line}
use Rattle.sig_outside.specs.declared.line.Line.TheVariants.{Text, Long, End}
use Rattle.sig_outside.specs.declared.line.LineFault.{LineFault}
use Rattle.sig_outside.specs.declared.line.LineFault.TheVariants.{Failed, Endless}
use Rattle.sig_outside.proofs.ReachLemmas.{yields_counts}

cuts_told : (kept more after line rest left : List ℕ) → left ≡ more ++ after → IsCut (kept ++ more) line rest (Some after) → Cuts (kept ++ left) line (rest ++ after)
cuts_told kept more after line rest left e (inl k) = inl (
  k.0,
  ap (λ x. kept ++ x) e ∙ sym (append_assoc kept more after) ∙ ap (λ x. x ++ after) k.1 ∙ append_assoc k.0 (10 ∷ rest) after,
  k.2,
  k.3,
)
cuts_told kept more after line rest left e (inr k) = inr (
  ap (λ x. kept ++ x) e ∙ sym (append_assoc kept more after) ∙ ap (λ x. x ++ after) k.0 ∙ ap (λ x. line ++ x) k.4 ∙ append-nil line,
  ap (λ x. x ++ after) k.1 ∙ k.4,
  k.2,
  k.3,
)

first_told : (room before : ℕ) (line : Line) (kept more after rest left : List ℕ) → left ≡ more ++ after → IsNext room before line (kept ++ more) rest (Some after)
    → IsFirst room before line (kept ++ left) (rest ++ after)
first_told room before (Text number bytes) kept more after rest left e y = (y.0, y.1, cuts_told kept more after bytes rest left e y.2)
first_told room before (Long number) kept more after rest left e y = (y.0, (y.1.0, y.1.1, cuts_told kept more after y.1.0 rest left e y.1.2))
first_told room before End kept more after rest left e y =
    (ap (λ x. kept ++ x) e ∙ sym (append_assoc kept more after) ∙ ap (λ x. x ++ after) y.0 ∙ y.2, ap (λ x. x ++ after) y.1 ∙ y.2)

-- what a reader that holds this is seen as
abbrev pub reading : Holding → ℕ → Mode → Reading
reading h number mode = record { kept = h.kept; number = number; taken = h.taken; mode = mode }

pub gives_told : (room before after : ℕ) (line : Line) (mode mode' : Mode) (a b : Holding) (l m : Option (List ℕ)) → Yields room before line a b l m
    → IfSome l (λ left. Gives room line (reading a before mode) (reading b after mode') left m)
gives_told room before after line mode mode' a b None m y = tt
gives_told room before after line mode mode' a b (Some left) None y = absurd y.draws.gave
gives_told room before after line mode mode' a b (Some left) (Some rest) y = record {
  took = record { more = y.draws.more; after = rest; told = refl; parts = y.draws.gave; taken = y.draws.taken };
  first = first_told room before line a.kept y.draws.more rest b.kept left y.draws.gave y.first;
}

pub stops_told : (before after : ℕ) (mode mode' : Mode) (a b : Holding) (l m : Option (List ℕ)) → Within a b l m
    → IfSome l (λ left. Stops (reading a before mode) (reading b after mode') left m)
stops_told before after mode mode' a b None m w = tt
stops_told before after mode mode' a b (Some left) None w = absurd w.draws.gave
stops_told before after mode mode' a b (Some left) (Some rest) w = record {
  took = record { more = w.draws.more; after = rest; told = refl; parts = w.draws.gave; taken = w.draws.taken };
  within = w.within;
}

-- no more lines were given than bytes that are kept no more
pub next_counts : (room before : ℕ) (r : Result Line LineFault) (a b : Holding) (l m : Option (List ℕ)) → IfOk r (λ line. Yields room before line a b l m)
    → OnErr r (length b.kept + a.taken ≤ length a.kept + b.taken) → before + length a.kept ≤ a.taken → number_once before r + length b.kept ≤ b.taken
next_counts room before (Ok line) a b l m y room' h = omega (arith, yields_counts room before line a b l m y)
next_counts room before (Err e) a b l m y room' h = omega arith

pub next_gives : (room before number : ℕ) (r : Result Line LineFault) (mode mode' : Mode) (a b : Holding) (l m : Option (List ℕ)) (old : Reading)
    → IfOk r (λ line. Yields room before line a b l m) → reading a before mode ≡ old → IfOk r (λ line. IfSome l (λ left. Gives room line old (reading b number mode') left m))
next_gives room before number (Ok line) mode mode' a b l m old y e =
    subst (λ (x : Reading). IfSome l (λ left. Gives room line x (reading b number mode') left m)) e (gives_told room before number line mode mode' a b l m y)
next_gives room before number (Err e) mode mode' a b l m old y h = tt

stops_of : (before number : ℕ) (mode mode' : Mode) (a b : Holding) (l m : Option (List ℕ)) (old : Reading) → Within a b l m → reading a before mode ≡ old
    → IfSome l (λ left. Stops old (reading b number mode') left m)
stops_of before number mode mode' a b l m old w e =
    subst (λ (x : Reading). IfSome l (λ left. Stops x (reading b number mode') left m)) e (stops_told before number mode mode' a b l m w)

pub next_fails : (before number : ℕ) (r : Result Line LineFault) (mode mode' : Mode) (a b : Holding) (l m : Option (List ℕ)) (old : Reading)
    → IfErr r (λ e. HaltsWithin e a b l m) → r ≡ Err Failed → reading a before mode ≡ old → IfSome l (λ left. Stops old (reading b number mode') left m)
next_fails before number r mode mode' a b l m old w h e =
    stops_of before number mode mode' a b l m old (subst (λ (x : Result Line LineFault). IfErr x (λ f. HaltsWithin f a b l m)) h w) e

pub next_ends : (n before number : ℕ) (r : Result Line LineFault) (mode mode' : Mode) (a b : Holding) (l m : Option (List ℕ)) (old : Reading)
    → IfErr r (λ e. HaltsWithin e a b l m) → r ≡ Err (Endless n) → reading a before mode ≡ old → IfSome l (λ left. Stops old (reading b number mode') left m)
next_ends n before number r mode mode' a b l m old w h e =
    stops_of before number mode mode' a b l m old (subst (λ (x : Result Line LineFault). IfErr x (λ f. HaltsWithin f a b l m)) h w) e
