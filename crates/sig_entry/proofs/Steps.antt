-- Fields that are read one after another.
use Rattle.std.proofs.Common.{◌≡◌, ◌∙◌, ap, sym, ℕ, List, ◌++◌, append_assoc}
use Rattle.std.specs.Prelude.{Result}
use Rattle.sig_fields.specs.Agreeing.{Agrees}
use Rattle.sig_fields.specs.Reading.{next_after, ◌>>=◌}
use Rattle.sig_fields.proofs.Agreeing.{joined_spelling, then_reads}

-- a field before others
pub read_first : {A B : Type 0} (P : A → Type 0) (spelled : A → List ℕ) (read : List ℕ → Result (A × List ℕ) (List ℕ)) → Agrees P spelled read
    → (x : A) → P x → (next : A → List ℕ → Result (B × List ℕ) (List ℕ)) (more rest : List ℕ) (told : Result (B × List ℕ) (List ℕ))
    → next x (more ++ rest) ≡ told → (read >>= next) ((spelled x ++ more) ++ rest) ≡ told
read_first P spelled read agree x proper next more rest told is = then_reads P spelled read agree x proper next more rest ∙ is

-- the last field
pub read_last : {A B : Type 0} (P : A → Type 0) (spelled : A → List ℕ) (read : List ℕ → Result (A × List ℕ) (List ℕ)) → Agrees P spelled read
    → (x : A) → P x → (next : A → List ℕ → Result (B × List ℕ) (List ℕ)) (rest : List ℕ) (told : Result (B × List ℕ) (List ℕ))
    → next x rest ≡ told → (read >>= next) (spelled x ++ rest) ≡ told
read_last P spelled read agree x proper next rest told is = ap (λ r. next_after r next) (agree.reads x rest proper) ∙ is

-- ---- spellings of so many fields

pub of_3 : (a b c : List ℕ) → (a ++ b) ++ c ≡ a ++ (b ++ c)
of_3 a b c = append_assoc a b c

pub of_4 : (a b c d : List ℕ) → ((a ++ b) ++ c) ++ d ≡ a ++ (b ++ (c ++ d))
of_4 a b c d = append_assoc (a ++ b) c d ∙ of_3 a b (c ++ d)

pub of_5 : (a b c d e : List ℕ) → (((a ++ b) ++ c) ++ d) ++ e ≡ a ++ (b ++ (c ++ (d ++ e)))
of_5 a b c d e = append_assoc ((a ++ b) ++ c) d e ∙ of_4 a b c (d ++ e)

pub of_6 : (a b c d e f : List ℕ) → ((((a ++ b) ++ c) ++ d) ++ e) ++ f ≡ a ++ (b ++ (c ++ (d ++ (e ++ f))))
of_6 a b c d e f = append_assoc (((a ++ b) ++ c) ++ d) e f ∙ of_5 a b c d (e ++ f)

pub of_7 : (a b c d e f g : List ℕ) → (((((a ++ b) ++ c) ++ d) ++ e) ++ f) ++ g ≡ a ++ (b ++ (c ++ (d ++ (e ++ (f ++ g)))))
of_7 a b c d e f g = append_assoc ((((a ++ b) ++ c) ++ d) ++ e) f g ∙ of_6 a b c d e (f ++ g)

pub of_8 : (a b c d e f g h : List ℕ) → ((((((a ++ b) ++ c) ++ d) ++ e) ++ f) ++ g) ++ h ≡ a ++ (b ++ (c ++ (d ++ (e ++ (f ++ (g ++ h))))))
of_8 a b c d e f g h = append_assoc (((((a ++ b) ++ c) ++ d) ++ e) ++ f) g h ∙ of_7 a b c d e f (g ++ h)

-- ---- bytes that are spelled part by part

pub spelled_4 : (bytes a k b l c m d n : List ℕ) → bytes ≡ a ++ k → k ≡ b ++ l → l ≡ c ++ m → m ≡ d ++ n → bytes ≡ (((a ++ b) ++ c) ++ d) ++ n
spelled_4 bytes a k b l c m d n one two three four =
    joined_spelling bytes ((a ++ b) ++ c) m d n (joined_spelling bytes (a ++ b) l c m (joined_spelling bytes a k b l one two) three) four

pub spelled_after : (bytes first mid d n f x rest : List ℕ) → bytes ≡ first ++ mid → mid ≡ (((d ++ n) ++ f) ++ x) ++ rest → bytes ≡ ((((first ++ d) ++ n) ++ f) ++ x) ++ rest
spelled_after bytes first mid d n f x rest one two =
    joined_spelling bytes first mid (((d ++ n) ++ f) ++ x) rest one two
    ∙ ap (λ (l : List ℕ). l ++ rest) (ap (λ (l : List ℕ). first ++ l) (of_4 d n f x) ∙ sym (of_5 first d n f x))
