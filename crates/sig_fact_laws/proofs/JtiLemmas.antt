-- An identifier says its stream and number: what stands after its last dot is the number.
use Rattle.std.proofs.Common.{◌≡◌, ◌∙◌, ap, sym, subst, ℕ, ◌≤◌, List, [], ◌∷◌, ◌++◌, Bool, true, false, ◌==◌, codes, decimal, refl, arith, append_assoc}
use Rattle.std.specs.List.{list_any}
use Rattle.std.specs.Str.Parse.{AllDigits}
use Rattle.std.proofs.lemmas.Bool.{ne_eqb, or_from, or_right}
use Rattle.std.proofs.lemmas.Fmt.{decimal_injective, decimal_is_IsNumeral}
use Rattle.std.proofs.lemmas.List.{append_cancel_left}
use Rattle.std.proofs.lemmas.List.Folds.{list_any-append}
use Rattle.uuid.specs.Text.{hyphenated_text, lower}
use Rattle.sig_json.specs.declared.limits.TheConstants.{LAST_NUMBER}
use Rattle.sig_history.specs.Streams.{jti_of}

abbrev dot : ℕ
dot = 46

abbrev has_dot : List ℕ → Bool
has_dot bs = list_any (λ b. b == dot) bs

no_dot : (ds : List ℕ) → AllDigits 10 ds → has_dot ds ≡ false
no_dot [] digits = refl
no_dot (d ∷ ds) digits =
    or_from (d == dot) (has_dot ds)
    (ne_eqb d dot (λ is. let low = subst (λ c. AllDigits 10 (c ∷ ds)) is digits in let k = low.0 in omega arith))
    (no_dot ds digits.1)

dotted : (b y : List ℕ) → has_dot (b ++ dot ∷ y) ≡ true
dotted b y = list_any-append (λ c. c == dot) b (dot ∷ y) ∙ or_right (has_dot b) true refl

last_dot : (a b x y : List ℕ) → has_dot x ≡ false → has_dot y ≡ false → a ++ dot ∷ x ≡ b ++ dot ∷ y → (a ≡ b) × (x ≡ y)
last_dot [] [] x y none_x none_y is = (refl, cc)
last_dot [] (c ∷ b) x y none_x none_y is =
    let rest : x ≡ b ++ dot ∷ y = cc in
    let clash : true ≡ false = sym (dotted b y) ∙ ap has_dot (sym rest) ∙ none_x in cc clash
last_dot (c ∷ a) [] x y none_x none_y is =
    let rest : a ++ dot ∷ x ≡ y = cc in
    let clash : true ≡ false = sym (dotted a x) ∙ ap has_dot rest ∙ none_y in cc clash
last_dot (c ∷ a) (d ∷ b) x y none_x none_y is =
    let first : c ≡ d = cc in
    let rest : a ++ dot ∷ x ≡ b ++ dot ∷ y = cc in
    let both = last_dot a b x y none_x none_y rest in
    (ap (λ h. h ∷ a) first ∙ ap (λ l. d ∷ l) both.0, both.1)

decimal_dotless : (n : ℕ) → n ≤ LAST_NUMBER → has_dot (decimal n) ≡ false
decimal_dotless n low = no_dot (decimal n) (decimal_is_IsNumeral n (omega arith)).0.1

-- identifiers of one store are the same only where their streams and numbers are
pub jti_says : (sid s t : List ℕ) (m n : ℕ) → m ≤ LAST_NUMBER → n ≤ LAST_NUMBER → jti_of sid s m ≡ jti_of sid t n → (s ≡ t) × (m ≡ n)
jti_says sid s t m n low_m low_n is =
    let front : List ℕ = hyphenated_text lower sid ++ codes "." in
    let cut : (front ++ s) ++ dot ∷ decimal m ≡ (front ++ t) ++ dot ∷ decimal n =
    sym (append_assoc (front ++ s) (codes ".") (decimal m)) ∙ is ∙ append_assoc (front ++ t) (codes ".") (decimal n) in
    let both = last_dot (front ++ s) (front ++ t) (decimal m) (decimal n) (decimal_dotless m low_m) (decimal_dotless n low_n) cut in
    (append_cancel_left front s t both.0, decimal_injective m n (omega arith) (omega arith) both.1)
