-- A spelling that is read as one whole.
use Rattle.std.proofs.Common.{◌≡◌, ap, sym, ◌∙◌, refl, List, [], ◌∷◌, ◌++◌, ℕ, append-nil}
use Rattle.std.specs.Prelude.{Result, Ok, Err}
use Rattle.sig_fields.specs.Agreeing.{Agrees, AreBytes}
use Rattle.sig_fields.specs.Whole.{IsExact, whole, whole_after}
use Rattle.sig_fields.specs.declared.fault.DecodeFault.{DecodeFault}

same_value : {T : Type 0} (x y : T) → ◌≡◌ {A = Result T DecodeFault} (Ok x) (Ok y) → x ≡ y
same_value x y h = cc

read_all : {T : Type 0} (read : List ℕ → Result (T × List ℕ) (List ℕ)) (bytes : List ℕ) (x : T) → whole read bytes ≡ Ok x → read bytes ≡ Ok (x, [])
read_all {T = T} read bytes x h = at (read bytes) refl h
  where
    at : (r : Result (T × List ℕ) (List ℕ)) → read bytes ≡ r → whole_after bytes r ≡ Ok x → read bytes ≡ Ok (x, [])
    at (Ok (y, [])) is h = is ∙ ap (λ z. Ok (z, [])) (same_value y x h)
    at (Ok (y, b ∷ rest)) is h = cc
    at (Err from) is h = cc

left_over : {T : Type 0} (x y : T) (one two : List ℕ) → ◌≡◌ {A = Result (T × List ℕ) (List ℕ)} (Ok (x, one)) (Ok (y, two)) → one ≡ two
left_over {T = T} x y one two h =
    let p : ◌≡◌ {A = T × List ℕ} (x, one) (y, two) = cc in
    ap (λ (z : T × List ℕ). z.1) p

pub agrees_exact : {T : Type 0} (P : T → Type 0) (spelled : T → List ℕ) (read : List ℕ → Result (T × List ℕ) (List ℕ)) → Agrees P spelled read → IsExact P spelled (whole read)
agrees_exact {T = T} P spelled read agree = record { reads = reads; spells = spells; alone = alone }
  where
    at_end : (x : T) → P x → read (spelled x) ≡ Ok (x, [])
    at_end x proper = ap read (sym (append-nil (spelled x))) ∙ agree.reads x [] proper

    reads : (x : T) → P x → whole read (spelled x) ≡ Ok x
    reads x proper = ap (whole_after (spelled x)) (at_end x proper)

    spells : (bytes : List ℕ) (x : T) → AreBytes bytes → whole read bytes ≡ Ok x → P x × (bytes ≡ spelled x)
    spells bytes x are h =
        let s = agree.spells bytes x [] are (read_all read bytes x h) in
        (s.0, s.1 ∙ append-nil (spelled x))

    alone : (x y : T) (more : List ℕ) → P x → P y → spelled x ++ more ≡ spelled y → more ≡ []
    alone x y more one two same = left_over x y more [] (sym (agree.reads x more one) ∙ ap read same ∙ at_end y two)
