-- The words after the name of `init`, and that they are no other command.
use Rattle.std.proofs.Common.{◌≡◌, ◌≢◌, sym, ℕ, List, [], ◌∷◌, map, length, get_or, Some, None, true, false, bytes_eq, codes, refl, arith, if◌then◌else◌}
use Rattle.std.proofs.lemmas.Slice.Eq.{bytes_eq-Decides}
use Rattle.std.specs.Prelude.{String, string_bytes}
use Rattle.std.specs.declared.alloc.Global.{Global}
use Rattle.sig_program.specs.Command.{command_of}
use Rattle.sig_program.specs.declared.command.Command.{Command}
use Rattle.sig_service.specs.Asking.{Asked, ask_of, init_of, init_words}

pub of_three : (words : List (String Global)) (a b c : String Global) → length words ≡ 3 → a ≡ get_or words 0 a → b ≡ get_or words 1 b → c ≡ get_or words 2 c
    → ask_of (string_bytes a) (string_bytes b) (string_bytes c) ≡ init_words (map (λ word. string_bytes word) words)
of_three [] a b c three one two last = absurd (omega arith)
of_three (x ∷ []) a b c three one two last = absurd (omega arith)
of_three (x ∷ y ∷ []) a b c three one two last = absurd (omega arith)
of_three (x ∷ y ∷ z ∷ []) a b c three one two last = rw (one, two, last) refl
of_three (x ∷ y ∷ z ∷ w ∷ words) a b c three one two last = absurd (omega arith)

pub of_others : (words : List (String Global)) → length words ≢ 3 → None ≡ init_words (map (λ word. string_bytes word) words)
of_others [] other = refl
of_others (x ∷ []) other = refl
of_others (x ∷ y ∷ []) other = refl
of_others (x ∷ y ∷ z ∷ []) other = absurd (other refl)
of_others (x ∷ y ∷ z ∷ w ∷ words) other = refl

-- words that ask for `init` are no other command
named : (name : List ℕ) (words : List (List ℕ)) → name ≡ codes "init" → command_of (name ∷ words) ≡ None
named name words is = rw is refl

pub no_other : (words : List (List ℕ)) (ask : Asked) → init_of words ≡ Some ask → command_of words ≡ None
no_other [] ask h = refl
no_other (name ∷ words) ask h =
    elim (bytes_eq name (codes "init")) as (λ b. bytes_eq name (codes "init") ≡ b → (if b then init_words words else None) ≡ Some ask → command_of (name ∷ words) ≡ None) [
      | true ↦ λ is found. named name words ((bytes_eq-Decides name (codes "init")).0 is)
      | false ↦ λ not found. absurd (cc)
    ] refl h

-- then they are no other command
pub asked_alone : (words : List (List ℕ)) (ask : Asked) (command : Command) → Some ask ≡ init_of words → command_of words ≡ Some command → ⊥
asked_alone words ask command is other = let none = no_other words ask (sym is) in cc
