-- The words after the name of `manage`, and that they are no other command.
use Rattle.std.proofs.Common.{◌≡◌, ◌≢◌, sym, ℕ, List, [], ◌∷◌, map, length, get_or, Option, Some, None, true, false, bytes_eq, codes, refl, arith}
use Rattle.std.proofs.lemmas.Slice.Eq.{bytes_eq-Decides}
use Rattle.std.specs.Prelude.{String, string_bytes, if◌then◌else◌}
use Rattle.std.specs.declared.alloc.Global.{Global}
use Rattle.sig_program.specs.Command.{command_of}
use Rattle.sig_service.specs.Asking.{courier_of, fetch_of, filled, init_of, manage_of, manage_words, server_of}

pub manage_one : (words : List (String Global)) (a : String Global) → length words ≡ 1 → a ≡ get_or words 0 a
    → filled (string_bytes a) ≡ manage_words (map (λ word. string_bytes word) words)
manage_one [] a one first = absurd (omega arith)
manage_one (x ∷ []) a one first = rw first refl
manage_one (x ∷ y ∷ words) a one first = absurd (omega arith)

pub manage_others : (words : List (String Global)) → length words ≢ 1 → None ≡ manage_words (map (λ word. string_bytes word) words)
manage_others [] other = refl
manage_others (x ∷ []) other = absurd (other refl)
manage_others (x ∷ y ∷ words) other = refl

-- words that ask for `manage` are no other command
manage_named : (name : List ℕ) (words : List (List ℕ)) → name ≡ codes "manage"
    → (command_of (name ∷ words) ≡ None) × (init_of (name ∷ words) ≡ None) × (server_of (name ∷ words) ≡ None) × (fetch_of (name ∷ words) ≡ None) × (courier_of (name ∷ words) ≡ None)
manage_named name words is = rw is (refl, refl, refl, refl, refl)

pub manage_alone : (words : List (List ℕ)) (settings : List ℕ) → Some settings ≡ manage_of words
    → (command_of words ≡ None) × (init_of words ≡ None) × (server_of words ≡ None) × (fetch_of words ≡ None) × (courier_of words ≡ None)
manage_alone [] settings h = absurd cc
manage_alone (name ∷ words) settings h =
    elim (bytes_eq name (codes "manage")) as (λ b. bytes_eq name (codes "manage") ≡ b → Some settings ≡ (if b then manage_words words else None)
    → (command_of (name ∷ words) ≡ None) × (init_of (name ∷ words) ≡ None) × (server_of (name ∷ words) ≡ None) × (fetch_of (name ∷ words) ≡ None) × (courier_of (name ∷ words) ≡ None)) [
      | true ↦ λ is found. manage_named name words ((bytes_eq-Decides name (codes "manage")).0 is)
      | false ↦ λ not found. absurd (cc)
    ] refl h
