-- The words after the name of `courier`, and that they are no other command.
use Rattle.std.proofs.Common.{◌≡◌, ◌≢◌, sym, ℕ, List, [], ◌∷◌, map, length, get_or, Option, Some, None, true, false, bytes_eq, codes, refl, arith}
use Rattle.std.proofs.lemmas.Slice.Eq.{bytes_eq-Decides}
use Rattle.std.specs.Prelude.{String, string_bytes, if◌then◌else◌}
use Rattle.std.specs.declared.alloc.Global.{Global}
use Rattle.sig_program.specs.Command.{command_of}
use Rattle.sig_service.specs.Asking.{CourierAsked, ServerAsked, courier_ask_of, courier_of, courier_words, fetch_of, init_of, server_of}

pub courier_two : (words : List (String Global)) (a b : String Global) → length words ≡ 2 → a ≡ get_or words 0 a → b ≡ get_or words 1 b
    → courier_ask_of (string_bytes a) (string_bytes b) ≡ courier_words (map (λ word. string_bytes word) words)
courier_two [] a b two one last = absurd (omega arith)
courier_two (x ∷ []) a b two one last = absurd (omega arith)
courier_two (x ∷ y ∷ []) a b two one last = rw (one, last) refl
courier_two (x ∷ y ∷ z ∷ words) a b two one last = absurd (omega arith)

pub courier_others : (words : List (String Global)) → length words ≢ 2 → None ≡ courier_words (map (λ word. string_bytes word) words)
courier_others [] other = refl
courier_others (x ∷ []) other = refl
courier_others (x ∷ y ∷ []) other = absurd (other refl)
courier_others (x ∷ y ∷ z ∷ words) other = refl

-- words that ask for `courier` are no other command
courier_named : (name : List ℕ) (words : List (List ℕ)) → name ≡ codes "courier"
    → (command_of (name ∷ words) ≡ None) × (init_of (name ∷ words) ≡ None) × (server_of (name ∷ words) ≡ None) × (fetch_of (name ∷ words) ≡ None)
courier_named name words is = rw is (refl, refl, refl, refl)

pub courier_alone : (words : List (List ℕ)) (ask : CourierAsked) → Some ask ≡ courier_of words
    → (command_of words ≡ None) × (init_of words ≡ None) × (server_of words ≡ None) × (fetch_of words ≡ None)
courier_alone [] ask h = absurd cc
courier_alone (name ∷ words) ask h =
    elim (bytes_eq name (codes "courier")) as (λ b. bytes_eq name (codes "courier") ≡ b → Some ask ≡ (if b then courier_words words else None)
    → (command_of (name ∷ words) ≡ None) × (init_of (name ∷ words) ≡ None) × (server_of (name ∷ words) ≡ None) × (fetch_of (name ∷ words) ≡ None)) [
      | true ↦ λ is found. courier_named name words ((bytes_eq-Decides name (codes "courier")).0 is)
      | false ↦ λ not found. absurd (cc)
    ] refl h

none_of : (words : List (List ℕ)) (o : Option CourierAsked) → courier_of words ≡ o → ((ask : CourierAsked) → Some ask ≡ courier_of words → ⊥) → o ≡ None
none_of words None is not = refl
none_of words (Some ask) is not = absurd (not ask (sym is))

-- and words that ask for a server don't ask for it
pub server_not_courier : (words : List (List ℕ)) (ask : ServerAsked) → Some ask ≡ server_of words → courier_of words ≡ None
server_not_courier words ask h = none_of words (courier_of words) refl (λ other is. let alone = courier_alone words other is in apart (server_of words) h alone.2)
  where
    apart : (o : Option ServerAsked) → Some ask ≡ o → o ≡ None → ⊥
    apart o a b = cc
