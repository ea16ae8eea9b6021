-- The words after the name of a command over settings and a store, and that they are no other command.
use Rattle.std.proofs.Common.{◌≡◌, ◌≢◌, ◌∙◌, ap, sym, ℕ, zero, ◌<◌, ◌^◌, List, [], ◌∷◌, map, length, get_or, Option, Some, None, Bool, true, false, bytes_eq, codes, refl, subst, inl, inr, arith, IfSome}
use Rattle.std.specs.Prelude.{String, string_bytes, Result, Ok, Err, nat_lt, ◌&&◌, if◌then◌else◌, option_and_then, option_map, slice_index}
use Rattle.std.specs.Result.{OkIff, result_ok}
use Rattle.std.specs.Str.{all_ascii_digits}
use Rattle.std.specs.Str.Parse.{ParsesUnsigned, digits_value}
use Rattle.std.specs.declared.alloc.Global.{Global}
use Rattle.std.proofs.lemmas.Bool.{lt-leb, lt-ltb}
use Rattle.std.proofs.lemmas.Bool.Decides.{leb_tells}
use Rattle.std.proofs.lemmas.Slice.Eq.{bytes_eq-Decides}
use Rattle.std.proofs.lemmas.Str.Parse.{IsNumeralModel, numerals_by_value, parse_plain, tells_all_ascii_digits}
use Rattle.sig_json.specs.declared.limits.TheConstants.{LAST_NUMBER}
use Rattle.sig_program.specs.Command.{command_of}
use Rattle.sig_program.specs.declared.command.Command.{Command}
use Rattle.sig_service.specs.Asking.{Asked, ServerAsked, StoreAsked, count_of, fetch_of, init_of, init_words, server_named, server_of, store_ask_of, store_words, within}
use Rattle.sig_service.specs.declared.asking.Server.{Server}
use Rattle.sig_service.specs.declared.asking.Server.TheVariants.{Transmitter, Receiver}

-- ---- how many watches or rounds

own : IsNumeralModel (λ ds. all_ascii_digits ds ≡ true) (digits_value 10)
own = numerals_by_value _ tells_all_ascii_digits

filled : (ds : List ℕ) → 48 < slice_index ds 0 → 0 < length ds
filled [] h = absurd (omega (arith, h))
filled (d ∷ ds) h = omega arith

-- what isn't parsed is no number up to the limit
unnumbered : (word : List ℕ) (first digits : Bool) → nat_lt 48 (slice_index word 0) ≡ first → all_ascii_digits word ≡ digits → 48 < slice_index word 0
    → ((all_ascii_digits word ≡ true) × (0 < length word) × (digits_value 10 word < 2 ^ 64) → ⊥)
    → None ≡ (if first && digits then within (digits_value 10 word) else None)
unnumbered word false digits a b begins none = refl
unnumbered word true false a b begins none = refl
unnumbered word true true a b begins none = sym (ap (λ t. if t then Some (digits_value 10 word) else None) (lt-leb (digits_value 10 word) LAST_NUMBER past))
  where
    past : LAST_NUMBER < digits_value 10 word
    past = elim (leb_tells (2 ^ 64) (digits_value 10 word)) [ inl p ↦ omega (arith, p.1) | inr p ↦ absurd (none (b, filled word begins, p.1)) ]

-- what is parsed of a word that begins with no zero and no sign, up to the limit
pub parsed_count : {E : Type 0} (word : List ℕ) (r : Result ℕ E) → 48 < slice_index word 0 → ParsesUnsigned 64 10 word r
    → option_and_then within (result_ok r) ≡ count_of word
parsed_count {E = E} word r begins h = at r (parse_plain own 64 word r h (λ e. omega (arith, begins, e)))
  where
    at : (r : Result ℕ E) → OkIff r ((all_ascii_digits word ≡ true) × (0 < length word) × (digits_value 10 word < 2 ^ 64)) (digits_value 10 word)
        → option_and_then within (result_ok r) ≡ count_of word
    at (Ok n) p = ap within p.1 ∙ sym (rw (lt-ltb 48 (slice_index word 0) begins, p.0.0) refl)
    at (Err e) none = unnumbered word (nat_lt 48 (slice_index word 0)) (all_ascii_digits word) refl refl begins none

-- ---- three words

pub store_three : (words : List (String Global)) (a b c : String Global) → length words ≡ 3 → a ≡ get_or words 0 a → b ≡ get_or words 1 b → c ≡ get_or words 2 c
    → store_ask_of (string_bytes a) (string_bytes b) (string_bytes c) ≡ store_words (map (λ word. string_bytes word) words)
store_three [] a b c three one two last = absurd (omega arith)
store_three (x ∷ []) a b c three one two last = absurd (omega arith)
store_three (x ∷ y ∷ []) a b c three one two last = absurd (omega arith)
store_three (x ∷ y ∷ z ∷ []) a b c three one two last = rw (one, two, last) refl
store_three (x ∷ y ∷ z ∷ w ∷ words) a b c three one two last = absurd (omega arith)

pub store_others : (words : List (String Global)) → length words ≢ 3 → None ≡ store_words (map (λ word. string_bytes word) words)
store_others [] other = refl
store_others (x ∷ []) other = refl
store_others (x ∷ y ∷ []) other = refl
store_others (x ∷ y ∷ z ∷ []) other = absurd (other refl)
store_others (x ∷ y ∷ z ∷ w ∷ words) other = refl

-- ---- words that ask for one command ask for no other

-- what a server's words name is no other command's name
server_apart : (name : List ℕ) (words : List (List ℕ)) (server : Server) → server_named name ≡ Some server
    → (command_of (name ∷ words) ≡ None) × (init_of (name ∷ words) ≡ None) × (fetch_of (name ∷ words) ≡ None)
server_apart name words server h =
    elim (bytes_eq name (codes "serve")) as (λ b. bytes_eq name (codes "serve") ≡ b
    → (if b then Some Transmitter else if bytes_eq name (codes "receive") then Some Receiver else None) ≡ Some server
    → (command_of (name ∷ words) ≡ None) × (init_of (name ∷ words) ≡ None) × (fetch_of (name ∷ words) ≡ None)) [
      | true ↦ λ is found. at name words (codes "serve") ((bytes_eq-Decides name (codes "serve")).0 is) (refl, refl, refl)
      | false ↦ λ not found. receive name words server found
    ] refl h
  where
    at : (name : List ℕ) (words : List (List ℕ)) (word : List ℕ) → name ≡ word
        → (command_of (word ∷ words) ≡ None) × (init_of (word ∷ words) ≡ None) × (fetch_of (word ∷ words) ≡ None)
        → (command_of (name ∷ words) ≡ None) × (init_of (name ∷ words) ≡ None) × (fetch_of (name ∷ words) ≡ None)
    at name words word is h = rw is h

    receive : (name : List ℕ) (words : List (List ℕ)) (server : Server) → (if bytes_eq name (codes "receive") then Some Receiver else None) ≡ Some server
        → (command_of (name ∷ words) ≡ None) × (init_of (name ∷ words) ≡ None) × (fetch_of (name ∷ words) ≡ None)
    receive name words server h =
        elim (bytes_eq name (codes "receive")) as (λ b. bytes_eq name (codes "receive") ≡ b → (if b then Some Receiver else None) ≡ Some server
        → (command_of (name ∷ words) ≡ None) × (init_of (name ∷ words) ≡ None) × (fetch_of (name ∷ words) ≡ None)) [
          | true ↦ λ is found. at name words (codes "receive") ((bytes_eq-Decides name (codes "receive")).0 is) (refl, refl, refl)
          | false ↦ λ not found. absurd (cc)
        ] refl h

pub server_alone : (words : List (List ℕ)) (ask : ServerAsked) → Some ask ≡ server_of words → (command_of words ≡ None) × (init_of words ≡ None) × (fetch_of words ≡ None)
server_alone [] ask h = absurd cc
server_alone (name ∷ words) ask h =
    elim (server_named name) as (λ o. server_named name ≡ o → Some ask ≡ option_and_then (λ s. option_map (λ o. record { server = s; over = o }) (store_words words)) o
    → (command_of (name ∷ words) ≡ None) × (init_of (name ∷ words) ≡ None) × (fetch_of (name ∷ words) ≡ None)) [
      | None ↦ λ not found. absurd (cc)
      | Some server ↦ λ is found. server_apart name words server is
    ] refl h

fetch_named : (name : List ℕ) (words : List (List ℕ)) → name ≡ codes "fetch"
    → (command_of (name ∷ words) ≡ None) × (init_of (name ∷ words) ≡ None) × (server_of (name ∷ words) ≡ None)
fetch_named name words is = rw is (refl, refl, refl)

pub fetch_alone : (words : List (List ℕ)) (ask : StoreAsked) → Some ask ≡ fetch_of words → (command_of words ≡ None) × (init_of words ≡ None) × (server_of words ≡ None)
fetch_alone [] ask h = absurd cc
fetch_alone (name ∷ words) ask h =
    elim (bytes_eq name (codes "fetch")) as (λ b. bytes_eq name (codes "fetch") ≡ b → Some ask ≡ (if b then store_words words else None)
    → (command_of (name ∷ words) ≡ None) × (init_of (name ∷ words) ≡ None) × (server_of (name ∷ words) ≡ None)) [
      | true ↦ λ is found. fetch_named name words ((bytes_eq-Decides name (codes "fetch")).0 is)
      | false ↦ λ not found. absurd (cc)
    ] refl h

init_named : (name : List ℕ) (words : List (List ℕ)) → name ≡ codes "init" → fetch_of (name ∷ words) ≡ None
init_named name words is = rw is refl

pub init_alone : (words : List (List ℕ)) (ask : Asked) → Some ask ≡ init_of words → fetch_of words ≡ None
init_alone [] ask h = refl
init_alone (name ∷ words) ask h =
    elim (bytes_eq name (codes "init")) as (λ b. bytes_eq name (codes "init") ≡ b → Some ask ≡ (if b then init_words words else None) → fetch_of (name ∷ words) ≡ None) [
      | true ↦ λ is found. init_named name words ((bytes_eq-Decides name (codes "init")).0 is)
      | false ↦ λ not found. absurd (cc)
    ] refl h

-- ---- what words ask for

pub given_some : {A : Type 0} (x : A) (o : Option A) → Some x ≡ o → o ≡ None → ⊥
given_some x o is none = cc

pub given_none : {A : Type 0} (x : A) (o : Option A) → None ≡ o → o ≡ Some x → ⊥
given_none x o none is = cc

pub given_told : {A : Type 0} (x : A) (o : Option A) (P : A → Type 0) → Some x ≡ o → P x → IfSome o P
given_told {A = A} x o P is h = subst (λ (y : Option A). IfSome y P) is h

pub given_absent : {A : Type 0} (o : Option A) (P : A → Type 0) → None ≡ o → IfSome o P
given_absent {A = A} o P is = subst (λ (y : Option A). IfSome y P) is tt

pub given_same : {A : Type 0} (x y : A) (o : Option A) → Some x ≡ o → o ≡ Some y → x ≡ y
given_same x y o a b = cc
