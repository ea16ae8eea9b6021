-- What stands after the first words of a line is no longer than the line.
use Rattle.std.proofs.Common.{◌≡◌, subst, ℕ, ◌+◌, ◌≤◌, List, Bool, true, false, Option, Some, None, length, if◌then◌else◌, arith}
use Rattle.std.specs.Prelude.{IfSome, nat_lt, option_and_then, option_map}
use Rattle.std.specs.List.{after_first, before_first, position_or_len}
use Rattle.std.proofs.lemmas.List.{length-drop}
use Rattle.sig_script.specs.Cutting.{Cut, Names, client_cut, cut_at_space, is_client, is_space, named_both, named_client, named_stream, names, names_cut, stream_cut}

-- a cut or names whose rest is no longer
abbrev IsShort : ℕ → Cut → Type 0
IsShort n c = length c.rest ≤ n

shorter : (m n : ℕ) (o : Option Cut) → m ≤ n → IfSome o (IsShort m) → IfSome o (IsShort n)
shorter m n None le h = tt
shorter m n (Some c) le h = omega arith

short_if : (t : Bool) (n : ℕ) (c : Cut) → IsShort n c → IfSome (if t then Some c else None) (IsShort n)
short_if true n c h = h
short_if false n c h = tt

short_then : (n : ℕ) (f : Cut → Option Cut) (o : Option Cut) → ((c : Cut) → IsShort n c → IfSome (f c) (IsShort n)) → IfSome o (IsShort n)
    → IfSome (option_and_then f o) (IsShort n)
short_then n f None each h = tt
short_then n f (Some c) each h = each c h

cut_is : (text : List ℕ) → IfSome (cut_at_space text) (IsShort (length text))
cut_is text =
    short_if (nat_lt (position_or_len is_space text) (length text)) (length text)
    (record { word = before_first is_space text; rest = after_first is_space text }) (omega (arith, length-drop (position_or_len is_space text + 1) text))

client_is : (text : List ℕ) → IfSome (client_cut text) (IsShort (length text))
client_is text =
    short_then (length text) named_client (cut_at_space text) (λ c h. short_if (is_client c.word) (length text) c h) (cut_is text)

stream_is : (text : List ℕ) → IfSome (stream_cut text) (IsShort (length text))
stream_is text =
    short_then (length text) named_stream (cut_at_space text) (λ c h. short_if (nat_lt 0 (length c.word)) (length text) c h) (cut_is text)

names_is : (n : ℕ) (o : Option Cut) → IfSome o (IsShort n) → IfSome (option_and_then named_both o) (λ m. length m.rest ≤ n)
names_is n None h = tt
names_is n (Some c) h =
    elim (stream_cut c.rest) as (λ o. IfSome o (IsShort (length c.rest)) → IfSome (option_map (names c.word) o) (λ m. length m.rest ≤ n)) [
      | None ↦ λ k. tt
      | Some d ↦ λ k. omega arith
    ] (stream_is c.rest)

pub cut_short : (text : List ℕ) (c : Cut) → cut_at_space text ≡ Some c → length c.rest ≤ length text
cut_short text c is = subst (λ o. IfSome o (IsShort (length text))) is (cut_is text)

pub client_short : (text : List ℕ) (c : Cut) → client_cut text ≡ Some c → length c.rest ≤ length text
client_short text c is = subst (λ o. IfSome o (IsShort (length text))) is (client_is text)

pub names_short : (text : List ℕ) (n : Names) → names_cut text ≡ Some n → length n.rest ≤ length text
names_short text n is =
    subst (λ o. IfSome o (λ m. length m.rest ≤ length text)) is (names_is (length text) (client_cut text) (client_is text))
