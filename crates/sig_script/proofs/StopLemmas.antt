-- What stands after the words of a stop is no longer than the line, and at most four calls are named.
use Rattle.std.proofs.Common.{◌≡◌, subst, ℕ, ◌-◌, ◌≤◌, ◌∷◌, [], List, Bool, true, false, Option, Some, None, length, refl, arith}
use Rattle.std.specs.Prelude.{IfSome, nat_le, ◌&&◌, if◌then◌else◌}
use Rattle.std.proofs.lemmas.Bool.{and_parts, leb-true}
use Rattle.sig_script.specs.Cutting.{Cut, cut_at_space}
use Rattle.sig_script.specs.Stopping.{Stopping, byte_of, calls_of, node_of, stopping, stopping_of, then_byte, then_calls, with_byte, with_calls, with_node}
use Rattle.sig_script.specs.declared.script_node.ScriptNode.{ScriptNode}
use Rattle.sig_script.proofs.CutLemmas.{cut_short}
use Rattle.sig_script.proofs.Optional.{some_map, some_then, some_where, there}

-- at most four calls
few : (word : List ℕ) → IfSome (calls_of word) (λ n. n ≤ 4)
few [] = tt
few (b ∷ []) = some_where (λ n. n ≤ 4) (nat_le 48 b && nat_le b 52) (Some (b - 48))
    (λ is. let high : b ≤ 52 = leb-true b 52 (and_parts (nat_le 48 b) (nat_le b 52) is).1 in omega (arith, high))
few (b ∷ c ∷ bs) = tt

-- the line is no longer than this, and the calls are few
abbrev IsShort : ℕ → Stopping → Type 0
IsShort n s = (length s.line ≤ n) × (s.calls ≤ 4)

byte_is : (n calls : ℕ) (node : ScriptNode) (c : Cut) → length c.rest ≤ n → calls ≤ 4 → IfSome (with_byte node calls c) (IsShort n)
byte_is n calls node c short few = some_map (IsShort n) (stopping node calls c.rest) (byte_of c.word) (λ fill is. (short, few))

then_byte_is : (n calls : ℕ) (node : ScriptNode) (rest : List ℕ) → length rest ≤ n → calls ≤ 4 → IfSome (then_byte node rest calls) (IsShort n)
then_byte_is n calls node rest short few = some_then (IsShort n) (with_byte node calls) (cut_at_space rest)
    (λ c is. byte_is n calls node c (omega (arith, cut_short rest c is)) few)

calls_is : (n : ℕ) (node : ScriptNode) (c : Cut) → length c.rest ≤ n → IfSome (with_calls node c) (IsShort n)
calls_is n node c short = some_then (IsShort n) (then_byte node c.rest) (calls_of c.word)
    (λ calls is. then_byte_is n calls node c.rest short (there (λ k. k ≤ 4) (calls_of c.word) calls (few c.word) is))

then_calls_is : (n : ℕ) (node : ScriptNode) (rest : List ℕ) → length rest ≤ n → IfSome (then_calls rest node) (IsShort n)
then_calls_is n node rest short = some_then (IsShort n) (with_calls node) (cut_at_space rest)
    (λ c is. calls_is n node c (omega (arith, cut_short rest c is)))

node_is : (n : ℕ) (c : Cut) → length c.rest ≤ n → IfSome (with_node c) (IsShort n)
node_is n c short = some_then (IsShort n) (then_calls c.rest) (node_of c.word) (λ node is. then_calls_is n node c.rest short)

stopping_is : (text : List ℕ) → IfSome (stopping_of text) (IsShort (length text))
stopping_is text = some_then (IsShort (length text)) with_node (cut_at_space text) (λ c is. node_is (length text) c (cut_short text c is))

pub stopping_short : (text : List ℕ) (s : Stopping) → stopping_of text ≡ Some s → length s.line ≤ length text
stopping_short text s is = (there (IsShort (length text)) (stopping_of text) s (stopping_is text) is).0

pub stopping_calls : (text : List ℕ) (s : Stopping) → stopping_of text ≡ Some s → s.calls ≤ 4
stopping_calls text s is = (there (IsShort (length text)) (stopping_of text) s (stopping_is text) is).1
