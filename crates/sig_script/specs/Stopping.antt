-- What a line says of a node that stands still: `<tx or rx> <calls> <byte>`, and the line that is played meanwhile.
use Rattle.std.specs.Prelude.{ℕ, ◌+◌, ◌-◌, ◌*◌, List, [], ◌∷◌, ◌&&◌, Option, Some, None, nat_le, option_and_then, option_map, if◌then◌else◌}
use Rattle.sig_json.specs.Listed.{listed}
use Rattle.sig_script.specs.Cutting.{Cut, cut_at_space}
use Rattle.sig_script.specs.Nodes.{node_text, nodes}
use Rattle.sig_script.specs.Numbers.{is_digit}
use Rattle.sig_script.specs.declared.script_node.ScriptNode.{ScriptNode}

-- which node's disk stands still, after how many of its calls, what it rests with in each byte that isn't synced, and the line
pub record Stopping : Type 0 where
  pub node : ScriptNode
  pub calls : ℕ
  pub fill : ℕ
  pub line : List ℕ

-- the node that a word is
abbrev pub node_of : List ℕ → Option ScriptNode
node_of word = listed node_text nodes word

-- the number of calls that a word is: one digit from 0 to 4
abbrev pub calls_of : List ℕ → Option ℕ
calls_of [] = None
calls_of (b ∷ []) = if nat_le 48 b && nat_le b 52 then Some (b - 48) else None
calls_of (b ∷ c ∷ bs) = None

-- the number of a hexadecimal digit; letters are in lower case
abbrev pub hex_of : ℕ → Option ℕ
hex_of b = if is_digit b then Some (b - 48) else if nat_le 97 b && nat_le b 102 then Some (b - 87) else None

-- the byte of two such digits, the greater first
abbrev pub byte_by : ℕ → ℕ → Option ℕ
byte_by low high = option_map (λ n. high * 16 + n) (hex_of low)

abbrev pub byte_of : List ℕ → Option ℕ
byte_of [] = None
byte_of (a ∷ []) = None
byte_of (a ∷ b ∷ []) = option_and_then (byte_by b) (hex_of a)
byte_of (a ∷ b ∷ c ∷ bs) = None

abbrev pub stopping : ScriptNode → ℕ → List ℕ → ℕ → Stopping
stopping node calls line fill = record { node = node; calls = calls; fill = fill; line = line }

abbrev pub with_byte : ScriptNode → ℕ → Cut → Option Stopping
with_byte node calls c = option_map (stopping node calls c.rest) (byte_of c.word)

abbrev pub then_byte : ScriptNode → List ℕ → ℕ → Option Stopping
then_byte node rest calls = option_and_then (with_byte node calls) (cut_at_space rest)

abbrev pub with_calls : ScriptNode → Cut → Option Stopping
with_calls node c = option_and_then (then_byte node c.rest) (calls_of c.word)

abbrev pub then_calls : List ℕ → ScriptNode → Option Stopping
then_calls rest node = option_and_then (with_calls node) (cut_at_space rest)

abbrev pub with_node : Cut → Option Stopping
with_node c = option_and_then (then_calls c.rest) (node_of c.word)

-- the three words in their order, and the line after them
abbrev pub stopping_of : List ℕ → Option Stopping
stopping_of text = option_and_then with_node (cut_at_space text)
