-- The words that name nodes.
use Rattle.std.specs.Prelude.{ℕ, List, [], ◌∷◌, codes}
use Rattle.sig_script.specs.declared.script_node.ScriptNode.{ScriptNode}
use Rattle.sig_script.specs.declared.script_node.ScriptNode.TheVariants.{Tx, Rx}

-- the text of a node
unfoldable pub node_text : ScriptNode → List ℕ
node_text Tx = codes "tx"
node_text Rx = codes "rx"

-- both
unfoldable pub nodes : List ScriptNode
nodes = Tx ∷ Rx ∷ []
