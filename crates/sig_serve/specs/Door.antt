-- A node at a door.
use Rattle.std.specs.Prelude.{Bool}
use Rattle.sig_history.specs.Owed.{Sum}
use Rattle.sig_txnode.specs.Node.{NodeView, files_told}
use Rattle.sig_links.specs.Views.{DoorView}
use Rattle.sig_opening.specs.Watches.{Standing, standing}

-- what a run has of a node and a door between two watches
abbrev pub with_door : {D : Type 0} → (D → Bool) → NodeView D → DoorView → Standing Sum
with_door told node door = standing node.state (files_told told node) door
