-- the best of the reports that were counted
use Rattle.std.specs.Prelude.{Option, Some, None, List, [], ◌∷◌}
use Rattle.xt_base.specs.declared.ids.NodeId.{NodeId}
use Rattle.xt_messages.specs.declared.file.FileHead.{FileHead}
use Rattle.xt_protocol.specs.Choice.{chosen_of}

-- none where there is none
abbrev pub best_report : NodeId → List (NodeId × FileHead) → Option (NodeId × FileHead)
best_report own [] = None
best_report own (first ∷ others) = Some (chosen_of own first others)
