-- which of the heads that were reported is chosen, and which bodies are wanted then
use Rattle.std.specs.Prelude.{Bool, ◌&&◌, ◌||◌, ◌==◌, nat_lt, not, List, filter}
use Rattle.std.specs.List.{best_of}
use Rattle.xt_base.specs.declared.ids.NodeId.{NodeId}
use Rattle.xt_messages.specs.declared.file.ObjectVersion.{ObjectVersion}
use Rattle.xt_messages.specs.declared.file.FileHead.{FileHead}
use Rattle.xt_protocol.specs.Stamps.{is_stamp, is_below, has_version}

-- whether the first report is better: a greater stamp; among equal ones the own node's, and then the least node's
abbrev pub is_better : NodeId → NodeId × FileHead → NodeId × FileHead → Bool
is_better own a b =
    is_below b.1.stamp a.1.stamp
    || is_stamp b.1.stamp a.1.stamp && not (b.0.0 == own.0) && (a.0.0 == own.0 || nat_lt a.0.0 b.0.0)

-- Head chosen: the best of the reports, the first of which is given apart.
unfoldable pub chosen_of : NodeId → NodeId × FileHead → List (NodeId × FileHead) → NodeId × FileHead
chosen_of own first others = best_of (is_better own) first others

-- the versions that are wanted and not known
unfoldable pub difference : List ObjectVersion → List ObjectVersion → List ObjectVersion
difference known wanted = filter (λ v. not (has_version known v)) wanted
