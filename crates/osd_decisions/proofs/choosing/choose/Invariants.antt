use Rattle.std.proofs.Common.{◌≡◌, ◌<◌, ◌-◌, get_or, take, drop}
use Rattle.std.specs.List.{best_of}
use Rattle.xt_base.specs.declared.ids.NodeId.{NodeId}
use Rattle.xt_messages.specs.declared.file.FileHead.{FileHead}
use Rattle.xt_protocol.specs.Choice.{is_better}
use Rattle.osd_decisions.proofs.choosing.choose.Given as goal

-- the best of the reports so far stands at the place
abbrev pub invariant-loop-place : goal.invariant-loop-place
invariant-loop-place l =
    (l.best < l.place)
    × ((d : NodeId × FileHead) → get_or l.reports l.best d ≡ best_of (is_better l.own) (get_or l.reports 0 d) (take (l.place - 1) (drop 1 l.reports)))
