-- that nobody else leads where a step leaves the lease held
use Rattle.std.specs.Prelude.{◌≡◌, ◌⊎◌, ℕ, List}
use Rattle.xt_base.specs.declared.ids.FileId.{FileId}
use Rattle.xt_messages.specs.declared.message.Msg.{Msg}
use Rattle.xt_protocol.specs.LeaseRows.{lease_expired}
use Rattle.osd_invariants.specs.Sound.{IsHeld}
use Rattle.lease_runs.specs.LeaseView.{settled_row}
use Rattle.xt_protocol.specs.FileStates.{FileState, Site}
use Rattle.xt_protocol.specs.OsdSteps.{OsdState}
use Rattle.file_runs.specs.FileRuns.{Happening, step_on}
use Rattle.time_line.specs.Clauses.{AreApart}
use Rattle.world_spec.specs.World.{World, Node, Running}
use Rattle.world_runs.specs.Worlds.{IsInOrder, Leads}
use Rattle.world_safety.specs.Seen.{file_seen}
use Rattle.world_safety.specs.Events.{RunsAs}

-- A step that leaves the lease held found it held, once what is overdue had expired, or leaves it so that it isn't over yet.
abbrev pub WinsInTime : Type 0
WinsInTime =
    (site : Site) (s : FileState) (happens : Happening) → IsHeld (step_on site s happens).state.lease
    → IsHeld (settled_row site s).lease ⊎ IsHeld (lease_expired (step_on site s happens).state.lease site.now)

-- Nobody else leads a file whose lease a node holds and isn't over, where no two nodes hold it by the trace.
abbrev pub WinnersAreAlone : Type 0
WinnersAreAlone =
    (file : FileId) (w : World) (own : List Msg) (node : Node) (r : Running) (s : OsdState) → IsInOrder w own → AreApart file.number w.entries → RunsAs w node r s
    → IsHeld (lease_expired (file_seen file s).lease r.clock) → (m : ℕ) → Leads w file m → m ≡ node.id.0
