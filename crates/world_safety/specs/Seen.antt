-- what a world shows of one file: at each node its state, the records of it that are kept, and the bodies
use Rattle.std.specs.Prelude.{◌≡◌, ℕ, false, Option, Some, None, List, []}
use Rattle.xt_base.specs.declared.ids.FileId.{FileId}
use Rattle.xt_messages.specs.declared.record.Record.{Record}
use Rattle.xt_protocol.specs.FileIds.{is_file}
use Rattle.xt_protocol.specs.Folds.{fold_of, row_in, file_of}
use Rattle.xt_protocol.specs.FileStates.{FileState}
use Rattle.xt_protocol.specs.OsdSteps.{OsdState, file_at}
use Rattle.file_runs.specs.FileRuns.{FileNode, FileWorld}
use Rattle.world_spec.specs.World.{World, Node, Running, Core, osd, client, mrc, dir, node_in}
use Rattle.xt_protocol.specs.SeenBodies.{body_by}
use Rattle.world_runs.specs.View.{awake_as}

-- what a running OSD has of a file
abbrev pub file_seen : FileId → OsdState → FileState
file_seen file s = file_at (awake_as s.started) s.files file

-- all others than OSDs are as if they didn't run
abbrev pub core_state : FileId → Core → Option FileState
core_state file (osd s) = Some (file_seen file s)
core_state file (client c) = None
core_state file (mrc m) = None
core_state file (dir s) = None

abbrev pub up_state : FileId → Option Running → Option FileState
up_state file None = None
up_state file (Some r) = core_state file r.core

-- a node of the file that keeps these records
abbrev pub kept_seen : FileId → List Record → Option FileState → FileNode
kept_seen file records state = record { state = state; kept = row_in (fold_of records).files file; body = body_by records file }

abbrev pub node_seen : FileId → Option Node → FileNode
node_seen file None = kept_seen file [] None
node_seen file (Some node) = kept_seen file node.kept (up_state file node.up)

-- the nodes of the file in a world
abbrev pub nodes_seen : FileId → World → ℕ → FileNode
nodes_seen file w n = node_seen file (node_in w.nodes n)

-- a world of the file alone has the nodes that a world shows of it
abbrev pub Sees : FileId → World → FileWorld → Type 0
Sees file w v = v.nodes ≡ nodes_seen file w

-- a record is of the file, if there is one
abbrev pub IsOf : FileId → Option Record → Type 0
IsOf file None = Unit {0}
IsOf file (Some rec) = file_of rec ≡ Some file

-- a record isn't of the file
abbrev pub IsElsewhere : FileId → Option FileId → Type 0
IsElsewhere file None = Unit {0}
IsElsewhere file (Some other) = is_file other file ≡ false

abbrev pub IsNotOf : FileId → Option Record → Type 0
IsNotOf file None = Unit {0}
IsNotOf file (Some rec) = IsElsewhere file (file_of rec)
