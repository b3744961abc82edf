-- what a world shows of one file's lease: its running OSDs, and the messages about it
use Rattle.std.specs.Prelude.{ℕ, Bool, true, false, Option, Some, None, List, [], ◌++◌, map, filter}
use Rattle.xt_base.specs.TimeSettings.{TimeSettings}
use Rattle.xt_base.specs.declared.ids.NodeId.{NodeId}
use Rattle.xt_base.specs.declared.ids.FileId.{FileId}
use Rattle.xt_messages.specs.declared.message.Msg.{Msg}
use Rattle.xt_messages.specs.declared.record.Record.{Record}
use Rattle.xt_protocol.specs.Folds.{fold_of}
use Rattle.xt_protocol.specs.LeaseRows.{Silent, Awake}
use Rattle.xt_protocol.specs.OsdSteps.{file_at}
use Rattle.time_line.specs.declared.entry.Entry.{Entry}
use Rattle.world_spec.specs.declared.Sent.{Sent}
use Rattle.time_line.specs.TimeLine.{RunningBoot, standing}
use Rattle.world_spec.specs.declared.Role.{Role}
use Rattle.world_spec.specs.declared.Role.TheVariants as role
use Rattle.world_spec.specs.World.{World, Node, Running, Core, osd, client, mrc, dir, node_in}
use Rattle.lease_runs.specs.LeaseWorld.{LeaseSetting, fresh_row, LeaseNode, LeaseWorld, lease_file}
use Rattle.lease_runs.specs.LeaseView.{lease_row_of, is_about}

-- the lease world of a file with these members
abbrev pub file_setting : TimeSettings → FileId → List NodeId → LeaseSetting
file_setting times file members = record { file = file; list = 1; members = members; times = times }

abbrev pub node_id : ℕ → NodeId
node_id n = record { 0 = n }

-- the end of the lease that a node held last since its start, as the trace reports it
abbrev pub end_in : Option RunningBoot → Option ℕ
end_in None = None
end_in (Some s) = s.end

abbrev pub told : ℕ → ℕ → List Entry → Option ℕ
told number n entries = end_in (standing (node_id n) number entries)

-- an OSD that started so, when it is awake
abbrev pub awake_as : Silent → Awake
awake_as s = record { node = s.node; boot = s.boot; times = s.times }

-- a node that isn't a running OSD: how far its boots have come, by its records
abbrev pub unseen : LeaseSetting → ℕ → List Record → LeaseNode
unseen g n kept = record { runs = false; boot = (fold_of kept).boot.0; clock = 0; started = 0; row = fresh_row g (node_id n) (record { 0 = 0 }); told = None }

-- a running node: only OSDs are seen
abbrev pub core_seen : LeaseSetting → ℕ → Option ℕ → List Record → Running → Core → LeaseNode
core_seen g n end kept r (osd s) =
    record {
      runs = true;
      boot = r.boot.0;
      clock = r.clock;
      started = s.started.start;
      row = lease_row_of (file_at (awake_as s.started) s.files g.file);
      told = end;
    }
core_seen g n end kept r (client c) = unseen g n kept
core_seen g n end kept r (mrc m) = unseen g n kept
core_seen g n end kept r (dir s) = unseen g n kept

abbrev pub up_seen : LeaseSetting → ℕ → Option ℕ → List Record → Option Running → LeaseNode
up_seen g n end kept None = unseen g n kept
up_seen g n end kept (Some r) = core_seen g n end kept r r.core

-- a declared node: one that isn't declared as an OSD is unseen, and without records
abbrev pub role_seen : LeaseSetting → ℕ → Option ℕ → Node → Role → LeaseNode
role_seen g n end node role.Osd = up_seen g n end node.kept node.up
role_seen g n end node _ = unseen g n []

abbrev pub node_seen : LeaseSetting → ℕ → Option ℕ → Option Node → LeaseNode
node_seen g n end None = unseen g n []
node_seen g n end (Some node) = role_seen g n end node node.role

-- the messages that were ever sent
abbrev pub messages : World → List Msg
messages w = map (λ (s : Sent). s.message) w.sent

abbrev pub is_of : FileId → Msg → Bool
is_of file m = is_about file (lease_file m.payload)

-- a world in the midst of a line, with the messages of a node to itself that it hasn't handled
abbrev pub lease_view : LeaseSetting → World → List Msg → LeaseWorld
lease_view g w own =
    record {
      node = λ n. node_seen g n (told g.file.number n w.entries) (node_in w.nodes n);
      sent = filter (is_of g.file) (own ++ messages w);
    }
